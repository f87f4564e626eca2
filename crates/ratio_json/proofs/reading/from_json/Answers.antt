use Rattle.std.proofs.Common.{rules}
use Rattle.serde_json.specs.View.{view}
use Rattle.num_rational.proofs.JsonLemmas.{has_two, two_list}
use Rattle.ratio_big.proofs.RefusalLemmas.{on_refusal}
use Rattle.ratio_json.proofs.WholeLemmas.{reads_list}
use Rattle.ratio_json.proofs.reading.from_json.Goals as goal

pub returns-then-len-ne2-clause-read : goal.returns-then-len-ne2-clause-read
returns-then-len-ne2-clause-read c = λ a b e.
    let two = has_two (view c.args.value.now) a b c.in-Some.items.now.items c.in-Some.ensures e in search rules

pub returns-in_err-fraction-clause-memory : goal.returns-in_err-fraction-clause-memory
returns-in_err-fraction-clause-memory c =
    let x = c.index-numer.result.now in
    let y = c.index-denom.result.now in
    let v = view c.args.value.now in
    on_refusal c.from_residual.result
    (reads_list v (view x) (view y) (two_list v c.in-Some.items.now.items x y c.in-Some.ensures (search rules) c.index-numer.ensures c.index-denom.ensures) c.in_err-fraction.ensures.memory)
