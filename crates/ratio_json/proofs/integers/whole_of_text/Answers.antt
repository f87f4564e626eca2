use Rattle.std.proofs.Common.{◌-◌, ◌^◌, lit≤}
use Rattle.ratio_big.proofs.RefusalLemmas.{on_refusal}
use Rattle.ratio_json.proofs.WholeLemmas.{not_refused, not_zero, text_read}
use Rattle.ratio_json.proofs.integers.whole_of_text.Goals as goal

pub returns-in_err-number-clause-memory : goal.returns-in_err-number-clause-memory
returns-in_err-number-clause-memory c =
    let has = c.requires in
    on_refusal c.from_residual.result (has.0, has.1, not_zero (2 ^ 63 - 1) c.args.text.now has.0 (lit≤ tt) has.1 c.in_err-number.ensures.memory)

pub unreachable-requires : goal.unreachable-requires
unreachable-requires c = not_refused c.args.text.now c.requires c.in-Err.field-0 (rw c.in-Err.is at c.in_ok-number.ensures.read)

pub returns-clause-value : goal.returns-clause-value
returns-clause-value c = text_read c.args.text.now c.in-Ok.number c.requires (rw c.in-Ok.is at c.in_ok-number.ensures.read)
