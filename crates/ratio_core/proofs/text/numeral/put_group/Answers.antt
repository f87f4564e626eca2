use Rattle.std.proofs.Common.{◌≡◌, ◌+◌, ◌-◌, ◌*◌, ◌^◌, ◌++◌, append-nil, ap, sym, ◌∙◌, arith}
use Rattle.std.proofs.lemmas.List.{drop_all}
use Rattle.std.specs.Prelude.{map, suc}
use Rattle.std.specs.Fmt.{digit_glyph}
use Rattle.std.specs.Int.Digits.{digits_of}
use Rattle.ratio_core.proofs.Numerals.{less_left, next_in_group, whole_group}
use Rattle.ratio_core.proofs.text.numeral.put_group.Goals as goal

pub digits-init : goal.digits-init
digits-init c = record { whole = λ high some. ap (λ xs. map (digit_glyph c.args.upper) (digits_of c.args.base (high * c.args.base ^ 16 + c.args.n)) ++ xs) (drop_all 16 c.args.buf.now (omega (arith, c.requires.room))) ∙ append-nil _; small = c.requires.small; before = omega arith }

pub digits-preserved : goal.digits-preserved
digits-preserved c =
    let l = c.digits in
    let i = l.invariant in
    let back : suc (l.at - 1) ≡ l.at = omega (arith, c.digits-test.true) in
    record {
      whole = λ high some. rw c.glyph.ensures (next_in_group c.args.base high l.left l.at c.args.upper l.buf c.requires.low some (omega (arith, c.digits-test.true)) (omega (arith, c.requires.room, l.auto.buf, i.before)) ∙ i.whole high some);
      small = less_left c.args.base (l.at - 1) l.left c.requires.low (rw back i.small);
      before = omega (arith, i.before);
    }

pub returns : goal.returns
returns c =
    let l = c.digits in
    record { written = λ high some. sym (l.invariant.whole high some) ∙ whole_group c.args.base high l.left l.at c.args.upper l.buf (omega (arith, c.digits-test.false)) l.invariant.small }
