use Rattle.std.specs.Prelude.{pos, ◌+◌, ◌-◌, ◌*◌, ◌^◌, ◌≤◌}
use Rattle.std.specs.Str.Parse.{AllDigits, digits_value_after}
use Rattle.std.proofs.Common.{arith, refl, length, subst, sym, ap, ◌∙◌}
use Rattle.ratio_integer.proofs.LowestTerms.{over_one}
use Rattle.ratio_decimal.specs.DecimalCuts.{IsFine, IsPartTerms}
use Rattle.ratio_core.specs.Reading.{digits_sum}
use Rattle.ratio_decimal.proofs.DecimalValues.{all_cut, left_all_fine, left_behind_fine, left_more_fine, left_number_wide, left_terms, left_zeros}
use Rattle.ratio_decimal.proofs.reading.value.point_moved_left.Goals as goal

pub digits_before-requires-clause-lowest : goal.digits_before-requires-clause-lowest
digits_before-requires-clause-lowest c = over_one (pos 0) (pos 1) refl

pub returns-in_err-behind : goal.returns-in_err-behind
returns-in_err-behind c = rw c.from_residual.ensures (left_behind_fine c.args.whole.now c.args.part.now c.args.tens c.in_err-behind.ensures)

pub number_after-requires : goal.number_after-requires
number_after-requires c = subst (AllDigits 10) (sym c.split_at.ensures.front) (all_cut c.args.whole.now (length c.args.whole.now - c.args.tens) c.requires.whole).0

pub returns-in_err-number : goal.returns-in_err-number
returns-in_err-number c =
    let wide = c.in_err-number.ensures in
    rw c.from_residual-in_err-number.ensures (left_number_wide c.args.whole.now c.args.part.now c.args.tens (length c.args.whole.now - c.args.tens) (omega (arith, c.if-tens-whole.true))
    (subst (λ xs. 2 ^ 128 ≤ digits_value_after 10 0 xs) c.split_at.ensures.front wide))

pub digits_before-requires-then-tens-whole-clause-digits : goal.digits_before-requires-then-tens-whole-clause-digits
digits_before-requires-then-tens-whole-clause-digits c = subst (AllDigits 10) (sym c.split_at.ensures.back) (all_cut c.args.whole.now (length c.args.whole.now - c.args.tens) c.requires.whole).1

pub returns-in_err-more : goal.returns-in_err-more
returns-in_err-more c =
    let p = c.in_ok-behind.behind.numer in
    let q = c.in_ok-behind.behind.denom in
    let fine = c.in_err-more.ensures in
    rw c.from_residual-in_err-more.ensures (left_more_fine c.args.whole.now c.args.part.now c.args.tens (length c.args.whole.now - c.args.tens) p q (omega (arith, c.if-tens-whole.true)) c.in_ok-behind.ensures
    (subst (λ xs. IsFine (digits_sum 10 xs * q + p) (10 ^ length xs * q)) c.split_at.ensures.back fine))

pub returns-in_err-all : goal.returns-in_err-all
returns-in_err-all c =
    rw c.from_residual-in_err-all.ensures (left_all_fine c.args.whole.now c.args.part.now c.args.tens c.in_ok-behind.behind.numer c.in_ok-behind.behind.denom c.if-tens-whole.false c.in_ok-behind.ensures c.in_err-all.ensures)

pub returns-in_ok-more : goal.returns-in_ok-more
returns-in_ok-more c =
    let p = c.in_ok-behind.behind.numer in
    let q = c.in_ok-behind.behind.denom in
    let u = c.in_ok-more.more.numer in
    let v = c.in_ok-more.more.denom in
    let more = c.in_ok-more.ensures in
    left_terms c.args.whole.now c.args.part.now c.args.tens (length c.args.whole.now - c.args.tens) c.in_ok-number.number p q u v c.whole_before.result (omega (arith, c.if-tens-whole.true))
    (c.in_ok-number.ensures ∙ ap (digits_value_after 10 0) c.split_at.ensures.front) c.in_ok-behind.ensures
    (subst (λ xs. IsPartTerms (digits_sum 10 xs * q + p) (10 ^ length xs * q) u v) c.split_at.ensures.back more) c.whole_before.ensures

pub returns-in_ok-all : goal.returns-in_ok-all
returns-in_ok-all c =
    left_zeros c.args.whole.now c.args.part.now c.args.tens c.in_ok-behind.behind.numer c.in_ok-behind.behind.denom c.in_ok-all.all.numer c.in_ok-all.all.denom c.zeros_before.result c.if-tens-whole.false c.in_ok-behind.ensures
    c.in_ok-all.ensures c.zeros_before.ensures
