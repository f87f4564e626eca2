use Rattle.std.specs.Prelude.{pos, ◌+◌, ◌*◌, ◌^◌, ◌≤◌}
use Rattle.std.specs.Str.Parse.{AllDigits, digits_value_after}
use Rattle.std.proofs.Common.{refl, length, subst, sym, ap, ◌∙◌}
use Rattle.ratio_integer.proofs.LowestTerms.{over_one}
use Rattle.ratio_decimal.specs.DecimalCuts.{IsFine, IsPartTerms}
use Rattle.ratio_core.specs.Reading.{digits_sum}
use Rattle.ratio_decimal.proofs.DecimalValues.{all_cut, joined, right_all_wide, right_fine, right_first_wide, right_number_wide, right_terms, right_zeros, right_zeros_wide}
use Rattle.ratio_decimal.proofs.reading.value.point_moved_right.Goals as goal

pub returns-in_err-first : goal.returns-in_err-first
returns-in_err-first c = rw c.from_residual.ensures (right_first_wide c.args.whole.now c.args.part.now c.args.tens c.in_err-first.ensures)

pub number_after-requires-then-tens-part : goal.number_after-requires-then-tens-part
number_after-requires-then-tens-part c = subst (AllDigits 10) (sym c.split_at.ensures.front) (all_cut c.args.part.now c.args.tens c.requires.part).0

pub returns-in_err-number : goal.returns-in_err-number
returns-in_err-number c =
    let wide = c.in_err-number.ensures in
    rw c.from_residual-in_err-number.ensures (right_number_wide c.args.whole.now c.args.part.now c.args.tens c.in_ok-first.first c.if-tens-part.true c.in_ok-first.ensures
    (subst (λ xs. 2 ^ 128 ≤ digits_value_after 10 c.in_ok-first.first xs) c.split_at.ensures.front wide))

pub digits_before-requires-clause-digits : goal.digits_before-requires-clause-digits
digits_before-requires-clause-digits c = subst (AllDigits 10) (sym c.split_at.ensures.back) (all_cut c.args.part.now c.args.tens c.requires.part).1

pub digits_before-requires-clause-lowest : goal.digits_before-requires-clause-lowest
digits_before-requires-clause-lowest c = over_one (pos 0) (pos 1) refl

pub returns-in_err-behind : goal.returns-in_err-behind
returns-in_err-behind c =
    let fine = c.in_err-behind.ensures in
    rw c.from_residual-in_err-behind.ensures (right_fine c.args.whole.now c.args.part.now c.args.tens c.in_ok-first.first c.if-tens-part.true c.in_ok-first.ensures
    (subst (λ xs. IsFine (digits_sum 10 xs * 1 + 0) (10 ^ length xs * 1)) c.split_at.ensures.back fine))

pub returns-in_err-all : goal.returns-in_err-all
returns-in_err-all c = rw c.from_residual-in_err-all.ensures (right_all_wide c.args.whole.now c.args.part.now c.args.tens c.in_ok-first.first c.if-tens-part.false c.in_ok-first.ensures c.in_err-all.ensures)

pub returns-in_err-numer : goal.returns-in_err-numer
returns-in_err-numer c =
    rw c.from_residual-in_err-numer.ensures (right_zeros_wide c.args.whole.now c.args.part.now c.args.tens c.in_ok-all.all c.if-tens-part.false
    (c.in_ok-all.ensures ∙ joined c.args.whole.now c.args.part.now c.in_ok-first.first c.in_ok-first.ensures) c.in_err-numer.ensures)

pub returns-in_ok-behind : goal.returns-in_ok-behind
returns-in_ok-behind c =
    let behind = c.in_ok-behind.ensures in
    right_terms c.args.whole.now c.args.part.now c.args.tens c.in_ok-first.first c.in_ok-number.number c.in_ok-behind.behind.numer c.in_ok-behind.behind.denom c.whole_before.result c.if-tens-part.true c.in_ok-first.ensures
    (c.in_ok-number.ensures ∙ ap (digits_value_after 10 c.in_ok-first.first) c.split_at.ensures.front)
    (subst (λ xs. IsPartTerms (digits_sum 10 xs * 1 + 0) (10 ^ length xs * 1) c.in_ok-behind.behind.numer c.in_ok-behind.behind.denom) c.split_at.ensures.back behind) c.whole_before.ensures

pub returns-in_ok-numer : goal.returns-in_ok-numer
returns-in_ok-numer c =
    right_zeros c.args.whole.now c.args.part.now c.args.tens c.in_ok-all.all c.in_ok-numer.numer c.if-tens-part.false
    (c.in_ok-all.ensures ∙ joined c.args.whole.now c.args.part.now c.in_ok-first.first c.in_ok-first.ensures) c.in_ok-numer.ensures
