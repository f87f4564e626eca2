-- Written by templates/write from templates/checked_sums_answers.antt.txt: change that file, and write this one anew.
use Rattle.std.specs.Prelude.{◌≡◌, ◌+ℤ◌, false, true}
use Rattle.std.proofs.Common.{rules, sym}
use Rattle.ratio_integer.proofs.Whole.{add-mul}
use Rattle.ratio_core.proofs.SumLemmas.{exact_answer, fits_by, formed_held, formed_lowest, formed_of_equals}
use Rattle.ratio_core.proofs.sums.checked_add.Goals as goal

pub returns-in_err-left : goal.returns-in_err-left
returns-in_err-left g c =
    let scaled : g.T.Integer.EXACT_SUMS ≡ false = search rules in
    rw (scaled, c.from_residual.ensures) (λ formed. c.in_err-left.ensures (record { common = formed.common; left = formed.left; right = formed.right; held = formed.held }))

pub returns-in_err-sum : goal.returns-in_err-sum
returns-in_err-sum g c =
    let scaled : g.T.Integer.EXACT_SUMS ≡ false = search rules in
    rw (scaled, c.from_residual-in_err-sum.ensures) (λ formed. c.in_err-sum.ensures (formed_held (λ x y. x +ℤ y) add-mul _ _ _ _ _ _ c.requires.left_positive c.requires.right_positive _ _ _ _ _ _ c.in_ok-left.ensures.scaled formed.held.scaled formed.sum_held))

pub lowest_terms-requires : goal.lowest_terms-requires
lowest_terms-requires g c = let scaled = c.in_ok-left.ensures in scaled.scaled.least.positive

pub returns-then-not-EXACT_SUMS : goal.returns-then-not-EXACT_SUMS
returns-then-not-EXACT_SUMS g c =
    let scaled : g.T.Integer.EXACT_SUMS ≡ false = search rules in
    let common = c.in_ok-left.ensures in
    let low = formed_lowest (λ x y. x +ℤ y) add-mul _ _ _ _ _ _ c.requires.left_positive c.requires.right_positive _ _ _ _ _ _ common.scaled c.in_ok-sum.ensures.1 c.lowest_terms.ensures in
    rw scaled (record { common = _; left = _; right = _; held = common; sum_held = c.in_ok-sum.ensures.0 }, low)

pub returns : goal.returns
returns g c =
    let exact : g.T.Integer.EXACT_SUMS ≡ true = search rules in
    let equal = (g.met.T.Integer.eq_law c.args.b c.args.d).0 (sym c.if-eq.ensures) in
    let low = formed_of_equals (λ x y. x +ℤ y) add-mul _ _ _ _ _ _ c.requires.left_positive c.requires.right_positive equal _ _ _ c.in-Some.ensures.1 c.lowest_terms-2.ensures in
    (rw exact (fits_by _ _ _ _ _ _ low), low)

pub returns-2 : goal.returns-2
returns-2 g c =
    let v = g.T.Integer.value in
    let exact : g.T.Integer.EXACT_SUMS ≡ true = search rules in
    rw exact (exact_answer (λ r. v r.0) (λ r. v r.1) _ _ _ _ c.exact_sum.result (rw exact at c.exact_sum.ensures.exact))
