-- The laws of fractions in lowest terms, from those of pairs.
use Rattle.std.specs.Prelude.{◌≡◌, ◌≢◌, ◌*ℤ◌, ℤ, pos, true, Option, None, Some}
use Rattle.std.proofs.Common.{◌∙◌, sym, ap, subst}
use Rattle.ratio_integer.specs.Fraction.{IsLowestTermsOf}
use Rattle.ratio_integer.specs.Range.{IsHeld, IsRange}
use Rattle.ratio_integer.proofs.LowestTerms.{checks_lowest_moved, lowest_exist, lowest_same, lowest_unique, same_value_chained, same_value_products, same_value_turned}
use Rattle.ratio_integer.proofs.Whole.{mul_nonzero, positive_nonzero}
use Rattle.ratio_core.specs.Power.{power_of}
use Rattle.ratio_core.proofs.CancellingLemmas.{one_held}
use Rattle.ratio_core.proofs.LawLemmas.{products_associate, products_commute, products_distribute, sums_associate, sums_commute}
use Rattle.ratio_core.proofs.PowerLawLemmas.{pairs_add, parts_add_up, parts_are_answered, reciprocals_invert}
use Rattle.num_rational.specs.declared.reduced.Reduced.{Reduced}
use Rattle.num_rational.specs.Operators.{numbers}
use Rattle.num_rational.specs.Ratio.{ChecksRatio, denominator, numerator}
use Rattle.num_rational.specs.Reduced.{ratio_in}
use Rattle.ratio_laws.specs.ReducedLaws.{AddsExponents, AreOneAnswer, AssociatesInProduct, AssociatesInSum, CommutesInProduct, CommutesInSum, DistributesOverSum, IsInvertedByReciprocal, IsSumOfParts}
use Rattle.ratio_laws.proofs.ResultLemmas.{product_nonzero, same_answers}

-- ---- one result

pub one_pair : (x y : ℤ × ℤ) → (x.0 ≡ y.0) × (x.1 ≡ y.1) → x ≡ y
one_pair x y same = ap (λ (t : ℤ). (t, x.1)) same.0 ∙ ap (λ (t : ℤ). (y.0, t)) same.1

pub both_fields : (x y : ℤ × ℤ) → x ≡ y → (x.0 ≡ y.0) × (x.1 ≡ y.1)
both_fields x y same = (ap (λ (p : ℤ × ℤ). p.0) same, ap (λ (p : ℤ × ℤ). p.1) same)

one_answer_turned : {T : _} {i : _} {o : _} {e : _} {p : _} {h : _} (x y : Option (Reduced T i o e p h)) → AreOneAnswer x y → AreOneAnswer y x
one_answer_turned None None same = tt
one_answer_turned (Some x) (Some y) same = (sym same.0, sym same.1)
one_answer_turned None (Some y) same = same
one_answer_turned (Some x) None same = same

-- if the lowest terms of a pair can only be z, the result is `Some` of z
one_answer : {T : _} {i : _} {o : _} {e : _} {p : _} {h : _} (n d : ℤ) (z : Reduced T i o e p h) (answer : Option (Reduced T i o e p h))
    → d ≢ pos 0 → ((w : ℤ × ℤ) → IsLowestTermsOf n d w.0 w.1 → w ≡ numbers z.ratio)
    → IsHeld i.lo i.hi (numerator z.ratio) → IsHeld i.lo i.hi (denominator z.ratio) → ChecksRatio (n, d) (ratio_in answer) → AreOneAnswer answer (Some z)
one_answer n d z (Some a) fraction only numer denom told = both_fields (numbers a.ratio) (numbers z.ratio) (only (numbers a.ratio) told.terms)
one_answer n d z None fraction only numer denom told =
    let found = lowest_exist n d fraction in
    let terms = subst (λ (w : ℤ × ℤ). IsLowestTermsOf n d w.0 w.1) (only (found.numer, found.denom) found.terms) found.terms in
    absurd (told (record {
      numer = numerator z.ratio;
      denom = denominator z.ratio;
      low = record { terms = terms; numer_held = numer; denom_held = denom };
    }))

-- ---- sums

pub commutes_in_sum : {T : _} {i : _} {o : _} {e : _} {p : _} {h : _} (x y : Reduced T i o e p h) → CommutesInSum x y
commutes_in_sum x y None None first second = tt
commutes_in_sum x y (Some a) right first second =
    one_answer_turned right (Some a) (one_answer _ _ a right (product_nonzero y x)
    (λ w terms. sym (sums_commute (numbers x.ratio) (numbers y.ratio) (numbers a.ratio) w first.terms terms)) first.numer_held first.denom_held second)
commutes_in_sum x y None (Some b) first second =
    one_answer _ _ b None (product_nonzero x y)
    (λ w terms. sums_commute (numbers x.ratio) (numbers y.ratio) w (numbers b.ratio) terms second.terms) second.numer_held second.denom_held first

pub associates_in_sum : {T : _} {i : _} {o : _} {e : _} {p : _} {h : _} (x y z : Reduced T i o e p h) → AssociatesInSum x y z
associates_in_sum x y z xy yz None None first second third fourth = tt
associates_in_sum x y z xy yz (Some a) right first second third fourth =
    one_answer_turned right (Some a) (one_answer _ _ a right (product_nonzero x yz)
    (λ w terms. sym (sums_associate (numbers x.ratio) (numbers y.ratio) (numbers z.ratio) (numbers xy.ratio) (numbers yz.ratio) (numbers a.ratio) w first.terms third.terms second.terms terms))
    third.numer_held third.denom_held fourth)
associates_in_sum x y z xy yz None (Some b) first second third fourth =
    one_answer _ _ b None (product_nonzero xy z)
    (λ w terms. sums_associate (numbers x.ratio) (numbers y.ratio) (numbers z.ratio) (numbers xy.ratio) (numbers yz.ratio) w (numbers b.ratio) first.terms terms second.terms fourth.terms)
    fourth.numer_held fourth.denom_held third

-- ---- products

pub commutes_in_product : {T : _} {i : _} {o : _} {e : _} {p : _} {h : _} (x y : Reduced T i o e p h) → CommutesInProduct x y
commutes_in_product x y None None first second = tt
commutes_in_product x y (Some a) right first second =
    one_answer_turned right (Some a) (one_answer _ _ a right (product_nonzero y x)
    (λ w terms. sym (products_commute (numbers x.ratio) (numbers y.ratio) (numbers a.ratio) w first.terms terms)) first.numer_held first.denom_held second)
commutes_in_product x y None (Some b) first second =
    one_answer _ _ b None (product_nonzero x y)
    (λ w terms. products_commute (numbers x.ratio) (numbers y.ratio) w (numbers b.ratio) terms second.terms) second.numer_held second.denom_held first

pub associates_in_product : {T : _} {i : _} {o : _} {e : _} {p : _} {h : _} (x y z : Reduced T i o e p h) → AssociatesInProduct x y z
associates_in_product x y z xy yz None None first second third fourth = tt
associates_in_product x y z xy yz (Some a) right first second third fourth =
    one_answer_turned right (Some a) (one_answer _ _ a right (product_nonzero x yz)
    (λ w terms. sym (products_associate (numbers x.ratio) (numbers y.ratio) (numbers z.ratio) (numbers xy.ratio) (numbers yz.ratio) (numbers a.ratio) w first.terms third.terms second.terms terms))
    third.numer_held third.denom_held fourth)
associates_in_product x y z xy yz None (Some b) first second third fourth =
    one_answer _ _ b None (product_nonzero xy z)
    (λ w terms. products_associate (numbers x.ratio) (numbers y.ratio) (numbers z.ratio) (numbers xy.ratio) (numbers yz.ratio) w (numbers b.ratio) first.terms terms second.terms fourth.terms)
    fourth.numer_held fourth.denom_held third

pub distributes_over_sum : {T : _} {i : _} {o : _} {e : _} {p : _} {h : _} (x y z : Reduced T i o e p h) → DistributesOverSum x y z
distributes_over_sum x y z yz xy xz sum product parts first second whole told =
    one_answer _ _ sum product (product_nonzero x yz)
    (λ w terms. products_distribute (numbers x.ratio) (numbers y.ratio) (numbers z.ratio) (numbers yz.ratio) w (numbers xy.ratio) (numbers xz.ratio) (numbers sum.ratio) parts.terms terms first.terms second.terms whole.terms)
    whole.numer_held whole.denom_held told

-- ---- powers and reciprocals

pub adds_exponents : {T : _} {i : _} {o : _} {e : _} {p : _} {h : _} (x : Reduced T i o e p h) → AddsExponents x
adds_exponents {i = i} x first second left right product whole by_first by_second by_both told =
    let n = numerator x.ratio in
    let d = denominator x.ratio in
    let a = power_of n d first in
    let b = power_of n d second in
    let added = pairs_add n d first second (positive_nonzero d x.lowest.positive) by_first.terms.fraction by_second.terms.fraction in
    let same = same_value_chained _ _ (a.0 *ℤ b.0) (a.1 *ℤ b.1) _ _
    (mul_nonzero a.1 b.1 by_first.terms.fraction by_second.terms.fraction)
    (same_value_turned (a.0 *ℤ b.0) (a.1 *ℤ b.1) _ _ added.same)
    (same_value_products a.0 a.1 b.0 b.1 _ _ _ _ by_first.terms.same by_second.terms.same) in
    same_answers _ _ product whole
    (checks_lowest_moved numerator denominator i.lo i.hi _ _ _ _ (ratio_in product) (product_nonzero left right) added.exists same told) by_both

pub is_inverted_by_reciprocal : {T : _} {i : _} {o : _} {e : _} {p : _} {h : _} (x : Reduced T i o e p h) → IsRange i.lo i.hi → IsInvertedByReciprocal x
is_inverted_by_reciprocal {i = i} x range one r product whole turned told =
    let terms = reciprocals_invert (numerator x.ratio) (denominator x.ratio) (numerator r.ratio) (denominator r.ratio) x.lowest.positive turned.0.nonzero turned.1 in
    one_answer _ _ one product (product_nonzero x r)
    (λ w other. let same = lowest_unique _ _ w.0 w.1 (pos 1) (pos 1) other terms in one_pair w (numbers one.ratio) (same.0 ∙ sym whole.0, same.1 ∙ sym whole.1))
    (one_held i.lo i.hi (numerator one.ratio) range whole.0) (one_held i.lo i.hi (denominator one.ratio) range whole.1) told

-- ---- the two parts

pub is_sum_of_parts : {T : _} {i : _} {o : _} {e : _} {p : _} {h : _} (x : Reduced T i o e p h)
    → IsRange i.lo i.hi → IsHeld i.lo i.hi (numerator x.ratio) → IsHeld i.lo i.hi (denominator x.ratio) → IsSumOfParts x
is_sum_of_parts x range numer denom whole part (Some s) cut one rest same told =
    let sum = rw (one, same) at told.terms in
    let equal = parts_add_up (numerator x.ratio) (denominator x.ratio) (numerator whole.ratio) (numerator part.ratio) (numbers s.ratio) x.lowest.positive cut rest sum in
    lowest_same (numerator s.ratio) (denominator s.ratio) (numerator x.ratio) (denominator x.ratio) s.lowest x.lowest (same_value_turned (numerator x.ratio) (denominator x.ratio) (numerator s.ratio) (denominator s.ratio) equal)
is_sum_of_parts {i = i} x range numer denom whole part None cut one rest same told =
    let refused = rw (one, same) at told in
    refused (parts_are_answered true i.lo i.hi (numerator x.ratio) (denominator x.ratio) (numerator whole.ratio) (numerator part.ratio) range numer denom x.lowest.positive cut rest)
