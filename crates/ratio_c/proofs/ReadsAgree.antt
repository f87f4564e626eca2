-- Totals with the same numerators read alike.
use Rattle.std.specs.Prelude.{◌≡◌, ◌<◌, ◌<ℤ◌, ℕ, ℤ, zero, suc, pos, negsuc, Option, Some, None}
use Rattle.std.proofs.Common.{ap, arith, refl, sym, ◌∙◌}
use Rattle.std.proofs.lemmas.Int.{ints}
use Rattle.ratio_integer.specs.Fraction.{ChecksLowest, Fits, IsHeldLowest}
use Rattle.ratio_integer.specs.SignedBits.{greatest64, least64}
use Rattle.ratio_integer.proofs.LowestTerms.{held_lowest_moved, lowest_unique}
use Rattle.ratio_slots.proofs.LowestSumLemmas.{divided_same, nonzero, product_positive}
use Rattle.ratio_slots.proofs.MergeSums.{sum_positive}
use Rattle.ratio_slots.proofs.SignLemmas.{same_sign}
use Rattle.ratio_slots.proofs.SumsAgree.{sums_agree}
use Rattle.ratio_slots.specs.Common.{above_zero}
use Rattle.ratio_slots.specs.LowestSum.{mean_of_slots}
use Rattle.ratio_slots.specs.Sums.{SameSum, sum_of_slots}
use Rattle.ratio_c.specs.Crossing.{Said, said_of}
use Rattle.ratio_c.specs.TotalLaws.{MeansReadAlike, SignsAgree, SumsReadAlike}
use Rattle.ratio_c.specs.TotalReads.{SaysLowest}

pub fits_moved : (x y : ℤ × ℕ) → 0 < x.1 → SameSum x y → Fits least64 greatest64 y.0 (pos y.1) → Fits least64 greatest64 x.0 (pos x.1)
fits_moved x y some same fits = record {
  numer = fits.numer;
  denom = fits.denom;
  low = held_lowest_moved least64 greatest64 y.0 (pos y.1) x.0 (pos x.1) fits.numer fits.denom (nonzero _ some) same fits.low;
}

fits_by : (x : ℤ × ℕ) (a b : ℤ) → IsHeldLowest least64 greatest64 x.0 (pos x.1) a b → Fits least64 greatest64 x.0 (pos x.1)
fits_by x a b low = record { numer = a; denom = b; low = low }

one_result : (x y : ℤ × ℕ) (r s : Option (ℤ × ℤ)) → 0 < x.1 → 0 < y.1 → SameSum x y
    → ChecksLowest (λ z. z.0) (λ z. z.1) least64 greatest64 (x.0, pos x.1) r → ChecksLowest (λ z. z.0) (λ z. z.1) least64 greatest64 (y.0, pos y.1) s → r ≡ s
one_result x y None None some other same first second = refl
one_result x y None (Some t) some other same first second = absurd (first (fits_moved x y some same (fits_by y t.0 t.1 second)))
one_result x y (Some t) None some other same first second = absurd (second (fits_moved y x other (sym same) (fits_by x t.0 t.1 first)))
one_result x y (Some t) (Some u) some other same first second =
    let moved = held_lowest_moved least64 greatest64 y.0 (pos y.1) x.0 (pos x.1) u.0 u.1 (nonzero _ some) same second in
    let both = lowest_unique x.0 (pos x.1) t.0 t.1 u.0 u.1 first.terms moved.terms in
    ap (λ (p : ℤ). Some (p, t.1)) both.0 ∙ ap (λ (q : ℤ). Some (u.0, q)) both.1

said_alike : (x y : ℤ × ℕ) (first second : Said) → 0 < x.1 → 0 < y.1 → SameSum x y → SaysLowest x first → SaysLowest y second → first ≡ second
said_alike x y first second some other same one two =
    one.is_said ∙ ap said_of (one_result x y one.result two.result some other same one.is_result two.is_result) ∙ sym two.is_said

pub sums_read_alike : SumsReadAlike
sums_read_alike left right first second same one two =
    said_alike (sum_of_slots left) (sum_of_slots right) first second (sum_positive left) (sum_positive right) (sums_agree left right same) one two

pub above : (count : ℤ) → pos 0 <ℤ count → 0 < above_zero count
above (pos zero) positive = absurd (omega (arith, ints, positive))
above (pos (suc n)) positive = omega arith
above (negsuc n) positive = absurd (omega (arith, ints, positive))

pub means_read_alike : MeansReadAlike
means_read_alike left right count first second same positive one two =
    said_alike (mean_of_slots left count) (mean_of_slots right count) first second
    (product_positive (sum_of_slots left).1 (above_zero count) (sum_positive left) (above count positive))
    (product_positive (sum_of_slots right).1 (above_zero count) (sum_positive right) (above count positive))
    (divided_same (sum_of_slots left) (sum_of_slots right) (above_zero count) (sums_agree left right same)) one two

pub signs_agree : SignsAgree
signs_agree left right same =
    same_sign (sum_of_slots left).0 (sum_of_slots right).0 (sum_of_slots left).1 (sum_of_slots right).1 (sum_positive left) (sum_positive right) (sums_agree left right same)
