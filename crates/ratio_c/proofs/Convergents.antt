-- The convergents of a fraction are those of its lowest terms.
use Rattle.std.specs.Prelude.{◌≡◌, ◌≢◌, ℕ, ℤ, pos, List, Option, slice_get}
use Rattle.std.proofs.Common.{subst}
use Rattle.ratio_integer.specs.Fraction.{IsLowestTermsOf, SameValue}
use Rattle.ratio_integer.proofs.Whole.{positive_nonzero}
use Rattle.ratio_core.specs.ContinuedFraction.{IsPartialQuotients}
use Rattle.ratio_core.proofs.Quotients.{quotients_exist}
use Rattle.ratio_core.proofs.SameValues.{cross_equal, quotients_of_value}
use Rattle.num_rational.specs.ContinuedFractions.{AreConvergents}
use Rattle.ratio_c.specs.Calls.{ChecksConvergent}

same_convergents : (n d a b : ℤ) (list : List (ℤ × ℤ)) → d ≢ pos 0 → b ≢ pos 0 → SameValue n d a b → AreConvergents a b list → AreConvergents n d list
same_convergents n d a b list some other same of_lowest =
    let own = quotients_exist n d some in
    let quotients = quotients_of_value n d a b own.list of_lowest.quotients own.are of_lowest.are ((cross_equal n d a b some other).1 same) in
    record { quotients = of_lowest.quotients; are = subst (IsPartialQuotients n d) quotients own.are; list_is = of_lowest.list_is }

-- the convergent of n/d at a place is that of its lowest terms
pub convergent_at : (n d a b : ℤ) (list : List (ℤ × ℤ)) (place : ℕ) (result : Option (ℤ × ℤ)) → IsLowestTermsOf n d a b → AreConvergents a b list → result ≡ slice_get list place
    → ChecksConvergent (n, d) place result
convergent_at n d a b list place result terms of_lowest at =
    record { convergents = list; are = same_convergents n d a b list terms.fraction (positive_nonzero b terms.lowest.positive) terms.same of_lowest; is = at }
