-- The nearest and the simplest fraction of a call: at most one, and none where the call refuses the numbers.
use Rattle.std.proofs.Common.{◌≡◌, ◌⊎◌, ◌+◌, ◌*◌, ◌<◌, ℕ, ℤ, zero, suc, pos, negsuc, refl, subst, ap, arith, inl, inr, ◌∙◌}
use Rattle.std.specs.Prelude.{◌≢◌, ◌<ℤ◌, ◌≤ℤ◌, ◌+ℤ◌, ◌*ℤ◌}
use Rattle.std.specs.Ordering.{ordering_reverse}
use Rattle.std.specs.declared.cmp.Ordering.{Ordering}
use Rattle.std.specs.declared.cmp.Ordering.TheVariants.{Less, Equal, Greater}
use Rattle.std.proofs.lemmas.Int.{ints}
use borrow.Author.Differences.{up, down}
use Rattle.ratio_integer.specs.Fraction.{IsLowestTerms}
use Rattle.ratio_integer.proofs.Whole.{positive_nonzero}
use Rattle.ratio_core.specs.Order.{cross_cmp}
use Rattle.ratio_core.proofs.CrossOrder.{cross_turned}
use Rattle.ratio_core.proofs.OrderLaws.{cross_lowest}
use Rattle.ratio_core.proofs.RoundingLawLemmas.{one_floor}
use Rattle.ratio_approximation.specs.Nearest.{IsNearest}
use Rattle.ratio_approximation.specs.Simplest.{IsBetween}
use Rattle.ratio_approximation.proofs.NearestLawLemmas.{nearest_unique}
use Rattle.ratio_approximation.proofs.Shares.{times_up}
use Rattle.ratio_approximation.proofs.SimplestEnclosing.{excess}
use Rattle.ratio_approximation.proofs.SimplestLawLemmas.{below_or, simplest_unique}
use Rattle.ratio_big.specs.Nearest.{IsNearestWithin}
use Rattle.ratio_big.specs.Simplest.{IsBelow, IsSimplestBetween}
use Rattle.ratio_expressions.proofs.DivisorLaws.{same_pair}

-- ---- the nearest one

pub nearest_one : (x most r q : ℤ × ℤ) → pos 0 <ℤ most.1 → IsNearestWithin x most r → IsNearestWithin x most q → r ≡ q
nearest_one x most r q most_up h g =
    let same : h.floor ≡ g.floor = one_floor most.0 most.1 h.floor g.floor most_up h.floored g.floored in
    same_pair r q (nearest_unique x.0 x.1 g.floor r.0 r.1 q.0 q.1 (subst (λ (f : ℤ). IsNearest x.0 x.1 f r.0 r.1) same h.nearest) g.nearest)

-- a bound below 1 has no room for a denominator
pub none_within : (x most r : ℤ × ℤ) → pos 0 <ℤ most.1 → IsNearestWithin x most r → most.0 <ℤ most.1 → ⊥
none_within x most r most_up h less =
    let one : pos 1 ≤ℤ h.floor = let positive = h.nearest.positive in let within = h.nearest.within in omega (arith, ints) in
    let most_times : (most.1 *ℤ pos 1) ≤ℤ (most.1 *ℤ h.floor) = times_up most.1 (pos 1) h.floor (omega (arith, ints)) one in
    let at_most = h.floored.at_most in
    omega (arith, ints)

-- ---- the simplest one

not_between : (n m a : ℤ) (d e b t h k : ℕ) → 0 < e → a *ℤ pos d ≡ n *ℤ pos b +ℤ pos (suc h) → m *ℤ pos b ≡ a *ℤ pos e +ℤ pos (suc k) → n *ℤ pos e ≡ m *ℤ pos d +ℤ pos t → ⊥
not_between n m a d zero b t h k e_up above below more = absurd (omega arith)
not_between n m a d (suc e) b t h k e_up above below more =
    let w : up a * d + down n * b ≡ down a * d + up n * b + suc h = omega (arith, ints) in
    let s : up m * b + down a * suc e ≡ down m * b + up a * suc e + suc k = omega (arith, ints) in
    let u : up n * suc e + down m * d ≡ down n * suc e + up m * d + t = omega (arith, ints) in
    omega (arith, ap (λ z. z * suc e) w, ap (λ z. z * d) s, ap (λ z. z * b) u)

-- where a fraction lies between two, the first of these is below the second
between_below : (n d m e a b : ℤ) → pos 0 <ℤ d → pos 0 <ℤ e → IsBetween n d m e a b → (n *ℤ e) <ℤ (m *ℤ d)
between_below n (negsuc d) m e a b d_up e_up is = absurd (omega (arith, ints))
between_below n (pos d) m (negsuc e) a b d_up e_up is = absurd (omega (arith, ints))
between_below n (pos d) m (pos e) a (negsuc b) d_up e_up is = absurd (let b_up = is.positive in omega (arith, ints))
between_below n (pos d) m (pos e) a (pos b) d_up e_up is =
    let above = excess (a *ℤ pos d) (n *ℤ pos b) is.above in
    let below = excess (m *ℤ pos b) (a *ℤ pos e) is.below in
    below_or _ _ (λ t more. not_between n m a d e b t above.0 below.0 (omega (arith, ints)) above.1 below.1 more)

one_order : (x y r q : ℤ × ℤ) → pos 0 <ℤ x.1 → pos 0 <ℤ y.1 → IsSimplestBetween x y r → IsSimplestBetween y x q → ⊥
one_order x y r q x_up y_up h g =
    let here : (x.0 *ℤ y.1) <ℤ (y.0 *ℤ x.1) = between_below x.0 x.1 y.0 y.1 r.0 r.1 x_up y_up h.between in
    let there : (y.0 *ℤ x.1) <ℤ (x.0 *ℤ y.1) = between_below y.0 y.1 x.0 x.1 q.0 q.1 y_up x_up g.between in
    omega (arith, ints)

pub between_one : (x y r q : ℤ × ℤ) → pos 0 <ℤ x.1 → pos 0 <ℤ y.1 → IsSimplestBetween x y r ⊎ IsSimplestBetween y x r → IsSimplestBetween x y q ⊎ IsSimplestBetween y x q → r ≡ q
between_one x y r q x_up y_up (inl h) (inl g) = same_pair r q (simplest_unique x.0 x.1 y.0 y.1 r.0 r.1 q.0 q.1 x_up y_up h g)
between_one x y r q x_up y_up (inl h) (inr g) = absurd (one_order x y r q x_up y_up h g)
between_one x y r q x_up y_up (inr h) (inl g) = absurd (one_order y x r q y_up x_up h g)
between_one x y r q x_up y_up (inr h) (inr g) = same_pair r q (simplest_unique y.0 y.1 x.0 x.1 r.0 r.1 q.0 q.1 y_up x_up h g)

none_inside : (x r : ℤ × ℤ) → IsSimplestBetween x x r → ⊥
none_inside x r h = let above = h.between.above in let below = h.between.below in omega (arith, ints)

-- nothing lies between equal numbers
pub none_between : (x y r : ℤ × ℤ) → x ≡ y → IsSimplestBetween x y r ⊎ IsSimplestBetween y x r → ⊥
none_between x y r same (inl h) = none_inside y r (subst (λ (z : ℤ × ℤ). IsSimplestBetween z y r) same h)
none_between x y r same (inr h) = none_inside y r (subst (λ (z : ℤ × ℤ). IsSimplestBetween y z r) same h)

neither : (o : Ordering) → o ≢ Less → ordering_reverse o ≢ Less → o ≡ Equal
neither Less here there = absurd (here refl)
neither Equal here there = refl
neither Greater here there = absurd (there refl)

-- numbers of which neither is below the other are equal
pub equal_numbers : (x y : ℤ × ℤ) → IsLowestTerms x.0 x.1 → IsLowestTerms y.0 y.1 → ¬ (IsBelow x y) → ¬ (IsBelow y x) → x ≡ y
equal_numbers x y x_low y_low here there =
    let turned = cross_turned y.0 y.1 x.0 x.1 (positive_nonzero y.1 y_low.positive) (positive_nonzero x.1 x_low.positive) in
    let equal = neither (cross_cmp x.0 x.1 y.0 y.1) here (λ e. there (turned ∙ e)) in
    same_pair x y ((cross_lowest x.0 x.1 y.0 y.1 x_low y_low).0 equal)
