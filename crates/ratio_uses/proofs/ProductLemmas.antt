-- The products of the teeth of two wheels: the greatest up to a bound and the least above it, one smaller wheel after the other.
use Rattle.std.specs.Prelude.{◌≡◌, ◌⊎◌, ◌+◌, ◌*◌, ◌/◌, ◌<◌, ◌≤◌, ℕ, max, min}
use Rattle.std.proofs.Common.{◌≢◌, ◌∙◌, refl, sym, subst, arith, inl, inr}
use Rattle.std.proofs.Math.Nat.{div-mul-le_self, lt-div-mul-add, mul-div_left, mul-le-mul, mul-le-mul_left, mul-le-mul_right, mul-lt-mul_of_pos_right, mul_comm}
use Rattle.std.proofs.lemmas.Nat.{le-div}
use Rattle.ratio_uses.specs.Gears.{IsWheel}
use Rattle.ratio_uses.specs.Trains.{AreWheelsOf, IsProductOfTwo}

pub product_at_least : (least most x : ℕ) → IsProductOfTwo least most x → least * least ≤ x
product_at_least least most x is =
    let more : least * least ≤ is.one * is.other = mul-le-mul is.one_wheel.at_least is.other_wheel.at_least in
    omega (arith, is.same)

pub product_at_most : (least most x : ℕ) → IsProductOfTwo least most x → x ≤ most * most
product_at_most least most x is =
    let less : is.one * is.other ≤ most * most = mul-le-mul is.one_wheel.at_most is.other_wheel.at_most in
    omega (arith, is.same)

pub product_up : (least most x : ℕ) → 0 < least → IsProductOfTwo least most x → 0 < x
product_up least most x up is =
    let low = product_at_least least most x is in
    let some : 0 * least < least * least = mul-lt-mul_of_pos_right up up in
    omega arith

pub product_of : (least most one other : ℕ) → IsWheel least most one → IsWheel least most other → IsProductOfTwo least most (one * other)
product_of least most one other one_in other_in = record { one = one; other = other; one_wheel = one_in; other_wheel = other_in; same = refl }

pub wheel_least : (least most : ℕ) → least ≤ most → IsWheel least most least
wheel_least least most range = record { at_least = omega arith; at_most = range }

pub wheel_most : (least most : ℕ) → least ≤ most → IsWheel least most most
wheel_most least most range = record { at_least = range; at_most = omega arith }

pub less_or_not : (x y : ℕ) → (x < y) ⊎ (y ≤ x)
less_or_not x y = grind arith

last_or_before : (next y : ℕ) → y < next + 1 → (y < next) ⊎ (y ≡ next)
last_or_before next y below = grind arith

-- ---- up to a bound

-- of all products up to the bound whose second wheel has fewer teeth than `next`, and the least product, this one is the greatest
pub record UpToSoFar (least most bound next best : ℕ) : Type 0 where
  pub of_two : IsProductOfTwo least most best
  pub up_to : best ≤ bound
  pub greatest : (x y : ℕ) → IsWheel least most x → IsWheel least most y → y < next → x * y ≤ bound → x * y ≤ best

-- the second wheel has `next` teeth
module _ (least most bound next best large : ℕ) (up : 0 < next) (next_in : IsWheel least most next) (large_is : large ≡ min (bound / next) most) (so_far : UpToSoFar least most bound next best) where
  up_to_large : (x : ℕ) → IsWheel least most x → x * next ≤ bound → x ≤ large
  up_to_large x x_in within = let part = le-div x bound next up within in let high = x_in.at_most in omega arith

  up_to_more : (more : ℕ) → best ≤ more → more ≤ bound → IsProductOfTwo least most more → ((x : ℕ) → IsWheel least most x → x * next ≤ bound → x * next ≤ more) → UpToSoFar least most bound (next + 1) more
  up_to_more more up_from within of_two each = record {
    of_two = of_two;
    up_to = within;
    greatest = λ x y x_in y_in before less. cases x y x_in y_in less (last_or_before next y before);
  }
    where
      cases : (x y : ℕ) → IsWheel least most x → IsWheel least most y → x * y ≤ bound → (y < next) ⊎ (y ≡ next) → x * y ≤ more
      cases x y x_in y_in less (inl before) = let old = so_far.greatest x y x_in y_in before less in omega arith
      cases x y x_in y_in less (inr same) = subst (λ t. x * t ≤ more) (sym same) (each x x_in (subst (λ t. x * t ≤ bound) same less))

  pub up_to_taken : (more : ℕ) → least ≤ large → more ≡ max best (large * next) → UpToSoFar least most bound (next + 1) more
  up_to_taken more low is = up_to_more more (omega arith) within (cases (less_or_not best (large * next))) (λ x x_in less. let part : x * next ≤ large * next = mul-le-mul_right next (up_to_large x x_in less) in omega arith)
    where
      within : more ≤ bound
      within =
          let old = so_far.up_to in
          let part : large * next ≤ bound / next * next = mul-le-mul_right next (omega arith) in
          let whole = div-mul-le_self bound next in
          omega arith

      cases : (best < large * next) ⊎ (large * next ≤ best) → IsProductOfTwo least most more
      cases (inl above) = subst (λ t. IsProductOfTwo least most t) (omega arith) (product_of least most large next (record { at_least = low; at_most = omega arith }) next_in)
      cases (inr not_above) = subst (λ t. IsProductOfTwo least most t) (omega arith) so_far.of_two

  pub up_to_kept : large < least → UpToSoFar least most bound (next + 1) best
  up_to_kept low = up_to_more best (omega arith) so_far.up_to so_far.of_two (λ x x_in less. let part = up_to_large x x_in less in absurd (let at_least = x_in.at_least in omega arith))

-- ---- above a bound

-- of all products above the bound whose second wheel has fewer teeth than `next`, and the greatest product, this one is the least
pub record AboveSoFar (least most bound next best : ℕ) : Type 0 where
  pub of_two : IsProductOfTwo least most best
  pub above : bound < best
  pub least_of_all : (x y : ℕ) → IsWheel least most x → IsWheel least most y → y < next → bound < x * y → best ≤ x * y

-- the second wheel has `next` teeth
module _ (least most bound next best large : ℕ) (up : 0 < next) (next_in : IsWheel least most next) (large_is : large ≡ max (bound / next + 1) least) (so_far : AboveSoFar least most bound next best) where
  above_large : (x : ℕ) → IsWheel least most x → bound < x * next → large ≤ x
  above_large x x_in past = let low = x_in.at_least in let part : bound / next < x = div-lt_of_lt-mul' in omega arith
    where
      div-lt_of_lt-mul' : bound / next < x
      div-lt_of_lt-mul' = cases (less_or_not (bound / next) x)
        where
          cases : (bound / next < x) ⊎ (x ≤ bound / next) → bound / next < x
          cases (inl less) = less
          cases (inr not_less) =
              let part : x * next ≤ bound / next * next = mul-le-mul_right next not_less in
              let whole = div-mul-le_self bound next in
              absurd (omega arith)

  above_more : (less : ℕ) → less ≤ best → bound < less → IsProductOfTwo least most less → ((x : ℕ) → IsWheel least most x → bound < x * next → less ≤ x * next) → AboveSoFar least most bound (next + 1) less
  above_more less down_from past of_two each = record {
    of_two = of_two;
    above = past;
    least_of_all = λ x y x_in y_in before over. cases x y x_in y_in over (last_or_before next y before);
  }
    where
      cases : (x y : ℕ) → IsWheel least most x → IsWheel least most y → bound < x * y → (y < next) ⊎ (y ≡ next) → less ≤ x * y
      cases x y x_in y_in over (inl before) = let old = so_far.least_of_all x y x_in y_in before over in omega arith
      cases x y x_in y_in over (inr same) = subst (λ t. less ≤ x * t) (sym same) (each x x_in (subst (λ t. bound < x * t) same over))

  pub above_taken : (less : ℕ) → large ≤ most → less ≡ min best (large * next) → AboveSoFar least most bound (next + 1) less
  above_taken less high is = above_more less (omega arith) past (cases (less_or_not best (large * next))) (λ x x_in over. let part : large * next ≤ x * next = mul-le-mul_right next (above_large x x_in over) in omega arith)
    where
      past : bound < less
      past =
          let old = so_far.above in
          let part : (bound / next + 1) * next ≤ large * next = mul-le-mul_right next (omega arith) in
          let whole : bound < bound / next * next + next = lt-div-mul-add up in
          omega arith

      cases : (best < large * next) ⊎ (large * next ≤ best) → IsProductOfTwo least most less
      cases (inl below) = subst (λ t. IsProductOfTwo least most t) (omega arith) so_far.of_two
      cases (inr not_below) = subst (λ t. IsProductOfTwo least most t) (omega arith) (product_of least most large next (record { at_least = omega arith; at_most = high }) next_in)

  pub above_kept : most < large → AboveSoFar least most bound (next + 1) best
  above_kept high = above_more best (omega arith) so_far.above so_far.of_two (λ x x_in over. let part = above_large x x_in over in absurd (let at_most = x_in.at_most in omega arith))

-- ---- the wheels of a product

-- where two wheels have this product of teeth, the second has no fewer than `next`
abbrev pub NoneBefore : ℕ → ℕ → ℕ → ℕ → Type 0
NoneBefore least most product next = (x y : ℕ) → IsWheel least most x → IsWheel least most y → product ≡ x * y → next ≤ y

module _ (least most product next : ℕ) (up : 0 < next) (so_far : NoneBefore least most product next) where
  -- the next wheel is not the second of two with this product
  pub none_at : ((product / next ≤ most) → product / next * next ≢ product) → NoneBefore least most product (next + 1)
  none_at not_this x y x_in y_in same = cases (less_or_not next y)
    where
      cases : (next < y) ⊎ (y ≤ next) → next + 1 ≤ y
      cases (inl more) = omega arith
      cases (inr not_more) =
          let low = so_far x y x_in y_in same in
          let this : y ≡ next = omega arith in
          let whole : product ≡ x * next = subst (λ t. product ≡ x * t) this same in
          let part : product / next ≡ x = subst (λ t. t / next ≡ x) (sym whole) (mul-div_left x up) in
          let high = x_in.at_most in
          absurd (not_this (omega arith) (subst (λ t. t * next ≡ product) (sym part) (sym whole)))

  -- the next wheel is the second of two with this product
  pub wheels_at : (large : ℕ) → IsWheel least most next → large ≤ most → large * next ≡ product → IsProductOfTwo least most product → AreWheelsOf least most product large next
  wheels_at large next_in high this is = record {
    one_wheel = record { at_least = cases (less_or_not large least); at_most = high };
    other_wheel = next_in;
    same = sym this;
    fewest = so_far;
  }
    where
      cases : (large < least) ⊎ (least ≤ large) → least ≤ large
      cases (inr not_less) = not_less
      cases (inl less) =
          let low = is.one_wheel.at_least in
          let fewer = so_far is.one is.other is.one_wheel is.other_wheel is.same in
          let part : (large + 1) * next ≤ is.one * next = mul-le-mul_right next (omega arith) in
          let whole : is.one * next ≤ is.one * is.other = mul-le-mul_left is.one fewer in
          let same = is.same in
          absurd (omega arith)

-- no wheel below `most` is the second of two with this product, so both have `most` teeth
pub wheels_end : (least most product next : ℕ) → most ≤ next → NoneBefore least most product next → IsProductOfTwo least most product → AreWheelsOf least most product most most
wheels_end least most product next ends so_far is =
    let last = so_far is.one is.other is.one_wheel is.other_wheel is.same in
    let first = so_far is.other is.one is.other_wheel is.one_wheel (is.same ∙ mul_comm is.one is.other) in
    let one_most : is.one ≡ most = let high = is.one_wheel.at_most in omega arith in
    let other_most : is.other ≡ most = let high = is.other_wheel.at_most in omega arith in
    record {
      one_wheel = subst (λ t. IsWheel least most t) one_most is.one_wheel;
      other_wheel = subst (λ t. IsWheel least most t) other_most is.other_wheel;
      same = subst (λ t. product ≡ t * most) one_most (subst (λ t. product ≡ is.one * t) other_most is.same);
      fewest = λ x y x_in y_in same. let low = so_far x y x_in y_in same in omega arith;
    }
