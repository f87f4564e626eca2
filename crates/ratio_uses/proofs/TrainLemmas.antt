-- The nearest train: the products of its teeth, looked for one product of the driven wheels' teeth after the other, and its wheels.
use Rattle.std.specs.Prelude.{◌≡◌, ◌⊎◌, ◌+◌, ◌*◌, ◌-◌, ◌<◌, ◌≤◌, ℕ, ℤ, min, pos}
use Rattle.std.proofs.Common.{◌∙◌, refl, sym, ap, subst, arith, inl, inr}
use Rattle.std.proofs.Math.Nat.{mul-le-mul_right, mul-lt-mul_of_pos_right, mul_comm}
use Rattle.std.proofs.lemmas.Int.{ints}
use Rattle.ratio_approximation.specs.Nearest.{gap}
use Rattle.ratio_approximation.proofs.NearestPreference.{first_chained, itself_first}
use Rattle.ratio_uses.specs.Gears.{IsQuotient, IsWheel, PairComesFirst}
use Rattle.ratio_uses.specs.Trains.{AreFirstOf, AreFirstOver, AreNearestProducts, AreWheelsOf, IsFirstRatio, IsGreatestUpTo, IsLeastAbove, IsMultipleOf, IsPair, IsProductOfTwo, driven_teeth, driver_teeth}
use Rattle.ratio_uses.specs.declared.trains.Pair.{Pair}
use Rattle.ratio_uses.proofs.GearLemmas.{gap_is, nearer_first, nearest_whole}
use Rattle.ratio_uses.proofs.ProductLemmas.{less_or_not, product_at_least, product_at_most, product_of, product_up, wheel_least, wheel_most}

same_or_less : (x y : ℕ) → x ≤ y → (x ≡ y) ⊎ (x < y)
same_or_less x y within = grind arith

chained : (wanted : ℤ × ℤ) (a b c d e f : ℕ) → 0 < b → 0 < d → 0 < f → PairComesFirst wanted a b c d → PairComesFirst wanted c d e f → PairComesFirst wanted a b e f
chained wanted a b c d e f b_up d_up f_up = first_chained _ (pos a) (pos b) _ (pos c) (pos d) _ (pos e) (pos f) (omega (arith, ints)) (omega (arith, ints)) (omega (arith, ints))

-- ---- one product of the driven wheels' teeth

-- k is up to the best product of the drivers' teeth, n·y/d, so what is less is no nearer
before_lower : (n d y k x : ℕ) → 0 < d → 0 < y → k * d ≤ n * y → x ≤ k → PairComesFirst (pos n, pos d) k y x y
before_lower n d y k x d_up y_up under less = cases (same_or_less x k less)
  where
    cases : (x ≡ k) ⊎ (x < k) → PairComesFirst (pos n, pos d) k y x y
    cases (inl same) = subst (λ t. PairComesFirst (pos n, pos d) k y t y) (sym same) (itself_first _ (pos k) (pos y))
    cases (inr down) =
        let part : (x + 1) * d ≤ k * d = mul-le-mul_right d (omega arith) in
        let nearer : gap (pos n) (pos d) (pos k) (pos y) < gap (pos n) (pos d) (pos x) (pos y) = omega (arith, gap_is n d k y, gap_is n d x y) in
        inl (mul-lt-mul_of_pos_right nearer y_up)

-- k is above the best product of the drivers' teeth, or is it, so what is more is no nearer
before_higher : (n d y k x : ℕ) → n * y ≤ k * d → k ≤ x → PairComesFirst (pos n, pos d) k y x y
before_higher n d y k x over more =
    let part : k * d ≤ x * d = mul-le-mul_right d more in
    nearer_first _ _ k x y (omega (arith, gap_is n d k y, gap_is n d x y)) more

-- w is the whole number below the best product of the drivers' teeth, or is it
module _ (n d y w : ℕ) (d_up : 0 < d) (y_up : 0 < y) (under : w * d ≤ n * y) (over : n * y < w * d + d) where
  pub before_below : (k x : ℕ) → k ≤ w → x ≤ k → PairComesFirst (pos n, pos d) k y x y
  before_below k x down less = let part : k * d ≤ w * d = mul-le-mul_right d down in before_lower n d y k x d_up y_up (omega arith) less

  pub before_above : (k x : ℕ) → w < k → k ≤ x → PairComesFirst (pos n, pos d) k y x y
  before_above k x up more = let part : (w + 1) * d ≤ k * d = mul-le-mul_right d (omega arith) in before_higher n d y k x (omega arith) more

module _ (wanted : ℤ × ℤ) (least most driven : ℕ) (earlier : ℕ × ℕ) (least_up : 0 < least) (driven_in : IsProductOfTwo least most driven) (drivers_in : IsProductOfTwo least most earlier.0) (earlier_in : IsProductOfTwo least most earlier.1) where
  up : (x : ℕ) → IsProductOfTwo least most x → 0 < x
  up x is = product_up least most x least_up is

  -- no product of the drivers' teeth with this one of the driven wheels' comes before the earlier ones
  pub over_kept : ((x : ℕ) → IsProductOfTwo least most x → PairComesFirst wanted earlier.0 earlier.1 x driven) → AreFirstOver wanted least most (λ y. y ≡ driven) earlier earlier
  over_kept each = record {
    drivers_two = drivers_in;
    driven_two = earlier_in;
    before_earlier = itself_first _ (pos earlier.0) (pos earlier.1);
    before_each = λ x y x_in same. subst (λ t. PairComesFirst wanted earlier.0 earlier.1 x t) (sym same) (each x x_in);
  }

  -- the first of the earlier products and of the first with this product of the driven wheels' teeth
  pub over_either : (found products : ℕ × ℕ) → IsProductOfTwo least most found.0 → found.1 ≡ driven → ((x : ℕ) → IsProductOfTwo least most x → PairComesFirst wanted found.0 found.1 x driven) → IsFirstRatio wanted earlier found products
      → AreFirstOver wanted least most (λ y. y ≡ driven) earlier products
  over_either found products found_in is_driven each is = record {
    drivers_two = drivers is.either;
    driven_two = driven_wheels is.either;
    before_earlier = is.before_one;
    before_each = λ x y x_in same. subst (λ t. PairComesFirst wanted products.0 products.1 x t) (sym same)
        (chained wanted products.0 products.1 found.0 found.1 x driven (up products.1 (driven_wheels is.either)) (omega (arith, up driven driven_in)) (up driven driven_in) is.before_other (each x x_in));
  }
    where
      drivers : (products ≡ earlier) ⊎ (products ≡ found) → IsProductOfTwo least most products.0
      drivers (inl same) = subst (λ (t : ℕ × ℕ). IsProductOfTwo least most t.0) (sym same) drivers_in
      drivers (inr same) = subst (λ (t : ℕ × ℕ). IsProductOfTwo least most t.0) (sym same) found_in

      driven_wheels : (products ≡ earlier) ⊎ (products ≡ found) → IsProductOfTwo least most products.1
      driven_wheels (inl same) = subst (λ (t : ℕ × ℕ). IsProductOfTwo least most t.1) (sym same) earlier_in
      driven_wheels (inr same) = subst (λ (t : ℕ × ℕ). IsProductOfTwo least most t.1) (sym same) (subst (λ t. IsProductOfTwo least most t) (sym is_driven) driven_in)

module _ (n d least most driven w : ℕ) (earlier : ℕ × ℕ) (d_up : 0 < d) (least_up : 0 < least) (range : least ≤ most) (driven_in : IsProductOfTwo least most driven) (drivers_in : IsProductOfTwo least most earlier.0) (earlier_in : IsProductOfTwo least most earlier.1)
    (under : w * d ≤ n * driven) (over : n * driven < w * d + d) where
  driven_up : 0 < driven
  driven_up = product_up least most driven least_up driven_in

  -- the best product is below all
  pub nearer_at_lowest : (products : ℕ × ℕ) → w < least * least → IsFirstRatio (pos n, pos d) earlier (least * least, driven) products → AreFirstOver (pos n, pos d) least most (λ y. y ≡ driven) earlier products
  nearer_at_lowest products low is =
      over_either (pos n, pos d) least most driven earlier least_up driven_in drivers_in earlier_in (least * least, driven) products (product_of least most least least (wheel_least least most range) (wheel_least least most range)) refl
      (λ x x_in. before_above n d driven w d_up driven_up under over (least * least) x low (product_at_least least most x x_in)) is

  -- the best product is above all, or the greatest
  pub nearer_at_highest : (products : ℕ × ℕ) → most * most ≤ w → IsFirstRatio (pos n, pos d) earlier (most * most, driven) products → AreFirstOver (pos n, pos d) least most (λ y. y ≡ driven) earlier products
  nearer_at_highest products high is =
      over_either (pos n, pos d) least most driven earlier least_up driven_in drivers_in earlier_in (most * most, driven) products (product_of least most most most (wheel_most least most range) (wheel_most least most range)) refl
      (λ x x_in. before_below n d driven w d_up driven_up under over (most * most) x high (product_at_most least most x x_in)) is

  -- not even the whole numbers next to the best product come before the earlier products
  pub none_nearer : PairComesFirst (pos n, pos d) earlier.0 earlier.1 w driven → PairComesFirst (pos n, pos d) earlier.0 earlier.1 (w + 1) driven → AreFirstOver (pos n, pos d) least most (λ y. y ≡ driven) earlier earlier
  none_nearer below above = over_kept (pos n, pos d) least most driven earlier least_up driven_in drivers_in earlier_in (λ x x_in. cases x (less_or_not w x))
    where
      earlier_up : 0 < earlier.1
      earlier_up = product_up least most earlier.1 least_up earlier_in

      cases : (x : ℕ) → (w < x) ⊎ (x ≤ w) → PairComesFirst (pos n, pos d) earlier.0 earlier.1 x driven
      cases x (inl more) = chained (pos n, pos d) earlier.0 earlier.1 (w + 1) driven x driven earlier_up driven_up driven_up above (before_above n d driven w d_up driven_up under over (w + 1) x (omega arith) (omega arith))
      cases x (inr less) = chained (pos n, pos d) earlier.0 earlier.1 w driven x driven earlier_up driven_up driven_up below (before_below n d driven w d_up driven_up under over w x (omega arith) less)

  -- the products next to the best one
  pub nearer_of_two : (low high : ℕ) (found products : ℕ × ℕ) → IsGreatestUpTo least most w low → IsLeastAbove least most w high → IsFirstRatio (pos n, pos d) (low, driven) (high, driven) found → IsFirstRatio (pos n, pos d) earlier found products
      → AreFirstOver (pos n, pos d) least most (λ y. y ≡ driven) earlier products
  nearer_of_two low high found products low_is high_is found_is is =
      over_either (pos n, pos d) least most driven earlier least_up driven_in drivers_in earlier_in found products (found_two found_is.either) (found_driven found_is.either) (λ x x_in. cases x x_in (less_or_not w x)) is
    where
      found_two : (found ≡ (low, driven)) ⊎ (found ≡ (high, driven)) → IsProductOfTwo least most found.0
      found_two (inl same) = subst (λ (t : ℕ × ℕ). IsProductOfTwo least most t.0) (sym same) low_is.of_two
      found_two (inr same) = subst (λ (t : ℕ × ℕ). IsProductOfTwo least most t.0) (sym same) high_is.of_two

      found_driven : (found ≡ (low, driven)) ⊎ (found ≡ (high, driven)) → found.1 ≡ driven
      found_driven (inl same) = ap (λ (t : ℕ × ℕ). t.1) same
      found_driven (inr same) = ap (λ (t : ℕ × ℕ). t.1) same

      found_up : 0 < found.1
      found_up = let same = found_driven found_is.either in omega (arith, driven_up)

      cases : (x : ℕ) → IsProductOfTwo least most x → (w < x) ⊎ (x ≤ w) → PairComesFirst (pos n, pos d) found.0 found.1 x driven
      cases x x_in (inl more) =
          chained (pos n, pos d) found.0 found.1 high driven x driven found_up driven_up driven_up found_is.before_other (before_above n d driven w d_up driven_up under over high x high_is.above (high_is.least_of_all x x_in more))
      cases x x_in (inr less) =
          chained (pos n, pos d) found.0 found.1 low driven x driven found_up driven_up driven_up found_is.before_one (before_below n d driven w d_up driven_up under over low x low_is.up_to (low_is.greatest x x_in less))

-- ---- one product after the other

module _ (wanted : ℤ × ℤ) (least most : ℕ) (One Other Each : ℕ → Type 0) (earlier between products : ℕ × ℕ) (least_up : 0 < least) (earlier_in : IsProductOfTwo least most earlier.1)
    (each_two : (y : ℕ) → Each y → IsProductOfTwo least most y) (either : (y : ℕ) → Each y → One y ⊎ Other y) (one : AreFirstOver wanted least most One earlier between) (other : AreFirstOver wanted least most Other between products) where
  two_up : (x : ℕ) → IsProductOfTwo least most x → 0 < x
  two_up x is = product_up least most x least_up is

  before_of : (x y : ℕ) → IsProductOfTwo least most x → IsProductOfTwo least most y → One y ⊎ Other y → PairComesFirst wanted products.0 products.1 x y
  before_of x y x_in y_in (inl this) =
      chained wanted products.0 products.1 between.0 between.1 x y (two_up products.1 other.driven_two) (two_up between.1 one.driven_two) (two_up y y_in) other.before_earlier (one.before_each x y x_in this)
  before_of x y x_in y_in (inr this) = other.before_each x y x_in this

  pub over_both : AreFirstOver wanted least most Each earlier products
  over_both = record {
    drivers_two = other.drivers_two;
    driven_two = other.driven_two;
    before_earlier = chained wanted products.0 products.1 between.0 between.1 earlier.0 earlier.1 (two_up products.1 other.driven_two) (two_up between.1 one.driven_two) (two_up earlier.1 earlier_in) other.before_earlier one.before_earlier;
    before_each = λ x y x_in y_in. before_of x y x_in (each_two y y_in) (either y y_in);
  }

-- no product yet
over_none : (wanted : ℤ × ℤ) (least most : ℕ) (Each : ℕ → Type 0) (products : ℕ × ℕ) → ((y : ℕ) → ¬ (Each y)) → IsProductOfTwo least most products.0 → IsProductOfTwo least most products.1 → AreFirstOver wanted least most Each products products
over_none wanted least most Each products none drivers_in driven_in = record {
  drivers_two = drivers_in;
  driven_two = driven_in;
  before_earlier = itself_first _ (pos products.0) (pos products.1);
  before_each = λ x y x_in y_in. absurd (none y y_in);
}

-- the same products, said in another way
over_same : (wanted : ℤ × ℤ) (least most : ℕ) (One Each : ℕ → Type 0) (earlier products : ℕ × ℕ) → ((y : ℕ) → Each y → One y) → AreFirstOver wanted least most One earlier products → AreFirstOver wanted least most Each earlier products
over_same wanted least most One Each earlier products from is = record {
  drivers_two = is.drivers_two;
  driven_two = is.driven_two;
  before_earlier = is.before_earlier;
  before_each = λ x y x_in y_in. is.before_each x y x_in (from y y_in);
}

last_or_before : (next y : ℕ) → y < next + 1 → (y < next) ⊎ (y ≡ next)
last_or_before next y below = grind arith

-- ---- one larger wheel after the other

-- each whole number is at least as far from the best product of the drivers' teeth as the nearest one, so no product comes before the earlier ones
pub too_far : (n d y w r k e x : ℕ) → IsQuotient (n * y) d w r → gap (pos n) (pos d) (pos k) (pos e) * y < min r (d - r) * e → PairComesFirst (pos n, pos d) k e x y
too_far n d y w r k e x is far =
    let part : min r (d - r) * e ≤ gap (pos n) (pos d) (pos x) (pos y) * e = mul-le-mul_right e (nearest_whole n d y w r x is) in
    inl (omega arith)

-- the best product of the drivers' teeth for the next product of the driven wheels'
pub best_next : (n d large small w r step part more rest : ℕ) → IsQuotient (n * (large * small)) d w r → IsQuotient (n * small) d step part → IsQuotient (w * d + r + (step * d + part)) d more rest → IsQuotient (n * ((large + 1) * small)) d more rest
best_next n d large small w r step part more rest is step_is sum_is = record {
  same = let one = is.same in let other = step_is.same in let sum = sum_is.same in omega arith;
  less = sum_is.less;
}

-- the product of the teeth of this wheel and those of one with as many or more, but fewer than `next`
pub record IsMultipleBefore (small next product : ℕ) : Type 0 where
  pub large : ℕ
  pub at_least : small ≤ large
  pub before : large < next
  pub same : product ≡ large * small

pub multiple_two : (least most small large : ℕ) → IsWheel least most small → small ≤ large → large ≤ most → IsProductOfTwo least most (large * small)
multiple_two least most small large small_in more high = product_of least most large small (record { at_least = let low = small_in.at_least in omega arith; at_most = high }) small_in

pub with_begins : (wanted : ℤ × ℤ) (least most small : ℕ) (earlier : ℕ × ℕ) → IsProductOfTwo least most earlier.0 → IsProductOfTwo least most earlier.1 → AreFirstOver wanted least most (IsMultipleBefore small small) earlier earlier
with_begins wanted least most small earlier drivers_in driven_in = over_none wanted least most (IsMultipleBefore small small) earlier none drivers_in driven_in
  where
    none : (y : ℕ) → ¬ (IsMultipleBefore small small y)
    none y is = let low = is.at_least in let high = is.before in omega arith

pub with_goes_on : (wanted : ℤ × ℤ) (least most small next : ℕ) (earlier between products : ℕ × ℕ) → 0 < least → IsWheel least most small → next ≤ most → IsProductOfTwo least most earlier.1
    → AreFirstOver wanted least most (IsMultipleBefore small next) earlier between → AreFirstOver wanted least most (λ y. y ≡ next * small) between products → AreFirstOver wanted least most (IsMultipleBefore small (next + 1)) earlier products
with_goes_on wanted least most small next earlier between products least_up small_in high earlier_in so_far is =
    over_both wanted least most (IsMultipleBefore small next) (λ y. y ≡ next * small) (IsMultipleBefore small (next + 1)) earlier between products least_up earlier_in each_two (λ y this. cases y this (last_or_before next this.large this.before)) so_far is
  where
    each_two : (y : ℕ) → IsMultipleBefore small (next + 1) y → IsProductOfTwo least most y
    each_two y this = subst (λ t. IsProductOfTwo least most t) (sym this.same) (multiple_two least most small this.large small_in this.at_least (let before = this.before in omega arith))

    cases : (y : ℕ) (this : IsMultipleBefore small (next + 1) y) → (this.large < next) ⊎ (this.large ≡ next) → IsMultipleBefore small next y ⊎ (y ≡ next * small)
    cases y this (inl before) = inl (record { large = this.large; at_least = this.at_least; before = before; same = this.same })
    cases y this (inr last) = inr (this.same ∙ ap (λ t. t * small) last)

-- the earlier products come before all with the next product
pub with_kept : (wanted : ℤ × ℤ) (least most small next : ℕ) (earlier between : ℕ × ℕ) → 0 < least → IsWheel least most small → next ≤ most → IsProductOfTwo least most earlier.1
    → AreFirstOver wanted least most (IsMultipleBefore small next) earlier between → ((x : ℕ) → PairComesFirst wanted between.0 between.1 x (next * small)) → AreFirstOver wanted least most (IsMultipleBefore small (next + 1)) earlier between
with_kept wanted least most small next earlier between least_up small_in high earlier_in so_far each =
    with_goes_on wanted least most small next earlier between between least_up small_in high earlier_in so_far
    (record { drivers_two = so_far.drivers_two; driven_two = so_far.driven_two; before_earlier = itself_first _ (pos between.0) (pos between.1); before_each = λ x y x_in same. subst (λ t. PairComesFirst wanted between.0 between.1 x t) (sym same) (each x) })

pub with_ends : (wanted : ℤ × ℤ) (least most small next : ℕ) (earlier products : ℕ × ℕ) → most < next → AreFirstOver wanted least most (IsMultipleBefore small next) earlier products → AreFirstOver wanted least most (IsMultipleOf small most) earlier products
with_ends wanted least most small next earlier products ends so_far =
    over_same wanted least most (IsMultipleBefore small next) (IsMultipleOf small most) earlier products
    (λ y is. record { large = is.large; at_least = is.wheel.at_least; before = let high = is.wheel.at_most in omega arith; same = is.same }) so_far

-- ---- one smaller wheel after the other

-- the product of the teeth of two wheels, of which one has fewer than `next` teeth, and the other as many as it or more
pub record IsProductBefore (least most next product : ℕ) : Type 0 where
  pub small : ℕ
  pub at_least : least ≤ small
  pub before : small < next
  pub multiple : IsMultipleOf small most product

pub all_go_on : (wanted : ℤ × ℤ) (least most next : ℕ) (earlier between products : ℕ × ℕ) → 0 < least → next ≤ most → IsProductOfTwo least most earlier.1
    → AreFirstOver wanted least most (IsProductBefore least most next) earlier between → AreFirstOver wanted least most (IsMultipleOf next most) between products → AreFirstOver wanted least most (IsProductBefore least most (next + 1)) earlier products
all_go_on wanted least most next earlier between products least_up high earlier_in so_far is =
    over_both wanted least most (IsProductBefore least most next) (IsMultipleOf next most) (IsProductBefore least most (next + 1)) earlier between products least_up earlier_in each_two (λ y this. cases y this (last_or_before next this.small this.before)) so_far is
  where
    each_two : (y : ℕ) → IsProductBefore least most (next + 1) y → IsProductOfTwo least most y
    each_two y this =
        let wheel = this.multiple.wheel in
        subst (λ t. IsProductOfTwo least most t) (sym this.multiple.same)
        (multiple_two least most this.small this.multiple.large (record { at_least = this.at_least; at_most = let before = this.before in omega arith }) wheel.at_least wheel.at_most)

    cases : (y : ℕ) (this : IsProductBefore least most (next + 1) y) → (this.small < next) ⊎ (this.small ≡ next) → IsProductBefore least most next y ⊎ IsMultipleOf next most y
    cases y this (inl before) = inl (record { small = this.small; at_least = this.at_least; before = before; multiple = this.multiple })
    cases y this (inr last) = inr (subst (λ t. IsMultipleOf t most y) last this.multiple)

-- each product has one wheel with no more teeth than the other
pub all_end : (wanted : ℤ × ℤ) (least most next : ℕ) (earlier products : ℕ × ℕ) → most < next → AreFirstOver wanted least most (IsProductBefore least most next) earlier products → AreNearestProducts wanted least most products.0 products.1
all_end wanted least most next earlier products ends so_far = record {
  drivers_two = so_far.drivers_two;
  driven_two = so_far.driven_two;
  nearest = λ x y x_in y_in. so_far.before_each x y x_in (cases y y_in (less_or_not y_in.one y_in.other));
}
  where
    ordered : (y one other : ℕ) → IsWheel least most one → IsWheel least most other → y ≡ one * other → other ≤ one → IsProductBefore least most next y
    ordered y one other one_in other_in same less = record {
      small = other;
      at_least = other_in.at_least;
      before = let high = other_in.at_most in omega arith;
      multiple = record { large = one; wheel = record { at_least = less; at_most = one_in.at_most }; same = same };
    }

    cases : (y : ℕ) (is : IsProductOfTwo least most y) → (is.one < is.other) ⊎ (is.other ≤ is.one) → IsProductBefore least most next y
    cases y is (inl less) = ordered y is.other is.one is.other_wheel is.one_wheel (is.same ∙ mul_comm is.one is.other) (omega arith)
    cases y is (inr not_less) = ordered y is.one is.other is.one_wheel is.other_wheel is.same not_less

-- ---- the wheels of the nearest products

pub pairs_of : (wanted : ℤ × ℤ) (least most drivers driven : ℕ) (first second : Pair) → AreNearestProducts wanted least most drivers driven → AreWheelsOf least most drivers first.driver second.driver → AreWheelsOf least most driven first.driven second.driven
    → AreFirstOf wanted least most (IsPair least most) first second
pairs_of wanted least most drivers driven first second is drivers_are driven_are = record {
  first_pair = record { driver = drivers_are.one_wheel; driven = driven_are.one_wheel };
  second_pair = record { driver = drivers_are.other_wheel; driven = driven_are.other_wheel };
  nearest = λ x y x_in y_in.
      subst (λ t. PairComesFirst wanted t (driven_teeth first second) (driver_teeth x y) (driven_teeth x y)) drivers_are.same
      (subst (λ t. PairComesFirst wanted drivers t (driver_teeth x y) (driven_teeth x y)) driven_are.same
      (is.nearest (driver_teeth x y) (driven_teeth x y) (product_of least most x.driver y.driver x_in.driver y_in.driver) (product_of least most x.driven y.driven x_in.driven y_in.driven)));
}
