-- Two pairs of wheels, one after the other, whose ratio is near a wanted one. The ratio is a pair of whole numbers here.
use Rattle.std.specs.Prelude.{◌⊎◌, ◌*◌, ◌<◌, ◌≤◌, ◌≤ℤ◌, ◌<ℤ◌, ◌≡◌, ℕ, ℤ, pos, Bool, true, false, Option, Some, None}
use Rattle.num_rational.specs.{Operators.ChecksExactDifference, Reduced.ratio_in}
use Rattle.ratio_uses.specs.Gears.{IsWheel, PairComesFirst}
use Rattle.ratio_uses.specs.declared.trains.Pair.{Pair}
use Rattle.ratio_uses.specs.declared.trains.Train.{Train}

-- both wheels of the pair have from `least` to `most` teeth
-- Example: 12 to 20: 17 drives 13
pub record IsPair (least most : ℕ) (pair : Pair) : Type 0 where
  pub driver : IsWheel least most pair.driver
  pub driven : IsWheel least most pair.driven

-- the product of the drivers' teeth
-- Example: 19 drives 11, and 20 drives 11: 380
abbrev pub driver_teeth : Pair → Pair → ℕ
driver_teeth first second = first.driver * second.driver

-- the product of the driven wheels' teeth. The ratio of the train is `driver_teeth` over this
-- Example: 19 drives 11, and 20 drives 11: 121
abbrev pub driven_teeth : Pair → Pair → ℕ
driven_teeth first second = first.driven * second.driven

-- the first two pairs' train comes before the last two's by its distance from the wanted ratio, or has the same products (`PairComesFirst`)
-- Example: from 355/113: 19/11 times 20/11 before 11/7 times 14/7
abbrev pub TrainComesFirst : ℤ × ℤ → Pair → Pair → Pair → Pair → Type 0
TrainComesFirst wanted first second x y = PairComesFirst wanted (driver_teeth first second) (driven_teeth first second) (driver_teeth x y) (driven_teeth x y)

-- Inner: of all trains whose first pair has from `least` to `most` teeth and whose second pair is one of these, this train comes first
pub record AreFirstOf (wanted : ℤ × ℤ) (least most : ℕ) (IsSecond : Pair → Type 0) (first second : Pair) : Type 0 where
  pub first_pair : IsPair least most first
  pub second_pair : IsSecond second
  pub nearest : (x y : Pair) → IsPair least most x → IsSecond y → TrainComesFirst wanted first second x y

-- all four wheels have from `least` to `most` teeth. Of all such trains this one comes first by its distance from the wanted ratio
-- Example: 355/113 with 8 to 20 teeth: 19 and 11, 20 and 11
abbrev pub AreNearestPairs : ℤ × ℤ → ℕ → ℕ → Pair → Pair → Type 0
AreNearestPairs wanted least most first second = AreFirstOf wanted least most (IsPair least most) first second

-- the result is the nearest train, and the wanted ratio minus the train's if its lowest terms fit. It is `None` exactly if the wanted ratio is
-- not above 0, `least` is 0 or `most` is below `least`
-- Example: 355/113 with 8 to 20 teeth: 19 and 11, 20 and 11, and 15/13673
abbrev pub ChecksTrain : ℤ × ℤ → ℕ → ℕ → Option Train → Type 0
ChecksTrain wanted least most None = (wanted.0 ≤ℤ pos 0) ⊎ (least ≡ 0) ⊎ (most < least)
ChecksTrain wanted least most (Some train) =
    (pos 0 <ℤ wanted.0)
    × (0 < least)
    × AreNearestPairs wanted least most train.first train.second
    × ChecksExactDifference wanted (pos (driver_teeth train.first train.second), pos (driven_teeth train.first train.second)) (ratio_in train.off)

-- Inner: `true` says that the first ratio comes first by its distance from the wanted one, `false` that the second does
abbrev pub FirstOfTwo : ℤ × ℤ → ℕ × ℕ → ℕ × ℕ → Bool → Type 0
FirstOfTwo wanted x y true = PairComesFirst wanted x.0 x.1 y.0 y.1
FirstOfTwo wanted x y false = PairComesFirst wanted y.0 y.1 x.0 x.1

-- Inner: the ratio is one of two, and comes first of them
pub record IsFirstRatio (wanted : ℤ × ℤ) (one other ratio : ℕ × ℕ) : Type 0 where
  pub either : (ratio ≡ one) ⊎ (ratio ≡ other)
  pub before_one : PairComesFirst wanted ratio.0 ratio.1 one.0 one.1
  pub before_other : PairComesFirst wanted ratio.0 ratio.1 other.0 other.1

-- Inner: two wheels with from `least` to `most` teeth have this product of teeth
-- Example: 12 to 20: 221, as 17 and 13 have
pub record IsProductOfTwo (least most product : ℕ) : Type 0 where
  pub one : ℕ
  pub other : ℕ
  pub one_wheel : IsWheel least most one
  pub other_wheel : IsWheel least most other
  pub same : product ≡ one * other

-- Inner: the two wheels have this product of teeth. Of all such wheels the second has the fewest teeth
-- Example: 12 to 20, 240: 20 and 12
pub record AreWheelsOf (least most product one other : ℕ) : Type 0 where
  pub one_wheel : IsWheel least most one
  pub other_wheel : IsWheel least most other
  pub same : product ≡ one * other
  pub fewest : (x y : ℕ) → IsWheel least most x → IsWheel least most y → product ≡ x * y → other ≤ y

-- Inner: of all products of two wheels up to the bound this one is the greatest
-- Example: 12 to 20, 223: 221
pub record IsGreatestUpTo (least most bound product : ℕ) : Type 0 where
  pub of_two : IsProductOfTwo least most product
  pub up_to : product ≤ bound
  pub greatest : (x : ℕ) → IsProductOfTwo least most x → x ≤ bound → x ≤ product

-- Inner: of all products of two wheels above the bound this one is the least
-- Example: 12 to 20, 221: 224
pub record IsLeastAbove (least most bound product : ℕ) : Type 0 where
  pub of_two : IsProductOfTwo least most product
  pub above : bound < product
  pub least_of_all : (x : ℕ) → IsProductOfTwo least most x → bound < x → product ≤ x

-- Inner: a product of the drivers' teeth and one of the driven wheels', which come first of all such by their distance from the wanted ratio
pub record AreNearestProducts (wanted : ℤ × ℤ) (least most drivers driven : ℕ) : Type 0 where
  pub drivers_two : IsProductOfTwo least most drivers
  pub driven_two : IsProductOfTwo least most driven
  pub nearest : (x y : ℕ) → IsProductOfTwo least most x → IsProductOfTwo least most y → PairComesFirst wanted drivers driven x y

-- Inner: of the earlier products and all products of which the second is one of these, these products come first
pub record AreFirstOver (wanted : ℤ × ℤ) (least most : ℕ) (IsDriven : ℕ → Type 0) (earlier products : ℕ × ℕ) : Type 0 where
  pub drivers_two : IsProductOfTwo least most products.0
  pub driven_two : IsProductOfTwo least most products.1
  pub before_earlier : PairComesFirst wanted products.0 products.1 earlier.0 earlier.1
  pub before_each : (x y : ℕ) → IsProductOfTwo least most x → IsDriven y → PairComesFirst wanted products.0 products.1 x y

-- Inner: the product of this wheel's teeth and those of a wheel with as many or more, up to `most`
pub record IsMultipleOf (small most product : ℕ) : Type 0 where
  pub large : ℕ
  pub wheel : IsWheel small most large
  pub same : product ≡ large * small
