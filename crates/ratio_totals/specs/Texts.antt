-- What the refusals of totals of fractions print.
use Rattle.std.specs.Prelude.{ℕ, List, codes}
use Rattle.ratio_totals.specs.declared.total_changes.ProductRefusal.{ProductRefusal}
use Rattle.ratio_totals.specs.declared.total_changes.ProductRefusal.TheVariants as product_refusal
use Rattle.ratio_totals.specs.declared.total_changes.DotRefusal.{DotRefusal}
use Rattle.ratio_totals.specs.declared.total_changes.DotRefusal.TheVariants as dot_refusal
use Rattle.ratio_totals.specs.declared.list_sums.SumRefusal.{SumRefusal}
use Rattle.ratio_totals.specs.declared.list_sums.SumRefusal.TheVariants as sum_refusal
use Rattle.ratio_totals.specs.declared.wide_changes.WideRefusal.{WideRefusal}
use Rattle.ratio_totals.specs.declared.wide_changes.WideRefusal.TheVariants as wide_refusal
use Rattle.ratio_totals.specs.declared.wide_changes.WideProductRefusal.{WideProductRefusal}
use Rattle.ratio_totals.specs.declared.wide_changes.WideProductRefusal.TheVariants as wide_product_refusal

-- the text that a `ProductRefusal` prints
-- Example: `TooGreat`: `one of the lowest terms of the product is 2^64 or more`
abbrev pub product_refusal_text : ProductRefusal → List ℕ
product_refusal_text product_refusal.MoreRoom = codes "all slots are taken by other denominators"
product_refusal_text product_refusal.TooMany = codes "the total has its greatest weight, 2^63 - 1"
product_refusal_text product_refusal.TooGreat = codes "one of the lowest terms of the product is 2^64 or more"

-- the text that a `DotRefusal` prints
-- Example: `TooGreat`: `one of the lowest terms of a product is 2^64 or more`
abbrev pub dot_refusal_text : DotRefusal → List ℕ
dot_refusal_text dot_refusal.UnlikeLengths = codes "the lists have different lengths"
dot_refusal_text dot_refusal.MoreRoom = codes "the slots are fewer than the denominators of the products"
dot_refusal_text dot_refusal.TooMany = codes "the lists have more than 2^63 - 1 items"
dot_refusal_text dot_refusal.TooGreat = codes "one of the lowest terms of a product is 2^64 or more"

-- the text that a `SumRefusal` prints
-- Example: `TooLong`: `the common denominator is not below 2^(2^20)`
abbrev pub sum_refusal_text : SumRefusal → List ℕ
sum_refusal_text sum_refusal.MoreSlots = codes "the items have more denominators than there are slots"
sum_refusal_text sum_refusal.MoreRoom = codes "the room is too small"
sum_refusal_text sum_refusal.TooMany = codes "the items are more than 2^63 - 1"
sum_refusal_text sum_refusal.TooLong = codes "the common denominator is not below 2^(2^20)"

-- the text that a `WideRefusal` prints
-- Example: `MoreDigits`: `the common denominator needs more digits`
abbrev pub wide_refusal_text : WideRefusal → List ℕ
wide_refusal_text wide_refusal.MoreRoom = codes "the room or the spare digits are too few"
wide_refusal_text wide_refusal.TooMany = codes "the total has its greatest weight, 2^63 - 1"
wide_refusal_text wide_refusal.MoreDigits = codes "the common denominator needs more digits"

-- the text that a `WideProductRefusal` prints
-- Example: `TooGreat`: `one of the lowest terms of the product is 2^128 or more`
abbrev pub wide_product_refusal_text : WideProductRefusal → List ℕ
wide_product_refusal_text wide_product_refusal.MoreRoom = codes "the spare digits are too few"
wide_product_refusal_text wide_product_refusal.TooMany = codes "the total has its greatest weight, 2^63 - 1"
wide_product_refusal_text wide_product_refusal.MoreDigits = codes "the common denominator needs more digits"
wide_product_refusal_text wide_product_refusal.TooGreat = codes "one of the lowest terms of the product is 2^128 or more"

-- the text that `ShortRoom` prints
abbrev pub short_room_text : List ℕ
short_room_text = codes "the room is too small"
