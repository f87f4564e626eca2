-- Each read of a room that holds the join of a table is that of the table.
use Rattle.ratio_decimal.proofs.DecimalLawLemmas.{decimal_by_value}
use Rattle.ratio_natural.specs.Number.{base}
use Rattle.ratio_slots.proofs.DecimalLemmas.{above_zero_ℤ}
use Rattle.ratio_slots.proofs.FloatLemmas.{float_by_value}
use Rattle.ratio_slots.proofs.LowestSumLemmas.{mean_moved, short_moved}
use Rattle.ratio_slots.proofs.MergeSums.{sum_positive}
use Rattle.ratio_slots.proofs.SignLemmas.{same_sign}
use Rattle.ratio_slots.specs.Joined.{common_in, joined_pair}
use Rattle.ratio_slots.specs.JoinedLaws.{JoinedDecimals, JoinedFloats, JoinedMeans, JoinedSigns, JoinedSums}
use Rattle.ratio_slots.specs.Sums.{sum_of_slots}

pub joined_sums : JoinedSums
joined_sums slots digits room r joined checked = short_moved (joined_pair digits room) (sum_of_slots slots) r (sum_positive slots) joined.sum checked

pub joined_means : JoinedMeans
joined_means slots digits room count r joined checked = mean_moved base (joined_pair digits room) (sum_of_slots slots) count r (sum_positive slots) joined.sum checked

pub joined_signs : JoinedSigns
joined_signs slots digits room joined =
    same_sign (joined_pair digits room).0 (sum_of_slots slots).0 (common_in digits room) (sum_of_slots slots).1 joined.common_is.positive (sum_positive slots) joined.sum

pub joined_floats : JoinedFloats
joined_floats slots digits room f joined = float_by_value slots f (joined_pair digits room).0 (common_in digits room) joined.common_is.positive joined.sum

pub joined_decimals : JoinedDecimals
joined_decimals slots digits room rule places text joined decimal =
    decimal_by_value rule places _ _ _ _ text (above_zero_ℤ (common_in digits room) joined.common_is.positive) (above_zero_ℤ (sum_of_slots slots).1 (sum_positive slots)) joined.sum decimal
