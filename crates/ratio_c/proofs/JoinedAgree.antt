-- Once all slots are joined, each read of the room answers as the read of the total.
use Rattle.std.specs.Prelude.{◌<◌, ◌≤◌, ◌<ℤ◌, ℕ, ℤ, pos, drop, length, Option, Some, None}
use Rattle.std.specs.Float.{binary64}
use Rattle.std.proofs.Common.{ap, inl, subst, sym, ◌∙◌}
use Rattle.ratio_integer.specs.Fraction.{ChecksLowest}
use Rattle.ratio_integer.specs.SignedBits.{greatest64, least64}
use Rattle.ratio_integer.proofs.LowestTerms.{held_lowest_moved}
use Rattle.ratio_slots.proofs.JoinLemmas.{steps_join_all}
use Rattle.ratio_slots.proofs.JoinedLemmas.{joined_decimals, joined_floats, joined_signs}
use Rattle.ratio_slots.proofs.LowestSumLemmas.{divided_same, nonzero, product_positive}
use Rattle.ratio_slots.proofs.MergeSums.{sum_positive}
use Rattle.ratio_slots.proofs.StepLemmas.{room_held, steps_leave_pairs}
use Rattle.ratio_slots.specs.Common.{above_zero}
use Rattle.ratio_slots.specs.DecimalRoom.{bytes_with, digits_with}
use Rattle.ratio_slots.specs.Joined.{HasJoinedDecimal, joined_pair}
use Rattle.ratio_slots.specs.LowestSum.{pair_mean}
use Rattle.ratio_slots.specs.Sums.{SameSum, sum_of_slots}
use Rattle.ratio_c.specs.Crossing.{Said, order_number, rule_of}
use Rattle.ratio_c.specs.JoinedAnswers.{DecimalsAnswerAlike, FloatsAnswerAlike, JoinedIsSum, MeansAnswerAlike, SignsAnswerAlike, SumsAnswerAlike}
use Rattle.ratio_c.specs.TotalReads.{SaysLowest}
use Rattle.ratio_c.proofs.ReadsAgree.{above, fits_moved}

pub joined_is_sum : JoinedIsSum
joined_is_sum slots read room held =
    (steps_leave_pairs slots read room held.holds, (steps_join_all slots read room held.holds held.all).sum)

-- lowest terms over 64 bits are those of each fraction of the same value
lowest_moved : (x y : ℤ × ℕ) (r : Option (ℤ × ℤ)) → 0 < x.1 → 0 < y.1 → SameSum x y
    → ChecksLowest (λ z. z.0) (λ z. z.1) least64 greatest64 (x.0, pos x.1) r → ChecksLowest (λ z. z.0) (λ z. z.1) least64 greatest64 (y.0, pos y.1) r
lowest_moved x y None some other same none = λ fits. none (fits_moved x y some same fits)
lowest_moved x y (Some t) some other same low = held_lowest_moved least64 greatest64 x.0 (pos x.1) y.0 (pos y.1) t.0 t.1 (nonzero _ other) (sym same) low

said_moved : (x y : ℤ × ℕ) (answer : Said) → 0 < x.1 → 0 < y.1 → SameSum x y → SaysLowest x answer → SaysLowest y answer
said_moved x y answer some other same says =
    record { result = says.result; is_result = lowest_moved x y says.result some other same says.is_result; is_said = says.is_said }

pub sums_answer_alike : SumsAnswerAlike
sums_answer_alike slots read room answer held says =
    let is = joined_is_sum slots read room held in
    inl (room_held slots read room held.holds, said_moved (joined_pair read.digits room) (sum_of_slots slots) answer is.0.common (sum_positive slots) is.1 (says.yes is.0))

mean_moved : (x y : ℤ × ℕ) (count : ℤ) (answer : Said) → 0 < x.1 → 0 < y.1 → SameSum x y → pos 0 <ℤ count → SaysLowest (pair_mean x count) answer → SaysLowest (pair_mean y count) answer
mean_moved x y count answer some other same positive says =
    said_moved (pair_mean x count) (pair_mean y count) answer
    (product_positive x.1 (above_zero count) some (above count positive)) (product_positive y.1 (above_zero count) other (above count positive))
    (divided_same x y (above_zero count) same) says

pub means_answer_alike : MeansAnswerAlike
means_answer_alike slots read room count answer held says =
    let is = joined_is_sum slots read room held in
    record {
      yes = λ positive. inl (room_held slots read room held.holds, mean_moved (joined_pair read.digits room) (sum_of_slots slots) count answer is.0.common (sum_positive slots) is.1 positive ((says.yes positive).yes is.0));
      no = says.no;
    }

pub signs_answer_alike : SignsAnswerAlike
signs_answer_alike slots read room answer held says =
    let sign = says.yes (steps_leave_pairs slots read room held.holds) in
    inl (room_held slots read room held.holds, record { code_is = sign.code_is; order_is = sign.order_is ∙ ap order_number (joined_signs slots read.digits room (steps_join_all slots read room held.holds held.all)) })

pub floats_answer_alike : FloatsAnswerAlike
floats_answer_alike slots read room code value held says =
    let float = says.yes (steps_leave_pairs slots read room held.holds) in
    inl (room_held slots read room held.holds, record { code_is = float.code_is; value_is = float.value_is ∙ joined_floats slots read.digits room binary64 (steps_join_all slots read room held.holds held.all) })

pub decimals_answer_alike : DecimalsAnswerAlike
decimals_answer_alike slots read room places rule end texts answer held enough says =
    let holds : HasJoinedDecimal read.digits places room end = record {
      pair = steps_leave_pairs slots read room held.holds;
      digits_room = subst (λ (n : ℕ). digits_with n places ≤ length room) (sym held.holds.digits_is) enough.digits_room;
      bytes_room = subst (λ (n : ℕ). bytes_with n places ≤ end) (sym held.holds.digits_is) enough.bytes_room;
    } in
    record {
      yes = λ small.
          let text = (says.yes small).yes holds in
          inl (
            enough,
            record {
              code_is = text.code_is;
              text = joined_decimals slots read.digits room (rule_of rule) places (drop answer.span.start texts) (steps_join_all slots read room held.holds held.all) text.text;
              start = text.start;
              stop = text.stop;
            },
          );
      no = says.no;
    }
