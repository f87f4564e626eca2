-- Fractions that lie apart in memory, place by place.
use Rattle.std.specs.Prelude.{◌+◌, ◌-◌, ◌*◌, ◌/◌, ◌<◌, ◌≤◌, ◌↔◌, ℕ, ℤ, List, IsTrue, length, slice_index_or}
use Rattle.std.proofs.Common.{arith, rules}
use Rattle.std.proofs.Math.Dec.{leb}
use Rattle.std.proofs.Math.Nat.{le-div_iff_mul-le}
use Rattle.std.proofs.lemmas.Nat.{mul-le}
use borrow.Author.Tests.{tests}
use Rattle.ratio_c.specs.Strided.{Reaches, strided}
use Rattle.ratio_c.specs.declared.numbers64.Pair64.{Pair64}

-- each answer before the n-th is right for the pair at its place
pub record AnsweredBefore {B : Type 0} (Gives : Pair64 → B → Type 0) (left : List ℤ) (left_stride : ℕ) (right : List ℤ) (right_stride : ℕ) (answers : List B) (n : ℕ) : Type 0 where
  pub each : (i : ℕ) (e : B) → i < n → Gives (record { left = strided left left_stride i; right = strided right right_stride i }) (slice_index_or answers i e)

true_most : (a b : ℕ) → IsTrue (leb a b) → a ≤ b
true_most a b holds = search (rules, tests)

most_true : (a b : ℕ) → a ≤ b → IsTrue (leb a b)
most_true a b most = search (rules, tests)

pub reaches_by_quotient : (words : List ℤ) (stride count : ℕ) → 0 < stride → 2 ≤ length words → 0 < count → IsTrue (leb (count - 1) ((length words - 2) / stride)) ↔ Reaches words stride count
reaches_by_quotient words stride count positive some items = (
  λ holds. record { last = λ again. let times = (le-div_iff_mul-le positive).0 (true_most _ _ holds) in omega (arith, times) },
  λ reach. let last = reach.last items in most_true _ _ ((le-div_iff_mul-le positive).1 (omega (arith, last))),
)

pub within : (words : List ℤ) (stride count place : ℕ) → Reaches words stride count → place < count → place * stride + 1 < length words
within words stride count place reach below =
    let last = reach.last (omega arith) in
    let times = mul-le place stride (count - 1) stride (omega arith) (omega arith) in
    omega (arith, last, times)
