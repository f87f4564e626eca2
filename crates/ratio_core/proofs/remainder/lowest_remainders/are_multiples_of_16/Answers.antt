use Rattle.std.specs.Prelude.{◌≡◌, ◌%◌, ◌/◌, ℕ, ℤ, pos}
use Rattle.std.proofs.Common.{◌∙◌, sym, arith}
use Rattle.std.proofs.lemmas.Int.{ints}
use Rattle.ratio_integer.specs.Division.{IsMultiple}
use Rattle.ratio_core.proofs.remainder.lowest_remainders.are_multiples_of_16.Goals as goal

multiple : (z : ℤ) (n : ℕ) → pos n ≡ z → n % 16 ≡ 0 → IsMultiple z (pos 16)
multiple z n is rest = (pos (n / 16), sym is ∙ omega (arith, ints, rest))

pub returns-then-b-eq0 : goal.returns-then-b-eq0
returns-then-b-eq0 g c = λ h. (multiple _ _ c.in-Some-Some.ensures.1 c.if-b-eq0.true, multiple _ _ c.in-Some-Some.ensures'.1 (grind (arith, h)))
