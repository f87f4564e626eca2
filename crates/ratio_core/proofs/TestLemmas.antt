-- What tests tell.
use Rattle.std.specs.Prelude.{◌≡◌, ◌↔◌, ◌≤ℤ◌, ◌<ℤ◌, ℤ, Bool, true, false, IsTrue}
use Rattle.std.proofs.Common.{sym, arith, inl, inr, ◌∙◌}
use Rattle.std.proofs.lemmas.Int.{ints}
use Rattle.ratio_integer.specs.Comparison.{Tells}

-- if a test tells P from Q, P implies R, and Q excludes R, the test is true exactly if R holds
pub tells_iff : {P Q R : Type 0} (b : Bool) → Tells b P Q → (P → R) → (Q → ¬ R) → IsTrue b ↔ R
tells_iff b (inl t) f g = ((λ e. f t.1), (λ r. t.0))
tells_iff b (inr t) f g = ((λ e. absurd (let h : true ≡ false = sym e ∙ t.0 in cc)), (λ r. absurd (g t.1 r)))

-- if P holds exactly for x < y, the test `x < y` is true exactly if P holds
pub less_iff : {P : Type 0} (b : Bool) (x y : ℤ) → Tells b (x <ℤ y) (y ≤ℤ x) → (x <ℤ y) ↔ P → IsTrue b ↔ P
less_iff b x y t i = tells_iff b t i.0 (λ q p. let l = i.1 p in omega (arith, ints))

-- if a test of P is false, P does not hold
pub if_false : {P : Type 0} (b : Bool) → IsTrue b ↔ P → b ≡ false → ¬ P
if_false b i e p = let h : true ≡ false = sym (i.1 p) ∙ e in cc

pub iff_both : {P Q R : Type 0} → P ↔ Q → Q ↔ R → P ↔ R
iff_both i j = ((λ p. j.0 (i.0 p)), (λ r. i.1 (j.1 r)))
