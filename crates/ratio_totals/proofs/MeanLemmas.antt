-- The mean of a total in lowest terms.
use Rattle.std.specs.Prelude.{◌≡◌, ◌<◌, ◌⊎◌, ◌≤ℤ◌, ℕ, ℤ, pos, unsigned_abs, Option, Some, None}
use Rattle.std.proofs.Common.{subst, inl, inr}
use Rattle.ratio_integer.specs.Fraction.{Fits}
use Rattle.ratio_integer.specs.Range.{IsHeld}
use Rattle.ratio_slots.specs.LowestSum.{ChecksMeanBelow}
use Rattle.num_rational.specs.Ratio.{ChecksRatio, denominator, numerator}
use Rattle.num_rational.specs.Reduced.{ratio_in, ratio_of}
use Rattle.num_rational.specs.declared.reduced.Reduced.{Reduced}
use Rattle.ratio_totals.specs.Values.{ChecksReducedMean, mean_of}
use Rattle.ratio_totals.proofs.NumberLemmas.{long_out, terms_moved}

pub mean_some : {T : _} {i : _} {o : _} {e : _} {p : _} {h : _} (bound : ℕ) (x : ℤ × ℕ) (count : ℤ) (read : Option (ℤ × ℕ)) (n : ℤ) (d : ℕ) (r : Option (Reduced T i o e p h)) → read ≡ Some (n, d)
    → ChecksMeanBelow bound x count read → ChecksRatio (n, pos d) (ratio_in r) → ChecksReducedMean x count r
mean_some {i = i} bound x count read n d None is mean checks =
    let short = subst (ChecksMeanBelow bound x count) is mean in
    inr (terms_moved {bound = bound} {R = ℤ × ℤ} (λ r. r.0) (λ r. r.1) i.lo i.hi (mean_of x count) n d None short.1 checks)
mean_some {i = i} bound x count read n d (Some r) is mean checks =
    let short = subst (ChecksMeanBelow bound x count) is mean in
    (short.0, terms_moved {bound = bound} numerator denominator i.lo i.hi (mean_of x count) n d (Some (ratio_of r)) short.1 checks)

pub mean_none : (bound : ℕ) (lo hi : ℤ) (x : ℤ × ℕ) (count : ℤ) (read : Option (ℤ × ℕ)) → ((y : ℤ) → IsHeld lo hi y → unsigned_abs y < bound) → read ≡ None → ChecksMeanBelow bound x count read
    → (count ≤ℤ pos 0) ⊎ (¬ (Fits lo hi (mean_of x count).0 (pos (mean_of x count).1)))
mean_none bound lo hi x count read small is mean = elim (subst (ChecksMeanBelow bound x count) is mean) [
  | inl few ↦ inl few
  | inr long ↦ inr (long_out {bound = bound} lo hi (mean_of x count) small long)
]
