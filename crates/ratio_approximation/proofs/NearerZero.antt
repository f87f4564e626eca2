-- Which of two numbers is nearer to 0.
use Rattle.std.specs.Prelude.{◌≡◌, ◌<◌, ◌≤◌, ◌≤ℤ◌, ◌<ℤ◌, ◌+ℤ◌, ℤ, pos, negsuc, unsigned_abs, Bool}
use Rattle.std.proofs.Common.{arith, inl, inr}
use Rattle.std.proofs.lemmas.Int.{ints}
use Rattle.ratio_integer.specs.Comparison.{Tells}
use Rattle.ratio_core.specs.Order.{HaveUnlikeSigns}

pub nearer_below : (p a s : ℤ) (t : Bool) → HaveUnlikeSigns p a → s ≡ p +ℤ a → p <ℤ pos 0 → Tells t (pos 0 <ℤ s) (s ≤ℤ pos 0) → Tells t (unsigned_abs p < unsigned_abs a) (unsigned_abs a ≤ unsigned_abs p)
nearer_below (pos p) a s t unlike sum down told = absurd (omega (arith, ints))
nearer_below (negsuc p) (negsuc a) s t (inl unlike) sum down told = absurd (let up = unlike.1 in omega (arith, ints))
nearer_below (negsuc p) (negsuc a) s t (inr unlike) sum down told = absurd (let up = unlike.0 in omega (arith, ints))
nearer_below (negsuc p) (pos a) s t unlike sum down (inl told) = inl (told.0, (let over = told.1 in omega (arith, ints)))
nearer_below (negsuc p) (pos a) s t unlike sum down (inr told) = inr (told.0, (let under = told.1 in omega (arith, ints)))

pub nearer_above : (p a s : ℤ) (t : Bool) → HaveUnlikeSigns p a → s ≡ p +ℤ a → ¬ (p <ℤ pos 0) → Tells t (s <ℤ pos 0) (pos 0 ≤ℤ s) → Tells t (unsigned_abs p < unsigned_abs a) (unsigned_abs a ≤ unsigned_abs p)
nearer_above (negsuc p) a s t unlike sum up told = absurd (up (omega (arith, ints)))
nearer_above (pos p) (pos a) s t (inl unlike) sum up told = absurd (let down = unlike.0 in omega (arith, ints))
nearer_above (pos p) (pos a) s t (inr unlike) sum up told = absurd (let down = unlike.1 in omega (arith, ints))
nearer_above (pos p) (negsuc a) s t unlike sum up (inl told) = inl (told.0, (let under = told.1 in omega (arith, ints)))
nearer_above (pos p) (negsuc a) s t unlike sum up (inr told) = inr (told.0, (let over = told.1 in omega (arith, ints)))

pub nearer_both_below : (p a : ℤ) (t : Bool) → ¬ (HaveUnlikeSigns p a) → p <ℤ pos 0 → Tells t (a <ℤ p) (p ≤ℤ a) → Tells t (unsigned_abs p < unsigned_abs a) (unsigned_abs a ≤ unsigned_abs p)
nearer_both_below p (pos a) t like down told = absurd (like (inl (down, omega (arith, ints))))
nearer_both_below (pos p) (negsuc a) t like down told = absurd (omega (arith, ints))
nearer_both_below (negsuc p) (negsuc a) t like down (inl told) = inl (told.0, (let less = told.1 in omega (arith, ints)))
nearer_both_below (negsuc p) (negsuc a) t like down (inr told) = inr (told.0, (let most = told.1 in omega (arith, ints)))

pub nearer_both_above : (p a : ℤ) (t : Bool) → ¬ (HaveUnlikeSigns p a) → ¬ (p <ℤ pos 0) → Tells t (p <ℤ a) (a ≤ℤ p) → Tells t (unsigned_abs p < unsigned_abs a) (unsigned_abs a ≤ unsigned_abs p)
nearer_both_above (negsuc p) a t like up told = absurd (up (omega (arith, ints)))
nearer_both_above (pos p) (negsuc a) t like up told = absurd (like (inr (omega (arith, ints), omega (arith, ints))))
nearer_both_above (pos p) (pos a) t like up (inl told) = inl (told.0, (let less = told.1 in omega (arith, ints)))
nearer_both_above (pos p) (pos a) t like up (inr told) = inr (told.0, (let most = told.1 in omega (arith, ints)))
