-- What the functions on the pages return. A fraction is a pair of whole numbers here.
use Rattle.std.specs.Prelude.{ℕ, pos, List, Option, Result, Ok, Err}
use Rattle.ratio_core.specs.declared.parse_error.RatioErrorKind.{RatioErrorKind}
use Rattle.num_rational.specs.declared.reduced.Reduced.{Reduced}
use Rattle.num_rational.specs.{Operators.ChecksQuotient, Operators.whole, Reduced.ReadsReduced, Reduced.lowest_numbers, Reduced.ratio_in}

-- the result is the fraction of the text divided by 3, or `None` if that does not fit. For a text that is refused it is the refusal
-- Example: `6/4`: 1/2
abbrev pub ReadsThird : {T : _} {i : _} {o : _} {e : _} {p : _} {h : _} → List ℕ → Result (Option (Reduced T i o e p h)) RatioErrorKind → Type 0
ReadsThird {T} {i} {o} {e} {p} {h} text (Ok third) = (read : Reduced T i o e p h) × ReadsReduced text (Ok read) × ChecksQuotient (lowest_numbers read) (whole (pos 3)) (ratio_in third)
ReadsThird {T} {i} {o} {e} {p} {h} text (Err refusal) = ReadsReduced {T = T} {i = i} {o = o} {e = e} {p = p} {h = h} text (Err refusal)
