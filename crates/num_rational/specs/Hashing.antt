-- What a fraction feeds a hasher.
use Rattle.std.specs.Prelude.{ℕ, ℤ, List}
use Rattle.std.specs.List.{flat_map}
use Rattle.ratio_core.proofs.HashLaws.{codes_of}
use Rattle.num_rational.specs.declared.ratio.Ratio.{Ratio}
use Rattle.num_rational.specs.Ratio.{denominator, numerator}

-- the codes of the fraction: the one list that is `IsCodesOf` its two numbers
-- Example: 14/6: 2, 3, 0
abbrev pub codes_of_ratio : {T : _} {i : _} {o : _} {e : _} {p : _} {h : _} → Ratio T i o e p h → List ℤ
codes_of_ratio {i = i} x = codes_of i.lo i.hi (numerator x) (denominator x) x.nonzero

-- what the codes of a fraction feed a hasher, each by the element's own hash
abbrev pub writes_of : {T : _} {i : _} {o : _} {e : _} {p : _} {h : _} → Ratio T i o e p h → List (List ℕ)
writes_of {i = i} x = flat_map i.number_hash_input (codes_of_ratio x)
