-- The fields of a result that may be `None`.
use Rattle.std.specs.Prelude.{Option, None, Some}
use Rattle.num_rational.specs.declared.reduced.Reduced.{Reduced}
use Rattle.num_rational.specs.Ratio.{fields}

-- the two fields of the `Reduced` in an `Option`, if there is one
abbrev pub fields_in : {T : _} {i : _} {o : _} {e : _} {p : _} {h : _} → Option (Reduced T i o e p h) → Option (T × T)
fields_in None = None
fields_in (Some x) = Some (fields x.ratio)
