-- The status with which the program ends.
use Rattle.std.specs.Prelude.{ℕ, Bool, true, false, Result, Ok, Err}

-- 0 if each line has a value, 1 if one has none, and 2 if the program stopped before its end
abbrev pub status : {E : Type 0} → Result Bool E → ℕ
status (Ok true) = 0
status (Ok false) = 1
status (Err fault) = 2
