-- Where bytes are cut.
use Rattle.std.specs.Prelude.{◌≡◌, ℕ, List, ◌∷◌, ◌++◌, ◌==◌, false, Option, None, Some}
use Rattle.std.specs.{Borrow.Bor, List.list_any}

-- no byte here has this value
-- Example: `/` in `abc`
abbrev pub HasNone : ℕ → List ℕ → Type 0
HasNone byte bytes = list_any (λ b. b == byte) bytes ≡ false

-- the bytes before the first such byte, and the bytes after it, or there is no such byte
-- Example: `a/b/c` at `/`: `a` and `b/c`
abbrev pub IsCut : ℕ → List ℕ → Option (Bor (List ℕ) × Bor (List ℕ)) → Type 0
IsCut byte bytes None = HasNone byte bytes
IsCut byte bytes (Some cut) = HasNone byte cut.0.now × (bytes ≡ cut.0.now ++ byte ∷ cut.1.now)
