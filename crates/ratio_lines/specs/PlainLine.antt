-- The line that ends first in some bytes. A plain line is cut into its parts while its end is looked for.
use Rattle.std.specs.Prelude.{◌≡◌, ℕ, ◌+◌, ◌-◌, ◌<◌, ◌≤◌, List, ◌∷◌, ◌++◌, length, take, drop, true, Option, None, Some}
use Rattle.std.specs.{Borrow.Bor, Char.is_ascii_graphic, List.list_all}
use Rattle.either.specs.declared.Either.{Either}
use Rattle.num_rational.specs.declared.ratio.Ratio.{Ratio}
use Rattle.ratio_lines.specs.{AnswerText.bytes_of, Answers.has_byte, Cuts.HasNone, KeptLine.IsKeptAnswer, KeptLine.extended, Operands.operator_of}
use Rattle.ratio_lines.specs.declared.operator.Operator.{Operator}
use Rattle.ratio_lines.specs.Lines.{longest_line}

-- each byte is a graphic character, from `!` to `~`
-- Example: `1/2`; not `1 2`
abbrev pub IsGraphic : List ℕ → Type 0
IsGraphic text = list_all is_ascii_graphic text ≡ true

-- graphic characters fill the bytes from one place to another, and this byte follows
pub record EndsPart (bytes : List ℕ) (from byte end : ℕ) : Type 0 where
  pub after : from ≤ end
  pub within : end < length bytes
  pub graphic : IsGraphic (take (end - from) (drop from bytes))
  pub split : drop from bytes ≡ take (end - from) (drop from bytes) ++ byte ∷ drop (end + 1) bytes

-- the bytes begin with a line that is not too long: two operands of graphic characters (`IsGraphic`) and an operator between them, with
-- single spaces. `after` follows its line end
-- Example: `1/2 + 1/3\n4`: `4` follows
pub record BeginsPlain (bytes left : List ℕ) (operator : Operator) (right after : List ℕ) : Type 0 where
  pub name : List ℕ
  pub split : bytes ≡ left ++ 32 ∷ (name ++ 32 ∷ (right ++ 10 ∷ after))
  pub named : operator_of name ≡ Some operator
  pub left_graphic : IsGraphic left
  pub name_graphic : IsGraphic name
  pub right_graphic : IsGraphic right
  pub left_some : has_byte left ≡ true
  pub right_some : has_byte right ≡ true
  pub short : length left + length name + length right + 2 ≤ longest_line

-- the bytes are the rest of the begun line, a line end and `after`, and this is the answer to that line
pub record IsFirstAnswer (line : Option (List ℕ)) (bytes after answer : List ℕ) : Type 0 where
  pub ended : List ℕ
  pub none : HasNone 10 ended
  pub split : bytes ≡ ended ++ 10 ∷ after
  pub answers : IsKeptAnswer (extended line ended) answer

-- the result is the answer to the first line and the bytes after its end (`IsFirstAnswer`), or `None` where no line ends
abbrev pub IsNextAnswer : {T : _} {i : _} {o : _} {e : _} {p : _} {h : _} → Option (List ℕ) → List ℕ → Option (Either (Bor (List ℕ)) (Ratio T i o e p h) × Bor (List ℕ)) → Type 0
IsNextAnswer line bytes None = HasNone 10 bytes
IsNextAnswer line bytes (Some next) = IsFirstAnswer line bytes next.1.now (bytes_of next.0)
