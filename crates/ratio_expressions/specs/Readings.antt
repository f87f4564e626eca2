-- How an answer shows how its line was read.
use Rattle.std.specs.Prelude.{◌≡◌, ◌++◌, ℕ, List, Option, None, Some, codes}
use Rattle.ratio_expressions.specs.Slashes.{IsShownAs}
use Rattle.ratio_expressions.specs.Worths.{Worth, Amount, Truth}
use Rattle.ratio_expressions.specs.Forms.{IsValueInForm}
use Rattle.ratio_expressions.specs.declared.replies.form.Form.{Form}
use Rattle.ratio_expressions.specs.declared.replies.form.Form.TheVariants as forms

-- what is between a line as it was read and its value
-- Example: 3/2: ` = `; true: `: `
abbrev pub between : Worth → List ℕ
between (Amount x) = codes " = "
between (Truth b) = codes ": "

-- a value's text behind the line as it was read, if that is shown
-- Example: `1/2 / (1/3)`, 3/2: `1/2 / (1/3) = 3/2 = 1.5`
abbrev pub behind_line : Option (List ℕ) → Worth → List ℕ → List ℕ
behind_line None w value = value
behind_line (Some shown) w value = (shown ++ between w) ++ value

-- the text is a value as `Both` writes it, behind its line as that was read if a chain of its slashes is taken whole
-- Example: `1/2 / 1/3`: `1/2 / (1/3) = 3/2 = 1.5`; `1/2 * 1/3`: `1/6 ≈ 0.166667`
pub record IsWithReading (line : List ℕ) (w : Worth) (text : List ℕ) : Type 0 where
  pub shown : Option (List ℕ)
  pub read : IsShownAs line shown
  pub value : List ℕ
  pub form : IsValueInForm w forms.Both value
  pub written : text ≡ behind_line shown w value

-- the text is the answer to a line with this value: in `Both` it shows how the line was read
abbrev pub IsAnswerInForm : List ℕ → Worth → Form → List ℕ → Type 0
IsAnswerInForm line w forms.Fraction text = IsValueInForm w forms.Fraction text
IsAnswerInForm line w (forms.Decimal places) text = IsValueInForm w (forms.Decimal places) text
IsAnswerInForm line w forms.Mixed text = IsValueInForm w forms.Mixed text
IsAnswerInForm line w (forms.Fields places) text = IsValueInForm w (forms.Fields places) text
IsAnswerInForm line w forms.Float text = IsValueInForm w forms.Float text
IsAnswerInForm line w forms.Both text = IsWithReading line w text
