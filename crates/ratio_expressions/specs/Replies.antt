-- What a line is answered.
use Rattle.std.specs.Prelude.{◌≡◌, ◌⊎◌, ℕ, Bool, true, false, List, Option}
use Rattle.std.specs.List.{list_all}
use Rattle.ratio_expressions.specs.Limits.{IsTooLong}
use Rattle.ratio_expressions.specs.Lines.{HasLineRefusal, IsLineWorth}
use Rattle.ratio_expressions.specs.Worths.{Worth}
use Rattle.ratio_expressions.specs.declared.refusal.Refusal.{Refusal}
use Rattle.ratio_expressions.specs.Readings.{IsAnswerInForm}
use Rattle.ratio_expressions.specs.Refused.{refusal_lines, too_long}
use Rattle.ratio_expressions.specs.Tokens.{is_blank_byte}
use Rattle.ratio_expressions.specs.declared.replies.form.Form.{Form}
use Rattle.ratio_expressions.specs.declared.replies.reply.Reply.{Reply}
use Rattle.ratio_expressions.specs.declared.replies.reply.Reply.TheVariants as replies

-- whether a line has only spaces and tabs, or nothing
abbrev pub is_blank : List ℕ → Bool
is_blank line = list_all is_blank_byte line

-- each name is worth what it was
abbrev pub AreKept : (List ℕ → Option Worth) → (List ℕ → Option Worth) → Type 0
AreKept named behind = (other : List ℕ) → behind other ≡ named other

-- the text says why a line is refused: it is too long to be read, or this is its refusal
-- Example: of 1,000,001 bytes: `error: the line has more than a million bytes`
abbrev pub IsRefusedAs : List ℕ → (List ℕ → Option Worth) → List ℕ → Type 0
IsRefusedAs line named text =
    (IsTooLong line × (text ≡ too_long)) ⊎ (¬ (IsTooLong line) × (r : Refusal) × HasLineRefusal line named r × (text ≡ refusal_lines line r))

-- the reply to a line, with what each name is worth before it and behind it: none to a blank line, or the value in a form of a line that is
-- not too long, or why the line is refused, and then the names are kept
-- Example: `x = 17/12` in `Mixed`: `1 5/12`, and x is 17/12 behind it
abbrev pub IsReply : List ℕ → Form → (List ℕ → Option Worth) → (List ℕ → Option Worth) → Reply → Type 0
IsReply line form named behind replies.Nothing = (is_blank line ≡ true) × AreKept named behind
IsReply line form named behind (replies.Answer text) =
    (is_blank line ≡ false) × ¬ (IsTooLong line) × (w : Worth) × IsLineWorth line named w behind × IsAnswerInForm line w form text.items
IsReply line form named behind (replies.Refused text) =
    (is_blank line ≡ false) × IsRefusedAs line named text.items × AreKept named behind

-- two replies are alike: both are nothing, or both are answers or both refusals, with the same bytes
abbrev pub AreAlike : Reply → Reply → Type 0
AreAlike replies.Nothing replies.Nothing = Unit {0}
AreAlike (replies.Answer text) (replies.Answer other) = text.items ≡ other.items
AreAlike (replies.Refused text) (replies.Refused other) = text.items ≡ other.items
AreAlike r q = ⊥

-- Inner: the reply says that the line is too long
abbrev pub IsTooLongReply : Reply → Type 0
IsTooLongReply (replies.Refused text) = text.items ≡ too_long
IsTooLongReply r = ⊥

-- Inner: the reply to a line that is read: its value in a form, or its refusal, and then the names are kept
abbrev pub IsReadReply : List ℕ → Form → (List ℕ → Option Worth) → (List ℕ → Option Worth) → Reply → Type 0
IsReadReply line form named behind replies.Nothing = ⊥
IsReadReply line form named behind (replies.Answer text) = (w : Worth) × IsLineWorth line named w behind × IsAnswerInForm line w form text.items
IsReadReply line form named behind (replies.Refused text) =
    (r : Refusal) × HasLineRefusal line named r × (text.items ≡ refusal_lines line r) × AreKept named behind
