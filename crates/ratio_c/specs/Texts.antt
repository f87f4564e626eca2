-- What the calls that print write.
use Rattle.std.specs.Prelude.{◌≡◌, ◌+◌, ◌*◌, ◌<◌, ◌≤◌, ◌<ℤ◌, ℕ, ℤ, pos, List, [], ◌++◌, length, take, drop, get_or, max, slice_index_or, false}
use Rattle.std.specs.{Fmt.signed_decimal, List.concat}
use Rattle.ratio_decimal.specs.Decimal.{IsDecimalOf}
use Rattle.ratio_core.specs.declared.text.Form.TheVariants.{Decimal}
use Rattle.ratio_core.specs.Printing.{text_of}
use Rattle.ratio_c.specs.Calls.{Tested}
use Rattle.ratio_c.specs.Codes.{code_answered, code_bad_option, code_denominator_not_positive, code_zero_denominator, return_bad_length, return_done}
use Rattle.ratio_c.specs.Crossing.{rule_of}
use Rattle.ratio_c.specs.declared.printing.Text.{Text}

-- the code and the text of a fraction: the code 0 and its two numbers, not reduced, or the code 4 where the denominator is 0
-- Example: 2/4: `2/4`
abbrev pub ShowsFields : ℕ → ℤ × ℤ → ℕ → List ℕ → Type 0
ShowsFields bits x code text =
    Tested (x.1 ≡ pos 0) ((code ≡ code_zero_denominator) × (text ≡ [])) ((code ≡ code_answered) × (text ≡ text_of bits Decimal false x.0 x.1))

-- the code and the text of a fraction as a decimal. A denominator not positive has the code 3, and more than 38 places or a rule above 5 have 9
-- Example: 2/3 with two places by the rule 1: `0.67`
abbrev pub ShowsDecimal : ℤ × ℤ → ℕ → ℕ → ℕ → List ℕ → Type 0
ShowsDecimal x places rule code text =
    Tested (pos 0 <ℤ x.1)
    (Tested ((places ≤ 38) × (rule < 6)) ((code ≡ code_answered) × IsDecimalOf (rule_of rule) places x.0 x.1 text) ((code ≡ code_bad_option) × (text ≡ [])))
    ((code ≡ code_denominator_not_positive) × (text ≡ []))

-- the length of the longest decimal of a type: the longer one of its least and its greatest number, a point and 38 digits
-- Example: for 32 bits: 50
abbrev pub decimal_longest : ℤ → ℤ → ℕ
decimal_longest lo hi = max (length (signed_decimal lo)) (length (signed_decimal hi)) + 39

-- the answer's code and this text are right for an item, and its span begins at a place and has the text's length
pub record IsTextAnswer (Shows : ℕ → List ℕ → Type 0) (at : ℕ) (text : List ℕ) (answer : Text) : Type 0 where
  pub shows : Shows answer.code text
  pub start : answer.span.start ≡ at
  pub end : answer.span.end ≡ at + length text

-- each item has a text. All are written from the first byte on, one after another, and the bytes behind them are unchanged. Each answer's
-- span starts behind the texts before its own. So the bytes in it are its item's text
pub record ArePrinted {A : Type 0} (Shows : A → ℕ → List ℕ → Type 0) (asked : List A) (old new : List ℕ) (answers : List Text) : Type 0 where
  pub texts : List (List ℕ)
  pub written : new ≡ concat texts ++ drop (length (concat texts)) old
  pub as_many : (length texts ≡ length asked) × (length asked ≡ length answers)
  pub each : (k : ℕ) → k < length asked → (x : A) (answer : Text)
      → IsTextAnswer (Shows (slice_index_or asked k x)) (length (concat (take k texts))) (get_or texts k []) (slice_index_or answers k answer)

-- with an answer and `room` bytes for each item, the call prints the texts (`ArePrinted`) and returns 0. Else it returns 1 and writes nothing
abbrev pub Prints : {A : Type 0} → (A → ℕ → List ℕ → Type 0) → ℕ → List A → List ℕ → List ℕ → List Text → List Text → ℕ → Type 0
Prints Shows room asked old new places answers result =
    Tested ((length asked ≡ length places) × (length asked * room ≤ length old)) ((result ≡ return_done) × ArePrinted Shows asked old new answers)
    ((result ≡ return_bad_length) × (new ≡ old) × (answers ≡ places))

-- Inner: an item's text of at most `longest` bytes is written at a place, and the other bytes are unchanged
pub record IsTextPut (Shows : ℕ → List ℕ → Type 0) (longest at : ℕ) (old new : List ℕ) (answer : Text) : Type 0 where
  pub text : List ℕ
  pub is : IsTextAnswer Shows at text answer
  pub short : length text ≤ longest
  pub written : new ≡ take at old ++ (text ++ drop answer.span.end old)
