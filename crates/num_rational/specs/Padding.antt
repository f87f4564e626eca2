-- How a fraction is printed under the options in a pair of braces.
use Rattle.std.specs.Prelude.{ℕ, ℤ, Bool, true, false, List, [], Option, None, Some, drop, if◌then◌else◌}
use Rattle.std.specs.Str.Parse.{starts_with_minus}
use Rattle.ratio_core.specs.declared.text.Form.{Form, TheVariants.Decimal}
use Rattle.ratio_decimal.specs.Precision.{half_even_text}
use Rattle.ratio_core.specs.Printing.{body_of, prefix_of, text_of}

-- the text of a `Reduced` in base 10: the fraction itself without a precision, and else a decimal with so many places
-- Example: 7/2 in `{}`: `7/2`; in `{:.2}`: `3.50`
abbrev pub text_under : Option ℕ → ℕ → ℤ → ℤ → List ℕ
text_under None bits n d = text_of bits Decimal false n d
text_under (Some places) bits n d = half_even_text places n d

-- a text in base 10, padded as a number (`pad`): a minus at its beginning counts as the sign, and the rest as the digits
-- Example: -1/2 in `{:06}`: `-001/2`
abbrev pub padded_base_ten : (Bool → List ℕ → List ℕ → List ℕ) → List ℕ → List ℕ
padded_base_ten pad text = if starts_with_minus text then pad true [] (drop 1 text) else pad false [] text

-- a fraction in base 2, 8 or 16, padded as a number not below 0. The numerator's prefix is the prefix, and the rest counts as the digits
-- Example: 1/2 in `{:#08x}`: `0x01/0x2`
abbrev pub padded_in_base : (Bool → List ℕ → List ℕ → List ℕ) → Bool → ℕ → Form → ℤ → ℤ → List ℕ
padded_in_base pad alternate bits form n d = pad false (prefix_of form) (body_of bits form alternate n d)
