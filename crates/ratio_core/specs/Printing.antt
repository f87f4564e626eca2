-- The text of a fraction, and how it reads back.
use Rattle.std.specs.Prelude.{◌+◌, ◌-◌, ◌*◌, ◌/◌, ◌^◌, ◌==◌, length, max, ℕ, suc, ℤ, pos, negsuc, Bool, true, false, List, [], ◌∷◌, ◌++◌, map, codes, if◌then◌else◌}
use Rattle.std.specs.Fmt.{digit_glyph, signed_decimal}
use Rattle.std.specs.Int.Digits.{digits_of}
use Rattle.std.specs.Ordering.{int_eq}
use Rattle.ratio_integer.specs.Fraction.{IsLowestTermsOf}
use Rattle.ratio_core.specs.declared.parse_error.RatioErrorKind.{RatioErrorKind}
use Rattle.ratio_core.specs.declared.text.Form.{Form}
use Rattle.ratio_core.specs.declared.text.Form.TheVariants.{Binary, Decimal, LowerHex, Octal, UpperHex}
use Rattle.ratio_core.specs.Reading.{ReadsLowest, Refuses, slash}

-- the base of each printed form
-- Example: `{:#x}`: 16
abbrev pub base_of : Form → ℕ
base_of Decimal = 10
base_of Binary = 2
base_of Octal = 8
base_of LowerHex = 16
base_of UpperHex = 16

-- the prefix that names the base: `0b`, `0o` or `0x`; decimal has none
-- Example: `{:#x}`: `0x`
abbrev pub prefix_of : Form → List ℕ
prefix_of Decimal = []
prefix_of Binary = codes "0b"
prefix_of Octal = codes "0o"
prefix_of LowerHex = codes "0x"
prefix_of UpperHex = codes "0x"

-- the prefix if it is wanted (`alternate` is set), and else nothing
-- Example: `{:#x}`: `0x`; `{:x}`: nothing
abbrev pub shown_prefix : Form → Bool → List ℕ
shown_prefix form alternate = if alternate then prefix_of form else []

-- the digits of n in the base without leading zeros, and `0` for 0
-- Example: 255 in base 16: `ff`
abbrev pub numeral : ℕ → Bool → ℕ → List ℕ
numeral base upper n = if n == 0 then 48 ∷ [] else map (digit_glyph upper) (digits_of base n)

-- the number, and 2^bits more if it is below 0
-- Example: -1 in 8 bits: 255
abbrev pub twos_complement : ℕ → ℤ → ℕ
twos_complement bits (pos n) = n
twos_complement bits (negsuc n) = 2 ^ bits - suc n

-- in decimal, the text that std prints: the digits, after a minus if it is below 0. In base 2, 8 or 16, the numeral of its two's complement
-- Example: -1 in base 16: `ff`
abbrev pub number_text : ℕ → Form → ℤ → List ℕ
number_text bits Decimal z = signed_decimal z
number_text bits Binary z = numeral 2 false (twos_complement bits z)
number_text bits Octal z = numeral 8 false (twos_complement bits z)
number_text bits LowerHex z = numeral 16 false (twos_complement bits z)
number_text bits UpperHex z = numeral 16 true (twos_complement bits z)

-- the text of n and, unless d is 1, a slash, the prefix and the text of d. Nothing is reduced
-- Example: 2/4 in `{:#x}`: `2/0x4`
abbrev pub body_of : ℕ → Form → Bool → ℤ → ℤ → List ℕ
body_of bits form alternate n d =
    number_text bits form n ++ (if int_eq d (pos 1) then [] else slash ∷ (shown_prefix form alternate ++ number_text bits form d))

-- the prefix, and then the body
-- Example: 2/4 in `{:#x}`: `0x2/0x4`
abbrev pub text_of : ℕ → Form → Bool → ℤ → ℤ → List ℕ
text_of bits form alternate n d = shown_prefix form alternate ++ body_of bits form alternate n d

-- room for the text in base 10 of a fraction with numbers from lo to hi: a slash, and twice the length of the longer one of lo and hi
-- Example: 9, as `-128` has 4
abbrev pub base_ten_room : ℤ → ℤ → ℕ
base_ten_room lo hi = 2 * max (length (signed_decimal lo)) (length (signed_decimal hi)) + 1

-- any lowest terms that the text is read as are those of n/d, and no refusal applies to it
-- Example: `2/4`: 1/2
pub record ReadsBack (lo hi : ℤ) (Reads : ℤ → ℤ → Type 0) (n d : ℤ) : Type 0 where
  pub lowest : (a b : ℤ) → ReadsLowest lo hi Reads a b → IsLowestTermsOf n d a b
  pub accepted : (kind : RatioErrorKind) → ¬ (Refuses lo hi Reads kind)
