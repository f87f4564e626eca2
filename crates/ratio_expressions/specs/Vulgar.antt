-- The vulgar fractions of Unicode, such as `½`, and a number with one of them spelled with a slash.
use Rattle.std.specs.Prelude.{◌+◌, ◌-◌, ℕ, List, [], ◌∷◌, ◌++◌, length, take, drop, codes, Option, Some, None, option_map, nat_lt, ◌&&◌, ◌==◌, if◌then◌else◌, slice_index}
use Rattle.std.specs.List.{take_while}
use Rattle.std.specs.Char.{is_ascii, is_ascii_digit}

-- `¼`, `½` and `¾` with a slash, by the second of their two bytes in UTF-8
-- Example: 189: `1/2`
abbrev pub vulgar_of_two : ℕ → Option (List ℕ)
vulgar_of_two c = if c == 188 then Some (codes "1/4") else (if c == 189 then Some (codes "1/2") else (if c == 190 then Some (codes "3/4") else None))

-- the fractions from `⅐` to `⅞` with a slash, by the last of their three bytes in UTF-8, in Unicode's order: `⅐ ⅑ ⅒ ⅓ ⅔ ⅕ ⅖ ⅗ ⅘ ⅙ ⅚ ⅛ ⅜ ⅝ ⅞`
-- Example: 147: `1/3`
abbrev pub number_forms : ℕ → Option (List ℕ)
number_forms c =
    if c == 144 then Some (codes "1/7") else (
    if c == 145 then Some (codes "1/9") else (
    if c == 146 then Some (codes "1/10") else (
    if c == 147 then Some (codes "1/3") else (
    if c == 148 then Some (codes "2/3") else (
    if c == 149 then Some (codes "1/5") else (
    if c == 150 then Some (codes "2/5") else (
    if c == 151 then Some (codes "3/5") else (
    if c == 152 then Some (codes "4/5") else (
    if c == 153 then Some (codes "1/6") else (
    if c == 154 then Some (codes "5/6") else (
    if c == 155 then Some (codes "1/8") else (
    if c == 156 then Some (codes "3/8") else (
    if c == 157 then Some (codes "5/8") else (
    if c == 158 then Some (codes "7/8") else None))))))))))))))

-- a fraction of three bytes by the last two: one of these, or `↉`
-- Example: 134 and 137: `0/3`
abbrev pub vulgar_of_three : ℕ → ℕ → Option (List ℕ)
vulgar_of_three b c = if b == 133 then number_forms c else (if (b == 134) && (c == 137) then Some (codes "0/3") else None)

-- the vulgar fraction that the text begins with, with a slash, and its length
-- Example: `½*3`: `1/2`, 2
unfoldable pub vulgar : List ℕ → Option (List ℕ × ℕ)
vulgar text =
    if slice_index text 0 == 194 then option_map (λ s. (s, 2)) (vulgar_of_two (slice_index text 1)) else (
    if slice_index text 0 == 226 then option_map (λ s. (s, 3)) (vulgar_of_three (slice_index text 1) (slice_index text 2)) else None)

-- how long a vulgar fraction is, or 0
abbrev pub length_of : Option (List ℕ × ℕ) → ℕ
length_of None = 0
length_of (Some v) = v.1

-- how long the vulgar fraction is that the text begins with, or 0
-- Example: `½*3`: 2
unfoldable pub vulgar_length : List ℕ → ℕ
vulgar_length text = length_of (vulgar text)

-- how many bytes are before the first character beyond ASCII
-- Example: `1½`: 1
abbrev pub ascii_length : List ℕ → ℕ
ascii_length text = length (take_while is_ascii text)

-- a space, if a digit is before this place
abbrev pub space_behind_digit : List ℕ → ℕ → List ℕ
space_behind_digit text at = if nat_lt 0 at && is_ascii_digit (slice_index text (at - 1)) then 32 ∷ [] else []

-- the text with a fraction in place of the bytes at a place
abbrev pub with_fraction : List ℕ → ℕ → Option (List ℕ × ℕ) → List ℕ
with_fraction text at None = text
with_fraction text at (Some v) = take at text ++ space_behind_digit text at ++ v.0 ++ drop (at + v.1) text

-- the text with a slash in place of its vulgar fraction, if one is its first character beyond ASCII. A space comes before it behind a digit
-- Example: `½%`: `1/2%`; `1½`: `1 1/2`
abbrev pub with_slash : List ℕ → List ℕ
with_slash text = with_fraction text (ascii_length text) (vulgar (drop (ascii_length text) text))
