-- Which token a text begins with, and how a text is cut into tokens.
use Rattle.std.specs.Prelude.{◌≡◌, ◌≢◌, ◌<◌, ◌≤◌, ◌+◌, ◌-◌, ℕ, Bool, true, false, not, List, [], ◌∷◌, length, drop, Option, Some, None, option_map, nat_lt, ◌&&◌, ◌||◌, ◌==◌, if◌then◌else◌, slice_index}
use Rattle.std.specs.List.{take_while}
use Rattle.std.specs.Char.{is_ascii_digit, is_ascii_alphabetic, is_ascii_alphanumeric}
use Rattle.ratio_expressions.specs.declared.token.Operator.TheVariants.{Less, AtMost, Equal, NotEqual, AtLeast, Greater, Add, Subtract, Multiply, Divide, Remainder, Power}
use Rattle.ratio_expressions.specs.declared.token.Spacing.{Spacing}
use Rattle.ratio_expressions.specs.declared.token.Spacing.TheVariants.{Tight, Half, Wide}
use Rattle.ratio_expressions.specs.declared.token.Kind.{Kind}
use Rattle.ratio_expressions.specs.declared.token.Kind.TheVariants as kinds
use Rattle.ratio_expressions.specs.declared.token.Token.{Token}
use Rattle.ratio_expressions.specs.Vulgar.{vulgar_length}

-- how many digits the text begins with
-- Example: `12.5`: 2
unfoldable pub digits : List ℕ → ℕ
digits text = length (take_while is_ascii_digit text)

-- how long this byte and the digits behind it are, or 0 if there is no digit
-- Example: a slash, in `/3*4`: 2
unfoldable pub led : ℕ → List ℕ → ℕ
led c text = if (slice_index text 0 == c) && nat_lt 0 (digits (drop 1 text)) then digits (drop 1 text) + 1 else 0

-- how long a sign of an exponent is
-- Example: `-3`: 1
unfoldable pub exponent_sign : List ℕ → ℕ
exponent_sign text = if (slice_index text 0 == 45) || (slice_index text 0 == 43) then 1 else 0

-- how long a sign or none and digits are, or 0 if there is no digit
-- Example: `-3*4`: 2
unfoldable pub signed_digits : List ℕ → ℕ
signed_digits text = if nat_lt 0 (digits (drop (exponent_sign text) text)) then exponent_sign text + digits (drop (exponent_sign text) text) else 0

-- how long an exponent is: an e, and a sign or none and digits
-- Example: `e-3*4`: 3
unfoldable pub exponent : List ℕ → ℕ
exponent text = if ((slice_index text 0 == 101) || (slice_index text 0 == 69)) && nat_lt 0 (signed_digits (drop 1 text)) then signed_digits (drop 1 text) + 1 else 0

-- how long a point with digits and an exponent are, each if it is there
-- Example: `.5e-3`: 5
unfoldable pub decimal : List ℕ → ℕ
decimal text = led 46 text + exponent (drop (led 46 text) text)

-- whether an operand begins: a digit, a point, a name or a parenthesis
-- Example: `3+4`; not ` 3`
abbrev pub begins_operand : List ℕ → Bool
begins_operand text = let b = slice_index text 0 in is_ascii_alphanumeric b || ((b == 95) || ((b == 46) || (b == 40)))

-- how long a percent sign is that belongs to the number before it: no operand touches it, and no slash without spaces is before the number
-- Example: `%*3`: 1; `%3`: 0; the sign of `1/2%`: 0
unfoldable pub percent : Bool → List ℕ → ℕ
percent slash text = if (slice_index text 0 == 37) && not (slash || begins_operand (drop 1 text)) then 1 else 0

-- how long a vulgar fraction is, or a space and a vulgar fraction, or 0
-- Example: ` ½*3`: 3
unfoldable pub vulgar_tail : List ℕ → ℕ
vulgar_tail text = if slice_index text 0 == 32 then (if nat_lt 0 (vulgar_length (drop 1 text)) then vulgar_length (drop 1 text) + 1 else 0) else vulgar_length text

-- how long what makes a whole number a mixed number is: a space and a fraction with a slash, or a vulgar fraction, maybe behind a space
-- Example: ` 1/2*3`: 4; `½`: 2
unfoldable pub mixed_tail : List ℕ → ℕ
mixed_tail text = if nat_lt 0 (led 32 text) && nat_lt 0 (led 47 (drop (led 32 text) text)) then led 32 text + led 47 (drop (led 32 text) text) else vulgar_tail text

-- whether a byte is blank: a space or a tab
abbrev pub is_blank_byte : ℕ → Bool
is_blank_byte b = (b == 32) || (b == 9)

-- how many blank bytes the text begins with
-- Example: ` ^2`: 1
unfoldable pub blanks : List ℕ → ℕ
blanks text = length (take_while is_blank_byte text)

-- whether a `^` or a `**` comes first, maybe behind blank bytes
abbrev pub begins_power : List ℕ → Bool
begins_power text = let rest = drop (blanks text) text in (slice_index rest 0 == 94) || ((slice_index rest 0 == 42) && (slice_index rest 1 == 42))

-- how long what makes a whole number a mixed number or a decimal is. Before a `^` no mixed number ends, and right of a slash without spaces none
-- begins
-- Example: ` 1/2*3`: 4; ` 1/2^3`: 0; `.5`: 2
unfoldable pub tail : Bool → List ℕ → ℕ
tail slash text = if nat_lt 0 (mixed_tail text) && not (slash || begins_power (drop (mixed_tail text) text)) then mixed_tail text else decimal text

-- how long the number is that the text begins with, without a percent sign, or 0: a decimal or a mixed number, or a vulgar fraction
-- Example: `12.5%*80`: 4; `1/2`: 1; `1 1/2`: 5; `.5`: 2; `1½`: 3
unfoldable pub plain_number : Bool → List ℕ → ℕ
plain_number slash text =
    if nat_lt 0 (digits text) then digits text + tail slash (drop (digits text) text) else (
    if nat_lt 0 (vulgar_length text) then vulgar_length text else (
    if nat_lt 0 (led 46 text) then decimal text else 0))

-- how long the number is that the text begins with, or 0: with the percent sign that belongs to it. A slash without spaces may be before it
-- Example: `12.5%*80`: 5; `7%3`: 1
unfoldable pub number : Bool → List ℕ → ℕ
number slash text = if nat_lt 0 (plain_number slash text) then plain_number slash text + percent slash (drop (plain_number slash text) text) else 0

-- a letter or an underscore
abbrev pub starts_name : ℕ → Bool
starts_name c = is_ascii_alphabetic c || (c == 95)

-- a letter, a digit or an underscore
abbrev pub is_name_byte : ℕ → Bool
is_name_byte c = is_ascii_alphanumeric c || (c == 95)

-- how long the name is that the text begins with, or 0
-- Example: `x2+1`: 2
unfoldable pub name : List ℕ → ℕ
name text = if starts_name (slice_index text 0) then length (take_while is_name_byte text) else 0

-- the operator, the parenthesis or the comma of one byte: `+ - * / % ^ < = > ( ) ,`. A slash and a percent sign are set as without spaces
abbrev pub one_byte : ℕ → Option Kind
one_byte c =
    if c == 43 then Some (kinds.Operator Add) else (
    if c == 45 then Some (kinds.Operator Subtract) else (
    if c == 42 then Some (kinds.Operator Multiply) else (
    if c == 47 then Some (kinds.Operator (Divide Tight)) else (
    if c == 37 then Some (kinds.Operator (Remainder Half)) else (
    if c == 94 then Some (kinds.Operator Power) else (
    if c == 60 then Some (kinds.Operator Less) else (
    if c == 61 then Some (kinds.Operator Equal) else (
    if c == 62 then Some (kinds.Operator Greater) else (
    if c == 40 then Some kinds.Open else (
    if c == 41 then Some kinds.Close else (
    if c == 44 then Some kinds.Comma else None)))))))))))

-- whether the text begins with these two bytes
-- Example: 60 and 61, of `<=3`
abbrev pub begins_two : ℕ → ℕ → List ℕ → Bool
begins_two b c text = (slice_index text 0 == b) && (slice_index text 1 == c)

-- whether the text begins with these three bytes
abbrev pub begins_three : ℕ → ℕ → ℕ → List ℕ → Bool
begins_three a b c text = (slice_index text 0 == a) && ((slice_index text 1 == b) && (slice_index text 2 == c))

-- the operator, the parenthesis or the comma that a text begins with, and its length: the longest, of which some have a sign beyond ASCII, in
-- UTF-8: `− – ≠ ≤ ≥ <= >= != ** × · ∙ ⋅ ÷ ⁄`, or one byte
-- Example: `<=3`: `<=`, 2; `**3`: `^`, 2
unfoldable pub symbol : List ℕ → Option (Kind × ℕ)
symbol text =
    if begins_three 226 136 146 text then Some (kinds.Operator Subtract, 3) else (
    if begins_three 226 128 147 text then Some (kinds.Operator Subtract, 3) else (
    if begins_three 226 136 153 text then Some (kinds.Operator Multiply, 3) else (
    if begins_three 226 139 133 text then Some (kinds.Operator Multiply, 3) else (
    if begins_three 226 129 132 text then Some (kinds.Operator (Divide Tight), 3) else (
    if begins_three 226 137 160 text then Some (kinds.Operator NotEqual, 3) else (
    if begins_three 226 137 164 text then Some (kinds.Operator AtMost, 3) else (
    if begins_three 226 137 165 text then Some (kinds.Operator AtLeast, 3) else (
    if begins_two 60 61 text then Some (kinds.Operator AtMost, 2) else (
    if begins_two 62 61 text then Some (kinds.Operator AtLeast, 2) else (
    if begins_two 33 61 text then Some (kinds.Operator NotEqual, 2) else (
    if begins_two 42 42 text then Some (kinds.Operator Power, 2) else (
    if begins_two 195 151 text then Some (kinds.Operator Multiply, 2) else (
    if begins_two 194 183 text then Some (kinds.Operator Multiply, 2) else (
    if begins_two 195 183 text then Some (kinds.Operator (Divide Half), 2) else
    option_map (λ k. (k, 1)) (one_byte (slice_index text 0))))))))))))))))

-- what a text begins with, and its length: the longest number, the longest name, or the longest operator, parenthesis or comma. A slash without
-- spaces may be before it
-- Example: `12.5%*80`: a number, 5
abbrev pub first_token : Bool → List ℕ → Option (Kind × ℕ)
first_token slash text = if nat_lt 0 (number slash text) then Some (kinds.Number, number slash text) else (if nat_lt 0 (name text) then Some (kinds.Name, name text) else symbol text)

-- whether a blank byte is at this place
abbrev pub is_blank_at : List ℕ → ℕ → Bool
is_blank_at text at = is_blank_byte (slice_index text at)

-- whether this byte is right before the place
abbrev pub is_behind : ℕ → List ℕ → ℕ → Bool
is_behind byte text at = nat_lt 0 at && (slice_index text (at - 1) == byte)

-- whether a blank byte is right before the place
-- Example: 2, of `1 /2`; neither 0 nor 3
abbrev pub is_behind_blank : List ℕ → ℕ → Bool
is_behind_blank text at = nat_lt 0 at && is_blank_at text (at - 1)

-- how long the slash is that is right before the place, or 0: `/`, or `⁄` of three bytes
-- Example: 2, of `1/2`: 1; 4, of `1⁄2`: 3
abbrev pub slash_behind : List ℕ → ℕ → ℕ
slash_behind text at = if is_behind 47 text at then 1 else (if nat_lt 2 at && begins_three 226 129 132 (drop (at - 3) text) then 3 else 0)

-- whether a slash without spaces is right before the place
-- Example: 2, of `1/2`; not 3, of `1 /2`
abbrev pub is_behind_slash : List ℕ → ℕ → Bool
is_behind_slash text at = nat_lt 0 (slash_behind text at) && not (is_behind_blank text (at - slash_behind text at))

-- how an operator is set that has a blank byte before it or none, and one behind it or none, and that is set as `s` without spaces
-- Example: a slash in `1 / 2`: `Wide`; in `1 /2`: `Half`; in `1/2`: `Tight`
abbrev pub set_as : Bool → Bool → Spacing → Spacing
set_as true true s = Wide
set_as true false s = Half
set_as false true s = Half
set_as false false s = s

-- a division or a remainder as the spaces around it set it
abbrev pub spaced : Bool → Bool → Kind → Kind
spaced before after (kinds.Operator (Divide s)) = kinds.Operator (Divide (set_as before after s))
spaced before after (kinds.Operator (Remainder s)) = kinds.Operator (Remainder (set_as before after s))
spaced before after kind = kind

-- the same, with its length, where it is in the text
abbrev pub spaced_at : List ℕ → ℕ → Kind × ℕ → Kind × ℕ
spaced_at text at t = (spaced (is_behind_blank text at) (is_blank_at text (at + t.1)) t.0, t.1)

-- whether a percent sign that is no part of a number is at this place, and no remainder either: no blank byte is before it, and no operand touches it
-- Example: the sign of `1/2%`, of `x% 3` and of `x%-3`; not of `7 % 3` or `x%3`
abbrev pub is_loose_percent : List ℕ → ℕ → Bool
is_loose_percent text at = (slice_index (drop at text) 0 == 37) && not (is_behind_blank text at || begins_operand (drop 1 (drop at text)))

-- the kind and the length of the token that begins at a place
-- Example: 2, of `1 / 2`: a division, `Wide`, and 1
abbrev pub token_at : List ℕ → ℕ → Option (Kind × ℕ)
token_at text at = if is_loose_percent text at then None else option_map (spaced_at text at) (first_token (is_behind_slash text at) (drop at text))

-- a piece of a text is blank: its bytes are spaces and tabs
pub record IsBlank (text : List ℕ) (from to : ℕ) : Type 0 where
  pub ordered : from ≤ to
  pub spaces : (k : ℕ) → from ≤ k → k < to → is_blank_at text k ≡ true

-- a token is in the text at its place
pub record IsTokenAt (text : List ℕ) (t : Token) : Type 0 where
  pub long : ℕ
  pub end : t.span.end ≡ t.span.start + long
  pub within : t.span.end ≤ length text
  pub first : token_at text t.span.start ≡ Some (t.kind, long)

-- a token begins the text, maybe behind spaces and tabs
-- Example: ` 12`; neither ` ` nor `?12`
pub record BeginsWithToken (text : List ℕ) : Type 0 where
  pub token : Token
  pub blank : IsBlank text 0 token.span.start
  pub here : IsTokenAt text token

-- from one place to another, the text is these tokens, with blanks between them
abbrev pub IsCutInto : List ℕ → ℕ → ℕ → List Token → Type 0
IsCutInto text from to [] = IsBlank text from to
IsCutInto text from to (t ∷ ts) = IsBlank text from t.span.start × IsTokenAt text t × IsCutInto text t.span.end to ts

-- at this place is no blank byte, and no token begins there
pub record BeginsNone (text : List ℕ) (at : ℕ) : Type 0 where
  pub within : at < length text
  pub no_space : is_blank_at text at ≢ true
  pub none : token_at text at ≡ None

-- the text is these tokens up to its end, or else up to the first place where none begins
pub record IsCutTo (text : List ℕ) (end : ℕ) (tokens : List Token) : Type 0 where
  pub cut : IsCutInto text 0 end tokens
  pub stop : end ≢ length text → BeginsNone text end
