-- Which arguments are options, and what each option asks for.
use Rattle.std.specs.Prelude.{◌≡◌, ◌≢◌, ◌++◌, ◌≤◌, ◌==◌, ◌&&◌, ◌||◌, ℕ, Bool, List, Option, Some, None, codes, length, slice_index, if◌then◌else◌}
use Rattle.std.specs.Char.{is_ascii_alphabetic}
use Rattle.std.specs.Str.{bytes_eq}
use Rattle.std.specs.Str.Parse.{IsNumeral, digits_value, without_leading_plus}
use Rattle.ratio_expressions.specs.declared.replies.form.Form.TheVariants as forms
use Rattle.ratio.specs.declared.option.Asked.{Asked}
use Rattle.ratio.specs.declared.option.Asked.TheVariants as asks
use Rattle.ratio.specs.declared.option.Page.TheVariants as pages

-- whether a word is an option, known or not: `--`, or one or two dashes and a letter
-- Example: `--both` and `-x`; not `-1/2` and `--1`
abbrev pub is_option : List ℕ → Bool
is_option word =
    (slice_index word 0 == 45)
    && (is_ascii_alphabetic (slice_index word 1) || ((slice_index word 1 == 45) && ((length word == 2) || is_ascii_alphabetic (slice_index word 2))))

-- what the option of this name asks for
-- Example: `--mixed`: the form `Mixed`
abbrev pub option_named : List ℕ → Option Asked
option_named word =
    if bytes_eq word (codes "-h") || bytes_eq word (codes "--help") then Some (asks.Page pages.Help) else (
    if bytes_eq word (codes "--version") then Some (asks.Page pages.Version) else (
    if bytes_eq word (codes "--fraction") then Some (asks.Form forms.Fraction) else (
    if bytes_eq word (codes "--mixed") then Some (asks.Form forms.Mixed) else (
    if bytes_eq word (codes "--both") then Some (asks.Form forms.Both) else (
    if bytes_eq word (codes "--float") then Some (asks.Form forms.Float) else (
    if bytes_eq word (codes "--lines") then Some asks.Lines else (
    if bytes_eq word (codes "--decimal") then Some asks.Places else (
    if bytes_eq word (codes "--") then Some asks.End else None))))))))

-- the word is the number of places n, from 0 to 1,000,000, in decimal digits, and a plus may come first
-- Example: `4` and `+04`: 4
pub record SaysPlaces (word : List ℕ) (n : ℕ) : Type 0 where
  pub digits : IsNumeral 10 (without_leading_plus word)
  pub value : n ≡ digits_value 10 (without_leading_plus word)
  pub few : n ≤ 1000000

-- the word does not begin with `--decimal=`
-- Example: `--decimal`
abbrev pub LacksNumber : List ℕ → Type 0
LacksNumber word = (number : List ℕ) → word ≢ codes "--decimal=" ++ number
