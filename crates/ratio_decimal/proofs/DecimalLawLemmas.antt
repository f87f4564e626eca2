-- Each fraction has exactly one decimal, by its value.
use Rattle.std.specs.Prelude.{◌≡◌, ◌^◌, ◌*ℤ◌, ◌<ℤ◌, ℕ, ℤ, pos, List}
use Rattle.std.proofs.Common.{sym, ap, ◌∙◌, refl}
use lib.IntN.{*ℤ_comm}
use Rattle.ratio_integer.specs.Fraction.{SameValue}
use Rattle.ratio_integer.proofs.Whole.{mul_assoc}
use Rattle.ratio_decimal.specs.declared.rounding_rule.Rounding.{Rounding}
use Rattle.ratio_decimal.proofs.RoundingRuleLaws.{each_by, one_by, same_by}
use Rattle.ratio_decimal.specs.DecimalLaws.{DecimalsAgree, DecimalsExist}
use Rattle.ratio_decimal.specs.Decimal.{IsDecimalOf, places_text}

turn : (a p b : ℤ) → (a *ℤ p) *ℤ b ≡ (a *ℤ b) *ℤ p
turn a p b = mul_assoc a p b ∙ ap (λ (z : ℤ). a *ℤ z) (*ℤ_comm p b) ∙ sym (mul_assoc a b p)

scaled_value : (n d m e p : ℤ) → SameValue n d m e → SameValue (n *ℤ p) d (m *ℤ p) e
scaled_value n d m e p same = turn n p e ∙ ap (λ (z : ℤ). z *ℤ p) same ∙ sym (turn m p d)

pub decimals_agree : DecimalsAgree
decimals_agree rule places n d m e text other some also same first second =
    let p = pos (10 ^ places) in
    let moved = same_by rule (n *ℤ p) d (m *ℤ p) e first.multiple some also (scaled_value n d m e p same) first.rounded in
    let one : first.multiple ≡ second.multiple = one_by rule (m *ℤ p) e first.multiple second.multiple also moved second.rounded in
    first.written ∙ ap (places_text places) one ∙ sym second.written

pub decimals_exist : DecimalsExist
decimals_exist rule places n d some =
    let one = each_by rule (n *ℤ pos (10 ^ places)) d some in
    (places_text places one.0, record { multiple = one.0; rounded = one.1; written = refl })

-- a decimal is one of each fraction of the same value
pub decimal_by_value : (rule : Rounding) (places : ℕ) (n d m e : ℤ) (text : List ℕ) → pos 0 <ℤ d → pos 0 <ℤ e → SameValue n d m e → IsDecimalOf rule places n d text → IsDecimalOf rule places m e text
decimal_by_value rule places n d m e text some also same is =
    let p = pos (10 ^ places) in
    record { multiple = is.multiple; rounded = same_by rule (n *ℤ p) d (m *ℤ p) e is.multiple some also (scaled_value n d m e p same) is.rounded; written = is.written }
