-- Decimals to so many places never fall as the fraction grows, and lie within the rule's distance.
use Rattle.std.specs.Prelude.{◌^◌, ◌≤ℤ◌, ◌<ℤ◌, ◌*ℤ◌, ◌≡◌, ℕ, ℤ, pos}
use Rattle.std.proofs.Common.{arith, sym, ◌∙◌}
use Rattle.std.proofs.lemmas.Int.{ints}
use Rattle.ratio_integer.proofs.Whole.{mul_assoc, mul-swap_last}
use Rattle.ratio_laws.specs.DecimalLaws.{DecimalsAreMonotone, DecimalsAreNear, IsWithinRule}
use Rattle.ratio_decimal.specs.RoundingRules.{IsRoundedBy}
use Rattle.ratio_decimal.specs.declared.rounding_rule.Rounding.{Rounding}
use Rattle.ratio_decimal.specs.declared.rounding_rule.Rounding.TheVariants.{HalfAway, HalfEven, Down, Up, Floor, Ceil}
use Rattle.ratio_core.proofs.ProductOrder.{times_le}
use Rattle.ratio_decimal.proofs.RoundingRuleLaws.{rounded_monotone, rounded_near}

not_negative : (k : ℕ) → pos 0 ≤ℤ pos k
not_negative k = omega (arith, ints)

moved : (n e p : ℤ) → (n *ℤ p) *ℤ e ≡ (n *ℤ e) *ℤ p
moved n e p = mul-swap_last n p e ∙ sym (mul_assoc n e p)

pub decimals_monotone : DecimalsAreMonotone
decimals_monotone rule places n d m e left right d_up e_up order x y =
    rounded_monotone rule (n *ℤ pos (10 ^ places)) d (m *ℤ pos (10 ^ places)) e x.multiple y.multiple d_up e_up
    (rw (moved n e (pos (10 ^ places)), moved m d (pos (10 ^ places))) (times_le (n *ℤ e) (m *ℤ d) (pos (10 ^ places)) order (not_negative (10 ^ places))))
    x.rounded y.rounded

within : (rule : Rounding) (n d r : ℤ) → pos 0 <ℤ d → IsRoundedBy rule n d r → IsWithinRule rule n d r
within HalfAway n d r up is = is.near
within HalfEven n d r up is = is.near
within Down n d r up is = rounded_near Down n d r up is
within Up n d r up is = rounded_near Up n d r up is
within Floor n d r up is = rounded_near Floor n d r up is
within Ceil n d r up is = rounded_near Ceil n d r up is

pub decimals_near : DecimalsAreNear
decimals_near rule places n d text up x = within rule (n *ℤ pos (10 ^ places)) d x.multiple up x.rounded
