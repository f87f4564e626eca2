use Rattle.std.specs.Prelude.{◌≡◌, ◌⊎◌, ◌*ℤ◌, true, false, pos}
use Rattle.std.proofs.Common.{inl, inr, sym, ◌∙◌}
use Rattle.ratio_integer.specs.Division.{IsMultiple}
use Rattle.ratio_decimal.proofs.RoundingRuleLemmas.{more_even, more_odd, product_even, product_odd}
use Rattle.ratio_core.proofs.TestLemmas.{if_false, iff_both}
use Rattle.ratio_decimal.proofs.rounding_rule.is_odd.Goals as goal
use Rattle.ratio_decimal.proofs.rounding_rule.is_odd.Goals.{then-is_even, else-is_even}

pub returns-then-is_even-2 : goal.returns-then-is_even-2
returns-then-is_even-2 g c =
    let v = g.T.Integer.value in
    let one : IsMultiple (v c.args.x.0) (pos 2) ⊎ IsMultiple (v c.args.parts) (pos 2) = elim c.if-is_even.branch [
      | then-is_even w ↦ inl (c.is_even.ensures.0 w.if-is_even.true)
      | else-is_even w ↦ inr (w.is_even-else-is_even.ensures.0 (sym w.value-is ∙ c.if-is_even-2.true))
    ] in
    iff_both c.is_odd.ensures (more_even (v c.args.x.0 *ℤ v c.args.parts) (v c.args.x.1) (product_even _ _ one))

pub returns-else-is_even-2 : goal.returns-else-is_even-2
returns-else-is_even-2 g c =
    let v = g.T.Integer.value in
    let first : ¬ (IsMultiple (v c.args.x.0) (pos 2)) = elim c.if-is_even.branch [
      | then-is_even w ↦ absurd (let no : true ≡ false = sym w.if-is_even.true ∙ sym w.value-is ∙ c.if-is_even-2.false in cc)
      | else-is_even w ↦ if_false _ c.is_even.ensures w.if-is_even.false
    ] in
    let second : ¬ (IsMultiple (v c.args.parts) (pos 2)) = elim c.if-is_even.branch [
      | then-is_even w ↦ absurd (let no : true ≡ false = sym w.if-is_even.true ∙ sym w.value-is ∙ c.if-is_even-2.false in cc)
      | else-is_even w ↦ if_false _ w.is_even-else-is_even.ensures (sym w.value-is ∙ c.if-is_even-2.false)
    ] in
    iff_both c.is_even-else-is_even-2.ensures (more_odd (v c.args.x.0 *ℤ v c.args.parts) (v c.args.x.1) (product_odd _ _ first second))
