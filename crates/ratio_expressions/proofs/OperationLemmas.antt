-- What an operator gives of two numbers that are not too large for it.
use Rattle.std.proofs.Common.{◌≡◌, ℤ, Bool, [], ◌∷◌, inr, refl, inl, subst, sym}
use Rattle.std.specs.Prelude.{◌↔◌, ◌⊎◌, Result, IfOk, IsTrue, MatchResult}
use Rattle.std.proofs.lemmas.Result.{IfOk-weaker, MatchResult-weaker}
use Rattle.ratio_expressions.specs.Limits.{FitTogether}
use Rattle.ratio_expressions.specs.Operators.{GivesNumbers, GivesWorth, RefusesNumbers, RefusesWorths, TakesNumbers}
use Rattle.ratio_expressions.specs.Worths.{Amount, worth}
use Rattle.ratio_expressions.specs.declared.refusal.Reason.{Reason}
use Rattle.ratio_expressions.specs.declared.refusal.Reason.TheVariants.{TooLarge}
use Rattle.ratio_expressions.specs.declared.token.Operator.{Operator}
use Rattle.ratio_expressions.specs.declared.token.Operator.TheVariants.{Add, Subtract, Multiply, Divide, Remainder}
use Rattle.ratio_expressions.specs.declared.token.Spacing.{Spacing}
use Rattle.ratio_expressions.specs.declared.value.Value.{Value}

module _ (o : Operator) (x y : ℤ × ℤ) where
  -- numbers that are taken give what the operator gives, or are refused as it refuses them
  pub taken : {E : Type 0} (r : Result (Result Value Reason) E) → TakesNumbers o x y
      → IfOk r (λ s. MatchResult s (λ w. GivesNumbers o x y (worth w)) (RefusesNumbers o x y))
      → IfOk r (λ s. MatchResult s (λ w. GivesWorth o (Amount x) (Amount y) (worth w)) (RefusesWorths o (Amount x) (Amount y)))
  taken r takes h = IfOk-weaker r _ _ (λ s k. MatchResult-weaker s k (λ w g. (takes, g)) (λ q g. inr (takes, g))) h

  -- others are too large
  pub not_taken : ¬ (TakesNumbers o x y) → RefusesWorths o (Amount x) (Amount y) TooLarge
  not_taken large = inl (refl, large)

-- `+ - * / %` take numbers with at most a million bits together
abbrev pub IsLimited : Operator → Type 0
IsLimited o = (o ≡ Add) ⊎ ((o ≡ Subtract) ⊎ ((o ≡ Multiply) ⊎ (((s : Spacing) × (o ≡ Divide s)) ⊎ ((s : Spacing) × (o ≡ Remainder s)))))

module _ {E : Type 0} (o : Operator) (x y : ℤ × ℤ) (r : Result Bool E) where
  same : (p : Operator) → o ≡ p → IfOk r (λ t. IsTrue t ↔ TakesNumbers p x y) → IfOk r (λ t. IsTrue t ↔ TakesNumbers o x y)
  same p is h = subst (λ (q : Operator). IfOk r (λ t. IsTrue t ↔ TakesNumbers q x y)) (sym is) h

  pub limited : IsLimited o → IfOk r (λ t. IsTrue t ↔ FitTogether (x ∷ y ∷ [])) → IfOk r (λ t. IsTrue t ↔ TakesNumbers o x y)
  limited (inl e) h = same Add e h
  limited (inr (inl e)) h = same Subtract e h
  limited (inr (inr (inl e))) h = same Multiply e h
  limited (inr (inr (inr (inl e)))) h = same (Divide e.0) e.1 h
  limited (inr (inr (inr (inr e)))) h = same (Remainder e.0) e.1 h
