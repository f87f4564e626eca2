-- From the two numbers of a text to the result.
use Rattle.std.proofs.Common.{◌≡◌, ◌≢◌, sym, ◌∙◌, subst, ℤ, pos, Result, Ok, Err}
use Rattle.ratio_integer.specs.Fraction.{Fits}
use Rattle.ratio_core.specs.declared.parse_error.RatioErrorKind.{RatioErrorKind}
use Rattle.ratio_core.specs.declared.parse_error.RatioErrorKind.TheVariants.{ParseError, ZeroDenominator}
use Rattle.ratio_core.specs.Reading.{AnswersFraction, AnswersFields, AnswersText, NoneFits, Refuses}

-- if a text does not read as two numbers, or the second is 0, this is its refusal
pub refused : {T : Type 0} (value : T → ℤ) (lo hi : ℤ) (Reads : ℤ → ℤ → Type 0) (kind : RatioErrorKind) → AnswersFields value Reads (Err kind) → Refuses lo hi Reads kind
refused value lo hi Reads ParseError none = record { each = λ n d reads. absurd (none n d reads) }
refused value lo hi Reads ZeroDenominator zero = zero

-- if its only two numbers do not fit, none fit
pub none_fits : (lo hi : ℤ) (Reads : ℤ → ℤ → Type 0) (n d : ℤ) → ((m e : ℤ) → Reads m e → (m ≡ n) × (e ≡ d)) → d ≢ pos 0 → ¬ (Fits lo hi n d) → NoneFits lo hi Reads
none_fits lo hi Reads n d only nonzero out = record {
  each = λ m e other.
      let same = only m e other in
      (λ zero. nonzero (sym same.1 ∙ zero), λ fits. out (subst (λ x. Fits lo hi x d) same.0 (subst (λ y. Fits lo hi m y) same.1 fits)));
}

-- if a text reads as n and d alone, and d is not 0, its result is the result of n/d
pub answered : {T : Type 0} (value : T → ℤ) (lo hi : ℤ) (Reads : ℤ → ℤ → Type 0) (n d : ℤ) → Reads n d → d ≢ pos 0 → ((m e : ℤ) → Reads m e → (m ≡ n) × (e ≡ d))
    → (r : Result (T × T) RatioErrorKind) → AnswersFraction value lo hi n d r → AnswersText (λ p. value p.0) (λ p. value p.1) lo hi Reads r
answered value lo hi Reads n d reads nonzero only (Ok low) h = record { n = n; d = d; reads = reads; low = h }
answered value lo hi Reads n d reads nonzero only (Err kind) h = subst (Refuses lo hi Reads) (sym h.0) (none_fits lo hi Reads n d only nonzero h.1)
