-- What the 100th part of a mixed number is read as.
use Rattle.std.proofs.Common.{ℕ, pos, true, List, refl}
use Rattle.std.specs.Prelude.{◌*ℤ◌, Err}
use Rattle.ratio_decimal.specs.TypedText.{IsTypedText, share}
use Rattle.ratio_decimal.specs.declared.typed.TextRefusal.{TextRefusal, TheVariants.NotNumber, TheVariants.ZeroDenominator, TheVariants.NotHeld}
use Rattle.ratio_big.specs.Decimals.{AnswersBigTyped}
use Rattle.ratio_big.specs.Fractions.{big_numbers}
use Rattle.ratio_big.specs.Texts.{ReadsBig}
use Rattle.ratio_big.specs.Values.{HasTerms}
use Rattle.ratio_big.specs.declared.fraction.BigFraction.{BigFraction}
use Rattle.ratio_expressions.specs.Numbers.{AnswersBigReading, IsShareOf}
use Rattle.ratio_expressions.proofs.ShareTerms.{share_terms}

pub share_read : (mixed : List ℕ) (x r : BigFraction) → ReadsBig (λ n d. (numbers : List ℕ) × IsTypedText mixed n d numbers) x → HasTerms ((big_numbers x).0, pos (share true) *ℤ (big_numbers x).1) (big_numbers r) → ReadsBig (λ n d. (numbers : List ℕ) × IsShareOf mixed n d numbers) r
share_read mixed x r h part = record {
  n = h.n;
  d = pos (share true) *ℤ h.d;
  reads = (h.reads.0, (h.d, h.reads.1, refl));
  terms = share_terms h.n h.d (big_numbers x) (big_numbers r) h.terms part;
}

pub share_refused : (mixed : List ℕ) (r : TextRefusal) → AnswersBigTyped mixed (Err r) → AnswersBigReading (IsShareOf mixed) (Err r)
share_refused mixed NotNumber h = λ n d numbers said. h n said.0 numbers said.1
share_refused mixed ZeroDenominator h = (h.0, h.1, (pos 0, h.2, refl))
share_refused mixed NotHeld h = h
