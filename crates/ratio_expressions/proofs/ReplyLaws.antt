-- A line has one reply.
use Rattle.std.proofs.Common.{◌≡◌, ◌∙◌, ◌++◌, ◌∷◌, [], ℕ, ℤ, pos, Bool, true, false, List, Option, Some, None, refl, sym, subst, ap, arith, inl, inr}
use Rattle.std.specs.Prelude.{◌<ℤ◌, ◌*ℤ◌, ◌+ℤ◌, option_map}
use Rattle.std.specs.Float.{binary64}
use Rattle.std.proofs.lemmas.Int.{ints}
use Rattle.ratio_core.proofs.RoundingLawLemmas.{one_truncation}
use Rattle.ratio_decimal.specs.declared.rounding_rule.Rounding.TheVariants.{HalfAway}
use Rattle.ratio_decimal.specs.Floats.{nearest_float}
use Rattle.ratio_decimal.proofs.DecimalLawLemmas.{decimals_agree}
use Rattle.ratio_decimal.specs.Decimal.{IsDecimalOf}
use Rattle.ratio_big.specs.Fractions.{big_numbers}
use Rattle.ratio_big.specs.Texts.{fraction_text}
use Rattle.ratio_expressions.specs.Bound.{named}
use Rattle.ratio_expressions.specs.Expression.{IsExpression}
use Rattle.ratio_expressions.specs.Grammar.{Tree}
use Rattle.ratio_expressions.specs.Limits.{IsTooLong}
use Rattle.ratio_expressions.specs.Lines.{IsLineWorth, valued}
use Rattle.ratio_expressions.specs.Nesting.{IsShallow}
use Rattle.ratio_expressions.specs.Worths.{Worth, worth, Amount, Truth}
use Rattle.ratio_expressions.specs.declared.names.Names.{Names}
use Rattle.ratio_expressions.specs.declared.value.Value.{Value}
use Rattle.ratio_expressions.specs.declared.value.Value.TheVariants as values
use Rattle.ratio_expressions.proofs.LineLaws.{IsOverPositive, line_names_once, line_refused_once, line_worth_not_refused, line_worth_once, worth_positive}
use Rattle.ratio_expressions.proofs.ShownLaws.{shown_once}
use Rattle.ratio_expressions.specs.Forms.{IsInBothForm, IsInFields, IsInMixedForm, IsNumberInForm, IsValueInForm, IsWithDecimal, beside, ends_in_six, parts_text}
use Rattle.ratio_expressions.specs.Readings.{IsAnswerInForm, IsWithReading, behind_line}
use Rattle.ratio_expressions.specs.Refused.{refusal_lines}
use Rattle.ratio_expressions.specs.Replies.{AreAlike, IsRefusedAs, IsReply, is_blank}
use Rattle.ratio_expressions.specs.declared.replies.form.Form.{Form}
use Rattle.ratio_expressions.specs.declared.replies.form.Form.TheVariants as forms
use Rattle.ratio_expressions.specs.declared.replies.reply.Reply.{Reply}
use Rattle.ratio_expressions.specs.declared.replies.reply.Reply.TheVariants as replies
use Rattle.ratio_expressions.proofs.FloatTextLemmas.{float_once}

-- ---- a number in a form

same_rest : (n d t s f e : ℤ) → t ≡ s → n ≡ t *ℤ d +ℤ f → n ≡ s *ℤ d +ℤ e → f ≡ e
same_rest n d t s f e same h g = let moved : t *ℤ d ≡ s *ℤ d = ap (λ (z : ℤ). z *ℤ d) same in omega (arith, ints)

module _ (x : ℤ × ℤ) (up : pos 0 <ℤ x.1) (a b : List ℕ) where
  decimal_once : (places : ℕ) → IsDecimalOf HalfAway places x.0 x.1 a → IsDecimalOf HalfAway places x.0 x.1 b → a ≡ b
  decimal_once places h g = decimals_agree HalfAway places x.0 x.1 x.0 x.1 a b up up refl h g

  mixed_once : IsInMixedForm x a → IsInMixedForm x b → a ≡ b
  mixed_once h g =
      let whole : h.whole ≡ g.whole = one_truncation x.0 x.1 h.whole g.whole up h.truncation g.truncation in
      let cut : h.part.whole ≡ g.part.whole = one_truncation x.0 x.1 h.part.whole g.part.whole up h.part.truncation g.part.truncation in
      let rest : h.rest ≡ g.rest = same_rest x.0 x.1 h.part.whole g.part.whole h.rest g.rest cut h.part.sum g.part.sum in
      h.written ∙ ap (λ (w : ℤ). parts_text x w h.rest) whole ∙ ap (λ (r : ℤ). parts_text x g.whole r) rest ∙ sym g.written

fields_once : (x : ℤ × ℤ) (places : ℕ) (a b : List ℕ) → pos 0 <ℤ x.1 → IsInFields x places a → IsInFields x places b → a ≡ b
fields_once x places a b up h g =
    h.written
    ∙ ap (λ l. fraction_text x ++ 9 ∷ [] ++ l ++ 9 ∷ [] ++ h.mixed) (decimal_once x up h.rounded g.rounded places h.decimal g.decimal)
    ∙ ap (λ l. fraction_text x ++ 9 ∷ [] ++ g.rounded ++ 9 ∷ [] ++ l) (mixed_once x up h.mixed g.mixed h.whole_part g.whole_part)
    ∙ sym g.written

both_once : (x : ℤ × ℤ) (a b : List ℕ) → pos 0 <ℤ x.1 → IsInBothForm x a → IsInBothForm x b → a ≡ b
both_once x a b up (inl h) (inl g) = h.1 ∙ sym g.1
both_once x a b up (inl h) (inr g) = absurd (g.0 h.0)
both_once x a b up (inr h) (inl g) = absurd (h.0 g.0)
both_once x a b up (inr h) (inr g) =
    let first : IsWithDecimal x (ends_in_six x.1) a = h.1 in
    let second : IsWithDecimal x (ends_in_six x.1) b = g.1 in
    first.written ∙ ap (λ six. fraction_text x ++ beside (ends_in_six x.1) six) (decimal_once x up first.six second.six 6 first.decimal second.decimal) ∙ sym second.written

number_once : (x : ℤ × ℤ) (form : Form) (a b : List ℕ) → pos 0 <ℤ x.1 → IsNumberInForm x form a → IsNumberInForm x form b → a ≡ b
number_once x forms.Fraction a b up h g = h ∙ sym g
number_once x (forms.Decimal places) a b up h g = decimal_once x up a b places h g
number_once x forms.Mixed a b up h g = mixed_once x up a b h g
number_once x (forms.Fields places) a b up h g = fields_once x places a b up h g
number_once x forms.Both a b up h g = both_once x a b up h g
number_once x forms.Float a b up h g = float_once (nearest_float binary64 x.0 x.1) a b h g

-- ---- an answer

value_once : (w : Worth) (form : Form) (a b : List ℕ) → IsOverPositive w → IsValueInForm w form a → IsValueInForm w form b → a ≡ b
value_once (Amount x) form a b up h g = number_once x form a b up h g
value_once (Truth t) form a b up h g = h ∙ sym g

module _ (line : List ℕ) (t : Tree) (has : IsExpression line t) (shallow : IsShallow line) (w : Worth) (up : IsOverPositive w) (a b : List ℕ) where
  reading_once : IsWithReading line w a → IsWithReading line w b → a ≡ b
  reading_once h g =
      h.written
      ∙ ap (λ shown. behind_line shown w h.value) (shown_once line t h.shown g.shown has shallow h.read g.read)
      ∙ ap (behind_line g.shown w) (value_once w forms.Both h.value g.value up h.form g.form)
      ∙ sym g.written

  answer_once : (form : Form) → IsAnswerInForm line w form a → IsAnswerInForm line w form b → a ≡ b
  answer_once forms.Fraction h g = value_once w forms.Fraction a b up h g
  answer_once (forms.Decimal places) h g = value_once w (forms.Decimal places) a b up h g
  answer_once forms.Mixed h g = value_once w forms.Mixed a b up h g
  answer_once (forms.Fields places) h g = value_once w (forms.Fields places) a b up h g
  answer_once forms.Float h g = value_once w forms.Float a b up h g
  answer_once forms.Both h g = reading_once h g

-- ---- a refusal

module _ (line : List ℕ) (before : List ℕ → Option Worth) where
  answer_not_refused : (w : Worth) (behind : List ℕ → Option Worth) (text : List ℕ) → ¬ (IsTooLong line) → IsLineWorth line before w behind → IsRefusedAs line before text → ⊥
  answer_not_refused w behind text short h (inl g) = short g.0
  answer_not_refused w behind text short h (inr g) = line_worth_not_refused line before w behind g.1 h g.2

  refused_once : (a b : List ℕ) → IsRefusedAs line before a → IsRefusedAs line before b → a ≡ b
  refused_once a b (inl h) (inl g) = h.1 ∙ sym g.1
  refused_once a b (inl h) (inr g) = absurd (g.0 h.0)
  refused_once a b (inr h) (inl g) = absurd (h.0 g.0)
  refused_once a b (inr h) (inr g) = h.3 ∙ ap (refusal_lines line) (line_refused_once line before h.1 g.1 h.2 g.2) ∙ sym g.3

-- ---- a reply

value_positive : (found : Option Value) (w : Worth) → option_map worth found ≡ Some w → IsOverPositive w
value_positive None w e = absurd (cc)
value_positive (Some (values.Number x)) w e = let same : Amount (big_numbers x) ≡ w = cc in subst IsOverPositive same x.kept.lowest.positive
value_positive (Some (values.Truth t)) w e = let same : Truth t ≡ w = cc in subst IsOverPositive same tt

apart : (blank : Bool) → blank ≡ true → blank ≡ false → ⊥
apart blank is_true is_false = cc

module _ (line : List ℕ) (form : Form) (names : Names) (behind after : List ℕ → Option Worth) where
  answers_once : (w v : Worth) (a b : List ℕ) → IsLineWorth line (named names) w behind → IsLineWorth line (named names) v after → IsAnswerInForm line w form a → IsAnswerInForm line v form b → a ≡ b
  answers_once w v a b h g first second =
      let up : IsOverPositive v = worth_positive line (named names) (λ name u. value_positive _ u) (valued g.tree) v g.value in
      answer_once line g.tree g.has g.shallow v up a b form (subst (λ u. IsAnswerInForm line u form a) (line_worth_once line (named names) w v behind after h g) first) second

  pub reply_once : (r q : Reply) → IsReply line form (named names) behind r → IsReply line form (named names) after q → AreAlike r q × ((other : List ℕ) → behind other ≡ after other)
  reply_once replies.Nothing replies.Nothing h g = (tt, λ other. h.1 other ∙ sym (g.1 other))
  reply_once replies.Nothing (replies.Answer b) h g = absurd (apart (is_blank line) h.0 g.0)
  reply_once replies.Nothing (replies.Refused b) h g = absurd (apart (is_blank line) h.0 g.0)
  reply_once (replies.Answer a) replies.Nothing h g = absurd (apart (is_blank line) g.0 h.0)
  reply_once (replies.Answer a) (replies.Answer b) h g =
      (answers_once h.2 g.2 a.items b.items h.3 g.3 h.4 g.4, line_names_once line (named names) h.2 g.2 behind after h.3 g.3)
  reply_once (replies.Answer a) (replies.Refused b) h g = absurd (answer_not_refused line (named names) h.2 behind b.items h.1 h.3 g.1)
  reply_once (replies.Refused a) replies.Nothing h g = absurd (apart (is_blank line) g.0 h.0)
  reply_once (replies.Refused a) (replies.Answer b) h g = absurd (answer_not_refused line (named names) g.2 after a.items g.1 g.3 h.1)
  reply_once (replies.Refused a) (replies.Refused b) h g =
      (refused_once line (named names) a.items b.items h.1 g.1, λ other. h.2 other ∙ sym (g.2 other))
