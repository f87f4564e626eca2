-- A tree is worth one value, or it has one refusal, and never both.
use Rattle.std.proofs.Common.{◌≡◌, ◌∙◌, ◌*◌, ◌^◌, ℕ, ℤ, suc, pos, negsuc, true, List, [], ◌∷◌, ◌++◌, Option, Some, None, refl, sym, subst, ap, arith, inl, inr, ⊎_elim}
use Rattle.std.specs.Prelude.{◌*ℤ◌}
use Rattle.std.specs.Int.{int_pow}
use Rattle.std.proofs.Math.Nat.{pow-succ'}
use Rattle.std.proofs.lemmas.Int.{ints}
use Rattle.ratio_big.proofs.TypedReadingLemmas.{typed_one}
use Rattle.ratio_decimal.specs.TypedText.{share}
use Rattle.ratio_big.specs.Values.{HasTerms}
use Rattle.ratio_big.specs.Powers.{HasNoPower}
use Rattle.ratio_core.specs.Power.{power_of}
use Rattle.ratio_expressions.specs.declared.token.Operator.{Operator}
use Rattle.ratio_expressions.specs.declared.token.Operator.TheVariants.{Less, AtMost, Equal, NotEqual, AtLeast, Greater, Add, Subtract, Multiply, Divide, Remainder, Power}
use Rattle.ratio_expressions.specs.declared.token.Sign.{Sign}
use Rattle.ratio_expressions.specs.declared.token.Sign.TheVariants.{Plus, Minus}
use Rattle.ratio_expressions.specs.declared.refusal.Refusal.{Refusal}
use Rattle.ratio_expressions.specs.declared.refusal.Reason.{Reason}
use Rattle.ratio_expressions.specs.declared.refusal.Reason.TheVariants as reasons
use Rattle.ratio_expressions.specs.Grammar.{Tree, Number, Name, Signed, Between, Group, Call, Listed}
use Rattle.ratio_expressions.specs.Numbers.{IsSaid, SaysNumber, SaysNoNumber, SaysPlainNumber, SaysNoPlainNumber, mixed_front}
use Rattle.ratio_expressions.specs.Operators.{GivesWorth, GivesNumbers, IsSignedWorth, IsTermsOf, IsTrueOrFalse, RefusesWorths, RefusesNumbers}
use Rattle.ratio_expressions.specs.Calls.{GivesCall, RefusesCall}
use Rattle.ratio_expressions.specs.Values.{AreWorth, HasRefusal, IsWorth, piece}
use Rattle.ratio_expressions.specs.Vulgar.{with_slash}
use Rattle.ratio_expressions.specs.Worths.{Worth, Amount, Truth}
use Rattle.ratio_expressions.proofs.CallLaws.{call_not_refused, call_one, call_refused_once, same_terms}
use Rattle.ratio_expressions.proofs.DivisorLaws.{same_pair}

-- ---- numbers

said_one : (mixed : Option (List ℕ)) (text : List ℕ) (n d m e : ℤ) (numbers others : List ℕ) → IsSaid mixed text n d numbers → IsSaid mixed text m e others → (n ≡ m) × (d ≡ e)
said_one None text n d m e numbers others h g = let one = typed_one text n d m e numbers others h g in (one.0, one.1)
said_one (Some mixed) text n d m e numbers others h g =
    let one = typed_one mixed n h.0 m g.0 numbers others h.1 g.1 in (one.0, h.2 ∙ ap (λ (z : ℤ). pos (share true) *ℤ z) one.1 ∙ sym g.2)

plain_one : (text : List ℕ) (x y : ℤ × ℤ) → SaysPlainNumber text x → SaysPlainNumber text y → x ≡ y
plain_one text x y h g =
    let one = said_one (mixed_front text) text h.n h.d g.n g.d h.numbers g.numbers h.reads g.reads in
    let moved : HasTerms (h.n, h.d) y = subst (λ (z : ℤ × ℤ). HasTerms z y) (sym (same_pair (h.n, h.d) (g.n, g.d) one)) g.terms in
    same_terms (h.n, h.d) x y h.terms moved

plain_not_refused : (text : List ℕ) (x : ℤ × ℤ) (r : Reason) → SaysPlainNumber text x → SaysNoPlainNumber text r → ⊥
plain_not_refused text x reasons.NumberTooLarge h g = absurd (omega (arith, h.small))
plain_not_refused text x reasons.ZeroDenominator h g =
    let one = said_one (mixed_front text) text h.n h.d g.1 (pos 0) h.numbers g.2 h.reads g.3 in h.terms.fraction one.1
plain_not_refused text x reasons.NotNumeral h g = g.1 h.n h.d h.numbers h.reads
plain_not_refused text x r h g = g

plain_refused_once : (text : List ℕ) (r q : Reason) → SaysNoPlainNumber text r → SaysNoPlainNumber text q → r ≡ q
plain_refused_once text reasons.NumberTooLarge reasons.NumberTooLarge h g = refl
plain_refused_once text reasons.NumberTooLarge reasons.ZeroDenominator h g = absurd (omega (arith, g.0))
plain_refused_once text reasons.NumberTooLarge reasons.NotNumeral h g = absurd (omega (arith, g.0))
plain_refused_once text reasons.ZeroDenominator reasons.NumberTooLarge h g = absurd (omega (arith, h.0))
plain_refused_once text reasons.ZeroDenominator reasons.ZeroDenominator h g = refl
plain_refused_once text reasons.ZeroDenominator reasons.NotNumeral h g = absurd (g.1 h.1 (pos 0) h.2 h.3)
plain_refused_once text reasons.NotNumeral reasons.NumberTooLarge h g = absurd (omega (arith, h.0))
plain_refused_once text reasons.NotNumeral reasons.ZeroDenominator h g = absurd (h.1 g.1 (pos 0) g.2 g.3)
plain_refused_once text reasons.NotNumeral reasons.NotNumeral h g = refl
plain_refused_once text reasons.NumberTooLarge q h g = absurd g
plain_refused_once text reasons.ZeroDenominator q h g = absurd g
plain_refused_once text reasons.NotNumeral q h g = absurd g
plain_refused_once text r q h g = absurd h

says_one : (text : List ℕ) (x y : ℤ × ℤ) → SaysNumber text x → SaysNumber text y → x ≡ y
says_one text x y h g = plain_one (with_slash text) x y h g

says_not_refused : (text : List ℕ) (x : ℤ × ℤ) (r : Reason) → SaysNumber text x → SaysNoNumber text r → ⊥
says_not_refused text x r h g = plain_not_refused (with_slash text) x r h g

text_refused_once : (text : List ℕ) (r q : Reason) → SaysNoNumber text r → SaysNoNumber text q → r ≡ q
text_refused_once text r q h g = plain_refused_once (with_slash text) r q h g

-- ---- operators

terms_one : (z : ℤ × ℤ) (v w : Worth) → IsTermsOf z v → IsTermsOf z w → v ≡ w
terms_one z (Amount x) (Amount y) h g = ap Amount (same_terms z x y h g)
terms_one z (Amount x) (Truth c) h g = absurd g
terms_one z (Truth b) w h g = absurd h

no_terms_over_zero : (z : ℤ × ℤ) (w : Worth) → IsTermsOf z w → z.1 ≡ pos 0 → ⊥
no_terms_over_zero z (Amount x) h e = h.fraction e
no_terms_over_zero z (Truth b) h e = h

numbers_give_one : (o : Operator) (x y : ℤ × ℤ) (v w : Worth) → GivesNumbers o x y v → GivesNumbers o x y w → v ≡ w
numbers_give_one Less x y v w h g = h ∙ sym g
numbers_give_one AtMost x y v w h g = h ∙ sym g
numbers_give_one Equal x y v w h g = h ∙ sym g
numbers_give_one NotEqual x y v w h g = h ∙ sym g
numbers_give_one AtLeast x y v w h g = h ∙ sym g
numbers_give_one Greater x y v w h g = h ∙ sym g
numbers_give_one Add x y v w h g = terms_one _ v w h g
numbers_give_one Subtract x y v w h g = terms_one _ v w h g
numbers_give_one Multiply x y v w h g = terms_one _ v w h g
numbers_give_one (Divide s) x y v w h g = terms_one _ v w h g
numbers_give_one (Remainder s) x y v w h g = terms_one _ v w h.1 g.1
numbers_give_one Power x y v w h g = terms_one _ v w h.2 g.2

gives_one : (o : Operator) (a b v w : Worth) → GivesWorth o a b v → GivesWorth o a b w → v ≡ w
gives_one o (Amount x) (Amount y) v w h g = numbers_give_one o x y v w h.1 g.1
gives_one o (Amount x) (Truth c) v w h g = absurd h
gives_one o (Truth b) u v w h g = absurd h

times_zero : (a b : ℤ) → b ≡ pos 0 → a *ℤ b ≡ pos 0
times_zero a b e = ap (λ (z : ℤ). a *ℤ z) e ∙ omega (arith, ints)

no_power : (x : ℤ × ℤ) (e : ℤ) → HasNoPower x e → (power_of x.0 x.1 e).1 ≡ pos 0
no_power x (pos m) h = let below = h.below in absurd (omega (arith, ints))
no_power x (negsuc k) h = ap (λ (z : ℤ). int_pow z (suc k)) h.zero ∙ ap pos (pow-succ' 0 k ∙ zero_times (0 ^ k))
  where
    zero_times : (n : ℕ) → 0 * n ≡ 0
    zero_times n = omega arith

numbers_not_refused : (o : Operator) (x y : ℤ × ℤ) (w : Worth) (r : Reason) → GivesNumbers o x y w → RefusesNumbers o x y r → ⊥
numbers_not_refused (Divide s) x y w reasons.ZeroDivisor h g = no_terms_over_zero _ w h (times_zero x.1 y.0 g)
numbers_not_refused (Remainder s) x y w reasons.ZeroDivisor h g = h.0 g
numbers_not_refused Power x y w reasons.ExponentNotWhole h g = g h.0
numbers_not_refused Power x y w reasons.PowerTooLarge h g = g.1 h.1
numbers_not_refused Power x y w reasons.ZeroDivisor h g = no_terms_over_zero _ w h.2 (no_power x y.0 g.2)
numbers_not_refused o x y w r h g = g

gives_not_refused : (o : Operator) (a b w : Worth) (r : Reason) → GivesWorth o a b w → RefusesWorths o a b r → ⊥
gives_not_refused o (Amount x) (Amount y) w r h (inl g) = g.1 h.0
gives_not_refused o (Amount x) (Amount y) w r h (inr g) = numbers_not_refused o x y w r h.1 g.1
gives_not_refused o (Amount x) (Truth c) w r h g = h
gives_not_refused o (Truth b) v w r h g = h

numbers_refused_once : (o : Operator) (x y : ℤ × ℤ) (r q : Reason) → RefusesNumbers o x y r → RefusesNumbers o x y q → r ≡ q
numbers_refused_once (Divide s) x y reasons.ZeroDivisor reasons.ZeroDivisor h g = refl
numbers_refused_once (Remainder s) x y reasons.ZeroDivisor reasons.ZeroDivisor h g = refl
numbers_refused_once Power x y reasons.ExponentNotWhole reasons.ExponentNotWhole h g = refl
numbers_refused_once Power x y reasons.ExponentNotWhole reasons.PowerTooLarge h g = absurd (h g.0)
numbers_refused_once Power x y reasons.ExponentNotWhole reasons.ZeroDivisor h g = absurd (h g.0)
numbers_refused_once Power x y reasons.PowerTooLarge reasons.ExponentNotWhole h g = absurd (g h.0)
numbers_refused_once Power x y reasons.PowerTooLarge reasons.PowerTooLarge h g = refl
numbers_refused_once Power x y reasons.PowerTooLarge reasons.ZeroDivisor h g = absurd (h.1 g.1)
numbers_refused_once Power x y reasons.ZeroDivisor reasons.ExponentNotWhole h g = absurd (g h.0)
numbers_refused_once Power x y reasons.ZeroDivisor reasons.PowerTooLarge h g = absurd (g.1 h.1)
numbers_refused_once Power x y reasons.ZeroDivisor reasons.ZeroDivisor h g = refl
numbers_refused_once (Divide s) x y reasons.ZeroDivisor q h g = absurd g
numbers_refused_once (Remainder s) x y reasons.ZeroDivisor q h g = absurd g
numbers_refused_once Power x y reasons.ExponentNotWhole q h g = absurd g
numbers_refused_once Power x y reasons.PowerTooLarge q h g = absurd g
numbers_refused_once Power x y reasons.ZeroDivisor q h g = absurd g
numbers_refused_once o x y r q h g = absurd h

refuses_once : (o : Operator) (a b : Worth) (r q : Reason) → RefusesWorths o a b r → RefusesWorths o a b q → r ≡ q
refuses_once o (Amount x) (Amount y) r q (inl h) (inl g) = h.0 ∙ sym g.0
refuses_once o (Amount x) (Amount y) r q (inl h) (inr g) = absurd (h.1 g.0)
refuses_once o (Amount x) (Amount y) r q (inr h) (inl g) = absurd (g.1 h.0)
refuses_once o (Amount x) (Amount y) r q (inr h) (inr g) = numbers_refused_once o x y r q h.1 g.1
refuses_once o (Amount x) (Truth c) r q h g = h ∙ sym g
refuses_once o (Truth b) v r q h g = h ∙ sym g

signed_one : (m : Sign) (a v w : Worth) → IsSignedWorth m a v → IsSignedWorth m a w → v ≡ w
signed_one Plus (Amount x) v w h g = h ∙ sym g
signed_one Minus (Amount x) v w h g = h ∙ sym g
signed_one m (Truth b) v w h g = absurd h

signed_not_truth : (m : Sign) (a w : Worth) → IsSignedWorth m a w → IsTrueOrFalse a → ⊥
signed_not_truth m (Amount x) w h g = g
signed_not_truth Plus (Truth b) w h g = h
signed_not_truth Minus (Truth b) w h g = h

-- ---- trees

pub same_refusal : (r q : Refusal) → r.reason ≡ q.reason → r.place ≡ q.place → r ≡ q
same_refusal r q e f =
    ap (λ (a : Reason). let s : Refusal = record { reason = a; place = r.place } in s) e ∙ ap (λ (n : ℕ). let s : Refusal = record { reason = q.reason; place = n } in s) f

pub head_same : (v w : Worth) → v ∷ [] ≡ w ∷ [] → v ≡ w
head_same v w e = cc

module _ (text : List ℕ) (named : List ℕ → Option Worth) where
  are_worth_one : (t : Tree) (vs ws : List Worth) → AreWorth text named t vs → AreWorth text named t ws → vs ≡ ws
  are_worth_one (Number s) (v ∷ []) (w ∷ []) h g = ap (λ x. x ∷ []) (h.2 ∙ ap Amount (says_one (piece text s) h.0 g.0 h.1 g.1) ∙ sym g.2)
  are_worth_one (Name s) (v ∷ []) (w ∷ []) h g = let same : Some v ≡ Some w = sym h ∙ g in cc
  are_worth_one (Signed m s t) (v ∷ []) (w ∷ []) h g =
      let same : h.0 ≡ g.0 = head_same h.0 g.0 (are_worth_one t (h.0 ∷ []) (g.0 ∷ []) h.1 g.1) in
      ap (λ x. x ∷ []) (signed_one m g.0 v w (subst (λ a. IsSignedWorth m a v) same h.2) g.2)
  are_worth_one (Between o s a b) (v ∷ []) (w ∷ []) h g =
      let left : h.0 ≡ g.0 = head_same h.0 g.0 (are_worth_one a (h.0 ∷ []) (g.0 ∷ []) h.2 g.2) in
      let right : h.1 ≡ g.1 = head_same h.1 g.1 (are_worth_one b (h.1 ∷ []) (g.1 ∷ []) h.3 g.3) in
      let first : GivesWorth o g.0 h.1 v = subst (λ u. GivesWorth o u h.1 v) left h.4 in
      ap (λ x. x ∷ []) (gives_one o g.0 g.1 v w (subst (λ u. GivesWorth o g.0 u v) right first) g.4)
  are_worth_one (Group s t e) (v ∷ []) (w ∷ []) h g = are_worth_one t (v ∷ []) (w ∷ []) h g
  are_worth_one (Call n s t e) (v ∷ []) (w ∷ []) h g =
      ap (λ x. x ∷ []) (call_one (piece text n) g.0 v w (subst (λ us. GivesCall (piece text n) us v) (are_worth_one t h.0 g.0 h.1 g.1) h.2) g.2)
  are_worth_one (Listed a s b) vs ws h g =
      h.4 ∙ ap (λ us. us ++ h.1 ∷ []) (are_worth_one a h.0 g.0 h.2 g.2) ∙ ap (λ us. g.0 ++ us) (are_worth_one b (h.1 ∷ []) (g.1 ∷ []) h.3 g.3) ∙ sym g.4
  are_worth_one t (v ∷ []) ws h g = absurd g
  are_worth_one t vs ws h g = absurd h

  pub worth_one : (t : Tree) (v w : Worth) → IsWorth text named t v → IsWorth text named t w → v ≡ w
  worth_one t v w h g = head_same v w (are_worth_one t (v ∷ []) (w ∷ []) h g)

  are_worth_not_refused : (t : Tree) (ws : List Worth) (r : Refusal) → AreWorth text named t ws → HasRefusal text named t r → ⊥
  are_worth_not_refused (Number s) (w ∷ []) r h g = says_not_refused (piece text s) h.0 r.reason h.1 g.0
  are_worth_not_refused (Name s) (w ∷ []) r h g = let other : Some w ≡ None = sym h ∙ g.0 in cc
  are_worth_not_refused (Signed m s t) (w ∷ []) r h (inl g) = are_worth_not_refused t (h.0 ∷ []) r h.1 g
  are_worth_not_refused (Signed m s t) (w ∷ []) r h (inr g) = signed_not_truth m g.0 w (subst (λ a. IsSignedWorth m a w) (worth_one t h.0 g.0 h.1 g.1) h.2) g.2
  are_worth_not_refused (Between o s a b) (w ∷ []) r h (inl g) = are_worth_not_refused a (h.0 ∷ []) r h.2 g
  are_worth_not_refused (Between o s a b) (w ∷ []) r h (inr g) =
      ⊎_elim
      (λ p. are_worth_not_refused b (h.1 ∷ []) r h.3 p)
      (λ p.
      let first : GivesWorth o g.0 h.1 w = subst (λ u. GivesWorth o u h.1 w) (worth_one a h.0 g.0 h.2 g.1) h.4 in
      gives_not_refused o g.0 p.0 w r.reason (subst (λ u. GivesWorth o g.0 u w) (worth_one b h.1 p.0 h.3 p.1) first) p.2)
      g.2
  are_worth_not_refused (Group s t e) (w ∷ []) r h g = are_worth_not_refused t (w ∷ []) r h g
  are_worth_not_refused (Call n s t e) (w ∷ []) r h (inl g) = are_worth_not_refused t h.0 r h.1 g
  are_worth_not_refused (Call n s t e) (w ∷ []) r h (inr g) =
      call_not_refused (piece text n) g.0 w r.reason (subst (λ us. GivesCall (piece text n) us w) (are_worth_one t h.0 g.0 h.1 g.1) h.2) g.2
  are_worth_not_refused (Listed a s b) ws r h (inl g) = are_worth_not_refused a h.0 r h.2 g
  are_worth_not_refused (Listed a s b) ws r h (inr g) = are_worth_not_refused b (h.1 ∷ []) r h.3 g.2
  are_worth_not_refused t ws r h g = absurd h

  pub worth_not_refused : (t : Tree) (w : Worth) (r : Refusal) → IsWorth text named t w → HasRefusal text named t r → ⊥
  worth_not_refused t w r h g = are_worth_not_refused t (w ∷ []) r h g

  pub refused_once : (t : Tree) (r q : Refusal) → HasRefusal text named t r → HasRefusal text named t q → r ≡ q
  refused_once (Number s) r q h g = same_refusal r q (text_refused_once (piece text s) r.reason q.reason h.0 g.0) (h.1 ∙ sym g.1)
  refused_once (Name s) r q h g = same_refusal r q (h.1.0 ∙ sym g.1.0) (h.1.1 ∙ sym g.1.1)
  refused_once (Signed m s t) r q (inl h) (inl g) = refused_once t r q h g
  refused_once (Signed m s t) r q (inl h) (inr g) = absurd (worth_not_refused t g.0 r g.1 h)
  refused_once (Signed m s t) r q (inr h) (inl g) = absurd (worth_not_refused t h.0 q h.1 g)
  refused_once (Signed m s t) r q (inr h) (inr g) = same_refusal r q (h.3.0 ∙ sym g.3.0) (h.3.1 ∙ sym g.3.1)
  refused_once (Between o s a b) r q (inl h) (inl g) = refused_once a r q h g
  refused_once (Between o s a b) r q (inl h) (inr g) = absurd (worth_not_refused a g.0 r g.1 h)
  refused_once (Between o s a b) r q (inr h) (inl g) = absurd (worth_not_refused a h.0 q h.1 g)
  refused_once (Between o s a b) r q (inr h) (inr g) =
      ⊎_elim
      (λ p. ⊎_elim (λ k. refused_once b r q p k) (λ k. absurd (worth_not_refused b k.0 r k.1 p)) g.2)
      (λ p. ⊎_elim
      (λ k. absurd (worth_not_refused b p.0 q p.1 k))
      (λ k.
      let first : RefusesWorths o g.0 p.0 r.reason = subst (λ u. RefusesWorths o u p.0 r.reason) (worth_one a h.0 g.0 h.1 g.1) p.2 in
      let both : RefusesWorths o g.0 k.0 r.reason = subst (λ u. RefusesWorths o g.0 u r.reason) (worth_one b p.0 k.0 p.1 k.1) first in
      same_refusal r q (refuses_once o g.0 k.0 r.reason q.reason both k.2) (p.3 ∙ sym k.3))
      g.2)
      h.2
  refused_once (Group s t e) r q h g = refused_once t r q h g
  refused_once (Call n s t e) r q (inl h) (inl g) = refused_once t r q h g
  refused_once (Call n s t e) r q (inl h) (inr g) = absurd (are_worth_not_refused t g.0 r g.1 h)
  refused_once (Call n s t e) r q (inr h) (inl g) = absurd (are_worth_not_refused t h.0 q h.1 g)
  refused_once (Call n s t e) r q (inr h) (inr g) =
      same_refusal r q
      (call_refused_once (piece text n) g.0 r.reason q.reason (subst (λ us. RefusesCall (piece text n) us r.reason) (are_worth_one t h.0 g.0 h.1 g.1) h.2) g.2)
      (h.3 ∙ sym g.3)
  refused_once (Listed a s b) r q (inl h) (inl g) = refused_once a r q h g
  refused_once (Listed a s b) r q (inl h) (inr g) = absurd (are_worth_not_refused a g.0 r g.1 h)
  refused_once (Listed a s b) r q (inr h) (inl g) = absurd (are_worth_not_refused a h.0 q h.1 g)
  refused_once (Listed a s b) r q (inr h) (inr g) = refused_once b r q h.2 g.2
