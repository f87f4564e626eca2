-- A text is worth one value, or it has one refusal, and never both.
use Rattle.std.proofs.Common.{◌≡◌, ◌∙◌, ℕ, List, Option, subst, sym, inl, inr}
use Rattle.ratio_expressions.specs.declared.refusal.Refusal.{Refusal}
use Rattle.ratio_expressions.specs.Answers.{HasTextRefusal, IsTextWorth, IsUnread}
use Rattle.ratio_expressions.specs.Expression.{IsExpression}
use Rattle.ratio_expressions.specs.Grammar.{Tree}
use Rattle.ratio_expressions.specs.Nesting.{IsShallow}
use Rattle.ratio_expressions.specs.Values.{HasRefusal, IsWorth}
use Rattle.ratio_expressions.specs.Worths.{Worth}
use Rattle.ratio_expressions.proofs.DepthLaws.{one_too_deep}
use Rattle.ratio_expressions.proofs.Refusals.{one_of_text, one_refusal, refusal_no_tree}
use Rattle.ratio_expressions.proofs.ValueLaws.{refused_once, same_refusal, worth_not_refused}

pub unread_once : (text : List ℕ) (r q : Refusal) → IsUnread text r → IsUnread text q → r ≡ q
unread_once text r q (inl h) (inl g) = same_refusal r q (h.0 ∙ sym g.0) (one_too_deep text r.place q.place h.1 g.1)
unread_once text r q (inl h) (inr g) = absurd (g.1 r.place h.1)
unread_once text r q (inr h) (inl g) = absurd (h.1 q.place g.1)
unread_once text r q (inr h) (inr g) = same_refusal r q (h.0 ∙ sym g.0) (one_refusal text r.place q.place h.2 g.2)

pub not_unread : (text : List ℕ) (t : Tree) (r : Refusal) → IsExpression text t → IsShallow text → IsUnread text r → ⊥
not_unread text t r has shallow (inl h) = shallow r.place h.1
not_unread text t r has shallow (inr h) = refusal_no_tree text r.place t h.2 has

module _ (text : List ℕ) (named : List ℕ → Option Worth) where
  pub text_worth_not_refused : (w : Worth) (r : Refusal) → IsTextWorth text named w → HasTextRefusal text named r → ⊥
  text_worth_not_refused w r h (inl g) = not_unread text h.tree r h.has h.shallow g
  text_worth_not_refused w r h (inr g) =
      worth_not_refused text named g.tree w r (subst (λ t. IsWorth text named t w) (one_of_text text h.tree g.tree h.has g.has) h.value) g.refusal

  pub text_once : (r q : Refusal) → HasTextRefusal text named r → HasTextRefusal text named q → r ≡ q
  text_once r q (inl h) (inl g) = unread_once text r q h g
  text_once r q (inl h) (inr g) = absurd (not_unread text g.tree r g.has g.shallow h)
  text_once r q (inr h) (inl g) = absurd (not_unread text h.tree q h.has h.shallow g)
  text_once r q (inr h) (inr g) =
      refused_once text named g.tree r q (subst (λ t. HasRefusal text named t r) (one_of_text text h.tree g.tree h.has g.has) h.refusal) g.refusal
