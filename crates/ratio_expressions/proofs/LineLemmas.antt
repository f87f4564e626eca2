-- What a text and a line are worth, and where the expression of a name is.
use Rattle.std.proofs.Common.{◌≡◌, ◌⊎◌, ◌∙◌, ℕ, List, [], ◌∷◌, ◌++◌, length, Result, Ok, Err, Option, None, Some, inl, inr, refl, sym, subst, ap, ⊎_elim}
use Rattle.std.specs.Prelude.{IfOk, codes}
use Rattle.std.specs.List.{All}
use Rattle.std.specs.Str.{bytes_eq}
use Rattle.std.proofs.lemmas.Bool.{cases_Bool, cond-true, cond-false}
use Rattle.std.proofs.lemmas.List.Elements.{All-drop, All-take}
use Rattle.std.proofs.Math.Seq.{take-append_seam}
use Rattle.ratio_expressions.specs.declared.token.Operator.TheVariants.{Equal}
use Rattle.ratio_expressions.specs.declared.token.Span.{Span}
use Rattle.ratio_expressions.specs.declared.step.Step.{Step}
use Rattle.ratio_expressions.specs.declared.step.Step.TheVariants as steps
use Rattle.ratio_expressions.specs.declared.refusal.ValueError.{ValueError}
use Rattle.ratio_expressions.specs.Answers.{IsTextWorth}
use Rattle.ratio_expressions.specs.Expression.{IsExpression}
use Rattle.ratio_expressions.specs.Grammar.{Tree, Name, Between, IsProper, arguments, postfix}
use Rattle.ratio_expressions.specs.Lines.{AreOldOrNew, AreOldOrPut, IsLineWorth, named_behind, target, valued, with_name, with_target}
use Rattle.ratio_expressions.specs.Nesting.{IsShallow}
use Rattle.ratio_expressions.specs.Values.{IsWorth, piece}
use Rattle.ratio_expressions.specs.Worths.{Worth}
use Rattle.ratio_expressions.proofs.Completeness.{one_argument}

-- what holds of each step of a line holds of those of its expression
pub valued_all : (P : Step → Type 0) (t : Tree) → All P (postfix t) → All P (postfix (valued t))
valued_all P (Between Equal s (Name n) b) h =
    let rest : All P (postfix b ++ steps.Apply Equal s ∷ []) = All-drop P 1 (postfix (Between Equal s (Name n) b)) h in
    subst (All P) (take-append_seam (postfix b) (steps.Apply Equal s ∷ [])) (All-take P (length (postfix b)) (postfix b ++ steps.Apply Equal s ∷ []) rest)
valued_all P t h = h

-- the expression of a line is an expression
pub valued_proper : (t : Tree) → IsProper t → IsProper (valued t)
valued_proper (Between Equal s (Name n) b) p = p.3
valued_proper t p = p

pub valued_single : (t : Tree) → IsProper t → arguments t ≡ 1 → arguments (valued t) ≡ 1
valued_single (Between Equal s (Name n) b) p one = one_argument b p.1
valued_single t p one = one

-- the value of a text
pub text_worth : {V : Type 0} (r : Result V ValueError) (worth_of : V → Worth) (text : List ℕ) (named : List ℕ → Option Worth) (written : List Step) (t : Tree)
    → IsExpression text t → IsShallow text → written ≡ postfix t → IfOk r (λ v. (u : Tree) → written ≡ postfix u → IsWorth text named u (worth_of v))
    → IfOk r (λ v. IsTextWorth text named (worth_of v))
text_worth (Ok v) worth_of text named written t has shallow same value = record { tree = t; has = has; shallow = shallow; value = value t same }
text_worth (Err e) worth_of text named written t has shallow same value = tt

-- the value of a line
pub line_worth : {V : Type 0} (r : Result V ValueError) (worth_of : V → Worth) (text : List ℕ) (old new : List ℕ → Option Worth) (written : List Step) (name : Option Span) (t : Tree)
    → IsExpression text t → IsShallow text → written ≡ postfix (valued t) → target t ≡ name → IfOk r (λ v. (u : Tree) → written ≡ postfix u → IsWorth text old u (worth_of v))
    → IfOk r (λ v. (other : List ℕ) → new other ≡ with_name (with_target text old name (worth_of v)) (codes "ans") (worth_of v) other) → IfOk r (λ v. IsLineWorth text old (worth_of v) new)
line_worth (Ok v) worth_of text old new written name t has shallow same target_is value names = record {
  tree = t;
  has = has;
  shallow = shallow;
  value = value (valued t) same;
  names = λ other. names other ∙ ap (λ n. with_name (with_target text old n (worth_of v)) (codes "ans") (worth_of v) other) (sym target_is);
}
line_worth (Err e) worth_of text old new written name t has shallow same target_is value names = tt

-- a name is worth what it was, or it has the value
target_or_kept : (text : List ℕ) (named : List ℕ → Option Worth) (name : Option Span) (w : Worth) (other : List ℕ)
    → (with_target text named name w other ≡ named other) ⊎ (with_target text named name w other ≡ Some w)
target_or_kept text named None w other = inl refl
target_or_kept text named (Some s) w other =
    let has = bytes_eq (piece text s) other in
    ⊎_elim (λ y. inr (cond-true has _ _ y)) (λ n. inl (cond-false has _ _ n)) (cases_Bool has)

-- a name is worth what it was, or what it is once `ans` has the value too
pub target_first : (text : List ℕ) (named : List ℕ → Option Worth) (name : Option Span) (w : Worth) (other : List ℕ)
    → (with_target text named name w other ≡ named other) ⊎ (with_target text named name w other ≡ with_name (with_target text named name w) (codes "ans") w other)
target_first text named name w other =
    let has = bytes_eq (codes "ans") other in
    ⊎_elim
    (λ y. ⊎_elim inl (λ e. inr (e ∙ sym (cond-true has _ _ y))) (target_or_kept text named name w other))
    (λ n. inr (sym (cond-false has _ _ n)))
    (cases_Bool has)

-- the names where memory ran out on a line
pub line_old_or_new : (text : List ℕ) (old now : List ℕ → Option Worth) (written : List Step) (name : Option Span) (t : Tree)
    → IsExpression text t → IsShallow text → written ≡ postfix (valued t) → target t ≡ name → AreOldOrPut text written old name now → AreOldOrNew text old now
line_old_or_new text old now written name t has shallow same target_is h = λ other.
    ⊎_elim inl
    (λ put. inr (
      put.0,
      named_behind text old t put.0,
      record { tree = t; has = has; shallow = shallow; value = put.1 (valued t) same; names = λ o. refl },
      put.2 ∙ ap (λ n. with_name (with_target text old n put.0) (codes "ans") put.0 other) (sym target_is),
    ))
    (h other)
