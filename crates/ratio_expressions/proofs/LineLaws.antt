-- A line is worth one value, or it has one refusal, and never both. Its value is over a positive denominator, if those of the names are.
use Rattle.std.proofs.Common.{◌≡◌, ◌∙◌, ℕ, ℤ, pos, List, [], ◌∷◌, ◌++◌, Bool, Option, Some, subst, sym, ap, arith, inl, inr}
use Rattle.std.specs.Prelude.{◌<ℤ◌}
use Rattle.std.specs.List.{All}
use Rattle.std.proofs.lemmas.Int.{ints}
use Rattle.std.proofs.lemmas.List.Elements.{All-contains}
use Rattle.ratio_integer.specs.Fraction.{IsLowestTerms}
use Rattle.ratio_expressions.specs.declared.function.Function.{Function}
use Rattle.ratio_expressions.specs.declared.function.Function.TheVariants as functions
use Rattle.ratio_expressions.specs.declared.refusal.Refusal.{Refusal}
use Rattle.ratio_expressions.specs.declared.token.Operator.{Operator}
use Rattle.ratio_expressions.specs.declared.token.Sign.{Sign}
use Rattle.ratio_expressions.specs.declared.token.Sign.TheVariants.{Plus, Minus}
use Rattle.ratio_expressions.specs.declared.token.Operator.TheVariants.{Less, AtMost, Equal, NotEqual, AtLeast, Greater, Add, Subtract, Multiply, Divide, Remainder, Power}
use Rattle.ratio_expressions.specs.Functions.{GivesNumber}
use Rattle.ratio_expressions.specs.Grammar.{Tree, Number, Name, Signed, Between, Group, Call, Listed}
use Rattle.ratio_expressions.specs.Lines.{HasLineRefusal, IsLineWorth, named_behind, valued}
use Rattle.ratio_expressions.specs.Operators.{GivesNumbers, GivesWorth, IsSignedWorth, IsTermsOf}
use Rattle.ratio_expressions.specs.Values.{HasRefusal, IsWorth}
use Rattle.ratio_expressions.specs.Worths.{Worth, Amount, Truth}
use Rattle.ratio_expressions.proofs.Refusals.{one_of_text}
use Rattle.ratio_expressions.proofs.TextLaws.{not_unread, unread_once}
use Rattle.ratio_expressions.proofs.ValueLaws.{head_same, refused_once, worth_not_refused, worth_one}

module _ (text : List ℕ) (named : List ℕ → Option Worth) where
  pub line_worth_once : (v w : Worth) (behind after : List ℕ → Option Worth) → IsLineWorth text named v behind → IsLineWorth text named w after → v ≡ w
  line_worth_once v w behind after h g =
      worth_one text named (valued g.tree) v w (subst (λ t. IsWorth text named (valued t) v) (one_of_text text h.tree g.tree h.has g.has) h.value) g.value

  pub line_names_once : (v w : Worth) (behind after : List ℕ → Option Worth) → IsLineWorth text named v behind → IsLineWorth text named w after → (other : List ℕ) → behind other ≡ after other
  line_names_once v w behind after h g other =
      h.names other
      ∙ ap (λ t. named_behind text named t v other) (one_of_text text h.tree g.tree h.has g.has)
      ∙ ap (λ x. named_behind text named g.tree x other) (line_worth_once v w behind after h g)
      ∙ sym (g.names other)

  pub line_worth_not_refused : (w : Worth) (behind : List ℕ → Option Worth) (r : Refusal) → IsLineWorth text named w behind → HasLineRefusal text named r → ⊥
  line_worth_not_refused w behind r h (inl g) = not_unread text h.tree r h.has h.shallow g
  line_worth_not_refused w behind r h (inr g) =
      worth_not_refused text named (valued g.tree) w r (subst (λ t. IsWorth text named (valued t) w) (one_of_text text h.tree g.tree h.has g.has) h.value) g.refusal

  pub line_refused_once : (r q : Refusal) → HasLineRefusal text named r → HasLineRefusal text named q → r ≡ q
  line_refused_once r q (inl h) (inl g) = unread_once text r q h g
  line_refused_once r q (inl h) (inr g) = absurd (not_unread text g.tree r g.has g.shallow h)
  line_refused_once r q (inr h) (inl g) = absurd (not_unread text h.tree q h.has h.shallow g)
  line_refused_once r q (inr h) (inr g) =
      refused_once text named (valued g.tree) r q (subst (λ t. HasRefusal text named (valued t) r) (one_of_text text h.tree g.tree h.has g.has) h.refusal) g.refusal

-- ---- positive denominators

-- a number is over a positive denominator
abbrev pub IsOverPositive : Worth → Type 0
IsOverPositive (Amount x) = pos 0 <ℤ x.1
IsOverPositive (Truth b) = Unit {0}

abbrev IsLowest : ℤ × ℤ → Type 0
IsLowest x = IsLowestTerms x.0 x.1

one_positive : (d : ℤ) → d ≡ pos 1 → pos 0 <ℤ d
one_positive d e = omega (arith, ints)

same_positive : (d e : ℤ) → d ≡ e → pos 0 <ℤ e → pos 0 <ℤ d
same_positive d e same up = omega (arith, ints)

first_positive : (x : ℤ × ℤ) (xs : List (ℤ × ℤ)) → All IsLowest (x ∷ xs) → pos 0 <ℤ x.1
first_positive x xs low = let first = low 0 x (omega arith) in first.positive

function_positive : (f : Function) (xs : List (ℤ × ℤ)) (r : ℤ × ℤ) → All IsLowest xs → GivesNumber f xs r → pos 0 <ℤ r.1
function_positive functions.Abs (x ∷ []) r low h = same_positive r.1 x.1 (ap (λ (z : ℤ × ℤ). z.1) h) (first_positive x [] low)
function_positive functions.Floor (x ∷ []) r low h = one_positive r.1 h.1
function_positive functions.Ceil (x ∷ []) r low h = one_positive r.1 h.1
function_positive functions.Round (x ∷ []) r low h = one_positive r.1 h.1
function_positive functions.Trunc (x ∷ []) r low h = one_positive r.1 h.1
function_positive functions.Cents (x ∷ []) r low h = h.terms.lowest.positive
function_positive functions.Gcd xs r low h = h.lowest.positive
function_positive functions.Lcm xs r low h = h.lowest.positive
function_positive functions.Min xs r low h = let one = All-contains IsLowest xs r low h.among in one.positive
function_positive functions.Max xs r low h = let one = All-contains IsLowest xs r low h.among in one.positive
function_positive functions.Nearest (x ∷ most ∷ []) r low h = h.nearest.positive
function_positive functions.Between (x ∷ y ∷ []) r low (inl h) = h.between.positive
function_positive functions.Between (x ∷ y ∷ []) r low (inr h) = h.between.positive
function_positive f xs r low h = absurd h

terms_positive : (z : ℤ × ℤ) (w : Worth) → IsTermsOf z w → IsOverPositive w
terms_positive z (Amount x) h = h.lowest.positive
terms_positive z (Truth b) h = tt

truth_positive : (w : Worth) (b : Bool) → w ≡ Truth b → IsOverPositive w
truth_positive w b e = subst IsOverPositive (sym e) tt

numbers_positive : (o : Operator) (x y : ℤ × ℤ) (w : Worth) → GivesNumbers o x y w → IsOverPositive w
numbers_positive Add x y w h = terms_positive _ w h
numbers_positive Subtract x y w h = terms_positive _ w h
numbers_positive Multiply x y w h = terms_positive _ w h
numbers_positive (Divide s) x y w h = terms_positive _ w h
numbers_positive (Remainder s) x y w h = terms_positive _ w h.1
numbers_positive Power x y w h = terms_positive _ w h.2
numbers_positive Less x y w h = truth_positive w _ h
numbers_positive AtMost x y w h = truth_positive w _ h
numbers_positive Equal x y w h = truth_positive w _ h
numbers_positive NotEqual x y w h = truth_positive w _ h
numbers_positive AtLeast x y w h = truth_positive w _ h
numbers_positive Greater x y w h = truth_positive w _ h

gives_positive : (o : Operator) (u v w : Worth) → GivesWorth o u v w → IsOverPositive w
gives_positive o (Amount x) (Amount y) w h = numbers_positive o x y w h.1
gives_positive o (Amount x) (Truth c) w h = absurd h
gives_positive o (Truth b) v w h = absurd h

signed_positive : (g : Sign) (v w : Worth) → IsOverPositive v → IsSignedWorth g v w → IsOverPositive w
signed_positive Plus (Amount x) w up h = subst IsOverPositive (sym h) up
signed_positive Minus (Amount x) w up h = subst IsOverPositive (sym h) up
signed_positive g (Truth b) w up h = absurd h

last_same : (us : List Worth) (v w : Worth) → w ∷ [] ≡ us ++ v ∷ [] → w ≡ v
last_same [] v w e = head_same w v e
last_same (u ∷ []) v w e = absurd (cc)
last_same (u ∷ x ∷ us) v w e = absurd (cc)

module _ (text : List ℕ) (named : List ℕ → Option Worth) (known : (name : List ℕ) (w : Worth) → named name ≡ Some w → IsOverPositive w) where
  pub worth_positive : (t : Tree) (w : Worth) → IsWorth text named t w → IsOverPositive w
  worth_positive (Number s) w h = subst IsOverPositive (sym h.2) (let says = h.1 in says.terms.lowest.positive)
  worth_positive (Name s) w h = known _ w h
  worth_positive (Signed g s t) w h = signed_positive g h.0 w (worth_positive t h.0 h.1) h.2
  worth_positive (Between o s a b) w h = gives_positive o h.0 h.1 w h.4
  worth_positive (Group s t e) w h = worth_positive t w h
  worth_positive (Call n s t e) w h =
      let call = h.2 in
      subst IsOverPositive (sym call.is) (function_positive call.function call.numbers call.result call.given.lowest call.gives)
  worth_positive (Listed a s b) w h = subst IsOverPositive (sym (last_same h.0 h.1 w h.4)) (worth_positive b h.1 h.3)
