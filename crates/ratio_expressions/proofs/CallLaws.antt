-- A call gives one value of its arguments, or it refuses them for one reason, and never both.
use Rattle.std.proofs.Common.{◌≡◌, ◌≢◌, ◌∙◌, ℕ, ℤ, pos, List, [], ◌∷◌, length, map, Some, None, refl, sym, subst, ap, arith, inl, inr}
use Rattle.std.specs.Prelude.{◌<ℤ◌, ◌*ℤ◌}
use Rattle.std.specs.List.{All}
use Rattle.std.specs.Ordering.{ordering_reverse}
use Rattle.std.specs.declared.cmp.Ordering.{Ordering}
use Rattle.std.specs.declared.cmp.Ordering.TheVariants.{Less, Equal, Greater}
use Rattle.std.proofs.lemmas.Int.{ints}
use Rattle.std.proofs.lemmas.List.Elements.{All-contains, All-map}
use Rattle.ratio_integer.specs.Fraction.{IsLowestTerms}
use Rattle.ratio_integer.proofs.LowestTerms.{lowest_unique}
use Rattle.ratio_integer.proofs.Whole.{positive_nonzero}
use Rattle.ratio_core.specs.Order.{cross_cmp}
use Rattle.ratio_core.proofs.CrossOrder.{cross_turned}
use Rattle.ratio_core.proofs.OrderLaws.{cross_lowest}
use Rattle.ratio_core.proofs.RoundingLawLemmas.{one_ceiling, one_floor, one_rounded, one_truncation}
use Rattle.ratio_decimal.proofs.RoundingRuleLaws.{one_by}
use Rattle.ratio_decimal.specs.declared.rounding_rule.Rounding.TheVariants.{HalfAway}
use Rattle.ratio_big.specs.Multiples.{IsMultipleBy}
use Rattle.ratio_big.specs.Values.{HasTerms}
use Rattle.ratio_expressions.specs.declared.function.Function.{Function}
use Rattle.ratio_expressions.specs.declared.function.Function.TheVariants as functions
use Rattle.ratio_expressions.specs.declared.refusal.Reason.{Reason}
use Rattle.ratio_expressions.specs.declared.refusal.Reason.TheVariants as reasons
use Rattle.ratio_expressions.specs.Calls.{AreNumbers, FunctionRefusesAny, GivesCall, HaveTruth, RefusesAmounts, RefusesCall}
use Rattle.ratio_expressions.specs.Functions.{FunctionRefuses, GivesNumber, IsExtreme, TakesCount, function_of}
use Rattle.ratio_expressions.proofs.ApproximationLaws.{between_one, nearest_one, none_between, none_within}
use Rattle.ratio_expressions.proofs.DivisorLaws.{gcd_one, lcm_one, same_pair}
use Rattle.ratio_expressions.specs.Limits.{FitTogether}
use Rattle.ratio_expressions.specs.Worths.{Worth, Amount, Truth}

pub same_terms : (z x y : ℤ × ℤ) → HasTerms z x → HasTerms z y → x ≡ y
same_terms z x y h g = same_pair x y (lowest_unique z.0 z.1 x.0 x.1 y.0 y.1 h g)

abbrev IsLowest : ℤ × ℤ → Type 0
IsLowest x = IsLowestTerms x.0 x.1

-- ---- one extreme number

neither : (o side : Ordering) → side ≢ Equal → o ≢ side → ordering_reverse o ≢ side → o ≡ Equal
neither Equal side some here there = refl
neither Less Less some here there = absurd (here refl)
neither Less Greater some here there = absurd (there refl)
neither Greater Greater some here there = absurd (here refl)
neither Greater Less some here there = absurd (there refl)
neither o Equal some here there = absurd (some refl)

extreme_one : (side : Ordering) → side ≢ Equal → (xs : List (ℤ × ℤ)) (r q : ℤ × ℤ) → All IsLowest xs → IsExtreme side xs r → IsExtreme side xs q → r ≡ q
extreme_one side some xs r q low h g =
    let first : IsLowest r = All-contains IsLowest xs r low h.among in
    let second : IsLowest q = All-contains IsLowest xs q low g.among in
    let here : cross_cmp r.0 r.1 q.0 q.1 ≢ side = All-contains (λ x. cross_cmp x.0 x.1 q.0 q.1 ≢ side) xs r g.beyond h.among in
    let there : cross_cmp q.0 q.1 r.0 r.1 ≢ side = All-contains (λ x. cross_cmp x.0 x.1 r.0 r.1 ≢ side) xs q h.beyond g.among in
    let turned = cross_turned q.0 q.1 r.0 r.1 (positive_nonzero q.1 second.positive) (positive_nonzero r.1 first.positive) in
    let equal = neither (cross_cmp r.0 r.1 q.0 q.1) side some here (λ e. there (turned ∙ e)) in
    same_pair r q ((cross_lowest r.0 r.1 q.0 q.1 first second).0 equal)

-- ---- one number of a function

head : (x : ℤ × ℤ) (xs : List (ℤ × ℤ)) → All IsLowest (x ∷ xs) → pos 0 <ℤ x.1
head x xs low = let first = low 0 x (omega arith) in first.positive

second : (x y : ℤ × ℤ) (xs : List (ℤ × ℤ)) → All IsLowest (x ∷ y ∷ xs) → pos 0 <ℤ y.1
second x y xs low = let next = low 1 y (omega arith) in next.positive

cents_one : (x r q : ℤ × ℤ) → pos 0 <ℤ x.1 → IsMultipleBy HalfAway x (pos 1, pos 100) r → IsMultipleBy HalfAway x (pos 1, pos 100) q → r ≡ q
cents_one x r q up h g =
    let same : h.count ≡ g.count = one_by HalfAway (x.0 *ℤ pos 100) (x.1 *ℤ pos 1) h.count g.count (omega (arith, ints)) h.rounded g.rounded in
    same_terms (g.count *ℤ pos 1, pos 100) r q (subst (λ (k : ℤ). HasTerms (k *ℤ pos 1, pos 100) r) same h.terms) g.terms

number_one : (f : Function) (xs : List (ℤ × ℤ)) (r q : ℤ × ℤ) → All IsLowest xs → GivesNumber f xs r → GivesNumber f xs q → r ≡ q
number_one functions.Abs (x ∷ []) r q low h g = h ∙ sym g
number_one functions.Floor (x ∷ []) r q low h g = same_pair r q (one_floor x.0 x.1 r.0 q.0 (head x [] low) h.0 g.0, h.1 ∙ sym g.1)
number_one functions.Ceil (x ∷ []) r q low h g = same_pair r q (one_ceiling x.0 x.1 r.0 q.0 (head x [] low) h.0 g.0, h.1 ∙ sym g.1)
number_one functions.Round (x ∷ []) r q low h g = same_pair r q (one_rounded x.0 x.1 r.0 q.0 (head x [] low) h.0 g.0, h.1 ∙ sym g.1)
number_one functions.Trunc (x ∷ []) r q low h g = same_pair r q (one_truncation x.0 x.1 r.0 q.0 (head x [] low) h.0 g.0, h.1 ∙ sym g.1)
number_one functions.Cents (x ∷ []) r q low h g = cents_one x r q (head x [] low) h g
number_one functions.Gcd xs r q low h g = gcd_one xs r q h g
number_one functions.Lcm xs r q low h g = lcm_one xs r q h g
number_one functions.Min xs r q low h g = extreme_one Less (λ e. cc) xs r q low h g
number_one functions.Max xs r q low h g = extreme_one Greater (λ e. cc) xs r q low h g
number_one functions.Nearest (x ∷ most ∷ []) r q low h g = nearest_one x most r q (second x most [] low) h g
number_one functions.Between (x ∷ y ∷ []) r q low h g = between_one x y r q (head x (y ∷ []) low) (second x y [] low) h g
number_one f xs r q low h g = absurd h

number_not_refused : (f : Function) (xs : List (ℤ × ℤ)) (r : ℤ × ℤ) (reason : Reason) → All IsLowest xs → GivesNumber f xs r → FunctionRefuses f xs reason → ⊥
number_not_refused functions.Nearest (x ∷ most ∷ []) r reasons.BoundBelowOne low h g = none_within x most r (second x most [] low) h g
number_not_refused functions.Between (x ∷ y ∷ []) r reasons.NothingBetween low h g = none_between x y r g h
number_not_refused f xs r reason low h g = g

number_refused_once : (f : Function) (xs : List (ℤ × ℤ)) (r q : Reason) → FunctionRefuses f xs r → FunctionRefuses f xs q → r ≡ q
number_refused_once functions.Nearest (x ∷ most ∷ []) reasons.BoundBelowOne reasons.BoundBelowOne h g = refl
number_refused_once functions.Nearest (x ∷ most ∷ []) reasons.BoundBelowOne q h g = absurd g
number_refused_once functions.Between (x ∷ y ∷ []) reasons.NothingBetween reasons.NothingBetween h g = refl
number_refused_once functions.Between (x ∷ y ∷ []) reasons.NothingBetween q h g = absurd g
number_refused_once f xs r q h g = absurd h

-- ---- one value of a call

same_function : (name : List ℕ) (f g : Function) → function_of name ≡ Some f → function_of name ≡ Some g → f ≡ g
same_function name f g h k = let both : Some f ≡ Some g = sym h ∙ k in cc

no_function : (name : List ℕ) (f : Function) → function_of name ≡ Some f → function_of name ≡ None → ⊥
no_function name f h k = let both : Some f ≡ None = sym h ∙ k in cc

amounts_one : (xs ys : List (ℤ × ℤ)) → map Amount xs ≡ map Amount ys → xs ≡ ys
amounts_one [] [] e = refl
amounts_one [] (y ∷ ys) e = absurd (cc)
amounts_one (x ∷ xs) [] e = absurd (cc)
amounts_one (x ∷ xs) (y ∷ ys) e =
    let first : Amount x ≡ Amount y = cc in
    let same : x ≡ y = cc in
    let rest : map Amount xs ≡ map Amount ys = cc in
    ap (λ z. z ∷ xs) same ∙ ap (λ l. y ∷ l) (amounts_one xs ys rest)

pub call_one : (name : List ℕ) (ws : List Worth) (v w : Worth) → GivesCall name ws v → GivesCall name ws w → v ≡ w
call_one name ws v w h g =
    let function : h.function ≡ g.function = same_function name h.function g.function h.named g.named in
    let numbers : h.numbers ≡ g.numbers = amounts_one h.numbers g.numbers (sym h.given.same ∙ g.given.same) in
    let first : GivesNumber g.function h.numbers h.result = subst (λ f. GivesNumber f h.numbers h.result) function h.gives in
    let both : GivesNumber g.function g.numbers h.result = subst (λ xs. GivesNumber g.function xs h.result) numbers first in
    h.is ∙ ap Amount (number_one g.function g.numbers h.result g.result g.given.lowest both g.gives) ∙ sym g.is

-- ---- one refusal

abbrev IsAmount : Worth → Type 0
IsAmount (Amount x) = Unit {0}
IsAmount (Truth b) = ⊥

no_truth : (ws : List Worth) (xs : List (ℤ × ℤ)) → AreNumbers ws xs → HaveTruth ws → ⊥
no_truth ws xs are truth =
    let all : All IsAmount (map Amount xs) = All-map IsAmount Amount xs (λ k d within. tt) in
    All-contains IsAmount ws (Truth truth.0) (subst (All IsAmount) (sym are.same) all) truth.1

refused_by_numbers : (f : Function) (xs : List (ℤ × ℤ)) (r : Reason) → FunctionRefuses f xs r → (name : List ℕ) (ws : List Worth) → RefusesAmounts name ws r → RefusesCall name ws r
refused_by_numbers functions.Nearest (x ∷ most ∷ []) reasons.BoundBelowOne h name ws amounts = amounts
refused_by_numbers functions.Between (x ∷ y ∷ []) reasons.NothingBetween h name ws amounts = amounts
refused_by_numbers f xs r h name ws amounts = absurd h

refused_any : (f : Function) (xs : List (ℤ × ℤ)) (r : Reason) → FunctionRefusesAny f xs r → (name : List ℕ) (ws : List Worth) → RefusesAmounts name ws r → RefusesCall name ws r
refused_any f xs r (inl h) name ws amounts = subst (RefusesCall name ws) (sym h.0) (subst (RefusesAmounts name ws) h.0 amounts)
refused_any f xs r (inr h) name ws amounts = refused_by_numbers f xs r h.1 name ws amounts

-- a call refuses its arguments where its function refuses the numbers that they are
pub amounts_refused : (name : List ℕ) (ws : List Worth) (r : Reason) → RefusesAmounts name ws r → RefusesCall name ws r
amounts_refused name ws r h = refused_any h.function h.numbers r h.refuses name ws h

any_not_refused : (f : Function) (xs : List (ℤ × ℤ)) (r : ℤ × ℤ) (reason : Reason) → All IsLowest xs → FitTogether xs → GivesNumber f xs r → FunctionRefusesAny f xs reason → ⊥
any_not_refused f xs r reason low fit h (inl g) = g.1 fit
any_not_refused f xs r reason low fit h (inr g) = number_not_refused f xs r reason low h g.1

any_refused_once : (f : Function) (xs : List (ℤ × ℤ)) (r q : Reason) → FunctionRefusesAny f xs r → FunctionRefusesAny f xs q → r ≡ q
any_refused_once f xs r q (inl h) (inl g) = h.0 ∙ sym g.0
any_refused_once f xs r q (inl h) (inr g) = absurd (h.1 g.0)
any_refused_once f xs r q (inr h) (inl g) = absurd (g.1 h.0)
any_refused_once f xs r q (inr h) (inr g) = number_refused_once f xs r q h.1 g.1

amounts_not_refused : (name : List ℕ) (ws : List Worth) (w : Worth) (r : Reason) → GivesCall name ws w → RefusesAmounts name ws r → ⊥
amounts_not_refused name ws w r h g =
    let function : h.function ≡ g.function = same_function name h.function g.function h.named g.named in
    let numbers : h.numbers ≡ g.numbers = amounts_one h.numbers g.numbers (sym h.given.same ∙ g.given.same) in
    let first : GivesNumber g.function h.numbers h.result = subst (λ f. GivesNumber f h.numbers h.result) function h.gives in
    let both : GivesNumber g.function g.numbers h.result = subst (λ xs. GivesNumber g.function xs h.result) numbers first in
    any_not_refused g.function g.numbers h.result r g.given.lowest (subst FitTogether numbers h.fit) both g.refuses

amounts_refused_once : (name : List ℕ) (ws : List Worth) (r q : Reason) → RefusesAmounts name ws r → RefusesAmounts name ws q → r ≡ q
amounts_refused_once name ws r q h g =
    let function : h.function ≡ g.function = same_function name h.function g.function h.named g.named in
    let numbers : h.numbers ≡ g.numbers = amounts_one h.numbers g.numbers (sym h.given.same ∙ g.given.same) in
    let first : FunctionRefusesAny g.function h.numbers r = subst (λ f. FunctionRefusesAny f h.numbers r) function h.refuses in
    let both : FunctionRefusesAny g.function g.numbers r = subst (λ xs. FunctionRefusesAny g.function xs r) numbers first in
    any_refused_once g.function g.numbers r q both g.refuses

pub call_not_refused : (name : List ℕ) (ws : List Worth) (w : Worth) (r : Reason) → GivesCall name ws w → RefusesCall name ws r → ⊥
call_not_refused name ws w reasons.UnknownCall h g = no_function name h.function h.named g
call_not_refused name ws w reasons.ArgumentCount h g = g.2 (subst (λ f. TakesCount f (length ws)) (same_function name h.function g.0 h.named g.1) h.count)
call_not_refused name ws w reasons.NotNumber h g = no_truth ws h.numbers h.given g.3
call_not_refused name ws w r h g = amounts_not_refused name ws w r h g

pub call_refused_once : (name : List ℕ) (ws : List Worth) (r q : Reason) → RefusesCall name ws r → RefusesCall name ws q → r ≡ q
call_refused_once name ws reasons.UnknownCall reasons.UnknownCall h g = refl
call_refused_once name ws reasons.UnknownCall reasons.ArgumentCount h g = absurd (no_function name g.0 g.1 h)
call_refused_once name ws reasons.UnknownCall reasons.NotNumber h g = absurd (no_function name g.0 g.1 h)
call_refused_once name ws reasons.ArgumentCount reasons.UnknownCall h g = absurd (no_function name h.0 h.1 g)
call_refused_once name ws reasons.ArgumentCount reasons.ArgumentCount h g = refl
call_refused_once name ws reasons.ArgumentCount reasons.NotNumber h g = absurd (h.2 (subst (λ f. TakesCount f (length ws)) (same_function name g.0 h.0 g.1 h.1) g.2))
call_refused_once name ws reasons.NotNumber reasons.UnknownCall h g = absurd (no_function name h.0 h.1 g)
call_refused_once name ws reasons.NotNumber reasons.ArgumentCount h g = absurd (g.2 (subst (λ f. TakesCount f (length ws)) (same_function name h.0 g.0 h.1 g.1) h.2))
call_refused_once name ws reasons.NotNumber reasons.NotNumber h g = refl
call_refused_once name ws reasons.UnknownCall q h g = absurd (no_function name g.function g.named h)
call_refused_once name ws reasons.ArgumentCount q h g = absurd (h.2 (subst (λ f. TakesCount f (length ws)) (same_function name g.function h.0 g.named h.1) g.count))
call_refused_once name ws reasons.NotNumber q h g = absurd (no_truth ws g.numbers g.given h.3)
call_refused_once name ws r reasons.UnknownCall h g = absurd (no_function name h.function h.named g)
call_refused_once name ws r reasons.ArgumentCount h g = absurd (g.2 (subst (λ f. TakesCount f (length ws)) (same_function name h.function g.0 h.named g.1) h.count))
call_refused_once name ws r reasons.NotNumber h g = absurd (no_truth ws h.numbers h.given g.3)
call_refused_once name ws r q h g = amounts_refused_once name ws r q h g
