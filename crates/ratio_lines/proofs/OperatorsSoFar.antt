-- The operators of a chain, taken one by one.
use Rattle.std.proofs.Common.{◌≡◌, ℕ, ◌%◌, Bor, List, [], ◌∷◌, ◌++◌, length, Bool, true, false, ◌&&◌, ◌||◌, ◌==◌, not, nat_lt, Option, None, Some, refl, ap, ◌∙◌, sym, arith, suc, append_assoc}
use Rattle.std.specs.List.{list_any, list_all}
use Rattle.std.specs.Prelude.{codes, option_map, option_and_then}
use Rattle.std.proofs.lemmas.Bool.Decides.{nat_tests}
use Rattle.ratio_lines.specs.Answers.{IsChainAnswer, has_byte, is_chain, is_cmp, operators_of, operator_parts}
use Rattle.ratio_lines.specs.Lines.{front_of}
use Rattle.ratio_lines.specs.Operands.{operator_of}
use Rattle.ratio_lines.specs.Parts.{AreChained, are_terms, parts_of, with_first}
use Rattle.ratio_lines.specs.declared.operator.Operator.{Operator}

-- ---- the shape of a line

odd_after_three : (n : ℕ) → (suc (suc (suc n)) % 2 == 1) ≡ (n % 2 == 0)
odd_after_three n = grind (arith, nat_tests)

more_than_two : (n : ℕ) → nat_lt 2 (suc (suc (suc n))) ≡ true
more_than_two n = grind (arith, nat_tests)

-- a test may come first or later
and_later : (t a b c d : Bool) → (t && (true && (a && (b && (c && d))))) ≡ (a && (b && (c && (t && d))))
and_later true a b c d = refl
and_later false true true true d = refl
and_later false true true false d = refl
and_later false true false c d = refl
and_later false false b c d = refl

-- three parts and others are a chain exactly if none of the three is empty and the others are pairs
pub chain_of : (left operator right : List ℕ) (parts : List (List ℕ))
    → is_chain (left ∷ operator ∷ right ∷ parts) ≡ (has_byte left && (has_byte operator && (has_byte right && are_terms parts)))
chain_of left operator right parts =
    rw (odd_after_three (length parts), more_than_two (length parts))
    (and_later (length parts % 2 == 0) (has_byte left) (has_byte operator) (has_byte right) (list_all has_byte parts))

-- ---- the operators

-- the operators before the last one that was named; none of them is `cmp` exactly if the flag says so
pub record OperatorsSoFar (first last : Operator) (is_cmp_last : Bool) (all rest : List (List ℕ)) : Type 0 where
  pub before : List Operator
  pub joined : with_first first (operators_of (operator_parts all)) ≡ option_map (λ others. before ++ last ∷ others) (operators_of (operator_parts rest))
  pub checked : list_any is_cmp before ≡ not is_cmp_last

pub operators_start : (first : Operator) (all : List (List ℕ)) → OperatorsSoFar first first true all all
operators_start first all = record { before = []; joined = refl; checked = refl }

or_false : (t : Bool) → (t || false) ≡ t
or_false true = refl
or_false false = refl

or_assoc : (a b c : Bool) → ((a || b) || c) ≡ (a || (b || c))
or_assoc true b c = refl
or_assoc false b c = refl

any_both : (before : List Operator) (last : Operator) → list_any is_cmp (before ++ last ∷ []) ≡ (list_any is_cmp before || is_cmp last)
any_both [] last = or_false (is_cmp last)
any_both (operator ∷ before) last =
    ap (λ t. is_cmp operator || t) (any_both before last) ∙ sym (or_assoc (is_cmp operator) (list_any is_cmp before) (is_cmp last))

grown : (before : List Operator) (last next : Operator) (others : Option (List Operator))
    → option_map (λ more. before ++ last ∷ more) (option_map (λ more. next ∷ more) others) ≡ option_map (λ more. (before ++ last ∷ []) ++ next ∷ more) others
grown before last next None = refl
grown before last next (Some more) = ap Some (sym (append_assoc before (last ∷ []) (next ∷ more)))

flag_next : (seen is_last flag : Bool) (last : Bool) → seen ≡ not flag → is_last ≡ (flag && not last) → (seen || last) ≡ not is_last
flag_next seen is_last true true p q = rw (p, q) refl
flag_next seen is_last true false p q = rw (p, q) refl
flag_next seen is_last false last p q = rw (p, q) refl

pub operators_go_on : (first last next : Operator) (flag flag' : Bool) (all rest more : List (List ℕ)) (part : List ℕ) → OperatorsSoFar first last flag all rest
    → operator_parts rest ≡ part ∷ operator_parts more → operator_of part ≡ Some next → flag' ≡ (flag && not (is_cmp last)) → OperatorsSoFar first next flag' all more
operators_go_on first last next flag flag' all rest more part p parts named is_flag = record {
  before = p.before ++ last ∷ [];
  joined =
      let here : operators_of (operator_parts rest) ≡ option_map (λ others. next ∷ others) (operators_of (operator_parts more)) =
      ap operators_of parts ∙ ap (option_and_then (λ operator. option_map (λ operators. operator ∷ operators) (operators_of (operator_parts more)))) named in
      p.joined ∙ ap (option_map (λ others. p.before ++ last ∷ others)) here ∙ grown p.before last next (operators_of (operator_parts more));
  checked = any_both p.before last ∙ flag_next (list_any is_cmp p.before) flag' flag (is_cmp last) p.checked is_flag;
}

-- a part that names no operator refuses the line
pub unknown_operator : (first last : Operator) (flag : Bool) (all rest more : List (List ℕ)) (part : List ℕ) → OperatorsSoFar first last flag all rest
    → operator_parts rest ≡ part ∷ more → operator_of part ≡ None → (left : List ℕ) (rights : List (List ℕ))
    → IsChainAnswer (with_first first (operators_of (operator_parts all))) left rights (codes "error: unknown operator")
unknown_operator first last flag all rest more part p parts none left rights =
    let here : operators_of (operator_parts rest) ≡ None =
    ap operators_of parts ∙ ap (option_and_then (λ operator. option_map (λ operators. operator ∷ operators) (operators_of more))) none in
    rw (p.joined, here) refl

front_before : (before : List Operator) (last : Operator) → front_of (before ++ last ∷ []) ≡ before
front_before [] last = refl
front_before (operator ∷ []) last = refl
front_before (operator ∷ next ∷ before) last = ap (λ operators. operator ∷ operators) (front_before (next ∷ before) last)

begins : (part : List ℕ) (parts : List (List ℕ)) → (more : List (List ℕ)) × (operator_parts (part ∷ parts) ≡ part ∷ more)
begins part [] = ([], refl)
begins part (operand ∷ parts) = (operator_parts parts, refl)

-- the first part of a text, with another one after it or without one
pub parts_two : (rest : Option (Bor (List ℕ))) (text : Bor (List ℕ)) (part operand : List ℕ) (more : List (List ℕ)) (after : Option (Bor (List ℕ))) (behind : Bor (List ℕ))
    → rest ≡ Some text → parts_of (Some text) ≡ part ∷ parts_of after → after ≡ Some behind → parts_of (Some behind) ≡ operand ∷ more → parts_of rest ≡ part ∷ operand ∷ more
parts_two rest text part operand more after behind p q r s = ap parts_of p ∙ q ∙ ap (λ xs. part ∷ parts_of xs) r ∙ ap (λ xs. part ∷ xs) s

pub parts_one : (rest : Option (Bor (List ℕ))) (text : Bor (List ℕ)) (part : List ℕ) (after : Option (Bor (List ℕ)))
    → rest ≡ Some text → parts_of (Some text) ≡ part ∷ parts_of after → after ≡ None → parts_of rest ≡ part ∷ []
parts_one rest text part after p q r = ap parts_of p ∙ q ∙ ap (λ xs. part ∷ parts_of xs) r

-- the first operator part is the first part
pub first_operator : (rest : Option (Bor (List ℕ))) (text : Bor (List ℕ)) (part : List ℕ) (after : Option (Bor (List ℕ)))
    → rest ≡ Some text → parts_of (Some text) ≡ part ∷ parts_of after → (more : List (List ℕ)) × (operator_parts (parts_of rest) ≡ part ∷ more)
first_operator rest text part after p q = let here = begins part (parts_of after) in (here.0, ap operator_parts (ap parts_of p ∙ q) ∙ here.1)

-- after the last part, the operators are those before the last one, and then the last one
all_named : (first last : Operator) (flag : Bool) (all : List (List ℕ)) → OperatorsSoFar first last flag all []
    → (before : List Operator) × (with_first first (operators_of (operator_parts all)) ≡ Some (before ++ last ∷ [])) × (list_any is_cmp (front_of (before ++ last ∷ [])) ≡ not flag)
all_named first last flag all p = (p.before, p.joined, ap (list_any is_cmp) (front_before p.before last) ∙ p.checked)

pub cmp_misplaced : (first last : Operator) (flag : Bool) (all : List (List ℕ)) → OperatorsSoFar first last flag all [] → flag ≡ false
    → (left : List ℕ) (rights : List (List ℕ)) → IsChainAnswer (with_first first (operators_of (operator_parts all))) left rights (codes "error: cmp must be last")
cmp_misplaced first last flag all p late left rights =
    let named = all_named first last flag all p in
    let early : list_any is_cmp (front_of (named.0 ++ last ∷ [])) ≡ true = named.2 ∙ ap not late in
    rw (named.1, early) refl

chained_by : (first : Operator) (parts : List (List ℕ)) (others : Option (List Operator)) (operators : List Operator) → operators_of parts ≡ others
    → with_first first others ≡ Some operators → list_any is_cmp (front_of operators) ≡ false → AreChained first parts
chained_by first parts None operators named all last = absurd (cc)
chained_by first parts (Some others) operators named all last =
    let same : first ∷ others ≡ operators = cc in
    record { others = others; named = named; cmp_last = ap (λ xs. list_any is_cmp (front_of xs)) same ∙ last }

pub operators_chained : (first last : Operator) (flag : Bool) (all : List (List ℕ)) → OperatorsSoFar first last flag all [] → flag ≡ true
    → AreChained first (operator_parts all)
operators_chained first last flag all p on =
    let named = all_named first last flag all p in
    chained_by first (operator_parts all) (operators_of (operator_parts all)) (named.0 ++ last ∷ []) refl named.1 (named.2 ∙ ap not on)
