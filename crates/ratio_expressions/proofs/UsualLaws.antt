-- Where no chain of slashes is taken whole, an expression is read as elsewhere.
use Rattle.std.proofs.Common.{◌≡◌, ◌≤◌, ℕ, Bool, true, false, List, [], ◌∷◌, ◌++◌, refl, arith}
use Rattle.ratio_expressions.specs.declared.token.Span.{Span}
use Rattle.ratio_expressions.specs.declared.token.Operator.{Operator}
use Rattle.ratio_expressions.specs.declared.token.Operator.TheVariants.{Less, AtMost, Equal, NotEqual, AtLeast, Greater, Add, Subtract, Multiply, Divide, Remainder, Power}
use Rattle.ratio_expressions.specs.declared.token.Spacing.TheVariants.{Tight, Half, Wide}
use Rattle.ratio_expressions.specs.Grammar.{Tree, Number, Name, Signed, Between, Group, Call, Listed, IsProper, Rank, Comparison, Sum, Quotient, Product, Slash, Raising, rank, level, left_level, right_level, joined, binds}
use Rattle.ratio_expressions.specs.Slashes.{is_slashed, is_tight, place_of, whole_chains, whole_side}
use Rattle.ratio_expressions.specs.Usual.{IsUsual, usual_binds, usual_left, usual_level, usual_right}
use Rattle.ratio_expressions.proofs.Completeness.{joined_most}

no_front : {A : Type 0} (xs ys : List A) → xs ++ ys ≡ [] → xs ≡ []
no_front [] ys e = refl
no_front (x ∷ xs) ys e = absurd (cc)

no_rest : {A : Type 0} (xs ys : List A) → xs ++ ys ≡ [] → ys ≡ []
no_rest [] ys e = e
no_rest (x ∷ xs) ys e = absurd (cc)

usual_of_rank : (r : Rank) (n : ℕ) → n ≤ level r → n ≤ 4 → n ≤ usual_level r
usual_of_rank Comparison n h low = omega arith
usual_of_rank Sum n h low = omega arith
usual_of_rank Quotient n h low = omega arith
usual_of_rank Product n h low = omega arith
usual_of_rank Slash n h low = omega arith
usual_of_rank Raising n h low = omega arith

-- what binds as a sum, a product or a comma's side binds so elsewhere
low_usual : (t : Tree) (n : ℕ) → n ≤ 4 → n ≤ binds t → n ≤ usual_binds t
low_usual (Number s) n low h = omega arith
low_usual (Name s) n low h = omega arith
low_usual (Signed g s t) n low h = omega arith
low_usual (Between o s a b) n low h = usual_of_rank (rank o) n (omega (arith, h, joined_most (rank o) (binds a))) low
low_usual (Group s t e) n low h = omega arith
low_usual (Call n s t e) m low h = omega arith
low_usual (Listed a s b) n low h = omega arith

signed_rank : (r : Rank) → 7 ≤ level r → 5 ≤ usual_level r
signed_rank Comparison h = omega arith
signed_rank Sum h = omega arith
signed_rank Quotient h = omega arith
signed_rank Product h = omega arith
signed_rank Slash h = omega arith
signed_rank Raising h = omega arith

-- what binds as a sign does so elsewhere
sign_usual : (t : Tree) → 7 ≤ binds t → 5 ≤ usual_binds t
sign_usual (Number s) h = omega arith
sign_usual (Name s) h = omega arith
sign_usual (Signed g s t) h = omega arith
sign_usual (Between o s a b) h = signed_rank (rank o) (omega (arith, h, joined_most (rank o) (binds a)))
sign_usual (Group s t e) h = omega arith
sign_usual (Call n s t e) h = omega arith
sign_usual (Listed a s b) h = absurd (omega arith)

atom_rank : (r : Rank) → 9 ≤ level r → ⊥
atom_rank Comparison h = omega arith
atom_rank Sum h = omega arith
atom_rank Quotient h = omega arith
atom_rank Product h = omega arith
atom_rank Slash h = omega arith
atom_rank Raising h = omega arith

-- and so does an operand
atom_usual : (t : Tree) → 9 ≤ binds t → 7 ≤ usual_binds t
atom_usual (Number s) h = omega arith
atom_usual (Name s) h = omega arith
atom_usual (Signed g s t) h = absurd (omega arith)
atom_usual (Between o s a b) h = absurd (atom_rank (rank o) (omega (arith, h, joined_most (rank o) (binds a))))
atom_usual (Group s t e) h = omega arith
atom_usual (Call n s t e) h = omega arith
atom_usual (Listed a s b) h = absurd (omega arith)

left_usual : (r : Rank) (t : Tree) → left_level r ≤ binds t → usual_left r ≤ usual_binds t
left_usual Comparison t h = low_usual t 3 (omega arith) h
left_usual Sum t h = low_usual t 3 (omega arith) h
left_usual Quotient t h = low_usual t 4 (omega arith) h
left_usual Product t h = low_usual t 4 (omega arith) h
left_usual Slash t h = low_usual t 4 (omega arith) (omega (arith, h))
left_usual Raising t h = atom_usual t h

-- what binds as a chain, but is none, is a power
power_usual : (o : Operator) (left : ℕ) → 6 ≤ joined (rank o) left → is_tight o ≡ false → 5 ≤ usual_level (rank o)
power_usual Power left h e = omega arith
power_usual (Divide Tight) left h e = absurd (cc)
power_usual (Divide Half) left h e = absurd (omega arith)
power_usual (Divide Wide) left h e = absurd (omega arith)
power_usual (Remainder Tight) left h e = absurd (omega arith)
power_usual (Remainder Half) left h e = absurd (omega arith)
power_usual (Remainder Wide) left h e = absurd (omega arith)
power_usual Less left h e = absurd (omega arith)
power_usual AtMost left h e = absurd (omega arith)
power_usual Equal left h e = absurd (omega arith)
power_usual NotEqual left h e = absurd (omega arith)
power_usual AtLeast left h e = absurd (omega arith)
power_usual Greater left h e = absurd (omega arith)
power_usual Add left h e = absurd (omega arith)
power_usual Subtract left h e = absurd (omega arith)
power_usual Multiply left h e = absurd (omega arith)

chain_usual : (t : Tree) → 6 ≤ binds t → is_slashed t ≡ false → 5 ≤ usual_binds t
chain_usual (Number s) h e = omega arith
chain_usual (Name s) h e = omega arith
chain_usual (Signed g s t) h e = omega arith
chain_usual (Between o s a b) h e = power_usual o (binds a) h e
chain_usual (Group s t f) h e = omega arith
chain_usual (Call n s t f) h e = omega arith
chain_usual (Listed a s b) h e = absurd (omega arith)

divided_whole : (slashed : Bool) (s : Span) → whole_side (Divide Wide) slashed s ≡ [] → slashed ≡ false
divided_whole true s e = absurd (cc)
divided_whole false s e = refl

rest_whole : (slashed : Bool) (s : Span) → whole_side (Remainder Wide) slashed s ≡ [] → slashed ≡ false
rest_whole true s e = absurd (cc)
rest_whole false s e = refl

right_usual : (o : Operator) (t : Tree) → right_level (rank o) ≤ binds t → whole_side o (is_slashed t) (place_of t) ≡ [] → usual_right (rank o) ≤ usual_binds t
right_usual (Divide Wide) t h e = chain_usual t h (divided_whole (is_slashed t) (place_of t) e)
right_usual (Divide Half) t h e = sign_usual t h
right_usual (Divide Tight) t h e = sign_usual t h
right_usual (Remainder Wide) t h e = chain_usual t h (rest_whole (is_slashed t) (place_of t) e)
right_usual (Remainder Half) t h e = sign_usual t h
right_usual (Remainder Tight) t h e = sign_usual t h
right_usual Multiply t h e = sign_usual t h
right_usual Power t h e = sign_usual t h
right_usual Add t h e = low_usual t 4 (omega arith) h
right_usual Subtract t h e = low_usual t 4 (omega arith) h
right_usual Less t h e = low_usual t 3 (omega arith) h
right_usual AtMost t h e = low_usual t 3 (omega arith) h
right_usual Equal t h e = low_usual t 3 (omega arith) h
right_usual NotEqual t h e = low_usual t 3 (omega arith) h
right_usual AtLeast t h e = low_usual t 3 (omega arith) h
right_usual Greater t h e = low_usual t 3 (omega arith) h

-- an expression of which no chain is taken whole is read as elsewhere
pub usual : (t : Tree) → IsProper t → whole_chains t ≡ [] → IsUsual t
usual (Number s) p e = tt
usual (Name s) p e = tt
usual (Signed g s t) p e = (sign_usual t p.0, usual t p.1 e)
usual (Between o s a b) p e =
    let rest : whole_chains b ++ whole_side o (is_slashed b) (place_of b) ≡ [] = no_rest (whole_chains a) _ e in (
      left_usual (rank o) a p.0,
      right_usual o b p.1 (no_rest (whole_chains b) _ rest),
      usual a p.2 (no_front (whole_chains a) _ e),
      usual b p.3 (no_front (whole_chains b) _ rest),
    )
usual (Group s t f) p e = (low_usual t 3 (omega arith) p.0, usual t p.1 e)
usual (Call n s t f) p e = (low_usual t 2 (omega arith) p.0, usual t p.1 e)
usual (Listed a s b) p e =
    (low_usual a 2 (omega arith) p.0, low_usual b 3 (omega arith) p.1, usual a p.2 (no_front (whole_chains a) _ e), usual b p.3 (no_rest (whole_chains a) _ e))
