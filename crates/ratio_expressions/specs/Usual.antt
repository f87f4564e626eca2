-- How expressions are read elsewhere: `*`, `/` and `%` from the left, whatever spaces are around them.
use Rattle.std.specs.Prelude.{◌≡◌, ◌≤◌, ℕ, [], ◌∷◌}
use Rattle.ratio_expressions.specs.Grammar.{Tree, Number, Name, Signed, Between, Group, Call, Listed, IsProper, Rank, Comparison, Sum, Quotient, Product, Slash, Raising, rank}
use Rattle.ratio_expressions.specs.Slashes.{whole_chains}

-- how tightly an operator binds; arguments with a comma between them are at 2, a sign before an operand is at 5, and an operand at 7
abbrev pub usual_level : Rank → ℕ
usual_level Comparison = 1
usual_level Sum = 3
usual_level Quotient = 4
usual_level Product = 4
usual_level Slash = 4
usual_level Raising = 6

-- how tightly the expression on the left must bind
abbrev pub usual_left : Rank → ℕ
usual_left Comparison = 3
usual_left Sum = 3
usual_left Quotient = 4
usual_left Product = 4
usual_left Slash = 4
usual_left Raising = 7

-- how tightly the expression on the right must bind
abbrev pub usual_right : Rank → ℕ
usual_right Comparison = 3
usual_right Sum = 4
usual_right Quotient = 5
usual_right Product = 5
usual_right Slash = 5
usual_right Raising = 5

-- how tightly an expression binds
abbrev pub usual_binds : Tree → ℕ
usual_binds (Number s) = 7
usual_binds (Name s) = 7
usual_binds (Signed g s t) = 5
usual_binds (Between o s a b) = usual_level (rank o)
usual_binds (Group s t e) = 7
usual_binds (Call n s t e) = 7
usual_binds (Listed a s b) = 2

-- each operator has operands that bind tightly enough
abbrev pub IsUsual : Tree → Type 0
IsUsual (Number s) = Unit {0}
IsUsual (Name s) = Unit {0}
IsUsual (Signed g s t) = (5 ≤ usual_binds t) × IsUsual t
IsUsual (Between o s a b) = (usual_left (rank o) ≤ usual_binds a) × (usual_right (rank o) ≤ usual_binds b) × IsUsual a × IsUsual b
IsUsual (Group s t e) = (3 ≤ usual_binds t) × IsUsual t
IsUsual (Call n s t e) = (2 ≤ usual_binds t) × IsUsual t
IsUsual (Listed a s b) = (2 ≤ usual_binds a) × (3 ≤ usual_binds b) × IsUsual a × IsUsual b

-- Law: an expression of which no chain is taken whole is read as elsewhere
-- Example: `8/2/2*3`; not `1/2 / 1/3`
abbrev pub IsUsualWithoutChains : Type 0
IsUsualWithoutChains = (t : Tree) → IsProper t → whole_chains t ≡ [] → IsUsual t
