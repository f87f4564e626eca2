-- Tests of bytes.
use Rattle.std.proofs.Common.{◌≡◌, ℕ, ◌==◌, true, arith}
use Rattle.std.proofs.lemmas.Bool.Decides.{nat_tests}

-- bytes that the test finds equal are equal
pub same_byte : (a b : ℕ) → (a == b) ≡ true → a ≡ b
same_byte a b e = grind (arith, nat_tests)

-- the test finds each byte equal to itself
pub equal_itself : (a : ℕ) → (a == a) ≡ true
equal_itself a = grind (arith, nat_tests)
