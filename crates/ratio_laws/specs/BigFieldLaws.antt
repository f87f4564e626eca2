-- The laws of a field, for fractions of any size. A fraction is a pair here, and a call is what it says of its operands and its result: `IsSum x y z`
-- says that z is x + y in lowest terms, as `add` returns it.
use Rattle.std.specs.Prelude.{◌≡◌, ◌↔◌, ℤ, pos, Option, None}
use Rattle.ratio_integer.specs.Arithmetic.{difference_of, quotient_of}
use Rattle.ratio_core.specs.Laws.{IsProduct, IsSum}
use Rattle.ratio_big.specs.Fractions.{GivesBigQuotient}
use Rattle.ratio_big.specs.Values.{HasTerms, negative_pair}
use Rattle.ratio_big.specs.declared.fraction.BigFraction.{BigFraction}

-- z is x - y in lowest terms
-- Example: 3/4 and 1/2: 1/4
abbrev pub IsDifferenceOf : ℤ × ℤ → ℤ × ℤ → ℤ × ℤ → Type 0
IsDifferenceOf x y z = HasTerms (difference_of x.0 x.1 y.0 y.1) z

-- z is x / y in lowest terms, so y is not 0
-- Example: 3/4 and 1/2: 3/2
abbrev pub IsQuotientOf : ℤ × ℤ → ℤ × ℤ → ℤ × ℤ → Type 0
IsQuotientOf x y z = HasTerms (quotient_of x.0 x.1 y.0 y.1) z

-- z is 1 / x in lowest terms, so x is not 0
-- Example: -2/3: -3/2
abbrev pub IsReciprocalOf : ℤ × ℤ → ℤ × ℤ → Type 0
IsReciprocalOf x z = IsQuotientOf (pos 1, pos 1) x z

-- the call returns z of x and y, and nothing else
-- Example: 1/2 of 1/2 and 0, for `IsSum`
abbrev pub GivesOnly : (ℤ × ℤ → ℤ × ℤ → ℤ × ℤ → Type 0) → ℤ × ℤ → ℤ × ℤ → ℤ × ℤ → Type 0
GivesOnly Call x y z = (result : ℤ × ℤ) → Call x y result → result ≡ z

-- x∘y is y∘x, where ∘ is the call
-- Example: x + y is y + x
abbrev pub Commutes : (ℤ × ℤ → ℤ × ℤ → ℤ × ℤ → Type 0) → ℤ × ℤ → ℤ × ℤ → Type 0
Commutes Call x y = (left right : ℤ × ℤ) → Call x y left → Call y x right → left ≡ right

-- (x∘y)∘z is x∘(y∘z), where ∘ is the call
-- Example: (x + y) + z is x + (y + z)
abbrev pub Associates : (ℤ × ℤ → ℤ × ℤ → ℤ × ℤ → Type 0) → ℤ × ℤ → ℤ × ℤ → ℤ × ℤ → Type 0
Associates Call x y z = (xy yz left right : ℤ × ℤ) → Call x y xy → Call xy z left → Call y z yz → Call x yz right → left ≡ right

-- the first call of x with the second one of y and z is the second one of the first ones of x with each
-- Example: x * (y + z) is x * y + x * z
abbrev pub Distributes : (ℤ × ℤ → ℤ × ℤ → ℤ × ℤ → Type 0) → (ℤ × ℤ → ℤ × ℤ → ℤ × ℤ → Type 0) → ℤ × ℤ → ℤ × ℤ → ℤ × ℤ → Type 0
Distributes First Second x y z =
    (yz left xy xz right : ℤ × ℤ)
    → Second y z yz
    → First x yz left
    → First x y xy
    → First x z xz
    → Second xy xz right
    → left ≡ right

-- the second call undoes what the first one did by y
-- Example: (x - y) + y is x
abbrev pub IsUndone : (ℤ × ℤ → ℤ × ℤ → ℤ × ℤ → Type 0) → (ℤ × ℤ → ℤ × ℤ → ℤ × ℤ → Type 0) → ℤ × ℤ → ℤ × ℤ → Type 0
IsUndone First Second x y = (done : ℤ × ℤ) → First x y done → GivesOnly Second done y x

-- x - y is x + (-y)
abbrev pub IsSumWithNegative : ℤ × ℤ → ℤ × ℤ → Type 0
IsSumWithNegative x y = (difference : ℤ × ℤ) → IsDifferenceOf x y difference → GivesOnly IsSum x (negative_pair y) difference

-- x times its reciprocal is 1
abbrev pub HasInverse : ℤ × ℤ → Type 0
HasInverse x = (reciprocal : ℤ × ℤ) → IsReciprocalOf x reciprocal → GivesOnly IsProduct x reciprocal (pos 1, pos 1)

-- x / y is x times the reciprocal of y
abbrev pub IsProductWithReciprocal : ℤ × ℤ → ℤ × ℤ → Type 0
IsProductWithReciprocal x y = (reciprocal quotient : ℤ × ℤ) → IsReciprocalOf y reciprocal → IsQuotientOf x y quotient → GivesOnly IsProduct x reciprocal quotient

-- x / y is `None` exactly if y is 0
abbrev pub IsRefusedByZero : ℤ × ℤ → ℤ × ℤ → Type 0
IsRefusedByZero x y = (quotient : Option BigFraction) → GivesBigQuotient x y quotient → (quotient ≡ None) ↔ (y.0 ≡ pos 0)
