-- The numbers of a primitive type feed a hasher unlike lists, since the bytes of a number tell it.
use Rattle.std.specs.Prelude.{◌≡◌, ◌+◌, ◌*◌, ◌-◌, ◌/◌, ◌%◌, ◌^◌, ◌<◌, ℕ, zero, suc, ℤ, pos, negsuc, unsigned_abs, List, [], ◌∷◌, length}
use Rattle.std.proofs.Common.{sym, ap, arith, subst, pow-suc, ◌∙◌}
use Rattle.std.proofs.lemmas.Int.{ints}
use Rattle.std.proofs.Math.Nat.{div-add-mod, div-div-eq-div-mul, div-eq_of_lt}
use Rattle.std.specs.Hash.{le_bytes}
use Rattle.std.specs.Int.{bytes_low_first}
use Rattle.ratio_integer.specs.Range.{IsHeld}
use Rattle.ratio_laws.specs.ToldApart.{AreToldApart}

first_same : {A : Type 0} {x y : A} {xs ys : List A} → x ∷ xs ≡ y ∷ ys → x ≡ y
first_same same = cc

rest_same : {A : Type 0} {x y : A} {xs ys : List A} → x ∷ xs ≡ y ∷ ys → xs ≡ ys
rest_same same = cc

-- a number without its low bytes is the next byte and what lies above that
next_byte : (i n : ℕ) → 256 * (n / 256 ^ suc i) + n / 256 ^ i % 256 ≡ n / 256 ^ i
next_byte i n =
    ap (λ t. 256 * (n / t) + n / 256 ^ i % 256) (pow-suc 256 i)
    ∙ ap (λ t. 256 * t + n / 256 ^ i % 256) (sym (div-div-eq-div-mul n (256 ^ i) 256))
    ∙ div-add-mod (n / 256 ^ i) 256

-- the bytes from one on tell what lies above the bytes before
high_bytes_tell : (k i n m all : ℕ) → suc i + k ≡ all → n < 256 ^ all → m < 256 ^ all → bytes_low_first (suc i) k n ≡ bytes_low_first (suc i) k m → n / 256 ^ suc i ≡ m / 256 ^ suc i
high_bytes_tell zero i n m all e small less same =
    let bound : all ≡ suc i = omega (arith) in
    div-eq_of_lt (subst (λ t. n < 256 ^ t) bound small) ∙ sym (div-eq_of_lt (subst (λ t. m < 256 ^ t) bound less))
high_bytes_tell (suc k) i n m all e small less same =
    let above = high_bytes_tell k (suc i) n m all (omega (arith)) small less (rest_same same) in
    sym (next_byte (suc i) n) ∙ ap (λ t. 256 * t + n / 256 ^ suc i % 256) above ∙ ap (λ t. 256 * (m / 256 ^ suc (suc i)) + t) (first_same same) ∙ next_byte (suc i) m

-- numbers with the same bytes are the same, where no byte is left
pub bytes_tell : (k n m : ℕ) → n < 256 ^ suc k → m < 256 ^ suc k → le_bytes (suc k) n ∷ [] ≡ le_bytes (suc k) m ∷ [] → n ≡ m
unfolding le_bytes
bytes_tell k n m small less same =
    let bytes = first_same same in
    let above = high_bytes_tell k 0 n m (suc k) (omega (arith)) small less (rest_same bytes) in
    sym (div-add-mod n 256) ∙ ap (λ t. 256 * t + n % 256) above ∙ ap (λ t. 256 * (m / 256) + t) (first_same bytes) ∙ div-add-mod m 256

pub byte_tells : (n m : ℕ) → (n ∷ []) ∷ [] ≡ (m ∷ []) ∷ [] → n ≡ m
byte_tells n m same = first_same (first_same same)

-- whether the lists that a width feeds a hasher tell its numbers below `all`
abbrev pub Tells : (all : ℕ) (write : ℕ → List (List ℕ)) → Type 0
Tells all write = (n m : ℕ) → n < all → m < all → write n ≡ write m → n ≡ m

module _ (h : ℕ) (write : ℕ → List (List ℕ)) (one : (n : ℕ) → length (write n) ≡ 1) where
  pub unsigned_apart : Tells (suc h) write → AreToldApart (pos 0) (pos h) (λ z. write (unsigned_abs z))
  unsigned_apart tells = record { size = 1; long = λ z is. one (unsigned_abs z); apart = apart tells }
    where
      apart : Tells (suc h) write → (y z : ℤ) → IsHeld (pos 0) (pos h) y → IsHeld (pos 0) (pos h) z → write (unsigned_abs y) ≡ write (unsigned_abs z) → y ≡ z
      apart tells (pos n) (pos m) yh zh same = ap pos (tells n m (omega (arith, ints)) (omega (arith, ints)) same)
      apart tells (negsuc n) z yh zh same = absurd (omega (arith, ints))
      apart tells (pos n) (negsuc m) yh zh same = absurd (omega (arith, ints))

  -- where the numbers below 0 count down from the top
  pub signed_apart : (code : ℤ → ℕ) → ((n : ℕ) → code (pos n) ≡ n) → ((n : ℕ) → code (negsuc n) ≡ suc h + suc h - suc n) → Tells (suc h + suc h) write → AreToldApart (negsuc h) (pos h) (λ z. write (code z))
  signed_apart code up down tells = record { size = 1; long = λ z is. one (code z); apart = apart }
    where
      codes : (y z : ℤ) → IsHeld (negsuc h) (pos h) y → IsHeld (negsuc h) (pos h) z → code y ≡ code z → y ≡ z
      codes (pos n) (pos m) yh zh same = let a = up n in let b = up m in ap pos (omega (arith))
      codes (negsuc n) (negsuc m) yh zh same = let a = down n in let b = down m in ap negsuc (omega (arith, ints))
      codes (pos n) (negsuc m) yh zh same = let a = up n in let b = down m in absurd (omega (arith, ints))
      codes (negsuc n) (pos m) yh zh same = let a = down n in let b = up m in absurd (omega (arith, ints))

      low : (z : ℤ) → IsHeld (negsuc h) (pos h) z → code z < suc h + suc h
      low (pos n) is = let a = up n in omega (arith, ints)
      low (negsuc n) is = let a = down n in omega (arith, ints)

      apart : (y z : ℤ) → IsHeld (negsuc h) (pos h) y → IsHeld (negsuc h) (pos h) z → write (code y) ≡ write (code z) → y ≡ z
      apart y z yh zh same = codes y z yh zh (tells (code y) (code z) (low y yh) (low z zh) same)
