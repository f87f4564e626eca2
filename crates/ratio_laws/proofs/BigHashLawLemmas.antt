-- Fractions of any size feed a hasher unlike, if they are unlike: what a number feeds tells it, and where it ends.
use Rattle.std.specs.Prelude.{◌≡◌, ◌≢◌, ◌⊎◌, ◌-◌, ◌/◌, ◌^◌, ◌<◌, ◌≤◌, ◌++◌, ℕ, ℤ, zero, suc, pos, negsuc, unsigned_abs, Bool, true, false, List, [], ◌∷◌, length}
use Rattle.std.specs.Hash as fed
use Rattle.std.specs.Hash.{le_bytes}
use Rattle.std.specs.List.{flat_map}
use Rattle.std.proofs.Common.{refl, sym, ap, arith, inl, inr, ◌∙◌, cond}
use Rattle.std.proofs.lemmas.Bool.{cases_Bool, ltb-true}
use Rattle.std.proofs.lemmas.Int.{ints}
use Rattle.ratio_integer.specs.SignedBits.{IsHeld64}
use Rattle.ratio_natural.specs.Number.{base, natural_of}
use Rattle.ratio_big.specs.Hashing.{digits_of, first_digits, fits_64, is_below_0, number_writes}
use Rattle.ratio_laws.specs.ToldApart.{AreSignedToldApart}
use Rattle.ratio_laws.proofs.HashWriteLemmas.{bytes_tell, signed_apart}

first_same : {A : Type 0} {x y : A} {xs ys : List A} → x ∷ xs ≡ y ∷ ys → x ≡ y
first_same same = cc

rest_same : {A : Type 0} {x y : A} {xs ys : List A} → x ∷ xs ≡ y ∷ ys → xs ≡ ys
rest_same same = cc

-- ---- digits

-- each digit is below the base
data AllBelow : List ℕ → Type 0 where
  none : AllBelow []
  more : {d : ℕ} {ds : List ℕ} → d < base → AllBelow ds → AllBelow (d ∷ ds)

digits_below : (most n : ℕ) → AllBelow (first_digits most n)
unfolding first_digits
digits_below zero n = none
digits_below (suc most) zero = none
digits_below (suc most) (suc n) = more (omega arith) (digits_below most (suc n / base))

-- the digits of a number represent it
number_back : (most n : ℕ) → n ≤ most → natural_of (first_digits most n) ≡ n
unfolding first_digits
number_back zero n within = omega arith
number_back (suc most) zero within = refl
number_back (suc most) (suc n) within = let higher = number_back most (suc n / base) (omega arith) in omega arith

-- ---- what a number feeds

-- 8 bytes are not one byte
not_one_byte : (n b : ℕ) → le_bytes 8 n ≢ b ∷ []
unfolding le_bytes
not_one_byte n b same = absurd (not_one (ap length same))
  where
    not_one : ¬ (◌≡◌ {A = ℕ} 8 1)
    not_one same = omega (arith, same)

digit_tells : (d e : ℕ) → d < base → e < base → le_bytes 8 d ≡ le_bytes 8 e → d ≡ e
digit_tells d e small less same = bytes_tell 7 d e (omega arith) (omega arith) (ap (λ (bytes : List ℕ). bytes ∷ []) same)

short_tells : AreSignedToldApart 64 fed.i64
short_tells = signed_apart (2 ^ 63 - 1) fed.u64 (λ _. refl) _ (λ _. refl) (λ _. refl) (bytes_tell 7)

-- a number that fits 64 bits feeds 8 bytes, and another one its sign, the count of its digits and these
abbrev Feeds : ℤ → Type 0
Feeds z = (IsHeld64 z × (number_writes z ≡ fed.i64 z)) ⊎ (number_writes z ≡ fed.bool (is_below_0 z) ++ fed.slice fed.u64 (digits_of (unsigned_abs z)))

fits : (z : ℤ) → fits_64 z ≡ true → IsHeld64 z
fits (pos n) e = let below = ltb-true n (2 ^ 63) e in record { above = omega (arith, ints); below = omega (arith, ints, below) }
fits (negsuc n) e = let below = ltb-true n (2 ^ 63) e in record { above = omega (arith, ints, below); below = omega (arith, ints) }

feeds : (z : ℤ) → Feeds z
feeds z = go (cases_Bool (fits_64 z))
  where
    go : (fits_64 z ≡ true) ⊎ (fits_64 z ≡ false) → Feeds z
    go (inl e) = inl (fits z e, rw e refl)
    go (inr e) = inr (rw e refl)

-- a number is told by its sign and its digits
long_tells : (y z : ℤ) → is_below_0 y ≡ is_below_0 z → digits_of (unsigned_abs y) ≡ digits_of (unsigned_abs z) → y ≡ z
long_tells y z sign digits = go y z sign (sym (number_back (unsigned_abs y) (unsigned_abs y) (omega arith)) ∙ ap natural_of digits ∙ number_back (unsigned_abs z) (unsigned_abs z) (omega arith))
  where
    go : (y z : ℤ) → is_below_0 y ≡ is_below_0 z → unsigned_abs y ≡ unsigned_abs z → y ≡ z
    go (pos n) (pos m) sign size = ap pos size
    go (negsuc n) (negsuc m) sign size = ap negsuc (omega (arith, size))
    go (pos n) (negsuc m) sign size = absurd (let never : false ≡ true = sign in cc)
    go (negsuc n) (pos m) sign size = absurd (let never : true ≡ false = sign in cc)

sign_tells : (s t : Bool) → ◌≡◌ {A = List ℕ} (cond s 1 0 ∷ []) (cond t 1 0 ∷ []) → s ≡ t
sign_tells true true same = refl
sign_tells false false same = refl
sign_tells true false same = absurd (let bit : ◌≡◌ {A = ℕ} 1 0 = first_same same in omega (arith, bit))
sign_tells false true same = absurd (let bit : ◌≡◌ {A = ℕ} 0 1 = first_same same in omega (arith, bit))

-- ---- one number after another

some_fed : (z : ℤ) → number_writes z ≢ []
some_fed z empty = go (feeds z)
  where
    go : Feeds z → ⊥
    go (inl is) = let both = sym is.1 ∙ empty in cc
    go (inr is) = let both = sym is ∙ empty in cc

-- where a number begins, no digit and a further number stand
ends : (d : ℕ) (ds : List ℕ) (y z : ℤ) → number_writes y ≡ le_bytes 8 d ∷ (flat_map fed.u64 ds ++ number_writes z) → ⊥
ends d ds y z same = go (feeds y)
  where
    rest : (ds : List ℕ) → [] ≡ flat_map fed.u64 ds ++ number_writes z → ⊥
    rest [] empty = some_fed z (sym empty)
    rest (e ∷ ds) empty = cc

    go : Feeds y → ⊥
    go (inl is) = rest ds (rest_same (sym is.1 ∙ same))
    go (inr is) = not_one_byte d _ (sym (first_same (sym is ∙ same)))

-- digits, and then a number
digits_tell : (ds es : List ℕ) (y z : ℤ) → AllBelow ds → AllBelow es → flat_map fed.u64 ds ++ number_writes y ≡ flat_map fed.u64 es ++ number_writes z → (ds ≡ es) × (number_writes y ≡ number_writes z)
digits_tell [] [] y z none none same = (refl, same)
digits_tell [] (e ∷ es) y z none others same = absurd (ends e es y z same)
digits_tell (d ∷ ds) [] y z below none same = absurd (ends d ds z y (sym same))
digits_tell (d ∷ ds) (e ∷ es) y z (more small below) (more less others) same =
    let one = digit_tells d e small less (first_same same) in
    let all = digits_tell ds es y z below others (rest_same same) in
    (ap (λ (t : ℕ). t ∷ ds) one ∙ ap (λ (ts : List ℕ). e ∷ ts) all.0, all.1)

only_digits_tell : (ds es : List ℕ) → AllBelow ds → AllBelow es → flat_map fed.u64 ds ≡ flat_map fed.u64 es → ds ≡ es
only_digits_tell [] [] none none same = refl
only_digits_tell [] (e ∷ es) none others same = cc
only_digits_tell (d ∷ ds) [] below none same = cc
only_digits_tell (d ∷ ds) (e ∷ es) (more small below) (more less others) same =
    ap (λ (t : ℕ). t ∷ ds) (digit_tells d e small less (first_same same)) ∙ ap (λ (ts : List ℕ). e ∷ ts) (only_digits_tell ds es below others (rest_same same))

-- the last number
pub last_tells : (y z : ℤ) → number_writes y ≡ number_writes z → y ≡ z
last_tells y z same = go (feeds y) (feeds z)
  where
    go : Feeds y → Feeds z → y ≡ z
    go (inl is) (inl other) = short_tells.apart y z is.0 other.0 (sym is.1 ∙ same ∙ other.1)
    go (inl is) (inr other) = absurd (not_one_byte _ _ (first_same (sym is.1 ∙ same ∙ other)))
    go (inr is) (inl other) = absurd (not_one_byte _ _ (sym (first_same (sym is ∙ same ∙ other.1))))
    go (inr is) (inr other) =
        let all = sym is ∙ same ∙ other in
        long_tells y z (sign_tells _ _ (first_same all)) (only_digits_tell _ _ (digits_below _ _) (digits_below _ _) (rest_same (rest_same all)))

-- a number, and then another one
pub first_tells : (y z u v : ℤ) → number_writes y ++ number_writes u ≡ number_writes z ++ number_writes v → (y ≡ z) × (number_writes u ≡ number_writes v)
first_tells y z u v same = go (feeds y) (feeds z)
  where
    begun : {ws us : List (List ℕ)} (s : List (List ℕ)) → ws ≡ us → ws ++ s ≡ us ++ s
    begun s is = ap (λ (ws : List (List ℕ)). ws ++ s) is

    go : Feeds y → Feeds z → (y ≡ z) × (number_writes u ≡ number_writes v)
    go (inl is) (inl other) =
        let all = sym (begun (number_writes u) is.1) ∙ same ∙ begun (number_writes v) other.1 in
        (short_tells.apart y z is.0 other.0 (ap (λ (w : List ℕ). w ∷ []) (first_same all)), rest_same all)
    go (inl is) (inr other) = absurd (not_one_byte _ _ (first_same (sym (begun (number_writes u) is.1) ∙ same ∙ begun (number_writes v) other)))
    go (inr is) (inl other) = absurd (not_one_byte _ _ (sym (first_same (sym (begun (number_writes u) is) ∙ same ∙ begun (number_writes v) other.1))))
    go (inr is) (inr other) =
        let all = sym (begun (number_writes u) is) ∙ same ∙ begun (number_writes v) other in
        let digits = digits_tell _ _ u v (digits_below _ _) (digits_below _ _) (rest_same (rest_same all)) in
        (long_tells y z (sign_tells _ _ (first_same all)) digits.0, digits.1)
