-- A number text has no slash. So a text is cut in at most one place, and reads as at most one pair of numbers.
use Rattle.std.proofs.Common.{◌≡◌, ◌≢◌, refl, sym, ◌∙◌, ap, subst, inl, inr, arith, ℕ, zero, suc, ◌<◌, ◌≤◌, List, [], ◌∷◌, ◌++◌, length, get_or, ℤ, pos, negsuc, None, Result, Ok, Err, lit≤}
use Rattle.std.proofs.lemmas.Int.{ints}
use Rattle.std.specs.Char.{digit_value}
use Rattle.std.specs.Str.Parse.{AllDigits}
use Rattle.ratio_core.specs.declared.parse_error.RatioErrorKind.{RatioErrorKind}
use Rattle.ratio_core.specs.declared.parse_error.RatioErrorKind.TheVariants.{ParseError, ZeroDenominator}
use Rattle.ratio_core.specs.Reading.{slash, AnswersFields, IsFractionText, IsNumberText, IsSlashedText, ReadsAs, ReadsNumber, SidesReadAs}
use Rattle.ratio_core.proofs.NumberLemmas.{to_signed, to_unsigned}

-- no byte of the text is a slash
abbrev pub HasNoSlash : List ℕ → Type 0
HasNoSlash xs = (i : ℕ) → i < length xs → get_or xs i 0 ≢ slash

digits_no_slash : (radix : ℕ) (ds : List ℕ) → radix ≤ 36 → AllDigits radix ds → HasNoSlash ds
digits_no_slash radix [] small h i inside = absurd (omega (arith, inside))
digits_no_slash radix (c ∷ cs) small h zero inside = λ e. let no_digit : digit_value c ≡ 36 = ap digit_value e in omega (arith, no_digit, h.0)
digits_no_slash radix (c ∷ cs) small h (suc i) inside = digits_no_slash radix cs small h.1 i (omega (arith, inside))

signed_no_slash : (radix s : ℕ) (ds : List ℕ) → s ≢ slash → radix ≤ 36 → AllDigits radix ds → HasNoSlash (s ∷ ds)
signed_no_slash radix s ds other small h zero inside = other
signed_no_slash radix s ds other small h (suc i) inside = digits_no_slash radix ds small h i (omega (arith, inside))

pub no_slash : (lo : ℤ) (radix : ℕ) (text : List ℕ) (z : ℤ) → radix ≤ 36 → IsNumberText lo radix text z → HasNoSlash text
no_slash lo radix text z small (inl h) = digits_no_slash radix text small h.0.1
no_slash lo radix text z small (inr (inl h)) = rw h.1 (signed_no_slash radix 43 h.0 (λ e. omega (arith, e)) small h.2.1)
no_slash lo radix text z small (inr (inr h)) = rw h.2 (signed_no_slash radix 45 h.0 (λ e. omega (arith, e)) small h.3.1)

at_slash : (front back : List ℕ) → (length front < length (front ++ slash ∷ back)) × (get_or (front ++ slash ∷ back) (length front) 0 ≡ slash)
at_slash [] back = (omega arith, refl)
at_slash (c ∷ front) back = (omega (arith, (at_slash front back).0), (at_slash front back).1)

-- what a text reads as, from the two sides of its first slash, or without a slash
pub no_slashed : (lo hi : ℤ) (radix : ℕ) (text : List ℕ) → HasNoSlash text → (n d : ℤ) → ¬ (IsSlashedText lo hi radix text n d)
no_slashed lo hi radix text free n d reads =
    let at = at_slash reads.front reads.back in
    free (length reads.front) (rw reads.cut at.0) (rw reads.cut at.1)

pub no_number : (lo hi : ℤ) (radix : ℕ) (text front back : List ℕ) (n : ℤ) → radix ≤ 36 → text ≡ front ++ slash ∷ back → ¬ (ReadsAs lo hi radix text n)
no_number lo hi radix text front back n small e reads =
    let at = at_slash front back in
    no_slash lo radix text n small reads.number (length front) (rw e at.0) (rw e at.1)

module _ {T : Type 0} (value : T → ℤ) (lo hi : ℤ) (radix : ℕ) (text : List ℕ) (small : radix ≤ 36) where
  pub with_slash : (front back : List ℕ) → text ≡ front ++ slash ∷ back
      → ((xs ys : List ℕ) → text ≡ xs ++ slash ∷ ys → HasNoSlash xs → (front ≡ xs) × (back ≡ ys))
      → (r : Result (T × T) RatioErrorKind) → AnswersFields value (SidesReadAs lo hi radix front back) r → AnswersFields value (IsSlashedText lo hi radix text) r
  with_slash front back e first (Ok p) h = (record { front = front; back = back; cut = e; sides = h.0 }, h.1)
  with_slash front back e first (Err ZeroDenominator) h = (h.0, record { front = front; back = back; cut = e; sides = h.1 })
  with_slash front back e first (Err ParseError) h = λ n d reads.
      let same = first reads.front reads.back reads.cut (no_slash lo radix reads.front n small reads.sides.numer.number) in
      h n d (record {
        numer = subst (λ xs. ReadsAs lo hi radix xs n) (sym same.0) reads.sides.numer;
        denom = subst (λ xs. ReadsAs lo hi radix xs d) (sym same.1) reads.sides.denom;
      })

module _ {T : Type 0} (value : T → ℤ) (lo hi : ℤ) (text : List ℕ) where
  pub fraction_with_slash : (front back : List ℕ) → text ≡ front ++ slash ∷ back → (r : Result (T × T) RatioErrorKind) → AnswersFields value (IsSlashedText lo hi 10 text) r → AnswersFields value (IsFractionText lo hi text) r
  fraction_with_slash front back e (Ok p) h = (inl h.0, h.1)
  fraction_with_slash front back e (Err ZeroDenominator) h = (h.0, inl h.1)
  fraction_with_slash front back e (Err ParseError) h = λ n d reads.
      elim reads [ inl x ↦ h n d x | inr x ↦ no_number lo hi 10 text front back n (lit≤ tt) e x.0 ]

  pub no_fraction : HasNoSlash text → ReadsNumber value lo hi 10 text None → AnswersFields value (IsFractionText lo hi text) (Err ParseError)
  no_fraction free h = λ n d reads.
      elim reads [ inl x ↦ no_slashed lo hi 10 text free n d x | inr x ↦ h n x.0 ]

-- ---- one reading

pub only_number : (lo : ℤ) (radix : ℕ) (text : List ℕ) (z y : ℤ) → radix ≤ 36 → IsNumberText lo radix text z → IsNumberText lo radix text y → z ≡ y
only_number (pos n) radix text z y small a b = (to_unsigned (pos n) radix text z (omega (arith, ints)) small a).1 ∙ sym (to_unsigned (pos n) radix text y (omega (arith, ints)) small b).1
only_number (negsuc n) radix text z y small a b = (to_signed (negsuc n) radix text z small a).1 ∙ sym (to_signed (negsuc n) radix text y small b).1

head_of : (x y : ℕ) (xs ys : List ℕ) → x ∷ xs ≡ y ∷ ys → x ≡ y
head_of x y xs ys e = cc

tail_of : (x y : ℕ) (xs ys : List ℕ) → x ∷ xs ≡ y ∷ ys → xs ≡ ys
tail_of x y xs ys e = cc

pub same_cut : (f g b c : List ℕ) → f ++ slash ∷ b ≡ g ++ slash ∷ c → HasNoSlash f → HasNoSlash g → (f ≡ g) × (b ≡ c)
same_cut [] [] b c e p q = (refl, tail_of slash slash b c e)
same_cut [] (y ∷ g) b c e p q = absurd (q 0 (omega arith) (sym (head_of slash y b (g ++ slash ∷ c) e)))
same_cut (x ∷ f) [] b c e p q = absurd (p 0 (omega arith) (head_of x slash (f ++ slash ∷ b) c e))
same_cut (x ∷ f) (y ∷ g) b c e p q =
    let rest = same_cut f g b c (tail_of x y (f ++ slash ∷ b) (g ++ slash ∷ c) e) (λ i h. p (suc i) (omega (arith, h))) (λ i h. q (suc i) (omega (arith, h))) in
    (ap (λ z. z ∷ f) (head_of x y (f ++ slash ∷ b) (g ++ slash ∷ c) e) ∙ ap (λ zs. y ∷ zs) rest.0, rest.1)

pub only_slashed : (lo hi : ℤ) (radix : ℕ) (text : List ℕ) (n d m e : ℤ) → radix ≤ 36 → IsSlashedText lo hi radix text n d → IsSlashedText lo hi radix text m e → (n ≡ m) × (d ≡ e)
only_slashed lo hi radix text n d m e small a b =
    let cut = same_cut a.front b.front a.back b.back (sym a.cut ∙ b.cut) (no_slash lo radix a.front n small a.sides.numer.number) (no_slash lo radix b.front m small b.sides.numer.number) in (
      only_number lo radix b.front n m small (subst (λ xs. IsNumberText lo radix xs n) cut.0 a.sides.numer.number) b.sides.numer.number,
      only_number lo radix b.back d e small (subst (λ xs. IsNumberText lo radix xs d) cut.1 a.sides.denom.number) b.sides.denom.number,
    )

pub only_fraction : (lo hi : ℤ) (text : List ℕ) (n d m e : ℤ) → IsFractionText lo hi text n d → IsFractionText lo hi text m e → (n ≡ m) × (d ≡ e)
only_fraction lo hi text n d m e (inl a) (inl b) = only_slashed lo hi 10 text n d m e (lit≤ tt) a b
only_fraction lo hi text n d m e (inl a) (inr b) = absurd (no_number lo hi 10 text a.front a.back m (lit≤ tt) a.cut b.0)
only_fraction lo hi text n d m e (inr a) (inl b) = absurd (no_number lo hi 10 text b.front b.back n (lit≤ tt) b.cut a.0)
only_fraction lo hi text n d m e (inr a) (inr b) = (only_number lo 10 text n m (lit≤ tt) a.0.number b.0.number, a.1 ∙ sym b.1)
