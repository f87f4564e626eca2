-- The codes of a fraction over a type determine its quotients, and so its value.
use Rattle.std.specs.Prelude.{◌≡◌, ◌≢◌, ◌*◌, ◌<◌, ◌≤◌, ◌≤ℤ◌, ◌+ℤ◌, ◌*ℤ◌, ℕ, ℤ, zero, suc, pos, negsuc, unsigned_abs, Bool, true, false, cond, List, [], ◌∷◌}
use Rattle.std.proofs.Common.{refl, sym, ap, arith, inl, inr, subst, ◌∙◌}
use Rattle.std.proofs.Math.Nat.{mul-le-mul_left}
use Rattle.std.proofs.lemmas.Bool.Decides.{Decides-int_eq}
use Rattle.std.proofs.lemmas.Int.{ints}
use Rattle.std.specs.Ordering.{int_eq}
use Rattle.ratio_integer.specs.Division.{IsFloored}
use Rattle.ratio_integer.specs.Range.{IsHeld, IsRange}
use Rattle.ratio_integer.proofs.DivisionLemmas.{abs-zero, abs_pos, low_below}
use Rattle.ratio_core.specs.ContinuedFraction.{IsCodesOf, IsPartialQuotients, TellsApart, codes_of_quotients}
use Rattle.ratio_core.specs.Order.{sign}
use Rattle.ratio_core.proofs.Floored.{floored-sum, floored_below, floored_nonzero, floored_sign, low_above, minus_one-mul, one-mul, sign-mul}
use Rattle.ratio_core.proofs.Quotients.{Goes, goes_ends, quotients_exist}
use Rattle.ratio_core.proofs.SameValues.{cross_equal, quotients_of_value, value_of_quotients}

-- ---- lists of quotients with the same codes

-- the quotients after the first: each is at least 1, and only the last may be `top`
abbrev AreTail : ℤ → List ℤ → Type 0
AreTail top [] = Unit {0}
AreTail top (q ∷ qs) = (pos 1 ≤ℤ q) × (q ≡ top → qs ≡ []) × AreTail top qs

module _ (lo top : ℤ) (low : lo ≤ℤ pos 0) where
  tail_at : (p q : ℤ) (ps qs : List ℤ) (b c : Bool) → (b ≡ true → p ≡ top) → (c ≡ true → q ≡ top) → AreTail top (p ∷ ps) → AreTail top (q ∷ qs)
      → (codes_of_quotients lo top ps ≡ codes_of_quotients lo top qs → ps ≡ qs)
      → cond b (lo ∷ lo ∷ codes_of_quotients lo top ps) (p ∷ codes_of_quotients lo top ps) ≡ cond c (lo ∷ lo ∷ codes_of_quotients lo top qs) (q ∷ codes_of_quotients lo top qs) → p ∷ ps ≡ q ∷ qs
  tail_at p q ps qs true true f g h k next e =
      let a : p ≡ top = f refl in let b : q ≡ top = g refl in let c : ps ≡ [] = h.1 a in let d : qs ≡ [] = k.1 b in cc
  tail_at p q ps qs true false f g h k next e = let a : lo ≡ q = cc in absurd (omega (arith, ints, k.0))
  tail_at p q ps qs false true f g h k next e = let a : p ≡ lo = cc in absurd (omega (arith, ints, h.0))
  tail_at p q ps qs false false f g h k next e = let a : p ≡ q = cc in let b : codes_of_quotients lo top ps ≡ codes_of_quotients lo top qs = cc in let c : ps ≡ qs = next b in cc

  ends : (q : ℤ) (qs : List ℤ) (c : Bool) → (pos 1 ≤ℤ q) → (pos 0 ∷ []) ≡ cond c (lo ∷ lo ∷ codes_of_quotients lo top qs) (q ∷ codes_of_quotients lo top qs) → ⊥
  ends q qs true h e = cc
  ends q qs false h e = let a : pos 0 ≡ q = cc in omega (arith, ints)

  tails_told : (ps qs : List ℤ) → AreTail top ps → AreTail top qs → codes_of_quotients lo top ps ≡ codes_of_quotients lo top qs → ps ≡ qs
  tails_told [] [] h k e = refl
  tails_told [] (q ∷ qs) h k e = absurd (ends q qs (int_eq q top) k.0 e)
  tails_told (p ∷ ps) [] h k e = absurd (ends p ps (int_eq p top) h.0 (sym e))
  tails_told (p ∷ ps) (q ∷ qs) h k e = tail_at p q ps qs (int_eq p top) (int_eq q top) (Decides-int_eq p top).0 (Decides-int_eq q top).0 h k (λ w. tails_told ps qs h.2 k.2 w) e

  never_at : (q : ℤ) (qs : List ℤ) (c : Bool) → cond c (lo ∷ lo ∷ codes_of_quotients lo top qs) (q ∷ codes_of_quotients lo top qs) ≡ [] → ⊥
  never_at q qs true e = cc
  never_at q qs false e = cc

  never : (qs : List ℤ) → codes_of_quotients lo top qs ≡ [] → ⊥
  never [] e = cc
  never (q ∷ qs) e = never_at q qs (int_eq q top) e

  no_mix_at : (q : ℤ) (qs : List ℤ) (c : Bool) → (pos 1 ≤ℤ q) → cond c (lo ∷ lo ∷ codes_of_quotients lo top qs) (q ∷ codes_of_quotients lo top qs) ≡ (lo ∷ pos 0 ∷ []) → ⊥
  no_mix_at q qs true h e = let a : lo ∷ codes_of_quotients lo top qs ≡ pos 0 ∷ [] = cc in never qs cc
  no_mix_at q qs false h e = let a : q ≡ lo = cc in omega (arith, ints)

  -- no such list has the codes `lo` and 0
  no_mix : (qs : List ℤ) → AreTail top qs → codes_of_quotients lo top qs ≡ (lo ∷ pos 0 ∷ []) → ⊥
  no_mix [] k e = cc
  no_mix (q ∷ qs) k e = no_mix_at q qs (int_eq q top) k.0 e

  head_at : (p q : ℤ) (ps qs : List ℤ) (b c : Bool) → (b ≡ true → p ≡ top) → (c ≡ true → q ≡ top) → (p ≡ top → ps ≡ []) → (q ≡ top → qs ≡ []) → AreTail top ps → AreTail top qs
      → cond b (lo ∷ lo ∷ codes_of_quotients lo top ps) (p ∷ codes_of_quotients lo top ps) ≡ cond c (lo ∷ lo ∷ codes_of_quotients lo top qs) (q ∷ codes_of_quotients lo top qs) → p ∷ ps ≡ q ∷ qs
  head_at p q ps qs true true f g pe qe h k e =
      let a : p ≡ top = f refl in let b : q ≡ top = g refl in let c : ps ≡ [] = pe a in let d : qs ≡ [] = qe b in cc
  head_at p q ps qs true false f g pe qe h k e =
      let a : ps ≡ [] = pe (f refl) in
      let z : codes_of_quotients lo top ps ≡ pos 0 ∷ [] = ap (codes_of_quotients lo top) a in
      let w : codes_of_quotients lo top qs ≡ lo ∷ pos 0 ∷ [] = cc in
      absurd (no_mix qs k w)
  head_at p q ps qs false true f g pe qe h k e =
      let a : qs ≡ [] = qe (g refl) in
      let z : codes_of_quotients lo top qs ≡ pos 0 ∷ [] = ap (codes_of_quotients lo top) a in
      let w : codes_of_quotients lo top ps ≡ lo ∷ pos 0 ∷ [] = cc in
      absurd (no_mix ps h w)
  head_at p q ps qs false false f g pe qe h k e =
      let a : p ≡ q = cc in
      let b : codes_of_quotients lo top ps ≡ codes_of_quotients lo top qs = cc in
      let c : ps ≡ qs = tails_told ps qs h k b in cc

  lists_told : (p q : ℤ) (ps qs : List ℤ) → (p ≡ top → ps ≡ []) → (q ≡ top → qs ≡ []) → AreTail top ps → AreTail top qs
      → codes_of_quotients lo top (p ∷ ps) ≡ codes_of_quotients lo top (q ∷ qs) → p ∷ ps ≡ q ∷ qs
  lists_told p q ps qs pe qe h k e = head_at p q ps qs (int_eq p top) (int_eq q top) (Decides-int_eq p top).0 (Decides-int_eq q top).0 pe qe h k e

-- ---- the quotients of a fraction whose fields have a magnitude of at most h + 1

at_least_one : (p : ℤ) (d r s : ℕ) → pos d ≡ p *ℤ pos r +ℤ pos s → r < d → s < r → pos 1 ≤ℤ p
at_least_one (pos zero) d r s e h k = absurd (omega (arith, ints))
at_least_one (pos (suc p)) d r s e h k = omega (arith, ints)
at_least_one (negsuc p) d r s e h k = absurd (omega (arith, ints))

pub second_quotient : (n d q r p s : ℤ) → IsFloored n d q r → r ≢ pos 0 → IsFloored d r p s → pos 1 ≤ℤ p
second_quotient n d q r p s f left g =
    let e : pos (unsigned_abs d) ≡ p *ℤ pos (unsigned_abs r) +ℤ pos (unsigned_abs s) = sym (sign-mul d) ∙ ap (λ x. x *ℤ d) (sym (floored_sign n d q r f left)) ∙ floored-sum d r p s g in
    at_least_one p (unsigned_abs d) (unsigned_abs r) (unsigned_abs s) e (floored_below n d q r f) (floored_below d r p s g)

signed_within : (d n : ℤ) (h : ℕ) → unsigned_abs n ≤ h → (sign d *ℤ n) ≤ℤ pos h
signed_within (pos d) (pos n) h k = omega (arith, ints, one-mul (pos n))
signed_within (pos d) (negsuc n) h k = omega (arith, ints, one-mul (negsuc n))
signed_within (negsuc d) (pos n) h k = omega (arith, ints, minus_one-mul (pos n))
signed_within (negsuc d) (negsuc n) h k = omega (arith, ints, minus_one-mul (negsuc n))

-- if the quotient is h + 1, the rest is 0
whole_at_top : (h : ℕ) (n d q r : ℤ) → unsigned_abs n ≤ suc h → IsFloored n d q r → q ≡ pos (suc h) → r ≡ pos 0
whole_at_top h n d q r b f t =
    let e : sign d *ℤ n ≡ pos (suc h * unsigned_abs d) +ℤ pos (unsigned_abs r) = floored-sum n d q r f ∙ ap (λ x. x *ℤ pos (unsigned_abs d) +ℤ pos (unsigned_abs r)) t in
    let g : (sign d *ℤ n) ≤ℤ pos (suc h) = signed_within d n (suc h) b in
    let z : 1 ≤ unsigned_abs d = abs_pos d (floored_nonzero n d q r f) in
    let m : suc h * 1 ≤ suc h * unsigned_abs d = mul-le-mul_left (suc h) z in
    abs-zero r (omega (arith, ints))

first_at_top : (h : ℕ) (n d q : ℤ) (qs : List ℤ) → unsigned_abs n ≤ suc h → IsPartialQuotients n d (q ∷ qs) → q ≡ pos (suc h) → qs ≡ []
first_at_top h n d q qs b f t = goes_ends d f.0 qs f.2 (whole_at_top h n d q f.0 b f.1 t)

tail_after : (h : ℕ) (d r : ℤ) (qs : List ℤ) → Goes d r qs → (r ≢ pos 0 → IsPartialQuotients d r qs → AreTail (pos (suc h)) qs) → AreTail (pos (suc h)) qs
tail_after h d r qs (inl g) next = subst (AreTail (pos (suc h))) (sym g.1) tt
tail_after h d r qs (inr g) next = next g.0 g.1

tail_of : (h : ℕ) (n d q r : ℤ) (ps : List ℤ) → unsigned_abs d ≤ suc h → IsFloored n d q r → r ≢ pos 0 → IsPartialQuotients d r ps → AreTail (pos (suc h)) ps
tail_of h n d q r [] b f left k = tt
tail_of h n d q r (p ∷ ps) b f left k =
    let less : unsigned_abs r < unsigned_abs d = floored_below n d q r f in
    let b' : unsigned_abs r ≤ suc h = omega arith in (
      second_quotient n d q r p k.0 f left k.1,
      first_at_top h d r p ps b k,
      tail_after h r k.0 ps k.2 (λ left' g. tail_of h d r p k.0 ps b' k.1 left' g),
    )

both : (lo : ℤ) (h : ℕ) (n d m e : ℤ) (ps qs : List ℤ) → lo ≤ℤ pos 0 → unsigned_abs n ≤ suc h → unsigned_abs d ≤ suc h → unsigned_abs m ≤ suc h → unsigned_abs e ≤ suc h
    → IsPartialQuotients n d ps → IsPartialQuotients m e qs → codes_of_quotients lo (pos (suc h)) ps ≡ codes_of_quotients lo (pos (suc h)) qs → ps ≡ qs
both lo h n d m e [] qs low nb db mb eb f g k = absurd f
both lo h n d m e (p ∷ ps) [] low nb db mb eb f g k = absurd g
both lo h n d m e (p ∷ ps) (q ∷ qs) low nb db mb eb f g k =
    lists_told lo (pos (suc h)) low p q ps qs (first_at_top h n d p ps nb f) (first_at_top h m e q qs mb g)
    (tail_after h d f.0 ps f.2 (λ left w. tail_of h n d p f.0 ps db f.1 left w))
    (tail_after h e g.0 qs g.2 (λ left w. tail_of h m e q g.0 qs eb g.1 left w)) k

-- ---- the codes of fractions in range

abs_within : (lo z : ℤ) (h : ℕ) → IsRange lo (pos h) → IsHeld lo (pos h) z → unsigned_abs z ≤ suc h
abs_within lo (pos z) h range held = let below = held.below in omega (arith, ints)
abs_within lo (negsuc z) h range held = let above = held.above in let low = low_above lo (pos h) range in omega (arith, ints)

pub codes_told : (lo hi n d m e : ℤ) (ps qs : List ℤ) → IsRange lo hi → IsHeld lo hi n → IsHeld lo hi d → IsHeld lo hi m → IsHeld lo hi e
    → IsPartialQuotients n d ps → IsPartialQuotients m e qs → codes_of_quotients lo (hi +ℤ pos 1) ps ≡ codes_of_quotients lo (hi +ℤ pos 1) qs → ps ≡ qs
codes_told lo (negsuc h) n d m e ps qs range nh dh mh eh f g k = absurd (let high = range.high in omega (arith, ints))
codes_told lo (pos h) n d m e ps qs range nh dh mh eh f g k =
    let one_more : pos h +ℤ pos 1 ≡ pos (suc h) = omega (arith, ints) in
    both lo h n d m e ps qs (low_below lo (pos h) range) (abs_within lo n h range nh) (abs_within lo d h range dh) (abs_within lo m h range mh) (abs_within lo e h range eh) f g
    (ap (λ t. codes_of_quotients lo t ps) (sym one_more) ∙ k ∙ ap (λ t. codes_of_quotients lo t qs) one_more)

-- of all fractions over a type, exactly those of the same value have the same codes
pub codes_tell_apart : (lo hi n d : ℤ) (list : List ℤ) → IsRange lo hi → IsHeld lo hi n → IsHeld lo hi d → d ≢ pos 0 → IsCodesOf lo hi n d list → TellsApart lo hi n d list
codes_tell_apart lo hi n d list range nh dh dn is = record {
  each = λ m e mh eh en. (
    (λ other.
        let same : is.quotients ≡ other.quotients = codes_told lo hi n d m e is.quotients other.quotients range nh dh mh eh is.are other.are (sym is.list_is ∙ other.list_is) in
        (cross_equal n d m e dn en).0 (value_of_quotients n d m e is.quotients is.are (subst (IsPartialQuotients m e) (sym same) other.are))),
    (λ value.
        let other = quotients_exist m e en in
        let same : is.quotients ≡ other.list = quotients_of_value n d m e is.quotients other.list is.are other.are ((cross_equal n d m e dn en).1 value) in
        record { quotients = other.list; are = other.are; list_is = is.list_is ∙ ap (codes_of_quotients lo (hi +ℤ pos 1)) same }),
  );
}
