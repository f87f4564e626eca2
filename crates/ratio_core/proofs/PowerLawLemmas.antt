-- Powers of sums of exponents, reciprocals as inverses, and a fraction as the sum of its parts.
use Rattle.std.specs.Prelude.{◌≡◌, ◌≢◌, ◌⊎◌, ◌+◌, ◌*◌, ◌≤ℤ◌, ◌<ℤ◌, ◌+ℤ◌, ◌-ℤ◌, ◌*ℤ◌, ℕ, ℤ, true, false, zero, suc, pos, negsuc, neg_ℤ}
use Rattle.std.specs.Int.{int_pow}
use Rattle.std.proofs.Common.{refl, sym, ap, arith, ◌∙◌, inl, inr, add-one}
use Rattle.std.proofs.lemmas.Int.{ints}
use borrow.Author.Differences.{up, down, product_is, same_in}
use Rattle.std.proofs.Math.Nat.{eq-one_of_dvd-one}
use lib.IntN.{*ℤ_comm}
use Rattle.ratio_integer.specs.Arithmetic.{IsLeastCommon, SumHeld}
use Rattle.ratio_integer.specs.Fraction.{IsLowestTerms, SameValue}
use Rattle.ratio_integer.specs.Range.{IsHeld, IsRange}
use Rattle.ratio_integer.proofs.DivisionLemmas.{low_below}
use Rattle.ratio_integer.proofs.Whole.{mul_assoc, mul-swap_inner, mul_cancel, mul_nonzero, neg-mul, positive_factor, positive_nonzero}
use Rattle.ratio_core.specs.Laws.{IsProduct}
use Rattle.ratio_core.specs.Power.{IsPower, PowerCondition, power_of}
use Rattle.ratio_core.specs.PowerLaws.{PartsAddUp, PartsAreAnswered, PowersAdd, PowersAreProducts, ReciprocalsInvert}
use Rattle.ratio_core.specs.Rounding.{IsFractionalPart, IsTruncation}
use Rattle.ratio_core.proofs.LawLemmas.{formed_sums_fit}
use Rattle.ratio_core.proofs.PowerLemmas.{int_pow-suc, int_pow-zero, pow_nonzero, zero_pow}
use Rattle.ratio_core.proofs.ProductOrder.{times_le, whole_at_most}
use Rattle.ratio_core.proofs.RoundingLawLemmas.{one_truncation}

pub powers_are_products : PowersAreProducts
powers_are_products z = (int_pow-zero z, λ m. rw add-one (int_pow-suc z m))

-- ---- powers of a sum of exponents

times-one : (a : ℤ) → a ≡ a *ℤ pos 1
times-one a = omega (arith, ints)

pub int_pow-add : (z : ℤ) (j k : ℕ) → int_pow z (j + k) ≡ int_pow z j *ℤ int_pow z k
int_pow-add z j zero = ap (int_pow z) (none j) ∙ times-one (int_pow z j) ∙ ap (λ (t : ℤ). int_pow z j *ℤ t) (sym (int_pow-zero z))
  where
    none : (j : ℕ) → j + 0 ≡ j
    none j = omega arith
int_pow-add z j (suc k) =
    ap (int_pow z) (more j k)
    ∙ int_pow-suc z (j + k)
    ∙ ap (λ (t : ℤ). t *ℤ z) (int_pow-add z j k)
    ∙ mul_assoc (int_pow z j) (int_pow z k) z
    ∙ ap (λ (t : ℤ). int_pow z j *ℤ t) (sym (int_pow-suc z k))
  where
    more : (j k : ℕ) → j + suc k ≡ suc (j + k)
    more j k = omega arith

up-mul : (a b : ℤ) → up (a *ℤ b) ≡ up a * up b + down a * down b
up-mul a b = (product_is a b).0

down-mul : (a b : ℤ) → down (a *ℤ b) ≡ up a * down b + down a * up b
down-mul a b = (product_is a b).1

swap_positive : (a b c e : ℤ) → a *ℤ ((b *ℤ c) *ℤ e) ≡ ((a *ℤ e) *ℤ c) *ℤ b
swap_positive a b c e = same_in _ _ (simp (up-mul, down-mul) (omega arith))

swap_negative : (a b c e : ℤ) → a *ℤ (b *ℤ (c *ℤ e)) ≡ (c *ℤ (b *ℤ a)) *ℤ e
swap_negative a b c e = same_in _ _ (simp (up-mul, down-mul) (omega arith))

neg-left : (a b c e : ℤ) → a *ℤ b ≡ c *ℤ e → neg_ℤ a *ℤ b ≡ c *ℤ neg_ℤ e
neg-left a b c e h = omega (arith, ints, neg-times a b, times-neg c e)
  where
    neg-times : (a b : ℤ) → neg_ℤ a *ℤ b ≡ neg_ℤ (a *ℤ b)
    neg-times a b = neg-mul a b

    times-neg : (c e : ℤ) → c *ℤ neg_ℤ e ≡ neg_ℤ (c *ℤ e)
    times-neg c e = *ℤ_comm c (neg_ℤ e) ∙ neg-mul e c ∙ ap neg_ℤ (*ℤ_comm e c)

-- the pair x has the value of n/d to the e: if e is p - q, that is n^p * d^q over d^p * n^q
abbrev IsPowerValue : ℤ → ℤ → ℤ → ℤ × ℤ → Type 0
IsPowerValue n d e x = (p q : ℕ) → e ≡ pos p -ℤ pos q → x.0 *ℤ (int_pow d p *ℤ int_pow n q) ≡ (int_pow n p *ℤ int_pow d q) *ℤ x.1

pair_value : (n d e : ℤ) → IsPowerValue n d e (power_of n d e)
pair_value n d (pos k) p q h =
    let size : p ≡ k + q = omega (arith, ints) in
    rw (size, int_pow-add d k q, int_pow-add n k q) (swap_positive (int_pow n k) (int_pow d k) (int_pow d q) (int_pow n q))
pair_value n d (negsuc k) p q h =
    let size : q ≡ p + suc k = omega (arith, ints) in
    rw (size, int_pow-add d p (suc k), int_pow-add n p (suc k)) (swap_negative (int_pow d (suc k)) (int_pow d p) (int_pow n p) (int_pow n (suc k)))

power_value : (n d e : ℤ) (x : ℤ × ℤ) → n ≢ pos 0 → IsPower n d e x.0 x.1 → IsPowerValue n d e x
power_value n d (pos k) x nz is p q h = rw (is.0, is.1) (pair_value n d (pos k) p q h)
power_value n d (negsuc k) x nz is p q h = go (sides (int_pow n (suc k)) (pow_nonzero n (suc k) nz))
  where
    sides : (z : ℤ) → z ≢ pos 0 → (z <ℤ pos 0) ⊎ (pos 0 <ℤ z)
    sides z nonzero = grind (arith, ints)

    plain : int_pow d (suc k) *ℤ (int_pow d p *ℤ int_pow n q) ≡ (int_pow n p *ℤ int_pow d q) *ℤ int_pow n (suc k)
    plain = pair_value n d (negsuc k) p q h

    go : (int_pow n (suc k) <ℤ pos 0) ⊎ (pos 0 <ℤ int_pow n (suc k)) → x.0 *ℤ (int_pow d p *ℤ int_pow n q) ≡ (int_pow n p *ℤ int_pow d q) *ℤ x.1
    go (inr s) = let t = is.positive s in rw (t.0, t.1) plain
    go (inl s) = let t = is.negative s in rw (t.0, t.1) (neg-left (int_pow d (suc k)) (int_pow d p *ℤ int_pow n q) (int_pow n p *ℤ int_pow d q) (int_pow n (suc k)) plain)

swap5 : (x y w a b : ℤ) → ((x *ℤ y) *ℤ w) *ℤ (a *ℤ b) ≡ ((x *ℤ a) *ℤ (y *ℤ b)) *ℤ w
swap5 x y w a b =
    mul_assoc (x *ℤ y) w (a *ℤ b)
    ∙ ap (λ (t : ℤ). (x *ℤ y) *ℤ t) (*ℤ_comm w (a *ℤ b))
    ∙ sym (mul_assoc (x *ℤ y) (a *ℤ b) w)
    ∙ ap (λ (t : ℤ). t *ℤ w) (mul-swap_inner x y a b)

combine : (x u y v z w a b c e : ℤ) → a *ℤ b ≢ pos 0 → x *ℤ a ≡ c *ℤ u → y *ℤ b ≡ e *ℤ v → z *ℤ (a *ℤ b) ≡ (c *ℤ e) *ℤ w → (x *ℤ y) *ℤ w ≡ z *ℤ (u *ℤ v)
combine x u y v z w a b c e nz h k l = mul_cancel _ _ (a *ℤ b) nz (
    first
    ∙ ap (λ (t : ℤ). (t *ℤ (y *ℤ b)) *ℤ w) h
    ∙ ap (λ (t : ℤ). ((c *ℤ u) *ℤ t) *ℤ w) k
    ∙ second
    ∙ ap (λ (t : ℤ). t *ℤ (u *ℤ v)) (sym l)
    ∙ third
    )
  where
    first : ((x *ℤ y) *ℤ w) *ℤ (a *ℤ b) ≡ ((x *ℤ a) *ℤ (y *ℤ b)) *ℤ w
    first = swap5 x y w a b

    second : ((c *ℤ u) *ℤ (e *ℤ v)) *ℤ w ≡ ((c *ℤ e) *ℤ w) *ℤ (u *ℤ v)
    second = sym (swap5 c e w u v)

    third : (z *ℤ (a *ℤ b)) *ℤ (u *ℤ v) ≡ (z *ℤ (u *ℤ v)) *ℤ (a *ℤ b)
    third = mul_assoc z (a *ℤ b) (u *ℤ v) ∙ ap (λ (t : ℤ). z *ℤ t) (*ℤ_comm (a *ℤ b) (u *ℤ v)) ∙ sym (mul_assoc z (u *ℤ v) (a *ℤ b))

split : (e : ℤ) → (p : ℕ) × (q : ℕ) × (e ≡ pos p -ℤ pos q)
split (pos k) = (k, 0, omega (arith, ints))
split (negsuc k) = (0, suc k, omega (arith, ints))

-- if the numerator is not 0
added : (n d e f : ℤ) (x y z : ℤ × ℤ) → n ≢ pos 0 → d ≢ pos 0 → IsPowerValue n d e x → IsPowerValue n d f y → IsPowerValue n d (e +ℤ f) z → (x.0 *ℤ y.0) *ℤ z.1 ≡ z.0 *ℤ (x.1 *ℤ y.1)
added n d e f x y z nz dz px py pz = go (split e) (split f)
  where
    exponents : (p q r s : ℕ) → e ≡ pos p -ℤ pos q → f ≡ pos r -ℤ pos s → e +ℤ f ≡ pos (p + r) -ℤ pos (q + s)
    exponents p q r s h k = omega (arith, ints)

    factors : (u v : ℤ) (p q r s : ℕ) → int_pow u (p + r) *ℤ int_pow v (q + s) ≡ (int_pow u p *ℤ int_pow v q) *ℤ (int_pow u r *ℤ int_pow v s)
    factors u v p q r s = rw (int_pow-add u p r, int_pow-add v q s) (mul-swap_inner (int_pow u p) (int_pow u r) (int_pow v q) (int_pow v s))

    go : (p : ℕ) × (q : ℕ) × (e ≡ pos p -ℤ pos q) → (r : ℕ) × (s : ℕ) × (f ≡ pos r -ℤ pos s) → (x.0 *ℤ y.0) *ℤ z.1 ≡ z.0 *ℤ (x.1 *ℤ y.1)
    go (p, q, h) (r, s, k) = combine x.0 x.1 y.0 y.1 z.0 z.1 _ _ _ _
        (mul_nonzero _ _ (mul_nonzero _ _ (pow_nonzero d p dz) (pow_nonzero n q nz)) (mul_nonzero _ _ (pow_nonzero d r dz) (pow_nonzero n s nz)))
        (px p q h)
        (py r s k)
        (ap (λ (t : ℤ). z.0 *ℤ t) (sym (factors d n p q r s)) ∙ pz (p + r) (q + s) (exponents p q r s h k) ∙ ap (λ (t : ℤ). t *ℤ z.1) (factors n d p q r s))

-- a power with a negative exponent is `Some` only if the numerator is not 0
numer_nonzero : (lo hi n d : ℤ) (k : ℕ) → PowerCondition lo hi n d (negsuc k) → n ≢ pos 0
numer_nonzero lo hi n d k held z = held.1.nonzero (zero_pow n k z)

pub powers_add : PowersAdd
powers_add lo hi n d (pos j) (pos k) x y z u he hf hg px py pz =
    let numer : z.0 ≡ int_pow n (j + k) = pz.0 in
    let denom : z.1 ≡ int_pow d (j + k) = pz.1 in
    rw (px.0, px.1, py.0, py.1, numer, denom, int_pow-add n j k, int_pow-add d j k) refl
powers_add lo hi n d (pos j) (negsuc k) x y z u he hf hg px py pz =
    let nz = numer_nonzero lo hi n d k hf in
    added n d (pos j) (negsuc k) x y z nz (positive_nonzero d u) (power_value n d (pos j) x nz px) (power_value n d (negsuc k) y nz py) (power_value n d (pos j +ℤ negsuc k) z nz pz)
powers_add lo hi n d (negsuc j) f x y z u he hf hg px py pz =
    let nz = numer_nonzero lo hi n d j he in
    added n d (negsuc j) f x y z nz (positive_nonzero d u) (power_value n d (negsuc j) x nz px) (power_value n d f y nz py) (power_value n d (negsuc j +ℤ f) z nz pz)

-- ---- powers as pairs that are not reduced

-- only 0 to a negative exponent has the second number 0
pair_nonzero : (n d e : ℤ) → n ≢ pos 0 → d ≢ pos 0 → (power_of n d e).1 ≢ pos 0
pair_nonzero n d (pos k) nz dz = pow_nonzero d k dz
pair_nonzero n d (negsuc k) nz dz = pow_nonzero n (suc k) nz

-- the pairs of powers that exist multiply to a pair with the value of the power with the sum of the exponents, which exists too
pub record PairsAdd (n d e f : ℤ) : Type 0 where
  pub exists : (power_of n d (e +ℤ f)).1 ≢ pos 0
  pub same : SameValue ((power_of n d e).0 *ℤ (power_of n d f).0) ((power_of n d e).1 *ℤ (power_of n d f).1) (power_of n d (e +ℤ f)).0 (power_of n d (e +ℤ f)).1

pairs_added : (n d e f : ℤ) → n ≢ pos 0 → d ≢ pos 0 → PairsAdd n d e f
pairs_added n d e f nz dz = record {
  exists = pair_nonzero n d (e +ℤ f) nz dz;
  same = added n d e f (power_of n d e) (power_of n d f) (power_of n d (e +ℤ f)) nz dz (pair_value n d e) (pair_value n d f) (pair_value n d (e +ℤ f));
}

base_nonzero : (n : ℤ) (k : ℕ) → int_pow n (suc k) ≢ pos 0 → n ≢ pos 0
base_nonzero n k nonzero z = nonzero (zero_pow n k z)

pub pairs_add : (n d e f : ℤ) → d ≢ pos 0 → (power_of n d e).1 ≢ pos 0 → (power_of n d f).1 ≢ pos 0 → PairsAdd n d e f
pairs_add n d (pos j) (pos k) dz first second = record {
  exists = pow_nonzero d (j + k) dz;
  same = rw (int_pow-add n j k, int_pow-add d j k) refl;
}
pairs_add n d (pos j) (negsuc k) dz first second = pairs_added n d (pos j) (negsuc k) (base_nonzero n k second) dz
pairs_add n d (negsuc j) f dz first second = pairs_added n d (negsuc j) f (base_nonzero n j first) dz

-- ---- reciprocals

one_lowest : IsLowestTerms (pos 1) (pos 1)
one_lowest = record { positive = omega (arith, ints); only_one = λ k a b. eq-one_of_dvd-one a }

pub reciprocals_invert : ReciprocalsInvert
reciprocals_invert n d a b u nz is = go (sides n nz)
  where
    sides : (x : ℤ) → x ≢ pos 0 → (x <ℤ pos 0) ⊎ (pos 0 <ℤ x)
    sides x z = grind (arith, ints)

    made : (a b : ℤ) → b ≢ pos 0 → n *ℤ a ≡ d *ℤ b → IsProduct (n, d) (a, b) (pos 1, pos 1)
    made a b bz e = record {
      fraction = mul_nonzero d b (positive_nonzero d u) bz;
      same = omega (arith, ints);
      lowest = one_lowest;
    }

    turned : (n d : ℤ) → n *ℤ neg_ℤ d ≡ d *ℤ neg_ℤ n
    turned n d = omega (arith, ints, *ℤ_comm n (neg_ℤ d), *ℤ_comm d (neg_ℤ n), neg-mul d n, neg-mul n d, *ℤ_comm n d)

    go : (n <ℤ pos 0) ⊎ (pos 0 <ℤ n) → IsProduct (n, d) (a, b) (pos 1, pos 1)
    go (inr s) = let t = is.positive s in rw (t.0, t.1) (made d n nz (*ℤ_comm n d))
    go (inl s) = let t = is.negative s in rw (t.0, t.1) (made (neg_ℤ d) (neg_ℤ n) (λ z. nz (omega (arith, ints))) (turned n d))

-- ---- the two parts of a fraction

one-times : (a : ℤ) → pos 1 *ℤ a ≡ a
one-times a = omega (arith, ints)

pub parts_add_up : PartsAddUp
parts_add_up n d t f z u ht hf hs =
    let same : t ≡ hf.whole = one_truncation n d t hf.whole u ht hf.truncation in
    let sum : n ≡ t *ℤ d +ℤ f *ℤ pos 1 = hf.sum ∙ ap (λ (w : ℤ). w *ℤ d +ℤ f) (sym same) ∙ ap (λ (w : ℤ). t *ℤ d +ℤ w) (times-one f) in
    ap (λ (w : ℤ). w *ℤ z.1) sum ∙ hs.same ∙ ap (λ (w : ℤ). z.0 *ℤ w) (one-times d)

-- the least common denominator of a whole number and n/d is d
own_common : (d : ℤ) → pos 0 <ℤ d → IsLeastCommon (pos 1) d d
own_common d u = record {
  positive = u;
  first = (d, times-one d);
  second = (pos 1, sym (one-times d));
  least = λ m positive (j, h) (k, e).
      let factor : pos 0 <ℤ k = positive_factor k d u (rw e at positive) in
      let t : (pos 1 *ℤ d) ≤ℤ (k *ℤ d) = times_le (pos 1) k d (omega (arith, ints)) (omega (arith, ints)) in
      rw e (omega (arith, ints));
}

-- both parts lie between 0 and the numerator, so they are in range
between : (lo hi n x : ℤ) → lo ≤ℤ pos 0 → pos 2 ≤ℤ hi → IsHeld lo hi n → ((pos 0 ≤ℤ x) × (x ≤ℤ n)) ⊎ ((n ≤ℤ x) × (x ≤ℤ pos 0)) → IsHeld lo hi x
between lo hi n x low high h (inl s) = let a = h.below in record { above = omega (arith, ints); below = omega (arith, ints) }
between lo hi n x low high h (inr s) = let a = h.above in record { above = omega (arith, ints); below = omega (arith, ints) }

whole_between : (n d t : ℤ) → pos 0 <ℤ d → IsTruncation n d t → (n <ℤ pos 0) ⊎ (pos 0 ≤ℤ n) → ((pos 0 ≤ℤ (t *ℤ d)) × ((t *ℤ d) ≤ℤ n)) ⊎ ((n ≤ℤ (t *ℤ d)) × ((t *ℤ d) ≤ℤ pos 0))
whole_between n d t u is (inl s) =
    let c = is.ceiling (omega (arith, ints)) in
    let l = c.at_least in let m = c.last_below in
    let w : t ≤ℤ pos 0 = whole_at_most t (pos 0) d u (omega (arith, ints)) in
    let x : (t *ℤ d) ≤ℤ (pos 0 *ℤ d) = times_le t (pos 0) d w (omega (arith, ints)) in
    inr (l, omega (arith, ints))
whole_between n d t u is (inr s) =
    let c = is.floor s in
    let l = c.at_most in let m = c.next_above in
    let w : pos 0 ≤ℤ t = whole_at_most (pos 0) t d u (omega (arith, ints)) in
    let x : (pos 0 *ℤ d) ≤ℤ (t *ℤ d) = times_le (pos 0) t d w (omega (arith, ints)) in
    inl (omega (arith, ints), l)

rest_between : (n w f : ℤ) → n ≡ w +ℤ f → ((pos 0 ≤ℤ w) × (w ≤ℤ n)) ⊎ ((n ≤ℤ w) × (w ≤ℤ pos 0)) → ((pos 0 ≤ℤ f) × (f ≤ℤ n)) ⊎ ((n ≤ℤ f) × (f ≤ℤ pos 0))
rest_between n w f e (inl s) = inl (omega (arith, ints), omega (arith, ints))
rest_between n w f e (inr s) = inr (omega (arith, ints), omega (arith, ints))

parts_held : (lo hi n d t f : ℤ) → IsRange lo hi → IsHeld lo hi n → IsHeld lo hi d → pos 0 <ℤ d → IsTruncation n d t → IsFractionalPart n d f → SumHeld lo hi t (pos 1) f d
parts_held lo hi n d t f range hn hd u ht hf =
    let same : t ≡ hf.whole = one_truncation n d t hf.whole u ht hf.truncation in
    let sum : n ≡ t *ℤ d +ℤ f = hf.sum ∙ ap (λ (w : ℤ). w *ℤ d +ℤ f) (sym same) in
    let low = low_below lo hi range in
    let whole = whole_between n d t u ht (sides n) in
    record {
      common = d;
      left = t *ℤ d;
      right = f;
      held = record {
        scaled = record { least = own_common d u; left = sym (times-one (t *ℤ d)); right = refl };
        common_held = hd;
        left_held = between lo hi n (t *ℤ d) low range.high hn whole;
        right_held = between lo hi n f low range.high hn (rest_between n (t *ℤ d) f sum whole);
      };
      sum_held = rw (sym sum) hn;
    }
  where
    sides : (x : ℤ) → (x <ℤ pos 0) ⊎ (pos 0 ≤ℤ x)
    sides x = grind (arith, ints)

pub parts_are_answered : PartsAreAnswered
parts_are_answered true lo hi n d t f range hn hd u ht hf = formed_sums_fit lo hi t (pos 1) f d range (omega (arith, ints)) u (parts_held lo hi n d t f range hn hd u ht hf)
parts_are_answered false lo hi n d t f range hn hd u ht hf = parts_held lo hi n d t f range hn hd u ht hf
