-- The simplest fraction in the gap around a float.
use Rattle.std.specs.Prelude.{◌≡◌, ◌⊎◌, ◌+◌, ◌-◌, ◌*◌, ◌/◌, ◌%◌, ◌^◌, ◌<◌, ◌≤◌, ◌≤ℤ◌, ◌<ℤ◌, ◌+ℤ◌, ◌-ℤ◌, ◌*ℤ◌, ℕ, ℤ, zero, suc, pos, negsuc, neg_ℤ, unsigned_abs, Bool, true, false, Option, Some, None, SomeIff, IfSome}
use Rattle.std.proofs.Common.{refl, sym, ap, arith, inl, inr, ◌∙◌}
use Rattle.std.proofs.lemmas.Bool.{cases_lt}
use Rattle.std.proofs.lemmas.Int.{ints}
use Rattle.std.proofs.lemmas.Nat.{pow-add}
use Rattle.std.proofs.Math.Nat.{div-add-mod', div-mul-le_self, lt-div-mul-add, mod-eq_of_lt, mod-lt, mul-le-mul_right, mul-lt-mul_of_pos_right}
use lib.Pow.{pow_mono}
use Rattle.ratio_integer.specs.Fraction.{ChecksLowest, IsLowestTerms}
use Rattle.ratio_integer.specs.Range.{IsHeld, IsRange}
use Rattle.ratio_integer.proofs.Whole.{neg-mul, unsigned_abs-neg}
use Rattle.ratio_core.specs.Signs.{with_sign}
use Rattle.ratio_decimal.specs.Rationalizing.{ChecksFirstOver, ChecksInside, IsFirstOver}
use Rattle.ratio_approximation.specs.Simplest.{HoldsNoneBetween, IsBetween, IsSimplest}
use Rattle.ratio_approximation.proofs.HeldAround.{between_held}
use Rattle.ratio_approximation.proofs.SimplestLawLemmas.{simplest_lowest}

-- ---- the least number whose product with h is above a power of 2

pub far_over : (down h c : ℕ) → 192 ≤ down → h < 2 ^ 56 → 2 ^ down < c * h → 2 ^ 128 ≤ c
far_over down h c far short over = elim (cases_lt c (2 ^ 128)) [
  | inl less ↦
      let most : c * h ≤ 2 ^ 128 * h = mul-le-mul_right h (omega (arith, less)) in
      let least : 2 ^ 192 ≤ 2 ^ down = pow_mono {i = 192} {j = down} far in
      absurd (omega (arith, most, least, short, over))
  | inr more ↦ more
]

first_over_of : (d h q : ℕ) → q * h ≤ d → d < q * h + h → IsFirstOver d h (q + 1)
first_over_of d h q most next = record {
  over = omega (arith, next);
  least = λ c over. elim (cases_lt c (q + 1)) [
    | inl less ↦
        let under : c * h ≤ q * h = mul-le-mul_right h (omega (arith, less)) in
        absurd (omega (arith, under, most, over))
    | inr more ↦ more
  ];
}

pub next_over : (d h : ℕ) → 0 < h → IsFirstOver d h (d / h + 1)
next_over d h h_up = first_over_of d h (d / h) (div-mul-le_self d h) (lt-div-mul-add h_up)

-- by long division: s is 2^127, and p is what is left of the power
pub first_over_is : (s h p d : ℕ) → 0 < h → d ≡ s * p → IsFirstOver d h (s / h * p + s % h * p / h + 1)
first_over_is s h p d h_up d-is =
    let q = s / h in
    let r = s % h in
    let t = r * p / h in
    let split : q * h + r ≡ s = div-add-mod' s h in
    let most : t * h ≤ r * p = div-mul-le_self (r * p) h in
    let next : r * p < t * h + h = lt-div-mul-add h_up in
    let whole : d ≡ q * p * h + r * p = d-is ∙ ap (λ x. x * p) (sym split) ∙ omega arith in
    first_over_of d h (q * p + t) (omega (arith, whole, most)) (omega (arith, whole, next))

pub power_is : (down : ℕ) → 128 ≤ down → 2 ^ down ≡ 2 ^ 127 * 2 ^ (down - 127)
power_is down far = ap (λ x. 2 ^ x) (let e : down ≡ 127 + (down - 127) = omega (arith, far) in e) ∙ pow-add 2 127 (down - 127)

pub one_shifted : (more : ℕ) → more < 65 → 1 * 2 ^ more % 2 ^ 128 ≡ 2 ^ more
one_shifted more less =
    let most : 2 ^ more ≤ 2 ^ 64 = pow_mono {i = more} {j = 64} (omega (arith, less)) in
    mod-eq_of_lt (omega (arith, most)) ∙ omega arith

pub rest_shifted : (s h more : ℕ) → 0 < h → h < 2 ^ 56 → more < 65 → s % h * 2 ^ more % 2 ^ 128 ≡ s % h * 2 ^ more
rest_shifted s h more h_up short less =
    let most : 2 ^ more ≤ 2 ^ 64 = pow_mono {i = more} {j = 64} (omega (arith, less)) in
    let rest : s % h < h = mod-lt s h_up in
    let product : s % h * 2 ^ more ≤ 2 ^ 56 * 2 ^ more = mul-le-mul_right (2 ^ more) (omega (arith, rest, short)) in
    mod-eq_of_lt (omega (arith, most, product))

pub whole_past : (w t n : ℕ) → (w < 2 ^ 128 → ⊥) → w + t + 1 ≤ n → 2 ^ 128 ≤ n
whole_past w t n out least = elim (cases_lt w (2 ^ 128)) [
  | inl less ↦ absurd (out less)
  | inr more ↦ omega (arith, more, least)
]

pub sum_past : (w v t n : ℕ) → v ≡ w → (v + t < 2 ^ 128 → ⊥) → w + t + 1 ≤ n → 2 ^ 128 ≤ n
sum_past w v t n same out least = elim (cases_lt (v + t) (2 ^ 128)) [
  | inl less ↦ absurd (out less)
  | inr more ↦ omega (arith, more, least, same)
]

pub sum_is : (d h w t v u : ℕ) (r : Option ℕ) → IsFirstOver d h (w + t + 1) → v ≡ w → u ≡ v + t → SomeIff r (u + 1 < 2 ^ 128) (u + 1) → ChecksFirstOver d h r
sum_is d h w t v u None is v-is u-is checked = λ n over. (let least = is.least n over in elim (cases_lt (u + 1) (2 ^ 128)) [
  | inl less ↦ absurd (checked less)
  | inr more ↦ omega (arith, more, least, v-is, u-is)
])
sum_is d h w t v u (Some b) is v-is u-is checked = rw (let e : b ≡ w + t + 1 = checked.1 ∙ omega (arith, v-is, u-is) in e) is

pub shorter_power : (down : ℕ) → down < 64 → 1 * 2 ^ down % 2 ^ 64 ≡ 2 ^ down
shorter_power down less =
    let most : 2 ^ down ≤ 2 ^ 63 = pow_mono {i = down} {j = 63} (omega (arith, less)) in
    mod-eq_of_lt (omega (arith, most)) ∙ omega arith

pub short_power : (down : ℕ) → down < 128 → 1 * 2 ^ down % 2 ^ 128 ≡ 2 ^ down
short_power down less =
    let most : 2 ^ down ≤ 2 ^ 127 = pow_mono {i = down} {j = 127} (omega (arith, less)) in
    mod-eq_of_lt (omega (arith, most)) ∙ omega arith

-- ---- a fraction with the numerator 1

pub above_none : (a : ℤ) (l d b : ℕ) → (pos l *ℤ pos b) <ℤ (a *ℤ pos d) → (n : ℕ) × (a ≡ pos (suc n))
above_none (pos (suc n)) l d b over = (n, refl)
above_none (pos zero) l d b over = absurd (omega (arith, ints, over))
above_none (negsuc n) l d b over = absurd (omega (arith, ints, over))

-- 1/b is above low/d, too, if d is that long and the ends have room between them
pub unit_over : (low high d b : ℕ) → low + 2 ≤ high → high < 2 ^ 56 → 2 ^ 128 ≤ d → IsFirstOver d high b → b * low < d
unit_over low high d b room short far first = omega (arith, gap, expanded, before, many, room)
  where
    many : high ≤ b
    many = elim (cases_lt b high) [
      | inl less ↦
          let most : b * high ≤ 2 ^ 56 * high = mul-le-mul_right high (omega (arith, less, short)) in
          absurd (let over = first.over in omega (arith, most, over, short, far))
      | inr more ↦ more
    ]

    before : (b - 1) * high ≤ d
    before = elim (cases_lt d ((b - 1) * high)) [
      | inl over ↦ absurd (let less = first.least (b - 1) over in omega (arith, less, many, room))
      | inr more ↦ more
    ]

    expanded : b * high ≡ (b - 1) * high + high
    expanded = (let e : b ≡ (b - 1) + 1 = omega (arith, many, room) in ap (λ x. x * high) e ∙ omega arith)

    gap : b * low + b * 2 ≤ b * high
    gap = (let h : (low + 2) * b ≤ high * b = mul-le-mul_right b room in omega (arith, h))

over_some : (b h d : ℕ) → d < b * h → 0 < b
over_some zero h d over = absurd (omega (arith, over))
over_some (suc b) h d over = omega arith

-- a fraction in the gap whose numbers are the least
least_simplest : (low high d p q : ℕ) → IsBetween (pos low) (pos d) (pos high) (pos d) (pos p) (pos q)
    → ((n b : ℕ) → low * b < suc n * d → suc n * d < high * b → (q ≤ b) × (p ≤ suc n)) → IsSimplest (pos low) (pos d) (pos high) (pos d) (pos p) (pos q)
least_simplest low high d p q inside least = record {
  between = inside;
  denom = λ a b between. denom a b between;
  numer = λ a b between. numer a b between;
}
  where
    of : (n b : ℕ) → IsBetween (pos low) (pos d) (pos high) (pos d) (pos (suc n)) (pos b) → (q ≤ b) × (p ≤ suc n)
    of n b between = least n b (let h = between.above in omega (arith, ints, h)) (let h = between.below in omega (arith, ints, h))

    denom : (a b : ℤ) → IsBetween (pos low) (pos d) (pos high) (pos d) a b → pos q ≤ℤ b
    denom a (negsuc b) between = absurd (let up = between.positive in omega (arith, ints, up))
    denom a (pos b) between =
        let some = above_none a low d b between.above in
        let few = (of some.0 b (rw some.1 at between)).0 in
        omega (arith, ints, few)

    numer : (a b : ℤ) → IsBetween (pos low) (pos d) (pos high) (pos d) a b → p ≤ unsigned_abs a
    numer a (negsuc b) between = absurd (let up = between.positive in omega (arith, ints, up))
    numer a (pos b) between = (let some = above_none a low d b between.above in rw some.1 ((of some.0 b (rw some.1 at between)).1))

pub unit_simplest : (low high d b : ℕ) → b * low < d → IsFirstOver d high b → IsSimplest (pos low) (pos d) (pos high) (pos d) (pos 1) (pos b)
unit_simplest low high d b low_over first =
    let up = over_some b high d first.over in
    let over = first.over in
    least_simplest low high d 1 b
    (record {
      positive = omega (arith, ints, up);
      above = (let h : low * b < 1 * d = omega (arith, low_over) in omega (arith, ints, h));
      below = (let h : 1 * d < high * b = omega (arith, over) in omega (arith, ints, h));
    })
    (λ n c above below. (first.least c (omega (arith, below)), omega arith))

pub unit_out : (low high d : ℕ) → ((c : ℕ) → d < c * high → 2 ^ 128 ≤ c) → (a b : ℤ) → IsBetween (pos low) (pos d) (pos high) (pos d) a b → pos (2 ^ 128) ≤ℤ b
unit_out low high d none a (negsuc c) between = absurd (let up = between.positive in omega (arith, ints, up))
unit_out low high d none a (pos c) between =
    let some = above_none a low d c between.above in
    let over : (pos (suc some.0) *ℤ pos d) <ℤ (pos high *ℤ pos c) = rw some.1 at between.below in
    let over' : suc some.0 * d < high * c = omega (arith, ints, over) in
    let h : d < c * high = omega (arith, over') in
    let more = none c h in
    omega (arith, ints, more)

-- ---- there is a fraction in the gap

pub one_inside : (low high d : ℕ) → low + 2 ≤ high → 0 < d → IsBetween (pos low) (pos d) (pos high) (pos d) (pos (low + 1)) (pos d)
one_inside low high d room d_up = record {
  positive = omega (arith, ints, d_up);
  above = (let h : low * d < (low + 1) * d = mul-lt-mul_of_pos_right (let e : low < low + 1 = omega arith in e) d_up in omega (arith, ints, h));
  below = (let h : (low + 1) * d < high * d = mul-lt-mul_of_pos_right (let e : low + 1 < high = omega (arith, room) in e) d_up in omega (arith, ints, h));
}

pub not_none : (most low high d : ℕ) → low + 2 ≤ high → 0 < d → high ≤ most → d ≤ most → ¬ (HoldsNoneBetween (pos 0) (pos most) (pos low) (pos d) (pos high) (pos d))
not_none most low high d room d_up h_fits d_fits none =
    none.each (pos (low + 1)) (pos d)
    (record { above = omega (arith, ints); below = omega (arith, ints, room, h_fits) })
    (record { above = omega (arith, ints); below = omega (arith, ints, d_fits) })
    (one_inside low high d room d_up)

-- ---- the reciprocals of the ends: w is the whole number of d/high, and d has r more than w times high, and s more than w times low

pub rest_is : (d h l : ℕ) → l ≤ h → d / h * l + (d - d / h * l) ≡ d
rest_is d h l less =
    let most : d / h * h ≤ d = div-mul-le_self d h in
    let fewer : l * (d / h) ≤ h * (d / h) = mul-le-mul_right (d / h) less in
    omega (arith, most, fewer)

pub rest_less : (d h : ℕ) → 0 < h → d - d / h * h < h
rest_less d h h_up =
    let most : d / h * h ≤ d = div-mul-le_self d h in
    let next : d < d / h * h + h = lt-div-mul-add h_up in
    omega (arith, most, next)

module _ (low high d w r s : ℕ) (r-is : w * high + r ≡ d) (s-is : w * low + s ≡ d) where
  under : (a b : ℕ) → a * d < high * b → w * a ≤ b
  under a b below = elim (cases_lt b (w * a)) [
    | inl less ↦
        let most : b * high ≤ w * a * high = mul-le-mul_right high (omega (arith, less)) in
        let split : (w * high + r) * a ≡ d * a = ap (λ x. x * a) r-is in
        absurd (omega (arith, most, split, below))
    | inr more ↦ more
  ]

  turned_over : (a b c : ℕ) → 0 < a → c + w * a ≡ b → low * b < a * d → a * d < high * b → IsBetween (pos r) (pos high) (pos s) (pos low) (pos c) (pos a)
  turned_over a b c a_up split above below =
      let high_split : (w * high + r) * a ≡ d * a = ap (λ x. x * a) r-is in
      let low_split : (w * low + s) * a ≡ d * a = ap (λ x. x * a) s-is in
      let high_b : (c + w * a) * high ≡ b * high = ap (λ x. x * high) split in
      let low_b : (c + w * a) * low ≡ b * low = ap (λ x. x * low) split in
      record {
        positive = omega (arith, ints, a_up);
        above = (let h : r * a < c * high = omega (arith, high_split, high_b, below) in omega (arith, ints, h));
        below = (let h : c * low < s * a = omega (arith, low_split, low_b, above) in omega (arith, ints, h));
      }

  some_more : (x p : ℕ) → r * p < x * high → 0 < x
  some_more zero p over = absurd (omega (arith, over))
  some_more (suc n) p over = omega arith

  pub reciprocal_simplest : (x p : ℕ) → IsSimplest (pos r) (pos high) (pos s) (pos low) (pos x) (pos p) → IsSimplest (pos low) (pos d) (pos high) (pos d) (pos p) (pos (w * p + x))
  reciprocal_simplest x p is =
      let x_above : r * p < x * high = let h = is.between.above in omega (arith, ints, h) in
      let x_below : x * low < s * p = let h = is.between.below in omega (arith, ints, h) in
      let up = some_more x p x_above in
      let high_split : (w * high + r) * p ≡ d * p = ap (λ n. n * p) r-is in
      let low_split : (w * low + s) * p ≡ d * p = ap (λ n. n * p) s-is in
      least_simplest low high d p (w * p + x)
      (record {
        positive = omega (arith, ints, up);
        above = (let h : low * (w * p + x) < p * d = omega (arith, low_split, x_below) in omega (arith, ints, h));
        below = (let h : p * d < high * (w * p + x) = omega (arith, high_split, x_above) in omega (arith, ints, h));
      })
      (λ n b above below. (
      let split : b - w * suc n + w * suc n ≡ b = omega (arith, under (suc n) b below) in
      let turned = turned_over (suc n) b (b - w * suc n) (omega arith) split above below in
      let fewer : p ≤ suc n = let h = is.denom _ _ turned in omega (arith, ints, h) in
      let less : x ≤ b - w * suc n = is.numer _ _ turned in
      let most : p * w ≤ suc n * w = mul-le-mul_right w fewer in
      (omega (arith, split, less, most), fewer)))

  -- the fraction of both sums lies between
  pub reciprocal_held : (most : ℕ) → low < high → 0 < d → r + s ≤ most → high + low ≤ most → ¬ (HoldsNoneBetween (pos 0) (pos most) (pos r) (pos high) (pos s) (pos low))
  reciprocal_held most less d_up sum_fits ends_fit none =
      let low_r : (w * high + r) * low ≡ d * low = ap (λ x. x * low) r-is in
      let high_s : (w * low + s) * high ≡ d * high = ap (λ x. x * high) s-is in
      let apart : low * d < high * d = mul-lt-mul_of_pos_right less d_up in
      none.each (pos (r + s)) (pos (high + low))
      (record { above = omega (arith, ints); below = omega (arith, ints, sum_fits) })
      (record { above = omega (arith, ints); below = omega (arith, ints, ends_fit) })
      (record {
        positive = omega (arith, ints, less);
        above = (let h : r * (high + low) < (r + s) * high = omega (arith, low_r, high_s, apart) in omega (arith, ints, h));
        below = (let h : (r + s) * low < s * (high + low) = omega (arith, low_r, high_s, apart) in omega (arith, ints, h));
      })

-- ---- the numbers of the simplest fraction fit where those of another one fit

pub numer_less : (low high d p q : ℕ) → low + 2 ≤ high → high < 2 ^ 56 → 0 < d → IsSimplest (pos low) (pos d) (pos high) (pos d) (pos p) (pos q) → p < 2 ^ 56
numer_less low high d p q room short d_up is = (let h = is.numer _ _ (one_inside low high d room d_up) in omega (arith, ints, h, room, short))

-- ---- turned around

turned_less : (x y z w : ℤ) → (x *ℤ y) <ℤ (z *ℤ w) → (neg_ℤ z *ℤ w) <ℤ (neg_ℤ x *ℤ y)
turned_less x y z w less = rw (neg-mul z w, neg-mul x y) (negated (x *ℤ y) (z *ℤ w) less)
  where
    negated : (u v : ℤ) → u <ℤ v → neg_ℤ v <ℤ neg_ℤ u
    negated u v less = omega (arith, ints, less)

twice : (a : ℤ) → neg_ℤ (neg_ℤ a) ≡ a
twice (pos zero) = refl
twice (pos (suc n)) = refl
twice (negsuc n) = refl

pub turned_between : (n d m e a b : ℤ) → IsBetween n d m e a b → IsBetween (neg_ℤ m) e (neg_ℤ n) d (neg_ℤ a) b
turned_between n d m e a b is = record { positive = is.positive; above = turned_less a e m b is.below; below = turned_less n b a d is.above }

pub back_between : (n d m e a b : ℤ) → IsBetween (neg_ℤ m) e (neg_ℤ n) d a b → IsBetween n d m e (neg_ℤ a) b
back_between n d m e a b is = rw (twice n, twice m) at (turned_between _ _ _ _ _ _ is)

pub turned_simplest : (n d m e p q : ℤ) → IsSimplest n d m e p q → IsSimplest (neg_ℤ m) e (neg_ℤ n) d (neg_ℤ p) q
turned_simplest n d m e p q is = record {
  between = turned_between n d m e p q is.between;
  denom = λ a b between. is.denom (neg_ℤ a) b (back_between n d m e a b between);
  numer = λ a b between. rw (unsigned_abs-neg p, ← unsigned_abs-neg a) (is.numer (neg_ℤ a) b (back_between n d m e a b between));
}

-- ---- the result with its sign, in another type

pub inside_some : {T : Type 0} (value : T → ℤ) (lo hi : ℤ) (s : Bool) (low high d p q : ℕ) (x y : T) → IsSimplest (pos low) (pos d) (pos high) (pos d) (pos p) (pos q)
    → value x ≡ with_sign s p → value y ≡ pos q → ChecksInside value lo hi s low high d (Some (x, y))
inside_some value lo hi false low high d p q x y is x-is y-is = rw (x-is, y-is) is
inside_some value lo hi true low high d p q x y is x-is y-is = rw (x-is, y-is) (turned_simplest _ _ _ _ _ _ is)

-- the size of a numerator on either side
numer_up : (low high d p q : ℕ) (a b : ℤ) → IsSimplest (pos low) (pos d) (pos high) (pos d) (pos p) (pos q) → IsBetween (pos low) (pos d) (pos high) (pos d) a b → pos p ≤ℤ a
numer_up low high d p q a (negsuc b) is between = absurd (let up = between.positive in omega (arith, ints, up))
numer_up low high d p q a (pos b) is between =
    let some = above_none a low d b between.above in
    let least : p ≤ unsigned_abs (pos (suc some.0)) = rw some.1 at (is.numer a (pos b) between) in
    rw some.1 (omega (arith, ints, least))

kept_held : (lo hi : ℤ) (p : ℕ) (a : ℤ) → IsRange lo hi → IsHeld lo hi a → pos p ≤ℤ a → IsHeld lo hi (pos p)
kept_held lo hi p a range held less = between_held lo hi a (pos p) range held (inl (omega (arith, ints), less))

kept_held_below : (lo hi : ℤ) (p : ℕ) (a : ℤ) → IsRange lo hi → IsHeld lo hi a → pos p ≤ℤ neg_ℤ a → IsHeld lo hi (neg_ℤ (pos p))
kept_held_below lo hi p a range held less = between_held lo hi a (neg_ℤ (pos p)) range held (inr (omega (arith, ints, less), omega (arith, ints)))

pub inside_none : {T : Type 0} (value : T → ℤ) (lo hi : ℤ) (s : Bool) (low high d p q : ℕ) → IsRange lo hi → IsSimplest (pos low) (pos d) (pos high) (pos d) (pos p) (pos q)
    → (IsHeld lo hi (with_sign s p) → IsHeld lo hi (pos q) → ⊥) → ChecksInside {T = T} value lo hi s low high d None
inside_none value lo hi false low high d p q range is out = record {
  each = λ a b a_held b_held between. out
      (kept_held lo hi p a range a_held (numer_up low high d p q a b is between))
      (kept_held lo hi q b range b_held (is.denom a b between));
}
inside_none value lo hi true low high d p q range is out = record {
  each = λ a b a_held b_held between. (
      let back = back_between (pos low) (pos d) (pos high) (pos d) a b between in
      out
      (kept_held_below lo hi p a range a_held (numer_up low high d p q (neg_ℤ a) b is back))
      (kept_held lo hi q b range b_held (is.denom (neg_ℤ a) b back)));
}

-- a denominator of 2^128 fits no primitive type
long_out : (hi q : ℤ) → hi <ℤ pos (2 ^ 128) → q ≤ℤ hi → pos (2 ^ 128) ≤ℤ q → ⊥
long_out hi q most held long = omega (arith, ints, most, held, long)

pub inside_out : {T : Type 0} (value : T → ℤ) (lo hi : ℤ) (s : Bool) (low high d : ℕ) → hi <ℤ pos (2 ^ 128)
    → ((a b : ℤ) → IsBetween (pos low) (pos d) (pos high) (pos d) a b → pos (2 ^ 128) ≤ℤ b) → ChecksInside {T = T} value lo hi s low high d None
inside_out value lo hi false low high d most none = record {
  each = λ a b a_held b_held between. long_out hi b most b_held.below (none a b between);
}
inside_out value lo hi true low high d most none = record {
  each = λ a b a_held b_held between. long_out hi b most b_held.below (none (neg_ℤ a) b (back_between (pos low) (pos d) (pos high) (pos d) a b between));
}

-- the greatest number of a primitive type
pub most_of : (lo hi : ℤ) (bits : ℕ) → IsRange lo hi → bits ≤ 128 → hi +ℤ pos 1 ≡ lo +ℤ pos (2 ^ bits) → hi <ℤ pos (2 ^ 128)
most_of lo hi bits range short is = by range.low
  where
    power : 2 ^ bits ≤ 2 ^ 128
    power = pow_mono {i = bits} {j = 128} short

    by : (lo ≡ pos 0) ⊎ (lo ≡ neg_ℤ hi) ⊎ (lo ≡ neg_ℤ hi -ℤ pos 1) → hi <ℤ pos (2 ^ 128)
    by (inl e) = omega (arith, ints, power, is, e)
    by (inr (inl e)) = (let up = range.high in omega (arith, ints, power, is, e, up))
    by (inr (inr e)) = (let up = range.high in omega (arith, ints, power, is, e, up))

-- ---- the result is in lowest terms

some_positive : (d : ℕ) → 0 < d → pos 0 <ℤ pos d
some_positive d up = omega (arith, ints, up)

pub inside_lowest : {T : Type 0} (value : T → ℤ) (lo hi : ℤ) (s : Bool) (low high d : ℕ) (r : Option (T × T)) → 0 < d → ChecksInside value lo hi s low high d r
    → IfSome r (λ p. IsLowestTerms (value p.0) (value p.1))
inside_lowest value lo hi s low high d None d_up checked = tt
inside_lowest value lo hi false low high d (Some r) d_up is = simplest_lowest _ _ _ _ _ _ (some_positive d d_up) (some_positive d d_up) is
inside_lowest value lo hi true low high d (Some r) d_up is = simplest_lowest _ _ _ _ _ _ (some_positive d d_up) (some_positive d d_up) is

pub checked_lowest : {R : Type 0} (numer denom : R → ℤ) (lo hi : ℤ) (x : ℤ × ℤ) (r : Option R) → ChecksLowest numer denom lo hi x r → IfSome r (λ p. IsLowestTerms (numer p) (denom p))
checked_lowest numer denom lo hi x None checked = tt
checked_lowest numer denom lo hi x (Some r) is = is.terms.lowest
