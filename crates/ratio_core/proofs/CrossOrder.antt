-- The order of two fractions, from their quotients and rests.
use Rattle.std.specs.Prelude.{◌≡◌, ◌≢◌, ◌*◌, ◌<◌, ◌≤◌, ◌≤ℤ◌, ◌<ℤ◌, ◌+ℤ◌, ◌-ℤ◌, ◌*ℤ◌, ℕ, ℤ, zero, suc, pos, negsuc, neg_ℤ, unsigned_abs}
use Rattle.std.proofs.Common.{sym, ap, arith, inl, inr, ◌∙◌, refl}
use Rattle.std.proofs.Math.Nat.{mul-le-mul, mul-le-mul_left, mul-le-mul_right}
use Rattle.std.proofs.lemmas.Int.{ints}
use Rattle.std.specs.Cmp.{int_cmp_is, int_cmp_total, int_ranks}
use Rattle.std.specs.Ordering.{MatchOrdering, int_cmp, ordering_reverse}
use Rattle.std.specs.declared.cmp.Ordering.{Ordering}
use Rattle.std.specs.declared.cmp.Ordering.TheVariants.{Less, Equal, Greater}
use Rattle.ratio_integer.specs.Division.{IsAboveMax, IsFloored}
use Rattle.ratio_integer.specs.Range.{IsHeld, IsRange}
use Rattle.ratio_integer.proofs.DivisionLemmas.{abs_pos}
use Rattle.ratio_integer.proofs.Whole.{add-mul, mul_assoc}
use Rattle.ratio_core.specs.Order.{HaveUnlikeSigns, cross_cmp, sign}
use Rattle.ratio_core.proofs.Floored.{below_above_max, floored-sum, floored_below, floored_nonzero, floored_sign, low_above, one-mul, room, sign-mul}

-- ---- comparisons by a difference

alike : (x y a b : ℤ) (o : Ordering) → x +ℤ b ≡ y +ℤ a → MatchOrdering o (a <ℤ b) (a ≡ b) (b <ℤ a) → MatchOrdering o (x <ℤ y) (x ≡ y) (y <ℤ x)
alike x y a b Less e h = omega (arith, ints)
alike x y a b Equal e h = omega (arith, ints)
alike x y a b Greater e h = omega (arith, ints)

opposite : (x y a b : ℤ) (o : Ordering) → x +ℤ a ≡ y +ℤ b → MatchOrdering o (a <ℤ b) (a ≡ b) (b <ℤ a) → MatchOrdering (ordering_reverse o) (x <ℤ y) (x ≡ y) (y <ℤ x)
opposite x y a b Less e h = omega (arith, ints)
opposite x y a b Equal e h = omega (arith, ints)
opposite x y a b Greater e h = omega (arith, ints)

same_cmp : (x y a b : ℤ) → x +ℤ b ≡ y +ℤ a → int_cmp x y ≡ int_cmp a b
same_cmp x y a b e = sym (int_cmp_is x y (int_cmp a b) (alike x y a b (int_cmp a b) e (int_ranks a b)))

pub turned_cmp : (x y a b : ℤ) → x +ℤ a ≡ y +ℤ b → int_cmp x y ≡ ordering_reverse (int_cmp a b)
turned_cmp x y a b e = sym (int_cmp_is x y (ordering_reverse (int_cmp a b)) (opposite x y a b (int_cmp a b) e (int_ranks a b)))

pub cmp-less : (x y : ℤ) → x <ℤ y → int_cmp x y ≡ Less
cmp-less x y h = sym (int_cmp_is x y Less h)

cmp-greater : (x y : ℤ) → y <ℤ x → int_cmp x y ≡ Greater
cmp-greater x y h = sym (int_cmp_is x y Greater h)

cmp-equal : (x y : ℤ) → x ≡ y → int_cmp x y ≡ Equal
cmp-equal x y h = sym (int_cmp_is x y Equal h)

pub cmp-pairs : (x y a b : ℤ) → x ≡ a → y ≡ b → int_cmp x y ≡ int_cmp a b
cmp-pairs x y a b e f = cc

-- ---- with both denominators made positive

sign_below : (n : ℕ) → 0 < n → sign (neg_ℤ (pos n)) ≡ negsuc 0
sign_below zero h = absurd (omega arith)
sign_below (suc n) h = refl

negative-product : (d e : ℕ) → 0 < d → sign (pos d *ℤ negsuc e) ≡ negsuc 0
negative-product d e h = sign_below (d * suc e) (omega (arith, mul-le-mul_right (suc e) h))

negative-product_left : (d e : ℕ) → 0 < e → sign (negsuc d *ℤ pos e) ≡ negsuc 0
negative-product_left d e h = sign_below (suc d * e) (omega (arith, mul-le-mul_left (suc d) h))

moved : (n : ℤ) (e : ℕ) → negsuc 0 *ℤ (n *ℤ negsuc e) ≡ (pos 1 *ℤ n) *ℤ pos (suc e)
moved n e = let h : negsuc 0 *ℤ (n *ℤ negsuc e) ≡ pos 1 *ℤ (n *ℤ pos (suc e)) = omega (arith, ints) in h ∙ sym (mul_assoc (pos 1) n (pos (suc e)))

moved_back : (n : ℤ) (e : ℕ) → pos 1 *ℤ (n *ℤ negsuc e) ≡ (negsuc 0 *ℤ n) *ℤ pos (suc e)
moved_back n e = let h : pos 1 *ℤ (n *ℤ negsuc e) ≡ negsuc 0 *ℤ (n *ℤ pos (suc e)) = omega (arith, ints) in h ∙ sym (mul_assoc (negsuc 0) n (pos (suc e)))

pub upright : (n d m e : ℤ) → d ≢ pos 0 → e ≢ pos 0 → cross_cmp n d m e ≡ int_cmp ((sign d *ℤ n) *ℤ pos (unsigned_abs e)) ((sign e *ℤ m) *ℤ pos (unsigned_abs d))
unfolding cross_cmp
upright n (pos d) m (pos e) dn en = cmp-pairs _ _ _ _ (sym (mul_assoc (pos 1) n (pos e))) (sym (mul_assoc (pos 1) m (pos d)))
upright n (pos d) m (negsuc e) dn en =
    let s = negative-product d e (abs_pos (pos d) dn) in
    cmp-pairs _ _ _ _ (ap (λ x. x *ℤ (n *ℤ negsuc e)) s ∙ moved n e) (ap (λ x. x *ℤ (m *ℤ pos d)) s ∙ sym (mul_assoc (negsuc 0) m (pos d)))
upright n (negsuc d) m (pos e) dn en =
    let s = negative-product_left d e (abs_pos (pos e) en) in
    cmp-pairs _ _ _ _ (ap (λ x. x *ℤ (n *ℤ pos e)) s ∙ sym (mul_assoc (negsuc 0) n (pos e))) (ap (λ x. x *ℤ (m *ℤ negsuc d)) s ∙ moved m d)
upright n (negsuc d) m (negsuc e) dn en = cmp-pairs _ _ _ _ (moved_back n e) (moved_back m d)

pub cross_turned : (n d m e : ℤ) → d ≢ pos 0 → e ≢ pos 0 → cross_cmp n d m e ≡ ordering_reverse (cross_cmp m e n d)
cross_turned n d m e dn en =
    upright n d m e dn en ∙ int_cmp_total.antisymm ((sign d *ℤ n) *ℤ pos (unsigned_abs e)) ((sign e *ℤ m) *ℤ pos (unsigned_abs d)) ∙ ap ordering_reverse (sym (upright m e n d en dn))

-- ---- n/d is q + r/d, and m/e is p + s/e

scaled : (q : ℤ) (d r e : ℕ) → (q *ℤ pos d +ℤ pos r) *ℤ pos e ≡ q *ℤ pos (d * e) +ℤ pos (r * e)
scaled q d r e = add-mul (q *ℤ pos d) (pos r) (pos e) ∙ ap (λ x. x +ℤ pos (r * e)) (mul_assoc q (pos d) (pos e))

none : (r : ℤ) (k : ℕ) → r ≡ pos 0 → unsigned_abs r * k ≡ 0
none r k h = let z : 0 * k ≡ 0 = omega arith in ap (λ x. unsigned_abs x * k) h ∙ z

module _ (n d q r m e p s : ℤ) (f : IsFloored n d q r) (g : IsFloored m e p s) where
  abbrev both : ℕ
  both = unsigned_abs d * unsigned_abs e

  abbrev first : ℤ
  first = q *ℤ pos both +ℤ pos (unsigned_abs r * unsigned_abs e)

  abbrev second : ℤ
  second = p *ℤ pos both +ℤ pos (unsigned_abs s * unsigned_abs d)

  divided : cross_cmp n d m e ≡ int_cmp first second
  divided =
      let c : unsigned_abs e * unsigned_abs d ≡ both = omega arith in
      upright n d m e (floored_nonzero n d q r f) (floored_nonzero m e p s g) ∙
      cmp-pairs _ _ _ _
      (ap (λ x. x *ℤ pos (unsigned_abs e)) (floored-sum n d q r f) ∙ scaled q (unsigned_abs d) (unsigned_abs r) (unsigned_abs e))
      (ap (λ x. x *ℤ pos (unsigned_abs d)) (floored-sum m e p s g) ∙ scaled p (unsigned_abs e) (unsigned_abs s) (unsigned_abs d) ∙ ap (λ x. p *ℤ pos x +ℤ pos (unsigned_abs s * unsigned_abs d)) c)

  first_below : unsigned_abs r * unsigned_abs e < both
  first_below =
      let a : 0 < unsigned_abs e = abs_pos e (floored_nonzero m e p s g) in
      let h : suc (unsigned_abs r) * unsigned_abs e ≤ both = mul-le-mul_right (unsigned_abs e) (floored_below n d q r f) in
      omega arith

  second_below : unsigned_abs s * unsigned_abs d < both
  second_below =
      let a : 0 < unsigned_abs d = abs_pos d (floored_nonzero n d q r f) in
      let h : suc (unsigned_abs s) * unsigned_abs d ≤ unsigned_abs e * unsigned_abs d = mul-le-mul_right (unsigned_abs d) (floored_below m e p s g) in
      omega arith

  pub divided-less : q <ℤ p → cross_cmp n d m e ≡ Less
  divided-less h =
      let k : (q *ℤ pos both +ℤ pos both) ≤ℤ (p *ℤ pos both) = room q p both h in
      let b : unsigned_abs r * unsigned_abs e < both = first_below in
      let l : first <ℤ second = omega (arith, ints) in divided ∙ cmp-less first second l

  pub divided-greater : p <ℤ q → cross_cmp n d m e ≡ Greater
  divided-greater h =
      let k : (p *ℤ pos both +ℤ pos both) ≤ℤ (q *ℤ pos both) = room p q both h in
      let b : unsigned_abs s * unsigned_abs d < both = second_below in
      let l : second <ℤ first = omega (arith, ints) in divided ∙ cmp-greater first second l

  tied : q ≡ p → cross_cmp n d m e ≡ int_cmp (pos (unsigned_abs r * unsigned_abs e)) (pos (unsigned_abs s * unsigned_abs d))
  tied h =
      let k : q *ℤ pos both ≡ p *ℤ pos both = ap (λ x. x *ℤ pos both) h in
      let l : first +ℤ pos (unsigned_abs s * unsigned_abs d) ≡ second +ℤ pos (unsigned_abs r * unsigned_abs e) = omega (arith, ints) in
      divided ∙ same_cmp first second (pos (unsigned_abs r * unsigned_abs e)) (pos (unsigned_abs s * unsigned_abs d)) l

  pub tied-both : q ≡ p → r ≡ pos 0 → s ≡ pos 0 → cross_cmp n d m e ≡ Equal
  tied-both h rz sz =
      let l : unsigned_abs r * unsigned_abs e ≡ unsigned_abs s * unsigned_abs d = none r (unsigned_abs e) rz ∙ sym (none s (unsigned_abs d) sz) in
      tied h ∙ cmp-equal _ _ (ap pos l)

  pub tied-first : q ≡ p → r ≡ pos 0 → s ≢ pos 0 → cross_cmp n d m e ≡ Less
  tied-first h rz sn =
      let a : unsigned_abs r * unsigned_abs e ≡ 0 = none r (unsigned_abs e) rz in
      let b : 0 < unsigned_abs s * unsigned_abs d = mul-le-mul (abs_pos s sn) (abs_pos d (floored_nonzero n d q r f)) in
      let l : pos (unsigned_abs r * unsigned_abs e) <ℤ pos (unsigned_abs s * unsigned_abs d) = omega (arith, ints) in tied h ∙ cmp-less _ _ l

  pub tied-second : q ≡ p → r ≢ pos 0 → s ≡ pos 0 → cross_cmp n d m e ≡ Greater
  tied-second h rn sz =
      let a : unsigned_abs s * unsigned_abs d ≡ 0 = none s (unsigned_abs d) sz in
      let b : 0 < unsigned_abs r * unsigned_abs e = mul-le-mul (abs_pos r rn) (abs_pos e (floored_nonzero m e p s g)) in
      let l : pos (unsigned_abs s * unsigned_abs d) <ℤ pos (unsigned_abs r * unsigned_abs e) = omega (arith, ints) in tied h ∙ cmp-greater _ _ l

  -- the reciprocals of the rests have the reverse order
  pub tied-rest : q ≡ p → r ≢ pos 0 → s ≢ pos 0 → cross_cmp n d m e ≡ ordering_reverse (cross_cmp d r e s)
  tied-rest h rn sn =
      let x : sign r *ℤ d ≡ pos (unsigned_abs d) = ap (λ t. t *ℤ d) (floored_sign n d q r f rn) ∙ sign-mul d in
      let y : sign s *ℤ e ≡ pos (unsigned_abs e) = ap (λ t. t *ℤ e) (floored_sign m e p s g sn) ∙ sign-mul e in
      let u : cross_cmp d r e s ≡ int_cmp (pos (unsigned_abs d * unsigned_abs s)) (pos (unsigned_abs e * unsigned_abs r)) = upright d r e s rn sn ∙ cmp-pairs _ _ _ _ (ap (λ t. t *ℤ pos (unsigned_abs s)) x) (ap (λ t. t *ℤ pos (unsigned_abs r)) y) in
      let l : pos (unsigned_abs r * unsigned_abs e) +ℤ pos (unsigned_abs d * unsigned_abs s) ≡ pos (unsigned_abs s * unsigned_abs d) +ℤ pos (unsigned_abs e * unsigned_abs r) = omega (arith, ints) in
      tied h ∙ turned_cmp (pos (unsigned_abs r * unsigned_abs e)) (pos (unsigned_abs s * unsigned_abs d)) (pos (unsigned_abs d * unsigned_abs s)) (pos (unsigned_abs e * unsigned_abs r)) l ∙ ap ordering_reverse (sym u)

-- ---- -hi-1 over -1 is above all others

above_others : (hi n d m e : ℤ) → pos 2 ≤ℤ hi → IsAboveMax hi n d → m ≤ℤ hi → (neg_ℤ hi -ℤ pos 1) ≤ℤ m → e ≢ pos 0 → ¬ (IsAboveMax hi m e) → cross_cmp n d m e ≡ Greater
above_others (negsuc h) n d m e large top below above en out = absurd (omega (arith, ints))
above_others (pos h) n d m e large top below above en out =
    let denom = top.denom in
    let numer = top.numer in
    let dn : d ≢ pos 0 = λ z. omega (arith, ints) in
    let y : negsuc 0 *ℤ n ≡ pos (suc h) = omega (arith, ints) in
    let x : sign d *ℤ n ≡ pos (suc h) = ap (λ z. sign z *ℤ n) denom ∙ y in
    let one : (sign e *ℤ m) *ℤ pos 1 ≡ sign e *ℤ m = omega (arith, ints) in
    upright n d m e dn en ∙ cmp-pairs _ _ (pos (suc h * unsigned_abs e)) (sign e *ℤ m) (ap (λ z. z *ℤ pos (unsigned_abs e)) x) (ap (λ z. (sign e *ℤ m) *ℤ pos (unsigned_abs z)) denom ∙ one)
    ∙ cmp-greater _ _ (below_above_max h m e below above en out)

module _ (lo hi n d m e : ℤ) (range : IsRange lo hi) (n_held : IsHeld lo hi n) (m_held : IsHeld lo hi m) (dn : d ≢ pos 0) (en : e ≢ pos 0) where
  above_low : (z : ℤ) → IsHeld lo hi z → (neg_ℤ hi -ℤ pos 1) ≤ℤ z
  above_low z held = let low = low_above lo hi range in let k = held.above in omega (arith, ints)

  pub top-greater : IsAboveMax hi n d → ¬ (IsAboveMax hi m e) → cross_cmp n d m e ≡ Greater
  top-greater top out = above_others hi n d m e range.high top m_held.below (above_low m m_held) en out

  pub top-less : ¬ (IsAboveMax hi n d) → IsAboveMax hi m e → cross_cmp n d m e ≡ Less
  top-less out top = cross_turned n d m e dn en ∙ ap ordering_reverse (above_others hi m e n d range.high top n_held.below (above_low n n_held) dn out)

  pub top-equal : IsAboveMax hi n d → IsAboveMax hi m e → cross_cmp n d m e ≡ Equal
  top-equal a b =
      let nm : n ≡ m = a.numer ∙ sym b.numer in
      let de : d ≡ e = a.denom ∙ sym b.denom in
      upright n d m e dn en ∙ cmp-equal ((sign d *ℤ n) *ℤ pos (unsigned_abs e)) ((sign e *ℤ m) *ℤ pos (unsigned_abs d)) cc

-- ---- by the cross products, not reduced

along : (x y : ℤ) → int_cmp (pos 1 *ℤ x) (pos 1 *ℤ y) ≡ int_cmp x y
along x y = cmp-pairs (pos 1 *ℤ x) (pos 1 *ℤ y) x y (one-mul x) (one-mul y)

across : (s x y : ℤ) → s ≡ negsuc 0 → int_cmp (s *ℤ x) (s *ℤ y) ≡ int_cmp y x
across s x y h =
    let e : (negsuc 0 *ℤ x) +ℤ x ≡ (negsuc 0 *ℤ y) +ℤ y = omega (arith, ints) in
    ap (λ z. int_cmp (z *ℤ x) (z *ℤ y)) h ∙ same_cmp (negsuc 0 *ℤ x) (negsuc 0 *ℤ y) y x e

-- if the denominators have one sign
pub cross-along : (n d m e : ℤ) → d ≢ pos 0 → e ≢ pos 0 → ¬ (HaveUnlikeSigns d e) → cross_cmp n d m e ≡ int_cmp (n *ℤ e) (m *ℤ d)
unfolding cross_cmp
cross-along n (pos d) m (pos e) dn en h = along (n *ℤ pos e) (m *ℤ pos d)
cross-along n (pos d) m (negsuc e) dn en h = absurd (h (inr (omega (arith, ints), omega (arith, ints))))
cross-along n (negsuc d) m (pos e) dn en h = absurd (h (inl (omega (arith, ints), omega (arith, ints))))
cross-along n (negsuc d) m (negsuc e) dn en h = along (n *ℤ negsuc e) (m *ℤ negsuc d)

-- if they do not
pub cross-across : (n d m e : ℤ) → d ≢ pos 0 → e ≢ pos 0 → HaveUnlikeSigns d e → cross_cmp n d m e ≡ int_cmp (m *ℤ d) (n *ℤ e)
unfolding cross_cmp
cross-across n (pos d) m (pos e) dn en h = absurd (grind (arith, ints))
cross-across n (pos d) m (negsuc e) dn en h = across (sign (pos d *ℤ negsuc e)) (n *ℤ negsuc e) (m *ℤ pos d) (negative-product d e (abs_pos (pos d) dn))
cross-across n (negsuc d) m (pos e) dn en h = across (sign (negsuc d *ℤ pos e)) (n *ℤ pos e) (m *ℤ negsuc d) (negative-product_left d e (abs_pos (pos e) en))
cross-across n (negsuc d) m (negsuc e) dn en h = absurd (grind (arith, ints))

-- ---- if 0 lies between the two

below_zero : (a e : ℕ) → 0 < e → (negsuc a *ℤ pos e) <ℤ pos 0
below_zero a e h = let k : 0 < suc a * e = omega (arith, mul-le-mul_left (suc a) h) in omega (arith, ints)

-- the numerators decide
pub cross_split : (n d m e : ℤ) → pos 0 <ℤ d → pos 0 <ℤ e → HaveUnlikeSigns n m → int_cmp n m ≡ cross_cmp n d m e
cross_split n (negsuc d) m e dp ep h = absurd (omega (arith, ints))
cross_split n (pos d) m (negsuc e) dp ep h = absurd (omega (arith, ints))
cross_split (pos n) (pos d) (pos m) (pos e) dp ep h = absurd (grind (arith, ints))
cross_split (negsuc n) (pos d) (negsuc m) (pos e) dp ep h = absurd (grind (arith, ints))
cross_split (negsuc n) (pos d) (pos m) (pos e) dp ep h =
    let low : (negsuc n *ℤ pos e) <ℤ pos 0 = below_zero n e (omega (arith, ints)) in
    let less : (negsuc n *ℤ pos e) <ℤ (pos m *ℤ pos d) = omega (arith, ints) in
    cmp-less (negsuc n) (pos m) (omega (arith, ints)) ∙ sym (cross-along (negsuc n) (pos d) (pos m) (pos e) (λ z. omega (arith, ints)) (λ z. omega (arith, ints)) (λ u. grind (arith, ints)) ∙ cmp-less _ _ less)
cross_split (pos n) (pos d) (negsuc m) (pos e) dp ep h =
    let low : (negsuc m *ℤ pos d) <ℤ pos 0 = below_zero m d (omega (arith, ints)) in
    let less : (negsuc m *ℤ pos d) <ℤ (pos n *ℤ pos e) = omega (arith, ints) in
    cmp-greater (pos n) (negsuc m) (omega (arith, ints)) ∙ sym (cross-along (pos n) (pos d) (negsuc m) (pos e) (λ z. omega (arith, ints)) (λ z. omega (arith, ints)) (λ u. grind (arith, ints)) ∙ cmp-greater _ _ less)
