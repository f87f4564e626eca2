-- Totals of lists from another start, and of lists in another order. A step only says which total it gives.
use Rattle.std.specs.Prelude.{◌≡◌, ◌≢◌, ◌<◌, ◌+ℤ◌, ◌*ℤ◌, ℕ, ℤ, zero, suc, pos, List, [], ◌∷◌, get_or, length, set, swap, IsPermutation, ⊤}
use Rattle.std.specs.List.{FoldsTo}
use Rattle.std.proofs.Common.{ap, arith, refl, subst, sym, ◌∙◌}
use Rattle.std.proofs.lemmas.List.Sorted.{IsPermutation-keeps}
use lib.IntN.{*ℤ_comm, zero-*ℤ}
use Rattle.ratio_integer.proofs.LowestTerms.{lowest_exist}
use Rattle.ratio_integer.proofs.Whole.{mul_nonzero, positive_nonzero}
use Rattle.ratio_core.specs.Laws.{IsProduct, IsSum}
use Rattle.ratio_core.proofs.LawLemmas.{products_associate, products_commute, sums_associate, sums_commute}
use Rattle.num_rational.proofs.FoldLemmas.{one_product, one_sum, one_total}

-- what sums and products in lowest terms have in common
pub record IsCommutative (Gives : ℤ × ℤ → ℤ × ℤ → ℤ × ℤ → Type 0) : Type 0 where
  pub one : (p x q r : ℤ × ℤ) → Gives p x q → Gives p x r → q ≡ r
  pub commute : (x y left right : ℤ × ℤ) → Gives x y left → Gives y x right → left ≡ right
  pub associate : (x y z xy yz left right : ℤ × ℤ) → Gives x y xy → Gives xy z left → Gives y z yz → Gives x yz right → left ≡ right
  pub exists : (x y : ℤ × ℤ) → x.1 ≢ pos 0 → y.1 ≢ pos 0 → (z : ℤ × ℤ) × Gives x y z
  pub left : (x y z : ℤ × ℤ) → Gives x y z → x.1 ≢ pos 0
  pub right : (x y z : ℤ × ℤ) → Gives x y z → y.1 ≢ pos 0
  pub total : (x y z : ℤ × ℤ) → Gives x y z → z.1 ≢ pos 0

left_factor : (a b : ℤ) → a *ℤ b ≢ pos 0 → a ≢ pos 0
left_factor a b nonzero none = nonzero (ap (λ (t : ℤ). t *ℤ b) none ∙ zero-*ℤ b)

right_factor : (a b : ℤ) → a *ℤ b ≢ pos 0 → b ≢ pos 0
right_factor a b nonzero = left_factor b a (λ none. nonzero (*ℤ_comm a b ∙ none))

pub sums_are_commutative : IsCommutative IsSum
sums_are_commutative = record {
  one = one_sum;
  commute = sums_commute;
  associate = sums_associate;
  exists = λ x y left right. let found = lowest_exist (x.0 *ℤ y.1 +ℤ y.0 *ℤ x.1) (x.1 *ℤ y.1) (mul_nonzero x.1 y.1 left right) in ((found.numer, found.denom), found.terms);
  left = λ x y z gives. left_factor x.1 y.1 gives.fraction;
  right = λ x y z gives. right_factor x.1 y.1 gives.fraction;
  total = λ x y z gives. positive_nonzero z.1 gives.lowest.positive;
}

pub products_are_commutative : IsCommutative IsProduct
products_are_commutative = record {
  one = one_product;
  commute = products_commute;
  associate = products_associate;
  exists = λ x y left right. let found = lowest_exist (x.0 *ℤ y.0) (x.1 *ℤ y.1) (mul_nonzero x.1 y.1 left right) in ((found.numer, found.denom), found.terms);
  left = λ x y z gives. left_factor x.1 y.1 gives.fraction;
  right = λ x y z gives. right_factor x.1 y.1 gives.fraction;
  total = λ x y z gives. positive_nonzero z.1 gives.lowest.positive;
}

module _ {A : Type 0} (view : A → ℤ × ℤ) (Gives : ℤ × ℤ → ℤ × ℤ → ℤ × ℤ → Type 0) (law : IsCommutative Gives) where
  abbrev pub Total : ℤ × ℤ → List A → ℤ × ℤ → Type 0
  Total p xs q = FoldsTo (λ p x q. Gives p (view x) q) p xs q

  pub one_of_list : (xs : List A) (p q r : ℤ × ℤ) → Total p xs q → Total p xs r → q ≡ r
  one_of_list = one_total view (λ p x. ⊤) Gives law.one

  turned : (x y z : ℤ × ℤ) → Gives x y z → Gives y x z
  turned x y z gives =
      let other = law.exists y x (law.right x y z gives) (law.left x y z gives) in
      subst (Gives y x) (sym (law.commute x y z other.0 gives other.1)) other.1

  -- an operand a may be combined with the start or with the total
  pub moved : (a p q r s : ℤ × ℤ) (xs : List A) → Gives a p q → Total p xs r → Gives a r s → Total q xs s
  moved a p q r s [] start total end = law.one a p q s start (subst (λ w. Gives a w s) (sym total) end)
  moved a p q r s (x ∷ xs) start total end =
      let next = total.0 in
      let both = law.exists a next (law.left a p q start) (law.total p (view x) next total.1) in
      let other = law.exists q (view x) (law.total a p q start) (law.right p (view x) next total.1) in
      let same = law.associate a p (view x) q next other.0 both.0 start other.1 total.1 both.1 in
      (both.0, subst (Gives q (view x)) same other.1, moved a next both.0 r s xs both.1 total.2 end)

  -- a list with a total from one start has one from each start
  from_any : (p q r : ℤ × ℤ) (xs : List A) → p.1 ≢ pos 0 → Total q xs r → (s : ℤ × ℤ) × Total p xs s × (s.1 ≢ pos 0)
  from_any p q r [] nonzero total = (p, refl, nonzero)
  from_any p q r (x ∷ xs) nonzero total =
      let next = law.exists p (view x) nonzero (law.right q (view x) total.0 total.1) in
      let rest = from_any next.0 total.0 r xs (law.total p (view x) next.0 next.1) total.2 in
      (rest.0, (next.0, next.1, rest.1), rest.2)

  -- an operand a of the start may be left out and be combined last
  taken_out : (a p q r : ℤ × ℤ) (xs : List A) → Gives a p q → Total q xs r → (s : ℤ × ℤ) × Total p xs s × Gives a s r
  taken_out a p q r xs start total =
      let rest = from_any p q r xs (law.right a p q start) total in
      let whole = law.exists a rest.0 (law.left a p q start) rest.2 in
      let same = one_of_list xs q whole.0 r (moved a p q rest.0 whole.0 xs start rest.1 whole.1) total in
      (rest.0, rest.1, subst (Gives a rest.0) same whole.1)

  -- y + (x + z) is x + (y + z)
  exchanged : (x y z yz xz total : ℤ × ℤ) → Gives y z yz → Gives x yz total → Gives x z xz → Gives y xz total
  exchanged x y z yz xz total inner outer other =
      let x_nonzero = law.left x yz total outer in
      let y_nonzero = law.left y z yz inner in
      let xy = law.exists x y x_nonzero y_nonzero in
      let whole = law.exists xy.0 z (law.total x y xy.0 xy.1) (law.right y z yz inner) in
      let last = law.exists y xz y_nonzero (law.total x z xz other) in
      let first = law.associate x y z xy.0 yz whole.0 total xy.1 whole.1 inner outer in
      let second = law.associate y x z xy.0 xz whole.0 last.0 (turned x y xy.0 xy.1) whole.1 other last.1 in
      subst (Gives y xz) (sym second ∙ first) last.1

  -- `rest` is the total without the item at j. Each item may be put in its place.
  record Without (p : ℤ × ℤ) (ys : List A) (j : ℕ) (d : A) (r : ℤ × ℤ) : Type 0 where
    rest : ℤ × ℤ
    back : Gives (view (get_or ys j d)) rest r
    put : (x : A) (s : ℤ × ℤ) → Gives (view x) rest s → Total p (set ys j x) s

  without : (p : ℤ × ℤ) (ys : List A) (j : ℕ) (d : A) (r : ℤ × ℤ) → j < length ys → Total p ys r → Without p ys j d r
  without p [] j d r below total = absurd (omega arith)
  without p (y ∷ ys) zero d r below total =
      let found = taken_out (view y) p total.0 r ys (turned p (view y) total.0 total.1) total.2 in
      record {
        rest = found.0;
        back = found.2;
        put = λ x s gives.
            let next = law.exists (view x) p (law.left (view x) found.0 s gives) (law.left p (view y) total.0 total.1) in
            (next.0, turned (view x) p next.0 next.1, moved (view x) p next.0 found.0 s ys next.1 found.1 gives);
      }
  without p (y ∷ ys) (suc j) d r below total =
      let found = without total.0 ys j d r (omega arith) total.2 in
      record { rest = found.rest; back = found.back; put = λ x s gives. (total.0, total.1, found.put x s gives) }

  -- the first item and a later one in each other's place
  with_first : (p q : ℤ × ℤ) (x : A) (ys : List A) (j : ℕ) (d : A) → j < length ys → Total p (x ∷ ys) q → Total p (get_or ys j d ∷ set ys j x) q
  with_first p q x ys j d below total =
      let y = view (get_or ys j d) in
      let p_nonzero = law.left p (view x) total.0 total.1 in
      let tail = taken_out (view x) p total.0 q ys (turned p (view x) total.0 total.1) total.2 in
      let found = without p ys j d tail.0 below tail.1 in
      let start = law.exists y p (law.left y found.rest tail.0 found.back) p_nonzero in
      let inner = law.exists (view x) found.rest (law.left (view x) tail.0 q tail.2) (law.right y found.rest tail.0 found.back) in
      let outer = exchanged (view x) y found.rest tail.0 inner.0 q found.back tail.2 inner.1 in
      (start.0, turned y p start.0 start.1, moved y p start.0 inner.0 q (set ys j x) start.1 (found.put x inner.0 inner.1) outer)

  -- two items in each other's place
  exchanged_items : (p q : ℤ × ℤ) (xs : List A) (i j : ℕ) (d : A) → i < length xs → j < length xs → Total p xs q → Total p (set (set xs i (get_or xs j d)) j (get_or xs i d)) q
  exchanged_items p q [] i j d here there total = absurd (omega arith)
  exchanged_items p q (x ∷ xs) zero zero d here there total = total
  exchanged_items p q (x ∷ xs) zero (suc j) d here there total = with_first p q x xs j d (omega arith) total
  exchanged_items p q (x ∷ xs) (suc i) zero d here there total = with_first p q x xs i d (omega arith) total
  exchanged_items p q (x ∷ xs) (suc i) (suc j) d here there total = (total.0, total.1, exchanged_items total.0 q xs i j d (omega arith) (omega arith) total.2)

  swapped : (p q : ℤ × ℤ) (xs : List A) (i j : ℕ) → i < length xs → j < length xs → Total p xs q → Total p (swap xs i j) q
  swapped p q [] i j here there total = total
  swapped p q (x ∷ xs) i j here there total = exchanged_items p q (x ∷ xs) i j x here there total

  -- a list in another order has the same total
  pub in_any_order : (p q : ℤ × ℤ) (xs ys : List A) → IsPermutation xs ys → Total p xs q → Total p ys q
  in_any_order p q xs ys order total = IsPermutation-keeps xs (λ zs. Total p zs q) total (λ zs i j here there before. swapped p q zs i j here there before) ys order
