-- The codes of a fraction as a function of its fields, and what they feed a hasher. With this a crate above proves the law of its hash.
use Rattle.std.specs.Prelude.{◌≡◌, ◌≢◌, ◌+ℤ◌, ℕ, ℤ, pos, fold, true, List, [], ◌∷◌, ◌++◌}
use Rattle.std.proofs.Common.{refl, sym, ap, append_assoc, append-nil, ◌∙◌}
use Rattle.std.proofs.lemmas.Grind.{fold-append}
use Rattle.std.specs.List.{flat_map}
use Rattle.std.specs.Ordering.{eq_by_cmp, is_eq}
use Rattle.std.specs.declared.cmp.Ordering.{Ordering}
use Rattle.std.specs.declared.cmp.Ordering.TheVariants.{Less, Equal, Greater}
use Rattle.ratio_integer.specs.Fraction.{SameValue}
use Rattle.ratio_integer.specs.Range.{IsHeld, IsRange}
use Rattle.ratio_core.specs.ContinuedFraction.{IsCodesOf, codes_of_quotients}
use Rattle.ratio_core.specs.Order.{cross_cmp}
use Rattle.ratio_core.proofs.Codes.{codes_tell_apart}
use Rattle.ratio_core.proofs.Quotients.{quotients_exist, quotients_same}
use Rattle.ratio_core.proofs.SameValues.{cross_equal, quotients_of_value}

-- the codes of n/d over a type from lo to hi
pub codes_of : (lo hi n d : ℤ) → d ≢ pos 0 → List ℤ
codes_of lo hi n d nonzero = codes_of_quotients lo (hi +ℤ pos 1) (quotients_exist n d nonzero).list

module _ (lo hi n d : ℤ) (nonzero : d ≢ pos 0) where
  pub codes_of_are : IsCodesOf lo hi n d (codes_of lo hi n d nonzero)
  unfolding codes_of
  codes_of_are =
      let known = quotients_exist n d nonzero in
      record { quotients = known.list; are = known.are; list_is = refl }

  -- any list of codes of n/d is this one
  pub codes_of_known : (list : List ℤ) → IsCodesOf lo hi n d list → list ≡ codes_of lo hi n d nonzero
  unfolding codes_of
  codes_of_known list is =
      let known = quotients_exist n d nonzero in
      is.list_is ∙ ap (codes_of_quotients lo (hi +ℤ pos 1)) (quotients_same n d is.quotients known.list is.are known.are)

module _ (lo hi n d m e : ℤ) (dn : d ≢ pos 0) (en : e ≢ pos 0) where
  -- fractions of the same value have the same codes
  pub codes_of_same : SameValue n d m e → codes_of lo hi n d dn ≡ codes_of lo hi m e en
  unfolding codes_of
  codes_of_same value =
      let first = quotients_exist n d dn in
      let second = quotients_exist m e en in
      ap (codes_of_quotients lo (hi +ℤ pos 1)) (quotients_of_value n d m e first.list second.list first.are second.are ((cross_equal n d m e dn en).1 value))

  -- over a type, only these have the same codes
  pub codes_of_tell : IsRange lo hi → IsHeld lo hi n → IsHeld lo hi d → IsHeld lo hi m → IsHeld lo hi e → codes_of lo hi n d dn ≡ codes_of lo hi m e en → SameValue n d m e
  codes_of_tell range nh dh mh eh same =
      let tell = codes_tell_apart lo hi n d (codes_of lo hi n d dn) range nh dh dn (codes_of_are lo hi n d dn) in
      let other = codes_of_are lo hi m e en in
      (tell.each m e mh eh en).0 (record { quotients = other.quotients; are = other.are; list_is = same ∙ other.list_is })

-- ---- what a hasher is fed

equal_by_test : (o : Ordering) → is_eq o ≡ true → o ≡ Equal
equal_by_test Less h = cc
equal_by_test Equal h = refl
equal_by_test Greater h = cc

-- values with a numerator n and a denominator d: if these compare as equal, their codes feed the same
pub same_writes : {K : Type 0} (n d : K → ℤ) (nonzero : (x : K) → d x ≢ pos 0) (write : ℤ → List (List ℕ)) (lo hi : ℤ) (x y : K) → eq_by_cmp (λ (x y : K). cross_cmp (n x) (d x) (n y) (d y)) x y ≡ true
    → flat_map write (codes_of lo hi (n x) (d x) (nonzero x)) ≡ flat_map write (codes_of lo hi (n y) (d y) (nonzero y))
same_writes n d nonzero write lo hi x y h =
    ap (flat_map write) (codes_of_same lo hi (n x) (d x) (n y) (d y) (nonzero x) (nonzero y)
    ((cross_equal (n x) (d x) (n y) (d y) (nonzero x) (nonzero y)).0 (equal_by_test (cross_cmp (n x) (d x) (n y) (d y)) h)))

-- a list that takes numbers one by one: what does not change, and what it is fed
module _ {S : Type 0} (after : S → ℤ → S) where
  pub fold_keeps : {N : Type 0} (part : S → N) → ((s : S) (z : ℤ) → part (after s z) ≡ part s) → (s : S) (zs : List ℤ) → part (fold after s zs) ≡ part s
  fold_keeps part h s [] = refl
  fold_keeps part h s (z ∷ zs) = fold_keeps part h (after s z) zs ∙ h s z

  -- a list that keeps what it takes has all of them at its end
  pub fold_takes : (taken : S → List ℤ) → ((s : S) (z : ℤ) → taken (after s z) ≡ taken s ++ z ∷ []) → (s : S) (zs : List ℤ) → taken (fold after s zs) ≡ taken s ++ zs
  fold_takes taken h s [] = sym (append-nil (taken s))
  fold_takes taken h s (z ∷ zs) = fold_takes taken h (after s z) zs ∙ ap (λ t. t ++ zs) (h s z) ∙ append_assoc (taken s) (z ∷ []) zs

  pub fold_writes : {H : Type 0} (now : S → H) (write : H → List ℕ → H) (writes : ℤ → List (List ℕ)) → ((s : S) (z : ℤ) → now (after s z) ≡ fold write (now s) (writes z)) → (s : S) (zs : List ℤ) → now (fold after s zs) ≡ fold write (now s) (flat_map writes zs)
  fold_writes now write writes h s [] = refl
  fold_writes now write writes h s (z ∷ zs) =
      fold_writes now write writes h (after s z) zs ∙ ap (λ t. fold write t (flat_map writes zs)) (h s z) ∙ sym (fold-append write (now s) (writes z) (flat_map writes zs))
