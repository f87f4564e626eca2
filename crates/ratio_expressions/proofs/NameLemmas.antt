-- What each name is worth after one is given a value.
use Rattle.std.proofs.Common.{◌≡◌, ◌∙◌, ℕ, Bool, true, false, List, Some, ap, sym, subst, ⊎_elim}
use Rattle.std.specs.Prelude.{if◌then◌else◌, option_map}
use Rattle.std.specs.BTreeMap.{BTreeMap, UpdatesBy, get_by}
use Rattle.std.specs.Cmp.{eq_by_cmp_equiv}
use Rattle.std.specs.Cmp.Lexicographic.{slice_cmp, bytes_decides, nat_list_cmp_total, nat_list_eq_equiv, texts_ties}
use Rattle.std.specs.Map.{lookup, IsKeyTest, AreApart, KeepsOthers}
use Rattle.std.specs.Ordering.{is_eq, nat_cmp}
use Rattle.std.specs.Str.{bytes_eq}
use Rattle.std.specs.Global.{Vec}
use Rattle.std.proofs.lemmas.Bool.{cases_Bool, cond-true, cond-false}

other_entries : {K X : Type 0} (eq : K → K → Bool) (test : K → Bool) (old new : List (K × X)) → KeepsOthers eq test old new → (other : K → Bool) → IsKeyTest eq other → AreApart test other → lookup other new ≡ lookup other old
unfolding KeepsOthers
other_entries eq test old new h = h

-- a key with the one name has not the other name
apart : (name other key : List ℕ) → bytes_eq name other ≡ false → is_eq (slice_cmp nat_cmp name key) ≡ true → is_eq (slice_cmp nat_cmp other key) ≡ false
apart name other key n y =
    sym (texts_ties other key) ∙ (nat_list_eq_equiv.symm other key ∙ sym (nat_list_eq_equiv.congr name key other (texts_ties name key ∙ y)) ∙ n)

module _ {X W : Type 0} (f : X → W) (name : List ℕ) (value : X) (m n : BTreeMap (Vec ℕ) X) where
  -- the name has the value, and each other name has what it had
  pub named_after : UpdatesBy (λ x y. slice_cmp nat_cmp x.items y.items) (λ k. slice_cmp nat_cmp name k.items) m n (Some value) → (other : List ℕ)
      → option_map f (get_by (λ k. slice_cmp nat_cmp other k.items) n) ≡ (if bytes_eq name other then Some (f value) else option_map f (get_by (λ k. slice_cmp nat_cmp other k.items) m))
  named_after h other =
      ⊎_elim
      (λ y. subst (λ l. option_map f (get_by (λ k. slice_cmp nat_cmp l k.items) n) ≡ Some (f value)) ((bytes_decides name other).0 y) (ap (option_map f) h.1)
      ∙ sym (cond-true (bytes_eq name other) _ _ y))
      (λ e. ap (option_map f) (other_entries _ _ _ _ h.3 _ (λ x y. (eq_by_cmp_equiv nat_list_cmp_total).congr other x.items y.items) (λ k. apart name other k.items e))
      ∙ sym (cond-false (bytes_eq name other) _ _ e))
      (cases_Bool (bytes_eq name other))
