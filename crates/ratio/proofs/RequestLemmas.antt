-- What the arguments ask for with one more.
use Rattle.std.proofs.Common.{◌≡◌, ◌∙◌, ◌⊎◌, ◌<◌, ◌+◌, ◌++◌, ◌∷◌, [], ℕ, List, length, get_or, map, take, drop, Some, true, false, refl, sym, ap, subst, inl, inr}
use Rattle.std.specs.Prelude.{Result, Ok, Err, OnOk, codes, is_ok, option_map}
use Rattle.std.specs.Global.{Vec}
use Rattle.std.proofs.lemmas.List.{drop_more, map-append, take-append-drop}
use Rattle.ratio_expressions.specs.declared.replies.form.Form.{Form}
use Rattle.ratio_expressions.specs.declared.replies.form.Form.TheVariants as forms
use Rattle.ratio.specs.declared.option.Page.{Page}
use Rattle.ratio.specs.declared.option.Asked.TheVariants as asks
use Rattle.ratio.specs.declared.request.Next.{Next}
use Rattle.ratio.specs.declared.request.Next.TheVariants as nexts
use Rattle.ratio.specs.declared.request.SoFar.{SoFar}
use Rattle.ratio.specs.Options.{SaysPlaces, is_option, option_named}
use Rattle.ratio.specs.Requests.{IsSoFar, OfForm, OfLines, OfPage, OfText, Say, behind_text, ends_options, says_behind, says_form, says_lines, says_number, says_page, says_places, says_text, wants_places}

pub on_ok : {V E : Type 0} (r : Result V E) (P : Type 0) → (is_ok r ≡ true → P) → OnOk r P
on_ok (Ok v) P h = h refl
on_ok (Err e) P h = tt

-- a list around one of its items
pub split_at : {X Y : Type 0} (f : X → Y) (xs : List X) (i : ℕ) (x : X) → i < length xs → x ≡ get_or xs i x → map f xs ≡ map f (take i xs) ++ f x ∷ map f (drop (i + 1) xs)
split_at f xs i x within is =
    ap (map f) (sym (take-append-drop i xs))
    ∙ map-append f (take i xs) (drop i xs)
    ∙ ap (λ l. map f (take i xs) ++ map f l) (drop_more xs i x within ∙ ap (λ y. y ∷ drop (i + 1) xs) (sym is))

module _ (ws : List (List ℕ)) (w : List ℕ) (x : SoFar) (h : IsSoFar ws x) where
  say_now : (n : Next) → x.next ≡ n → Say ws h.wishes n
  say_now n e = subst (λ k. Say ws h.wishes k) e h.say

  pub with_places : (n : ℕ) → x.next ≡ nexts.Places → SaysPlaces w n → IsSoFar (ws ++ w ∷ []) (record { next = nexts.Any; page = x.page; form = Some (forms.Decimal n); paired = x.paired; text = x.text })
  with_places n places says = record { wishes = OfForm (forms.Decimal n) ∷ h.wishes; say = says_places ws w h.wishes n (say_now nexts.Places places) says; page = h.page; form = refl; paired = h.paired; text = h.text }

  pub wanting_places : x.next ≡ nexts.Any → option_named w ≡ Some asks.Places → IsSoFar (ws ++ w ∷ []) (record { next = nexts.Places; page = x.page; form = x.form; paired = x.paired; text = x.text })
  wanting_places any is = record { wishes = h.wishes; say = wants_places ws w h.wishes (say_now nexts.Any any) is; page = h.page; form = h.form; paired = h.paired; text = h.text }

  pub with_end : x.next ≡ nexts.Any → option_named w ≡ Some asks.End → IsSoFar (ws ++ w ∷ []) (record { next = nexts.Text; page = x.page; form = x.form; paired = x.paired; text = x.text })
  with_end any is = record { wishes = h.wishes; say = ends_options ws w h.wishes (say_now nexts.Any any) is; page = h.page; form = h.form; paired = h.paired; text = h.text }

  pub with_form : (f g : Form) → g ≡ f → x.next ≡ nexts.Any → option_named w ≡ Some (asks.Form f) → IsSoFar (ws ++ w ∷ []) (record { next = x.next; page = x.page; form = Some g; paired = x.paired; text = x.text })
  with_form f g same any is = record {
    wishes = OfForm f ∷ h.wishes;
    say = subst (λ k. Say (ws ++ w ∷ []) (OfForm f ∷ h.wishes) k) (sym any) (says_form ws w h.wishes f (say_now nexts.Any any) is);
    page = h.page;
    form = ap Some same;
    paired = h.paired;
    text = h.text;
  }

  pub with_page : (p q : Page) → q ≡ p → x.next ≡ nexts.Any → option_named w ≡ Some (asks.Page p) → IsSoFar (ws ++ w ∷ []) (record { next = x.next; page = Some q; form = x.form; paired = x.paired; text = x.text })
  with_page p q same any is = record {
    wishes = OfPage p ∷ h.wishes;
    say = subst (λ k. Say (ws ++ w ∷ []) (OfPage p ∷ h.wishes) k) (sym any) (says_page ws w h.wishes p (say_now nexts.Any any) is);
    page = ap Some same;
    form = h.form;
    paired = h.paired;
    text = h.text;
  }

  pub with_lines : x.next ≡ nexts.Any → option_named w ≡ Some asks.Lines → IsSoFar (ws ++ w ∷ []) (record { next = x.next; page = x.page; form = x.form; paired = true; text = x.text })
  with_lines any is = record {
    wishes = OfLines ∷ h.wishes;
    say = subst (λ k. Say (ws ++ w ∷ []) (OfLines ∷ h.wishes) k) (sym any) (says_lines ws w h.wishes (say_now nexts.Any any) is);
    page = h.page;
    form = h.form;
    paired = refl;
    text = h.text;
  }

  pub with_number : (number : List ℕ) (n : ℕ) → x.next ≡ nexts.Any → w ≡ codes "--decimal=" ++ number → SaysPlaces number n
      → IsSoFar (ws ++ w ∷ []) (record { next = x.next; page = x.page; form = Some (forms.Decimal n); paired = x.paired; text = x.text })
  with_number number n any is says = record {
    wishes = OfForm (forms.Decimal n) ∷ h.wishes;
    say = subst (λ k. Say (ws ++ w ∷ []) (OfForm (forms.Decimal n) ∷ h.wishes) k) (sym any) (says_number ws w h.wishes number n (say_now nexts.Any any) is says);
    page = h.page;
    form = refl;
    paired = h.paired;
    text = h.text;
  }

  says_this : ((x.next ≡ nexts.Any) × (is_option w ≡ false)) ⊎ (x.next ≡ nexts.Text) → Say (ws ++ w ∷ []) (OfText w ∷ h.wishes) x.next
  says_this (inl e) = subst (λ k. Say (ws ++ w ∷ []) (OfText w ∷ h.wishes) k) (sym e.0) (says_text ws w h.wishes (say_now nexts.Any e.0) e.1)
  says_this (inr e) = subst (λ k. Say (ws ++ w ∷ []) (OfText w ∷ h.wishes) k) (sym e) (says_behind ws w h.wishes (say_now nexts.Text e))

  pub with_text : (u : Vec ℕ) → ((x.next ≡ nexts.Any) × (is_option w ≡ false)) ⊎ (x.next ≡ nexts.Text) → u.items ≡ behind_text (option_map (λ t. t.items) x.text) w
      → IsSoFar (ws ++ w ∷ []) (record { next = x.next; page = x.page; form = x.form; paired = x.paired; text = Some u })
  with_text u is is_text = record {
    wishes = OfText w ∷ h.wishes;
    say = says_this is;
    page = h.page;
    form = h.form;
    paired = h.paired;
    text = ap Some (is_text ∙ ap (λ t. behind_text t w) h.text);
  }
