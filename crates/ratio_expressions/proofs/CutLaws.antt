-- A text is cut into tokens in one way, and a text in which a place begins no token is cut in none.
use Rattle.std.proofs.Common.{◌≡◌, ◌≢◌, ◌<◌, ◌≤◌, ◌+◌, ◌⊎◌, ℕ, Bool, true, List, [], ◌∷◌, ◌++◌, length, drop, Some, None, refl, ap, sym, ◌∙◌, subst, arith, ⊎_elim, Option, false}
use Rattle.std.specs.Prelude.{option_map, slice_index, if◌then◌else◌}
use Rattle.std.proofs.lemmas.Bool.Decides.{leb_tells, nat_tests}
use Rattle.std.proofs.lemmas.List.{get_or-drop, drop_all}
use Rattle.ratio_expressions.specs.declared.token.Kind.{Kind}
use Rattle.ratio_expressions.specs.declared.token.Token.{Token}
use Rattle.ratio_expressions.specs.Tokens.{first_token, is_loose_percent, is_behind_slash, is_blank_at, is_blank_byte, spaced_at, token_at, number, plain_number, name, symbol, digits, led, IsBlank, IsTokenAt, IsCutInto, BeginsNone, BeginsWithToken}
use Rattle.ratio_expressions.specs.Vulgar.{vulgar, vulgar_length}

-- a blank byte is a space or a tab
space_or_tab : (b : ℕ) → is_blank_byte b ≡ true → (b ≡ 32) ⊎ (b ≡ 9)
space_or_tab b e = grind (arith, nat_tests)

-- no token begins with a space or a tab
space_first : (slash : Bool) (rest : List ℕ) → first_token slash (32 ∷ rest) ≡ None
unfolding number plain_number name symbol digits led vulgar vulgar_length
space_first slash rest = refl

tab_first : (slash : Bool) (rest : List ℕ) → first_token slash (9 ∷ rest) ≡ None
unfolding number plain_number name symbol digits led vulgar vulgar_length
tab_first slash rest = refl

blank_first : (slash : Bool) (b : ℕ) (rest : List ℕ) → is_blank_byte b ≡ true → first_token slash (b ∷ rest) ≡ None
blank_first slash b rest e = ⊎_elim
    (λ p. ap (λ x. first_token slash (x ∷ rest)) p ∙ space_first slash rest)
    (λ p. ap (λ x. first_token slash (x ∷ rest)) p ∙ tab_first slash rest)
    (space_or_tab b e)

at_blank : (slash : Bool) (text : List ℕ) → is_blank_byte (slice_index text 0) ≡ true → first_token slash text ≡ None
at_blank slash [] e = absurd (cc)
at_blank slash (b ∷ rest) e = blank_first slash b rest e

nothing_first : (slash : Bool) → first_token slash [] ≡ None
unfolding number plain_number name symbol digits led vulgar vulgar_length
nothing_first slash = refl

none_or : {A : Type 0} (b : Bool) (o : Option A) → o ≡ None → (if b then None else o) ≡ None
none_or true o e = refl
none_or false o e = e

-- where the rest begins with no token, no token is
none_at : (text : List ℕ) (at : ℕ) → first_token (is_behind_slash text at) (drop at text) ≡ None → token_at text at ≡ None
none_at text at e = none_or (is_loose_percent text at) _ (ap (option_map (spaced_at text at)) e)

module _ (text : List ℕ) (t : Token) (h : IsTokenAt text t) where
  -- a token begins with no blank byte, and before the end
  pub begins : is_blank_at text t.span.start ≢ true
  begins e =
      let whole : t.span.start ≡ t.span.start + 0 = omega arith in
      let here : is_blank_byte (slice_index (drop t.span.start text) 0) ≡ true = ap is_blank_byte (get_or-drop t.span.start text 0 0 ∙ ap (slice_index text) (sym whole)) ∙ e in
      let none = none_at text t.span.start (at_blank (is_behind_slash text t.span.start) (drop t.span.start text) here) in
      let some = h.first in
      cc

  pub inside : t.span.start < length text
  inside = ⊎_elim
      (λ p.
      let slash = is_behind_slash text t.span.start in
      let none = none_at text t.span.start (ap (first_token slash) (drop_all t.span.start text p.1) ∙ nothing_first slash) in
      let some = h.first in
      absurd (cc))
      (λ p. p.1)
      (leb_tells (length text) t.span.start)

-- what begins a token isn't in a blank
not_before : (text : List ℕ) (from to : ℕ) (t : Token) → IsBlank text from to → IsTokenAt text t → from ≤ t.span.start → to ≤ t.span.start
not_before text from to t b h low = ⊎_elim
    (λ p. p.1)
    (λ p. absurd (begins text t h (b.spaces t.span.start low p.1)))
    (leb_tells to t.span.start)

same_start : (text : List ℕ) (from : ℕ) (t u : Token) → IsBlank text from t.span.start → IsTokenAt text t → IsBlank text from u.span.start → IsTokenAt text u → t.span.start ≡ u.span.start
same_start text from t u bt ht bu hu = omega (arith, not_before text from t.span.start u bt hu bu.ordered, not_before text from u.span.start t bu ht bt.ordered)

made : Kind → ℕ → ℕ → Token
made kind start end = record { kind = kind; span = record { start = start; end = end } }

same_made : (k l : Kind) (m n i j : ℕ) → k ≡ l → m ≡ n → i ≡ j → made k m i ≡ made l n j
same_made k l m n i j p q r = ap (λ x. made x m i) p ∙ ap (λ x. made l x i) q ∙ ap (λ x. made l n x) r

pub same_token : (text : List ℕ) (t u : Token) → t.span.start ≡ u.span.start → IsTokenAt text t → IsTokenAt text u → t ≡ u
unfolding made
same_token text t u e ht hu =
    let p : Kind × ℕ = (t.kind, ht.long) in
    let q : Kind × ℕ = (u.kind, hu.long) in
    let both : Some p ≡ Some q = sym ht.first ∙ ap (token_at text) e ∙ hu.first in
    let pair : p ≡ q = cc in
    let kinds : t.kind ≡ u.kind = ap (λ (x : Kind × ℕ). x.0) pair in
    let long : ht.long ≡ hu.long = ap (λ (x : Kind × ℕ). x.1) pair in
    let end : t.span.end ≡ u.span.end = omega (arith, ht.end, hu.end) in
    same_made t.kind u.kind t.span.start u.span.start t.span.end u.span.end kinds e end

first_same : (text : List ℕ) (from : ℕ) (t u : Token) → IsBlank text from t.span.start → IsTokenAt text t → IsBlank text from u.span.start → IsTokenAt text u → t ≡ u
first_same text from t u bt ht bu hu = same_token text t u (same_start text from t u bt ht bu hu) ht hu

-- a cut goes forward
pub cut_ordered : (text : List ℕ) (from to : ℕ) (ts : List Token) → IsCutInto text from to ts → from ≤ to
cut_ordered text from to [] h = h.ordered
cut_ordered text from to (t ∷ ts) h = omega (arith, h.0.ordered, h.1.end, cut_ordered text t.span.end to ts h.2)

module _ (text : List ℕ) (at : ℕ) (none : (t : Token) → IsTokenAt text t → t.span.start ≡ at → ⊥) where
  none_behind : (from : ℕ) (t : Token) (ts : List Token) → IsBlank text from at → IsCutInto text from at (t ∷ ts) → ⊥
  none_behind from t ts h g = none t g.1 (omega (arith, not_before text from at t h g.1 g.0.ordered, g.1.end, cut_ordered text t.span.end at ts g.2))

  -- up to a place where no token begins, a text is cut into tokens in one way
  pub one_cut_to : (from : ℕ) (ts us : List Token) → IsCutInto text from at ts → IsCutInto text from at us → ts ≡ us
  one_cut_to from [] [] h g = refl
  one_cut_to from [] (u ∷ us) h g = absurd (none_behind from u us h g)
  one_cut_to from (t ∷ ts) [] h g = absurd (none_behind from t ts g h)
  one_cut_to from (t ∷ ts) (u ∷ us) h g =
      let e = first_same text from t u h.0 h.1 g.0 g.1 in
      let rest = one_cut_to u.span.end ts us (subst (λ (v : Token). IsCutInto text v.span.end at ts) e h.2) g.2 in
      cc

-- a text is cut into tokens in one way
pub one_cut : (text : List ℕ) (from : ℕ) (ts us : List Token) → IsCutInto text from (length text) ts → IsCutInto text from (length text) us → ts ≡ us
one_cut text from ts us h g = one_cut_to text (length text) (λ t here e. omega (arith, inside text t here, e)) from ts us h g

-- a token is where one begins
pub no_token : (text : List ℕ) (at : ℕ) (t : Token) → IsTokenAt text t → token_at text at ≡ None → t.span.start ≡ at → ⊥
no_token text at t h none e = let here = ap (token_at text) e in let some = h.first in cc

module _ (text : List ℕ) (at : ℕ) (s : BeginsNone text at) where
  no_cut_from : (from : ℕ) (ts us : List Token) → IsCutInto text from at ts → IsCutInto text from (length text) us → ⊥
  no_cut_from from [] [] h g = s.no_space (g.spaces at h.ordered s.within)
  no_cut_from from [] (u ∷ us) h g =
      ⊎_elim
      (λ p. no_token text at u g.1 s.none (omega (arith, p.1, not_before text from at u h g.1 g.0.ordered)))
      (λ p. s.no_space (g.0.spaces at h.ordered p.1))
      (leb_tells u.span.start at)
  no_cut_from from (t ∷ ts) [] h g = absurd (omega (arith, inside text t h.1, not_before text from (length text) t g h.1 h.0.ordered))
  no_cut_from from (t ∷ ts) (u ∷ us) h g =
      let e = first_same text from t u h.0 h.1 g.0 g.1 in
      no_cut_from u.span.end ts us (subst (λ (v : Token). IsCutInto text v.span.end at ts) e h.2) g.2

-- a text in which a place begins no token isn't cut into tokens
pub no_cut : (text : List ℕ) (at : ℕ) (ts : List Token) → IsCutInto text 0 at ts → BeginsNone text at → (us : List Token) → ¬ IsCutInto text 0 (length text) us
no_cut text at ts cut s us g = no_cut_from text at s 0 ts us cut g

-- tokens that go on behind others, by a token at this place
pub record GoesOn (text : List ℕ) (at : ℕ) (ts us : List Token) : Type 0 where
  pub token : Token
  pub rest : List Token
  pub split : us ≡ ts ++ (token ∷ rest)
  pub here : IsTokenAt text token
  pub place : token.span.start ≡ at

module _ (text : List ℕ) (at to : ℕ) (later : at < to) (no_space : is_blank_at text at ≢ true) where
  -- a longer cut has the tokens of a shorter one, and then one at its end, if no space is there
  pub goes_on : (from : ℕ) (ts us : List Token) → IsCutInto text from at ts → IsCutInto text from to us → GoesOn text at ts us
  goes_on from [] [] h g = absurd (no_space (g.spaces at h.ordered later))
  goes_on from [] (u ∷ us) h g =
      let low : at ≤ u.span.start = not_before text from at u h g.1 g.0.ordered in
      let here : u.span.start ≡ at = ⊎_elim (λ p. omega (arith, low, p.1)) (λ p. absurd (no_space (g.0.spaces at h.ordered p.1))) (leb_tells u.span.start at) in
      record { token = u; rest = us; split = refl; here = g.1; place = here }
  goes_on from (t ∷ ts) [] h g =
      absurd (omega (arith, later, h.1.end, cut_ordered text t.span.end at ts h.2, not_before text from to t g h.1 h.0.ordered))
  goes_on from (t ∷ ts) (u ∷ us) h g =
      let e = first_same text from t u h.0 h.1 g.0 g.1 in
      let r = goes_on u.span.end ts us (subst (λ (v : Token). IsCutInto text v.span.end at ts) e h.2) g.2 in
      record { token = r.token; rest = r.rest; split = ap (λ l. u ∷ l) r.split ∙ ap (λ (v : Token). v ∷ (ts ++ (r.token ∷ r.rest))) (sym e); here = r.here; place = r.place }

-- a text with tokens begins with the first one
pub first_begins : (text : List ℕ) (to : ℕ) (ts : List Token) → IsCutInto text 0 to ts → 0 < length ts → BeginsWithToken text
first_begins text to [] h some = absurd (omega arith)
first_begins text to (t ∷ ts) h some = record { token = t; blank = h.0; here = h.1 }
