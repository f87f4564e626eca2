-- A text that is cut up to a place is cut up to a later one.
use Rattle.std.proofs.Common.{◌≡◌, ◌≤◌, ◌+◌, ℕ, List, [], ◌∷◌, ◌++◌, length, true, Some, refl, sym, ◌∙◌, subst, arith, ⊎_elim}
use Rattle.std.proofs.lemmas.Bool.Decides.{leb_tells}
use Rattle.ratio_expressions.specs.declared.token.Token.{Token}
use Rattle.ratio_expressions.specs.declared.token.Kind.{Kind}
use Rattle.ratio_expressions.specs.Tokens.{token_at, is_blank_at, BeginsWithToken, IsBlank, IsTokenAt, IsCutInto}

blank_on : (text : List ℕ) (from to : ℕ) → IsBlank text from to → is_blank_at text to ≡ true → IsBlank text from (to + 1)
blank_on text from to b e = record {
  ordered = omega (arith, b.ordered);
  spaces = λ k low high. ⊎_elim
      (λ p. let here : to ≡ k = omega arith in subst (λ n. is_blank_at text n ≡ true) here e)
      (λ p. b.spaces k low p.1)
      (leb_tells to k);
}

-- one blank byte more
pub blank_more : (text : List ℕ) (from to : ℕ) (ts : List Token) → IsCutInto text from to ts → is_blank_at text to ≡ true → IsCutInto text from (to + 1) ts
blank_more text from to [] h e = blank_on text from to h e
blank_more text from to (t ∷ ts) h e = (h.0, h.1, blank_more text t.span.end to ts h.2 e)

-- one token more
pub token_more : (text : List ℕ) (from to : ℕ) (ts : List Token) (t : Token) → IsCutInto text from to ts → t.span.start ≡ to → IsTokenAt text t → IsCutInto text from t.span.end (ts ++ t ∷ [])
token_more text from to [] t h e new =
    (subst (λ n. IsBlank text from n) (sym e) h, new, record { ordered = omega arith; spaces = λ k low high. absurd (omega arith) })
token_more text from to (u ∷ us) t h e new = (h.0, h.1, token_more text u.span.end to us t h.2 e new)

-- a text with a token behind others begins with one
pub begins_before : (text : List ℕ) (at : ℕ) (ts : List Token) (t : Token) → IsCutInto text 0 at ts → t.span.start ≡ at → IsTokenAt text t → BeginsWithToken text
begins_before text at [] t h e here = record { token = t; blank = subst (λ n. IsBlank text 0 n) (sym e) h; here = here }
begins_before text at (u ∷ us) t h e here = record { token = u; blank = h.0; here = h.1 }

-- the token that begins at a place is in the text
pub token_here : (text : List ℕ) (at long : ℕ) (kind : Kind) → Some (kind, long) ≡ token_at text at → at + long ≤ length text → IsTokenAt text (record { kind = kind; span = record { start = at; end = at + long } })
token_here text at long kind e fits = record { long = long; end = refl; within = fits; first = sym e }
