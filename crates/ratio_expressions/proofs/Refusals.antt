-- A text is refused where its tokens are.
use Rattle.std.proofs.Common.{◌≡◌, ◌≢◌, ◌<◌, ◌≤◌, ◌+◌, ℕ, true, zero, suc, List, [], ◌∷◌, ◌++◌, length, take, get_or, refl, ap, sym, ◌∙◌, subst, arith, inl, inr, ⊎_elim, append_assoc}
use Rattle.std.proofs.lemmas.Bool.Decides.{leb_tells}
use Rattle.std.proofs.lemmas.List.{take_more, append-nil, take_all}
use Rattle.ratio_expressions.specs.declared.token.Token.{Token}
use Rattle.ratio_expressions.specs.Grammar.{Tree, HasTree, IsBegun}
use Rattle.ratio_expressions.specs.Tokens.{is_blank_at, IsCutInto, IsTokenAt, BeginsNone, IsCutTo}
use Rattle.ratio_expressions.specs.Expression.{IsExpression, IsRefusal}
use Rattle.ratio_expressions.proofs.CutLaws.{one_cut, begins, inside, same_token, no_token, goes_on}
use Rattle.ratio_expressions.proofs.ParserLaws.{one_of_tokens}
use Rattle.ratio_expressions.proofs.Soundness.{shorter}

-- the front of a cut
pub front_cut : (text : List ℕ) (from to : ℕ) (ts : List Token) (i : ℕ) (d : Token) → i < length ts → IsCutInto text from to ts → IsCutInto text from (get_or ts i d).span.start (take i ts) × IsTokenAt text (get_or ts i d)
front_cut text from to [] i d h cut = absurd (omega arith)
front_cut text from to (t ∷ ts) zero d h cut = (cut.0, cut.1)
front_cut text from to (t ∷ ts) (suc i) d h cut =
    let rest = front_cut text t.span.end to ts i d (omega arith) cut.2 in
    ((cut.0, cut.1, rest.0), rest.1)

-- a token is refused
pub refused_token : (text : List ℕ) (to : ℕ) (ts : List Token) (i : ℕ) (d : Token) → i < length ts → IsCutInto text 0 to ts → IsBegun (take i ts) → (IsBegun (take (i + 1) ts) → ⊥) → IsRefusal text (get_or ts i d).span.start
refused_token text to ts i d h cut begun stopped =
    let front = front_cut text 0 to ts i d h cut in
    record {
      tokens = take i ts;
      cut = front.0;
      begun = begun;
      refuses = inl (get_or ts i d, front.1, refl, λ b. stopped (subst IsBegun (sym (take_more ts i d h)) b));
    }

-- the place where the text is cut no further is refused
pub refused_none : (text : List ℕ) (to : ℕ) (ts : List Token) → IsCutTo text to ts → to ≢ length text → IsBegun ts → IsRefusal text to
refused_none text to ts cut other begun = record { tokens = ts; cut = cut.cut; begun = begun; refuses = inr (inl (cut.stop other)) }

-- the end is refused
pub refused_end_of : (text : List ℕ) (to : ℕ) (ts : List Token) → IsCutTo text to ts → to ≡ length text → IsBegun ts → ((t : Tree) → HasTree ts t → ⊥) → IsRefusal text to
refused_end_of text to ts cut same begun none = record { tokens = ts; cut = cut.cut; begun = begun; refuses = inr (inr (same, none)) }

pub begun_whole : (ts : List Token) (t : Tree) → HasTree ts t → IsBegun ts
begun_whole ts t h = record { more = []; tree = t; has = record { spelled = h.spelled ∙ sym (append-nil ts); single = h.single; proper = h.proper } }

pub begun_past : (ts : List Token) (i : ℕ) → length ts ≤ i → IsBegun (take i ts) → IsBegun ts
begun_past ts i h b = subst IsBegun (take_all i ts h) b

-- all tokens are read, and then the text is refused
pub refused_past : (text : List ℕ) (to : ℕ) (ts : List Token) (i : ℕ) → IsCutTo text to ts → length ts ≤ i → IsBegun (take i ts) → ((t : Tree) → HasTree ts t → ⊥) → IsRefusal text to
refused_past text to ts i cut past begun none =
    let whole = begun_past ts i past begun in
    ⊎_elim
    (λ p. ⊎_elim
    (λ q. refused_end_of text to ts cut (omega (arith, p.1, q.1)) whole none)
    (λ q. refused_none text to ts cut (omega (arith, q.1)) whole)
    (leb_tells (length text) to))
    (λ p. refused_none text to ts cut (omega (arith, p.1)) whole)
    (leb_tells to (length text))

-- a text has at most one tree
pub one_of_text : (text : List ℕ) (t u : Tree) → IsExpression text t → IsExpression text u → t ≡ u
one_of_text text t u p q =
    one_of_tokens q.tokens t u (subst (λ ts. HasTree ts t) (one_cut text 0 p.tokens q.tokens p.cut q.cut) p.has) q.has

-- a refused place is in the text, or at its end
pub refusal_within : (text : List ℕ) (at : ℕ) → IsRefusal text at → at ≤ length text
refusal_within text at r = ⊎_elim
    (λ p. omega (arith, inside text p.0 p.1, p.2))
    (λ q. ⊎_elim (λ (p : BeginsNone text at). omega (arith, p.within)) (λ p. omega (arith, p.0)) q)
    r.refuses

-- no cut beyond a refused place begins an expression
beyond : (text : List ℕ) (at to : ℕ) (us : List Token) → IsRefusal text at → at < to → to ≤ length text → IsCutInto text 0 to us → IsBegun us → ⊥
beyond text at to us r later short cut begun = ⊎_elim
    (λ p.
    let t : Token = p.0 in
    let no_space : is_blank_at text at ≢ true = λ e. begins text t p.1 (ap (is_blank_at text) p.2 ∙ e) in
    let on = goes_on text at to later no_space 0 r.tokens us r.cut cut in
    let same : on.token ≡ t = same_token text on.token t (on.place ∙ sym p.2) on.here p.1 in
    let split : us ≡ (r.tokens ++ t ∷ []) ++ on.rest = on.split ∙ ap (λ (v : Token). r.tokens ++ (v ∷ on.rest)) same ∙ sym (append_assoc r.tokens (t ∷ []) on.rest) in
    p.3 (shorter (r.tokens ++ t ∷ []) on.rest (subst IsBegun split begun)))
    (λ q. ⊎_elim
    (λ (p : BeginsNone text at).
    let on = goes_on text at to later p.no_space 0 r.tokens us r.cut cut in
    no_token text at on.token on.here p.none on.place)
    (λ p. absurd (omega (arith, later, short, p.0)))
    q)
    r.refuses

-- a text is refused at one place
pub one_refusal : (text : List ℕ) (at other : ℕ) → IsRefusal text at → IsRefusal text other → at ≡ other
one_refusal text at other r q = ⊎_elim
    (λ p. ⊎_elim
    (λ s. omega (arith, p.1, s.1))
    (λ s. absurd (beyond text other at r.tokens q s.1 (refusal_within text at r) r.cut r.begun))
    (leb_tells at other))
    (λ p. absurd (beyond text at other q.tokens r p.1 (refusal_within text other q) q.cut q.begun))
    (leb_tells other at)

-- a text that is refused has no tree
pub refusal_no_tree : (text : List ℕ) (at : ℕ) (t : Tree) → IsRefusal text at → IsExpression text t → ⊥
refusal_no_tree text at t r e =
    let begun : IsBegun e.tokens = begun_whole e.tokens t e.has in
    let past : at < length text → ⊥ = λ later. beyond text at (length text) e.tokens r later (omega arith) e.cut begun in
    ⊎_elim
    (λ p. past (omega (arith, inside text p.0 p.1, p.2)))
    (λ q. ⊎_elim
    (λ (p : BeginsNone text at). past p.within)
    (λ p. p.1 t (subst (λ ts. HasTree ts t) (sym (one_cut text 0 r.tokens e.tokens (subst (λ n. IsCutInto text 0 n r.tokens) p.0 r.cut) e.cut)) e.has))
    q)
    r.refuses
