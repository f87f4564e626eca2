-- The depth of tokens, one token after another.
use Rattle.std.proofs.Common.{◌≡◌, ◌≢◌, ◌<◌, ◌≤◌, ◌+◌, ℕ, Bool, true, List, [], ◌∷◌, ◌++◌, length, take, get_or, refl, ap, sym, ◌∙◌, subst, arith, append_assoc, ⊎_elim}
use Rattle.std.specs.Prelude.{nat_le, if◌then◌else◌}
use Rattle.std.proofs.lemmas.Bool.Decides.{leb_tells}
use Rattle.std.proofs.lemmas.List.{take_more}
use Rattle.ratio_expressions.specs.declared.token.Token.{Token}
use Rattle.ratio_expressions.specs.Tokens.{is_blank_at, IsCutInto, IsTokenAt, BeginsNone, IsCutTo}
use Rattle.ratio_expressions.specs.Nesting.{most_open, open_behind, open_after, greater, depth_from, depth, IsTooDeep}
use Rattle.ratio_expressions.proofs.CutLaws.{begins, inside, same_token, no_token, goes_on}

-- the greater of two numbers is at least each, and is below a bound if both are
record Greater (m n : ℕ) : Type 0 where
  left : m ≤ greater m n
  right : n ≤ greater m n
  below : (k : ℕ) → m ≤ k → n ≤ k → greater m n ≤ k

greater_is : (m n : ℕ) → Greater m n
greater_is m n =
    let P : Bool → Type 0 = λ b. (m ≤ (if b then n else m)) × (n ≤ (if b then n else m)) × ((k : ℕ) → m ≤ k → n ≤ k → (if b then n else m) ≤ k) in
    let r : P (nat_le m n) = ⊎_elim
    (λ p. subst P (sym p.0) (p.1, omega arith, λ k x y. y))
    (λ p. subst P (sym p.0) (omega arith, omega (arith, p.1), λ k x y. x))
    (leb_tells m n) in
    record { left = r.0; right = r.1; below = r.2 }

open_append : (n : ℕ) (xs ys : List Token) → open_after n (xs ++ ys) ≡ open_after (open_after n xs) ys
open_append n [] ys = refl
open_append n (x ∷ xs) ys = open_append (open_behind x.kind n) xs ys

-- at the end of the tokens no more are open than the most
open_within : (n : ℕ) (xs : List Token) → open_after n xs ≤ depth_from n xs
open_within n [] = omega arith
open_within n (x ∷ xs) = omega (arith, (greater_is n (depth_from (open_behind x.kind n) xs)).right, open_within (open_behind x.kind n) xs)

-- more tokens are at least as deep
depth_longer : (n : ℕ) (xs ys : List Token) → depth_from n xs ≤ depth_from n (xs ++ ys)
depth_longer n [] [] = omega arith
depth_longer n [] (y ∷ ys) = (greater_is n (depth_from (open_behind y.kind n) ys)).left
depth_longer n (x ∷ xs) ys =
    let m = open_behind x.kind n in
    let long = greater_is n (depth_from m (xs ++ ys)) in
    (greater_is n (depth_from m xs)).below (depth_from n (x ∷ (xs ++ ys))) long.left (omega (arith, long.right, depth_longer m xs ys))

-- one token more is no deeper than the tokens, or than what is open behind it
depth_more : (n : ℕ) (xs : List Token) (t : Token) (k : ℕ) → depth_from n xs ≤ k → open_behind t.kind (open_after n xs) ≤ k → depth_from n (xs ++ t ∷ []) ≤ k
depth_more n [] t k low high = (greater_is n (open_behind t.kind n)).below k low high
depth_more n (x ∷ xs) t k low high =
    let m = open_behind x.kind n in
    let short = greater_is n (depth_from m xs) in
    (greater_is n (depth_from m (xs ++ t ∷ []))).below k (omega (arith, low, short.left)) (depth_more m xs t k (omega (arith, low, short.right)) high)

-- what is read of a list, with one token more
module _ (tokens : List Token) (at : ℕ) (d : Token) (within : at < length tokens) where
  pub open_next : open_after 0 (take (at + 1) tokens) ≡ open_behind (get_or tokens at d).kind (open_after 0 (take at tokens))
  open_next = ap (open_after 0) (take_more tokens at d within) ∙ open_append 0 (take at tokens) (get_or tokens at d ∷ [])

  pub shallow_next : (k : ℕ) → depth (take at tokens) ≤ k → open_after 0 (take (at + 1) tokens) ≤ k → depth (take (at + 1) tokens) ≤ k
  shallow_next k low high =
      subst (λ l. depth l ≤ k) (sym (take_more tokens at d within))
      (depth_more 0 (take at tokens) (get_or tokens at d) k low (omega (arith, high, open_next)))

pub deep_open : (tokens : List Token) → open_after 0 tokens ≤ depth tokens
deep_open tokens = open_within 0 tokens

-- the first token that is too deep makes the text too deep
pub too_deep_at : (text : List ℕ) (ts : List Token) (i : ℕ) (d : Token) → i < length ts → IsCutInto text 0 (get_or ts i d).span.start (take i ts) × IsTokenAt text (get_or ts i d) → depth (take i ts) ≤ most_open → most_open < depth (take (i + 1) ts) → IsTooDeep text (get_or ts i d).span.start
too_deep_at text ts i d h front before deep = record {
  tokens = take i ts;
  token = get_or ts i d;
  cut = front.0;
  here = front.1;
  place = refl;
  before = before;
  deep = subst (λ l. most_open < depth l) (take_more ts i d h) deep;
}

-- tokens that are not too deep have no place before their end that is
earlier : (text : List ℕ) (to : ℕ) (ts : List Token) → IsCutInto text 0 to ts → depth ts ≤ most_open → (at : ℕ) (r : IsTooDeep text at) → at < to → ⊥
earlier text to ts cut shallow at r later =
    let no_space : is_blank_at text at ≢ true = λ e. begins text r.token r.here (ap (is_blank_at text) r.place ∙ e) in
    let on = goes_on text at to later no_space 0 r.tokens ts r.cut cut in
    let same : on.token ≡ r.token = same_token text on.token r.token (on.place ∙ sym r.place) on.here r.here in
    let split : ts ≡ (r.tokens ++ r.token ∷ []) ++ on.rest = on.split ∙ ap (λ (v : Token). r.tokens ++ (v ∷ on.rest)) same ∙ sym (append_assoc r.tokens (r.token ∷ []) on.rest) in
    omega (arith, r.deep, shallow, ap depth split, depth_longer 0 (r.tokens ++ r.token ∷ []) on.rest)

-- a text is too deep at one place
pub one_too_deep : (text : List ℕ) (at other : ℕ) → IsTooDeep text at → IsTooDeep text other → at ≡ other
one_too_deep text at other r q = ⊎_elim
    (λ p. ⊎_elim
    (λ s. omega (arith, p.1, s.1))
    (λ s. absurd (earlier text at r.tokens r.cut r.before other q s.1))
    (leb_tells at other))
    (λ p. absurd (earlier text other q.tokens q.cut q.before at r p.1))
    (leb_tells other at)

module _ (text : List ℕ) (to : ℕ) (ts : List Token) (cut : IsCutTo text to ts) (shallow : depth ts ≤ most_open) where
  -- at the end of the tokens and behind it
  later_on : (at : ℕ) (r : IsTooDeep text at) → to ≤ at → ⊥
  later_on at r late =
      let short = inside text r.token r.here in
      let stop : BeginsNone text to = cut.stop (λ e. omega (arith, e, short, r.place, late)) in
      ⊎_elim
      (λ p. no_token text to r.token r.here stop.none (omega (arith, p.1, late, r.place)))
      (λ p.
      let on = goes_on text to at p.1 stop.no_space 0 ts r.tokens cut.cut r.cut in
      no_token text to on.token on.here stop.none on.place)
      (leb_tells at to)

  -- a text whose tokens are not too deep is too deep at no place
  pub not_too_deep : (at : ℕ) → IsTooDeep text at → ⊥
  not_too_deep at r = ⊎_elim (λ p. later_on at r p.1) (λ p. earlier text to ts cut.cut shallow at r p.1) (leb_tells to at)

-- what is too deep is in the text
pub too_deep_within : (text : List ℕ) (at : ℕ) → IsTooDeep text at → at ≤ length text
too_deep_within text at r = omega (arith, inside text r.token r.here, r.place)
