use Rattle.std.proofs.Common.{◌≡◌, ◌∙◌, ℕ, sym, ap, List, ◌++◌, take, drop, length}
use Rattle.std.proofs.Math.Seq.{drop-append_seam, take-append_seam}
use Rattle.ratio_laws.proofs.reduced.hashes.Goals as goal

parts : (xs ys us vs : List (List ℕ)) → length xs ≡ length us → xs ++ ys ≡ us ++ vs → (xs ≡ us) × (ys ≡ vs)
parts xs ys us vs long same = (
  sym (take-append_seam xs ys) ∙ ap (take (length xs)) same ∙ ap (λ n. take n (us ++ vs)) long ∙ take-append_seam us vs,
  sym (drop-append_seam xs ys) ∙ ap (drop (length xs)) same ∙ ap (λ n. drop n (us ++ vs)) long ∙ drop-append_seam us vs,
)

pub returns : goal.returns
returns g c = λ told same.
    let n = rw c.numer.ensures.value at c.both_held.ensures.first in
    let d = rw c.denom.ensures.value at c.both_held.ensures.second in
    let m = rw c.numer-2.ensures.value at c.both_held-2.ensures.first in
    let e = rw c.denom-2.ensures.value at c.both_held-2.ensures.second in
    let both = parts _ _ _ _ (told.long _ n ∙ sym (told.long _ m)) same in
    (told.apart _ _ n m both.0, told.apart _ _ d e both.1)
