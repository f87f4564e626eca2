-- A text without a tree is refused, at a place in it.
use Rattle.std.proofs.Common.{◌≡◌, ◌≤◌, ℕ, List, length, ap, sym, subst, inl, inr, ⊎_elim}
use Rattle.ratio_expressions.specs.declared.refusal.Refusal.{Refusal}
use Rattle.ratio_expressions.specs.declared.refusal.Reason.{Reason}
use Rattle.ratio_expressions.specs.declared.refusal.Reason.TheVariants.{NoExpression, TooDeep}
use Rattle.ratio_expressions.specs.declared.refusal.ValueError.TheVariants.{Refused}
use Rattle.ratio_expressions.specs.Answers.{IsUnread}
use Rattle.ratio_expressions.specs.Expression.{IsRefusal}
use Rattle.ratio_expressions.specs.Nesting.{IsShallow, IsTooDeep}
use Rattle.ratio_expressions.proofs.DepthLaws.{too_deep_within}
use Rattle.ratio_expressions.proofs.Refusals.{refusal_within}

-- the place of a refusal that was made for an error
place_of : (reason : Reason) (place : ℕ) (r : Refusal) → Refused (record { reason = reason; place = place }) ≡ Refused r → place ≡ r.place
place_of reason place r e =
    let made : Refusal = record { reason = reason; place = place } in
    let same : made ≡ r = cc in
    ap (λ (q : Refusal). q.place) same

-- its reason
reason_of : (reason : Reason) (place : ℕ) (r : Refusal) → Refused (record { reason = reason; place = place }) ≡ Refused r → r.reason ≡ reason
reason_of reason place r e =
    let made : Refusal = record { reason = reason; place = place } in
    let same : made ≡ r = cc in
    sym (ap (λ (q : Refusal). q.reason) same)

pub unread_deep : (text : List ℕ) (place : ℕ) (r : Refusal) → Refused (record { reason = TooDeep; place = place }) ≡ Refused r → IsTooDeep text place → IsUnread text r
unread_deep text place r e deep = inl (reason_of TooDeep place r e, subst (IsTooDeep text) (place_of TooDeep place r e) deep)

pub unread_at : (text : List ℕ) (place : ℕ) (r : Refusal) → Refused (record { reason = NoExpression; place = place }) ≡ Refused r → IsShallow text → IsRefusal text place → IsUnread text r
unread_at text place r e shallow refusal = inr (reason_of NoExpression place r e, shallow, subst (IsRefusal text) (place_of NoExpression place r e) refusal)

pub unread_within : (text : List ℕ) (r : Refusal) → IsUnread text r → r.place ≤ length text
unread_within text r h = ⊎_elim (λ p. too_deep_within text r.place p.1) (λ p. refusal_within text r.place p.2) h
