use Rattle.std.proofs.Common.{◌≡◌, ◌≤◌, ◌<◌, ◌∙◌, [], length, get_or, append-nil, ap, sym, subst, arith}
use Rattle.ratio_expressions.specs.declared.token.Token.{Token}
use Rattle.ratio_expressions.specs.declared.refusal.ValueError.TheVariants.{Refused}
use Rattle.std.proofs.lemmas.Bool.Decides.{nat_tests}
use Rattle.ratio_expressions.specs.Grammar.{HasTree, IsBegun}
use Rattle.ratio_expressions.specs.Tokens.{IsCutTo}
use Rattle.ratio_expressions.specs.Expression.{IsRefusal}
use Rattle.ratio_expressions.proofs.Refusals.{refused_none, refused_token, refused_past, front_cut}
use Rattle.ratio_expressions.proofs.DepthLaws.{too_deep_at, not_too_deep}
use Rattle.ratio_expressions.proofs.Unread.{unread_at, unread_deep, unread_within}
use Rattle.ratio_expressions.specs.Nesting.{IsTooDeep, depth, most_open}
use Rattle.ratio_expressions.proofs.CutLaws.{first_begins}
use Rattle.ratio_expressions.proofs.expression.tree_of.Goals as goal

pub returns-in-Some-clause-refusal : goal.returns-in-Some-clause-refusal
returns-in-Some-clause-refusal c = λ r e.
    let text = c.args.text.now in
    let ts = c.deref.result.now in
    let i = c.in-Some.deep in
    let d : Token = c.index.result.now in
    let to = c.in_ok-cut.cut.end in
    let cut : IsCutTo text to ts = subst (λ l. IsCutTo text to l) (sym c.deref.ensures.value) c.in_ok-cut.ensures.cut in
    let within : i < length ts = c.in-Some.ensures.within in
    let token : get_or ts i d ≡ d = ap (λ l. get_or l i d) c.deref.ensures.value ∙ sym c.index.ensures in
    let made : c.refused.result ≡ Refused r = cc in
    unread_deep text d.span.start r (sym c.refused.ensures ∙ made)
    (subst (λ n. IsTooDeep text n) (ap (λ (t : Token). t.span.start) token)
    (too_deep_at text ts i d within (front_cut text 0 to ts i d within cut.cut) c.in-Some.ensures.before c.in-Some.ensures.deep))

pub returns-in-Some-clause-within : goal.returns-in-Some-clause-within
returns-in-Some-clause-within c = λ r e. unread_within c.args.text.now r (returns-in-Some-clause-refusal c r e)

pub returns-then-cut-text-clause-shallow : goal.returns-then-cut-text-clause-shallow
returns-then-cut-text-clause-shallow c = λ ok at. not_too_deep c.args.text.now c.in_ok-cut.cut.end c.in_ok-cut.cut.tokens.items c.in_ok-cut.ensures.cut (subst (λ l. depth l ≤ most_open) c.deref.ensures.value (c.in_default.ensures.shallow (cc))) at

pub returns-in-Ok-clause-refusal : goal.returns-in-Ok-clause-refusal
returns-in-Ok-clause-refusal c = λ r e.
    let text = c.args.text.now in
    let ts = c.deref-2.result.now in
    let to = c.in_ok-cut.cut.end in
    let cut : IsCutTo text to ts = subst (λ l. IsCutTo text to l) (sym c.deref-2.ensures.value) c.in_ok-cut.ensures.cut in
    let found = c.in-Ok.ensures.found in
    let begun : IsBegun ts = record { more = []; tree = found.0; has = subst (λ l. HasTree l found.0) (sym (append-nil ts)) found.1 } in
    let made : c.refused-else-cut-text.result ≡ Refused r = cc in
    unread_at text to r (sym c.refused-else-cut-text.ensures ∙ made)
    (λ at. not_too_deep text to c.in_ok-cut.cut.tokens.items c.in_ok-cut.ensures.cut (subst (λ l. depth l ≤ most_open) c.deref.ensures.value (c.in_default.ensures.shallow (cc))) at)
    (refused_none text to ts cut (λ whole. grind (arith, nat_tests)) begun)

pub returns-in-Err-RefusedToken-clause-refusal : goal.returns-in-Err-RefusedToken-clause-refusal
returns-in-Err-RefusedToken-clause-refusal c = λ r e.
    let text = c.args.text.now in
    let ts = c.deref-2.result.now in
    let to = c.in_ok-cut.cut.end in
    let i = c.in-Err-RefusedToken.at in
    let cut : IsCutTo text to ts = subst (λ l. IsCutTo text to l) (sym c.deref-2.ensures.value) c.in_ok-cut.ensures.cut in
    let past : length ts ≤ i = omega arith in
    let made : c.refused-else-at-len.result ≡ Refused r = cc in
    unread_at text to r (sym c.refused-else-at-len.ensures ∙ made)
    (λ at. not_too_deep text to c.in_ok-cut.cut.tokens.items c.in_ok-cut.ensures.cut (subst (λ l. depth l ≤ most_open) c.deref.ensures.value (c.in_default.ensures.shallow (cc))) at)
    (refused_past text to ts i cut past (c.in-Err-RefusedToken.ensures.begun i (cc)) (c.in-Err-RefusedToken.ensures.unfinished i (cc) past))

pub returns-then-at-len-clause-refusal : goal.returns-then-at-len-clause-refusal
returns-then-at-len-clause-refusal c = λ r e.
    let text = c.args.text.now in
    let ts = c.deref-2.result.now in
    let i = c.in-Err-RefusedToken.at in
    let d : Token = c.index-then-at-len.result.now in
    let cut : IsCutTo text c.in_ok-cut.cut.end ts = subst (λ l. IsCutTo text c.in_ok-cut.cut.end l) (sym c.deref-2.ensures.value) c.in_ok-cut.ensures.cut in
    let within : i < length ts = omega arith in
    let token : get_or ts i d ≡ d = ap (λ l. get_or l i d) c.deref-2.ensures.value ∙ sym c.index-then-at-len.ensures in
    let made : c.refused-then-at-len.result ≡ Refused r = cc in
    unread_at text d.span.start r (sym c.refused-then-at-len.ensures ∙ made)
    (λ at. not_too_deep text c.in_ok-cut.cut.end c.in_ok-cut.cut.tokens.items c.in_ok-cut.ensures.cut (subst (λ l. depth l ≤ most_open) c.deref.ensures.value (c.in_default.ensures.shallow (cc))) at)
    (subst (λ n. IsRefusal text n) (ap (λ (t : Token). t.span.start) token) (refused_token text c.in_ok-cut.cut.end ts i d within cut.cut (c.in-Err-RefusedToken.ensures.begun i (cc)) (c.in-Err-RefusedToken.ensures.stopped i (cc) within)))

pub returns-then-at-len-clause-within : goal.returns-then-at-len-clause-within
returns-then-at-len-clause-within c = λ r e. unread_within c.args.text.now r (returns-then-at-len-clause-refusal c r e)

pub returns-clause-memory : goal.returns-clause-memory
returns-clause-memory c = λ e.
    let text = c.args.text.now in
    let ts = c.deref-2.result.now in
    let cut : IsCutTo text c.in_ok-cut.cut.end ts = subst (λ l. IsCutTo text c.in_ok-cut.cut.end l) (sym c.deref-2.ensures.value) c.in_ok-cut.ensures.cut in
    first_begins text c.in_ok-cut.cut.end ts cut.cut (c.in-Err-Memory.ensures.memory (cc))
