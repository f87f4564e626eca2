use Rattle.std.proofs.Common.{◌+◌, refl, sym, ◌∙◌, subst, arith}
use Rattle.ratio_expressions.specs.declared.token.Token.{Token}
use Rattle.ratio_expressions.specs.Tokens.{IsCutInto, IsTokenAt}
use Rattle.ratio_expressions.proofs.Cuts.{begins_before, blank_more, token_more, token_here}
use Rattle.ratio_expressions.proofs.lexer.tokens.Goals as goal

pub loop-at-preserved-then-blank_at : goal.loop-at-preserved-then-blank_at
loop-at-preserved-then-blank_at c = record { within = omega arith; cut = blank_more c.args.text.now 0 c.loop-at.at c.loop-at.found.items c.loop-at.invariant.cut (sym c.blank_at.ensures ∙ c.if-blank_at.true) }

pub returns-in_err-put_token-in-Some-clause-memory : goal.returns-in_err-put_token-in-Some-clause-memory
returns-in_err-put_token-in-Some-clause-memory c = λ e.
    let text = c.args.text.now in
    let t : Token = record { kind = c.in-Some.kind; span = record { start = c.loop-at.at; end = c.loop-at.at + c.in-Some.long } } in
    begins_before text c.loop-at.at c.loop-at.found.items t c.loop-at.invariant.cut refl
    (token_here text c.loop-at.at c.in-Some.long c.in-Some.kind c.in-Some.ensures.is c.in-Some.ensures.fits.1)

pub loop-at-preserved : goal.loop-at-preserved
loop-at-preserved c =
    let text = c.args.text.now in
    let t : Token = record { kind = c.in-Some.kind; span = record { start = c.loop-at.at; end = c.loop-at.at + c.in-Some.long } } in
    let here : IsTokenAt text t = token_here text c.loop-at.at c.in-Some.long c.in-Some.kind c.in-Some.ensures.is c.in-Some.ensures.fits.1 in
    record {
      within = here.within;
      cut = subst (λ ts. IsCutInto text 0 (c.loop-at.at + c.in-Some.long) ts) (sym c.in_ok-put_token-in-Some.ensures) (token_more text 0 c.loop-at.at c.loop-at.found.items t c.loop-at.invariant.cut refl here);
    }
