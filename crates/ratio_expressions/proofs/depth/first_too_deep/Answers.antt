use Rattle.std.proofs.Common.{rules, ◌≡◌, ◌≤◌, ◌+◌, ◌∙◌, take, get_or, ap, arith}
use Rattle.ratio_expressions.specs.declared.token.Kind.TheVariants.{Number}
use Rattle.ratio_expressions.specs.declared.token.Token.{Token}
use Rattle.ratio_expressions.specs.Nesting.{open_after, open_behind, most_open}
use Rattle.ratio_expressions.proofs.DepthLaws.{open_next, shallow_next, deep_open}
use Rattle.ratio_expressions.proofs.depth.first_too_deep.Goals as goal
use Rattle.ratio_expressions.proofs.depth.first_too_deep.Goals.{in-Open, in-Close, in-Number}

-- a token, where a list has none
abbrev no_token : Token
no_token = record { kind = Number; span = record { start = 0; end = 0 } }

pub returns-then-open-gt-MOST_OPEN-clause-deep : goal.returns-then-open-gt-MOST_OPEN-clause-deep
returns-then-open-gt-MOST_OPEN-clause-deep c =
    let tokens = c.args.tokens.now in
    let at = c.loop-at.at in
    let behind : open_behind (get_or tokens at no_token).kind c.loop-at.open ≡ c.match-token.open = elim c.match-token.branch [ in-Open w ↦ search rules | in-Close w ↦ search rules | in-Number w ↦ search rules ] in
    let next : open_after 0 (take (at + 1) tokens) ≡ c.match-token.open = open_next tokens at no_token c.loop-at-test.true ∙ ap (open_behind (get_or tokens at no_token).kind) c.loop-at.invariant.counted ∙ behind in
    omega (arith, next, deep_open (take (at + 1) tokens))

pub loop-at-preserved : goal.loop-at-preserved
loop-at-preserved c =
    let tokens = c.args.tokens.now in
    let at = c.loop-at.at in
    let behind : open_behind (get_or tokens at no_token).kind c.loop-at.open ≡ c.match-token.open = elim c.match-token.branch [ in-Open w ↦ search rules | in-Close w ↦ search rules | in-Number w ↦ search rules ] in
    let next : open_after 0 (take (at + 1) tokens) ≡ c.match-token.open = open_next tokens at no_token c.loop-at-test.true ∙ ap (open_behind (get_or tokens at no_token).kind) c.loop-at.invariant.counted ∙ behind in
    let few : c.match-token.open ≤ most_open = omega arith in
    record { counted = next; few = few; shallow = shallow_next tokens at no_token c.loop-at-test.true most_open c.loop-at.invariant.shallow (omega (arith, next, few)) }
