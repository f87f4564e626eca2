use Rattle.std.proofs.Common.{◌<◌, Some, ap, arith, vec_len}
use Rattle.ratio_expressions.specs.declared.token.Kind.TheVariants.{Number}
use Rattle.ratio_expressions.specs.declared.token.Token.{Token}
use Rattle.ratio_expressions.specs.Reading.{state_of, finish}
use Rattle.ratio_expressions.proofs.TokenByToken.{some_left, refused_here, goes_on, refused_end, unsettled_end}
use Rattle.ratio_expressions.proofs.parser.read_all.Goals as goal

-- a token, where a list has none
abbrev no_token : Token
no_token = record { kind = Number; span = record { start = 0; end = 0 } }

pub returns-in-None-clause-read : goal.returns-in-None-clause-read
returns-in-None-clause-read c =
    refused_here c.args.tokens.now c.loop-at.at (state_of c.loop-at.marks.items c.loop-at.steps.items c.loop-at.wants) no_token c.loop-at.invariant c.loop-at-test.true
    c.read_token.new.marks.items c.read_token.new.steps.items c.in_ok-read_token.field-0 c.in_ok-read_token.ensures c.in-None.is

pub loop-at-preserved : goal.loop-at-preserved
loop-at-preserved c =
    goes_on c.args.tokens.now c.loop-at.at (state_of c.loop-at.marks.items c.loop-at.steps.items c.loop-at.wants) no_token c.loop-at.invariant c.loop-at-test.true
    c.read_token.new.marks.items c.read_token.new.steps.items c.in_ok-read_token.field-0 c.in-Some.next c.in_ok-read_token.ensures c.in-Some.is

pub returns-then-wants-clause-read : goal.returns-then-wants-clause-read
returns-then-wants-clause-read c =
    refused_end c.args.tokens.now c.loop-at.at (state_of c.loop-at.marks.items c.loop-at.steps.items c.loop-at.wants) c.loop-at.invariant (omega arith) (omega arith)
    (ap (λ b. finish (Some (state_of c.loop-at.marks.items c.loop-at.steps.items b))) c.if-wants.true)

pub returns-then-not-is_empty-clause-read : goal.returns-then-not-is_empty-clause-read
returns-then-not-is_empty-clause-read c =
    let left : 0 < vec_len c.settle_marks.new.marks = some_left _ c.if-not-is_empty.ensures in
    refused_end c.args.tokens.now c.loop-at.at (state_of c.loop-at.marks.items c.loop-at.steps.items c.loop-at.wants) c.loop-at.invariant (omega arith) (omega arith)
    (unsettled_end c.loop-at.marks.items c.settle_marks.new.marks.items c.loop-at.steps.items c.settle_marks.new.steps.items c.loop-at.wants c.if-wants.false c.in_ok-settle_marks.ensures (omega arith))
