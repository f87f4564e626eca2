use Rattle.std.specs.Prelude.{◌≡◌, ◌≢◌, length, pos}
use Rattle.std.proofs.Common.{rules, subst, ◌∙◌}
use Rattle.ratio_core.proofs.TestLemmas.{if_false}
use Rattle.num_rational.specs.Split.{IsSplitBy, total_of}
use Rattle.num_rational.specs.Weights.{NoWeightIsBelowZero}
use Rattle.num_rational.proofs.WeightLemmas.{weights_over}
use Rattle.num_rational.proofs.splitting.split_by_weights.Goals as goal

pub write_parts_over-requires-clause-shares : goal.write_parts_over-requires-clause-shares
write_parts_over-requires-clause-shares g c =
    let T = g.T.Integer in
    let none : NoWeightIsBelowZero T.value c.args.weights.now = search rules in
    weights_over T.value (T.value c.in-Some.total) c.args.weights.now none (λ zero. if_false _ c.is_zero.ensures c.if-is_zero.false (c.in-Some.ensures.1 ∙ zero)) c.in-Some.ensures.1

pub returns-clause-ok : goal.returns-clause-ok
returns-clause-ok g c =
    let T = g.T.Integer in
    let none : NoWeightIsBelowZero T.value c.args.weights.now = search rules in
    let as_many : length c.args.parts.now ≡ length c.args.weights.now = search rules in
    let some : total_of T.value c.args.weights.now ≢ pos 0 = λ zero. if_false _ c.is_zero.ensures c.if-is_zero.false (c.in-Some.ensures.1 ∙ zero) in (
      record { as_many = as_many; none_below = none; held = c.in-Some.ensures.0; some = some },
      subst (λ t. IsSplitBy (λ weight. (T.value weight, t)) T.value (T.value c.args.amount) c.args.weights.now c.write_parts_over.new.parts) c.in-Some.ensures.1 c.write_parts_over.ensures,
    )
