use Rattle.std.specs.Int.{w64}
use Rattle.std.proofs.Common.{arith}
use Rattle.ratio_integer.proofs.Halving.{odd_part_is}
use Rattle.ratio_c.proofs.Inverses.{begun, exchanged, found, found_left, halved, none, right_less, short_zeros}
use Rattle.ratio_c.proofs.hash_mod61.inverse.Goals as goal

pub steps-init : goal.steps-init
steps-init c = begun c.args.number (omega arith) c.requires

pub turned-v-requires-clause-count : goal.turned-v-requires-clause-count
turned-v-requires-clause-count c =
    let short = c.steps.invariant.right_short in
    let most = short_zeros _ _ _ (omega arith) short (odd_part_is w64 c.steps.b (omega arith) (omega arith)) in
    omega (arith, most)

pub returns-then-b-eq1 : goal.returns-then-b-eq1
returns-then-b-eq1 c =
    let short = c.steps.invariant.right_short in
    let part = odd_part_is w64 c.steps.b (omega arith) (omega arith) in
    (c.turned-v.ensures.below, found _ _ _ _ _ (halved _ _ _ _ _ _ _ _ c.steps.invariant (omega arith) part c.turned-v.ensures.below c.turned-v.ensures.value) c.if-b-eq1.true)

pub steps-preserved-then-a-b : goal.steps-preserved-then-a-b
steps-preserved-then-a-b c =
    let short = c.steps.invariant.right_short in
    let part = odd_part_is w64 c.steps.b (omega arith) (omega arith) in
    let half = halved _ _ _ _ _ _ _ _ c.steps.invariant (omega arith) part c.turned-v.ensures.below c.turned-v.ensures.value in
    right_less _ _ _ _ _ _ half (omega arith) c.difference-v.ensures.below c.difference-v.ensures.value

pub steps-preserved : goal.steps-preserved
steps-preserved c =
    let short = c.steps.invariant.right_short in
    let part = odd_part_is w64 c.steps.b (omega arith) (omega arith) in
    let half = halved _ _ _ _ _ _ _ _ c.steps.invariant (omega arith) part c.turned-v.ensures.below c.turned-v.ensures.value in
    let one = part.odd in
    right_less _ _ _ _ _ _ (exchanged _ _ _ _ _ half (omega (arith, one))) (omega arith) c.difference-factor.ensures.below c.difference-factor.ensures.value

pub returns-else-a-eq1 : goal.returns-else-a-eq1
returns-else-a-eq1 c = none _ _ _ _ _ c.steps.invariant (omega arith) (omega arith)

pub returns-then-a-eq1 : goal.returns-then-a-eq1
returns-then-a-eq1 c = (c.steps.invariant.left_factor, found_left _ _ _ _ _ c.steps.invariant c.if-a-eq1.true)
