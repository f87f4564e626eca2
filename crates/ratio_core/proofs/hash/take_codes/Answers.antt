use Rattle.std.proofs.Common.{ap, arith, refl, ◌∙◌}
use Rattle.std.proofs.lemmas.Bool.{iff_false}
use Rattle.ratio_core.proofs.Floored.{floored_by_one}
use Rattle.ratio_core.proofs.Hashing.{coded-above, coded-last, hashing_ends, hashing_goes_on, took_three, took_two}
use Rattle.ratio_core.proofs.hash.take_codes.Goals as goal

pub returns-then-is_one-clause-taken : goal.returns-then-is_one-clause-taken
returns-then-is_one-clause-taken g c =
    let whole = floored_by_one _ _ (c.is_one.ensures.0 c.if-is_one.true) in
    hashing_ends _ _ _ _ _ _ _ _ _ _ _ _ _ _ _ c.rounds.invariant.begun
    (coded-last _ _ _ _ _ _ whole c.rounds-test.ensures.held.below refl)
    (took_two g.L.CodeList.after c.take.ensures c.take-then-is_one.ensures refl (ap g.T.Counted.value c.ZERO.ensures ∙ g.met.T.Counted.zero_law))
    (ap (λ steps. steps.left) c.tick_left.ensures)

pub returns-then-is_zero-clause-taken : goal.returns-then-is_zero-clause-taken
returns-then-is_zero-clause-taken g c =
    let division = c.divide_left-quotient.ensures in
    hashing_ends _ _ _ _ _ _ _ _ _ _ _ _ _ _ _ c.rounds.invariant.begun
    (coded-last _ _ _ _ _ _ division.floored division.below (c.is_zero.ensures.0 c.if-is_zero.true))
    (took_two g.L.CodeList.after c.take-in-rounds.ensures c.take-then-is_zero.ensures refl (ap g.T.Counted.value c.ZERO-then-is_zero.ensures ∙ g.met.T.Counted.zero_law))
    division.left

pub rounds-preserved : goal.rounds-preserved
rounds-preserved g c =
    let division = c.divide_left-quotient.ensures in
    let rest = iff_false c.is_zero.ensures c.if-is_zero.false in
    record {
      nonzero = rest;
      begun = hashing_goes_on _ _ _ _ _ _ _ _ _ _ _ _ _ _ _ c.rounds.invariant.begun division.floored division.below rest c.take-in-rounds.ensures division.left;
      right_stays = division.right ∙ c.rounds.invariant.right_stays;
    }

pub returns-clause-taken : goal.returns-clause-taken
returns-clause-taken g c =
    hashing_ends _ _ _ _ _ _ _ _ _ _ _ _ _ _ _ c.rounds.invariant.begun
    (coded-above _ _ _ _ (c.rounds-test.ensures.answer.0 refl))
    (took_three g.L.CodeList.after c.take_both.ensures c.take-2.ensures (ap g.T.Counted.value c.MIN.ensures ∙ g.met.T.Counted.min_law) (ap g.T.Counted.value c.MIN-2.ensures ∙ g.met.T.Counted.min_law) (ap g.T.Counted.value c.ZERO-2.ensures ∙ g.met.T.Counted.zero_law))
    (omega arith)
