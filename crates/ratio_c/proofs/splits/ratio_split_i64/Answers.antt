use Rattle.std.specs.Prelude.{◌≡◌, ℤ, length}
use Rattle.std.proofs.Common.{arith, inl, inr, refl, subst}
use Rattle.std.proofs.lemmas.Int.{ints}
use mir.Syntax.{w64}
use mir.Val.{of_z, to_z}
use Rattle.ratio_integer.specs.SignedBits.{greatest64, least64}
use Rattle.num_rational.specs.Split.{CanBeSplit, IsSplitBy, RefusesToSplit}
use Rattle.ratio_c.specs.Many.{AreOverPositive}
use Rattle.ratio_c.specs.Numbers64.{fraction64}
use Rattle.ratio_c.proofs.Cases.{where_held}
use Rattle.ratio_c.proofs.splits.ratio_split_i64.Goals as goal

pub returns-in-Ok : goal.returns-in-Ok
returns-in-Ok c =
    let shares = c.args.shares.now in
    let parts = length c.args.parts.now in
    let positive : AreOverPositive shares = c.if-not-are_positive.ensures.0 refl in
    let same : to_z w64 (of_z w64 c.args.amount) ≡ c.args.amount = omega (arith, ints) in
    where_held positive (inl (record {
      can = subst (λ (z : ℤ). CanBeSplit fraction64 least64 greatest64 z shares parts) same c.in-Ok.ensures.ok.0;
      parts = subst (λ (z : ℤ). IsSplitBy fraction64 (λ p. p) z shares c.split_shares.new.parts) same c.in-Ok.ensures.ok.1;
      code_is = refl;
    }))

pub returns-in-Err : goal.returns-in-Err
returns-in-Err c =
    let shares = c.args.shares.now in
    let parts = length c.args.parts.now in
    let positive : AreOverPositive shares = c.if-not-are_positive.ensures.0 refl in
    let same : to_z w64 (of_z w64 c.args.amount) ≡ c.args.amount = omega (arith, ints) in
    where_held positive (inr (record {
      why = c.in-Err.why;
      reason = subst (λ (z : ℤ). RefusesToSplit fraction64 least64 greatest64 z shares parts c.in-Err.why) same c.in-Err.ensures.refused;
      code_is = c.code_of_shares.ensures;
      kept = c.in-Err.ensures.unchanged;
    }))
