use Rattle.std.specs.Prelude.{ℕ, ℤ}
use Rattle.std.specs.Option.{option_map}
use Rattle.std.proofs.Common.{ap, arith, subst}
use Rattle.ratio_slots.specs.WideReads.{ChecksWideMultiple, wide_pair}
use Rattle.ratio_totals.specs.Values.{wide_value_of}
use Rattle.ratio_totals.proofs.NumberLemmas.{short_held}
use Rattle.ratio_totals.proofs.WideRoundingLemmas.{whole_none, whole_some}
use Rattle.ratio_totals.proofs.wide_total.WideTotal.to_integer.Goals as goal

pub returns-in-Ok-Some-clause-number : goal.returns-in-Ok-Some-clause-number
returns-in-Ok-Some-clause-number g c =
    let terms = wide_pair c.in-Ok-Some.whole in
    whole_some g.T.Integer.value g.T.Integer.lo g.T.Integer.hi c.args.rule (wide_value_of c.args.self.now) terms.0 terms.1 (option_map wide_pair c.in-Ok-Some.field-0) c.signed.result
    (ap (option_map wide_pair) c.in-Ok-Some.field-0-is)
    (subst (λ (x : ℤ × ℕ). ChecksWideMultiple c.args.rule 1 x c.in-Ok-Some.field-0) c.in_ok-copy_sum.ensures.pair c.in-Ok-Some.ensures.multiple) c.signed.ensures

pub returns-in-Ok-None-clause-number : goal.returns-in-Ok-None-clause-number
returns-in-Ok-None-clause-number g c =
    let m = g.met.T in
    whole_none g.T.Integer.value g.T.Integer.lo g.T.Integer.hi c.args.rule (wide_value_of c.args.self.now) (option_map wide_pair c.in-Ok-None.field-0) (omega arith)
    (λ y held. short_held _ _ g.T.Primitive.BITS y m.Primitive.width_law.0 m.Primitive.width_law.1 m.Integer.range_law held) (ap (option_map wide_pair) c.in-Ok-None.field-0-is)
    (subst (λ (x : ℤ × ℕ). ChecksWideMultiple c.args.rule 1 x c.in-Ok-None.field-0) c.in_ok-copy_sum.ensures.pair c.in-Ok-None.ensures.multiple)
