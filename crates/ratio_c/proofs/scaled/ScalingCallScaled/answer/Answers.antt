use Rattle.std.proofs.Common.{◌≡◌, ◌^◌, ◌∙◌, ℕ, ap, arith, pos, unsigned_abs}
use Rattle.std.proofs.lemmas.Int.{ints}
use mir.Val.{to_z, of_z}
use mir.Syntax.{w32, w128}
use Rattle.ratio_c.proofs.Cases.{where_held}
use Rattle.ratio_c.proofs.Narrowing.{lowest_said}
use Rattle.ratio_c.proofs.scaled.ScalingCallScaled.answer.Goals as goal

pub returns : goal.returns
returns g c =
    let v = g.T.Integer.value in
    let n : to_z w128 (of_z w128 c.number-n.result) ≡ c.number-n.result = omega (arith, ints) in
    let scale : to_z w32 (of_z w32 c.args.x.now.scale) ≡ c.args.x.now.scale = omega (arith, ints) in
    let size : c.unsigned_abs.result ≡ unsigned_abs c.args.x.now.scale = c.unsigned_abs.ensures.value ∙ ap unsigned_abs scale in
    where_held (omega (arith, ints, c.if-x-lt0.false), omega (arith, ints, c.if-x-gt38.false))
    (lowest_said (λ r. v r.0) (λ r. v r.1) g.T.Integer.lo g.T.Integer.hi _ _ _ _ c.from_scaled.result _ (n ∙ c.number-n.ensures) (ap (λ (k : ℕ). pos (10 ^ k)) size) c.from_scaled.ensures c.checked.ensures)
