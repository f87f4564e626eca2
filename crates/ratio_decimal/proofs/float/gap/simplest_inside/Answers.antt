use Rattle.std.specs.Int.RustNames.{FitsSigned}
use Rattle.std.proofs.Common.{arith, rules, ◌∙◌}
use Rattle.std.proofs.lemmas.Int.{to_z-of_z}
use Rattle.std.proofs.lemmas.Nat.{pow_pos}
use mir.Syntax.{w128}
use Rattle.ratio_decimal.proofs.GapLemmas.{inside_none, inside_out, inside_some, most_of, numer_less}
use Rattle.ratio_decimal.proofs.float.gap.simplest_inside.Goals as goal

pub returns-in_err-numer : goal.returns-in_err-numer
returns-in_err-numer g c =
    let width = g.met.T.Primitive.width_law in
    let range = g.met.T.Integer.range_law in
    rw c.from_residual.ensures (inside_out g.T.Integer.value _ _ c.args.is_negative _ _ _ (most_of _ _ _ range width.0 width.1) c.in_err-numer.ensures)

pub overflow_cast-numer : goal.overflow_cast-numer
overflow_cast-numer g c = (let less = numer_less _ _ _ _ _ c.requires.room c.requires.short (pow_pos c.args.down) c.in_ok-numer.ensures in omega (arith, less))

pub returns-in_err-signed_numer : goal.returns-in_err-signed_numer
returns-in_err-signed_numer g c =
    let fits : FitsSigned w128 c.signed.result = search rules in
    let numer = to_z-of_z w128 c.signed.result fits ∙ c.signed.ensures in
    rw c.from_residual-in_err-signed_numer.ensures (inside_none g.T.Integer.value _ _ c.args.is_negative _ _ _ _ _ g.met.T.Integer.range_law c.in_ok-numer.ensures (λ held other. c.in_err-signed_numer.ensures (rw numer held)))

pub returns-in_err-from_u128 : goal.returns-in_err-from_u128
returns-in_err-from_u128 g c =
    rw c.from_residual-in_err-from_u128.ensures (inside_none g.T.Integer.value _ _ c.args.is_negative _ _ _ _ _ g.met.T.Integer.range_law c.in_ok-numer.ensures (λ held other. c.in_err-from_u128.ensures other))

pub returns : goal.returns
returns g c =
    let fits : FitsSigned w128 c.signed.result = search rules in
    let numer = to_z-of_z w128 c.signed.result fits ∙ c.signed.ensures in
    inside_some g.T.Integer.value g.T.Integer.lo g.T.Integer.hi c.args.is_negative _ _ _ _ _ _ _ c.in_ok-numer.ensures (c.in_ok-signed_numer.ensures.1 ∙ numer) c.in_ok-from_u128.ensures.1
