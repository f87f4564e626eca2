use Rattle.std.specs.Prelude.{◌≡◌}
use Rattle.std.proofs.Common.{arith, ◌∙◌, ap}
use Rattle.std.specs.Fmt.{formatter_spec, spec_alternate}
use Rattle.core.specs.Option.{unwrap_or}
use Rattle.ratio_decimal.proofs.LongLemmas.{no_prefix, width_or_none}
use Rattle.ratio_decimal.proofs.long.room_left.Goals as goal

pub returns : goal.returns
returns g c = λ below is.
    let width = (formatter_spec c.args.f.now).width in
    let known : c.unwrap_or.result ≡ width = c.unwrap_or.ensures ∙ ap (λ o. unwrap_or o 0) c.width.ensures.value ∙ width_or_none width in
    omega (arith, c.saturating_sub.ensures, c.saturating_sub-2.ensures, c.saturating_sub-3.ensures, known, is, no_prefix (spec_alternate (formatter_spec c.args.f.now)))
