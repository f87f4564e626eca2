use Rattle.std.proofs.Common.{◌∙◌, ap, refl, sym}
use Rattle.ratio_lines.specs.KeptLine.{extended}
use Rattle.ratio_lines.proofs.Pieces.{extended_fits, extended_over}
use Rattle.ratio_lines.proofs.line.Line.extend.Goals as goal

pub returns-in-Ok : goal.returns-in-Ok
returns-in-Ok c =
    extended_fits c.self.inside.is_too_long c.self.inside.bytes.items c.args.more.now _ (c.in-Ok.ensures.variant.0 refl) c.in-Ok.ensures.ok ∙ ap (λ line. extended line c.args.more.now) c.self.view_is

pub returns-in-Err : goal.returns-in-Err
returns-in-Err c =
    sym (ap (λ line. extended line c.args.more.now) (sym c.self.view_is) ∙ extended_over c.self.inside.is_too_long c.self.inside.bytes.items c.args.more.now c.self.invariant (c.in-Err.ensures.variant.1))
