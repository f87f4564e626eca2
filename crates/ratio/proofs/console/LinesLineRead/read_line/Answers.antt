use Rattle.std.proofs.Common.{arith}
use Rattle.ratio.proofs.DeviceLemmas.{gives_line}
use Rattle.ratio.proofs.console.LinesLineRead.read_line.Goals as goal

pub returns-in-Ok-clause-line : goal.returns-in-Ok-clause-line
returns-in-Ok-clause-line g c =
    gives_line _ _ _ _ c.clear.ensures.items (λ none. c.in-Ok.field-0-test.1 (omega (arith, c.in-Ok.ensures.ok, none))) c.in-Ok.ensures.bytes c.in-Ok.ensures.rest
