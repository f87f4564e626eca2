use Rattle.std.proofs.Common.{[], ◌++◌, ◌∙◌, ap, sym}
use Rattle.ratio_lines.proofs.DeviceCalls.{took_nothing, wait_uncalled, waits_without_room}
use Rattle.ratio_lines.proofs.gathered.Gathered.put.Goals as goal

pub returns-in-Ok-clause-waits : goal.returns-in-Ok-clause-waits
returns-in-Ok-clause-waits g c = wait_uncalled _ c.args.self.now _ c.args.bytes.now (c.in-Ok.ensures.ok ∙ ap (λ waited. waited ++ c.args.bytes.now) c.self.view_is)

pub returns-in-Ok-clause-gathered : goal.returns-in-Ok-clause-gathered
returns-in-Ok-clause-gathered g c = ([], took_nothing _, ap (λ waited. waited ++ c.args.bytes.now) (sym c.self.view_is) ∙ sym c.in-Ok.ensures.ok)

pub returns-in-Err-clause-waits : goal.returns-in-Err-clause-waits
returns-in-Err-clause-waits g c = waits_without_room _ c.args.self.now _ c.args.bytes.now _ (λ fits. c.in-Err.ensures.variant.1 (rw c.self.view_is fits))
