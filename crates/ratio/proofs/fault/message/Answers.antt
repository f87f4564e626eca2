use Rattle.std.proofs.Common.{◌∙◌, ◌++◌, ℕ, List, ap, sym}
use Rattle.std.specs.Prelude.{codes}
use Rattle.ratio.specs.Faults.{message_of}
use Rattle.ratio.proofs.fault.message.Goals as goal

pub returns-in-UnknownOption : goal.returns-in-UnknownOption
returns-in-UnknownOption c = ap (λ (l : List ℕ). codes "ratio: unknown option " ++ (l ++ codes ": see ratio --help\n")) c.as_str.ensures.value ∙ sym (ap message_of c.in-UnknownOption.is)
