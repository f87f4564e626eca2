use Rattle.ratio_lines.proofs.Cuts.{first_of_parts, one_part}
use Rattle.ratio_lines.proofs.parts.first_part.Goals as goal

pub returns-in-Some : goal.returns-in-Some
returns-in-Some c = first_of_parts c.args.text.now _ _ c.in-Some.ensures.1 c.in-Some.ensures.0

pub returns-in-None : goal.returns-in-None
returns-in-None c = one_part c.args.text.now c.in-None.ensures
