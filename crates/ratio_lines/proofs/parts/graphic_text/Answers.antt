use Rattle.ratio_lines.proofs.PlainLines.{graphic_text}
use Rattle.ratio_lines.proofs.parts.graphic_text.Goals as goal

pub from_utf8_unchecked-requires : goal.from_utf8_unchecked-requires
from_utf8_unchecked-requires c = graphic_text _ c.requires
