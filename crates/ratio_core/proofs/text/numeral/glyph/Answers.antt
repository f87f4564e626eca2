use Rattle.ratio_core.proofs.Numerals.{glyphs}
use Rattle.ratio_core.proofs.text.numeral.glyph.Goals as goal

pub returns-then-upper : goal.returns-then-upper
returns-then-upper c = rw c.if-upper.true (glyphs c.args.digit c.requires).1

pub returns-else-upper : goal.returns-else-upper
returns-else-upper c = rw c.if-upper.false (glyphs c.args.digit c.requires).0
