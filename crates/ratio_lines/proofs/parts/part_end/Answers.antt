use Rattle.std.proofs.Common.{◌∙◌, arith, sym}
use Rattle.ratio_lines.proofs.PlainLines.{graphic_more, graphic_start, part_ends}
use Rattle.ratio_lines.proofs.parts.part_end.Goals as goal

pub loop-end-init : goal.loop-end-init
loop-end-init c = (omega arith, c.requires, graphic_start c.args.bytes.now c.args.from)

pub loop-end-preserved : goal.loop-end-preserved
loop-end-preserved c =
    let so_far = c.loop-end.invariant in (
      omega arith,
      omega arith,
      graphic_more c.args.bytes.now c.args.from c.loop-end.end so_far.0 c.loop-end-test.true so_far.2 (sym c.is_ascii_graphic.ensures.value ∙ c.if-is_ascii_graphic.true),
    )

pub returns-then-bytes-end : goal.returns-then-bytes-end
returns-then-bytes-end c = part_ends c.args.bytes.now c.args.from c.args.byte c.loop-end.end c.loop-end.invariant.0 c.if-end-bytes.true c.loop-end.invariant.2 c.if-bytes-end.true
