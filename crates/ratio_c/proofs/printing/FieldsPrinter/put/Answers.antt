use Rattle.std.proofs.Common.{◌∙◌, ap, refl, sym}
use Rattle.ratio_core.specs.Printing.{base_ten_room}
use Rattle.ratio_c.specs.Texts.{ShowsFields}
use Rattle.ratio_c.proofs.Cases.{where_held}
use Rattle.ratio_c.proofs.PrintedTexts.{nothing_put}
use Rattle.ratio_c.proofs.printing.FieldsPrinter.put.Goals as goal

pub returns-then-is_zero : goal.returns-then-is_zero
returns-then-is_zero g c =
    nothing_put (ShowsFields g.F.Inside.Primitive.BITS (g.F.OneFraction.fraction c.args.x.now)) (base_ten_room g.F.Inside.Integer.lo g.F.Inside.Integer.hi) c.args.at 4 c.args.texts.now c.no_text.result
    (where_held (ap (λ z. z.1) (sym c.fraction-n.ensures) ∙ c.if-is_zero.ensures.0 refl) (refl, refl)) c.no_text.ensures.code c.no_text.ensures.start c.no_text.ensures.end
