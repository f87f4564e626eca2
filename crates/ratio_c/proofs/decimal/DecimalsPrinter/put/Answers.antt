use Rattle.std.specs.Prelude.{◌+◌, ◌++◌, drop, length, take}
use Rattle.std.proofs.Common.{◌∙◌, ap}
use Rattle.ratio_c.specs.Texts.{ShowsDecimal, decimal_longest}
use Rattle.ratio_c.proofs.PrintedTexts.{nothing_put, text_put}
use Rattle.ratio_c.proofs.decimal.DecimalsPrinter.put.Goals as goal

pub returns-in-Ok : goal.returns-in-Ok
returns-in-Ok g c =
    let shows = ShowsDecimal (g.F.OneFraction.fraction c.args.x.now) (g.F.Pointed.places c.args.x.now) (g.F.Ruled.rule c.args.x.now) in
    let put = c.put_bytes.ensures in
    let same = c.as_bytes.ensures.value ∙ c.as_str.ensures in
    text_put shows (decimal_longest g.F.Inside.Integer.lo g.F.Inside.Integer.hi) c.args.at c.args.texts.now c.put_bytes.new.texts c.in-Ok.text c.put_bytes.result
    c.in-Ok.ensures.shows c.in-Ok.ensures.short put.code put.start (put.end ∙ ap (λ xs. c.args.at + length xs) same)
    (put.written ∙ ap (λ xs. take c.args.at c.args.texts.now ++ (xs ++ drop c.put_bytes.result.span.end c.args.texts.now)) same)

pub returns-in-Err : goal.returns-in-Err
returns-in-Err g c =
    let shows = ShowsDecimal (g.F.OneFraction.fraction c.args.x.now) (g.F.Pointed.places c.args.x.now) (g.F.Ruled.rule c.args.x.now) in
    nothing_put shows (decimal_longest g.F.Inside.Integer.lo g.F.Inside.Integer.hi) c.args.at c.in-Err.code c.args.texts.now c.no_text.result
    c.in-Err.ensures.shows c.no_text.ensures.code c.no_text.ensures.start c.no_text.ensures.end
