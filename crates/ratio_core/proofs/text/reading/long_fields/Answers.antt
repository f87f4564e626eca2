use Rattle.std.proofs.Common.{Some, None, lit<, lit≤, subst}
use Rattle.std.proofs.lemmas.Str.Pattern.{split_parts, split_after}
use Rattle.ratio_core.specs.Reading.{ReadsNumber, slash}
use Rattle.ratio_core.proofs.CutLemmas.{with_slash, fraction_with_slash, no_fraction}
use Rattle.ratio_core.proofs.text.reading.long_fields.Goals as goal

pub returns-in-Some : goal.returns-in-Some
returns-in-Some g c =
    let t = g.T.Integer in
    let text = c.args.text.now in
    let cut = Some (c.in-Some.front, c.in-Some.back) in
    let parts = split_parts slash text cut c.in-Some.ensures.cases (lit< tt) in
    fraction_with_slash t.value t.lo t.hi text c.in-Some.front.now c.in-Some.back.now parts.0 c.sides.result
    (with_slash t.value t.lo t.hi 10 text (lit≤ tt) c.in-Some.front.now c.in-Some.back.now parts.0
    (λ xs ys e free. split_after slash text xs ys cut c.in-Some.ensures.cases (lit< tt) e free) c.sides.result c.sides.ensures)

pub returns-in-None-number : goal.returns-in-None-number
returns-in-None-number g c =
    let t = g.T.Integer in
    let text = c.args.text.now in
    rw c.new.ensures (no_fraction t.value t.lo t.hi text (split_parts slash text None c.in-None.ensures.cases (lit< tt)) (subst (ReadsNumber t.value t.lo t.hi 10 text) c.in-None-number.is c.number.ensures))
