use Rattle.std.proofs.Common.{Some, None, lit<, subst}
use Rattle.std.proofs.lemmas.Str.Pattern.{split_parts, split_after}
use Rattle.ratio_core.specs.Reading.{IsSlashedText, slash}
use Rattle.ratio_core.proofs.CutLemmas.{no_slashed, with_slash}
use Rattle.ratio_core.proofs.LeadingDigits.{read_fields}
use Rattle.ratio_core.proofs.text.reading.slashed_fields.Goals as goal

pub returns-in-Some : goal.returns-in-Some
returns-in-Some g c =
    let t = g.T.Integer in
    let n = c.in-Some.read.0 in
    let d = c.in-Some.read.1 in
    read_fields t.value t.lo t.hi (IsSlashedText t.lo t.hi c.args.radix c.args.text.now) n d
    (subst (λ xs. IsSlashedText t.lo t.hi c.args.radix xs (t.value n) (t.value d)) c.as_bytes.ensures.value c.in-Some.ensures) c.nonzero.result c.nonzero.ensures

pub returns-in-Some-split_once : goal.returns-in-Some-split_once
returns-in-Some-split_once g c =
    let t = g.T.Integer in
    let text = c.args.text.now in
    let cut = Some (c.in-Some-split_once.front, c.in-Some-split_once.back) in
    let parts = split_parts slash text cut c.in-Some-split_once.ensures.cases (lit< tt) in
    with_slash t.value t.lo t.hi c.args.radix text c.requires.high c.in-Some-split_once.front.now c.in-Some-split_once.back.now parts.0
    (λ xs ys e free. split_after slash text xs ys cut c.in-Some-split_once.ensures.cases (lit< tt) e free) c.sides.result c.sides.ensures

pub returns-in-None : goal.returns-in-None
returns-in-None g c =
    let t = g.T.Integer in
    let text = c.args.text.now in
    rw c.new.ensures (no_slashed t.lo t.hi c.args.radix text (split_parts slash text None c.in-None.ensures.cases (lit< tt)))
