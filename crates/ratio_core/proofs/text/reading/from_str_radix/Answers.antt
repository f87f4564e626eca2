use Rattle.ratio_core.specs.Reading.{IsSlashedText}
use Rattle.ratio_core.proofs.CutLemmas.{only_slashed}
use Rattle.ratio_core.proofs.RefusalLemmas.{answered, refused}
use Rattle.ratio_core.proofs.text.reading.from_str_radix.Goals as goal

pub returns-in-Err : goal.returns-in-Err
returns-in-Err g c =
    let t = g.T.Integer in
    refused t.value t.lo t.hi (IsSlashedText t.lo t.hi c.args.radix c.args.text.now) c.in-Err.refusal c.in-Err.ensures

pub returns-in-Ok : goal.returns-in-Ok
returns-in-Ok g c =
    let t = g.T.Integer in
    let n = t.value c.in-Ok.read.0 in
    let d = t.value c.in-Ok.read.1 in
    answered t.value t.lo t.hi (IsSlashedText t.lo t.hi c.args.radix c.args.text.now) n d c.in-Ok.ensures.0 c.in-Ok.ensures.1
    (λ m e other. only_slashed t.lo t.hi c.args.radix c.args.text.now m e n d c.requires.high other c.in-Ok.ensures.0) c.in_lowest_terms.result c.in_lowest_terms.ensures
