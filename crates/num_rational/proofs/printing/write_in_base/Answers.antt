use Rattle.std.proofs.Common.{sym, ◌∙◌, ap, ◌++◌, [], cond, false}
use Rattle.ratio_core.specs.Printing.{body_of, text_of}
use Rattle.num_rational.proofs.PaddingLemmas.{bare_body, writes_plain}
use Rattle.num_rational.proofs.printing.write_in_base.Goals as goal

pub returns-clause-plain : goal.returns-clause-plain
returns-clause-plain g c =
    let bits = g.T.Primitive.BITS in
    let form = c.args.form in
    let n = g.T.Integer.value c.args.x.now.numer in
    let d = g.T.Integer.value c.args.x.now.denom in
    let alternate = c.alternate-alternate.result in
    let body = body_of bits form alternate n d in
    let cut = c.after_prefix.ensures body (c.as_str-text.ensures ∙ c.put_text.ensures ∙ ap (λ prefix. cond alternate prefix [] ++ body) (sym c.requires)) in
    writes_plain g.W.Write.write_str_gives c.args.f.now c.pad_integral.new.self c.pad_integral.result false c.args.prefix.now c.after_prefix.result.now (text_of bits form false n d)
    (λ bare. cut ∙ bare_body alternate bits form n d (c.alternate-alternate.ensures.value ∙ bare.alternate)) c.pad_integral.ensures.styled
