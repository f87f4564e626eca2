use Rattle.std.proofs.Common.{◌≡◌, true, false, arith}
use Rattle.ratio_core.specs.declared.text.Form.TheVariants.{Decimal}
use Rattle.ratio_core.proofs.PrintingLemmas.{slashed_text, whole_text}
use Rattle.ratio_core.proofs.text.put_base_ten_fraction.Goals as goal

pub returns-then-is_one-clause-written : goal.returns-then-is_one-clause-written
returns-then-is_one-clause-written g c =
    let number = g.T.Integer.value in
    whole_text g.T.Primitive.BITS Decimal false (number c.args.numer) (number c.args.denom) 81 c.args.buf.now _ (c.is_one.ensures.0 c.if-is_one.true) c.requires c.put_decimal.ensures.written

pub returns-clause-written : goal.returns-clause-written
returns-clause-written g c =
    let number = g.T.Integer.value in
    let back = c.put_decimal-slash in
    slashed_text g.T.Primitive.BITS Decimal false (number c.args.numer) (number c.args.denom) 81 back.result c.args.buf.now back.new.buf _
    (λ one. let no : false ≡ true = c.if-is_one.ensures.1 one in cc) c.requires back.auto.buf (omega (arith, back.ensures.start)) back.ensures.before
    back.ensures.written c.put_decimal-2.ensures.written
