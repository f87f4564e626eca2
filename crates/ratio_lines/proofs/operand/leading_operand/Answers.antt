use Rattle.std.proofs.Common.{refl, take}
use Rattle.std.specs.Char.{is_ascii_graphic}
use Rattle.ratio_integer.specs.SignedBits.{greatest64, least64}
use Rattle.ratio_core.specs.Reading.{IsFractionText}
use Rattle.ratio_lines.proofs.FractionTexts.{fraction_same, fraction_shown}
use Rattle.ratio_lines.proofs.PlainLines.{none_passes}
use Rattle.ratio_lines.proofs.operand.leading_operand.Goals as goal

pub rest_from-requires-clause-none : goal.rest_from-requires-clause-none
rest_from-requires-clause-none c =
    let read = c.in_ok-numer in
    let text : IsFractionText least64 greatest64 (take read.end c.args.text.now) read.numer read.denom = rw c.as_bytes-bytes.ensures.value at read.ensures.fields in
    none_passes is_ascii_graphic 32 refl (take read.end c.args.text.now) (fraction_shown _ _ _ _ _ text).0

pub returns : goal.returns
returns c =
    let read = c.in_ok-numer in
    let text : IsFractionText least64 greatest64 (take read.end c.args.text.now) read.numer read.denom = rw c.as_bytes-bytes.ensures.value at read.ensures.fields in
    let same = fraction_same read.numer read.denom _ text in
    record { part = take read.end c.args.text.now; split = c.in_ok-rest.ensures; reads = c.in_ok-operand.ensures _ (rw (same.0, same.1) text) }
