use Rattle.std.proofs.Common.{◌≡◌, arith, negsuc, pos, take}
use Rattle.std.proofs.lemmas.List.{take_all}
use Rattle.ratio_core.specs.Reading.{IsFractionText}
use Rattle.ratio_expressions.proofs.ShortFractions.{fraction_same, says_fraction}
use Rattle.ratio_expressions.proofs.number.short_fraction.short_fraction.Goals as goal

pub returns : goal.returns
returns c =
    let read = c.in_ok-numer in
    let all : take read.end c.args.text.now ≡ c.args.text.now = take_all read.end c.args.text.now (omega arith) in
    let text : IsFractionText (negsuc 9223372036854775807) (pos 9223372036854775807) c.args.text.now read.numer read.denom = rw all at read.ensures.fields in
    let same = fraction_same read.numer read.denom c.args.text.now text in
    says_fraction _ _ read.numer read.denom c.args.text.now _ text (rw c.from_reduced.ensures (rw (same.0, same.1) at c.in_ok-lowest.ensures.terms))
