use Rattle.ratio_decimal.proofs.DecimalTerms.{by_five, by_one, by_ten, by_two}
use Rattle.ratio_decimal.proofs.reading.terms.short_digit_before.Goals as goal
use Rattle.ratio_decimal.proofs.reading.terms.short_digit_before.Goals.{then-last-eq0, else-last-eq0+then-last-eq5, else-last-eq0+else-last-eq5+then-last-eq0-2, else-last-eq0+else-last-eq5+else-last-eq0-2}

pub returns : goal.returns
returns c =
    let d = c.args.digit in
    let p = c.args.numer in
    let q = c.args.denom in
    let r = c.requires in
    elim c.if-last-eq0.branch [
      | then-last-eq0 w ↦ rw w.numer-is (by_ten d p q r.digit r.below r.lowest w.if-last-eq0.true)
      | else-last-eq0+then-last-eq5 w ↦ rw w.numer-is (by_five d p q r.digit r.below r.lowest w.if-last-eq5.true)
      | else-last-eq0+else-last-eq5+then-last-eq0-2 w ↦ rw w.numer-is (by_two d p q r.digit r.below r.lowest w.if-last-eq0.false w.if-last-eq5.false w.if-last-eq0-2.true)
      | else-last-eq0+else-last-eq5+else-last-eq0-2 w ↦ rw w.numer-is (by_one d p q r.digit r.below r.lowest w.if-last-eq0.false w.if-last-eq5.false w.if-last-eq0-2.false)
    ]
