use Rattle.std.proofs.Common.{◌≡◌, sym, ◌∙◌, subst, arith, length, take, pos, ◌≤◌, ◌<ℤ◌}
use Rattle.std.proofs.lemmas.Int.{ints}
use Rattle.std.specs.Str.Parse.{AllDigits, digits_value}
use Rattle.ratio_core.proofs.LeadingDigits.{from, of_digits, of_minus}
use Rattle.ratio_core.proofs.text.reading.leading_number.Goals as goal

pub returns-in_ok-from_i128-clause-number : goal.returns-in_ok-from_i128-clause-number
returns-in_ok-from_i128-clause-number g c =
    let t = g.T.Integer in
    let m = g.met.T.Integer in
    let under : t.lo <ℤ pos 0 = grind (arith, ints, m.lt_law, m.zero_law, m.min_law) in
    let read = c.in_ok-n.ensures in
    let n = c.in_ok-n.n in
    let count = c.in_ok-n.count in
    let same = from 1 c.args.bytes.now in
    of_minus t.value t.lo t.hi c.args.radix c.args.bytes.now count n c.in_ok-from_i128.field-0 under (sym c.begins_with_minus.ensures ∙ c.if-begins_with_minus.true)
    (subst (λ xs. count ≤ length xs) same read.inside) c.if-count-eq0.false (subst (λ xs. AllDigits c.args.radix (take count xs)) same read.digits) (subst (λ xs. n ≡ digits_value c.args.radix (take count xs)) same read.value)
    (omega (arith, c.if-n.false)) c.in_ok-from_i128.ensures

pub returns-in_ok-from_u128-clause-number : goal.returns-in_ok-from_u128-clause-number
returns-in_ok-from_u128-clause-number g c =
    let t = g.T.Integer in
    let read = c.in_ok-n-2.ensures in
    of_digits t.value t.lo t.hi c.args.radix c.args.bytes.now c.in_ok-n-2.count c.in_ok-n-2.n c.in_ok-from_u128.field-0
    read.inside c.if-count-eq0-2.false read.digits read.value c.in_ok-from_u128.ensures
