use Rattle.std.proofs.Common.{◌≡◌, sym, ◌∙◌, ap, subst, arith, length, take, ◌+◌, ◌*◌, ◌^◌, ◌≤◌}
use Rattle.std.specs.Str.Parse.{AllDigits, digits_value}
use Rattle.ratio_core.proofs.LeadingDigits.{AreGroupsTo, from, group_more}
use Rattle.ratio_core.proofs.text.reading.grouped_digits.Goals as goal

pub groups-preserved : goal.groups-preserved
groups-preserved c =
    let bytes = c.args.bytes.now in
    let at = c.groups.at in
    let n = c.groups.n in
    let read = c.leading_digits-group.ensures in
    let group = c.leading_digits-group.result.0 in
    let more = c.leading_digits-group.result.1 in
    let same = from at bytes in
    let sum : n * c.args.radix ^ more + group ≡ c.in_ok-n.n = ap (λ x. n * x + group) (sym c.pow.ensures) ∙ ap (λ x. x + group) (sym c.in_ok-checked_mul.ensures.1) ∙ sym c.in_ok-n.ensures.1 in (
      subst (AreGroupsTo c.args.radix bytes (at + more)) sum
          (group_more c.args.radix bytes at n more group c.groups.invariant.0 (subst (λ xs. more ≤ length xs) same read.inside) (subst (λ xs. AllDigits c.args.radix (take more xs)) same read.digits) (subst (λ xs. group ≡ digits_value c.args.radix (take more xs)) same read.value)),
      omega arith,
    )
