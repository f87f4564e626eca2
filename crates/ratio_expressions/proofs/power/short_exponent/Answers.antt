use Rattle.std.proofs.Common.{◌≡◌, ◌∙◌, ◌%◌, ap, rules, subst, sym, ℤ}
use Rattle.std.specs.Prelude.{unsigned_abs}
use Rattle.std.proofs.lemmas.Int.{to_z-of_z}
use mir.Syntax.{w64}
use mir.Val.{SFits}
use Rattle.ratio_natural.specs.Number.{natural_of}
use Rattle.ratio_big.specs.Fractions.{big_numbers}
use Rattle.ratio_expressions.specs.Operators.{HaveSamePowers}
use Rattle.ratio_expressions.proofs.SamePowers.{long_same, short_same}
use Rattle.ratio_expressions.proofs.power.short_exponent.Goals as goal

pub returns-in-Some : goal.returns-in-Some
returns-in-Some c =
    let e = c.numer.result.now in
    let fits : SFits w64 e = search rules in
    short_same (big_numbers c.args.y.now).0 _ (to_z-of_z w64 e fits ∙ c.numer.ensures.value ∙ ap (λ (p : ℤ × ℤ). p.0) c.in-Some.ensures.1)

pub returns : goal.returns
returns c =
    let y = big_numbers c.args.y.now in
    let e = c.large_exponent.result in
    let fits : SFits w64 e = search rules in
    let size : natural_of c.deref.result.now ≡ unsigned_abs y.0 = ap natural_of c.deref.ensures.value ∙ c.in_ok-digits.ensures.value in
    let last : c.remainder.result ≡ unsigned_abs y.0 % 2 = c.remainder.ensures ∙ ap (λ n. n % 2) size in
    subst (λ (f : ℤ). HaveSamePowers y.0 f) (sym (to_z-of_z w64 e fits ∙ c.large_exponent.ensures))
    (long_same y c.is_negative.result c.remainder.result c.requires c.in_default.ensures c.is_negative.ensures last)
