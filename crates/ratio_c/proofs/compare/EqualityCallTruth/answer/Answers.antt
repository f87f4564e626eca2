use Rattle.std.proofs.Common.{◌∙◌, ap, refl, sym}
use Rattle.std.specs.Ordering.{is_eq}
use Rattle.ratio_core.proofs.EqualityLaws.{same_test, told_same}
use Rattle.ratio_c.proofs.Cases.{where_held}
use Rattle.ratio_c.proofs.compare.EqualityCallTruth.answer.Goals as goal

pub returns-in-Some : goal.returns-in-Some
returns-in-Some g c =
    let x = g.P.TwoFractions.left c.args.pair.now in
    let y = g.P.TwoFractions.right c.args.pair.now in
    let found = c.in-Some.ensures in
    let told = told_same x.0 x.1 y.0 y.1 _ (c.is_eq.ensures ∙ ap is_eq found.2 ∙ sym (same_test x.0 x.1 y.0 y.1 found.0 found.1)) in
    where_held (found.0, found.1) (refl, record { yes = λ same. c.truth_of.ensures.yes (told.1 same); no = λ other. c.truth_of.ensures.no (λ test. other (told.0 test)) })
