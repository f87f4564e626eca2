use Rattle.std.proofs.Common.{ap, refl, sym, ◌∙◌}
use Rattle.ratio_integer.specs.Comparison.{yes}
use Rattle.ratio_integer.proofs.LowestTerms.{denom_out, numer_out}
use Rattle.ratio_core.proofs.CancellingLemmas.{turned}
use Rattle.ratio_core.proofs.checked_new.sign_moved.Goals as goal

pub returns-in-None : goal.returns-in-None
returns-in-None g c =
    let v = g.T.Integer.value in
    let m = g.met.T.Integer in
    let zero = ap v c.ZERO.ensures ∙ m.zero_law in
    let first = ap v c.ZERO-then-lt.ensures ∙ m.zero_law in
    let below = yes _ (m.lt_law c.args.b c.ZERO.result) (sym c.if-lt.ensures) in
    numer_out _ _ _ _ _ _ (turned (v c.args.a) (v c.args.b) _ _ _ (v c.ZERO-then-lt.result) (v c.ZERO-then-lt.result) c.requires zero first first below refl refl) c.in-None.ensures

pub returns-in-None-try_minus : goal.returns-in-None-try_minus
returns-in-None-try_minus g c =
    let v = g.T.Integer.value in
    let m = g.met.T.Integer in
    let zero = ap v c.ZERO.ensures ∙ m.zero_law in
    let first = ap v c.ZERO-then-lt.ensures ∙ m.zero_law in
    let second = ap v c.ZERO-in-Some.ensures ∙ m.zero_law in
    let below = yes _ (m.lt_law c.args.b c.ZERO.result) (sym c.if-lt.ensures) in
    denom_out _ _ _ _ _ _ (turned (v c.args.a) (v c.args.b) _ _ _ (v c.ZERO-then-lt.result) (v c.ZERO-in-Some.result) c.requires zero first second below refl refl) c.in-None-try_minus.ensures

pub returns-in-Some-try_minus : goal.returns-in-Some-try_minus
returns-in-Some-try_minus g c =
    let v = g.T.Integer.value in
    let m = g.met.T.Integer in
    let zero = ap v c.ZERO.ensures ∙ m.zero_law in
    let first = ap v c.ZERO-then-lt.ensures ∙ m.zero_law in
    let second = ap v c.ZERO-in-Some.ensures ∙ m.zero_law in
    let below = yes _ (m.lt_law c.args.b c.ZERO.result) (sym c.if-lt.ensures) in
    record {
      terms = turned (v c.args.a) (v c.args.b) _ _ _ (v c.ZERO-then-lt.result) (v c.ZERO-in-Some.result) c.requires zero first second below c.in-Some.ensures.1 c.in-Some-try_minus.ensures.1;
      numer_held = rw c.in-Some.ensures.1 c.in-Some.ensures.0;
      denom_held = rw c.in-Some-try_minus.ensures.1 c.in-Some-try_minus.ensures.0;
    }
