use Rattle.std.specs.Prelude.{◌≡◌, ◌+ℤ◌, ℤ, pos}
use Rattle.std.proofs.Common.{◌∙◌, ap}
use Rattle.ratio_approximation.proofs.SimplestSteps.{next_up, not_denom_part, not_numer_part, not_times}
use Rattle.ratio_approximation.proofs.simplest.side.beyond.Goals as goal

pub returns-in_err-more : goal.returns-in_err-more
returns-in_err-more g c =
    let v = g.T.Counted.value in
    let one : v c.ONE.result ≡ pos 1 = ap v c.ONE.ensures ∙ g.met.T.Counted.one_law in
    rw c.from_residual.ensures (not_times _ _ _ _ _ _ _ g.met.T.Counted.range_law c.requires.side c.requires.moving c.requires.fixed (next_up _ c.requires.times) (rw one at c.in_err-more.ensures))

pub returns-in_err-try_times : goal.returns-in_err-try_times
returns-in_err-try_times g c =
    let v = g.T.Counted.value in
    let one : v c.ONE.result ≡ pos 1 = ap v c.ONE.ensures ∙ g.met.T.Counted.one_law in
    let more : v c.in_ok-more.more ≡ v c.args.times +ℤ pos 1 = c.in_ok-more.ensures.1 ∙ ap (λ (t : ℤ). v c.args.times +ℤ t) one in
    rw c.from_residual-in_err-try_times.ensures (not_numer_part _ _ _ _ _ _ _ g.met.T.Counted.range_law c.requires.side c.requires.moving c.requires.fixed (next_up _ c.requires.times) (rw more at c.in_err-try_times.ensures))

pub returns-in_err-try_times-2 : goal.returns-in_err-try_times-2
returns-in_err-try_times-2 g c =
    let v = g.T.Counted.value in
    let one : v c.ONE.result ≡ pos 1 = ap v c.ONE.ensures ∙ g.met.T.Counted.one_law in
    let more : v c.in_ok-more.more ≡ v c.args.times +ℤ pos 1 = c.in_ok-more.ensures.1 ∙ ap (λ (t : ℤ). v c.args.times +ℤ t) one in
    rw c.from_residual-in_err-try_times-2.ensures (not_denom_part _ _ _ _ _ _ _ g.met.T.Counted.range_law c.requires.side c.requires.moving c.requires.fixed (next_up _ c.requires.times) (rw more at c.in_err-try_times-2.ensures))

pub returns-in_err-numer : goal.returns-in_err-numer
returns-in_err-numer g c =
    let v = g.T.Counted.value in
    let one : v c.ONE.result ≡ pos 1 = ap v c.ONE.ensures ∙ g.met.T.Counted.one_law in
    let more : v c.in_ok-more.more ≡ v c.args.times +ℤ pos 1 = c.in_ok-more.ensures.1 ∙ ap (λ (t : ℤ). v c.args.times +ℤ t) one in
    rw c.from_residual-in_err-numer.ensures (λ held. c.in_err-numer.ensures (rw (c.in_ok-try_times.ensures.1, more) held.0))

pub returns-in_err-denom : goal.returns-in_err-denom
returns-in_err-denom g c =
    let v = g.T.Counted.value in
    let one : v c.ONE.result ≡ pos 1 = ap v c.ONE.ensures ∙ g.met.T.Counted.one_law in
    let more : v c.in_ok-more.more ≡ v c.args.times +ℤ pos 1 = c.in_ok-more.ensures.1 ∙ ap (λ (t : ℤ). v c.args.times +ℤ t) one in
    rw c.from_residual-in_err-denom.ensures (λ held. c.in_err-denom.ensures (rw (c.in_ok-try_times-2.ensures.1, more) held.1))
