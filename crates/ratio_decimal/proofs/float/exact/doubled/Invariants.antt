use Rattle.std.specs.Prelude.{◌≡◌, ◌*◌, ◌^◌}
use Rattle.ratio_core.specs.Signs.{with_sign}
use Rattle.ratio_decimal.proofs.float.exact.doubled.Given as goal

abbrev pub invariant-loop-done : goal.invariant-loop-done
invariant-loop-done g l = g.T.Integer.value l.number ≡ with_sign l.fn.is_negative (l.fn.size * 2 ^ l.done)
