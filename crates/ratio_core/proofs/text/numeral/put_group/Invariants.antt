use Rattle.std.proofs.Common.{◌≡◌, ◌+◌, ◌*◌, ◌^◌, ◌<◌, ◌≤◌, ◌++◌, ℕ, drop}
use Rattle.std.specs.Prelude.{map}
use Rattle.std.specs.Fmt.{digit_glyph}
use Rattle.std.specs.Int.Digits.{digits_of}
use Rattle.ratio_core.proofs.text.numeral.put_group.Given as goal

abbrev pub invariant-digits : goal.invariant-digits
invariant-digits l = record {
  whole : (high : ℕ) → 0 < high → map (digit_glyph l.upper) (digits_of l.base (high * l.base ^ l.at + l.left)) ++ drop l.at l.buf ≡ map (digit_glyph l.upper) (digits_of l.base (high * l.base ^ 16 + l.n));
  small : l.left < l.base ^ l.at;
  before : l.at ≤ 16;
}

abbrev pub decreases-digits : goal.decreases-digits
decreases-digits l = l.at
