use Rattle.std.specs.Prelude.{◌≡◌, ◌+◌, ◌-◌, ◌*◌, ◌%◌, ◌^◌, ◌<◌, ◌≤◌, to_bits}
use Rattle.std.specs.Float.Ieee.{hid, low, ones, top}
use Rattle.std.proofs.Common.{arith, sym, ◌∙◌}
use Rattle.std.proofs.lemmas.Bool.{iff_false}
use Rattle.std.proofs.lemmas.Nat.{pow_pos}
use Rattle.ratio_decimal.proofs.FloatFields.{value_moved}
use Rattle.ratio_decimal.proofs.GapLemmas.{checked_lowest, inside_lowest}
use Rattle.ratio_decimal.proofs.RationalizeLemmas.{gap_checks, high_end, infinite_checks, low_end, nan_checks, part_checks, part_place, part_some, value_is, whole_checks}
use Rattle.ratio_decimal.proofs.float.rationalize.rationalized.Goals as goal

pub returns-then-is_no_number-clause-rational : goal.returns-then-is_no_number-clause-rational
returns-then-is_no_number-clause-rational g c = nan_checks g.T.Integer.value _ _ _ _ (sym c.is_no_number.ensures ∙ c.if-is_no_number.true)

pub returns-then-INFINITY-size-clause-rational : goal.returns-then-INFINITY-size-clause-rational
returns-then-INFINITY-size-clause-rational g c =
    let f = g.F.FloatType.format in
    let laws = g.met.F.FloatType in
    let x = g.F.FloatType.value c.args.x in
    let bits = c.bits-bits.ensures.bits in
    let fit = c.bits-bits.ensures.fits in
    let size_is : c.SIGN-2.result ≡ top f = c.SIGN-2.ensures ∙ laws.sign_law in
    let infinity : c.INFINITY.result ≡ ones f * hid f = c.INFINITY.ensures ∙ laws.infinity_law in
    let far : ones f * hid f ≤ to_bits f x % top f = rw (← bits, ← size_is, ← infinity) c.if-INFINITY-size.true in
    infinite_checks g.T.Integer.value _ _ f x fit far

pub returns-then-is_whole-clause-rational : goal.returns-then-is_whole-clause-rational
returns-then-is_whole-clause-rational g c =
    let f = g.F.FloatType.format in
    let laws = g.met.F.FloatType in
    let x = g.F.FloatType.value c.args.x in
    let bits = c.bits-bits.ensures.bits in
    let fit = c.bits-bits.ensures.fits in
    let size_is : c.SIGN-2.result ≡ top f = c.SIGN-2.ensures ∙ laws.sign_law in
    let infinity : c.INFINITY.result ≡ ones f * hid f = c.INFINITY.ensures ∙ laws.infinity_law in
    let sign : c.SIGN.result ≡ top f = c.SIGN.ensures ∙ laws.sign_law in
    let whole_at : g.F.FloatType.LEAST ≡ low f = laws.least_law in
    let m = c.parts-digits.result.0 in
    let k = c.parts-digits.result.1 in
    let b-is : to_bits f x % top f ≡ k * hid f + m = rw (bits, size_is) at c.parts-digits.ensures.bits in
    let under : to_bits f x % top f < ones f * hid f = rw (← bits, ← size_is, ← infinity) (omega (arith, c.if-INFINITY-size.false)) in
    let is = value_is f x fit m k b-is c.parts-digits.ensures.significand under in
    let v = g.T.Integer.value in
    let least : c.LEAST.result ≡ low f = c.LEAST.ensures ∙ whole_at in
    let whole : m * 2 ^ k % 2 ^ low f ≡ 0 = rw whole_at at (c.is_whole.ensures.0 c.if-is_whole.true) in
    let checked = rw (sign, bits, least) at c.scaled_by_powers.ensures in
    whole_checks v _ _ f x _ (m * 2 ^ k) (low f) c.scaled_by_powers.result fit is whole (value_moved _ _ _ _ x _ _ _ c.scaled_by_powers.result (pow_pos (low f)) is checked)

pub overflow_sub-LEAST : goal.overflow_sub-LEAST
overflow_sub-LEAST g c =
    let less = part_place _ _ _ (iff_false c.is_whole.ensures c.if-is_whole.false) in
    let least = c.LEAST-2.ensures in
    omega (arith, less, least)

pub returns-clause-rational : goal.returns-clause-rational
returns-clause-rational g c =
    let f = g.F.FloatType.format in
    let laws = g.met.F.FloatType in
    let x = g.F.FloatType.value c.args.x in
    let bits = c.bits-bits.ensures.bits in
    let fit = c.bits-bits.ensures.fits in
    let size_is : c.SIGN-2.result ≡ top f = c.SIGN-2.ensures ∙ laws.sign_law in
    let infinity : c.INFINITY.result ≡ ones f * hid f = c.INFINITY.ensures ∙ laws.infinity_law in
    let sign : c.SIGN.result ≡ top f = c.SIGN.ensures ∙ laws.sign_law in
    let whole_at : g.F.FloatType.LEAST ≡ low f = laws.least_law in
    let m = c.parts-digits.result.0 in
    let k = c.parts-digits.result.1 in
    let b-is : to_bits f x % top f ≡ k * hid f + m = rw (bits, size_is) at c.parts-digits.ensures.bits in
    let under : to_bits f x % top f < ones f * hid f = rw (← bits, ← size_is, ← infinity) (omega (arith, c.if-INFINITY-size.false)) in
    let is = value_is f x fit m k b-is c.parts-digits.ensures.significand under in
    let v = g.T.Integer.value in
    let least : c.LEAST-2.result ≡ low f = c.LEAST-2.ensures ∙ whole_at in
    let part : m * 2 ^ k % 2 ^ low f ≡ 0 → ⊥ = rw whole_at at (iff_false c.is_whole.ensures c.if-is_whole.false) in
    let place = part_place m k (low f) part in
    let some = part_some m k (low f) part in
    let near = c.parts-digits.ensures.significand in
    let below = low_end f (to_bits f x % top f) m k b-is near some place _ _ c.gap-low.ensures in
    let above = high_end f (to_bits f x % top f) m k b-is near some place _ _ c.gap-low.ensures in
    let checked = rw (sign, bits, least) at c.simplest_inside.ensures in
    part_checks v _ _ f x _ (m * 2 ^ k) (low f) c.simplest_inside.result is part (gap_checks v _ _ f _ (to_bits f x % top f) _ _ (2 ^ (low f - k + 2)) c.simplest_inside.result (pow_pos (low f - k + 2)) below above checked)

pub returns-then-is_whole-clause-lowest : goal.returns-then-is_whole-clause-lowest
returns-then-is_whole-clause-lowest g c = checked_lowest (λ p. g.T.Integer.value p.0) (λ p. g.T.Integer.value p.1) _ _ _ c.scaled_by_powers.result c.scaled_by_powers.ensures

pub returns-clause-lowest : goal.returns-clause-lowest
returns-clause-lowest g c = inside_lowest g.T.Integer.value _ _ _ _ _ _ c.simplest_inside.result (pow_pos _) c.simplest_inside.ensures
