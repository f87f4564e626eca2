use Rattle.std.specs.Prelude.{◌≡◌, pos}
use Rattle.std.proofs.Common.{arith, ap, sym, refl, inl, inr, ◌∙◌}
use Rattle.std.proofs.lemmas.Int.{ints}
use Rattle.ratio_integer.specs.Comparison.{Tells, yes, no}
use Rattle.ratio_integer.proofs.DivisionLemmas.{Side, Same, left, moved, moved_held, other_side}
use Rattle.ratio_integer.proofs.FlooredDivision.{floored_held}
use Rattle.ratio_integer.proofs.integer.Integer.div_mod_floor.Given.{Over}
use Rattle.ratio_integer.proofs.integer.Integer.div_mod_floor.Goals as goal
use Rattle.ratio_integer.proofs.integer.Integer.div_mod_floor.Goals.{Then-other_side, then-lt, else-lt}

-- the remainder is on the other side of 0
on_other_side : (g : Over) (c : Then-other_side g) → Side (g.Self.Integer.value c.div_rem-quotient.result.1) (g.Self.Integer.value c.args.o)
on_other_side g c =
    let v = g.Self.Integer.value in
    let m = g.met.Self.Integer in
    let rest = c.div_rem-quotient.result.1 in
    let below = m.lt_law c.args.o c.ZERO.result in
    yes _ (other_side (v rest) (v c.args.o) _ c.if-lt.other_side m.zero_law c.requires.nonzero (elim c.if-lt.branch [
      | then-lt w ↦ inl (let h = yes _ below (sym c.lt.ensures ∙ w.if-lt.true) in omega (arith, ints, ap v c.ZERO.ensures, h), rw (w.other_side-is, w.lt-other_side.ensures, ← w.ZERO-then-lt.ensures) (m.lt_law w.ZERO-then-lt.result rest))
      | else-lt w ↦ inr (let h = no _ below (sym c.lt.ensures ∙ w.if-lt.false) in omega (arith, ints, ap v c.ZERO.ensures, h), rw (w.other_side-is, w.lt-other_side-else-lt.ensures, ← w.ZERO-else-lt.ensures) (m.lt_law rest w.ZERO-else-lt.result))
    ])) c.if-other_side.true

pub minus-requires : goal.minus-requires
minus-requires g c =
    let v = g.Self.Integer.value in
    let m = g.met.Self.Integer in
    let one : v c.ONE.result ≡ pos 1 = ap v c.ONE.ensures ∙ m.one_law in
    (floored_held _ _ _ _ m.range_law c.held.ensures.range c.held-2.ensures.range c.requires.nonzero c.requires.held).each _ _ (moved _ _ _ _ (v c.ONE.result) _ _ c.div_rem-quotient.ensures.quotient c.div_rem-quotient.ensures.remainder one (on_other_side g (goal.at.minus-requires g c).Then-other_side) refl refl)

pub plus-requires : goal.plus-requires
plus-requires g c =
    moved_held _ _ (g.Self.Integer.value c.args.self) _ _ g.met.Self.Integer.range_law c.held.ensures.range c.held-2.ensures.range c.div_rem-quotient.ensures.remainder (on_other_side g (goal.at.plus-requires g c).Then-other_side)

pub returns-then-other_side : goal.returns-then-other_side
returns-then-other_side g c =
    let v = g.Self.Integer.value in
    let one : v c.ONE.result ≡ pos 1 = ap v c.ONE.ensures ∙ g.met.Self.Integer.one_law in
    moved _ _ _ _ (v c.ONE.result) _ _ c.div_rem-quotient.ensures.quotient c.div_rem-quotient.ensures.remainder one (on_other_side g (goal.at.returns-then-other_side g c).Then-other_side) c.minus.ensures c.plus.ensures

pub returns-else-other_side : goal.returns-else-other_side
returns-else-other_side g c =
    let v = g.Self.Integer.value in
    let m = g.met.Self.Integer in
    let z : v g.Self.Integer.ZERO ≡ pos 0 = m.zero_law in
    let r = v c.div_rem-quotient.result.1 in
    let b = v c.args.o in
    let t : Tells c.if-lt.other_side (Side r b) (Same r b) =
    other_side r b (v g.Self.Integer.ZERO) _ z c.requires.nonzero (elim c.if-lt.branch [
      | then-lt w ↦ inl (let h = yes _ (m.lt_law c.args.o c.ZERO.result) (sym c.lt.ensures ∙ w.if-lt.true) in omega (arith, ints, ap v c.ZERO.ensures, h), rw (w.other_side-is, w.lt-other_side.ensures, ← w.ZERO-then-lt.ensures) (m.lt_law w.ZERO-then-lt.result c.div_rem-quotient.result.1))
      | else-lt w ↦ inr (let h = no _ (m.lt_law c.args.o c.ZERO.result) (sym c.lt.ensures ∙ w.if-lt.false) in omega (arith, ints, ap v c.ZERO.ensures, h), rw (w.other_side-is, w.lt-other_side-else-lt.ensures, ← w.ZERO-else-lt.ensures) (m.lt_law c.div_rem-quotient.result.1 w.ZERO-else-lt.result))
    ]) in
    left _ _ _ _ c.requires.nonzero c.div_rem-quotient.ensures.quotient c.div_rem-quotient.ensures.remainder (no _ t c.if-other_side.false)
