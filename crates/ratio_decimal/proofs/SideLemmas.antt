-- On which side a rest lies, and what a rule makes of it.
use Rattle.std.specs.Prelude.{◌≡◌, ◌≢◌, ◌↔◌, ◌≤ℤ◌, ◌<ℤ◌, ◌+ℤ◌, ◌-ℤ◌, ◌*ℤ◌, ℤ, pos, Bool, true, false, IsTrue}
use Rattle.std.proofs.Common.{refl, ap, arith, ◌∙◌, inl, inr}
use Rattle.std.proofs.lemmas.Int.{ints}
use Rattle.ratio_integer.proofs.Whole.{add-mul, mul_positive}
use Rattle.ratio_core.specs.Parts.{IsDivided, IsPart, carried}
use Rattle.ratio_core.proofs.Around.{up_product}
use Rattle.ratio_core.proofs.PartLemmas.{part_positive, whole_above, whole_below}
use Rattle.ratio_core.proofs.ProductOrder.{more-times, times_le}
use Rattle.ratio_core.proofs.TestLemmas.{if_false}
use Rattle.ratio_decimal.specs.RoundingRules.{GoesUp, IsRoundedBy}
use Rattle.ratio_decimal.specs.Sides.{IsSide, quarters}
use Rattle.ratio_decimal.specs.declared.rounding_rule.Rounding.{Rounding}
use Rattle.ratio_decimal.specs.declared.rounding_rule.Rounding.TheVariants.{HalfAway, HalfEven, Down, Up, Floor, Ceil}
use Rattle.ratio_decimal.specs.declared.rounding_rule.Side.{Side}
use Rattle.ratio_decimal.specs.declared.rounding_rule.Side.TheVariants.{Zero, BelowHalf, Half, AboveHalf}
use Rattle.ratio_decimal.proofs.RoundingRuleLemmas.{rises, stays}

-- ---- a rest and the quarters of its side

module _ (r d : ℤ) (part : IsPart r d) where
  past : (side : Side) → IsSide side r d → (pos 4 <ℤ (quarters side +ℤ quarters side)) ↔ (d <ℤ (r +ℤ r))
  past Zero is = let b = part.below in ((λ h. omega (arith, ints)), (λ h. omega (arith, ints)))
  past BelowHalf is = let b = is.1 in ((λ h. omega (arith, ints)), (λ h. omega (arith, ints)))
  past Half is = ((λ h. omega (arith, ints)), (λ h. omega (arith, ints)))
  past AboveHalf is = ((λ h. is), (λ h. omega (arith, ints)))

  half : (side : Side) → IsSide side r d → (quarters side +ℤ quarters side ≡ pos 4) ↔ (r +ℤ r ≡ d)
  half Zero is = let b = part.below in ((λ h. omega (arith, ints)), (λ h. omega (arith, ints)))
  half BelowHalf is = let b = is.1 in ((λ h. omega (arith, ints)), (λ h. omega (arith, ints)))
  half Half is = ((λ h. is), (λ h. omega (arith, ints)))
  half AboveHalf is = ((λ h. omega (arith, ints)), (λ h. omega (arith, ints)))

  some : (side : Side) → IsSide side r d → (pos 0 <ℤ quarters side) ↔ (pos 0 <ℤ r)
  some Zero is = ((λ h. omega (arith, ints)), (λ h. omega (arith, ints)))
  some BelowHalf is = ((λ h. is.0), (λ h. omega (arith, ints)))
  some Half is = let p = part_positive r d part in ((λ h. omega (arith, ints)), (λ h. omega (arith, ints)))
  some AboveHalf is = let p = part_positive r d part in ((λ h. omega (arith, ints)), (λ h. omega (arith, ints)))

  -- the rule goes up at the rest exactly if it goes up at the quarters of its side
  pub same_step : (rule : Rounding) (z : ℤ) (side : Side) → IsSide side r d → GoesUp rule z (quarters side) (pos 4) ↔ GoesUp rule z r d
  same_step HalfAway z side is = ((λ h. elim h [ inl k ↦ inl ((past side is).0 k) | inr k ↦ inr ((half side is).0 k.0, k.1) ]), (λ h. elim h [ inl k ↦ inl ((past side is).1 k) | inr k ↦ inr ((half side is).1 k.0, k.1) ]))
  same_step HalfEven z side is = ((λ h. elim h [ inl k ↦ inl ((past side is).0 k) | inr k ↦ inr ((half side is).0 k.0, k.1) ]), (λ h. elim h [ inl k ↦ inl ((past side is).1 k) | inr k ↦ inr ((half side is).1 k.0, k.1) ]))
  same_step Down z side is = ((λ h. (h.0, (some side is).0 h.1)), (λ h. (h.0, (some side is).1 h.1)))
  same_step Up z side is = ((λ h. (h.0, (some side is).0 h.1)), (λ h. (h.0, (some side is).1 h.1)))
  same_step Floor z side is = ((λ h. h), (λ h. h))
  same_step Ceil z side is = some side is

-- what the rule takes, is the rounded value
pub rounded_at : (rule : Rounding) (n d z r : ℤ) (side : Side) (up : Bool) → IsDivided n d z r → IsSide side r d → IsTrue up ↔ GoesUp rule z (quarters side) (pos 4) → IsRoundedBy rule n d (z +ℤ carried up)
rounded_at rule n d z r side true is on test = rises n d z r is rule ((same_step r d is.rest rule z side on).0 (test.0 refl))
rounded_at rule n d z r side false is on test =
    let same : z +ℤ pos 0 ≡ z = omega (arith, ints) in
    rw same (stays n d z r is rule (λ go. if_false false test refl ((same_step r d is.rest rule z side on).1 go)))

-- ---- the side of rest/d and left/b of 1/d

module _ (rest d left b : ℤ) (of_rest : IsPart rest d) (of_left : IsPart left b) where
  -- both as one rest
  pub both_part : IsPart (rest *ℤ b +ℤ left) (d *ℤ b)
  both_part = record { above = whole_above rest b left of_rest.above of_left; below = whole_below rest b left d of_rest.below of_left }

  positive : pos 0 <ℤ b
  positive = part_positive left b of_left

  -- twice a product
  twice : (x : ℤ) → (x +ℤ x) *ℤ b ≡ x *ℤ b +ℤ x *ℤ b
  twice x = add-mul x x b

  pub side_alone : (side : Side) → left ≡ pos 0 → IsSide side rest d → IsSide side (rest *ℤ b +ℤ left) (d *ℤ b)
  side_alone Zero none is = let e : rest *ℤ b ≡ pos 0 *ℤ b = ap (λ (t : ℤ). t *ℤ b) is in omega (arith, ints)
  side_alone BelowHalf none is =
      let p = positive in
      let t = twice rest in
      let l = is.1 in
      let more = mul_positive rest b is.0 p in
      let m : (((rest +ℤ rest) +ℤ pos 1) *ℤ b) ≤ℤ (d *ℤ b) = times_le ((rest +ℤ rest) +ℤ pos 1) d b (omega (arith, ints)) (omega (arith, ints)) in
      (omega (arith, ints), omega (arith, ints, more-times (rest +ℤ rest) b))
  side_alone Half none is = let e : (rest +ℤ rest) *ℤ b ≡ d *ℤ b = ap (λ (t : ℤ). t *ℤ b) is in let t = twice rest in omega (arith, ints)
  side_alone AboveHalf none is = let p = positive in let t = twice rest in let m : ((d +ℤ pos 1) *ℤ b) ≤ℤ ((rest +ℤ rest) *ℤ b) = times_le (d +ℤ pos 1) (rest +ℤ rest) b (omega (arith, ints)) (omega (arith, ints)) in omega (arith, ints, more-times d b)

  pub side_below : (after : ℤ) → pos 0 <ℤ left → after ≡ (d -ℤ rest) -ℤ pos 1 → rest <ℤ after → IsSide BelowHalf (rest *ℤ b +ℤ left) (d *ℤ b)
  side_below after more is less =
      let p = positive in
      let t = twice (rest +ℤ pos 1) in
      let l = of_left.below in
      let up = up_product rest b of_rest.above (omega (arith, ints)) in
      let m : (((rest +ℤ pos 1) +ℤ (rest +ℤ pos 1)) *ℤ b) ≤ℤ (d *ℤ b) = times_le ((rest +ℤ pos 1) +ℤ (rest +ℤ pos 1)) d b (omega (arith, ints)) (omega (arith, ints)) in
      (omega (arith, ints), omega (arith, ints, more-times rest b))

  pub side_at : (side : Side) (after : ℤ) → pos 0 <ℤ left → after ≡ (d -ℤ rest) -ℤ pos 1 → rest ≡ after → IsSide side left b → IsSide side (rest *ℤ b +ℤ left) (d *ℤ b)
  side_at side after more is at on = go side on
    where
      all : d *ℤ b ≡ (rest *ℤ b +ℤ rest *ℤ b) +ℤ b
      all = let e : d ≡ (rest +ℤ rest) +ℤ pos 1 = omega (arith, ints) in ap (λ (t : ℤ). t *ℤ b) e ∙ more-times (rest +ℤ rest) b ∙ ap (λ (t : ℤ). t +ℤ b) (twice rest)

      above : pos 0 ≤ℤ (rest *ℤ b)
      above = up_product rest b of_rest.above (let p = positive in omega (arith, ints))

      go : (side : Side) → IsSide side left b → IsSide side (rest *ℤ b +ℤ left) (d *ℤ b)
      go Zero k = absurd (omega (arith, ints))
      go BelowHalf k = let e = all in let u = above in let h = k.1 in (omega (arith, ints), omega (arith, ints))
      go Half k = let e = all in omega (arith, ints)
      go AboveHalf k = let e = all in omega (arith, ints)

  pub side_above : (after : ℤ) → pos 0 <ℤ left → after ≡ (d -ℤ rest) -ℤ pos 1 → after ≤ℤ rest → rest ≢ after → IsSide AboveHalf (rest *ℤ b +ℤ left) (d *ℤ b)
  side_above after more is most other =
      let p = positive in
      let t = twice rest in
      let less : after <ℤ rest = grind (arith, ints) in
      let m : (d *ℤ b) ≤ℤ ((rest +ℤ rest) *ℤ b) = times_le d (rest +ℤ rest) b (omega (arith, ints)) (omega (arith, ints)) in
      omega (arith, ints)
