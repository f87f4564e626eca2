use Rattle.std.specs.Prelude.{◌≡◌, ◌↔◌, Bool, true, false, refl, IsTrue}
use Rattle.ratio_core.proofs.EqualityLaws.{told_same}
use Rattle.num_rational.specs.Ratio.{denominator, numerator}
use Rattle.num_rational.proofs.HeadlineLemmas.{codes_alike}
use Rattle.num_rational.proofs.main_statement.headline.Goals as goal
use Rattle.num_rational.proofs.main_statement.headline.Goals.{then-is_upright+then-is_upright-2, else-is_upright, else-is_upright-via-then-is_upright+else-is_upright-2, else-is_upright-via-else-is_upright}

-- a test that is false tells that its fact does not hold
denied : {P Q : Type 0} (b : Bool) → IsTrue b ↔ P → b ≡ false → P → Q
denied b tells is_false holds = let is_true : b ≡ true = tells.1 holds in absurd (cc)

pub returns : goal.returns
returns g c =
    let x = c.args.x.now in
    let y = c.args.y.now in
    let xs = c.hash_counted.ensures.codes in
    let ys = c.hash_counted-2.ensures.codes in
    let x_taken = c.hash_counted.ensures.left in
    let y_taken = c.hash_counted-2.ensures.left in
    let taken = c.cmp_counted-order.ensures.steps in
    record {
      ordered = c.cmp_counted-order.ensures.order;
      found_equal = told_same (numerator x) (denominator x) (numerator y) (denominator y) c.eq-equal.result c.eq-equal.ensures;
      x_codes = xs.0;
      y_codes = ys.0;
      x_fed = (xs.3, xs.1);
      y_fed = (ys.3, ys.1);
      hashed_alike = codes_alike g.T.Integer.lo g.T.Integer.hi (numerator x) (denominator x) (numerator y) (denominator y) xs.0 ys.0 (rw c.numer.ensures.value at c.both_held.ensures.first) (rw c.denom.ensures.value at c.both_held.ensures.second) c.denom.ensures.nonzero xs.2 ys.1;
      compare_steps = taken.0;
      compared_by = (taken.1, taken.2);
      compare_count = taken.3;
      x_steps = x_taken.0;
      y_steps = y_taken.0;
      hashed_by = (x_taken.1, y_taken.1);
      hash_counts = (x_taken.2, y_taken.2);
      multiplied =
          elim c.if-is_upright.branch [
            | then-is_upright+then-is_upright-2 w ↦ rw w.product-is (λ left right. w.checked_mul.ensures)
            | else-is_upright w ↦ elim w.else-is_upright.branch [
              | else-is_upright-via-then-is_upright+else-is_upright-2 v ↦ λ left right. denied v.is_upright-then-is_upright.result v.is_upright-then-is_upright.ensures v.if-is_upright-2.false right
              | else-is_upright-via-else-is_upright v ↦ λ left right. denied c.is_upright.result c.is_upright.ensures v.if-is_upright.false left
            ]
          ];
      divided =
          elim c.if-is_upright.branch [
            | then-is_upright+then-is_upright-2 w ↦ rw w.product-is (λ left right. w.checked_div.ensures)
            | else-is_upright w ↦ elim w.else-is_upright.branch [
              | else-is_upright-via-then-is_upright+else-is_upright-2 v ↦ λ left right. denied v.is_upright-then-is_upright.result v.is_upright-then-is_upright.ensures v.if-is_upright-2.false right
              | else-is_upright-via-else-is_upright v ↦ λ left right. denied c.is_upright.result c.is_upright.ensures v.if-is_upright.false left
            ]
          ];
      refused =
          elim c.if-is_upright.branch [
            | then-is_upright+then-is_upright-2 w ↦ λ either. absurd (either (c.is_upright.ensures.0 w.if-is_upright.true, w.is_upright-then-is_upright.ensures.0 w.if-is_upright-2.true))
            | else-is_upright w ↦ rw w.product-is (λ _. (refl, refl))
          ];
    }
