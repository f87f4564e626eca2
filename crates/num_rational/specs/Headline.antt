-- The headline: what `headline` gives for any two fractions with non-zero denominators, over any lawful integer type.
use Rattle.std.specs.Prelude.{◌≡◌, ◌↔◌, ◌+◌, ◌<ℤ◌, ◌++◌, ℕ, ℤ, pos, IsNone, IsTrue, List}
use Rattle.ratio_core.specs.ContinuedFraction.{IsCodeCount, IsCodesOf, IsStepCount}
use Rattle.ratio_core.specs.declared.steps.Steps.{Steps}
use Rattle.num_rational.specs.declared.main_statement.HeadlineResult.{HeadlineResult}
use Rattle.num_rational.specs.declared.ratio.Ratio.{Ratio}
use Rattle.num_rational.specs.Comparison.{AreEqual, order_of}
use Rattle.num_rational.specs.Operators.{ChecksProduct, ChecksQuotient, numbers}
use Rattle.num_rational.specs.Ratio.{denominator, numerator}

-- what `headline` gives for two fractions: order and equality by the cross products; their own codes, equal exactly if the fractions are;
-- how many steps each call counts, which is at most twice the binary digits of the smaller denominator (for hashing, of the fraction's own);
-- for positive denominators, product and quotient in lowest terms exactly where these fit, and for others none. A list or a count is given
-- twice: before the call (.0) and after it (.1). A step is at most one division
pub record IsHeadline {T : _} {i : _} {o : _} {e : _} {p : _} {h : _} (x y : Ratio T i o e p h) (told : HeadlineResult T i o e p h) (xs ys : List ℤ × List ℤ) (compared x_hashed y_hashed : Steps × Steps) : Type 0 where
  -- they are ordered as their unbounded cross products say
  pub ordered : told.order ≡ order_of x y
  -- they are found equal as these say
  pub found_equal : IsTrue told.equal ↔ AreEqual x y
  -- each feeds its list its own codes
  pub x_codes : List ℤ
  pub y_codes : List ℤ
  pub x_fed : (xs.1 ≡ xs.0 ++ x_codes) × IsCodesOf i.lo i.hi (numerator x) (denominator x) x_codes
  pub y_fed : (ys.1 ≡ ys.0 ++ y_codes) × IsCodesOf i.lo i.hi (numerator y) (denominator y) y_codes
  -- they are hashed alike exactly if they are equal
  pub hashed_alike : (x_codes ≡ y_codes) ↔ AreEqual x y
  -- a comparison takes equally many steps on each side: none if both cross products are in range, and else exactly one for each round.
  -- That is at most twice as many as the smaller denominator has binary digits, which is the field `bound` of the count
  pub compare_steps : ℕ
  pub compared_by : (compared.1.left ≡ compared.0.left + compare_steps) × (compared.1.right ≡ compared.0.right + compare_steps)
  pub compare_count : IsStepCount i.lo i.hi (numerator x) (denominator x) (numerator y) (denominator y) compare_steps
  -- hashing takes exactly one for each quotient that is not hi + 1: at most twice as many as the denominator has binary digits (`bound`)
  pub x_steps : ℕ
  pub y_steps : ℕ
  pub hashed_by : (x_hashed.1.left ≡ x_hashed.0.left + x_steps) × (y_hashed.1.left ≡ y_hashed.0.left + y_steps)
  pub hash_counts : IsCodeCount i.hi (numerator x) (denominator x) x_steps × IsCodeCount i.hi (numerator y) (denominator y) y_steps
  -- for positive denominators, the product and the quotient are the lowest terms exactly where these fit
  pub multiplied : pos 0 <ℤ denominator x → pos 0 <ℤ denominator y → ChecksProduct (numbers x) (numbers y) told.product
  pub divided : pos 0 <ℤ denominator x → pos 0 <ℤ denominator y → ChecksQuotient (numbers x) (numbers y) told.quotient
  -- for any other signs of the denominators, there is no product and no quotient
  pub refused : ¬ ((pos 0 <ℤ denominator x) × (pos 0 <ℤ denominator y)) → IsNone told.product × IsNone told.quotient
