use Rattle.std.specs.Prelude.{◌≡◌, ◌↔◌, ℤ, pos, IfOk, IfSome, Option, None, Some, Result, Ok, Err}
use Rattle.std.specs.declared.alloc.AllocError.{AllocError}
use Rattle.ratio_core.specs.Laws.{IsProduct}
use Rattle.ratio_big.specs.Fractions.{GivesBigQuotient, big_numbers}
use Rattle.ratio_big.specs.declared.fraction.BigFraction.{BigFraction}
use Rattle.ratio_laws.specs.BigFieldLaws.{GivesOnly, IsQuotientOf, IsRefusedByZero, IsUndone}
use Rattle.ratio_uses.proofs.taxes.without_tax.Goals as goal

with_tax : (x y : ℤ × ℤ) (r : Result (Option BigFraction) AllocError) → IsUndone IsQuotientOf IsProduct x y → IfOk r (GivesBigQuotient x y) → IfOk r (λ price. IfSome price (λ p. GivesOnly IsProduct (big_numbers p) y x))
with_tax x y (Ok (Some p)) law is = law (big_numbers p) is
with_tax x y (Ok None) law is = tt
with_tax x y (Err e) law is = tt

refused : (x y : ℤ × ℤ) (r : Result (Option BigFraction) AllocError) → IsRefusedByZero x y → IfOk r (GivesBigQuotient x y) → IfOk r (λ price. (price ≡ None) ↔ (y.0 ≡ pos 0))
refused x y (Ok price) law is = law price is
refused x y (Err e) law is = tt

pub returns-clause-back : goal.returns-clause-back
returns-clause-back c = with_tax (big_numbers c.args.paid.now) (big_numbers c.args.factor.now) c.divide.result c.quotients.ensures.quotient c.divide.ensures.quotient

pub returns-clause-none : goal.returns-clause-none
returns-clause-none c = refused (big_numbers c.args.paid.now) (big_numbers c.args.factor.now) c.divide.result c.quotients.ensures.zero c.divide.ensures.quotient
