use Rattle.std.specs.Prelude.{◌++◌, ℤ}
use Rattle.std.proofs.Common.{ap}
use Rattle.ratio_laws.proofs.ReducedLemmas.{one_pair}
use Rattle.ratio_big.specs.Fractions.{big_numbers}
use Rattle.ratio_big.specs.Hashing.{number_writes}
use Rattle.ratio_laws.proofs.BigHashLawLemmas.{first_tells, last_tells}
use Rattle.ratio_laws.proofs.big_fraction.order.hashes.Goals as goal

pub returns : goal.returns
returns c =
    let x = big_numbers c.args.x.now in
    let y = big_numbers c.args.y.now in (
      (λ same. let first = first_tells x.0 y.0 x.1 y.1 same in one_pair x y (first.0, last_tells x.1 y.1 first.1)),
      ap (λ (z : ℤ × ℤ). number_writes z.0 ++ number_writes z.1),
    )
