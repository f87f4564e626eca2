use Rattle.std.proofs.Common.{refl}
use Rattle.ratio_core.proofs.DigitGroups.{two_digits_at}
use Rattle.ratio_core.proofs.text.put_two_digits.Goals as goal

pub returns : goal.returns
returns c =
    let is = two_digits_at c.args.n c.requires.small in
    rw (is.0, is.1) refl
