use Rattle.std.proofs.Common.{refl}
use Rattle.ratio_c.proofs.hash.MixedCodeList.take.Goals as goal

pub returns : goal.returns
returns g c = rw (c.residue.ensures, c.note.ensures) refl
