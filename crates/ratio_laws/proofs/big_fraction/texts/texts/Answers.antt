use Rattle.ratio_big.specs.Fractions.{big_numbers}
use Rattle.ratio_laws.proofs.BigTextLawLemmas.{reads_own_text}
use Rattle.ratio_laws.proofs.big_fraction.texts.texts.Goals as goal

pub returns : goal.returns
returns c = reads_own_text (big_numbers c.args.x.now) c.args.x.now.kept.lowest
