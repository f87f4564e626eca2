use Rattle.ratio_json.proofs.LawLemmas.{fraction_back}
use Rattle.ratio_big.specs.Fractions.{big_numbers}
use Rattle.ratio_json.proofs.laws.reads_back.Goals as goal

pub returns : goal.returns
returns c = λ x answer h. fraction_back (big_numbers x) answer x.kept.lowest h
