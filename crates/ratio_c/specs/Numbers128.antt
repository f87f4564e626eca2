-- Written by templates/write from templates/numbers.antt.txt: change that file, and write this one anew.
-- Fractions of 128 bits as they cross.
use Rattle.std.specs.Prelude.{ℤ}
use Rattle.ratio_c.specs.Crossing.{Said, wide_number}
use Rattle.ratio_c.specs.declared.numbers128.Fraction128.{Fraction128}
use Rattle.ratio_c.specs.declared.numbers128.Answer128.{Answer128}

-- the two numbers of a fraction of 128 bits
abbrev pub fraction128 : Fraction128 → ℤ × ℤ
fraction128 x = (wide_number x.numer, wide_number x.denom)

-- the code and the two numbers of an answer of 128 bits
abbrev pub said128 : Answer128 → Said
said128 answer = (answer.code, fraction128 answer.value)
