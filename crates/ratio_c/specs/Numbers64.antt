-- Written by templates/write from templates/numbers.antt.txt: change that file, and write this one anew.
-- Fractions of 64 bits as they cross.
use Rattle.std.specs.Prelude.{ℤ}
use Rattle.ratio_c.specs.Crossing.{Said}
use Rattle.ratio_c.specs.declared.numbers64.Fraction64.{Fraction64}
use Rattle.ratio_c.specs.declared.numbers64.Answer64.{Answer64}

-- the two numbers of a fraction of 64 bits
abbrev pub fraction64 : Fraction64 → ℤ × ℤ
fraction64 x = (x.numer, x.denom)

-- the code and the two numbers of an answer of 64 bits
abbrev pub said64 : Answer64 → Said
said64 answer = (answer.code, fraction64 answer.value)
