-- Written by templates/write from templates/numbers.antt.txt: change that file, and write this one anew.
-- Fractions of 32 bits as they cross.
use Rattle.std.specs.Prelude.{ℤ}
use Rattle.ratio_c.specs.Crossing.{Said}
use Rattle.ratio_c.specs.declared.numbers32.Fraction32.{Fraction32}
use Rattle.ratio_c.specs.declared.numbers32.Answer32.{Answer32}

-- the two numbers of a fraction of 32 bits
abbrev pub fraction32 : Fraction32 → ℤ × ℤ
fraction32 x = (x.numer, x.denom)

-- the code and the two numbers of an answer of 32 bits
abbrev pub said32 : Answer32 → Said
said32 answer = (answer.code, fraction32 answer.value)
