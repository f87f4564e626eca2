-- What follows if a test holds.
use Rattle.ratio_c.specs.Calls.{Tested}

pub where_held : {P Then Else : Type 0} → P → Then → Tested P Then Else
where_held held then = record { yes = λ again. then; no = λ other. absurd (other held) }

pub where_not : {P Then Else : Type 0} → ¬ P → Else → Tested P Then Else
where_not not otherwise = record { yes = λ held. absurd (not held); no = λ other. otherwise }
