use Rattle.ratio_c.proofs.SameDivisors.{lcm_checked}
use Rattle.ratio_c.proofs.divisors.lcm.Goals as goal

pub returns : goal.returns
returns g c =
    let T = g.T.Integer in
    let x = c.args in
    let p = c.lowest_terms-a.result in
    let q = c.lowest_terms-c.result in
    lcm_checked (λ r. T.value r.0) (λ r. T.value r.1) T.lo T.hi (T.value x.a) (T.value x.b) (T.value x.c) (T.value x.d) (T.value p.0) (T.value p.1) (T.value q.0) (T.value q.1) c.checked_lcm.result
    c.lowest_terms-a.ensures.terms c.lowest_terms-c.ensures.terms c.checked_lcm.ensures
