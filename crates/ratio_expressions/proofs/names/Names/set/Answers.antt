use Rattle.std.proofs.Common.{◌≡◌, ℕ, List, Some, rules, subst}
use Rattle.std.specs.Prelude.{if◌then◌else◌}
use Rattle.std.specs.Str.{bytes_eq}
use Rattle.ratio_expressions.specs.Bound.{named}
use Rattle.ratio_expressions.specs.Worths.{worth}
use Rattle.ratio_expressions.proofs.NameLemmas.{named_after}
use Rattle.ratio_expressions.proofs.names.Names.set.Goals as goal

pub returns-in-Some-clause-set : goal.returns-in-Some-clause-set
returns-in-Some-clause-set c = λ other.
    named_after worth c.args.name.now c.args.value c.args.self.now.values (c.get_mut.follows.lender c.args.value) ((c.get_mut.follows.holds c.args.value).3 (search rules)) other

pub returns-clause-set : goal.returns-clause-set
returns-clause-set c = λ other.
    let old = c.get_mut.follows.lender-at-none in
    subst (λ m. named (record { values = c.insert.new.self }) other ≡ (if bytes_eq c.args.name.now other then Some (worth c.args.value) else named (record { values = m }) other)) c.get_mut.follows.holds-at-none
    (subst (λ (l : List ℕ). named (record { values = c.insert.new.self }) other ≡ (if bytes_eq l other then Some (worth c.args.value) else named (record { values = old }) other)) c.in_ok-key.ensures.items
    (named_after worth c.in_ok-key.key.items c.args.value old c.insert.new.self c.in_ok-insert.ensures.updates other))
