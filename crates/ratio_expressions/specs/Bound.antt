-- What each name is worth.
use Rattle.std.specs.Prelude.{ℕ, List, Option, option_map}
use Rattle.std.specs.BTreeMap.{get_by}
use Rattle.std.specs.Cmp.Lexicographic.{slice_cmp}
use Rattle.std.specs.Ordering.{nat_cmp}
use Rattle.ratio_expressions.specs.declared.names.Names.{Names}
use Rattle.ratio_expressions.specs.Worths.{Worth, worth}

-- what a name is worth, or `None` if nothing has this name
abbrev pub named : Names → List ℕ → Option Worth
named names name = option_map worth (get_by (λ k. slice_cmp nat_cmp name k.items) names.values)
