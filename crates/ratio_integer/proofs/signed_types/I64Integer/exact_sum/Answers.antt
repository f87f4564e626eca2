use mir.Syntax.{w64}
use Rattle.std.proofs.lemmas.Int.{to_z-of_z}
use Rattle.ratio_integer.proofs.signed_types.I64Integer.exact_sum.Goals as goal

pub exact_sum-requires-clause-left_positive : goal.exact_sum-requires-clause-left_positive
exact_sum-requires-clause-left_positive c = rw (to_z-of_z w64 c.args.b c.ranges.b) c.requires.left_positive

pub exact_sum-requires-clause-right_positive : goal.exact_sum-requires-clause-right_positive
exact_sum-requires-clause-right_positive c = rw (to_z-of_z w64 c.args.d c.ranges.d) c.requires.right_positive

pub returns-clause-exact : goal.returns-clause-exact
returns-clause-exact c = rw (to_z-of_z w64 c.args.a c.ranges.a, to_z-of_z w64 c.args.b c.ranges.b, to_z-of_z w64 c.args.c c.ranges.c, to_z-of_z w64 c.args.d c.ranges.d) at c.exact_sum.ensures
