use Rattle.std.proofs.Common.{rules}
use Rattle.ratio_big.specs.Fractions.{big_numbers}
use Rattle.ratio_expressions.proofs.FloatTextLemmas.{finite_written}
use Rattle.ratio_expressions.proofs.replies.float.finite_text.Goals as goal

pub returns : goal.returns
returns c = finite_written c.args.float (big_numbers c.args.value.now) c.in_ok-places.places c.into_bytes.result.items c.requires.exact c.in_ok-places.ensures (search rules)
