use Rattle.std.proofs.Common.{◌≡◌, arith, length, rules, sym, ◌∙◌}
use Rattle.ratio_core.proofs.TestLemmas.{if_false}
use Rattle.num_rational.specs.Split.{NoShareIsBelowZero, share_numbers}
use Rattle.num_rational.proofs.CommonLemmas.{all_fit, can_split, one_shares, shares_over, total_lowest}
use Rattle.num_rational.proofs.splitting.split_shares.Goals as goal

pub check_marks-requires-clause-sum : goal.check_marks-requires-clause-sum
check_marks-requires-clause-sum g c = total_lowest c.total_over-count.ensures.total c.requires (search rules) (share_numbers c.lowest_over.result) c.lowest_over.ensures

pub write_parts_over-requires-clause-shares : goal.write_parts_over-requires-clause-shares
write_parts_over-requires-clause-shares g c =
    shares_over c.total_over-count.ensures.total (omega (arith, c.total_over-count.ensures.within, c.if-count-shares.false)) c.requires (search rules) ((g.met.T.Integer.eq_law _ _).0 (sym c.eq.ensures ∙ c.if-eq.true))

pub returns-then-eq-clause-ok : goal.returns-then-eq-clause-ok
returns-then-eq-clause-ok g c = (
  can_split c.total_over-count.ensures.total (omega (arith, c.total_over-count.ensures.within, c.if-count-shares.false)) c.requires (search rules) _ (search rules) ((g.met.T.Integer.eq_law _ _).0 (sym c.eq.ensures ∙ c.if-eq.true)),
  c.write_parts_over.ensures,
)

pub returns-else-eq-clause-refused : goal.returns-else-eq-clause-refused
returns-else-eq-clause-refused g c =
    let total = c.total_over-count.ensures.total in
    let none : NoShareIsBelowZero g.S.Share.two_numbers c.args.shares.now = search rules in
    let all : c.total_over-count.result.0 ≡ length c.args.shares.now = omega (arith, c.total_over-count.ensures.within, c.if-count-shares.false) in
    let other = if_false _ (g.met.T.Integer.eq_law c.total_over-count.result.1 c.total_over-count.result.2) (sym c.eq.ensures ∙ c.if-eq.false) in
    (search rules, none, all_fit total all c.requires none, λ one. other (one_shares total all c.requires none one))
