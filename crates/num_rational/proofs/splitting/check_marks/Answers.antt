use Rattle.std.specs.Prelude.{◌≡◌, ◌<ℤ◌, length, pos, take}
use Rattle.std.proofs.Common.{ap, arith, subst, sym, ◌∙◌}
use Rattle.std.proofs.Math.Seq.{take-length}
use borrow.Author.Count.{below_more}
use Rattle.ratio_integer.specs.Arithmetic.{sum_of}
use Rattle.ratio_integer.specs.Fraction.{IsLowestTermsOf}
use Rattle.ratio_integer.proofs.Whole.{mul_positive}
use Rattle.ratio_core.proofs.LawLemmas.{same_value_sums}
use Rattle.ratio_core.proofs.TestLemmas.{if_false}
use Rattle.num_rational.specs.Split.{MarkFits, share_numbers, total_of_shares}
use Rattle.num_rational.proofs.CommonLemmas.{first_shares_up}
use Rattle.num_rational.proofs.SplitLemmas.{mark_fits, mark_fits_moved, mark_moved, one_told, total_next}
use Rattle.num_rational.proofs.splitting.check_marks.Goals as goal

pub loop-i-init : goal.loop-i-init
loop-i-init g c =
    let view = g.S.Share.two_numbers in
    record { fit = c.requires.fit; value = c.requires.sum; up = (first_shares_up view c.args.count c.args.shares.now c.requires.positive c.requires.none_below).1 }

pub returns-in-None : goal.returns-in-None
returns-in-None g c =
    let T = g.T.Integer in
    let sum = share_numbers c.loop-i.sum in
    let view = g.S.Share.two_numbers in
    let share = view c.index-shares-i.result in
    let low = share_numbers c.lowest.result in
    let before = total_of_shares view (take c.loop-i.i c.args.shares.now) in
    let positive : pos 0 <ℤ share.1 = subst (λ x. pos 0 <ℤ (view x).1) (sym c.index-shares-i.is) (c.requires.positive c.loop-i.i c.index-shares-i.result c.loop-i-test.true) in
    let same = same_value_sums before.0 before.1 share.0 share.1 sum.0 sum.1 low.0 low.1 c.loop-i.invariant.value.same (c.lowest.ensures positive).same in
    let next = total_next view c.args.shares.now c.loop-i.i c.index-shares-i.result c.loop-i-test.true c.index-shares-i.is in
    λ all. c.in-None.ensures (mark_fits_moved T.lo T.hi (T.value c.args.amount) (sum_of before.0 before.1 share.0 share.1) (sum_of sum.0 sum.1 low.0 low.1)
    (mul_positive before.1 share.1 c.loop-i.invariant.up positive)
    (mul_positive sum.1 low.1 c.loop-i.sum.lowest.positive c.lowest.result.lowest.positive)
    (sym same)
    (subst (MarkFits T.lo T.hi (T.value c.args.amount)) next (all c.loop-i.i c.loop-i-test.true)))

pub loop-i-preserved : goal.loop-i-preserved
loop-i-preserved g c =
    let T = g.T.Integer in
    let sum = share_numbers c.loop-i.sum in
    let view = g.S.Share.two_numbers in
    let share = view c.index-shares-i.result in
    let low = share_numbers c.lowest.result in
    let before = total_of_shares view (take c.loop-i.i c.args.shares.now) in
    let positive : pos 0 <ℤ share.1 = subst (λ x. pos 0 <ℤ (view x).1) (sym c.index-shares-i.is) (c.requires.positive c.loop-i.i c.index-shares-i.result c.loop-i-test.true) in
    let same = same_value_sums before.0 before.1 share.0 share.1 sum.0 sum.1 low.0 low.1 c.loop-i.invariant.value.same (c.lowest.ensures positive).same in
    let next = total_next view c.args.shares.now c.loop-i.i c.index-shares-i.result c.loop-i-test.true c.index-shares-i.is in
    let up = mul_positive before.1 share.1 c.loop-i.invariant.up positive in
    let mark = mark_moved T.lo T.hi (T.value c.args.amount) (sum_of sum.0 sum.1 low.0 low.1) (sum_of before.0 before.1 share.0 share.1)
    (mul_positive sum.1 low.1 c.loop-i.sum.lowest.positive c.lowest.result.lowest.positive) up
    same (share_numbers c.in-Some.next) _ c.in-Some.ensures in
    record {
      fit = below_more _ _ c.loop-i.invariant.fit (subst (MarkFits T.lo T.hi (T.value c.args.amount)) (sym next) (mark_fits T.lo T.hi (T.value c.args.amount) (sum_of before.0 before.1 share.0 share.1) _ _ mark));
      value = subst (λ x. IsLowestTermsOf x.0 x.1 (share_numbers c.in-Some.next).0 (share_numbers c.in-Some.next).1) (sym next) mark.value;
      up = subst (λ x. pos 0 <ℤ x.1) (sym next) up;
    }

pub returns-then-eq : goal.returns-then-eq
returns-then-eq g c =
    let T = g.T.Integer in
    let whole : take c.loop-i.i c.args.shares.now ≡ c.args.shares.now = ap (λ n. take n c.args.shares.now) (let e : c.loop-i.i ≡ length c.args.shares.now = omega arith in e) ∙ take-length c.args.shares.now in
    let value = subst (λ xs. IsLowestTermsOf (total_of_shares g.S.Share.two_numbers xs).0 (total_of_shares g.S.Share.two_numbers xs).1 (share_numbers c.loop-i.sum).0 (share_numbers c.loop-i.sum).1) whole c.loop-i.invariant.value in
    let equal : T.value c.numer.result.now ≡ T.value c.denom.result.now = (g.met.T.Integer.eq_law c.numer.result.now c.denom.result.now).0 (sym c.eq.ensures ∙ c.if-eq.true) in
    let same : (share_numbers c.loop-i.sum).0 ≡ (share_numbers c.loop-i.sum).1 = sym c.numer.ensures.value ∙ equal ∙ c.denom.ensures.value in
    (λ k below. c.loop-i.invariant.fit k (omega arith), (one_told (total_of_shares g.S.Share.two_numbers c.args.shares.now) (share_numbers c.loop-i.sum) value).1 same)

pub returns-else-eq : goal.returns-else-eq
returns-else-eq g c =
    let T = g.T.Integer in
    let whole : take c.loop-i.i c.args.shares.now ≡ c.args.shares.now = ap (λ n. take n c.args.shares.now) (let e : c.loop-i.i ≡ length c.args.shares.now = omega arith in e) ∙ take-length c.args.shares.now in
    let value = subst (λ xs. IsLowestTermsOf (total_of_shares g.S.Share.two_numbers xs).0 (total_of_shares g.S.Share.two_numbers xs).1 (share_numbers c.loop-i.sum).0 (share_numbers c.loop-i.sum).1) whole c.loop-i.invariant.value in
    let other = if_false _ (g.met.T.Integer.eq_law c.numer.result.now c.denom.result.now) (sym c.eq.ensures ∙ c.if-eq.false) in
    (λ k below. c.loop-i.invariant.fit k (omega arith), λ one. other (c.numer.ensures.value ∙ (one_told (total_of_shares g.S.Share.two_numbers c.args.shares.now) (share_numbers c.loop-i.sum) value).0 one ∙ sym c.denom.ensures.value))
