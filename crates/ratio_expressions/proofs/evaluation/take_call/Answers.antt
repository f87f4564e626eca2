use Rattle.std.proofs.Common.{◌≡◌, ◌∙◌, ◌∷◌, ◌-◌, List, drop, length, map, reverse, take, ap, arith, subst, sym}
use Rattle.std.specs.Prelude.{MatchResult}
use Rattle.ratio_expressions.specs.Calls.{GivesCall, RefusesCall}
use Rattle.ratio_expressions.specs.Stacks.{FailsWith, worths}
use Rattle.ratio_expressions.specs.Values.{piece}
use Rattle.ratio_expressions.specs.Worths.{worth}
use Rattle.ratio_expressions.specs.declared.value.Value.{Value}
use Rattle.ratio_expressions.proofs.StackLemmas.{behind, last_values, put_down}
use Rattle.ratio_expressions.proofs.evaluation.take_call.Goals as goal

pub returns : goal.returns
returns c =
    let name = piece c.args.text.now c.args.call.name in
    let n = c.args.call.arguments in
    let stack : List Value = c.args.stack.now.items in
    let first = c.len.result - n in
    let count : length stack ≡ c.len.result = sym (ap length c.deref.ensures.value) ∙ c.deref.ensures.len ∙ sym c.len.ensures in
    let q = last_values stack n first (omega (arith, count, c.len.ensures, c.requires.enough)) (sym (ap (λ m. m - n) count)) in
    let ws = reverse (take n (worths stack)) in
    let given : map worth (take (length c.deref.result.now - first) (drop first c.deref.result.now)) ≡ ws =
    ap (λ (l : List Value). map worth (take (length l - first) (drop first l))) c.deref.ensures.value ∙ ap (map worth) (behind stack first) ∙ q.0 in
    let found = c.in_ok-value.value in
    put_down found c.put.result (GivesCall name ws) (RefusesCall name ws) (drop n (worths stack)) (worths c.put.new.stack.items) c.args.call.name.start
    (subst (λ l. MatchResult found (λ v. GivesCall name l (worth v)) (RefusesCall name l)) given c.in_ok-value.ensures)
    (subst
    (λ l. MatchResult found (λ v. MatchResult c.put.result (λ _. worths c.put.new.stack.items ≡ worth v ∷ l) (FailsWith (λ _. ⊥)))
    (λ reason. MatchResult c.put.result (λ _. ⊥) (FailsWith (λ r. (r.reason ≡ reason) × (r.place ≡ c.args.call.name.start)))))
    (ap worths c.truncate.ensures.items ∙ q.1) c.put.ensures)
