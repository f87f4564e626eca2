use Rattle.std.proofs.Common.{◌≡◌, ◌∙◌, List, map, refl, subst, sym}
use Rattle.std.specs.Prelude.{MatchOption}
use Rattle.std.proofs.lemmas.List.{length-map}
use Rattle.ratio_big.specs.Fractions.{big_numbers}
use Rattle.ratio_big.specs.declared.fraction.BigFraction.{BigFraction}
use Rattle.ratio_expressions.specs.Calls.{AnswersArguments, HaveTruth, RefusesAmounts}
use Rattle.ratio_expressions.specs.Functions.{GivesNumber, TakesCount}
use Rattle.ratio_expressions.specs.Limits.{FitTogether}
use Rattle.ratio_expressions.specs.Worths.{worth, Amount}
use Rattle.ratio_expressions.proofs.CallLaws.{amounts_refused}
use Rattle.ratio_expressions.proofs.CallLemmas.{all_lowest}
use Rattle.ratio_expressions.proofs.calls.called.Goals as goal

pub returns-in-Ok : goal.returns-in-Ok
returns-in-Ok c =
    let f = c.in-Some.function in
    let ws = map worth c.args.arguments.now in
    let xs : List BigFraction = c.in-Some-2.numbers.items in
    let given = subst (λ (l : List BigFraction). AnswersArguments f (map big_numbers l) c.in_ok-result.field-0) c.deref.ensures.value c.in_ok-result.ensures in
    let answer : FitTogether (map big_numbers xs) × GivesNumber f (map big_numbers xs) (big_numbers c.in-Ok.result) = subst (AnswersArguments f (map big_numbers xs)) c.in-Ok.is given in
    record {
      function = f;
      numbers = map big_numbers xs;
      result = big_numbers c.in-Ok.result;
      named = sym c.function_named.ensures ∙ c.in-Some.is;
      count = subst (TakesCount f) (sym (length-map c.args.arguments.now worth)) (c.if-not-takes.ensures.0 refl);
      given = record { same = subst (λ r. MatchOption r (HaveTruth ws) (λ v. ws ≡ map Amount (map big_numbers v.items))) c.in-Some-2.is c.in_ok-numbers.ensures; lowest = all_lowest xs };
      fit = answer.0;
      gives = answer.1;
      is = refl;
    }

pub returns : goal.returns
returns c =
    let f = c.in-Some.function in
    let ws = map worth c.args.arguments.now in
    let xs : List BigFraction = c.in-Some-2.numbers.items in
    let given = subst (λ (l : List BigFraction). AnswersArguments f (map big_numbers l) c.in_ok-result.field-0) c.deref.ensures.value c.in_ok-result.ensures in
    let amounts : RefusesAmounts c.args.name.now ws c.in-Err.reason = record {
      function = f;
      numbers = map big_numbers xs;
      named = sym c.function_named.ensures ∙ c.in-Some.is;
      count = subst (TakesCount f) (sym (length-map c.args.arguments.now worth)) (c.if-not-takes.ensures.0 refl);
      given = record { same = subst (λ r. MatchOption r (HaveTruth ws) (λ v. ws ≡ map Amount (map big_numbers v.items))) c.in-Some-2.is c.in_ok-numbers.ensures; lowest = all_lowest xs };
      refuses = subst (AnswersArguments f (map big_numbers xs)) c.in-Err.is given;
    } in
    amounts_refused c.args.name.now ws c.in-Err.reason amounts
