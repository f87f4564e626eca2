use Rattle.std.proofs.Common.{◌∙◌, inr, refl}
use Rattle.ratio_expressions.specs.Bound.{named}
use Rattle.ratio_expressions.specs.Worths.{worth}
use Rattle.ratio_expressions.proofs.LineLemmas.{text_worth}
use Rattle.ratio_expressions.proofs.Places.{refusal_within, steps_within, tree_begins}
use Rattle.ratio_expressions.proofs.text_value.value_of.Goals as goal

pub value_of_steps-requires-clause-tree : goal.value_of_steps-requires-clause-tree
value_of_steps-requires-clause-tree c =
    let found = c.in-Ok.ensures.found in
    record { tree = found.0; proper = found.1.has.proper; single = found.1.has.single; same = c.deref.ensures.value ∙ found.2 }

pub value_of_steps-requires-clause-within : goal.value_of_steps-requires-clause-within
value_of_steps-requires-clause-within c =
    let found = c.in-Ok.ensures.found in
    steps_within c.args.text.now found.0 c.deref.result.now found.1 (c.deref.ensures.value ∙ found.2)

pub returns-in-Ok-clause-value : goal.returns-in-Ok-clause-value
returns-in-Ok-clause-value c =
    let found = c.in-Ok.ensures.found in
    text_worth c.value_of_steps.result worth c.args.text.now (named c.args.names.now) c.deref.result.now found.0 found.1 (c.in-Ok.ensures.shallow refl)
    (c.deref.ensures.value ∙ found.2) c.value_of_steps.ensures.value

pub returns-in-Ok-clause-refusal : goal.returns-in-Ok-clause-refusal
returns-in-Ok-clause-refusal c = λ r e.
    let found = c.in-Ok.ensures.found in
    inr (record {
      tree = found.0;
      has = found.1;
      shallow = c.in-Ok.ensures.shallow refl;
      refusal = c.value_of_steps.ensures.refusal r e found.0 (c.deref.ensures.value ∙ found.2);
    })

pub returns-in-Ok-clause-within : goal.returns-in-Ok-clause-within
returns-in-Ok-clause-within c = λ r e.
    let found = c.in-Ok.ensures.found in
    refusal_within c.args.text.now (named c.args.names.now) r found.0 found.1 (c.value_of_steps.ensures.refusal r e found.0 (c.deref.ensures.value ∙ found.2))

pub returns-in-Ok-clause-memory : goal.returns-in-Ok-clause-memory
returns-in-Ok-clause-memory c = λ e.
    let found = c.in-Ok.ensures.found in
    tree_begins c.args.text.now found.0 found.1
