use Rattle.std.proofs.Common.{◌≡◌, ◌∙◌, Err, Ok, Some, ap, inl, inr, refl, sym, subst, ⊎_elim}
use Rattle.std.specs.Prelude.{codes, if◌then◌else◌}
use Rattle.std.specs.List.{All}
use Rattle.std.specs.Str.{bytes_eq}
use Rattle.std.proofs.lemmas.Result.{err_from_is_err_and}
use Rattle.ratio_expressions.specs.Bound.{named}
use Rattle.ratio_expressions.specs.Grammar.{postfix}
use Rattle.ratio_expressions.specs.Lines.{valued}
use Rattle.ratio_expressions.specs.Stacks.{IsStepWithin}
use Rattle.ratio_expressions.specs.Worths.{worth}
use Rattle.ratio_expressions.specs.declared.refusal.ValueError.TheVariants.{Refused}
use Rattle.ratio_expressions.proofs.LineLemmas.{line_old_or_new, line_worth, target_first, valued_all, valued_proper, valued_single}
use Rattle.ratio_expressions.proofs.Places.{line_refusal_within, steps_within, tree_begins}
use Rattle.ratio_expressions.proofs.line.value_of_line.Goals as goal

pub value_of_steps-requires-clause-tree : goal.value_of_steps-requires-clause-tree
value_of_steps-requires-clause-tree c =
    let found = c.in_ok-steps.ensures.found in
    let parts = c.assignment-name.ensures found.0 (c.deref.ensures.value ∙ found.2) in
    let has = found.1.has in
    record { tree = valued found.0; proper = valued_proper found.0 has.proper; single = valued_single found.0 has.proper has.single; same = parts.1 }

pub value_of_steps-requires-clause-within : goal.value_of_steps-requires-clause-within
value_of_steps-requires-clause-within c =
    let text = c.args.text.now in
    let found = c.in_ok-steps.ensures.found in
    let parts = c.assignment-name.ensures found.0 (c.deref.ensures.value ∙ found.2) in
    subst (All (IsStepWithin text)) (sym parts.1) (valued_all (IsStepWithin text) found.0 (steps_within text found.0 (postfix found.0) found.1 refl))

pub returns-in_err-value-clause-refusal : goal.returns-in_err-value-clause-refusal
returns-in_err-value-clause-refusal c = λ r e.
    let found = c.in_ok-steps.ensures.found in
    let parts = c.assignment-name.ensures found.0 (c.deref.ensures.value ∙ found.2) in
    let p = err_from_is_err_and c.from_residual-in_err-value.result c.from_residual-in_err-value.ensures.1 in
    let is : c.in_err-value.field-0.0 ≡ Refused r = cc in
    inr (record {
      tree = found.0;
      has = found.1;
      shallow = c.in_ok-steps.ensures.shallow refl;
      refusal = c.in_err-value.ensures.refusal r (ap Err is) (valued found.0) parts.1;
    })

pub returns-in_err-value-clause-within : goal.returns-in_err-value-clause-within
returns-in_err-value-clause-within c = λ r e.
    let found = c.in_ok-steps.ensures.found in
    let parts = c.assignment-name.ensures found.0 (c.deref.ensures.value ∙ found.2) in
    let p = err_from_is_err_and c.from_residual-in_err-value.result c.from_residual-in_err-value.ensures.1 in
    let is : c.in_err-value.field-0.0 ≡ Refused r = cc in
    line_refusal_within c.args.text.now (named c.args.names.now) r found.0 found.1 (c.in_err-value.ensures.refusal r (ap Err is) (valued found.0) parts.1)

pub returns-in_err-value-clause-memory : goal.returns-in_err-value-clause-memory
returns-in_err-value-clause-memory c = λ e. let found = c.in_ok-steps.ensures.found in tree_begins c.args.text.now found.0 found.1

pub returns-in_err-put_target-clause-memory : goal.returns-in_err-put_target-clause-memory
returns-in_err-put_target-clause-memory c = λ e. let found = c.in_ok-steps.ensures.found in tree_begins c.args.text.now found.0 found.1

pub returns-in_err-put_copy-clause-either : goal.returns-in_err-put_copy-clause-either
returns-in_err-put_copy-clause-either c = λ e.
    let text = c.args.text.now in
    let old = named c.args.names.now in
    let w = worth c.in_ok-value.value in
    let found = c.in_ok-steps.ensures.found in
    let parts = c.assignment-name.ensures found.0 (c.deref.ensures.value ∙ found.2) in
    line_old_or_new text old (named c.put_copy.new.names) c.assignment-name.result.1.now c.assignment-name.result.0 found.0 found.1 (c.in_ok-steps.ensures.shallow refl) parts.1 parts.0
    (λ other.
    let first = c.in_err-put_copy.ensures.kept other ∙ c.in_ok-put_target.ensures.put other in
    ⊎_elim (λ kept. inl (first ∙ kept)) (λ put. inr (w, c.in_ok-value.ensures.value, first ∙ put)) (target_first text old c.assignment-name.result.0 w other))

pub returns-in_err-put_copy-clause-memory : goal.returns-in_err-put_copy-clause-memory
returns-in_err-put_copy-clause-memory c = λ e. let found = c.in_ok-steps.ensures.found in tree_begins c.args.text.now found.0 found.1

pub returns-clause-value : goal.returns-clause-value
returns-clause-value c =
    let w = worth c.in_ok-value.value in
    let found = c.in_ok-steps.ensures.found in
    let parts = c.assignment-name.ensures found.0 (c.deref.ensures.value ∙ found.2) in
    line_worth (Ok c.in_ok-value.value) worth c.args.text.now (named c.args.names.now) (named c.put_copy.new.names) c.assignment-name.result.1.now c.assignment-name.result.0 found.0 found.1
    (c.in_ok-steps.ensures.shallow refl) parts.1 parts.0 c.in_ok-value.ensures.value
    (λ other. c.in_ok-put_copy.ensures.put other ∙ ap (λ x. if bytes_eq (codes "ans") other then Some w else x) (c.in_ok-put_target.ensures.put other))
