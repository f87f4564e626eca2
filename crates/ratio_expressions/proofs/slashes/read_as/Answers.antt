use Rattle.std.proofs.Common.{◌≡◌, ◌∙◌, ap, subst, sym}
use Rattle.std.proofs.lemmas.Result.{IfOk-weaker}
use Rattle.std.specs.Prelude.{option_map}
use Rattle.ratio_expressions.specs.Grammar.{postfix}
use Rattle.ratio_expressions.specs.Slashes.{IsShownAs}
use Rattle.ratio_expressions.proofs.Places.{tree_begins}
use Rattle.ratio_expressions.proofs.Refusals.{one_of_text}
use Rattle.ratio_expressions.proofs.TextLaws.{not_unread}
use Rattle.ratio_expressions.proofs.slashes.read_as.Goals as goal

pub returns-in-Ok-clause-shown : goal.returns-in-Ok-clause-shown
returns-in-Ok-clause-shown c =
    let text = c.args.text.now in
    let found = c.in-Ok.ensures.found in
    IfOk-weaker c.shown_by.result _ (λ shown. IsShownAs text (option_map (λ bytes. bytes.items) shown))
    (λ shown is. record { same = λ t has shallow. is t (c.deref.ensures.value ∙ found.2 ∙ ap postfix (one_of_text text found.0 t found.1 has)) })
    c.shown_by.ensures

pub returns-in-Ok-clause-memory : goal.returns-in-Ok-clause-memory
returns-in-Ok-clause-memory c = λ e. let found = c.in-Ok.ensures.found in tree_begins c.args.text.now found.0 found.1

pub returns-in-Err-Refused-clause-shown : goal.returns-in-Err-Refused-clause-shown
returns-in-Err-Refused-clause-shown c = record { same = λ t has shallow. absurd (not_unread c.args.text.now t c.in-Err-Refused._refusal has shallow (c.in-Err-Refused.ensures.refusal c.in-Err-Refused._refusal (cc))) }
