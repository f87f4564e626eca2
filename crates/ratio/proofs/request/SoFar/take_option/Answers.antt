use Rattle.std.proofs.Common.{◌∙◌, Some, ap, sym}
use Rattle.ratio.specs.Options.{option_named}
use Rattle.ratio.proofs.RequestLemmas.{wanting_places, with_end, with_form, with_lines, with_page}
use Rattle.ratio.proofs.request.SoFar.take_option.Goals as goal

pub returns-in-Some-Form : goal.returns-in-Some-Form
returns-in-Some-Form c = λ ws h.
    let named = ap option_named (sym c.as_bytes.ensures.value) ∙ sym c.in-Some-Form.ensures ∙ ap Some c.in-Some-Form.field-0-is in
    with_form ws c.args.word.now c.args.self.now h c.in-Some-Form.form _ c.in-Some-Form.form-is c.requires.any named

pub returns-in-Some-Places : goal.returns-in-Some-Places
returns-in-Some-Places c = λ ws h.
    let named = ap option_named (sym c.as_bytes.ensures.value) ∙ sym c.in-Some-Places.ensures ∙ ap Some c.in-Some-Places.field-0-is in
    wanting_places ws c.args.word.now c.args.self.now h c.requires.any named

pub returns-in-Some-End : goal.returns-in-Some-End
returns-in-Some-End c = λ ws h.
    let named = ap option_named (sym c.as_bytes.ensures.value) ∙ sym c.in-Some-End.ensures ∙ ap Some c.in-Some-End.field-0-is in
    with_end ws c.args.word.now c.args.self.now h c.requires.any named

pub returns-in-Some-Page : goal.returns-in-Some-Page
returns-in-Some-Page c = λ ws h.
    let named = ap option_named (sym c.as_bytes.ensures.value) ∙ sym c.in-Some-Page.ensures ∙ ap Some c.in-Some-Page.field-0-is in
    with_page ws c.args.word.now c.args.self.now h c.in-Some-Page.page _ c.in-Some-Page.page-is c.requires.any named

pub returns-in-Some-Lines : goal.returns-in-Some-Lines
returns-in-Some-Lines c = λ ws h.
    let named = ap option_named (sym c.as_bytes.ensures.value) ∙ sym c.in-Some-Lines.ensures ∙ ap Some c.in-Some-Lines.field-0-is in
    with_lines ws c.args.word.now c.args.self.now h c.requires.any named
