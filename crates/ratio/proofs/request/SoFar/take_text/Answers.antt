use Rattle.std.proofs.Common.{◌∙◌, ◌++◌, ◌∷◌, [], ap, sym, if◌then◌else◌}
use Rattle.std.specs.Prelude.{option_map}
use Rattle.ratio.specs.Requests.{behind_text}
use Rattle.ratio.proofs.RequestLemmas.{on_ok, with_text}
use Rattle.ratio.proofs.request.SoFar.take_text.Goals as goal

pub returns-in_ok-text-in-None : goal.returns-in_ok-text-in-None
returns-in_ok-text-in-None c = λ ws h.
    let w = c.args.word.now in
    let is = c.in_ok-text-in-None.ensures.items ∙ c.as_bytes-in-None.ensures.value ∙ sym (ap (λ t. behind_text (option_map (λ u. u.items) t) w) c.in-None.is) in
    with_text ws w c.args.self.now h c.in_ok-text-in-None.text c.requires is

pub returns-in_ok-push-in-Some : goal.returns-in_ok-push-in-Some
returns-in_ok-push-in-Some c = λ ws h. on_ok c.extend_from_slice.result _ (λ ok.
    let w = c.args.word.now in
    let is =
    c.extend_from_slice.ensures.items ∙ ap (λ b. if b then c.push.new.self.items ++ c.as_bytes.result.now else c.push.new.self.items) ok
    ∙ ap (λ l. l ++ c.as_bytes.result.now) c.in_ok-push-in-Some.ensures.items
    ∙ ap (λ l. c.in-Some.text.items ++ 32 ∷ [] ++ l) c.as_bytes.ensures.value
    ∙ sym (ap (λ t. behind_text (option_map (λ u. u.items) t) w) c.in-Some.is) in
    with_text ws w c.args.self.now h c.extend_from_slice.new.self c.requires is)
