use Rattle.std.proofs.Common.{◌≡◌, ◌+◌, ◌++◌, ◌∷◌, [], ◌∙◌, arith, ap, length, vec_len}
use Rattle.ratio_expressions.proofs.WholeLemmas.{made_longer}
use Rattle.ratio_expressions.proofs.replies.fields.with_zeros.Goals as goal

pub returns : goal.returns
returns c =
    let pointed : c.push.new.self.items ≡ c.args.whole.now ++ 46 ∷ [] = c.in_ok-push.ensures.items ∙ ap (λ xs. xs ++ 46 ∷ []) c.in_ok-text.ensures.items in
    let counted : vec_len c.push.new.self ≡ length c.args.whole.now + 1 = omega (arith, c.in_ok-text.ensures.len, c.in_ok-push.ensures.len) in
    let roomy : c.saturating_add-length.result ≡ vec_len c.push.new.self + c.args.places = omega (arith, c.len.ensures, c.saturating_add-length.ensures, counted) in
    made_longer c.args.places (vec_len c.push.new.self) c.saturating_add-length.result c.args.whole.now c.push.new.self.items c.resize.new.self.items
    (omega arith) counted roomy pointed c.in_ok-resize.ensures.items
