use Rattle.std.proofs.Common.{true, false}
use Rattle.ratio_expressions.proofs.FloatTextLemmas.{infinite_given}
use Rattle.ratio_expressions.proofs.replies.float.infinite_text.Goals as goal

pub returns-then-is_sign_negative : goal.returns-then-is_sign_negative
returns-then-is_sign_negative c = infinite_given c.args.float true c.from_slice.result (λ text. text.items) c.requires.number c.requires.infinite c.if-is_sign_negative.ensures c.from_slice.ensures.items

pub returns-else-is_sign_negative : goal.returns-else-is_sign_negative
returns-else-is_sign_negative c =
    infinite_given c.args.float false c.from_slice-else-is_sign_negative.result (λ text. text.items) c.requires.number c.requires.infinite c.if-is_sign_negative.ensures c.from_slice-else-is_sign_negative.ensures.items
