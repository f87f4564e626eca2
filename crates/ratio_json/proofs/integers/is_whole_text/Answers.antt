use Rattle.std.proofs.Common.{subst, sym}
use Rattle.std.specs.Str.Parse.{IsNumeral}
use Rattle.ratio_json.proofs.WholeLemmas.{text_whole, whole_text}
use Rattle.ratio_json.proofs.integers.is_whole_text.Goals as goal

pub returns : goal.returns
returns c = (
  λ yes. whole_text c.args.text.now (subst (IsNumeral 10) c.after_sign.ensures (c.are_digits.ensures.0 yes)),
  λ has. c.are_digits.ensures.1 (subst (IsNumeral 10) (sym c.after_sign.ensures) (text_whole c.args.text.now has)),
)
