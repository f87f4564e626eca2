-- What a line is answered that is read, and one that is too long.
use Rattle.std.proofs.Common.{◌≡◌, ℕ, false, List, Option, inl, inr}
use Rattle.std.specs.Prelude.{Result, IfOk}
use Rattle.std.proofs.lemmas.Result.{IfOk-weaker}
use Rattle.ratio_expressions.specs.Limits.{IsTooLong}
use Rattle.ratio_expressions.specs.Replies.{AreKept, IsReadReply, IsReply, IsTooLongReply, is_blank}
use Rattle.ratio_expressions.specs.Worths.{Worth}
use Rattle.ratio_expressions.specs.declared.replies.form.Form.{Form}
use Rattle.ratio_expressions.specs.declared.replies.reply.Reply.{Reply}
use Rattle.ratio_expressions.specs.declared.replies.reply.Reply.TheVariants as replies

module _ (line : List ℕ) (form : Form) (named behind : List ℕ → Option Worth) where
  read : (r : Reply) → is_blank line ≡ false → ¬ (IsTooLong line) → IsReadReply line form named behind r → IsReply line form named behind r
  read replies.Nothing some short h = absurd h
  read (replies.Answer text) some short h = (some, short, h.0, h.1, h.2)
  read (replies.Refused text) some short h = (some, inr (short, h.0, h.1, h.2), h.3)

  -- a line that is not too long
  pub read_line : {E : Type 0} (r : Result Reply E) → is_blank line ≡ false → ¬ (IsTooLong line) → IfOk r (IsReadReply line form named behind) → IfOk r (IsReply line form named behind)
  read_line r some short h = IfOk-weaker r _ _ (λ q k. read q some short k) h

  too_long : (r : Reply) → is_blank line ≡ false → IsTooLong line → AreKept named behind → IsTooLongReply r → IsReply line form named behind r
  too_long replies.Nothing some long kept h = absurd h
  too_long (replies.Answer text) some long kept h = absurd h
  too_long (replies.Refused text) some long kept h = (some, inl (long, h), kept)

  -- one that is
  pub long_line : {E : Type 0} (r : Result Reply E) → is_blank line ≡ false → IsTooLong line → AreKept named behind → IfOk r IsTooLongReply → IfOk r (IsReply line form named behind)
  long_line r some long kept h = IfOk-weaker r _ _ (λ q k. too_long q some long kept k) h
