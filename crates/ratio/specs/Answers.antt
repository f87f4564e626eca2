-- What is written for an expression, and for the lines of an input.
use Rattle.std.specs.Prelude.{◌≡◌, ◌≤◌, ◌-◌, ◌^◌, ◌++◌, ◌∷◌, ◌&&◌, ◌⊎◌, [], ℕ, Bool, true, false, List, Option, Some, None, Result, Ok, Err, IfSome, length, if◌then◌else◌}
use Rattle.std.specs.Bool.{MatchBool}
use Rattle.std.specs.Io.{StopsAt}
use Rattle.std.specs.Io.KnownBytes.{Consumes}
use Rattle.ratio_expressions.specs.Worths.{Worth}
use Rattle.ratio_expressions.specs.Replies.{AreKept, IsReply, is_blank}
use Rattle.ratio_expressions.specs.declared.replies.form.Form.{Form}
use Rattle.ratio_expressions.specs.declared.replies.reply.Reply.{Reply}
use Rattle.ratio_expressions.specs.declared.replies.reply.Reply.TheVariants as replies
use Rattle.ratio_lines.specs.declared.counted.Calls.{Calls}
use Rattle.ratio.specs.Devices.{DeviceChange, Stays, Takes, TakesFront, WritesToOne}
use Rattle.ratio.specs.Lines.{input_lines, last_line, without_end}
use Rattle.ratio.specs.Settings.{asks_help, end_of, ends_lines, is_brief, prompt_of, start_of, writes_always}
use Rattle.ratio.specs.declared.prompt.TheConstants.{TIPS}
use Rattle.ratio.specs.declared.setting.Setting.{Setting}
use Rattle.ratio.specs.declared.setting.Setting.TheVariants as settings
use Rattle.ratio.specs.declared.fault.Fault.{Fault}
use Rattle.ratio.specs.declared.fault.Fault.TheVariants as faults

-- the refusal of a line as it is written: whole, or its last line (`is_brief`)
-- Example: of `2 + x` in `Paired`: `error: nothing has this name, at column 5`
abbrev pub written_refusal : Setting → List ℕ → List ℕ → List ℕ
written_refusal setting line text = if is_brief setting line then last_line text else text

-- what is written for a blank line: a line end in `Paired`, and else nothing
abbrev pub blank_answer : Setting → List ℕ
blank_answer settings.Prompt = []
blank_answer settings.Pipe = []
blank_answer settings.Paired = 10 ∷ []

-- what is written for the reply to a line: its text and a line end
-- Example: for the answer `5`: `5\n`
abbrev pub reply_bytes : Setting → List ℕ → Reply → List ℕ
reply_bytes setting line replies.Nothing = blank_answer setting
reply_bytes setting line (replies.Answer text) = text.items ++ 10 ∷ []
reply_bytes setting line (replies.Refused text) = written_refusal setting line text.items ++ 10 ∷ []

-- whether a reply is no refusal
abbrev pub is_accepted : Reply → Bool
is_accepted replies.Nothing = true
is_accepted (replies.Answer text) = true
is_accepted (replies.Refused text) = false

-- these bytes are written for the reply to a line, with what each name is worth before it and behind it, and whether it is no refusal
-- Example: `x = 1/2`: `1/2\n` and true, and x is 1/2 behind it
pub record IsReplied (setting : Setting) (line : List ℕ) (form : Form) (named behind : List ℕ → Option Worth) (bytes : List ℕ) (accepted : Bool) : Type 0 where
  pub reply : Reply
  pub is_reply : IsReply line form named behind reply
  pub written : bytes ≡ reply_bytes setting line reply
  pub is : accepted ≡ is_accepted reply

-- some help is written, and names keep what they are worth
pub record IsHelped (named behind : List ℕ → Option Worth) (bytes : List ℕ) (accepted : Bool) : Type 0 where
  pub kept : AreKept named behind
  pub written : bytes ≡ TIPS.now
  pub is : accepted ≡ true

-- these bytes are written for a line that does not end the lines: some help if it asks for that, or else its reply
-- Example: `help` at a prompt: `TIPS`; in a pipe: the value of the name `help`, or its refusal
pub record IsAnswered (setting : Setting) (line : List ℕ) (form : Form) (named behind : List ℕ → Option Worth) (bytes : List ℕ) (accepted : Bool) : Type 0 where
  pub goes_on : ends_lines setting line ≡ false
  pub answer : MatchBool (asks_help setting line) (IsHelped named behind bytes accepted) (IsReplied setting line form named behind bytes accepted)

-- no name is worth anything
abbrev pub IsUnnamed : (List ℕ → Option Worth) → Type 0
IsUnnamed named = (name : List ℕ) → named name ≡ None

-- an expression alone: its answer comes to the output, or its refusal to the errors
pub record AnswersAlone (text : List ℕ) (form : Form) (output errors : DeviceChange) (accepted : Bool) (result : Result Bool Fault) : Type 0 where
  pub named : List ℕ → Option Worth
  pub behind : List ℕ → Option Worth
  pub bytes : List ℕ
  pub unnamed : IsUnnamed named
  pub answered : IsReplied settings.Pipe text form named behind bytes accepted
  pub written : WritesToOne accepted output errors bytes result

-- an expression is answered, and whether it has a value; or its answer could not be written; or it is not blank, memory ran out, and nothing
-- is written
abbrev pub AnswersExpression : List ℕ → Form → DeviceChange → DeviceChange → Result Bool Fault → Type 0
AnswersExpression text form output errors (Ok accepted) = AnswersAlone text form output errors accepted (Ok accepted)
AnswersExpression text form output errors (Err faults.Memory) = (is_blank text ≡ false) × Stays output × Stays errors
AnswersExpression text form output errors (Err fault) = (accepted : Bool) × AnswersAlone text form output errors accepted (Err fault)

-- what is written for lines, what each name is worth behind them, and whether none is refused: a start, and for each line its answer and
-- a prompt. A line has the names that the lines before it left, and the first line has none
-- Example: `x = 1/2\n` and `x + y\n`, in a pipe: `1/2\n` and the refusal of y, and false
pub data AreAnswered (form : Form) (setting : Setting) : List (List ℕ) → (List ℕ → Option Worth) → List ℕ → Bool → Type 0 where
  no_line : (named : List ℕ → Option Worth) → IsUnnamed named → AreAnswered form setting [] named (start_of setting) true
  and_line : (lines : List (List ℕ)) (line : List ℕ) (named behind : List ℕ → Option Worth) (written bytes : List ℕ) (all accepted : Bool)
      → AreAnswered form setting lines named written all → IsAnswered setting (without_end line) form named behind bytes accepted
      → AreAnswered form setting (lines ++ line ∷ []) behind (written ++ (bytes ++ prompt_of setting)) (all && accepted)

-- these bytes are written for the lines of an input before the last ones
pub record AreAnsweredBefore (form : Form) (setting : Setting) (input : List ℕ) (last : List (List ℕ)) (written : List ℕ) (all : Bool) : Type 0 where
  pub lines : List (List ℕ)
  pub behind : List ℕ → Option Worth
  pub split : input_lines input ≡ lines ++ last
  pub answered : AreAnswered form setting lines behind written all

-- these bytes, and the end once no line is left
abbrev pub with_end : Setting → List (List ℕ) → List ℕ → List ℕ
with_end setting [] written = written ++ end_of setting
with_end setting (line ∷ last) written = written

-- what is written for a line, without its line end, takes memory: something is written for each line, or this one is not blank
-- Example: `1/2`
abbrev pub TakesMemory : Setting → List ℕ → Type 0
TakesMemory setting line = (writes_always setting ≡ true) ⊎ (is_blank line ≡ false)

-- the lines end: none is left; or the first of the last lines ends them, and the reader has left what is behind it
-- Example: before `quit\n` and `1\n` at a prompt, where `1\n` is left
abbrev pub Ends : Setting → List (List ℕ) → Option (List ℕ) → Type 0
Ends setting [] left = Unit {0}
Ends setting (line ∷ last) left = (ends_lines setting (without_end line) ≡ true) × (rest : List ℕ) × (left ≡ Some rest) × (last ≡ input_lines rest)

-- an output took a front of what is written for the first lines of an input
abbrev pub AnswersSome : Form → Setting → List ℕ → DeviceChange → Type 0
AnswersSome form setting input output =
    (last : List (List ℕ)) × (written : List ℕ) × (all : Bool) × AreAnsweredBefore form setting input last written all × TakesFront output (with_end setting last written)

-- an input is answered, of which some bytes are left. At `Ok` all its lines are, up to one that ends them. At `Read` the lines are answered
-- that were read before, and of the next one at most a part was read. At `Write` and `Unread` the writer took a front. At `Memory` the lines before one
-- that takes memory are answered. At `Endless` at least 2^64-1 lines are
-- Example: `1 + 1\n2` in a pipe: `2\n2\n` and true
abbrev pub AnswersInput : Form → Setting → List ℕ → Option (List ℕ) → DeviceChange → Result Bool Fault → Type 0
AnswersInput form setting input left output (Ok all) =
    (last : List (List ℕ)) × (written : List ℕ) × AreAnsweredBefore form setting input last written all × Ends setting last left × Takes output (with_end setting last written)
AnswersInput form setting input left output (Err faults.Read) =
    (rest : List ℕ) × (part : List ℕ) × (written : List ℕ) × (all : Bool) × AreAnsweredBefore form setting input (input_lines rest) written all × Takes output written
    × Consumes (Some rest) left part × StopsAt part 10
AnswersInput form setting input left output (Err faults.Write) = AnswersSome form setting input output
AnswersInput form setting input left output (Err faults.Unread) = AnswersSome form setting input output
AnswersInput form setting input left output (Err faults.Memory) =
    (line : List ℕ) × (last : List (List ℕ)) × (written : List ℕ) × (all : Bool) × TakesMemory setting (without_end line)
    × AreAnsweredBefore form setting input (line ∷ last) written all × Takes output written
AnswersInput form setting input left output (Err faults.Endless) =
    (last : List (List ℕ)) × (written : List ℕ) × (all : Bool) × (before : AreAnsweredBefore form setting input last written all) × Takes output written
    × (2 ^ 64 - 1 ≤ length before.lines)
AnswersInput form setting input left output (Err fault) = ⊥

-- the lines of a reader are answered, if its bytes are known
abbrev pub AnswersLines : Form → Setting → DeviceChange → DeviceChange → Result Bool Fault → Type 0
AnswersLines form setting input output result = IfSome input.old (λ bytes. AnswersInput form setting bytes input.new output result)

-- Inner: an output took a front of what is written for a line
abbrev pub AnswersSomeOfLine : List ℕ → Form → Setting → (List ℕ → Option Worth) → (List ℕ → Option Worth) → DeviceChange → Type 0
AnswersSomeOfLine line form setting named behind output =
    (bytes : List ℕ) × (accepted : Bool) × IsAnswered setting (without_end line) form named behind bytes accepted × TakesFront output (bytes ++ prompt_of setting)

-- Inner: the reply to a line is written, and the prompt behind it, as the calls say, too. At `Write` and `Unread` the writer took a front, and at `Memory`
-- nothing, of a line that takes memory
abbrev pub AnswersLine : List ℕ → Form → Setting → (List ℕ → Option Worth) → (List ℕ → Option Worth) → DeviceChange → Calls → Calls → Result Bool Fault → Type 0
AnswersLine line form setting named behind output old new (Ok accepted) =
    (bytes : List ℕ) × IsAnswered setting (without_end line) form named behind bytes accepted × Takes output (bytes ++ prompt_of setting)
    × (new.moved ≡ old.moved ++ (bytes ++ prompt_of setting))
AnswersLine line form setting named behind output old new (Err faults.Write) = AnswersSomeOfLine line form setting named behind output
AnswersLine line form setting named behind output old new (Err faults.Unread) = AnswersSomeOfLine line form setting named behind output
AnswersLine line form setting named behind output old new (Err faults.Memory) = TakesMemory setting (without_end line) × Stays output
AnswersLine line form setting named behind output old new (Err fault) = ⊥
