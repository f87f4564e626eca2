-- What a run of the program does with its arguments, its input and its two outputs.
use Rattle.std.specs.Prelude.{◌≡◌, ◌⊎◌, ℕ, Bool, true, List, Option, Result, IfOk, IsErrAnd, unwrap_or}
use Rattle.ratio_expressions.specs.declared.replies.form.Form.{Form}
use Rattle.ratio_expressions.specs.declared.replies.form.Form.TheVariants as forms
use Rattle.ratio.specs.Answers.{AnswersExpression, AnswersLines}
use Rattle.ratio.specs.Devices.{DeviceChange, Stays, WritesAll}
use Rattle.ratio.specs.Requests.{IsAskedBy, RefusesArguments}
use Rattle.ratio.specs.Settings.{setting_of}
use Rattle.ratio.specs.declared.fault.Fault.{Fault}
use Rattle.ratio.specs.declared.help.TheConstants.{HELP, VERSION}
use Rattle.ratio.specs.declared.request.Request.{Request}
use Rattle.ratio.specs.declared.request.Request.TheVariants as requests
use Rattle.ratio.specs.declared.setting.Setting.{Setting}
use Rattle.ratio.specs.declared.setting.Setting.TheVariants as settings

-- the form of lines for which none was asked
abbrev pub form_of_lines : Setting → Form
form_of_lines settings.Prompt = forms.Both
form_of_lines settings.Pipe = forms.Fraction
form_of_lines settings.Paired = forms.Fraction

-- the lines are answered in a form, if one was asked for, and in a setting
abbrev pub ServesLines : Option Form → Setting → DeviceChange → DeviceChange → Result Bool Fault → Type 0
ServesLines form setting input output result = AnswersLines (unwrap_or form (form_of_lines setting)) setting input output result

-- a text is written, and then the run ends well
abbrev pub WritesText : List ℕ → DeviceChange → Result Bool Fault → Type 0
WritesText text output result = WritesAll output text result × IfOk result (λ all. all ≡ true)

-- what a request asks for is done
abbrev pub Serves : Request → Bool → DeviceChange → DeviceChange → DeviceChange → Result Bool Fault → Type 0
Serves requests.Help on_terminal input output errors result = WritesText HELP.now output result × Stays input × Stays errors
Serves requests.Version on_terminal input output errors result = WritesText VERSION.now output result × Stays input × Stays errors
Serves (requests.Expression text form) on_terminal input output errors result = AnswersExpression text.items form output errors result × Stays input
Serves (requests.Lines form paired) on_terminal input output errors result = ServesLines form (setting_of paired on_terminal) input output result × Stays errors

-- what these arguments ask for is done; or they are refused, and nothing is read or written
-- Example: `--version`: `ratio 0.1.0\n` is written
abbrev pub Runs : List (List ℕ) → Bool → DeviceChange → DeviceChange → DeviceChange → Result Bool Fault → Type 0
Runs words on_terminal input output errors result =
    ((request : Request) × IsAskedBy words request × Serves request on_terminal input output errors result)
    ⊎ (IsErrAnd result (RefusesArguments words) × Stays input × Stays output × Stays errors)
