-- For whom lines are answered, and what is written there beside the answers.
use Rattle.std.specs.Prelude.{◌||◌, [], ℕ, Bool, true, false, List, codes, length, nat_lt, if◌then◌else◌}
use Rattle.std.specs.Str.{bytes_eq}
use Rattle.ratio.specs.declared.prompt.TheConstants.{START}
use Rattle.ratio.specs.declared.setting.Setting.{Setting}
use Rattle.ratio.specs.declared.setting.Setting.TheVariants as settings

-- the setting, with `--lines` or not, and on a terminal or not
-- Example: on a terminal, without `--lines`: `Prompt`
abbrev pub setting_of : Bool → Bool → Setting
setting_of paired on_terminal = if paired then settings.Paired else (if on_terminal then settings.Prompt else settings.Pipe)

-- what is written before the first line is read: at a prompt a greeting and the prompt
abbrev pub start_of : Setting → List ℕ
start_of settings.Prompt = START.now
start_of settings.Pipe = []
start_of settings.Paired = []

-- what is written behind the answer to a line, before the next one is read
abbrev pub prompt_of : Setting → List ℕ
prompt_of settings.Prompt = codes "> "
prompt_of settings.Pipe = []
prompt_of settings.Paired = []

-- what is written once no line is left
abbrev pub end_of : Setting → List ℕ
end_of settings.Prompt = codes "\n"
end_of settings.Pipe = []
end_of settings.Paired = []

-- whether a line, without its line end, ends the lines
-- Example: `quit` and `exit` at a prompt; no line in a pipe
abbrev pub ends_lines : Setting → List ℕ → Bool
ends_lines settings.Prompt line = bytes_eq line (codes "quit") || bytes_eq line (codes "exit")
ends_lines settings.Pipe line = false
ends_lines settings.Paired line = false

-- whether a line, without its line end, asks for help
-- Example: `help` and `?` at a prompt; no line in a pipe
abbrev pub asks_help : Setting → List ℕ → Bool
asks_help settings.Prompt line = bytes_eq line (codes "help") || bytes_eq line (codes "?")
asks_help settings.Pipe line = false
asks_help settings.Paired line = false

-- whether something is written for a blank line, too
abbrev pub writes_always : Setting → Bool
writes_always settings.Prompt = true
writes_always settings.Pipe = false
writes_always settings.Paired = true

-- whether the refusal of a line, without its line end, is only its last line: of each line in `Paired`, and else of one of more than 200 bytes
-- Example: `2 +` in a pipe: false
abbrev pub is_brief : Setting → List ℕ → Bool
is_brief settings.Prompt line = nat_lt 200 (length line)
is_brief settings.Pipe line = nat_lt 200 (length line)
is_brief settings.Paired line = true
