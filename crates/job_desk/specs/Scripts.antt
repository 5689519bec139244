-- Scripts, and the scripts that wait.
use Rattle.std.specs.Prelude.{ℕ, ◌+◌, ◌≤◌, List, [], ◌∷◌, ◌++◌, length, All}
use Rattle.byte_text.specs.Sendable.{IsSendable}
use Rattle.job_desk.specs.Data.{ScriptTexts, Line}
use Rattle.job_desk.specs.declared.state.Point.{Point}
use Rattle.job_desk.specs.declared.state.Point.TheVariants as point

-- the most lines of a script
abbrev pub most_script_lines : ℕ
most_script_lines = 64

-- the number of lines that the scripts of a print with its own connection have
abbrev pub own_lines : ScriptTexts → ℕ
own_lines scripts = length scripts.connected + length scripts.started + length scripts.done + length scripts.disconnect

-- scripts without a line
abbrev pub no_scripts : ScriptTexts
no_scripts = record { connected = []; disconnect = []; started = []; paused = []; resumed = []; cancelled = []; done = [] }

-- one line more at the end of a script
abbrev pub with_text : Point → List ℕ → ScriptTexts → ScriptTexts
with_text point.Connected text scripts = record scripts { connected = scripts.connected ++ text ∷ [] }
with_text point.Disconnect text scripts = record scripts { disconnect = scripts.disconnect ++ text ∷ [] }
with_text point.Started text scripts = record scripts { started = scripts.started ++ text ∷ [] }
with_text point.Paused text scripts = record scripts { paused = scripts.paused ++ text ∷ [] }
with_text point.Resumed text scripts = record scripts { resumed = scripts.resumed ++ text ∷ [] }
with_text point.Cancelled text scripts = record scripts { cancelled = scripts.cancelled ++ text ∷ [] }
with_text point.Done text scripts = record scripts { done = scripts.done ++ text ∷ [] }

-- a script's texts may be sent, and are not too many
pub record IsScriptList (texts : List (List ℕ)) : Type 0 where
  pub few : length texts ≤ most_script_lines
  pub sendable : All IsSendable texts

-- the scripts, the lines of those that wait, and how many wait
pub record WaitingData : Type 0 where
  pub scripts : ScriptTexts
  pub lines : List Line
  pub count : ℕ
