-- What the lines of one print look like.
use Rattle.std.specs.Prelude.{◌≡◌, ℕ, suc, List, [], ◌∷◌, ◌++◌, length, slice_get, Some}
use Rattle.job_desk.specs.Data.{ScriptTexts, Line, script_lines}
use Rattle.job_desk.specs.declared.state.Point.{Point}
use Rattle.job_desk.specs.declared.state.Point.TheVariants as point
use Rattle.job_desk.specs.declared.state.Tag.TheVariants.{Job}

-- the file command at an index, as it is issued
abbrev pub job_line : ℕ → ℕ → List ℕ → Line
job_line print index text = record { text = text; tag = Job print index }

-- how the lines of a print may end
pub data End : Type 0 where
  Open : End
  Paused : End
  Cancelled : End
  Done : End

module _ (scripts : ScriptTexts) (print : ℕ) (commands : List (List ℕ)) where
  -- the script of this print at a point
  abbrev pub script : Point → List Line
  script at = script_lines scripts at print

  -- the Started script, then file commands in order, and any number of rounds of the Paused and the Resumed script
  -- between them; the number says how many commands there are so far
  pub data Body : ℕ → List Line → Type 0 where
    started : Body 0 (script point.Started)
    command : (index : ℕ) (text : List ℕ) (lines : List Line) → Body index lines → slice_get commands index ≡ Some text →
        Body (suc index) (lines ++ job_line print index text ∷ [])
    round : (index : ℕ) (lines : List Line) → Body index lines → Body index (lines ++ script point.Paused ++ script point.Resumed)

  -- a body and what may follow it: nothing, the Paused script, the Cancelled script after either,
  -- or, once all commands are in it, the Done script
  pub data Course : End → List Line → Type 0 where
    still_open : (index : ℕ) (lines : List Line) → Body index lines → Course Open lines
    paused : (index : ℕ) (lines : List Line) → Body index lines → Course Paused (lines ++ script point.Paused)
    cancelled : (index : ℕ) (lines : List Line) → Body index lines → Course Cancelled (lines ++ script point.Cancelled)
    cancelled_paused : (index : ℕ) (lines : List Line) → Body index lines → Course Cancelled (lines ++ script point.Paused ++ script point.Cancelled)
    done : (lines : List Line) → Body (length commands) lines → Course Done (lines ++ script point.Done)
