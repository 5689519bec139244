-- What a turn makes of the desk.
use Rattle.std.specs.Prelude.{◌≡◌, ◌⊎◌, ℕ, ◌≤◌, Bool, true, false, List, [], ◌∷◌, Option, None, Some}
use Rattle.std.specs.Option.{option_or}
use Rattle.job_desk.specs.Data.{Data, Line}
use Rattle.job_desk.specs.Pull.{pull_step}
use Rattle.job_desk.specs.Note.{Noted, first_fact, note_step}
use Rattle.job_desk.specs.Endings.{is_failure}
use Rattle.job_desk.specs.declared.link_fact.LinkFact.{LinkFact}
use Rattle.job_desk.specs.declared.link_fact.LinkFact.TheVariants as fact
use Rattle.print_queue.specs.declared.ending.Ending.{Ending}
use Rattle.print_queue.specs.declared.ending.Outcome.{Outcome}
use Rattle.print_queue.specs.declared.ending.Outcome.TheVariants as outcome
use Rattle.octo_session.specs.declared.found.Doing.{Doing}
use Rattle.octo_session.specs.declared.found.Doing.TheVariants.{Dialling, HangingUp, UsingLink, Resting}

-- successive pulls at a moment return these lines and lead from one desk to another
abbrev pub Pulls : ℕ → List Line → Data → Data → Type 0
Pulls moment [] old new = new ≡ old
Pulls moment (line ∷ lines) old new = ((pull_step moment old).0 ≡ Some line) × Pulls moment lines (pull_step moment old).1 new

-- a failure is noted with the ending that came before it, if one did
abbrev pub then_failed : ℕ → ℕ → Noted → Noted
then_failed acked moment noted =
    let last = note_step acked fact.Failed moment noted.1 in (option_or noted.0 last.0, last.1)

-- what is noted after the pulls
abbrev pub last_noted : LinkFact → ℕ → ℕ → Noted → Noted
last_noted fact.Quiet acked moment noted = noted
last_noted fact.Opened acked moment noted = noted
last_noted fact.Ready acked moment noted = noted
last_noted fact.Closed acked moment noted = noted
last_noted fact.NoPort acked moment noted = noted
last_noted fact.Failed acked moment noted = then_failed acked moment noted
last_noted (fact.Ended end) acked moment noted = noted

-- the desk notes the fact, issues these lines, and notes a failure last
pub record IsNoted (moment acked : ℕ) (found : LinkFact) (lines : List Line) (old : Data) (ending : Option Ending) (new : Data) : Type 0 where
  pub pulled : Data
  pub pulls : Pulls moment lines (note_step acked (first_fact found) moment old).1 pulled
  pub is : (ending, new) ≡ last_noted found acked moment ((note_step acked (first_fact found) moment old).0, pulled)

-- what a turn without a note made of the desk: it took a quiet note with the same acked, or nothing
abbrev pub IsQuietTurn : Doing → ℕ → Data → Option Ending → Data → Type 0
IsQuietTurn Dialling moment old ending new = ⊥
IsQuietTurn HangingUp moment old ending new = ⊥
IsQuietTurn UsingLink moment old ending new =
    (ending ≡ (note_step old.acked fact.Quiet moment old).0) × (new ≡ (note_step old.acked fact.Quiet moment old).1)
IsQuietTurn Resting moment old ending new = (ending ≡ None) × (new ≡ old)

-- no script line waits, and the last issued line of the last print is acknowledged
pub record IsRunOut (d : Data) : Type 0 where
  pub no_script : d.waiting ≡ []
  pub last_line : d.print_line ≤ d.acked

-- when a print ends so in a turn that found this and left this desk, by whether the printer was being stopped
abbrev pub EndsSo : Outcome → LinkFact → Bool → Data → Type 0
EndsSo outcome.Active found stops new = ⊥
EndsSo outcome.Done found stops new = IsRunOut new
EndsSo outcome.Cancelled found stops new = IsRunOut new ⊎ ((found ≡ fact.Closed) × (stops ≡ false))
EndsSo outcome.Failed found stops new = (is_failure found ≡ true) ⊎ ((found ≡ fact.Closed) × (stops ≡ true))

-- a turn ends only the print that was active before it, and then leaves none active
pub record IsTurnEnding (found : LinkFact) (old new : Data) (ending : Ending) : Type 0 where
  pub active : old.active ≡ true
  pub print : ending.print ≡ old.greatest
  pub by : EndsSo ending.outcome found old.stopped new
  pub rests : new.active ≡ false
