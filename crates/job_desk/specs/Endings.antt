-- How a print ends in a note.
use Rattle.std.specs.Prelude.{◌≡◌, ◌⊎◌, ℕ, ◌≤◌, Bool, true, false, []}
use Rattle.job_desk.specs.Data.{Data}
use Rattle.job_desk.specs.declared.state.State.{State}
use Rattle.job_desk.specs.declared.state.State.TheVariants.{Offline, Connecting, Operational, Printing, Pausing, Paused, Cancelling, Finishing, Closing, Fault}
use Rattle.job_desk.specs.declared.link_fact.LinkFact.{LinkFact}
use Rattle.job_desk.specs.declared.link_fact.LinkFact.TheVariants as fact
use Rattle.print_queue.specs.declared.ending.Ending.{Ending}
use Rattle.print_queue.specs.declared.ending.Outcome.{Outcome}
use Rattle.print_queue.specs.declared.ending.Outcome.TheVariants as outcome

-- whether a print is going on in a state
abbrev pub has_print : State → Bool
has_print Offline = false
has_print Connecting = false
has_print Operational = false
has_print Printing = true
has_print Pausing = true
has_print Paused = true
has_print Cancelling = true
has_print Finishing = true
has_print Closing = false
has_print Fault = false

-- then that print is active
abbrev pub IsActive : Data → Type 0
IsActive d = has_print d.state ≡ true → d.active ≡ true

-- no script line waits, and the last issued line of the print is acknowledged; a session that this very note opens has
-- issued none
pub record IsAcknowledged (acked : ℕ) (found : LinkFact) (d : Data) : Type 0 where
  pub no_script : d.waiting ≡ []
  pub last_line : (found ≡ fact.Opened) ⊎ (d.print_line ≤ acked)

-- whether a fact is a failure
abbrev pub is_failure : LinkFact → Bool
is_failure fact.Quiet = false
is_failure fact.Opened = false
is_failure fact.Ready = false
is_failure fact.Closed = false
is_failure fact.NoPort = true
is_failure fact.Failed = true
is_failure (fact.Ended end) = true

-- when a print ends so: as Done and as Cancelled only with all its lines acknowledged, but for the end of the connection,
-- which cancels it unless the printer was stopped
abbrev pub EndsAs : Outcome → ℕ → LinkFact → Data → Type 0
EndsAs outcome.Active acked found d = ⊥
EndsAs outcome.Done acked found d = (d.state ≡ Finishing) × IsAcknowledged acked found d
EndsAs outcome.Cancelled acked found d = ((d.state ≡ Cancelling) × IsAcknowledged acked found d) ⊎ ((found ≡ fact.Closed) × (d.stopped ≡ false))
EndsAs outcome.Failed acked found d = (is_failure found ≡ true) ⊎ ((found ≡ fact.Closed) × (d.stopped ≡ true))

-- a note ends only the active print
pub record IsEnding (acked : ℕ) (found : LinkFact) (d : Data) (ending : Ending) : Type 0 where
  pub active : d.active ≡ true
  pub print : ending.print ≡ d.greatest
  pub by : EndsAs ending.outcome acked found d
