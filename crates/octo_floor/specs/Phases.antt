-- The states of a printer of a floor in four phases, and what a turn makes of them.
use Rattle.std.specs.Prelude.{◌≡◌, Bool, true, false}
use Rattle.job_desk.specs.Endings.{IsActive}
use Rattle.job_desk.specs.declared.link_fact.LinkFact.{LinkFact}
use Rattle.job_desk.specs.declared.link_fact.LinkFact.TheVariants as fact
use Rattle.job_desk.specs.declared.state.State.{State}
use Rattle.job_desk.specs.declared.state.State.TheVariants as state
use Rattle.octo_session.specs.Data.{SessionData}

-- a printer is offline; connects or is connected; is being disconnected; or is lost
pub data Phase : Type 0 where
  offline : Phase
  connected : Phase
  leaving : Phase
  lost : Phase

-- the phase of a state
abbrev pub phase_in : State → Phase
phase_in state.Offline = offline
phase_in state.Connecting = connected
phase_in state.Operational = connected
phase_in state.Printing = connected
phase_in state.Pausing = connected
phase_in state.Paused = connected
phase_in state.Cancelling = connected
phase_in state.Finishing = connected
phase_in state.Closing = leaving
phase_in state.Fault = lost

abbrev pub phase_of : SessionData → Phase
phase_of s = phase_in s.desk.state

-- the phase after a turn that found this, if no user stops the printer
abbrev pub phase_after : LinkFact → Phase → Phase
phase_after fact.Quiet phase = phase
phase_after fact.Opened phase = phase
phase_after fact.Ready phase = phase
phase_after fact.Closed phase = offline
phase_after fact.NoPort phase = lost
phase_after fact.Failed phase = lost
phase_after (fact.Ended end) phase = lost

-- whether a printer's link is up between rounds
abbrev pub is_up_in : Phase → Bool
is_up_in offline = false
is_up_in connected = true
is_up_in leaving = true
is_up_in lost = false

-- a printer between rounds: its link is up by its phase, no user stops it, and a print is active if its state has one, and none without
-- a link
pub record IsAtRest (s : SessionData) : Type 0 where
  pub up : s.up ≡ is_up_in (phase_of s)
  pub not_stopped : s.desk.stopped ≡ false
  pub no_print : is_up_in (phase_of s) ≡ false → s.desk.active ≡ false
  pub going : IsActive s.desk
