-- What follows of a turn of a print.
use Rattle.std.specs.Prelude.{◌≡◌, ◌≢◌, ◌≤◌, ℕ, Bool, true, false, Option, None, Some}
use Rattle.job_desk.specs.Data.{Data, File, new_desk}
use Rattle.job_desk.specs.Table.{disconnect_at, start_at}
use Rattle.job_desk.specs.declared.link_fact.LinkFact.{LinkFact}
use Rattle.job_desk.specs.declared.link_fact.LinkFact.TheVariants as fact
use Rattle.print_queue.specs.declared.ending.Ending.{Ending}
use Rattle.send_window.specs.Data.{IsSound, new_sender}
use Rattle.octo_session.specs.Data.{SessionData}
use Rattle.temp_rules.specs.declared.job.HotLine.{HotLine}
use Rattle.octo_session_print.specs.Plan.{PrintData}
use Rattle.octo_session_print.specs.declared.end.PrintEnd.{PrintEnd}
use Rattle.octo_session_print.specs.declared.end.PrintEnd.TheVariants as end

-- a session at which nothing was done yet
pub record IsNew (x : SessionData) : Type 0 where
  pub its_desk : x.desk ≡ new_desk x.desk.scripts x.desk.limits x.desk.poll_ms x.desk.numbered
  pub its_sender : x.sender ≡ new_sender x.sender.window x.sender.numbered x.sender.limit
  -- the desk probes a printer exactly if the sender counts by the numbers of its `ok`s
  pub kind : x.desk.numbered ≡ x.sender.numbered
  pub sound : IsSound x.sender
  pub down : x.up ≡ false

-- what a desk prints of a file
abbrev pub print_of : Data → File → PrintData
print_of d file = record { numbered = d.numbered; scripts = d.scripts; limits = d.limits; file = file }

-- a print ends as too hot exactly if a command is, and names the first one
abbrev pub IsTooHot : Option HotLine → PrintEnd → Type 0
IsTooHot None how = (line asked limit : ℕ) → how ≢ end.TooHot line asked limit
IsTooHot (Some hot) how = how ≡ end.TooHot hot.line hot.asked hot.limit

-- no command is too hot, at least one turn may be made, and the port isn't listed
pub record IsUnlisted (hot : Option HotLine) (turns : ℕ) (listed : Bool) : Type 0 where
  pub cool : hot ≡ None
  pub some : 1 ≤ turns
  pub unlisted : listed ≡ false

-- a print that ended as too hot or without such a port; nothing was sent
abbrev pub IsUnsent : PrintEnd → Type 0
IsUnsent (end.TooHot line asked limit) = Unit {0}
IsUnsent end.NoPort = Unit {0}
IsUnsent _ = ⊥

-- a print that was refused for a command that is too hot
abbrev pub is_too_hot : PrintEnd → Bool
is_too_hot (end.TooHot line asked limit) = true
is_too_hot _ = false

-- how a turn that found this ends the print, if it does
abbrev pub end_of : LinkFact → Option PrintEnd
end_of fact.Quiet = None
end_of fact.Opened = None
end_of fact.Ready = None
end_of fact.Closed = Some end.Done
end_of fact.NoPort = Some end.NoPort
end_of fact.Failed = Some end.LinkFailed
end_of (fact.Ended why) = Some (end.Ended why)

-- the connection is to be ended if a print has ended
abbrev pub left_after : Option Ending → Data → Data
left_after None d = d
left_after (Some ending) d = disconnect_at d.state d

-- the desk after what follows of a turn that found this: the print starts as soon as the printer is ready
abbrev pub desk_after : LinkFact → Option Ending → Data → Data
desk_after fact.Quiet ending d = left_after ending d
desk_after fact.Opened ending d = d
desk_after fact.Ready ending d = (start_at d.state 1 d).1
desk_after fact.Closed ending d = d
desk_after fact.NoPort ending d = d
desk_after fact.Failed ending d = d
desk_after (fact.Ended why) ending d = d
