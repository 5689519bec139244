-- Where a print is between two turns.
use Rattle.std.specs.Prelude.{◌≡◌, ◌⊎◌, ℕ, true, false, List, [], Option, None, Some}
use Rattle.printer_model.specs.declared.event.WorldEvent.{WorldEvent}
use Rattle.printer_link.specs.Link.{LinkKind, Recorded}
use Rattle.send_window.specs.Data.{IsSound}
use Rattle.octo_session.specs.Data.{SessionData, doing, port_of}
use Rattle.octo_session.specs.declared.found.Doing.TheVariants.{Dialling}
use Rattle.temp_rules.specs.Hot.{first_hot_of}
use Rattle.octo_session_print.specs.Plan.{PrintData, print_commands}
use Rattle.octo_session.specs.Plan.{plan}
use Rattle.octo_session_print.specs.Underway.{IsUnderway}
use Rattle.octo_session_line_proof.specs.AllSent.{AreAllSent}
use Rattle.octo_session_line_proof.specs.History.{IsMade}
use Rattle.octo_session_print.specs.Printed.{IsOver}
use Rattle.octo_session_print.specs.declared.end.PrintEnd.{PrintEnd}

-- what a desk of a print and its sender are between two turns, if lines of these texts were issued
pub record IsOnCourse (p : PrintData) (issued : List (List ℕ)) (x : SessionData) : Type 0 where
  pub course : IsUnderway p x.desk issued
  -- no command is too hot
  pub cool : first_hot_of p.limits p.file.job.commands ≡ None
  -- the sender counts by the numbers of `ok`s exactly if the desk probes
  pub its_kind : x.sender.numbered ≡ p.numbered
  pub sound : IsSound x.sender

-- the next turn dials: nothing has happened yet
pub record IsDialling (p : PrintData) (port : List ℕ) (first now : Option (List WorldEvent)) (x : SessionData) : Type 0 where
  pub dials : doing x ≡ Dialling
  pub its_port : port_of x.desk ≡ port
  pub nothing : now ≡ first
  pub none_acked : x.sender.acked ≡ 0
  pub on : IsOnCourse p [] x
  pub unstarted : x.desk.greatest ≡ 0

-- a print is to begin with a dial
pub record HasBegun (now : Option (List WorldEvent)) (x : SessionData) : Type 0 where
  pub print : PrintData
  pub dialling : IsDialling print (port_of x.desk) now now x

-- one link was made, and each line issued since was sent or is acknowledged
pub record HasSentAll (kind : LinkKind) (issued : List (List ℕ)) (x : SessionData) (past added : List WorldEvent) : Type 0 where
  pub made : IsMade kind issued x past added
  pub sent : AreAllSent issued x.sender.acked added

-- the next turn uses the link or hangs up
pub record IsOnLink (kind : LinkKind) (p : PrintData) (port : List ℕ) (first now : Option (List WorldEvent)) (x : SessionData) : Type 0 where
  pub issued : List (List ℕ)
  pub on : IsOnCourse p issued x
  pub up : x.up ≡ true
  pub listed : kind.listed port ≡ true
  pub history : Recorded first now (λ past added. HasSentAll kind issued x past added)
  pub unstarted : x.sender.ready ≡ false → x.desk.greatest ≡ 0

-- a print is between two turns
abbrev pub IsBetweenTurns : LinkKind → PrintData → List ℕ → Option (List WorldEvent) → Option (List WorldEvent) → SessionData → Type 0
IsBetweenTurns kind p port first now x = IsDialling p port first now x ⊎ IsOnLink kind p port first now x

-- what a turn has left: a print that goes on or that ended so
abbrev pub GoesOn : LinkKind → PrintData → List ℕ → Option PrintEnd → Option (List WorldEvent) → Option (List WorldEvent) → SessionData → Type 0
GoesOn kind p port None first now x = IsOnLink kind p port first now x
GoesOn kind p port (Some how) first now x = IsOver p.numbered kind (plan p.scripts (print_commands p)) how first now x
