-- The events of a session since its link was made: what the host received and sent.
use Rattle.std.specs.Prelude.{◌≡◌, ℕ, ◌+◌, Bool, true, false, List, []}
use Rattle.std.specs.List.{list_any}
use Rattle.marlin_reply.specs.declared.reply.Reply.{Reply}
use Rattle.marlin_reply.specs.declared.reply.Reply.TheVariants as reply
use Rattle.printer_model.specs.World.{WorldData, world_from, is_restart}
use Rattle.printer_model.specs.Executed.{opens}
use Rattle.printer_model.specs.declared.event.WorldEvent.{WorldEvent}
use Rattle.send_window.specs.Data.{SenderData}
use Rattle.send_window.specs.Counting.{own_oks, is_pending, is_resend, Traffic, received_of, account_of}
use Rattle.octo_session_line_proof.specs.Pieces.{Each, heard_in, start_heard}
use Rattle.octo_session_line_proof.specs.Stopped.{Fits}
use Rattle.octo_session_line_proof.specs.Wires.{Start}
use Rattle.octo_session.specs.Sends.{AreSendsFit, traffic_from}

-- how many `ok`s a sender has counted: the hello's and one for each acknowledged line
abbrev pub oks_of : Bool → ℕ → ℕ
oks_of false acked = 0
oks_of true acked = acked + 1

-- a sender has counted the `ok`s
pub record CountsOks (replies : List Reply) (s : SenderData) : Type 0 where
  pub pending : s.swallow ≡ is_pending replies
  pub counted : oks_of s.ready s.acked ≡ own_oks reply.Start replies

-- a sender has read the numbers of the `ok`s
pub record NamesOks (traffic : List Traffic) (s : SenderData) : Type 0 where
  pub greeted : s.ready ≡ (account_of traffic).begun
  pub named : s.acked ≡ (account_of traffic).acked

-- one of the two, by what an `ok` counts
abbrev pub HasCounted : Bool → List Traffic → SenderData → Type 0
HasCounted false traffic s = CountsOks (received_of traffic) s
HasCounted true traffic s = NamesOks traffic s

-- a sender has counted the replies
pub record IsTallied (traffic : List Traffic) (s : SenderData) : Type 0 where
  pub counts : HasCounted s.numbered traffic s
  pub asked : s.asked_anew ≡ true → list_any is_resend (received_of traffic) ≡ true

-- it has counted the hellos that were sent, if each has a number of its own
abbrev pub HasGreeted : Bool → List Traffic → SenderData → Type 0
HasGreeted false traffic s = Unit {0}
HasGreeted true traffic s = s.hellos ≡ (account_of traffic).hellos

-- a `start` comes only of a restart
abbrev pub IsStartKnown : List WorldEvent → List ℕ → Type 0
IsStartKnown events line = heard_in line ≡ start_heard → list_any is_restart events ≡ true

-- the sender of a session and the events since its link was made fit together
pub record IsTraced (start : Start) (opened : WorldData) (issued : List (List ℕ)) (s : SenderData) (rest : List WorldEvent) : Type 0 where
  pub same_session : opens rest ≡ 0
  pub meets : Fits start issued s (world_from opened rest)
  pub tallied : IsTallied (traffic_from opened rest) s
  pub sends : AreSendsFit start.numbered issued [] opened rest
  pub starts : Each (IsStartKnown rest) (world_from opened rest).down
