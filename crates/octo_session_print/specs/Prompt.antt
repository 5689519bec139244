-- What waits on a prompt link.
use Rattle.std.specs.Prelude.{◌≡◌, ℕ, suc, ◌+◌, ◌-◌, ◌≤◌, Bool, true, false, List, [], ◌∷◌, ◌++◌, length, map, take, None}
use Rattle.marlin_frame.specs.Numbering.{wire_number}
use Rattle.printer_model.specs.World.{WorldData}
use Rattle.send_window.specs.Data.{SenderData, IsSound}
use Rattle.octo_session_line_proof.specs.Pieces.{Piece, command, bytes_in, entry_in, Each, IsFit}

-- texts as the lines of a session, from a place on
abbrev pub pieces_from : ℕ → List (List ℕ) → List Piece
pieces_from place [] = []
pieces_from place (text ∷ texts) = command place text ∷ pieces_from (suc place) texts

-- the lines from a place on wait in the printer, the next ones are on the wire to it, and nothing is on the wire from it
pub record IsInStep (place : ℕ) (queued flying : List (List ℕ)) (w : WorldData) : Type 0 where
  pub linked : w.linked ≡ true
  pub queue : w.printer.queue ≡ map entry_in (pieces_from place queued)
  pub up : w.up ≡ map bytes_in (pieces_from (place + length queued) flying)
  pub down : w.down ≡ []
  pub next : wire_number (place + length queued) ≡ w.printer.last + 1
  pub some : 1 ≤ w.printer.slots
  pub few : w.printer.slots ≤ 16

-- a ready session over a prompt link: what is sent and unacknowledged waits in the printer, and then on the wire to it
pub record IsReadySession (s : SenderData) (w : WorldData) : Type 0 where
  pub ready_is : s.ready ≡ true
  pub counts : s.numbered ≡ false
  pub awaiting : s.swallow ≡ false
  pub running : s.ended ≡ None
  pub sound : IsSound s
  pub fits : Each IsFit s.held
  pub queued : List (List ℕ)
  pub flying : List (List ℕ)
  pub all : queued ++ flying ≡ take (s.cursor - suc s.acked) s.held
  pub step : IsInStep (suc s.acked) queued flying w

-- a session over a prompt link before its hello is acknowledged; the hello is on the wire to the printer if it was sent
pub record IsGreeting (up : List (List ℕ)) (due : Bool) (s : SenderData) (w : WorldData) : Type 0 where
  pub unready : s.ready ≡ false
  pub counts : s.numbered ≡ false
  pub awaiting : s.swallow ≡ false
  pub running : s.ended ≡ None
  pub sound : IsSound s
  pub none_held : s.held ≡ []
  pub cursor_is : s.cursor ≡ 1
  pub due_is : s.hello_due ≡ due
  pub linked : w.linked ≡ true
  pub queue : w.printer.queue ≡ []
  pub up_is : w.up ≡ up
  pub down : w.down ≡ []
  pub some : 1 ≤ w.printer.slots
  pub few : w.printer.slots ≤ 16
