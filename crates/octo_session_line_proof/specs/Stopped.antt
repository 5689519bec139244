-- A session in which the line that stops the printer was issued before the `ok` of the hello: no reply is read any more, and the link is
-- hung up next.
use Rattle.std.specs.Prelude.{◌≡◌, ℕ, ◌+◌, ◌<◌, false, List, [], ◌∷◌}
use Rattle.printer_model.specs.World.{WorldData}
use Rattle.send_window.specs.Data.{SenderData, IsSound, most_hellos}
use Rattle.send_window.specs.Session.{HoldsIssued}
use Rattle.octo_session_line_proof.specs.Pieces.{Piece, greeting, command, Sent, intact, corrupted, Each, IsFit, IsFailing, IsLineAt}
use Rattle.octo_session_line_proof.specs.Wires.{Start, Wires, Shows, lines_run, Meets}

-- a hello, or the first issued line
abbrev pub IsHelloOrFirst : List (List ℕ) → Piece → Type 0
IsHelloOrFirst issued (greeting number) = number < most_hellos
IsHelloOrFirst issued (command place text) = IsLineAt issued 1 (command place text)

-- one of them as it was sent, or bytes that fail
abbrev pub IsSentFirst : List (List ℕ) → Sent → Type 0
IsSentFirst issued (intact piece) = IsHelloOrFirst issued piece
IsSentFirst issued (corrupted bytes) = IsFailing bytes

-- how many lines are on the wire to the printer, without hellos
abbrev pub lines_up : List Sent → ℕ
lines_up [] = 0
lines_up (intact piece ∷ up) = lines_run (piece ∷ []) + lines_up up
lines_up (corrupted bytes ∷ up) = lines_up up

-- a sender that issued one line before the `ok` of the hello and a world fit together, in a session that began so
pub record Stopped (start : Start) (issued : List (List ℕ)) (s : SenderData) (w : WorldData) : Type 0 where
  pub wires : Wires
  pub kind : s.numbered ≡ start.numbered
  pub shows : Shows start wires w
  pub sound : IsSound s
  pub holds : HoldsIssued issued s
  pub fit : Each IsFit issued
  pub unready : s.ready ≡ false
  pub one : s.issued ≡ 1
  -- only hellos and that line ran, wait or are on the wire, the line once at most, and only if the sender has returned it
  pub log : Each (IsHelloOrFirst issued) wires.log
  pub queue : Each (IsHelloOrFirst issued) wires.queue
  pub up : Each (IsSentFirst issued) wires.up
  pub once : lines_run wires.log + lines_run wires.queue + lines_up wires.up < s.cursor

-- a sender that issued these lines and a world fit together, with or without such a line
pub data Fits (start : Start) (issued : List (List ℕ)) (s : SenderData) (w : WorldData) : Type 0 where
  met : Meets start issued s w → Fits start issued s w
  stopped : Stopped start issued s w → Fits start issued s w
