-- A link and a clock over which a print comes to its end.
use Rattle.std.specs.Prelude.{◌≡◌, ℕ, ◌+◌, ◌≤◌, true, List, Option, Some, is_some}
use Rattle.octo_outside.specs.Recorded.{Steady}
use Rattle.send_window.specs.Hearing.{last_moment}
use Rattle.printer_model.specs.declared.event.WorldEvent.{WorldEvent}
use Rattle.printer_link.specs.Link.{LinkKind}

-- a clock that records its time; that time plus a time limit is at most 2^64 - 1, and so is that time plus a polling interval; polls
-- are at least a millisecond apart
pub record IsUnsaturated (clock : Option ℕ) (limit poll_ms : ℕ) : Type 0 where
  pub last : ℕ
  pub shown : clock ≡ Some last
  pub answers : last + limit ≤ last_moment
  pub polls : last + poll_ms ≤ last_moment
  pub some_poll : 1 ≤ poll_ms

-- a prompt link that records its history and lists the port, and whose count of faults doesn't rise; and a clock that shows
-- its moment, at whose last moment no sum saturates
pub record IsSmooth (kind : LinkKind) (past : Option (List WorldEvent)) (port : List ℕ) (before now : ℕ)
    (clock : Option ℕ) (limit poll_ms : ℕ) : Type 0 where
  pub prompt : kind.prompt ≡ true
  pub recorded : is_some past ≡ true
  pub listed : kind.listed port ≡ true
  pub steady : Steady before now
  pub unsaturated : IsUnsaturated clock limit poll_ms
