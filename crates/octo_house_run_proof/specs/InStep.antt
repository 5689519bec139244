-- A host between two turns of its link: its history, the link's history and its session are in step.
use Rattle.std.specs.Prelude.{◌≡◌, ℕ, zero, suc, ◌+◌, ◌<◌, ◌≤◌, Bool, false, List, [], ◌∷◌, ◌++◌, length, Option}
use Rattle.printer_model.specs.Executed.{opens}
use Rattle.printer_model.specs.declared.event.WorldEvent.{WorldEvent}
use Rattle.printer_link.specs.Link.{LinkKind}
use Rattle.printer_link.specs.Suits.{Suits}
use Rattle.send_window.specs.Data.{IsSound}
use Rattle.octo_session.specs.Data.{SessionData}
use Rattle.octo_asks.specs.History.{History}
use Rattle.octo_asks.specs.declared.entry.Entry.TheVariants as entry
use Rattle.octo_session_line_proof.specs.Linked.{IsOpened}
use Rattle.octo_session.specs.Tied.{IsTied}
use Rattle.octo_house_rules.specs.Sessions.{sessions, session_texts, most_in, acked_in, is_open}
use Rattle.octo_house_rules.specs.Timeline.{Timeline, history_of, events_of, past_after}
use Rattle.octo_house_rules.specs.Tied.{WasTied}
use Rattle.octo_house_rules.specs.Recorded.{WhileRecorded}

-- entries that are calls
abbrev pub AreCalls : History → Type 0
AreCalls [] = Unit {0}
AreCalls (entry.Call worker ask moment answer ∷ es) = AreCalls es
AreCalls (entry.Note note ∷ es) = ⊥
AreCalls (entry.Close ∷ es) = ⊥

-- no link was made yet, and one that is made suits the session's sender
pub record IsUnmade (numbered : Bool) (kind : LinkKind) (x : SessionData) : Type 0 where
  pub down : x.up ≡ false
  pub sound : IsSound x.sender
  pub numbered_is : x.sender.numbered ≡ numbered
  pub suits : Suits numbered kind.oks

-- the host's session, its issued texts and acknowledged lines, and the last link that was made; or none was made yet
abbrev pub IsCurrent : Bool → LinkKind → ℕ → List (List ℕ) → ℕ → List WorldEvent → SessionData → Type 0
IsCurrent numbered kind zero texts acked past x = IsUnmade numbered kind x
IsCurrent numbered kind (suc session) texts acked past x =
    IsOpened kind texts x past × (x.sender.acked ≡ acked) × (x.sender.numbered ≡ numbered)

-- one order of a history and of its link's history since an earlier one, which was tied after every entry, and what the link
-- has recorded since the last entry
pub record TiedSoFar (numbered : Bool) (kind : LinkKind) (front : List WorldEvent) (history : History) (past : List WorldEvent) : Type 0 where
  pub timeline : Timeline
  pub rest : List WorldEvent
  pub history_is : history ≡ history_of timeline
  pub past_is : past ≡ past_after front timeline ++ rest
  pub throughout : (first later : Timeline) → timeline ≡ first ++ later → WasTied numbered kind front first (events_of later ++ rest)

-- a host's history, its link's history since an earlier one, and the host's session
pub record AreInStep (numbered : Bool) (kind : LinkKind) (front : List WorldEvent) (history : History) (past : List WorldEvent)
    (x : SessionData) : Type 0 where
  -- the link was made once for each session
  pub counted : opens past ≡ opens front + sessions history
  -- the sessions before the last one are tied
  pub former : (session : ℕ) → 1 ≤ session → session < sessions history
      → IsTied numbered kind (session_texts session history) (acked_in session history) past (opens front + session)
  pub few : (session : ℕ) → session ≤ sessions history → length (session_texts session history) ≤ most_in session
  -- the last one is the host's
  pub current : IsCurrent numbered kind (sessions history) (session_texts (sessions history) history)
      (acked_in (sessions history) history) past x
  pub open_as : is_open history ≡ x.up
  pub so_far : TiedSoFar numbered kind front history past

-- a host is in step with its recorded histories
abbrev pub InStep : Bool → LinkKind → (before now : Option History) → (front past : Option (List WorldEvent)) → SessionData → Type 0
InStep numbered kind before now front past x =
    WhileRecorded before now front past (λ old added events. AreInStep numbered kind old added events x)
