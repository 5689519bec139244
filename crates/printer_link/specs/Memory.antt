-- A link in memory: its schedule, its recorded history, and the events that each call adds.
use Rattle.std.specs.Prelude.{◌≡◌, ◌≤◌, ℕ, zero, suc, ◌+◌, ◌-◌, not, ◌%◌, Bool, true, false, ◌==◌, ◌&&◌, if◌then◌else◌, List, [], ◌∷◌, ◌++◌, length, Some, replicate, min, count_by, slice_index_or}
use Rattle.std.specs.List.{list_all, list_any}
use Rattle.std.specs.Str.{bytes_eq}
use Rattle.arrayvec.specs.ArrayVec.{ArrayVec}
use Rattle.octo_outside.specs.Memory.{one_more, is_listed}
use Rattle.octo_outside.specs.Recorded.{last_count}
use Rattle.printer_model.specs.Corrupt.{corrupted}
use Rattle.printer_model.specs.World.{WorldData, world_from, world_of, is_empty, is_free, IsFrontReply, is_send, is_opened}
use Rattle.printer_link.specs.Calls.{LinkState}
use Rattle.printer_link.specs.Link.{LinkKind, printer_events}
use Rattle.printer_model.specs.declared.oks.Oks.{Oks}
use Rattle.printer_model.specs.declared.event.WorldEvent.{WorldEvent}
use Rattle.printer_model.specs.declared.event.WorldEvent.TheVariants.{Send, Lose, LoseReply, Garble, Run, Restart, Recv, Closed}
use Rattle.printer_link.specs.declared.link.Heard.{Heard}
use Rattle.printer_link.specs.declared.link.Heard.TheVariants.{Line, Nothing}
use Rattle.printer_link.specs.declared.schedule.Schedule.{Schedule}
use Rattle.printer_link.specs.declared.schedule.Fate.{Fate}
use Rattle.printer_link.specs.declared.schedule.Fate.TheVariants.{Whole, Lost, Garbled}

-- a recorded history over a printer, with the fates of the lines that are sent in it
pub record StoryData : Type 0 where
  pub slots : ℕ
  pub oks : Oks
  pub fates : List Fate
  pub past : List WorldEvent

-- a link in memory; the last number is the printer's at the first session
pub record MemoryLinkData : Type 0 where
  pub story : StoryData
  pub names : List (List ℕ)
  pub last : ℕ
  pub slow : ℕ
  pub fail_at : List ℕ
  pub restart_at : List ℕ
  -- the replies that are lost, by their numbers
  pub lost : List ℕ
  pub calls : ℕ
  pub recvs : ℕ
  -- how many replies joined the wire from the printer
  pub replies : ℕ
  pub faults : ℕ

-- the world at the end of a recorded history
abbrev pub story_world : StoryData → WorldData
story_world s = world_of s.slots s.oks s.past

-- a recorded history with more events
abbrev pub with_events : StoryData → List WorldEvent → StoryData
with_events s events = record s { past = s.past ++ events }

-- how many lines were sent
abbrev pub sends : List WorldEvent → ℕ
sends past = count_by is_send past

-- the fate of the next line, by its number; after the last fate all are whole
abbrev pub next_fate : StoryData → Fate
next_fate s = slice_index_or s.fates (sends s.past) Whole

-- what becomes of the line at a place
abbrev pub harm_events : Fate → ℕ → ArrayVec ℕ → List WorldEvent
harm_events Whole at line = []
harm_events Lost at line = Lose at ∷ []
harm_events Garbled at line = Garble at (record { items = corrupted line.items }) ∷ []

-- a call of `send`: the line, and what becomes of it
abbrev pub send_events : WorldData → ArrayVec ℕ → Fate → List WorldEvent
send_events w line fate = Send line ∷ harm_events fate (length w.up) line

-- a restart of the printer, if there is one
abbrev pub restart_events : Bool → List WorldEvent
restart_events restarts = if restarts then Restart ∷ [] else []

-- what happens before a reply is received: perhaps a restart, and then what arrives and what is run
abbrev pub before_reply : Bool → Bool → WorldData → List WorldEvent
before_reply restarts due w = restart_events restarts ++ printer_events due (world_from w (restart_events restarts))

-- of this number of replies on the wire, the first of which has this number and this place, the listed ones are lost
abbrev pub lost_among : List ℕ → ℕ → ℕ → ℕ → List WorldEvent
lost_among lost number at zero = []
lost_among lost number at (suc count) =
    if is_listed lost number then LoseReply at ∷ lost_among lost (one_more number) at count
    else lost_among lost (one_more number) (at + 1) count

-- how many replies join the wire by events, none of which takes one off
abbrev pub joined : WorldData → List WorldEvent → ℕ
joined w events = length (world_from w events).down - length w.down

-- all that waits is run
abbrev pub queue_runs : WorldData → List WorldEvent
queue_runs w = replicate (length w.printer.queue) Run

-- the number that the printer has when a link is made: the given one at the first, then its own
abbrev pub opening_last : StoryData → ℕ → ℕ
opening_last s first =
    if list_any is_opened s.past then (world_from (story_world s) (queue_runs (story_world s))).printer.last else first

-- a link that is made is closed
abbrev pub closing_events : WorldData → List WorldEvent
closing_events w = if w.linked then Closed ∷ [] else []

-- only runs were added
pub record RunsOnly (old new : StoryData) : Type 0 where
  pub count : ℕ
  pub is : new ≡ with_events old (replicate count Run)

-- only events of the line and the printer were added
pub record FreeOnly (old new : StoryData) : Type 0 where
  pub added : List WorldEvent
  pub is : new ≡ with_events old added
  pub free : list_all is_free added ≡ true

-- a reply was passed over, and lost if it is listed; `next` is the place of the next one
abbrev pub PassedReply : Bool → ℕ → ℕ → StoryData → StoryData → Type 0
PassedReply true at next old new = (next ≡ at) × (new ≡ with_events old (LoseReply at ∷ []))
PassedReply false at next old new = (next ≡ at + 1) × (new ≡ old)

-- what is kept beside a recorded history: its world, and the place of the next fate
pub record IsKept (slots : ℕ) (oks : Oks) (fates : List Fate) (past : List WorldEvent) (world : WorldData) (next : ℕ) : Type 0 where
  pub some : 1 ≤ slots
  pub few : slots ≤ 16
  pub world_is : world ≡ world_of slots oks past
  pub next_is : next ≡ min (sends past) (length fates)

-- the world of a link
abbrev pub link_world : MemoryLinkData → WorldData
link_world l = story_world l.story

-- whether a name is listed
abbrev pub lists_name : List (List ℕ) → List ℕ → Bool
lists_name names name = list_any (λ listed. bytes_eq listed name) names

-- whether the `recv` of this number lets the printer run a line
abbrev pub is_due : ℕ → ℕ → Bool
is_due slow recvs = recvs % (slow + 1) == 0

-- the acknowledgements of a schedule's printer; replies may be lost if some are listed
abbrev pub oks_of : Schedule → Oks
oks_of schedule = record { numbered = schedule.numbered; lost = not (is_empty schedule.lost) }

-- a link that nothing was asked of
abbrev pub new_link : Schedule → MemoryLinkData
new_link schedule =
    record {
      story = record { slots = schedule.slots; oks = oks_of schedule; fates = schedule.fates; past = [] };
      names = schedule.names;
      last = schedule.last;
      slow = schedule.slow;
      fail_at = schedule.fail_at;
      restart_at = schedule.restart_at;
      lost = schedule.lost;
      calls = 0;
      recvs = 0;
      replies = 0;
      faults = 0;
    }

-- a call was counted
abbrev pub with_one_call : MemoryLinkData → MemoryLinkData
with_one_call l = record l { calls = one_more l.calls }

-- events were added
abbrev pub with_added : MemoryLinkData → List WorldEvent → MemoryLinkData
with_added l events = record l { story = with_events l.story events }

-- a failure was counted and the link is down
abbrev pub after_fault : MemoryLinkData → MemoryLinkData
after_fault l = record (with_added l (closing_events (link_world l))) { faults = one_more l.faults }

-- a `recv` was counted
abbrev pub with_one_recv : MemoryLinkData → MemoryLinkData
with_one_recv l = record l { recvs = one_more l.recvs }

-- whether a fate is to arrive whole
abbrev pub is_whole : Fate → Bool
is_whole Whole = true
is_whole Lost = false
is_whole Garbled = false

-- whether each line arrives whole and is run at the next `recv`, no call fails, the printer doesn't restart, and no reply is lost
abbrev pub is_prompt : MemoryLinkData → Bool
is_prompt l = list_all is_whole l.story.fates && (l.slow == 0 && (is_empty l.fail_at && (is_empty l.restart_at && is_empty l.lost)))

-- what no call of a link in memory changes
abbrev pub link_kind : MemoryLinkData → LinkKind
link_kind l = record { slots = l.story.slots; oks = l.story.oks; prompt = is_prompt l; listed = lists_name l.names }

-- what it says of itself
abbrev pub link_state : MemoryLinkData → LinkState
link_state l = record { kind = link_kind l; past = Some l.story.past; calls = Some l.calls; up = (link_world l).linked; faults = l.faults }

-- a link that only let the printer run
pub record LinkRan (old new : MemoryLinkData) : Type 0 where
  pub count : ℕ
  pub is : new ≡ with_added old (replicate count Run)

-- a link on which only the line and the printer did something
pub record LinkMoved (old new : MemoryLinkData) : Type 0 where
  pub added : List WorldEvent
  -- how many replies joined the wire so far
  pub replies : ℕ
  pub is : new ≡ record (with_added old added) { replies = replies }
  pub free : list_all is_free added ≡ true

-- what happens at a `recv` before a reply is received: what the printer does, and then which of its replies are lost
abbrev pub recv_losses : Bool → Bool → MemoryLinkData → List WorldEvent
recv_losses restarts due l =
    lost_among l.lost (one_more l.replies) (length (link_world l).down) (joined (link_world l) (before_reply restarts due (link_world l)))

-- both, in order
abbrev pub before_recv : Bool → Bool → MemoryLinkData → List WorldEvent
before_recv restarts due l = before_reply restarts due (link_world l) ++ recv_losses restarts due l

-- the count of replies after more of them, at most its type's last value
abbrev pub with_replies : ℕ → MemoryLinkData → MemoryLinkData
with_replies count l = record l { replies = min (l.replies + count) last_count }

-- a link after that
abbrev pub after_printer : Bool → Bool → MemoryLinkData → MemoryLinkData
after_printer restarts due l =
    with_replies (joined (link_world l) (before_reply restarts due (link_world l)))
    (with_added l (before_recv restarts due l))

-- a line was received after what the printer did
pub record LinkHeard (restarts due : Bool) (into : List ℕ) (old new : MemoryLinkData) : Type 0 where
  pub is : new ≡ with_added (after_printer restarts due old) (Recv ∷ [])
  pub front : IsFrontReply into (link_world (after_printer restarts due old)).down

-- nothing came after what the printer did
pub record LinkQuiet (restarts due : Bool) (old new : MemoryLinkData) : Type 0 where
  pub is : new ≡ after_printer restarts due old
  pub empty : (link_world (after_printer restarts due old)).down ≡ []

-- a `recv` that didn't fail
abbrev pub LinkReceived : Bool → Bool → List ℕ → Heard → MemoryLinkData → MemoryLinkData → Type 0
LinkReceived restarts due into Line old new = LinkHeard restarts due into old new
LinkReceived restarts due into Nothing old new = LinkQuiet restarts due old new
