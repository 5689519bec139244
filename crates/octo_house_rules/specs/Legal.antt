-- What a history leads to, and which histories are legal.
use Rattle.std.specs.Prelude.{◌≡◌, ◌⊎◌, ℕ, ◌*◌, ◌-◌, ◌<◌, ◌≤◌, Bool, true, false, nat_lt, min, if◌then◌else◌, List, [], ◌∷◌, None}
use Rattle.job_desk.specs.declared.link_fact.LinkFact.{LinkFact}
use Rattle.job_desk.specs.declared.link_fact.LinkFact.TheVariants as fact
use Rattle.send_window.specs.Data.{most_lines, most_silent, most_told}
use Rattle.send_window.specs.declared.session_end.SessionEnd.{SessionEnd}
use Rattle.send_window.specs.declared.session_end.SessionEnd.TheVariants as session_end
use Rattle.job_desk.specs.declared.issued.Note.{Note}
use Rattle.job_desk.specs.Data.{Data, moment_after}
use Rattle.job_desk.specs.Pull.{pull_step}
use Rattle.job_desk.specs.Table.{is_closable_at}
use Rattle.job_desk.specs.declared.state.State.TheVariants.{Connecting}
use Rattle.octo_keeper.specs.declared.shelf.ShelfFile.{ShelfFile}
use Rattle.octo_asks.specs.History.{History}
use Rattle.octo_asks.specs.declared.answer.Answer.{Answer}
use Rattle.octo_asks.specs.declared.answer.Answer.TheVariants as answer
use Rattle.octo_asks.specs.declared.entry.Entry.{Entry}
use Rattle.octo_asks.specs.declared.entry.Entry.TheVariants as entry
use Rattle.octo_asks.specs.declared.request.Ask.{Ask}
use Rattle.octo_house_rules.specs.Known.{Known}
use Rattle.octo_house_rules.specs.Verdict.{May, after, files_after}
use Rattle.octo_house_rules.specs.Answers.{verdict}
use Rattle.octo_house_rules.specs.Desk.{lines_pulled}
use Rattle.octo_house_rules.specs.Noted.{calls_of, lines_in, known_after_note}

-- where a history has led
pub record Standing : Type 0 where
  -- the sender's window and its time limit in milliseconds; nothing changes them
  pub window : ℕ
  pub limit : ℕ
  pub known : Known
  pub files : List ShelfFile
  -- whether a session is open, and whether its hello was acknowledged
  pub up : Bool
  pub ready : Bool
  -- the moment of the last note that opened the session or acknowledged more of it
  pub raised_at : ℕ
  -- the moment of the last entry, and whether the host has ended
  pub moment : ℕ
  pub closed : Bool

-- before any entry: what a host begins with
abbrev pub beginning : ℕ → ℕ → Known → List ShelfFile → Standing
beginning window limit known files = record {
  window = window;
  limit = limit;
  known = known;
  files = files;
  up = false;
  ready = false;
  raised_at = 0;
  moment = 0;
  closed = false;
}

-- whether a session is open after a note with this fact
abbrev pub up_after : LinkFact → Bool → Bool
up_after fact.Quiet was = was
up_after fact.Opened was = true
up_after fact.Ready was = was
up_after fact.Closed was = false
up_after fact.NoPort was = false
up_after fact.Failed was = false
up_after (fact.Ended end) was = false

-- whether its hello was acknowledged
abbrev pub ready_after : LinkFact → Bool → Bool
ready_after fact.Quiet was = was
ready_after fact.Opened was = false
ready_after fact.Ready was = true
ready_after fact.Closed was = false
ready_after fact.NoPort was = false
ready_after fact.Failed was = false
ready_after (fact.Ended end) was = false

-- when more was acknowledged last
abbrev pub raised_after : LinkFact → ℕ → ℕ → Standing → ℕ
raised_after fact.Opened acked moment s = moment
raised_after _ acked moment s = if nat_lt s.known.desk.acked acked then moment else s.raised_at

-- where a call leads, by its answer
abbrev pub after_call : Ask → ℕ → Answer → Standing → Standing
after_call ask moment x s = record s {
  known = after (verdict ask s.files s.known) s.known x;
  files = files_after (verdict ask s.files s.known) x s.files;
  moment = moment;
}

-- where a note leads
abbrev pub after_note : Note → Standing → Standing
after_note note s = record s {
  known = known_after_note note s.known;
  up = up_after note.fact s.up;
  ready = ready_after note.fact s.ready;
  raised_at = raised_after note.fact note.acked note.moment s;
  moment = note.moment;
}

-- where an entry leads
abbrev pub after_entry : Entry → Standing → Standing
after_entry (entry.Call worker ask moment x) s = after_call ask moment x s
after_entry (entry.Note note) s = after_note note s
after_entry entry.Close s = record s { closed = true }

-- the state that a history leads to
abbrev pub after_all : History → Standing → Standing
after_all [] s = s
after_all (e ∷ es) s = after_all es (after_entry e s)

-- the answer is the verdict's, with a fault at its place, or memory ran out
pub record IsLegalCall (ask : Ask) (moment : ℕ) (x : Answer) (s : Standing) : Type 0 where
  pub later : s.moment ≤ moment
  pub may : (x ≡ answer.NoMemory) ⊎ May (verdict ask s.files s.known) x

-- the number of acknowledged lines falls only as a session begins, to 0, and is at most the number of issued ones
abbrev pub IsAckedWell : LinkFact → ℕ → Data → Type 0
IsAckedWell fact.Opened acked d = acked ≡ 0
IsAckedWell _ acked d = (d.acked ≤ acked) × (acked ≤ d.issued)

-- the hello or an issued line is unacknowledged
abbrev pub IsWaiting : ℕ → Standing → Type 0
IsWaiting acked s = (s.ready ≡ false) ⊎ (acked < s.known.desk.issued)

-- when each end of a session may come
abbrev pub MayEnd : SessionEnd → ℕ → ℕ → Standing → Type 0
MayEnd (session_end.NoAnswer silent) acked moment s = IsWaiting acked s × (moment_after s.raised_at (most_silent * s.limit) ≤ moment)
MayEnd (session_end.LostOk limits) acked moment s = (acked < s.known.desk.issued) × (moment_after s.raised_at (most_told * s.limit) ≤ moment)
MayEnd (session_end.NumbersUsed issued) acked moment s = acked ≡ most_lines
MayEnd _ acked moment s = Unit {0}

-- no session is open, and the desk begins to connect
abbrev pub IsDialling : Standing → Type 0
IsDialling s = (s.known.desk.state ≡ Connecting) × (s.up ≡ false)

-- when each fact may come
abbrev pub MayFind : LinkFact → ℕ → ℕ → Standing → Type 0
MayFind fact.Quiet acked moment s = Unit {0}
MayFind fact.Opened acked moment s = IsDialling s
MayFind fact.Ready acked moment s = (s.up ≡ true) × (s.ready ≡ false)
MayFind fact.Closed acked moment s = is_closable_at s.known.desk.state s.known.desk ≡ true
MayFind fact.NoPort acked moment s = IsDialling s
MayFind fact.Failed acked moment s = (s.known.desk.state ≡ Connecting) ⊎ (s.up ≡ true)
MayFind (fact.Ended end) acked moment s = (s.up ≡ true) × MayEnd end acked moment s

-- how many more lines the sender takes
abbrev pub room_of : Standing → ℕ
room_of s = min (s.window - (s.known.desk.issued - s.known.desk.acked)) (most_lines - s.known.desk.issued)

-- nothing more can be issued: there is no room, or the desk has no line
abbrev pub IsSpent : ℕ → Standing → Type 0
IsSpent moment s = (room_of s ≡ 0) ⊎ ((pull_step moment s.known.desk).0 ≡ None)

-- a note that may come
pub record IsLegalNote (note : Note) (s : Standing) : Type 0 where
  pub later : s.moment ≤ note.moment
  pub acked : IsAckedWell note.fact note.acked s.known.desk
  pub found : MayFind note.fact note.acked note.moment s
  -- successive pulls return the issued lines
  pub lines : lines_pulled (calls_of note) s.known.desk ≡ lines_in note
  pub spent : note.fact ≡ fact.Quiet → s.up ≡ true → s.ready ≡ true → IsSpent note.moment (after_note note s)

-- an entry that may come; nothing follows the end
abbrev pub IsLegal : Entry → Standing → Type 0
IsLegal (entry.Call worker ask moment x) s = (s.closed ≡ false) × IsLegalCall ask moment x s
IsLegal (entry.Note note) s = (s.closed ≡ false) × IsLegalNote note s
IsLegal entry.Close s = s.closed ≡ false

-- a history each of whose entries may come
abbrev pub Legal : History → Standing → Type 0
Legal [] s = Unit {0}
Legal (e ∷ es) s = IsLegal e s × Legal es (after_entry e s)
