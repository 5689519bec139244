-- The sessions of a history.
use Rattle.std.specs.Prelude.{ℕ, zero, suc, Bool, false, not, List, [], ◌∷◌, if◌then◌else◌, Option, Some, None}
use Rattle.std.specs.List.{take_while}
use Rattle.job_desk.specs.declared.link_fact.LinkFact.{LinkFact}
use Rattle.job_desk.specs.declared.link_fact.LinkFact.TheVariants as fact
use Rattle.send_window.specs.Data.{most_lines}
use Rattle.send_window.specs.declared.session_end.SessionEnd.{SessionEnd}
use Rattle.octo_session.specs.Turn.{texts_in}
use Rattle.octo_asks.specs.History.{History}
use Rattle.octo_asks.specs.declared.entry.Entry.{Entry}
use Rattle.octo_asks.specs.declared.entry.Entry.TheVariants as entry
use Rattle.octo_house_rules.specs.Issued.{is_opened, after_opening, issued_of}
use Rattle.octo_house_rules.specs.Legal.{up_after}

-- how many sessions were opened
abbrev pub sessions : History → ℕ
sessions [] = 0
sessions (e ∷ es) = if is_opened e then suc (sessions es) else sessions es

-- the entries of a session after its opening; sessions are counted from 1
abbrev pub entries_of : ℕ → History → History
entries_of session history = take_while (λ e. not (is_opened e)) (after_opening session history)

-- the texts of the lines that a session issued
abbrev pub session_texts : ℕ → History → List (List ℕ)
session_texts session history = texts_in (issued_of session history)

-- how many lines a session may issue: as many as it has numbers for, and none before the first session
abbrev pub most_in : ℕ → ℕ
most_in zero = 0
most_in (suc session) = most_lines

-- how many lines are acknowledged after an entry
abbrev pub acked_at : Entry → ℕ → ℕ
acked_at (entry.Call worker ask moment answer) was = was
acked_at (entry.Note note) was = note.acked
acked_at entry.Close was = was

-- the same after entries, in order
abbrev pub acked_after : History → ℕ → ℕ
acked_after [] was = was
acked_after (e ∷ es) was = acked_after es (acked_at e was)

-- how many lines of a session are acknowledged, as its last note says; none at its opening
abbrev pub acked_in : ℕ → History → ℕ
acked_in session history = acked_after (entries_of session history) 0

-- whether a session is open after an entry; none is once the host has ended
abbrev pub open_at : Entry → Bool → Bool
open_at (entry.Call worker ask moment answer) was = was
open_at (entry.Note note) was = up_after note.fact was
open_at entry.Close was = false

-- the same after entries, in order
abbrev pub open_after : History → Bool → Bool
open_after [] was = was
open_after (e ∷ es) was = open_after es (open_at e was)

-- whether a session is open after a whole history
abbrev pub is_open : History → Bool
is_open history = open_after history false

-- the end of a session that a fact is, if it is one
abbrev pub end_of : LinkFact → Option SessionEnd
end_of (fact.Ended end) = Some end
end_of _ = None

-- the end of a session that an entry notes, if it notes one
abbrev pub end_at : Entry → Option SessionEnd
end_at (entry.Call worker ask moment answer) = None
end_at (entry.Note note) = end_of note.fact
end_at entry.Close = None

-- the same of the last of some entries
abbrev pub end_after : History → Option SessionEnd → Option SessionEnd
end_after [] was = was
end_after (e ∷ es) was = end_after es (end_at e)

-- the same of the last entry of a history
abbrev pub last_end : History → Option SessionEnd
last_end history = end_after history None
