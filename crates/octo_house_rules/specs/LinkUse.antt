-- How a history uses a link: when it dials, and how many calls it makes.
use Rattle.std.specs.Prelude.{◌≡◌, ℕ, ◌+◌, ◌-◌, Bool, true, false, if◌then◌else◌, List, [], ◌∷◌, Option, count_by}
use Rattle.job_desk.specs.declared.link_fact.LinkFact.{LinkFact}
use Rattle.job_desk.specs.declared.link_fact.LinkFact.TheVariants as fact
use Rattle.octo_asks.specs.History.{History}
use Rattle.octo_asks.specs.declared.entry.Entry.{Entry}
use Rattle.octo_asks.specs.declared.entry.Entry.TheVariants as entry
use Rattle.octo_session.specs.Data.{port_of}
use Rattle.printer_link.specs.Link.{RoseBy}
use Rattle.octo_house_rules.specs.Legal.{Standing, IsDialling, after_entry}

-- whether a fact is what a dial finds
abbrev pub is_of_dial : LinkFact → Bool
is_of_dial fact.Opened = true
is_of_dial fact.NoPort = true
is_of_dial fact.Failed = true
is_of_dial _ = false

-- whether a fact says that the link was closed
abbrev pub is_closing : LinkFact → Bool
is_closing fact.Closed = true
is_closing _ = false

-- whether the entry is a note that says so
abbrev pub is_close_note : Entry → Bool
is_close_note (entry.Note note) = is_closing note.fact
is_close_note _ = false

-- the missing port is the one that the desk connects to, and it isn't listed
abbrev pub IsUnlisted : (List ℕ → Bool) → Entry → Standing → Type 0
IsUnlisted listed (entry.Note note) s = note.fact ≡ fact.NoPort → listed (port_of s.known.desk) ≡ false
IsUnlisted listed _ s = Unit {0}

-- each note of a missing port
abbrev pub AreUnlisted : (List ℕ → Bool) → History → Standing → Type 0
AreUnlisted listed [] s = Unit {0}
AreUnlisted listed (e ∷ es) s = IsUnlisted listed e s × AreUnlisted listed es (after_entry e s)

-- the history begins with the note of a dial
abbrev pub BeginsWithDial : History → Type 0
BeginsWithDial [] = ⊥
BeginsWithDial (entry.Call worker ask moment x ∷ es) = ⊥
BeginsWithDial (entry.Note note ∷ es) = is_of_dial note.fact ≡ true
BeginsWithDial (entry.Close ∷ es) = ⊥

-- if a call left the desk connecting, and no session open, then what follows begins so
abbrev pub IsDialled : Entry → History → Standing → Type 0
IsDialled (entry.Call worker ask moment x) next after = IsDialling after → BeginsWithDial next
IsDialled _ next after = Unit {0}

-- after each call
abbrev pub AreDialled : History → Standing → Type 0
AreDialled [] s = Unit {0}
AreDialled (e ∷ es) s = IsDialled e es (after_entry e s) × AreDialled es (after_entry e s)

-- one for a call after which a session is open
abbrev pub open_by : Entry → Standing → ℕ
open_by (entry.Call worker ask moment x) after = if after.up then 1 else 0
open_by _ after = 0

-- the number of calls after which a session is open
abbrev pub open_calls : History → Standing → ℕ
open_calls [] s = 0
open_calls (e ∷ es) s = open_by e (after_entry e s) + open_calls es (after_entry e s)

-- from this standing a history notes no port that is listed, dials after each call that asks for a connection, and
-- calls the link after each call that leaves a session open, if that link isn't closed then
pub record UsesLink (listed : List ℕ → Bool) (calls calls' : Option ℕ) (h : History) (s : Standing) : Type 0 where
  pub ports : AreUnlisted listed h s
  pub dials : AreDialled h s
  pub calls_rose : RoseBy (open_calls h s - count_by is_close_note h) calls calls'
