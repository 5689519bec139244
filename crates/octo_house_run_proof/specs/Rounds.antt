-- What an ask and a turn of the link add to a history.
use Rattle.std.specs.Prelude.{◌≡◌, ◌⊎◌, ℕ, ◌-◌, Bool, true, false, List, [], ◌∷◌, Option, None, Some, IfSome, count_by}
use Rattle.job_desk.specs.declared.issued.Note.{Note}
use Rattle.job_desk.specs.declared.link_fact.LinkFact.TheVariants as fact
use Rattle.octo_asks.specs.History.{History}
use Rattle.octo_asks.specs.declared.answer.Answer.{Answer}
use Rattle.octo_asks.specs.declared.entry.Entry.TheVariants as entry
use Rattle.octo_asks.specs.declared.request.Ask.{Ask}
use Rattle.octo_session.specs.Data.{SessionData, doing, port_of}
use Rattle.octo_session.specs.Turn.{fact_of}
use Rattle.octo_session.specs.declared.found.Doing.TheVariants.{Dialling}
use Rattle.octo_outside.specs.Recorded.{Counts}
use Rattle.printer_link.specs.Link.{RoseBy}
use Rattle.octo_house_rules.specs.LinkUse.{is_of_dial, is_closing}
use Rattle.octo_house_rules.specs.Faults.{HasRisen, is_failure, is_keepers_fault, is_shelfs_fault}

-- one call at this moment
abbrev pub IsCallAt : ℕ → History → Type 0
IsCallAt moment h = (worker : ℕ) × (ask : Ask) × (x : Answer) × (h ≡ entry.Call worker ask moment x ∷ [])

-- a call at this moment, or nothing; the faults that its answer says were counted
pub record AsksAt (moment keeper keeper' shelf shelf' : ℕ) (h : History) : Type 0 where
  pub asks : (h ≡ []) ⊎ IsCallAt moment h
  pub keepers : HasRisen (count_by is_keepers_fault h) keeper keeper'
  pub shelfs : HasRisen (count_by is_shelfs_fault h) shelf shelf'

-- a note as a history, or nothing
abbrev pub history_of_note : Option Note → History
history_of_note None = []
history_of_note (Some note) = entry.Note note ∷ []

-- 1 for true, 0 for false
abbrev pub one_if : Bool → ℕ
one_if true = 1
one_if false = 0

-- a turn of this session, with this note or none
pub record NotesAt (moment : ℕ) (listed : List ℕ → Bool) (x : SessionData) (calls calls' : Option ℕ) (link link' : ℕ) (note : Option Note) : Type 0 where
  pub its_moment : IfSome note (λ n. n.moment ≡ moment)
  pub port : fact_of note ≡ fact.NoPort → listed (port_of x.desk) ≡ false
  pub dials : doing x ≡ Dialling → is_of_dial (fact_of note) ≡ true
  -- over an open link it makes a call, unless the link is closed
  pub calls_rose : RoseBy (one_if x.up - one_if (is_closing (fact_of note))) calls calls'
  pub counts : Counts (is_failure (fact_of note) ≡ true) link link'

-- the same as a history
abbrev pub TurnsAt : ℕ → (List ℕ → Bool) → SessionData → (calls calls' : Option ℕ) → (link link' : ℕ) → History → Type 0
TurnsAt moment listed x calls calls' link link' h = (note : Option Note) × (h ≡ history_of_note note) × NotesAt moment listed x calls calls' link link' note
