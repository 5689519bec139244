-- Worked cases of the definitions.
use Rattle.std.proofs.Common.{◌≡◌, ℕ, List, [], ◌∷◌, Option, Some, None, refl}
use Rattle.std.specs.Prelude.{count_by}
use Rattle.marlin_reply.specs.declared.reply.Temps.{Temps}
use Rattle.job_desk.specs.declared.link_fact.LinkFact.{LinkFact}
use Rattle.job_desk.specs.declared.link_fact.LinkFact.TheVariants as fact
use Rattle.octo_asks.specs.History.{History}
use Rattle.octo_asks.specs.declared.answer.Answer.{Answer}
use Rattle.octo_asks.specs.declared.answer.Answer.TheVariants as answer
use Rattle.octo_asks.specs.declared.answer.StoredCause.TheVariants as cause
use Rattle.octo_asks.specs.declared.entry.Entry.{Entry}
use Rattle.octo_asks.specs.declared.entry.Entry.TheVariants as entry
use Rattle.octo_asks.specs.declared.request.Ask.{Ask}
use Rattle.octo_house_rules.specs.Faults.{is_keepers_fault, is_shelfs_fault, is_links_fault}
use Rattle.octo_house_rules.specs.LinkUse.{is_close_note, BeginsWithDial}
use Rattle.octo_house_rules.specs.Temps.{temps_noted}

-- a note with this fact and these temperatures
abbrev note_of : LinkFact → Option Temps → Entry
note_of found temps = entry.Note (record { moment = 7; acked = 0; issued = record { items = [] }; temps = temps; fact = found })

module _ (ask : Ask) (name : List ℕ) (warm cool : Temps) where
  abbrev said : Answer → Entry
  said x = entry.Call 1 ask 7 x

  -- each kind of fault once or twice, between entries that say of none
  abbrev faulty : History
  faulty =
      said answer.KeeperFault ∷ note_of fact.Failed None ∷ said (answer.Stored name cause.KeeperFault) ∷ said (answer.Stored name cause.NoMemory)
      ∷ said answer.ShelfFault ∷ note_of fact.NoPort None ∷ said answer.NoMemory ∷ entry.Close ∷ []

  keepers_are_two : count_by is_keepers_fault faulty ≡ 2
  keepers_are_two = refl

  shelfs_are_one : count_by is_shelfs_fault faulty ≡ 1
  shelfs_are_one = refl

  links_are_one : count_by is_links_fault faulty ≡ 1
  links_are_one = refl

  -- a close is noted, and a loss isn't one
  closes_are_one : count_by is_close_note (note_of fact.Opened None ∷ note_of fact.Closed None ∷ note_of fact.Failed None ∷ entry.Close ∷ []) ≡ 1
  closes_are_one = refl

  -- the temperatures of notes in their order
  temps_in_order : temps_noted (note_of fact.Quiet (Some warm) ∷ said answer.Version ∷ note_of fact.Quiet None ∷ note_of fact.Ready (Some cool) ∷ []) ≡ warm ∷ cool ∷ []
  temps_in_order = refl

  -- a dial is a note that follows at once
  dial_follows : BeginsWithDial (note_of fact.NoPort None ∷ said answer.Version ∷ [])
  dial_follows = refl

  dial_waits : BeginsWithDial (said answer.Version ∷ note_of fact.Opened None ∷ []) → ⊥
  dial_waits begins = begins
