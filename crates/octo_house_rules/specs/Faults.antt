-- How many faults a history says of a keeper, a shelf and a link.
use Rattle.std.specs.Prelude.{Bool, true, false, ℕ, ◌+◌, ◌<◌, ◌≤◌, count_by}
use Rattle.octo_asks.specs.declared.answer.Answer.{Answer}
use Rattle.octo_asks.specs.declared.answer.Answer.TheVariants as answer
use Rattle.octo_asks.specs.declared.answer.StoredCause.{StoredCause}
use Rattle.octo_asks.specs.declared.answer.StoredCause.TheVariants as cause
use Rattle.octo_outside.specs.Recorded.{last_count}
use Rattle.job_desk.specs.declared.link_fact.LinkFact.{LinkFact}
use Rattle.job_desk.specs.declared.link_fact.LinkFact.TheVariants as fact
use Rattle.octo_asks.specs.History.{History}
use Rattle.octo_asks.specs.declared.entry.Entry.{Entry}
use Rattle.octo_asks.specs.declared.entry.Entry.TheVariants as entry

-- whether an upload's print wasn't started since the keeper failed
abbrev pub is_keepers_cause : StoredCause → Bool
is_keepers_cause cause.KeeperFault = true
is_keepers_cause cause.NoMemory = false

-- whether the keeper failed
abbrev pub is_keepers : Answer → Bool
is_keepers answer.KeeperFault = true
is_keepers (answer.Stored name cause) = is_keepers_cause cause
is_keepers _ = false

-- whether the shelf failed
abbrev pub is_shelfs : Answer → Bool
is_shelfs answer.ShelfFault = true
is_shelfs _ = false

-- whether a fact says that a call of the link failed
abbrev pub is_failure : LinkFact → Bool
is_failure fact.Failed = true
is_failure _ = false

-- whether the entry is an answer that says that the keeper failed, as a fault or as the cause why a stored file isn't printed
abbrev pub is_keepers_fault : Entry → Bool
is_keepers_fault (entry.Call worker ask moment x) = is_keepers x
is_keepers_fault _ = false

-- whether it is an answer that says that the shelf failed
abbrev pub is_shelfs_fault : Entry → Bool
is_shelfs_fault (entry.Call worker ask moment x) = is_shelfs x
is_shelfs_fault _ = false

-- whether it is a note that says that the link failed
abbrev pub is_links_fault : Entry → Bool
is_links_fault (entry.Note note) = is_failure note.fact
is_links_fault _ = false

-- a count of faults didn't fall, and rose by at least this number, or is at its type's last value
pub record HasRisen (n before now : ℕ) : Type 0 where
  pub later : before ≤ now
  pub rose : now < last_count → before + n ≤ now

-- each fault that the history says was counted: of the keeper, of the shelf and of the link
pub record AreCounted (keeper keeper' shelf shelf' link link' : ℕ) (h : History) : Type 0 where
  pub keepers : HasRisen (count_by is_keepers_fault h) keeper keeper'
  pub shelfs : HasRisen (count_by is_shelfs_fault h) shelf shelf'
  pub links : HasRisen (count_by is_links_fault h) link link'
