-- What a request may be answered, and what then holds.
use Rattle.std.specs.Prelude.{◌≡◌, ◌⊎◌, ℕ, Bool, true, false, List, [], ◌++◌, if◌then◌else◌}
use Rattle.octo_access.specs.declared.row.UserRow.{UserRow}
use Rattle.octo_keeper.specs.Files.{with_file, without_file}
use Rattle.octo_keeper.specs.declared.shelf.ShelfFile.{ShelfFile}
use Rattle.print_queue.specs.declared.entry.QueueEntry.{QueueEntry}
use Rattle.print_queue.specs.declared.row.PrintRow.{PrintRow}
use Rattle.job_desk.specs.Run.{DeskCall}
use Rattle.octo_asks.specs.declared.answer.Answer.{Answer}
use Rattle.octo_asks.specs.declared.answer.Answer.TheVariants as answer
use Rattle.octo_asks.specs.declared.answer.StoredCause.TheVariants as cause
use Rattle.octo_house_rules.specs.Known.{Known}
use Rattle.octo_house_rules.specs.Desk.{desk_after_all}

-- what a request does: its calls at the desk, in order, and the tables and names after it
pub record Deed : Type 0 where
  pub calls : List DeskCall
  pub users : List UserRow
  pub queue : List QueueEntry
  pub prints : List PrintRow
  pub names : List (List ℕ)

-- calls at the desk alone
abbrev pub at_desk : List DeskCall → Known → Deed
at_desk calls k = record { calls = calls; users = k.users; queue = k.queue; prints = k.prints; names = k.names }

-- what is known after a deed
abbrev pub known_after : Deed → Known → Known
known_after deed k = record k { desk = desk_after_all deed.calls k.desk; users = deed.users; queue = deed.queue; prints = deed.prints; names = deed.names }

-- The answer to a request, with the places at which keeper and shelf may fail. Memory may run out at any place.
pub data Verdict : Type 0 where
  -- a refusal, or an answer that changes nothing
  gives : Answer → Verdict
  -- this is done, and the keeper has no part in it
  makes : Answer → Deed → Verdict
  -- the same once the keeper has written it
  writes : Answer → Deed → Verdict
  -- the shelf is asked first
  reads : Verdict → Verdict
  -- the shelf takes a file out first
  removes : List ℕ → Answer → Deed → Verdict
  -- the shelf stores bytes under a name first; this is done then, and the rest follows
  stores : List ℕ → List ℕ → Deed → Verdict → Verdict
  -- as writes for a file that was stored under this name: the fault says so
  begins : Answer → Deed → List ℕ → Verdict

-- the answer if nothing fails
abbrev pub answer_in : Verdict → Answer
answer_in (gives a) = a
answer_in (makes a deed) = a
answer_in (writes a deed) = a
answer_in (reads v) = answer_in v
answer_in (removes name a deed) = a
answer_in (stores name bytes deed v) = answer_in v
answer_in (begins a deed name) = a

-- the answers that a verdict allows, out of memory aside
abbrev pub May : Verdict → Answer → Type 0
May (gives a) x = x ≡ a
May (makes a deed) x = x ≡ a
May (writes a deed) x = (x ≡ a) ⊎ (x ≡ answer.KeeperFault)
May (reads v) x = (x ≡ answer.ShelfFault) ⊎ May v x
May (removes name a deed) x = (x ≡ answer.ShelfFault) ⊎ (x ≡ a)
May (stores name bytes deed v) x = (x ≡ answer.ShelfFault) ⊎ May v x
May (begins a deed name) x = (x ≡ a) ⊎ (x ≡ answer.Stored name cause.KeeperFault) ⊎ (x ≡ answer.Stored name cause.NoMemory)

-- whether an answer says that nothing was done for a fault
abbrev pub is_fault : Answer → Bool
is_fault answer.KeeperFault = true
is_fault answer.ShelfFault = true
is_fault answer.NoMemory = true
is_fault _ = false

-- whether an answer says that a file was stored, and that its print was not started for a fault
abbrev pub is_stored : Answer → Bool
is_stored (answer.Stored name cause) = true
is_stored _ = false

-- what is known after an answer that is no fault
abbrev pub known_in : Verdict → Known → Answer → Known
known_in (gives a) k x = k
known_in (makes a deed) k x = known_after deed k
known_in (writes a deed) k x = known_after deed k
known_in (reads v) k x = known_in v k x
known_in (removes name a deed) k x = known_after deed k
known_in (stores name bytes deed v) k x = known_in v (known_after deed k) x
known_in (begins a deed name) k x = if is_stored x then k else known_after deed k

-- what is known after an answer; a fault leaves all as it was
abbrev pub after : Verdict → Known → Answer → Known
after v k x = if is_fault x then k else known_in v k x

-- the calls at the desk of an answer that is no fault
abbrev pub calls_in : Verdict → Answer → List DeskCall
calls_in (gives a) x = []
calls_in (makes a deed) x = deed.calls
calls_in (writes a deed) x = deed.calls
calls_in (reads v) x = calls_in v x
calls_in (removes name a deed) x = deed.calls
calls_in (stores name bytes deed v) x = deed.calls ++ calls_in v x
calls_in (begins a deed name) x = if is_stored x then [] else deed.calls

-- the calls at the desk of an answer; a fault has none
abbrev pub calls_after : Verdict → Answer → List DeskCall
calls_after v x = if is_fault x then [] else calls_in v x

-- the files after an answer that is no fault
abbrev pub files_in : Verdict → List ShelfFile → List ShelfFile
files_in (gives a) files = files
files_in (makes a deed) files = files
files_in (writes a deed) files = files
files_in (reads v) files = files_in v files
files_in (removes name a deed) files = without_file name files
files_in (stores name bytes deed v) files = files_in v (with_file name bytes files)
files_in (begins a deed name) files = files

-- the files after an answer; a fault leaves them as they were
abbrev pub files_after : Verdict → Answer → List ShelfFile → List ShelfFile
files_after v x files = if is_fault x then files else files_in v files

-- an answer that a verdict allows, and what it leaves
pub record IsDone (v : Verdict) (x : Answer) (old new : Known) : Type 0 where
  pub may : (x ≡ answer.NoMemory) ⊎ May v x
  pub leaves : new ≡ after v old x
