-- What a request makes of a host and of its shelf.
use Rattle.std.specs.Prelude.{◌≡◌, ◌⊎◌, ℕ, Bool, true, false, List, Option, Some}
use Rattle.octo_outside.specs.Recorded.{Counts}
use Rattle.octo_keeper.specs.Calls.{KeeperState, ShelfState}
use Rattle.octo_keeper.specs.declared.shelf.ShelfFile.{ShelfFile}
use Rattle.octo_keeper.specs.declared.tables.Tables.{Tables}
use Rattle.octo_asks.specs.declared.answer.Answer.{Answer}
use Rattle.octo_house_rules.specs.Verdict.{Verdict, reads, IsDone, files_after}
use Rattle.octo_house_rules.specs.Faults.{is_keepers, is_shelfs}
use Rattle.octo_house_tables.specs.Kept.{KeepsRows}
use Rattle.octo_house.specs.declared.house.House.{House}
use Rattle.octo_house.specs.State.{IsApartFrom, IsListed, known_of, session_of, tables_of}

-- the answer is the verdict's, and this is known then
abbrev pub Answers : Verdict → Answer → House → House → Type 0
Answers v x old new = IsDone v x (known_of old) (known_of new)

-- whether a verdict asks the shelf what it holds; a refusal that comes before doesn't
abbrev pub asks_files : Verdict → Bool
asks_files (reads v) = true
asks_files _ = false

-- the same by the files that the shelf records, and by any files if the verdict doesn't ask for them
abbrev pub AnswersOn : Option (List ShelfFile) → (List ShelfFile → Verdict) → Answer → House → House → Type 0
AnswersOn held v x old new = (files : List ShelfFile) → (held ≡ Some files) ⊎ (asks_files (v files) ≡ false) → Answers (v files) x old new

-- the same by some files, whatever the shelf records
abbrev pub AnswersOnSome : (List ShelfFile → Verdict) → Answer → House → House → Type 0
AnswersOnSome v x old new = (files : List ShelfFile) × Answers (v files) x old new

-- the shelf holds the verdict's files then
abbrev pub Shelves : Option (List ShelfFile) → Option (List ShelfFile) → (List ShelfFile → Verdict) → Answer → Type 0
Shelves was now v x = (files : List ShelfFile) → was ≡ Some files → now ≡ Some (files_after (v files) x files)

-- keeper, shelf and host are what they were
pub record IsUntouched {K S : Type 0} (was now : K) (held holds : S) (old new : House) : Type 0 where
  pub keeper : now ≡ was
  pub shelf : holds ≡ held
  pub known : known_of new ≡ known_of old
  pub session : session_of new ≡ session_of old
  pub tables : tables_of new ≡ tables_of old

-- what a request leaves beside its answer, by what keeper and shelf record and how often each has failed
pub record AskDone (was now : KeeperState) (held holds : ShelfState) (x : Answer) (old new : House) : Type 0 where
  -- the keeper's tables stay the host's, and the names those of the shelf's files
  pub kept : KeepsRows was.tables now.tables old.tables new.tables
  pub listed : IsListed held.files old → IsListed holds.files new
  -- the sender and the link stay, and so does the end that isn't written, unless a start writes it
  pub apart : IsApartFrom old new
  -- a fault is answered only if keeper or shelf counted it
  pub keeper : Counts (is_keepers x ≡ true) was.faults now.faults
  pub shelf : Counts (is_shelfs x ≡ true) held.faults holds.faults

-- the same of a request that no shelf is asked for
pub record KeeperDone (was now : KeeperState) (x : Answer) (old new : House) : Type 0 where
  pub kept : KeepsRows was.tables now.tables old.tables new.tables
  pub names : new.names.items ≡ old.names.items
  pub apart : IsApartFrom old new
  pub keeper : Counts (is_keepers x ≡ true) was.faults now.faults
  pub shelf : is_shelfs x ≡ false

-- of a request that the shelf is only read for
pub record PrintDone (was now : KeeperState) (held holds : ShelfState) (x : Answer) (old new : House) : Type 0 where
  pub kept : KeepsRows was.tables now.tables old.tables new.tables
  pub names : new.names.items ≡ old.names.items
  pub stays : holds.files ≡ held.files
  pub apart : IsApartFrom old new
  pub keeper : Counts (is_keepers x ≡ true) was.faults now.faults
  pub shelf : Counts (is_shelfs x ≡ true) held.faults holds.faults

-- and of one that also no keeper is asked for
pub record ShelfDone (held holds : ShelfState) (x : Answer) : Type 0 where
  pub stays : holds.files ≡ held.files
  pub shelf : Counts (is_shelfs x ≡ true) held.faults holds.faults
  pub keeper : is_keepers x ≡ false
