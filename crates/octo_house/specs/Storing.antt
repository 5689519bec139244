-- How an upload is stored, and when its print may begin.
use Rattle.std.specs.Prelude.{◌≡◌, ◌⊎◌, ℕ, Bool, true, false, List, [], ◌∷◌, length, Option, None, Some, Result, Ok, Err}
use Rattle.temp_rules.specs.Hot.{first_hot_of}
use Rattle.job_desk.specs.Data.{File}
use Rattle.job_desk.specs.Run.{DropFile}
use Rattle.job_desk.specs.Table.{drop_file_step}
use Rattle.job_desk.specs.declared.state.Refusal.{Refusal}
use Rattle.job_desk.specs.declared.state.State.TheVariants.{Operational}
use Rattle.octo_keeper.specs.declared.keeper.KeeperFault.{KeeperFault}
use Rattle.octo_keeper.specs.declared.keeper.KeeperFault.TheVariants as keeper_fault
use Rattle.octo_asks.specs.declared.answer.Answer.{Answer}
use Rattle.octo_asks.specs.declared.answer.Answer.TheVariants as answer
use Rattle.octo_asks.specs.declared.answer.StoredCause.{StoredCause}
use Rattle.octo_asks.specs.declared.answer.StoredCause.TheVariants as cause
use Rattle.octo_house_rules.specs.Known.{Known, with_name, shown_count}
use Rattle.octo_house_rules.specs.Prints.{has_room}
use Rattle.octo_house_rules.specs.Refusals.{answer_of_refusal}
use Rattle.octo_house_rules.specs.Uploads.{has_file_room}
use Rattle.octo_house_rules.specs.Verdict.{at_desk, known_after}
use Rattle.octo_house.specs.declared.house.House.{House}
use Rattle.octo_house.specs.State.{known_of}

-- the answer that no more file has room, unless one has
abbrev pub full_unless : Bool → Known → Option Answer
full_unless true k = None
full_unless false k = Some (answer.Full (shown_count (length k.names)))

-- the desk's refusal as an answer, or else another answer
abbrev pub refused_or : Result (Unit {0}) Refusal → Option Answer → Option Answer
refused_or (Ok done) other = other
refused_or (Err refusal) other = Some (answer_of_refusal refusal)

-- why a file isn't stored, faults aside
abbrev pub store_refusal : List ℕ → Known → Option Answer
store_refusal name k = refused_or (drop_file_step name k.desk).0 (full_unless (has_file_room name k) k)

-- what is known once it is stored: the selection of a former file is dropped
abbrev pub with_stored : List ℕ → Known → Known
with_stored name k = known_after (record (at_desk (DropFile name ∷ []) k) { names = with_name name k.names }) k

-- a file was stored
pub record IsStored (name : List ℕ) (old new : House) : Type 0 where
  pub allowed : store_refusal name (known_of old) ≡ None
  pub known : known_of new ≡ with_stored name (known_of old)

-- or not: it was refused, or a fault came
pub record IsNotStored (name : List ℕ) (old new : House) (x : Answer) : Type 0 where
  pub why : (store_refusal name (known_of old) ≡ Some x) ⊎ ((x ≡ answer.NoMemory)
      ⊎ ((x ≡ answer.ShelfFault) × (store_refusal name (known_of old) ≡ None)))
  pub known : known_of new ≡ known_of old

-- the selected file has this name and this number of commands, none of them too hot, and its print may begin
pub record IsStartable (name : List ℕ) (commands : ℕ) (k : Known) : Type 0 where
  pub state : k.desk.state ≡ Operational
  pub file : File
  pub selected : k.desk.file ≡ Some file
  pub named : file.name ≡ name
  pub counted : length file.job.commands ≡ commands
  pub cool : first_hot_of k.desk.limits file.job.commands ≡ None
  pub room : has_room k ≡ true

-- why the print of a stored file wasn't started
abbrev pub cause_of : KeeperFault → StoredCause
cause_of keeper_fault.Failed = cause.KeeperFault
cause_of keeper_fault.NoMemory = cause.NoMemory
