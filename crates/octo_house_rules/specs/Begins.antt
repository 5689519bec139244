-- What a host begins with.
use Rattle.std.specs.Prelude.{Bool, ◌≡◌, ℕ, List, map}
use Rattle.std.specs.List.Sorted.{IsPermutation}
use Rattle.octo_access.specs.Rows.{IsUserTable}
use Rattle.octo_access.specs.declared.policy.Policy.{Policy}
use Rattle.octo_keeper.specs.declared.shelf.ShelfFile.{ShelfFile}
use Rattle.octo_keeper.specs.declared.tables.Tables.{Tables}
use Rattle.print_queue.specs.Lawful.{IsLawful}
use Rattle.print_queue.specs.declared.ending.Outcome.{Outcome}
use Rattle.print_queue.specs.declared.ending.Outcome.TheVariants as outcome
use Rattle.print_queue.specs.declared.row.PrintRow.{PrintRow}
use Rattle.job_desk.specs.Data.{ScriptTexts, new_desk}
use Rattle.temp_rules.specs.declared.limits.Limits.{Limits}
use Rattle.octo_house_rules.specs.Known.{Known, names_of}
use Rattle.octo_house_rules.specs.Noted.{no_temps}

-- the outcome of a print as a new host reads it: one that was still going on has failed
abbrev pub outcome_read : Outcome → Outcome
outcome_read outcome.Active = outcome.Failed
outcome_read outcome.Done = outcome.Done
outcome_read outcome.Cancelled = outcome.Cancelled
outcome_read outcome.Failed = outcome.Failed

-- the record of a print as a new host reads it
abbrev pub row_read : PrintRow → PrintRow
row_read row = record row { outcome = outcome_read row.outcome }

-- a host with a new desk knows the loaded rows, sorted, and the names of the files
pub record Begins (scripts : ScriptTexts) (limits : Limits) (poll_ms : ℕ) (numbered : Bool) (policy : Policy) (ports : List (List ℕ)) (material : List ℕ)
    (tables : Tables) (files : List ShelfFile) (k : Known) : Type 0 where
  pub policy_is : k.policy ≡ policy
  pub ports_are : k.ports ≡ ports
  pub material_is : k.material ≡ material
  pub desk : k.desk ≡ new_desk scripts limits poll_ms numbered
  pub temps : k.temps ≡ no_temps
  pub users : IsPermutation tables.users k.users
  pub user_table : IsUserTable k.users
  pub queue : IsPermutation tables.queue k.queue
  pub lawful : IsLawful k.queue
  pub prints : k.prints ≡ map row_read tables.prints
  pub names : k.names ≡ names_of files
