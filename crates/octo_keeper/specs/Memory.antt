-- The forms in memory.
use Rattle.std.specs.Prelude.{Bool, List, Option, if◌then◌else◌}
use Rattle.octo_outside.specs.Memory.{CallsData, one_more, is_listed}
use Rattle.octo_keeper.specs.declared.tables.Tables.{Tables}
use Rattle.octo_keeper.specs.declared.shelf.ShelfFile.{ShelfFile}

-- a keeper in memory
pub record KeeperData : Type 0 where
  pub tables : Tables
  -- those of the last backup
  pub saved : Option Tables
  pub calls : CallsData

-- a shelf in memory
pub record ShelfData : Type 0 where
  pub files : List ShelfFile
  pub calls : CallsData

-- whether the next call is to fail
abbrev pub fails_next : CallsData → Bool
fails_next calls = is_listed calls.fail_at (one_more calls.made)

-- the calls after one more, which failed or didn't
abbrev pub after_call : Bool → CallsData → CallsData
after_call failed calls = record calls { made = one_more calls.made; faults = if failed then one_more calls.faults else calls.faults }
