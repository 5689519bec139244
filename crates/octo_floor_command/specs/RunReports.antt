-- The exit status and the text of a run of a floor.
use Rattle.std.specs.Prelude.{ℕ, Bool, ◌==◌, ◌&&◌, if◌then◌else◌, List, [], ◌++◌, codes, decimal}
use Rattle.octo_files.specs.Texts.{turns_text}
use Rattle.octo_floor_bay.specs.declared.end.FloorEnd.{FloorEnd}
use Rattle.octo_floor_bay.specs.declared.end.FloorFault.TheVariants.{KeeperFailed, ShelfFailed, NoMemory}
use Rattle.octo_floor_bay.specs.declared.end.Why.{Why}
use Rattle.octo_floor_bay.specs.declared.end.Why.TheVariants.{Over, Fault, TurnsUsed}

-- no print failed, and no printer was lost
abbrev pub is_clean : FloorEnd → Bool
is_clean end = end.failed == 0 && end.lost == 0

-- the exit status of a run that ended so
abbrev pub why_code : Why → FloorEnd → ℕ
why_code Over end = if is_clean end then 0 else 13
why_code (Fault KeeperFailed) end = 9
why_code (Fault ShelfFailed) end = 9
why_code (Fault NoMemory) end = 11
why_code TurnsUsed end = 10

-- the exit status of a run
abbrev pub floor_code : FloorEnd → ℕ
floor_code end = why_code end.why end

-- the prints that were started, how they ended, and the copies that are left
abbrev pub counts_text : FloorEnd → List ℕ
counts_text end =
    codes "floor: " ++ decimal end.prints ++ codes " prints, " ++ decimal end.done ++ codes " done, " ++ decimal end.failed ++ codes " failed, "
    ++ decimal end.left ++ codes " left\n"

-- why a run ended before it was over
abbrev pub why_text : Why → ℕ → List ℕ
why_text Over turns = []
why_text (Fault KeeperFailed) turns = codes "keeper failed\n"
why_text (Fault ShelfFailed) turns = codes "shelf failed\n"
why_text (Fault NoMemory) turns = codes "no memory\n"
why_text TurnsUsed turns = turns_text turns

-- the printed text of a run that might make that number of turns
abbrev pub floor_text : FloorEnd → ℕ → List ℕ
floor_text end turns = counts_text end ++ why_text end.why turns
