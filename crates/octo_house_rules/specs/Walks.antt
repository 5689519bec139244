-- A stretch of a run, over the recorded history of a counter and the recorded files of a shelf.
use Rattle.std.specs.Prelude.{◌≡◌, List, ◌++◌, Option, Some}
use Rattle.octo_keeper.specs.declared.shelf.ShelfFile.{ShelfFile}
use Rattle.octo_asks.specs.History.{History}
use Rattle.octo_house_rules.specs.Legal.{Standing, Legal, after_all}

-- the history grew by entries that are legal, and lead from each standing as before to one as after
pub record Walked (past : Option History) (now : History) (was held : List ShelfFile) (Before After : List ShelfFile → Standing → Type 0)
    : Type 0 where
  pub old : History
  pub added : History
  pub past_is : past ≡ Some old
  pub grows : now ≡ old ++ added
  pub legal : (s : Standing) → Before was s → Legal added s
  pub leads : (s : Standing) → Before was s → After held (after_all added s)

-- the same if both are recorded; what was recorded of the files stays recorded
abbrev pub Walks : (past past' : Option History) → (files files' : Option (List ShelfFile)) → (Before After : List ShelfFile → Standing → Type 0) → Type 0
Walks past past' files files' Before After =
    (was : List ShelfFile) → files ≡ Some was
    → (held : List ShelfFile) × (files' ≡ Some held)
    × ((now : History) → past' ≡ Some now → Walked past now was held Before After)
