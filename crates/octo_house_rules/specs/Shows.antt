-- What a stretch of a run shows beside what it leads to.
use Rattle.std.specs.Prelude.{◌≡◌, List, Option, Some}
use Rattle.octo_outside.specs.Recorded.{Became}
use Rattle.octo_keeper.specs.declared.shelf.ShelfFile.{ShelfFile}
use Rattle.octo_asks.specs.History.{History}
use Rattle.octo_house_rules.specs.Legal.{Standing}

-- the history grew by entries of which this holds from each standing as before
abbrev pub Shows : (past past' : Option History) (files : Option (List ShelfFile)) (Before : List ShelfFile → Standing → Type 0)
    (Holds : History → Standing → Type 0) → Type 0
Shows past past' files Before Holds =
    (was : List ShelfFile) → files ≡ Some was → Became past past' (λ _ added. (s : Standing) → Before was s → Holds added s)
