-- Which sender suits which link.
use Rattle.std.specs.Prelude.{◌≡◌, Bool, true, false, List, Option, Some}
use Rattle.printer_model.specs.declared.oks.Oks.{Oks}
use Rattle.printer_model.specs.declared.event.WorldEvent.{WorldEvent}

-- a sender that counts `ok`s needs a link that loses no reply; one that reads their numbers, a printer that numbers them
abbrev pub Suits : Bool → Oks → Type 0
Suits false oks = oks.lost ≡ false
Suits true oks = oks.numbered ≡ true

-- the same if the link records its history
abbrev pub SuitsAs : Bool → Option (List WorldEvent) → Oks → Type 0
SuitsAs numbered recorded oks = (past : List WorldEvent) → recorded ≡ Some past → Suits numbered oks
