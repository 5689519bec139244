-- How what the calls of a link record joins.
use Rattle.std.proofs.Common.{◌≡◌, refl, ◌∙◌, List, [], ◌++◌, Option}
use Rattle.octo_outside.proofs.Recorded.{became_then, became_same, became_so}
use Rattle.std.specs.Prelude.{Some}
use Rattle.printer_link.specs.Link.{Recorded}
use Rattle.printer_model.specs.declared.event.WorldEvent.{WorldEvent}

-- two additions one after the other
pub recorded_then : (old mid new : Option (List WorldEvent)) (P Q R : List WorldEvent → List WorldEvent → Type 0) → Recorded old mid P → Recorded mid new Q → ((past added more : List WorldEvent) → P past added → Q (past ++ added) more → R past (added ++ more)) → Recorded old new R
recorded_then old mid new P Q R first second joined =
    record { stays = second.stays ∙ first.stays; grew = became_then old mid new P Q R first.grew second.grew joined }

-- no addition
pub recorded_same : (old : Option (List WorldEvent)) (P : List WorldEvent → List WorldEvent → Type 0) → ((past : List WorldEvent) → P past []) → Recorded old old P
recorded_same old P same = record { stays = refl; grew = became_same old P same }

-- another word for the same addition
pub recorded_so : (old new : Option (List WorldEvent)) (P Q : List WorldEvent → List WorldEvent → Type 0) → Recorded old new P → ((past added : List WorldEvent) → P past added → Q past added) → Recorded old new Q
recorded_so old new P Q first so = record { stays = first.stays; grew = became_so old new P Q first.grew so }

-- the same, where the history before it is at hand
pub recorded_if : (old new : Option (List WorldEvent)) (P Q : List WorldEvent → List WorldEvent → Type 0) → Recorded old new P → ((past added : List WorldEvent) → old ≡ Some past → P past added → Q past added) → Recorded old new Q
recorded_if old new P Q first so =
    record { stays = first.stays; grew = λ now is. (let g = first.grew now is in (g.0, g.1, g.2, g.3, so g.0 g.1 g.2 g.4)) }
