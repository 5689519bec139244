-- What holds of the prints of one printer over a lossy line.
use Rattle.std.specs.Prelude.{◌≡◌, ℕ, ◌<◌, Bool, List, [], ◌∷◌, ◌++◌}
use Rattle.job_desk.specs.Data.{Data}
use Rattle.job_desk.specs.Run.{Fate, Finished, of_print}
use Rattle.printer_model.specs.declared.event.WorldEvent.{WorldEvent}
use Rattle.printer_link.specs.Link.{LinkKind}
use Rattle.octo_house_rules.specs.PrintLaws.{IsNewDesk, IsExecutedInOrder, IsExecutedWhole, IsSentNoMore}
use Rattle.octo_house_rules.specs.Tied.{AreTied}
use Rattle.octo_house_rules.specs.Timeline.{Timeline, history_of, events_of, past_after}
use Rattle.octo_floor_bay.specs.Desk.{DeskEntry, AreEntered, entries_in, run_over}

-- a printer over its link: its desk was new, made these entries, and they are tied to the link's history
pub record IsPrinterRun (numbered : Bool) (kind : LinkKind) (front : List WorldEvent) (desk : Data) (entries : List DeskEntry) (past : List WorldEvent) : Type 0 where
  pub new : IsNewDesk desk
  pub entered : AreEntered entries desk
  pub tied : AreTied numbered kind front (entries_in entries) past

-- the first of the entries are those of the first part of a timeline
pub record IsSoFar (entries first_entries : List DeskEntry) (timeline first : Timeline) : Type 0 where
  pub more : List DeskEntry
  pub entries_are : entries ≡ first_entries ++ more
  pub later : Timeline
  pub timeline_is : timeline ≡ first ++ later
  pub same : entries_in first_entries ≡ history_of first

-- after each entry it was so of each print: the printer executed the first of its file's commands, in order and each once
abbrev pub EachPrintIsInOrder : LinkKind → List WorldEvent → Data → List DeskEntry → Timeline → Type 0
EachPrintIsInOrder kind front desk entries timeline =
    (first : Timeline) (so_far : List DeskEntry) → IsSoFar entries so_far timeline first → (print : ℕ) → 0 < print
    → (commands : List (List ℕ)) → of_print print (run_over so_far desk).begun ≡ commands ∷ []
    → IsExecutedInOrder kind front (past_after front first) print commands (history_of first)

-- after each entry it was so of each print that is done: it executed all of them, and the script lines at their places
abbrev pub EachDonePrintIsWhole : LinkKind → List WorldEvent → Data → List DeskEntry → Timeline → Type 0
EachDonePrintIsWhole kind front desk entries timeline =
    (first : Timeline) (so_far : List DeskEntry) → IsSoFar entries so_far timeline first → (print : ℕ) → 0 < print
    → of_print print (run_over so_far desk).ends ≡ Finished ∷ []
    → IsExecutedWhole kind desk.scripts front (past_after front first) print (of_print print (run_over so_far desk).begun) (history_of first)

-- after each entry it is so of each print that had ended: none of its lines was sent since then
abbrev pub EachEndedPrintIsSentNoMore : Bool → LinkKind → List WorldEvent → Data → List DeskEntry → Timeline → Type 0
EachEndedPrintIsSentNoMore numbered kind front desk entries timeline =
    (first : Timeline) (so_far : List DeskEntry) (is : IsSoFar entries so_far timeline first) → (print : ℕ) → 0 < print
    → (fate : Fate) → of_print print (run_over so_far desk).ends ≡ fate ∷ []
    → IsSentNoMore numbered kind front print fate (history_of first) (history_of timeline) (past_after front first) (events_of is.later)

-- all three of the prints of a printer
pub record ArePrintsSound (numbered : Bool) (kind : LinkKind) (front : List WorldEvent) (desk : Data) (entries : List DeskEntry) (timeline : Timeline) : Type 0 where
  pub in_order : EachPrintIsInOrder kind front desk entries timeline
  pub whole : EachDonePrintIsWhole kind front desk entries timeline
  pub sent_no_more : EachEndedPrintIsSentNoMore numbered kind front desk entries timeline
