-- What holds of a bay beside what its link recorded.
use Rattle.std.specs.Prelude.{◌≡◌, List, [], ◌++◌, Option, Some}
use Rattle.printer_model.specs.declared.event.WorldEvent.{WorldEvent}
use Rattle.printer_link.specs.Link.{LinkKind}
use Rattle.octo_house_rules.specs.Tied.{AreTied}
use Rattle.octo_house_run_proof.specs.InStep.{InStep}
use Rattle.octo_floor_bay.specs.LossyPrints.{ArePrintsSound}
use Rattle.octo_floor_bay.specs.Bay.{BayData, first_desk}
use Rattle.octo_floor_bay.specs.Deeds.{desk_entries, history_in}

-- the history of the deeds, what the link recorded since this front, and the session are in step, by how the session counts `ok`s
abbrev pub IsInStep : LinkKind → (front past : Option (List WorldEvent)) → BayData → Type 0
IsInStep kind front past b = InStep b.session.sender.numbered kind (Some []) (Some (history_in b.deeds)) front past b.session

-- the deeds were tied to what the link had recorded at the last of them, after every deed; and so the prints are sound: the
-- printer executed the first commands of each, all of each that is done, and no line of one that had ended was sent later
pub record IsSoundOver (kind : LinkKind) (front past : List WorldEvent) (b : BayData) : Type 0 where
  pub till_last : List WorldEvent
  pub since : List WorldEvent
  pub past_is : past ≡ till_last ++ since
  pub tied : AreTied b.session.sender.numbered kind front (history_in b.deeds) till_last
  pub prints : ArePrintsSound b.session.sender.numbered kind front (first_desk b.session) (desk_entries b.deeds) tied.timeline
