-- What became of the prints of a run.
use Rattle.std.proofs.Common.{List, Option, sym, subst}
use Rattle.octo_keeper.specs.declared.shelf.ShelfFile.{ShelfFile}
use Rattle.octo_asks.specs.History.{History}
use Rattle.printer_model.specs.declared.event.WorldEvent.{WorldEvent}
use Rattle.printer_link.specs.Link.{LinkKind}
use Rattle.octo_house_rules.specs.Legal.{Standing}
use Rattle.octo_house_rules.specs.Tied.{TiesLines}
use Rattle.octo_house_rules.specs.PrintLaws.{IsBeginning}
use Rattle.octo_house_run_proof.proofs.Recorded.{recorded_keeps}
use Rattle.octo_house.specs.State.{session_of}
use Rattle.octo_house.specs.declared.house.House.{House}
use Rattle.octo_house_run.specs.Runs.{HasRun, RunKeepsPrints}

-- a whole run that is tied to its link's history
pub run_prints : (kind : LinkKind) (past past' : Option History) (files files' : Option (List ShelfFile)) (link link' : Option (List WorldEvent))
    (old new : House) → HasRun past past' files files' old new → TiesLines (session_of old).sender.numbered kind past past' link link' → RunKeepsPrints kind past past' files link link' old
run_prints kind past past' files files' link link' old new walks ties begun held was s start =
    recorded_keeps (session_of old).sender.numbered kind past past' files files' link link' _ _ walks ties held was s start
    (subst (λ (t : Standing). IsBeginning t.known) (sym start) begun)
