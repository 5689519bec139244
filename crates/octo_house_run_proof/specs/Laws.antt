-- What holds of the prints of a host over a lossy line.
use Rattle.std.specs.Prelude.{Bool, List}
use Rattle.printer_model.specs.declared.event.WorldEvent.{WorldEvent}
use Rattle.printer_link.specs.Link.{LinkKind}
use Rattle.octo_asks.specs.History.{History}
use Rattle.octo_house_rules.specs.Legal.{Standing, Legal}
use Rattle.octo_house_rules.specs.Tied.{AreTied}
use Rattle.octo_house_rules.specs.PrintLaws.{IsBeginning}

-- a run of a host over a link: it began so, its history is legal, and that is tied to the link's history, session by session and
-- after every entry
pub record IsRun (numbered : Bool) (kind : LinkKind) (front : List WorldEvent) (s : Standing) (history : History) (past : List WorldEvent)
    : Type 0 where
  pub begins : IsBeginning s.known
  pub legal : Legal history s
  pub tied : AreTied numbered kind front history past
