-- What became of the prints of a host.
use Rattle.std.specs.Prelude.{Bool, List}
use Rattle.printer_model.specs.declared.event.WorldEvent.{WorldEvent}
use Rattle.printer_link.specs.Link.{LinkKind}
use Rattle.octo_asks.specs.History.{History}
use Rattle.octo_house_rules.specs.Legal.{Standing}
use Rattle.octo_house_rules.specs.Tied.{AreTied}
use Rattle.octo_house_rules.specs.PrintLaws.{EachIsExecutedInOrder, EachDoneIsExecuted, EachDoneRecordIsTrue, EachDoneShownIsTrue, EachEndedIsSentNoMore, EachEndIsTrue}
use Rattle.octo_house_rules.specs.Selected.{EachIsOfItsFile}

-- the prints of a host's history, which began at a standing, over its link's history since an earlier one, by whether `ok`s count by
-- their numbers
pub record KeepsPrints (numbered : Bool) (kind : LinkKind) (front : List WorldEvent) (s : Standing) (history : History)
    (past : List WorldEvent) : Type 0 where
  -- one order of both histories is tied after every entry
  pub tied : AreTied numbered kind front history past
  -- a print's commands are those of the file that the shelf held when it was selected
  pub from_file : EachIsOfItsFile s history
  -- the printer executed the first of them, in order and each once
  pub in_order : EachIsExecutedInOrder kind front s tied.timeline
  -- a print is done only when all were executed and acknowledged
  pub done_whole : EachDoneIsExecuted kind front s tied.timeline
  -- a record says Done only of such a print, and so does each list that was answered
  pub record_true : EachDoneRecordIsTrue kind front s tied.timeline
  pub shown_true : EachDoneShownIsTrue kind front s tied.timeline
  -- once a print has ended, no line of it is sent
  pub sent_no_more : EachEndedIsSentNoMore numbered kind front s tied.timeline
  -- no session ends without its cause
  pub end_true : EachEndIsTrue numbered kind front tied.timeline
