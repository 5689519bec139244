-- What a host's run says of its recorded histories.
use Rattle.std.proofs.Common.{◌≡◌, Bool, List, ◌++◌, Option, Some, sym, ◌∙◌, ap, subst}
use Rattle.std.proofs.lemmas.List.{append_cancel_left}
use Rattle.octo_keeper.specs.declared.shelf.ShelfFile.{ShelfFile}
use Rattle.printer_model.specs.declared.event.WorldEvent.{WorldEvent}
use Rattle.printer_link.specs.Link.{LinkKind}
use Rattle.octo_asks.specs.History.{History}
use Rattle.octo_house_rules.specs.Legal.{Standing, Legal}
use Rattle.octo_house_rules.specs.Walks.{Walks}
use Rattle.octo_house_rules.specs.Recorded.{WhileRecorded}
use Rattle.octo_house_rules.specs.Tied.{TiesLines}
use Rattle.octo_house_rules.specs.Headline.{KeepsPrints}
use Rattle.octo_house_run_proof.specs.Laws.{IsRun}
use Rattle.octo_house_rules.specs.PrintLaws.{IsBeginning}
use Rattle.octo_house_run_proof.proofs.Executed.{in_order, done_whole, record_true}
use Rattle.octo_house_run_proof.proofs.Selected.{of_its_file}
use Rattle.octo_house_run_proof.proofs.Shown.{shown_true}
use Rattle.octo_house_run_proof.proofs.Sent.{sent_no_more, true_end}
use Rattle.std.proofs.lemmas.Option.{same_Some}

-- a run keeps its prints
pub run_keeps : (numbered : Bool) (kind : LinkKind) (front : List WorldEvent) (s : Standing) (history : History) (past : List WorldEvent)
    → IsRun numbered kind front s history past → KeepsPrints numbered kind front s history past
run_keeps numbered kind front s history past run = record {
  tied = run.tied;
  from_file = of_its_file s history run.begins.new;
  in_order = in_order numbered kind front s history past run;
  done_whole = done_whole numbered kind front s history past run;
  record_true = record_true numbered kind front s history past run;
  shown_true = shown_true numbered kind front s history past run;
  sent_no_more = sent_no_more numbered kind front s history past run;
  end_true = true_end numbered kind front s history past run;
}

-- the history of a host that began so is legal and tied to its link's, so it keeps its prints
pub recorded_keeps : (numbered : Bool) (kind : LinkKind) (before after : Option History) (files files' : Option (List ShelfFile)) (link link' : Option (List WorldEvent))
    (Before After : List ShelfFile → Standing → Type 0) → Walks before after files files' Before After → TiesLines numbered kind before after link link' →
    (held : List ShelfFile) → files ≡ Some held → (s : Standing) → Before held s → IsBeginning s.known →
    WhileRecorded before after link link' (λ front added events. KeepsPrints numbered kind front s added events)
recorded_keeps numbered kind before after files files' link link' Before After walks ties held was s starts begins now recorded events there =
    let walked = (walks held was).2 now recorded in
    let grown = ties now recorded events there in
    let old : walked.old ≡ grown.old = same_Some walked.old grown.old (sym walked.past_is ∙ grown.was) in
    let added : walked.added ≡ grown.added =
    append_cancel_left grown.old walked.added grown.added
    (sym (ap (λ (h : History). h ++ walked.added) old) ∙ sym walked.grows ∙ grown.grew)
    in
    record {
      old = grown.old;
      added = grown.added;
      was = grown.was;
      grew = grown.grew;
      old_events = grown.old_events;
      was_link = grown.was_link;
      so = run_keeps numbered kind grown.old_events s grown.added events (record {
        begins = begins;
        legal = subst (λ (h : History). Legal h s) added (walked.legal s starts);
        tied = grown.so;
      });
    }
