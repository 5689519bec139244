-- No line of an ended print is sent any more.
use Rattle.std.proofs.Common.{◌≡◌, ℕ, Bool, List, [], ◌∷◌, ◌++◌, drop, sym, ◌∙◌, ap, subst}
use Rattle.job_desk.specs.Data.{Data}
use Rattle.job_desk.specs.Run.{Fate, print_lines, of_print}
use Rattle.printer_model.specs.declared.event.WorldEvent.{WorldEvent}
use Rattle.printer_link.specs.Link.{LinkKind}
use Rattle.octo_asks.specs.History.{History}
use Rattle.octo_house_rules.specs.Issued.{issued_of}
use Rattle.octo_house_rules.specs.Lives.{LivesIn}
use Rattle.octo_house_rules.specs.PrintLaws.{IsSentNoMore}
use Rattle.octo_house_rules.specs.Timeline.{history_of, events_of, past_after}
use Rattle.octo_house_run_proof.specs.Prints.{IsEnded}
use Rattle.octo_house_run_proof.proofs.Sent.{IsPast, past_of, ended_of, ended_unsent}
use Rattle.octo_house_run_proof.proofs.Timelines.{history_of-append}
use Rattle.octo_floor_bay.specs.Desk.{DeskEntry, entries_in, run_over}
use Rattle.octo_floor_bay.specs.LossyPrints.{IsPrinterRun, EachEndedPrintIsSentNoMore, ArePrintsSound}
use Rattle.octo_floor_bay.proofs.Executed.{IsThen, run_then, prints_in_order, done_prints_whole}
use Rattle.octo_floor_bay.proofs.Lives.{lives_over, stays_over}

-- what followed a print's end
record Stayed (p home reach : ℕ) (whole : History) : Type 0 where
  lives : LivesIn p whole home
  none : print_lines p (drop reach (issued_of home whole)) ≡ []

pub ended_prints_unsent : (numbered : Bool) (kind : LinkKind) (front : List WorldEvent) (desk : Data) (entries : List DeskEntry) (past : List WorldEvent)
    (run : IsPrinterRun numbered kind front desk entries past) → EachEndedPrintIsSentNoMore numbered kind front desk entries run.tied.timeline
ended_prints_unsent numbered kind front desk entries past run first so_far is p some fate ends =
    let t = run_then numbered kind front desk entries past run first so_far is in
    let fates : List Fate = of_print p (run_over so_far desk).ends in
    let tells = lives_over desk.scripts desk.limits desk.poll_ms desk.numbered p some desk run.new so_far t.entered t.short in
    let o : IsEnded p (entries_in so_far) fates = ended_of p (entries_in so_far) fates fate ends tells.lives in
    let so : IsPast p (entries_in so_far) o.home = past_of p (entries_in so_far) o.fate o.home o.leaves in
    let stays = stays_over desk.scripts desk.limits desk.poll_ms desk.numbered p some desk run.new so_far is.more t.entered_all t.short_all
    o.fate o.home so.reach o.within o.is o.lives so.none
    in
    let stayed : Stayed p o.home so.reach (history_of first ++ history_of is.later) =
    subst (λ (h : History). Stayed p o.home so.reach h) t.whole (record { lives = stays.0; none = stays.1 })
    in
    subst (λ (x : History). IsSentNoMore numbered kind front p fate (history_of first) x (past_after front first) (events_of is.later))
    (sym (ap history_of is.timeline_is ∙ history_of-append first is.later))
    (by t (entries_in so_far) is.same fates ends o so stayed)
  where
    by : IsThen numbered kind front desk so_far is.more first is.later → (now : History) → now ≡ history_of first → (fates : List Fate) → fates ≡ fate ∷ [] →
        (o : IsEnded p now fates) (so : IsPast p now o.home) → Stayed p o.home so.reach (history_of first ++ history_of is.later) →
        IsSentNoMore numbered kind front p fate (history_of first) (history_of first ++ history_of is.later) (past_after front first) (events_of is.later)
    by t now same fates ends =
        subst (λ (h : History). (o : IsEnded p h fates) (so : IsPast p h o.home) → Stayed p o.home so.reach (history_of first ++ history_of is.later) →
        IsSentNoMore numbered kind front p fate (history_of first) (history_of first ++ history_of is.later) (past_after front first) (events_of is.later)) (sym same)
        (λ o so stayed. ended_unsent numbered kind front p first is.later t.was t.tied_all fate fates ends o so stayed.lives stayed.none)

-- the prints of a printer are sound
pub prints_sound : (numbered : Bool) (kind : LinkKind) (front : List WorldEvent) (desk : Data) (entries : List DeskEntry) (past : List WorldEvent)
    (run : IsPrinterRun numbered kind front desk entries past) → ArePrintsSound numbered kind front desk entries run.tied.timeline
prints_sound numbered kind front desk entries past run = record {
  in_order = prints_in_order numbered kind front desk entries past run;
  whole = done_prints_whole numbered kind front desk entries past run;
  sent_no_more = ended_prints_unsent numbered kind front desk entries past run;
}
