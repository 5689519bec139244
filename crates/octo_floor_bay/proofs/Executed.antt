-- What the printer executed of a print.
use Rattle.std.proofs.Common.{◌≡◌, ℕ, ◌<◌, Bool, List, [], ◌∷◌, ◌++◌, take, drop, sym, ◌∙◌, ap, subst}
use Rattle.std.proofs.lemmas.List.{take-append-drop}
use Rattle.job_desk.specs.Data.{Data, Line, new_desk}
use Rattle.job_desk.specs.Note.{note_step, first_fact}
use Rattle.job_desk.specs.Run.{DeskCall, new_run, run_of, print_lines, of_print, pulled_of, MayCallAll}
use Rattle.job_desk.specs.Story.{Story, HasStories}
use Rattle.job_desk.proofs.Runs.{every_run}
use Rattle.printer_model.specs.declared.event.WorldEvent.{WorldEvent}
use Rattle.printer_link.specs.Link.{LinkKind}
use Rattle.octo_asks.specs.History.{History}
use Rattle.octo_asks.specs.declared.entry.Entry.{Entry}
use Rattle.octo_asks.specs.declared.entry.Entry.TheVariants as entry
use Rattle.octo_house_rules.specs.Desk.{desk_after_all}
use Rattle.octo_house_rules.specs.Issued.{issued_of, job_part, trace}
use Rattle.octo_house_rules.specs.Jobs.{executed_in, lines_executed}
use Rattle.octo_house_rules.specs.PrintLaws.{IsExecutedInOrder, IsExecutedWhole}
use Rattle.octo_house_rules.specs.Sessions.{acked_in}
use Rattle.octo_house_rules.specs.Tied.{Tied, WasTied}
use Rattle.octo_house_rules.specs.Timeline.{Timeline, history_of, events_of, past_after}
use Rattle.octo_house_rules.proofs.Runs.{MayAll, may_run, may_append, of_pulled}
use Rattle.octo_house_run_proof.proofs.Executed.{short_of, short_first, jobs_home, home_of, done_ended, executed_all}
use Rattle.octo_house_run_proof.proofs.Histories.{IsShort}
use Rattle.octo_house_run_proof.proofs.Jobs.{jobs_own, AreFirst, first_part, story_jobs, IsWhole, story_done}
use Rattle.octo_house_run_proof.proofs.Lists.{all_before}
use Rattle.octo_house_run_proof.proofs.Notes.{may_pulls}
use Rattle.octo_house_run_proof.proofs.Timelines.{history_of-append, past_after-append}
use Rattle.octo_floor_bay.specs.Desk.{DeskEntry, MayEnter, AreEntered, entries_in, desk_calls_in, run_over}
use Rattle.octo_floor_bay.specs.LossyPrints.{IsPrinterRun, IsSoFar, EachPrintIsInOrder, EachDonePrintIsWhole}
use Rattle.octo_floor_bay.proofs.Lives.{may_be_made, entered_first, entries-append, lives_over}

-- the calls of an entry may be made
may_enter : (e : Entry) (calls : List DeskCall) (d : Data) → MayEnter e calls d → MayAll calls d
may_enter (entry.Call worker ask moment x) calls d a = may_be_made calls d a
may_enter (entry.Note note) calls d t =
    subst (λ (c : List DeskCall). MayAll c d) (sym t.calls_are)
    (tt, may_pulls note.fact note.acked note.moment note.issued.items (note_step note.acked (first_fact note.fact) note.moment d).1)
may_enter entry.Close calls d none = subst (λ (c : List DeskCall). MayAll c d) (sym none) tt

may_enter_all : (all : List DeskEntry) (d : Data) → AreEntered all d → MayAll (desk_calls_in all) d
may_enter_all [] d e = tt
may_enter_all (one ∷ all) d e = may_append one.calls (desk_calls_in all) d (may_enter one.entry one.calls d e.0) (may_enter_all all (desk_after_all one.calls d) e.1)

-- the story of a print over entries from a new desk
story_over : (d : Data) → d ≡ new_desk d.scripts d.limits d.poll_ms d.numbered → (all : List DeskEntry) → AreEntered all d → IsShort (entries_in all) → (p : ℕ) → 0 < p →
    Story d.scripts p (of_print p (run_over all d).begun) (trace p (entries_in all)) (of_print p (run_over all d).ends)
story_over d new all entered short p some =
    let may : MayCallAll (desk_calls_in all) (new_run d) = may_run (desk_calls_in all) (new_run d) (may_enter_all all d entered) in
    let stories : HasStories d.scripts (run_over all d) =
    subst (λ (x : Data). HasStories d.scripts (run_of (desk_calls_in all) (new_run x))) (sym new)
    (every_run d.scripts d.limits d.poll_ms d.numbered (desk_calls_in all) (subst (λ (x : Data). MayCallAll (desk_calls_in all) (new_run x)) new may))
    in
    let tells = lives_over d.scripts d.limits d.poll_ms d.numbered p some d new all entered short in
    let same : pulled_of p (run_over all d).pulled ≡ trace p (entries_in all) =
    of_pulled p (run_over all d).pulled ∙ ap (λ (lines : List Line). print_lines p lines) tells.pulled
    in
    subst (λ (lines : List Line). Story d.scripts p (of_print p (run_over all d).begun) lines (of_print p (run_over all d).ends)) same (stories.stories p some)

-- a printer's run when its timeline had come so far
pub record IsThen (numbered : Bool) (kind : LinkKind) (front : List WorldEvent) (desk : Data) (so_far more : List DeskEntry) (first later : Timeline) : Type 0 where
  pub entered : AreEntered so_far desk
  pub entered_all : AreEntered (so_far ++ more) desk
  pub short : IsShort (entries_in so_far)
  pub short_all : IsShort (entries_in so_far ++ entries_in more)
  pub whole : entries_in so_far ++ entries_in more ≡ history_of first ++ history_of later
  pub tied_all : Tied numbered kind front (history_of first ++ history_of later) (past_after front first ++ events_of later)
  pub was : WasTied numbered kind front first (events_of later)

pub run_then : (numbered : Bool) (kind : LinkKind) (front : List WorldEvent) (desk : Data) (entries : List DeskEntry) (past : List WorldEvent) (run : IsPrinterRun numbered kind front desk entries past)
    (first : Timeline) (so_far : List DeskEntry) (is : IsSoFar entries so_far run.tied.timeline first) → IsThen numbered kind front desk so_far is.more first is.later
run_then numbered kind front desk entries past run first so_far is =
    let parts : entries_in entries ≡ entries_in so_far ++ entries_in is.more = ap entries_in is.entries_are ∙ entries-append so_far is.more in
    let split : entries_in entries ≡ history_of first ++ history_of is.later =
    run.tied.history_is ∙ ap history_of is.timeline_is ∙ history_of-append first is.later
    in
    let events : past ≡ past_after front first ++ events_of is.later =
    run.tied.past_is ∙ ap (λ (l : Timeline). past_after front l) is.timeline_is ∙ past_after-append front first is.later
    in
    let all : AreEntered (so_far ++ is.more) desk = subst (λ (x : List DeskEntry). AreEntered x desk) is.entries_are run.entered in
    let short : IsShort (entries_in so_far ++ entries_in is.more) = subst (λ (x : History). IsShort x) parts (short_of numbered kind front (entries_in entries) past run.tied) in
    record {
      entered = (entered_first so_far is.more desk all).0;
      entered_all = all;
      short = short_first (entries_in so_far) (entries_in is.more) short;
      short_all = short;
      whole = sym parts ∙ split;
      tied_all = subst (λ (es : List WorldEvent). Tied numbered kind front (history_of first ++ history_of is.later) es) events
          (subst (λ (x : History). Tied numbered kind front x past) split run.tied.now);
      was = run.tied.throughout first is.later is.timeline_is;
    }

pub prints_in_order : (numbered : Bool) (kind : LinkKind) (front : List WorldEvent) (desk : Data) (entries : List DeskEntry) (past : List WorldEvent)
    (run : IsPrinterRun numbered kind front desk entries past) → EachPrintIsInOrder kind front desk entries run.tied.timeline
prints_in_order numbered kind front desk entries past run first so_far is p some commands began =
    let t = run_then numbered kind front desk entries past run first so_far is in
    let now : History = entries_in so_far in
    let tells = lives_over desk.scripts desk.limits desk.poll_ms desk.numbered p some desk run.new so_far t.entered t.short in
    let at = home_of p now (of_print p (run_over so_far desk).ends) tells.lives in
    let story = story_over desk run.new so_far t.entered t.short p some in
    let count : ℕ = executed_in kind front (past_after front first) at.0 in
    let whole : List Line = issued_of at.0 now in
    let firsts : AreFirst p desk.scripts commands (trace p now) = story_jobs p desk.scripts commands _ _ _ story began in
    let all : AreFirst p desk.scripts commands (take count whole ++ drop count whole) =
    record { count = firsts.count; are = ap (λ (x : List Line). job_part p x) (take-append-drop count whole) ∙ jobs_home p at.0 now at.1 ∙ firsts.are }
    in
    let part = first_part p desk.scripts commands (take count whole) (drop count whole) all in
    subst (λ (h : History). IsExecutedInOrder kind front (past_after front first) p commands h) is.same
    (record { home = at.0; lives = at.1; count = part.count; executed = part.are })

pub done_prints_whole : (numbered : Bool) (kind : LinkKind) (front : List WorldEvent) (desk : Data) (entries : List DeskEntry) (past : List WorldEvent)
    (run : IsPrinterRun numbered kind front desk entries past) → EachDonePrintIsWhole kind front desk entries run.tied.timeline
done_prints_whole numbered kind front desk entries past run first so_far is p some ends =
    let t = run_then numbered kind front desk entries past run first so_far is in
    let now : History = entries_in so_far in
    let past_so_far : List WorldEvent = past_after front first in
    let tells = lives_over desk.scripts desk.limits desk.poll_ms desk.numbered p some desk run.new so_far t.entered t.short in
    let at = done_ended p now (of_print p (run_over so_far desk).ends) ends tells.lives in
    let home : ℕ = at.0 in
    let story = story_over desk run.new so_far t.entered t.short p some in
    let whole : IsWhole p desk.scripts (of_print p (run_over so_far desk).begun) (trace p now) = story_done p desk.scripts _ _ _ story ends in
    let tied : Tied numbered kind front now past_so_far = subst (λ (h : History). Tied numbered kind front h past_so_far) (sym is.same) t.was.tied in
    let executed : print_lines p (lines_executed kind front past_so_far home now) ≡ trace p now =
    all_before p (executed_in kind front past_so_far home) (issued_of home now) (executed_all numbered kind front p home now past_so_far tied at.1 at.3) ∙ sym at.2.all
    in
    subst (λ (h : History). IsExecutedWhole kind desk.scripts front past_so_far p (of_print p (run_over so_far desk).begun) h) is.same
    (record {
      commands = whole.commands;
      began = whole.began;
      home = home;
      lives = at.2;
      course = whole.course;
      acknowledged = all_before p (acked_in home now) (issued_of home now) at.3 ∙ sym at.2.all;
      executed = executed;
      jobs = sym (jobs_own p (lines_executed kind front past_so_far home now)) ∙ ap (λ (x : List Line). job_part p x) executed ∙ whole.jobs;
    })
