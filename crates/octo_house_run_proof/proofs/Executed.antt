-- What the printer executed of a print.
use Rattle.std.proofs.Common.{◌≡◌, inl, inr, ℕ, zero, suc, ◌+◌, ◌<◌, ◌≤◌, Bool, List, [], ◌∷◌, ◌++◌, length, take, drop, refl, sym, ◌∙◌, ap, subst, append_assoc, arith}
use Rattle.std.proofs.lemmas.List.{length-map, take-append-drop}
use Rattle.std.proofs.lemmas.List.Elements.{All-weaker}
use Rattle.job_desk.specs.Data.{ScriptTexts, Line}
use Rattle.job_desk.specs.Run.{Fate, Finished, print_lines, of_print}
use Rattle.job_desk.specs.Story.{Story, never, going, finished, stopped, left, unplugged, broken}
use Rattle.printer_model.specs.Executed.{opens}
use Rattle.printer_model.specs.declared.event.WorldEvent.{WorldEvent}
use Rattle.printer_link.specs.Link.{LinkKind}
use Rattle.octo_keeper.proofs.Numbered.{within_count}
use Rattle.octo_asks.specs.History.{History}
use Rattle.print_queue.specs.declared.ending.Outcome.TheVariants as outcome
use Rattle.print_queue.specs.declared.row.PrintRow.{PrintRow}
use Rattle.octo_house_rules.specs.Issued.{issued_of, job_part, trace}
use Rattle.octo_house_rules.specs.Legal.{Standing, Legal, after_all}
use Rattle.octo_house_rules.specs.Outcomes.{outcome_by, HasOutcome}
use Rattle.octo_house_rules.specs.Scripts.{run_in}
use Rattle.octo_house_rules.proofs.Histories.{keeps_scripts, keeps_outcomes}
use Rattle.octo_session.specs.Tied.{IsTied}
use Rattle.octo_house_rules.specs.Sessions.{sessions, session_texts, acked_in, most_in}
use Rattle.octo_house_rules.specs.Timeline.{Timeline, history_of, events_of, past_after}
use Rattle.octo_house_rules.specs.Tied.{Tied, WasTied, AreTied}
use Rattle.octo_house_run_proof.proofs.Timelines.{history_of-append, past_after-append, taken_in}
use Rattle.octo_house_rules.specs.Jobs.{executed_in, lines_executed}
use Rattle.octo_house_run_proof.specs.Laws.{IsRun}
use Rattle.octo_house_rules.specs.PrintLaws.{EachIsExecutedInOrder, EachDoneIsExecuted, IsDoneRecordTrue, EachDoneRecordIsTrue}
use Rattle.octo_house_run_proof.specs.Prints.{Lives}
use Rattle.octo_house_rules.specs.Lives.{LivesIn, LeavesSo}
use Rattle.octo_house_run_proof.proofs.Histories.{IsShort, legal_first, lives_in}
use Rattle.octo_house_run_proof.proofs.Jobs.{jobs_own, AreFirst, first_part, story_jobs, IsWhole, story_done}
use Rattle.octo_house_run_proof.proofs.Lists.{all_before, none_later, none_past}
use Rattle.byte_text.proofs.ListLaws.{head_same}

-- in a run no session has too many lines
most_within : (n : ℕ) → most_in n ≤ 1999999999
most_within zero = omega arith
most_within (suc n) = omega arith

issued_length : (k : ℕ) (h : History) → length (session_texts k h) ≡ length (issued_of k h)
issued_length k h = length-map (issued_of k h) (λ (line : Line). line.text)

pub short_of : (numbered : Bool) (kind : LinkKind) (front : List WorldEvent) (h : History) (past : List WorldEvent) → AreTied numbered kind front h past →
    IsShort h
short_of numbered kind front h past t first later is =
    let i = taken_in t.timeline first later (sym t.history_is ∙ is) in
    let tied : Tied numbered kind front first (past_after front i.front) =
    subst (λ (x : History). Tied numbered kind front x (past_after front i.front)) i.first_is (t.throughout i.front i.after i.is).tied
    in
    omega (arith, tied.few (sessions first) (omega arith), most_within (sessions first), issued_length (sessions first) first)

pub short_first : (first later : History) → IsShort (first ++ later) → IsShort first
short_first first later short one two is = short one (two ++ later) (ap (λ (x : History). x ++ later) is ∙ append_assoc one two later)

-- the file commands in the first lines of the session that a print lives in
pub jobs_home : (p home : ℕ) (h : History) → LivesIn p h home → job_part p (issued_of home h) ≡ job_part p (trace p h)
jobs_home p home h l = sym (jobs_own p (issued_of home h)) ∙ ap (λ (x : List Line). job_part p x) (sym l.all)

pub home_of : (p : ℕ) (h : History) (fates : List Fate) → Lives p h fates → (home : ℕ) × LivesIn p h home
home_of p h fates (inl u) = (sessions h, u.lives)
home_of p h fates (inr o) = (o.home, o.lives)

-- a run when its timeline had come so far
pub record IsThen (numbered : Bool) (kind : LinkKind) (front : List WorldEvent) (s : Standing) (first later : Timeline) : Type 0 where
  pub legal : Legal (history_of first) s
  pub legal_all : Legal (history_of first ++ history_of later) s
  pub short : IsShort (history_of first)
  pub short_all : IsShort (history_of first ++ history_of later)
  pub tied_all : Tied numbered kind front (history_of first ++ history_of later) (past_after front first ++ events_of later)
  pub was : WasTied numbered kind front first (events_of later)

pub run_then : (numbered : Bool) (kind : LinkKind) (front : List WorldEvent) (s : Standing) (h : History) (past : List WorldEvent) (run : IsRun numbered kind front s h past)
    (first later : Timeline) → run.tied.timeline ≡ first ++ later → IsThen numbered kind front s first later
run_then numbered kind front s h past run first later is =
    let split : h ≡ history_of first ++ history_of later = run.tied.history_is ∙ ap history_of is ∙ history_of-append first later in
    let events : past ≡ past_after front first ++ events_of later =
    run.tied.past_is ∙ ap (λ (l : Timeline). past_after front l) is ∙ past_after-append front first later
    in
    let legal : Legal (history_of first ++ history_of later) s = subst (λ (x : History). Legal x s) split run.legal in
    let short : IsShort (history_of first ++ history_of later) = subst (λ (x : History). IsShort x) split (short_of numbered kind front h past run.tied) in
    record {
      legal = (legal_first (history_of first) (history_of later) s legal).0;
      legal_all = legal;
      short = short_first (history_of first) (history_of later) short;
      short_all = short;
      tied_all = subst (λ (es : List WorldEvent). Tied numbered kind front (history_of first ++ history_of later) es) events
          (subst (λ (x : History). Tied numbered kind front x past) split run.tied.now);
      was = run.tied.throughout first later is;
    }

pub in_order : (numbered : Bool) (kind : LinkKind) (front : List WorldEvent) (s : Standing) (h : History) (past : List WorldEvent) (run : IsRun numbered kind front s h past) →
    EachIsExecutedInOrder kind front s run.tied.timeline
in_order numbered kind front s h past run first later is p some commands began =
    let scripts : ScriptTexts = s.known.desk.scripts in
    let t = run_then numbered kind front s h past run first later is in
    let now : History = history_of first in
    let at = home_of p now (of_print p (run_in now s).ends) (lives_in scripts s.known.desk.limits s.known.desk.poll_ms s.known.desk.numbered p some s run.begins.new now t.legal t.short) in
    let story = (keeps_scripts scripts s.known.desk.limits s.known.desk.poll_ms s.known.desk.numbered now s run.begins.new t.legal).stories p some in
    let count : ℕ = executed_in kind front (past_after front first) at.0 in
    let whole : List Line = issued_of at.0 now in
    let firsts : AreFirst p scripts commands (trace p now) = story_jobs p scripts commands _ _ _ story began in
    let all : AreFirst p scripts commands (take count whole ++ drop count whole) =
    record { count = firsts.count; are = ap (λ (x : List Line). job_part p x) (take-append-drop count whole) ∙ jobs_home p at.0 now at.1 ∙ firsts.are }
    in
    let part = first_part p scripts commands (take count whole) (drop count whole) all in
    record { home = at.0; lives = at.1; count = part.count; executed = part.are }

-- a print that is done has ended so
pub done_ended : (p : ℕ) (h : History) (fates : List Fate) → fates ≡ Finished ∷ [] → Lives p h fates →
    (home : ℕ) × (home ≤ sessions h) × LivesIn p h home × (print_lines p (drop (acked_in home h) (issued_of home h)) ≡ [])
done_ended p h fates is (inl u) = absurd (let no : Finished ∷ [] ≡ [] = sym is ∙ u.no_fate in cc no)
done_ended p h fates is (inr o) =
    let same : o.fate ≡ Finished = head_same o.fate Finished (sym o.is ∙ is) in
    (o.home, o.within, o.lives, subst (λ (f : Fate). LeavesSo p f o.home h) same o.leaves)

-- its lines were executed: they are among those that are acknowledged
pub executed_all : (numbered : Bool) (kind : LinkKind) (front : List WorldEvent) (p home : ℕ) (h : History) (past : List WorldEvent) →
    Tied numbered kind front h past → home ≤ sessions h →
    print_lines p (drop (acked_in home h) (issued_of home h)) ≡ [] → print_lines p (drop (executed_in kind front past home) (issued_of home h)) ≡ []
executed_all numbered kind front p zero h past t within none =
    none_past p (executed_in kind front past 0) (issued_of 0 h) (omega (arith, t.few 0 (omega arith), issued_length 0 h))
executed_all numbered kind front p (suc home) h past t within none =
    let tied : IsTied numbered kind (session_texts (suc home) h) (acked_in (suc home) h) past (opens front + suc home) = t.each (suc home) (omega arith) within in
    none_later p (acked_in (suc home) h) (executed_in kind front past (suc home)) (issued_of (suc home) h) tied.acked_run none

pub done_whole : (numbered : Bool) (kind : LinkKind) (front : List WorldEvent) (s : Standing) (h : History) (past : List WorldEvent) (run : IsRun numbered kind front s h past) →
    EachDoneIsExecuted kind front s run.tied.timeline
done_whole numbered kind front s h past run first later is p some ends =
    let scripts : ScriptTexts = s.known.desk.scripts in
    let t = run_then numbered kind front s h past run first later is in
    let now : History = history_of first in
    let so_far : List WorldEvent = past_after front first in
    let at = done_ended p now (of_print p (run_in now s).ends) ends
    (lives_in scripts s.known.desk.limits s.known.desk.poll_ms s.known.desk.numbered p some s run.begins.new now t.legal t.short)
    in
    let home : ℕ = at.0 in
    let story = (keeps_scripts scripts s.known.desk.limits s.known.desk.poll_ms s.known.desk.numbered now s run.begins.new t.legal).stories p some in
    let whole : IsWhole p scripts (of_print p (run_in now s).begun) (trace p now) = story_done p scripts _ _ _ story ends in
    let executed : print_lines p (lines_executed kind front so_far home now) ≡ trace p now =
    all_before p (executed_in kind front so_far home) (issued_of home now) (executed_all numbered kind front p home now so_far t.was.tied at.1 at.3) ∙ sym at.2.all
    in
    record {
      commands = whole.commands;
      began = whole.began;
      home = home;
      lives = at.2;
      course = whole.course;
      acknowledged = all_before p (acked_in home now) (issued_of home now) at.3 ∙ sym at.2.all;
      executed = executed;
      jobs = sym (jobs_own p (lines_executed kind front so_far home now)) ∙ ap (λ (x : List Line). job_part p x) executed ∙ whole.jobs;
    }

-- a record says Done only of a print that the desk's run says is done
done_fates : (p : ℕ) (scripts : ScriptTexts) (begun : List (List (List ℕ))) (lines : List Line) (fates : List Fate) → Story scripts p begun lines fates →
    outcome_by fates ≡ outcome.Done → fates ≡ Finished ∷ []
done_fates p scripts _ _ _ never is = absurd (cc is)
done_fates p scripts _ _ _ (going c lines b) is = absurd (cc is)
done_fates p scripts _ _ _ (finished c lines b) is = refl
done_fates p scripts _ _ _ (stopped c lines b) is = absurd (cc is)
done_fates p scripts _ _ _ (left c lines b) is = absurd (cc is)
done_fates p scripts _ _ _ (unplugged c lines b) is = absurd (cc is)
done_fates p scripts _ _ _ (broken c lines b) is = absurd (cc is)

pub record_true : (numbered : Bool) (kind : LinkKind) (front : List WorldEvent) (s : Standing) (h : History) (past : List WorldEvent) (run : IsRun numbered kind front s h past) →
    EachDoneRecordIsTrue kind front s run.tied.timeline
record_true numbered kind front s h past run first later is =
    let legal : Legal now s = (run_then numbered kind front s h past run first later is).legal in
    All-weaker (HasOutcome (length s.known.prints) (run_in now s).ends) (IsDoneRecordTrue kind front s first)
    (λ row has. by legal row has) (after_all now s).known.prints
    (keeps_outcomes s.known.desk.scripts s.known.desk.limits s.known.desk.poll_ms s.known.desk.numbered now s run.begins.new (within_count s.known.prints run.begins.numbered) legal)
  where
    now : History
    now = history_of first

    by : Legal now s → (row : PrintRow) → HasOutcome (length s.known.prints) (run_in now s).ends row → IsDoneRecordTrue kind front s first row
    by legal row has above done =
        let some : 0 < row.number = omega (arith, above) in
        let story = (keeps_scripts s.known.desk.scripts s.known.desk.limits s.known.desk.poll_ms s.known.desk.numbered now s run.begins.new legal).stories row.number some in
        done_whole numbered kind front s h past run first later is row.number some
        (done_fates row.number s.known.desk.scripts _ _ _ story (sym (has above) ∙ done))
