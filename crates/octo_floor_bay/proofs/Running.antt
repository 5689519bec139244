-- The run of a bay's desk goes on with each deed: which prints begin, and which end.
use Rattle.std.proofs.Common.{◌≡◌, ℕ, Bool, true, false, List, [], ◌∷◌, ◌++◌, map, Option, None, Some, refl, sym, ◌∙◌, ap, subst, append-nil, append_assoc}
use Rattle.std.specs.Option.{option_or}
use Rattle.std.proofs.lemmas.Bool.{false≢true}
use Rattle.gcode_lines.specs.Job.{texts_of}
use Rattle.temp_rules.specs.declared.job.HotLine.{HotLine}
use Rattle.temp_rules.specs.Hot.{first_hot_of}
use Rattle.print_queue.specs.declared.ending.Ending.{Ending}
use Rattle.print_queue.specs.declared.ending.Outcome.{Outcome}
use Rattle.print_queue.specs.declared.ending.Outcome.TheVariants as outcome
use Rattle.job_desk.specs.Data.{Data, File, Line}
use Rattle.job_desk.specs.Endings.{IsActive, EndsAs}
use Rattle.job_desk.specs.Issued.{line_of}
use Rattle.job_desk.specs.Note.{Noted, note_step, first_fact}
use Rattle.job_desk.specs.Pull.{pull_step}
use Rattle.job_desk.specs.Run.{DeskCall, Select, Start, Pull, Note, Fate, Run, moved, new_run, run_of, after, after_start, after_pull, after_note, cancelled_by, fate_of}
use Rattle.job_desk.specs.Table.{start_checked, start_at, select_at}
use Rattle.job_desk.specs.declared.issued.Issued.{Issued}
use Rattle.job_desk.specs.declared.link_fact.LinkFact.{LinkFact}
use Rattle.job_desk.specs.declared.link_fact.LinkFact.TheVariants as fact
use Rattle.job_desk.specs.declared.state.State.{State}
use Rattle.job_desk.specs.declared.state.State.TheVariants.{Operational}
use Rattle.job_desk.proofs.Endings.{EndsIn, note_ends}
use Rattle.job_desk.proofs.Going.{Goes, goes_note}
use Rattle.octo_session.specs.Data.{SessionData}
use Rattle.octo_session.specs.DeskTurn.{Pulls, IsNoted}
use Rattle.octo_session.proofs.Endings.{pulls_go}
use Rattle.octo_house_rules.specs.Desk.{desk_after_all}
use Rattle.octo_house_rules.specs.Noted.{last_call}
use Rattle.octo_house_rules.specs.Outcomes.{outcome_of}
use Rattle.octo_house_run_proof.proofs.Histories.{run_append}
use Rattle.octo_house_run_proof.proofs.Plain.{desk_calls}
use Rattle.octo_floor_bay.specs.Desk.{DeskEntry, desk_calls_in, run_over}
use Rattle.octo_floor_bay.specs.Bay.{BayData, IsBay, RunsOn, EndsBy, first_desk, after_deed, run_in}
use Rattle.octo_floor_bay.specs.Deeds.{calls_at, desk_entry, desk_entries}
use Rattle.octo_floor_bay.specs.declared.deed.Deed.{Deed}
use Rattle.octo_floor_bay.proofs.Leading.{bay_with, desk_entries-append, first_stays}

desk_calls-append : (all : List DeskEntry) (one : DeskEntry) → desk_calls_in (all ++ one ∷ []) ≡ desk_calls_in all ++ one.calls
desk_calls-append [] one = append-nil one.calls
desk_calls-append (former ∷ all) one =
    ap (λ (calls : List DeskCall). former.calls ++ calls) (desk_calls-append all one) ∙ sym (append_assoc former.calls (desk_calls_in all) one.calls)

-- a deed's calls follow those before it
pub run_more : (old : BayData) (session : SessionData) (one : Deed) → desk_after_all (calls_at one) old.session.desk ≡ session.desk →
    run_in (bay_with session (old.deeds ++ one ∷ [])) ≡ run_of (calls_at one) (run_in old)
run_more old session one leads =
    ap (λ (d : Data). run_over (desk_entries (old.deeds ++ one ∷ [])) d) (first_stays (calls_at one) old.session.desk session.desk leads)
    ∙ ap (λ (es : List DeskEntry). run_over es (first_desk old.session)) (desk_entries-append old.deeds one)
    ∙ ap (λ (calls : List DeskCall). run_of calls (new_run (first_desk old.session))) (desk_calls-append (desk_entries old.deeds) (desk_entry one))
    ∙ run_append (desk_calls_in (desk_entries old.deeds)) (calls_at one) (new_run (first_desk old.session))

-- the desk of the run is the session's
pub run_desk : (b : BayData) → IsBay b → (run_in b).desk ≡ b.session.desk
run_desk b bay = desk_calls (desk_calls_in (desk_entries b.deeds)) (new_run (first_desk b.session)) ∙ bay.leads

-- nothing begins or ends
pub runs_same : (run new : Run) → new.begun ≡ run.begun → new.ends ≡ run.ends → RunsOn [] [] run new
runs_same run new begun ends = record { begun_are = begun ∙ sym (append-nil run.begun); ended_are = ends ∙ sym (append-nil run.ends) }

quiet_then : (ended : List (ℕ × Fate)) (run mid new : Run) → RunsOn [] [] run mid → RunsOn [] ended mid new → RunsOn [] ended run new
quiet_then ended run mid new a b = record {
  begun_are = b.begun_are ∙ ap (λ (xs : List (ℕ × List (List ℕ))). xs ++ []) (a.begun_are ∙ append-nil run.begun);
  ended_are = b.ended_are ∙ ap (λ (xs : List (ℕ × Fate)). xs ++ ended) (a.ended_are ∙ append-nil run.ends);
}

then_quiet : (ended : List (ℕ × Fate)) (run mid new : Run) → RunsOn [] ended run mid → RunsOn [] [] mid new → RunsOn [] ended run new
then_quiet ended run mid new a b = record {
  begun_are = b.begun_are ∙ append-nil mid.begun ∙ a.begun_are;
  ended_are = b.ended_are ∙ append-nil mid.ends ∙ a.ended_are;
}

-- a start of a file without a command that is too hot begins its print
pub start_begins : (run : Run) (file : File) (print : ℕ) → run.desk.state ≡ Operational → first_hot_of run.desk.limits file.job.commands ≡ None →
    RunsOn ((print, texts_of file.job) ∷ []) [] run (run_of (Select file ∷ Start print ∷ []) run)
start_begins run file print is cool =
    let d : Data = run.desk in
    let at : Data = record d { file = Some file } in
    let Begins : Run → Type 0 = λ new. RunsOn ((print, texts_of file.job) ∷ []) [] run new in
    let Hot : Option HotLine → Type 0 = λ hot. Begins (after_start print (start_checked hot print at) (moved at run)) in
    let In : State → Type 0 = λ s. Begins (after_start print (start_at s print at) (moved at run)) in
    let From : Data → Type 0 = λ e. Begins (after_start print (start_at e.state print e) (moved e run)) in
    let selected : (select_at d.state file d).1 ≡ at = ap (λ (s : State). (select_at s file d).1) is in
    subst From (sym selected) (subst In (sym is) (subst Hot (sym cool) (record { begun_are = refl; ended_are = sym (append-nil run.ends) })))

-- the outcome of a print that ends in a note is that of what it came to
cancelled : (f : LinkFact) → outcome_of (cancelled_by f) ≡ outcome.Cancelled
cancelled fact.Closed = refl
cancelled _ = refl

fate_is : (f g : LinkFact) (how : Outcome) (acked : ℕ) (d : Data) → EndsAs how acked g d → outcome_of (fate_of f how) ≡ how
fate_is f g outcome.Active acked d by = absurd by
fate_is f g outcome.Done acked d by = refl
fate_is f g outcome.Cancelled acked d by = cancelled f
fate_is f g outcome.Failed acked d by = refl

-- a note
noted_by : (acked : ℕ) (f : LinkFact) (run : Run) (gave : Option Ending) (e : Data) → EndsIn acked f run.desk gave e → EndsBy gave run (after_note f (gave, e) run)
noted_by acked f run None e ends = ([], refl, runs_same run (moved e run) refl refl)
noted_by acked f run (Some ending) e ends = (
  (ending.print, fate_of f ending.outcome) ∷ [],
  (fate_of f ending.outcome, fate_is f f ending.outcome acked run.desk ends.0.by, refl),
  record { begun_are = sym (append-nil run.begun); ended_are = refl },
)

note_ends_run : (acked : ℕ) (f : LinkFact) (moment : ℕ) (run : Run) → IsActive run.desk →
    EndsBy (note_step acked f moment run.desk).0 run (after (Note acked f moment) run)
note_ends_run acked f moment run going =
    noted_by acked f run (note_step acked f moment run.desk).0 (note_step acked f moment run.desk).1 (note_ends acked moment run.desk going f)

-- pulls begin and end nothing
pull_runs : (s : State) (line : Option Line) (d : Data) (run : Run) → RunsOn [] [] run (after_pull s (line, d) run)
pull_runs s None d run = runs_same run (moved d run) refl refl
pull_runs s (Some line) d run = runs_same run (after_pull s (Some line, d) run) refl refl

pulls_run : (moment : ℕ) (issued : List Issued) (run : Run) → RunsOn [] [] run (run_of (map (λ (one : Issued). Pull moment) issued) run)
pulls_run moment [] run = runs_same run run refl refl
pulls_run moment (one ∷ issued) run =
    quiet_then [] run (after (Pull moment) run) (run_of (map (λ (one : Issued). Pull moment) issued) (after (Pull moment) run))
    (pull_runs run.desk.state (pull_step moment run.desk).0 (pull_step moment run.desk).1 run) (pulls_run moment issued (after (Pull moment) run))

pulls_lead : (moment : ℕ) (issued : List Issued) (d e : Data) → Pulls moment (map line_of issued) d e →
    desk_after_all (map (λ (one : Issued). Pull moment) issued) d ≡ e
pulls_lead moment [] d e pulls = sym pulls
pulls_lead moment (one ∷ issued) d e pulls = pulls_lead moment issued (pull_step moment d).1 e pulls.1

-- ends in two parts, of which only one ends a print
ends_then : (ending : Option Ending) (run mid new : Run) → EndsBy ending run mid → RunsOn [] [] mid new → EndsBy ending run new
ends_then ending run mid new a b = (a.0, a.1, then_quiet a.0 run mid new a.2 b)

then_ends : (ending : Option Ending) (run mid new : Run) → EndsBy None run mid → EndsBy ending mid new → EndsBy ending run new
then_ends ending run mid new a b =
    let quiet : RunsOn [] [] run mid = subst (λ (ended : List (ℕ × Fate)). RunsOn [] ended run mid) a.1 a.2 in
    (b.0, b.1, quiet_then b.0 run mid new quiet b.2)

quiet_of : (run new : Run) → EndsBy None run new → RunsOn [] [] run new
quiet_of run new a = subst (λ (ended : List (ℕ × Fate)). RunsOn [] ended run new) a.1 a.2

-- once a print has ended in a turn no other one does
either : (first last : Option Ending) (acked : ℕ) (d pulled e : Data) (run mid new : Run) → EndsBy first run mid → EndsBy last mid new →
    ((ending : Ending) → first ≡ Some ending → pulled.active ≡ false) → EndsIn acked fact.Failed pulled last e → EndsBy (option_or first last) run new
either None last acked d pulled e run mid new a b rests ends = then_ends last run mid new a b
either (Some ending) None acked d pulled e run mid new a b rests ends = ends_then (Some ending) run mid new a (quiet_of mid new b)
either (Some ending) (Some other) acked d pulled e run mid new a b rests ends = absurd (false≢true (sym (rests ending refl) ∙ ends.0.active))

rested : (acked : ℕ) (f : LinkFact) (d : Data) (gave : Option Ending) (mid pulled : Data) → EndsIn acked f d gave mid → Goes mid pulled → (ending : Ending) →
    gave ≡ Some ending → pulled.active ≡ false
rested acked f d None mid pulled ends goes ending is = absurd (cc is)
rested acked f d (Some ended) mid pulled ends goes ending is = by pulled.active refl
  where
    by : (b : Bool) → pulled.active ≡ b → pulled.active ≡ false
    by false same = same
    by true same = absurd (false≢true (sym ends.2 ∙ goes.before same))

module _ (moment acked : ℕ) (issued : List Issued) (run : Run) (new : Data) (ending : Option Ending) (going : IsActive run.desk) where
  abbrev pulls_of : List DeskCall
  pulls_of = map (λ (one : Issued). Pull moment) issued

  -- a turn's calls, whatever it found
  plain : (f : LinkFact) → last_call f acked moment ≡ [] → ending ≡ (note_step acked (first_fact f) moment run.desk).0 →
      EndsBy ending run (run_of (Note acked (first_fact f) moment ∷ (pulls_of ++ last_call f acked moment)) run)
  plain f none gave =
      let mid : Run = after (Note acked (first_fact f) moment) run in
      let Last : List DeskCall → Type 0 = λ last. EndsBy ending run (run_of (pulls_of ++ last) mid) in
      let Of : List DeskCall → Type 0 = λ calls. EndsBy ending run (run_of calls mid) in
      subst Last (sym none) (subst Of (sym (append-nil pulls_of))
      (ends_then ending run mid (run_of pulls_of mid)
      (subst (λ (o : Option Ending). EndsBy o run mid) (sym gave) (note_ends_run acked (first_fact f) moment run going)) (pulls_run moment issued mid)))

  failed : IsNoted moment acked fact.Failed (map line_of issued) run.desk ending new →
      EndsBy ending run (run_of (Note acked fact.Quiet moment ∷ (pulls_of ++ Note acked fact.Failed moment ∷ [])) run)
  failed n =
      let first : Noted = note_step acked fact.Quiet moment run.desk in
      let mid : Run = after (Note acked fact.Quiet moment) run in
      let pulled : Run = run_of pulls_of mid in
      let whole : Run = after (Note acked fact.Failed moment) pulled in
      let goes : Goes first.1 n.pulled = pulls_go moment (map line_of issued) first.1 n.pulled n.pulls in
      let at : pulled.desk ≡ n.pulled =
      desk_calls pulls_of mid ∙ ap (λ (d : Data). desk_after_all pulls_of d) (desk_calls (Note acked fact.Quiet moment ∷ []) run)
      ∙ pulls_lead moment issued first.1 n.pulled n.pulls
      in
      let active : IsActive n.pulled = goes.going ((goes_note acked fact.Quiet moment run.desk).going going) in
      let before : EndsBy first.0 run pulled =
      ends_then first.0 run mid pulled (note_ends_run acked fact.Quiet moment run going) (pulls_run moment issued mid)
      in
      let last : EndsBy (note_step acked fact.Failed moment pulled.desk).0 pulled whole =
      note_ends_run acked fact.Failed moment pulled (subst (λ (d : Data). IsActive d) (sym at) active)
      in
      let last_at : EndsBy (note_step acked fact.Failed moment n.pulled).0 pulled whole =
      subst (λ (d : Data). EndsBy (note_step acked fact.Failed moment d).0 pulled whole) at last
      in
      let both : ending ≡ option_or first.0 (note_step acked fact.Failed moment n.pulled).0 = ap (λ (noted : Noted). noted.0) n.is in
      let so = either first.0 (note_step acked fact.Failed moment n.pulled).0 acked run.desk n.pulled (note_step acked fact.Failed moment n.pulled).1 run pulled
      whole before last_at (rested acked fact.Quiet run.desk first.0 first.1 n.pulled (note_ends acked moment run.desk going fact.Quiet) goes)
      (note_ends acked moment n.pulled active fact.Failed)
      in
      subst (λ (r : Run). EndsBy ending run r) (sym (run_append pulls_of (Note acked fact.Failed moment ∷ []) mid))
      (subst (λ (o : Option Ending). EndsBy o run whole) (sym both) so)

  pub noted_run : (f : LinkFact) → IsNoted moment acked f (map line_of issued) run.desk ending new →
      EndsBy ending run (run_of (Note acked (first_fact f) moment ∷ (pulls_of ++ last_call f acked moment)) run)
  noted_run fact.Failed n = failed n
  noted_run fact.Quiet n = plain fact.Quiet refl (ap (λ (noted : Noted). noted.0) n.is)
  noted_run fact.Opened n = plain fact.Opened refl (ap (λ (noted : Noted). noted.0) n.is)
  noted_run fact.Ready n = plain fact.Ready refl (ap (λ (noted : Noted). noted.0) n.is)
  noted_run fact.Closed n = plain fact.Closed refl (ap (λ (noted : Noted). noted.0) n.is)
  noted_run fact.NoPort n = plain fact.NoPort refl (ap (λ (noted : Noted). noted.0) n.is)
  noted_run (fact.Ended end) n = plain (fact.Ended end) refl (ap (λ (noted : Noted). noted.0) n.is)

-- a deed that is calls
pub asked_runs : (begun : List (ℕ × List (List ℕ))) (ended : List (ℕ × Fate)) (old : BayData) (one : Deed) →
    RunsOn begun ended (run_in old) (run_of (calls_at one) (run_in old)) → RunsOn begun ended (run_in old) (run_in (after_deed one old))
asked_runs begun ended old one so =
    subst (λ (r : Run). RunsOn begun ended (run_in old) r) (sym (run_more old (after_deed one old).session one refl)) so
