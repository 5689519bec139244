-- The law over whole runs.
use Rattle.std.proofs.Common.{◌≡◌, inl, inr, ℕ, Bool, true, false, cond, nat_eq, List, [], ◌∷◌, Option, None, Some, refl, sym, ◌∙◌, subst}
use Rattle.temp_rules.specs.declared.job.HotLine.{HotLine}
use Rattle.temp_rules.specs.Hot.{first_hot_of}
use Rattle.job_desk.specs.Data.{ScriptTexts, Data, File, Line}
use Rattle.job_desk.specs.Table.{start_at, start_checked, start_file, restart_at, printing}
use Rattle.job_desk.specs.Pull.{Drawn, draw_in_order, nothing, from_scripts, from_manual, poll_is_due, from_probe, probe_is_due, from_file, draw_last, draw_at, pull_step}
use Rattle.job_desk.specs.Note.{note_step}
use Rattle.job_desk.specs.declared.state.State.{State}
use Rattle.job_desk.specs.declared.state.State.TheVariants.{Operational, Printing, Pausing, Paused, Cancelling, Finishing, Closing}
use Rattle.job_desk.specs.declared.state.Point.TheVariants as point
use Rattle.job_desk.specs.declared.state.Tag.{Tag}
use Rattle.job_desk.specs.declared.state.Tag.TheVariants.{Script, Job, Manual, Poll}
use Rattle.job_desk.specs.declared.link_fact.LinkFact.{LinkFact}
use Rattle.print_queue.specs.declared.ending.Ending.{Ending}
use Rattle.std.proofs.Common.{All}
use Rattle.std.proofs.lemmas.List.Elements.{All-push, All-nil}
use Rattle.job_desk.specs.Data.{new_desk}
use Rattle.temp_rules.specs.declared.limits.Limits.{Limits}
use Rattle.job_desk.specs.Story.{Story, IsBegun, never, going, IsPulledWell, HasStories}
use Rattle.job_desk.specs.Run.{DeskCall, Connect, Disconnect, Select, DropFile, Start, Restart, Pause, Resume, Toggle, Cancel, Manually, Pull, Note, Pulled, Run, new_run, moved, after_start, after_restart, after_pull, after_note, after, run_of, MayCallAll, pulled_of, of_print}
use Rattle.job_desk.proofs.Lines.{below_test}
use Rattle.job_desk.proofs.Steady.{joins, Steady, IsScript, AreScripts, steady-connect, steady-disconnect, steady-select, steady-drop_file, steady-pause, steady-resume, steady-toggle, steady-cancel, steady-manual, steady-pull, steady-note}
use Rattle.job_desk.proofs.Current.{begun}
use Rattle.job_desk.proofs.Known.{KnownOf, known-after}

-- what holds beside: the scripts stay, only script lines wait, and file commands were pulled in the state Printing
record Sound (scripts : ScriptTexts) (run : Run) : Type 0 where
  same : run.desk.scripts ≡ scripts
  waiting : AreScripts run.desk.waiting
  pulled : All (λ (one : Pulled). IsPulledWell one.line.tag one.state) run.pulled

module _ (scripts : ScriptTexts) where
  sound_move : (run : Run) (e : Data) → Steady run.desk e → Sound scripts run → Sound scripts (moved e run)
  sound_move run e s h = record { same = s.scripts ∙ h.same; waiting = s.waiting h.waiting; pulled = h.pulled }

  -- a print that begins
  sound_begin : (q : ℕ) (d : Data) → AreScripts d.waiting → AreScripts (printing q d).waiting
  sound_begin q d h = (joins point.Started q d d (refl, refl, refl)).waiting h

  sound_hot : (q : ℕ) (run : Run) (hot : Option HotLine) → Sound scripts run → Sound scripts (after_start q (start_checked hot q run.desk) run)
  sound_hot q run None h = record { same = h.same; waiting = sound_begin q run.desk h.waiting; pulled = h.pulled }
  sound_hot q run (Some hot) h = h

  sound_file : (q : ℕ) (run : Run) (file : Option File) → Sound scripts run → Sound scripts (after_start q (start_file file q run.desk) run)
  sound_file q run None h = h
  sound_file q run (Some file) h = sound_hot q run (first_hot_of run.desk.limits file.job.commands) h

  sound_start : (q : ℕ) (run : Run) (s : State) → Sound scripts run → Sound scripts (after_start q (start_at s q run.desk) run)
  sound_start q run Operational h = sound_file q run run.desk.file h
  sound_start q run _ h = h

  sound_restart : (q : ℕ) (run : Run) (s : State) → Sound scripts run → Sound scripts (after_restart q (restart_at s q run.desk) run)
  sound_restart q run Paused h = record { same = h.same; waiting = sound_begin q run.desk h.waiting; pulled = h.pulled }
  sound_restart q run _ h = h

  -- a drawn line fits the state
  abbrev IsDrawnWell : State → Option Line → Type 0
  IsDrawnWell s None = Unit {0}
  IsDrawnWell s (Some line) = IsPulledWell line.tag s

  script_well : (tag : Tag) (s : State) → IsScript tag → IsPulledWell tag s
  script_well (Script at print) s h = tt
  script_well (Job print index) s h = absurd h
  script_well Manual s h = tt
  script_well Poll s h = tt

  choose_well : (s : State) (b : Bool) (x y : Drawn) → IsDrawnWell s x.0 → IsDrawnWell s y.0 → IsDrawnWell s (cond b x y).0
  choose_well s true x y hx hy = hx
  choose_well s false x y hx hy = hy

  well_scripts : (s : State) (w : List Line) (d : Data) (next : Drawn) → AreScripts w → IsDrawnWell s next.0 → IsDrawnWell s (from_scripts w d next).0
  well_scripts s [] d next a h = h
  well_scripts s (line ∷ lines) d next a h = script_well line.tag s a.0

  well_manual : (s : State) (m : List (List ℕ)) (d : Data) (next : Drawn) → IsDrawnWell s next.0 → IsDrawnWell s (from_manual m d next).0
  well_manual s [] d next h = h
  well_manual s (text ∷ texts) d next h = tt

  well_talk : (s : State) (moment : ℕ) (d : Data) (next : Drawn) → AreScripts d.waiting → IsDrawnWell s next.0 → IsDrawnWell s (draw_in_order moment d next).0
  well_talk s moment d next a h = well_scripts s d.waiting d _ a (well_manual s d.manual d _ (choose_well s (poll_is_due moment d) _ next tt h))

  well_file : (text : Option (List ℕ)) (d : Data) → IsDrawnWell Printing (from_file text d).0
  well_file None d = tt
  well_file (Some text) d = refl

  well_probe : (s : State) (awaited moment : ℕ) (d : Data) → IsDrawnWell s (from_probe awaited moment d).0
  well_probe s awaited moment d = choose_well s (probe_is_due awaited moment d) _ (nothing d) tt tt

  well_last : (b : Bool) (moment : ℕ) (d : Data) → AreScripts d.waiting → IsDrawnWell Closing (draw_last b moment d).0
  well_last false moment d a = well_scripts Closing d.waiting d _ a (well_probe Closing d.last_line moment d)
  well_last true moment d a = well_manual Closing d.manual d (nothing d) tt

  well_draw : (s : State) (moment : ℕ) (d : Data) → AreScripts d.waiting → IsDrawnWell s (draw_at s moment d).0
  well_draw Operational moment d a = well_talk Operational moment d _ a (well_probe Operational d.issued moment d)
  well_draw Printing moment d a = well_talk Printing moment d _ a (well_file _ d)
  well_draw Pausing moment d a = well_talk Pausing moment d _ a (well_probe Pausing d.issued moment d)
  well_draw Paused moment d a = well_talk Paused moment d _ a (well_probe Paused d.issued moment d)
  well_draw Cancelling moment d a = well_talk Cancelling moment d _ a (well_probe Cancelling d.issued moment d)
  well_draw Finishing moment d a = well_talk Finishing moment d _ a (well_probe Finishing d.issued moment d)
  well_draw Closing moment d a = well_last d.stopped moment d a
  well_draw _ moment d a = tt

  sound_pull : (state : State) (run : Run) (line : Option Line) (e : Data) → Steady run.desk e → IsDrawnWell state line → Sound scripts run →
      Sound scripts (after_pull state (line, e) run)
  sound_pull state run None e s w h = sound_move run e s h
  sound_pull state run (Some line) e s w h =
      record {
        same = s.scripts ∙ h.same;
        waiting = s.waiting h.waiting;
        pulled = All-push (λ (one : Pulled). IsPulledWell one.line.tag one.state) run.pulled (record { line = line; state = state }) h.pulled w;
      }

  sound_note : (f : LinkFact) (run : Run) (ending : Option Ending) (e : Data) → Steady run.desk e → Sound scripts run →
      Sound scripts (after_note f (ending, e) run)
  sound_note f run None e s h = sound_move run e s h
  sound_note f run (Some ending) e s h = record { same = s.scripts ∙ h.same; waiting = s.waiting h.waiting; pulled = h.pulled }

  sound-after : (call : DeskCall) (run : Run) → Sound scripts run → Sound scripts (after call run)
  sound-after (Connect port) run h = sound_move run _ (steady-connect run.desk.state port run.desk) h
  sound-after Disconnect run h = sound_move run _ (steady-disconnect run.desk.state run.desk) h
  sound-after (Select file) run h = sound_move run _ (steady-select run.desk.state file run.desk) h
  sound-after (DropFile name) run h = sound_move run _ (steady-drop_file name run.desk) h
  sound-after (Start q) run h = sound_start q run run.desk.state h
  sound-after (Restart q) run h = sound_restart q run run.desk.state h
  sound-after Pause run h = sound_move run _ (steady-pause run.desk.state run.desk) h
  sound-after Resume run h = sound_move run _ (steady-resume run.desk.state run.desk) h
  sound-after Toggle run h = sound_move run _ (steady-toggle run.desk.state run.desk) h
  sound-after Cancel run h = sound_move run _ (steady-cancel run.desk.state run.desk) h
  sound-after (Manually lines) run h = sound_move run _ (steady-manual run.desk.state lines run.desk) h
  sound-after (Pull moment) run h = let drawn = pull_step moment run.desk in
      sound_pull run.desk.state run drawn.0 drawn.1 (steady-pull moment run.desk) (well_draw run.desk.state moment run.desk h.waiting) h
  sound-after (Note acked f moment) run h = let noted = note_step acked f moment run.desk in
      sound_note f run noted.0 noted.1 (steady-note acked f moment run.desk) h

  sound_run : (calls : List DeskCall) (run : Run) → Sound scripts run → Sound scripts (run_of calls run)
  sound_run [] run h = h
  sound_run (call ∷ calls) run h = sound_run calls (after call run) (sound-after call run h)

  known_run : (p : ℕ) (positive : nat_eq 0 p ≡ false) (calls : List DeskCall) (run : Run) → Sound scripts run → MayCallAll calls run →
      KnownOf scripts p positive run → KnownOf scripts p positive (run_of calls run)
  known_run p positive [] run s m k = k
  known_run p positive (call ∷ calls) run s m k =
      known_run p positive calls (after call run) (sound-after call run s) m.1 (known-after scripts p positive call run s.same m.0 k)

  -- the story follows from what is known
  tells : (p : ℕ) (positive : nat_eq 0 p ≡ false) (run : Run) → Sound scripts run → KnownOf scripts p positive run →
      Story scripts p (of_print p run.begun) (pulled_of p run.pulled) (of_print p run.ends)
  tells p positive run s (inl k) =
      subst (λ b. Story scripts p b (pulled_of p run.pulled) (of_print p run.ends)) (sym k.no_begin)
      (subst (λ l. Story scripts p [] l (of_print p run.ends)) (sym k.no_line) (subst (λ f. Story scripts p [] [] f) (sym k.no_fate) never))
  tells p positive run s (inr (inl k)) =
      let b : IsBegun scripts p k.commands (pulled_of p run.pulled) = subst (λ t. IsBegun t p k.commands (pulled_of p run.pulled)) s.same
      (begun p k.commands _ run.desk k.current) in
      subst (λ b. Story scripts p b (pulled_of p run.pulled) (of_print p run.ends)) (sym k.is_begun)
      (subst (λ f. Story scripts p (k.commands ∷ []) (pulled_of p run.pulled) f) (sym k.no_fate) (going k.commands (pulled_of p run.pulled) b))
  tells p positive run s (inr (inr k)) = k.story

pub every_run : (scripts : ScriptTexts) (limits : Limits) (poll_ms : ℕ) (numbered : Bool) (calls : List DeskCall) →
    MayCallAll calls (new_run (new_desk scripts limits poll_ms numbered)) →
    HasStories scripts (run_of calls (new_run (new_desk scripts limits poll_ms numbered)))
every_run scripts limits poll_ms numbered calls may =
    let first = new_run (new_desk scripts limits poll_ms numbered) in
    let sound : Sound scripts first = record { same = refl; waiting = tt; pulled = All-nil (λ (one : Pulled). IsPulledWell one.line.tag one.state) } in
    let last = sound_run scripts calls first sound in
    record {
      stories = λ p positive. (
          let z : nat_eq 0 p ≡ false = below_test 0 p positive in
          tells scripts p z (run_of calls first) last (known_run scripts p z calls first sound may
          (inl (record { above = positive; foreign = record { none = refl; other = inr (refl, tt) }; no_begin = refl; no_line = refl; no_fate = refl })))
          );
      only_printing = last.pulled;
    }
