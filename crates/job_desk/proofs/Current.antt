-- A print that is going on: its lines so far, with those that wait, are as its state says.
use Rattle.std.proofs.Common.{◌≡◌, ℕ, Bool, true, false, cond, nat_eq, ◌+◌, codes, List, [], ◌∷◌, ◌++◌, length, slice_get, Option, None, Some, refl, sym, ◌∙◌, ap, subst}
use Rattle.std.proofs.lemmas.Bool.{false≢true}
use Rattle.std.specs.Prelude.{◌&&◌}
use Rattle.job_desk.specs.Data.{ScriptTexts, Data, File, Line, script_lines, commands_of, with_script, moment_after}
use Rattle.job_desk.specs.Table.{closing, connect_at, disconnect_at, select_at, drop_file_step, is_named, pause_at, resume_at, toggle_at, cancel_at, manual_at, add_manual, take_manual, is_stop, stopping, may_stop_closing}
use Rattle.job_desk.specs.Pull.{Drawn, draw_in_order, nothing, next_number, keep_number, issue, from_scripts, from_manual, from_poll, poll_is_due, from_probe, put_off, probe_is_due, from_file, draw_last, draw_at, is_issued, settle_at, pull_step}
use Rattle.job_desk.specs.Course.{job_line}
use Rattle.job_desk.specs.Run.{print_lines}
use Rattle.job_desk.specs.declared.state.State.{State}
use Rattle.job_desk.specs.declared.state.State.TheVariants.{Offline, Connecting, Operational, Printing, Pausing, Paused, Cancelling, Finishing, Closing, Fault}
use Rattle.job_desk.specs.declared.state.Point.{Point}
use Rattle.job_desk.specs.declared.state.Point.TheVariants as point
use Rattle.job_desk.specs.declared.state.Tag.{Tag}
use Rattle.job_desk.specs.declared.state.Tag.TheVariants.{Script, Job, Manual, Poll}
use Rattle.job_desk.specs.Course.{End, Open, Body, started, command, round, Course, still_open, paused, cancelled, cancelled_paused, done as with_done, script}
use Rattle.job_desk.specs.Course as course
use Rattle.job_desk.specs.Story.{IsBegun}
use Rattle.std.proofs.Common.{suc, arith}
use Rattle.std.proofs.lemmas.List.{append-nil}
use Rattle.std.proofs.lemmas.Bool.Decides.{nat_tests}
use Rattle.job_desk.proofs.Lines.{own, same_test, waits_own, waits_other, goes_over}

-- what the lines of the print are in each state; while it's paused none waits
abbrev pub Stage : ScriptTexts → ℕ → List (List ℕ) → State → ℕ → List Line → List Line → Type 0
Stage scripts p commands Offline cursor waiting lines = ⊥
Stage scripts p commands Connecting cursor waiting lines = ⊥
Stage scripts p commands Operational cursor waiting lines = ⊥
Stage scripts p commands Printing cursor waiting lines = Body scripts p commands cursor lines
Stage scripts p commands Pausing cursor waiting lines = (l : List Line) × Body scripts p commands cursor l × (lines ≡ l ++ script_lines scripts point.Paused p)
Stage scripts p commands Paused cursor waiting lines = (l : List Line) × Body scripts p commands cursor l × (lines ≡ l ++ script_lines scripts point.Paused p)
    × (waiting ≡ [])
Stage scripts p commands Cancelling cursor waiting lines = Course scripts p commands course.Cancelled lines
Stage scripts p commands Finishing cursor waiting lines = Course scripts p commands course.Done lines
Stage scripts p commands Closing cursor waiting lines = (e : End) × Course scripts p commands e lines
Stage scripts p commands Fault cursor waiting lines = ⊥

-- the desk's print with these file commands, of which these lines were pulled
pub record Current (p : ℕ) (commands : List (List ℕ)) (out : List Line) (scripts : ScriptTexts) (state : State) (texts : List (List ℕ)) (greatest : ℕ)
    (active : Bool) (cursor : ℕ) (waiting : List Line) : Type 0 where
  pub is : greatest ≡ p
  pub active_is : active ≡ true
  pub texts_are : texts ≡ commands
  pub stage : Stage scripts p commands state cursor waiting (out ++ print_lines p waiting)

abbrev pub CurrentTo : ℕ → List (List ℕ) → List Line → Data → Type 0
CurrentTo p commands out d = Current p commands out d.scripts d.state (commands_of d.file) d.greatest d.active d.cursor d.waiting

module _ (p : ℕ) (commands : List (List ℕ)) where
  abbrev At : ScriptTexts → State → ℕ → List Line → List Line → Type 0
  At scripts state cursor waiting lines = Stage scripts p commands state cursor waiting lines

  stage_is : (out : List Line) (d : Data) (s : State) → d.state ≡ s → CurrentTo p commands out d →
      At d.scripts s d.cursor d.waiting (out ++ print_lines p d.waiting)
  stage_is out d s e h = subst (λ t. At d.scripts t d.cursor d.waiting (out ++ print_lines p d.waiting)) e h.stage

  -- a state in which no print is going on
  nowhere : (X : Type 0) (out : List Line) (d : Data) (s : State) → d.state ≡ s → (At d.scripts s d.cursor d.waiting (out ++ print_lines p d.waiting) → ⊥) →
      CurrentTo p commands out d → X
  nowhere X out d s e none h = absurd (none (stage_is out d s e h))

  -- a script of the print joins the waiting lines
  joins : (at : Point) (out : List Line) (d : Data) (s : State) → CurrentTo p commands out d
      → At d.scripts s d.cursor (d.waiting ++ script_lines d.scripts at d.greatest) ((out ++ print_lines p d.waiting) ++ script_lines d.scripts at p)
      → Current p commands out d.scripts s (commands_of d.file) d.greatest d.active d.cursor (d.waiting ++ script_lines d.scripts at d.greatest)
  joins at out d s h new = record {
    is = h.is;
    active_is = h.active_is;
    texts_are = h.texts_are;
    stage = subst (λ l. At d.scripts s d.cursor (d.waiting ++ script_lines d.scripts at d.greatest) l)
        (sym (waits_own out d.waiting d.scripts at p d.greatest h.is)) new;
  }

  pub current-connect : (out : List Line) (s : State) (port : List ℕ) (d : Data) → d.state ≡ s → CurrentTo p commands out d →
      CurrentTo p commands out (connect_at s port d).1
  current-connect out Offline port d e h = nowhere _ out d Offline e (λ x. x) h
  current-connect out Fault port d e h = nowhere _ out d Fault e (λ x. x) h
  current-connect out _ port d e h = h

  -- the lines so far are a course
  going : (scripts : ScriptTexts) (s : State) (cursor : ℕ) (waiting lines : List Line) → At scripts s cursor waiting lines →
      (e : End) × Course scripts p commands e lines
  going scripts Printing cursor waiting lines b = (Open, still_open cursor lines b)
  going scripts Pausing cursor waiting lines b = (course.Paused, subst (λ l. Course scripts p commands course.Paused l) (sym b.2) (paused cursor b.0 b.1))
  going scripts Paused cursor waiting lines b = (course.Paused, subst (λ l. Course scripts p commands course.Paused l) (sym b.2) (paused cursor b.0 b.1))
  going scripts Cancelling cursor waiting lines b = (course.Cancelled, b)
  going scripts Finishing cursor waiting lines b = (course.Done, b)
  going scripts Closing cursor waiting lines b = b
  going scripts Offline cursor waiting lines b = absurd b
  going scripts Connecting cursor waiting lines b = absurd b
  going scripts Operational cursor waiting lines b = absurd b
  going scripts Fault cursor waiting lines b = absurd b

  pub begun : (out : List Line) (d : Data) → CurrentTo p commands out d → IsBegun d.scripts p commands out
  begun out d h =
      let c = going d.scripts d.state d.cursor d.waiting (out ++ print_lines p d.waiting) h.stage in
      record { end = c.0; rest = print_lines p d.waiting; course = c.1 }

  -- the end of the connection begins: the script that joins is no print's
  to_closing : nat_eq 0 p ≡ false → (out : List Line) (d : Data) → CurrentTo p commands out d → CurrentTo p commands out (closing d)
  to_closing z out d h = record {
    is = h.is;
    active_is = h.active_is;
    texts_are = h.texts_are;
    stage =
        let c = going d.scripts d.state d.cursor d.waiting (out ++ print_lines p d.waiting) h.stage in
        (c.0, subst (λ l. Course d.scripts p commands c.0 (out ++ l)) (sym (waits_other d.waiting d.scripts point.Disconnect p 0 z)) c.1);
  }

  pub current-disconnect : nat_eq 0 p ≡ false → (out : List Line) (s : State) (d : Data) → d.state ≡ s → CurrentTo p commands out d →
      CurrentTo p commands out (disconnect_at s d)
  current-disconnect z out Offline d e h = h
  current-disconnect z out Closing d e h = h
  current-disconnect z out Connecting d e h = nowhere _ out d Connecting e (λ x. x) h
  current-disconnect z out Fault d e h = nowhere _ out d Fault e (λ x. x) h
  current-disconnect z out _ d e h = to_closing z out d h

  pub current-select : (out : List Line) (s : State) (file : File) (d : Data) → d.state ≡ s → CurrentTo p commands out d →
      CurrentTo p commands out (select_at s file d).1
  current-select out Offline file d e h = nowhere _ out d Offline e (λ x. x) h
  current-select out Connecting file d e h = nowhere _ out d Connecting e (λ x. x) h
  current-select out Operational file d e h = nowhere _ out d Operational e (λ x. x) h
  current-select out Fault file d e h = nowhere _ out d Fault e (λ x. x) h
  current-select out _ file d e h = h

  choose_pair : {X : Type 0} (out : List Line) (b : Bool) (x y : X × Data) → CurrentTo p commands out x.1 → CurrentTo p commands out y.1 →
      CurrentTo p commands out (cond b x y).1
  choose_pair out true x y hx hy = hx
  choose_pair out false x y hx hy = hy

  held_file : {X : Type 0} (out : List Line) (b : Bool) (x y : X × Data) → b ≡ true → CurrentTo p commands out x.1 → CurrentTo p commands out (cond b x y).1
  held_file out true x y e hx = hx
  held_file out false x y e hx = absurd (false≢true e)

  pub current-drop_file : (out : List Line) (name : List ℕ) (d : Data) → CurrentTo p commands out d → CurrentTo p commands out (drop_file_step name d).1
  current-drop_file out name d h = choose_pair out (is_named name d.file) _ _ (held_file out d.active _ _ h.active_is h) h

  to_pausing : (out : List Line) (d : Data) → d.state ≡ Printing → CurrentTo p commands out d →
      CurrentTo p commands out (with_script point.Paused d.greatest (record d { state = Pausing }))
  to_pausing out d e h = joins point.Paused out d Pausing h (_, stage_is out d Printing e h, refl)

  to_resumed : (out : List Line) (d : Data) → d.state ≡ Paused → CurrentTo p commands out d →
      CurrentTo p commands out (with_script point.Resumed d.greatest (record d { state = Printing }))
  to_resumed out d e h =
      let s = stage_is out d Paused e h in
      joins point.Resumed out d Printing h (subst (λ l. Body d.scripts p commands d.cursor (l ++ script_lines d.scripts point.Resumed p)) (sym s.2)
      (round d.cursor s.0 s.1))

  pub current-pause : (out : List Line) (s : State) (d : Data) → d.state ≡ s → CurrentTo p commands out d → CurrentTo p commands out (pause_at s d).1
  current-pause out Printing d e h = to_pausing out d e h
  current-pause out _ d e h = h

  pub current-resume : (out : List Line) (s : State) (d : Data) → d.state ≡ s → CurrentTo p commands out d → CurrentTo p commands out (resume_at s d).1
  current-resume out Paused d e h = to_resumed out d e h
  current-resume out _ d e h = h

  pub current-toggle : (out : List Line) (s : State) (d : Data) → d.state ≡ s → CurrentTo p commands out d → CurrentTo p commands out (toggle_at s d).1
  current-toggle out Printing d e h = to_pausing out d e h
  current-toggle out Paused d e h = to_resumed out d e h
  current-toggle out _ d e h = h

  cancelled_after : (scripts : ScriptTexts) (cursor : ℕ) (l lines : List Line) → Body scripts p commands cursor l →
      lines ≡ l ++ script_lines scripts point.Paused p → Course scripts p commands course.Cancelled (lines ++ script_lines scripts point.Cancelled p)
  cancelled_after scripts cursor l lines b e = subst (λ m. Course scripts p commands course.Cancelled (m ++ script_lines scripts point.Cancelled p)) (sym e)
      (cancelled_paused cursor l b)

  pub current-cancel : (out : List Line) (s : State) (d : Data) → d.state ≡ s → CurrentTo p commands out d → CurrentTo p commands out (cancel_at s d).1
  current-cancel out Printing d e h = joins point.Cancelled out d Cancelling h (cancelled d.cursor _ (stage_is out d Printing e h))
  current-cancel out Pausing d e h = let s = stage_is out d Pausing e h in
      joins point.Cancelled out d Cancelling h (cancelled_after d.scripts d.cursor s.0 _ s.1 s.2)
  current-cancel out Paused d e h = let s = stage_is out d Paused e h in
      joins point.Cancelled out d Cancelling h (cancelled_after d.scripts d.cursor s.0 _ s.1 s.2)
  current-cancel out _ d e h = h

  current-add : (out : List Line) (lines : List (List ℕ)) (d : Data) → CurrentTo p commands out d → CurrentTo p commands out (add_manual lines d).1
  current-add out lines d h = choose_pair out _ _ _ h h

  -- the printer is stopped: no line joins, and those that wait go nowhere
  to_stopping : (out : List Line) (lines : List (List ℕ)) (d : Data) → CurrentTo p commands out d → CurrentTo p commands out (stopping lines d)
  to_stopping out lines d h = record {
    is = h.is;
    active_is = h.active_is;
    texts_are = h.texts_are;
    stage = going d.scripts d.state d.cursor d.waiting (out ++ print_lines p d.waiting) h.stage;
  }

  current-take : (out : List Line) (lines : List (List ℕ)) (d : Data) → CurrentTo p commands out d → CurrentTo p commands out (take_manual lines d).1
  current-take out lines d h = choose_pair out (is_stop lines) _ _ (to_stopping out lines d h) (current-add out lines d h)

  pub current-manual : (out : List Line) (s : State) (lines : List (List ℕ)) (d : Data) → CurrentTo p commands out d →
      CurrentTo p commands out (manual_at s lines d).1
  current-manual out Operational lines d h = current-take out lines d h
  current-manual out Printing lines d h = current-take out lines d h
  current-manual out Pausing lines d h = current-take out lines d h
  current-manual out Paused lines d h = current-take out lines d h
  current-manual out Cancelling lines d h = current-take out lines d h
  current-manual out Finishing lines d h = current-take out lines d h
  current-manual out Connecting lines d h = choose_pair out (is_stop lines && d.linked) _ _ (to_stopping out lines d h) h
  current-manual out Closing lines d h = choose_pair out (is_stop lines && may_stop_closing d) _ _ (to_stopping out lines d h) h
  current-manual out _ lines d h = h

  -- the pulled lines of the print with one more line, if there is one
  abbrev pub with_line : List Line → Option Line → List Line
  with_line out None = out
  with_line out (Some line) = out ++ own p line

  abbrev pub CurrentDrawn : List Line → Drawn → Type 0
  CurrentDrawn out drawn = CurrentTo p commands (with_line out drawn.0) drawn.1

  choose_drawn : (out : List Line) (b : Bool) (x y : Drawn) → CurrentDrawn out x → CurrentDrawn out y → CurrentDrawn out (cond b x y)
  choose_drawn out true x y hx hy = hx
  choose_drawn out false x y hx hy = hy

  choose_data : (out : List Line) (b : Bool) (x y : Data) → CurrentTo p commands out x → CurrentTo p commands out y → CurrentTo p commands out (cond b x y)
  choose_data out true x y hx hy = hx
  choose_data out false x y hx hy = hy

  current-keep : (out : List Line) (tag : Tag) (number : ℕ) (d : Data) → CurrentTo p commands out d → CurrentTo p commands out (keep_number tag number d)
  current-keep out (Script at print) number d h = choose_data out (nat_eq print 0) (record d { last_line = number }) (record d { print_line = number; last_line = number }) h h
  current-keep out (Job print index) number d h = h
  current-keep out Manual number d h = h
  current-keep out Poll number d h = h

  current-issue : (out : List Line) (line : Line) (d : Data) → CurrentTo p commands (out ++ own p line) d → CurrentDrawn out (issue line d)
  current-issue out line d h = current-keep (out ++ own p line) line.tag (next_number d.issued) (record d { issued = next_number d.issued }) h

  -- a line of something else
  other_issue : (out : List Line) (line : Line) (d : Data) → own p line ≡ [] → CurrentTo p commands out d → CurrentDrawn out (issue line d)
  other_issue out line d e h = current-issue out line d (subst (λ o. CurrentTo p commands o d) (sym (append-nil out) ∙ ap (λ l. out ++ l) (sym e)) h)

  -- a waiting line that was pulled is among the lines as before
  stays : (scripts : ScriptTexts) (s : State) (cursor : ℕ) (line : Line) (rest lines : List Line) → At scripts s cursor (line ∷ rest) lines →
      At scripts s cursor rest lines
  stays scripts Printing cursor line rest lines b = b
  stays scripts Pausing cursor line rest lines b = b
  stays scripts Paused cursor line rest lines b = absurd (cc (b.3))
  stays scripts Cancelling cursor line rest lines b = b
  stays scripts Finishing cursor line rest lines b = b
  stays scripts Closing cursor line rest lines b = b
  stays scripts _ cursor line rest lines b = absurd b

  current-scripts : (out : List Line) (w : List Line) (d : Data) (next : Drawn) → d.waiting ≡ w → CurrentTo p commands out d →
      (d.waiting ≡ [] → CurrentDrawn out next) → CurrentDrawn out (from_scripts w d next)
  current-scripts out [] d next e h k = k e
  current-scripts out (line ∷ rest) d next e h k = current-issue out line (record d { waiting = rest }) (record {
    is = h.is;
    active_is = h.active_is;
    texts_are = h.texts_are;
    stage =
        let b : At d.scripts d.state d.cursor (line ∷ rest) (out ++ print_lines p (line ∷ rest)) =
        subst (λ w. At d.scripts d.state d.cursor w (out ++ print_lines p w)) e h.stage in
        subst (λ l. At d.scripts d.state d.cursor rest l) (goes_over p out line rest) (stays d.scripts d.state d.cursor line rest _ b);
  })

  current-from_manual : (out : List Line) (m : List (List ℕ)) (d : Data) (next : Drawn) → CurrentTo p commands out d → CurrentDrawn out next →
      CurrentDrawn out (from_manual m d next)
  current-from_manual out [] d next h k = k
  current-from_manual out (text ∷ texts) d next h k = other_issue out (record { text = text; tag = Manual }) (record d { manual = texts }) refl h

  current-poll : (out : List Line) (moment : ℕ) (d : Data) (next : Drawn) → CurrentTo p commands out d → CurrentDrawn out next →
      CurrentDrawn out (from_poll moment d next)
  current-poll out moment d next h k =
      choose_drawn out (poll_is_due moment d) _ next (other_issue out (record { text = codes "M105"; tag = Poll })
      (record d { poll_at = moment_after moment d.poll_ms }) refl h) k

  current-probe : (out : List Line) (awaited moment : ℕ) (d : Data) → CurrentTo p commands out d → CurrentDrawn out (from_probe awaited moment d)
  current-probe out awaited moment d h =
      choose_drawn out (probe_is_due awaited moment d) _ (nothing d) (other_issue out (record { text = codes "M400"; tag = Poll })
      (put_off moment d) refl h) h

  own_job : (d : Data) (text : List ℕ) → d.greatest ≡ p → own p (job_line d.greatest d.cursor text) ≡ job_line p d.cursor text ∷ []
  own_job d text e =
      ap (λ (k : ℕ). own p (job_line k d.cursor text)) e ∙ ap (λ (b : Bool). cond b (job_line p d.cursor text ∷ []) []) (same_test p)

  -- the file command at the cursor
  current-file : (out : List Line) (text : Option (List ℕ)) (d : Data) → slice_get (commands_of d.file) d.cursor ≡ text → d.state ≡ Printing →
      CurrentTo p commands out d → d.waiting ≡ [] → CurrentDrawn out (from_file text d)
  current-file out None d t e h w = h
  current-file out (Some text) d t e h w = current-issue out (job_line d.greatest d.cursor text) (record d { cursor = d.cursor + 1 }) (record {
    is = h.is;
    active_is = h.active_is;
    texts_are = h.texts_are;
    stage =
        let b : Body d.scripts p commands d.cursor out = subst (λ l. Body d.scripts p commands d.cursor l) (ap (λ w. out ++ print_lines p w) w ∙ append-nil out)
        (stage_is out d Printing e h) in
        let there : slice_get commands d.cursor ≡ Some text = ap (λ c. slice_get c d.cursor) (sym h.texts_are) ∙ t in
        let more : Body d.scripts p commands (suc d.cursor) (out ++ job_line p d.cursor text ∷ []) = command d.cursor text out b there in
        let lines : (out ++ own p (job_line d.greatest d.cursor text)) ++ print_lines p d.waiting ≡ out ++ job_line p d.cursor text ∷ [] =
        ap (λ w. (out ++ own p (job_line d.greatest d.cursor text)) ++ print_lines p w) w ∙ append-nil _ ∙ ap (λ l. out ++ l) (own_job d text h.is) in
        let next : suc d.cursor ≡ d.cursor + 1 = omega arith in
        subst (λ s. At d.scripts s (d.cursor + 1) d.waiting ((out ++ own p (job_line d.greatest d.cursor text)) ++ print_lines p d.waiting)) (sym e)
        (subst (λ l. Body d.scripts p commands (d.cursor + 1) l) (sym lines)
        (subst (λ n. Body d.scripts p commands n (out ++ job_line p d.cursor text ∷ [])) next more));
  })

  current-talk : (out : List Line) (moment : ℕ) (d : Data) (next : Drawn) → CurrentTo p commands out d → (d.waiting ≡ [] → CurrentDrawn out next) →
      CurrentDrawn out (draw_in_order moment d next)
  current-talk out moment d next h k =
      current-scripts out d.waiting d _ refl h (λ w. current-from_manual out d.manual d _ h (current-poll out moment d next h (k w)))

  current-last : (out : List Line) (b : Bool) (moment : ℕ) (d : Data) → CurrentTo p commands out d → CurrentDrawn out (draw_last b moment d)
  current-last out false moment d h = current-scripts out d.waiting d _ refl h (λ w. current-probe out d.last_line moment d h)
  current-last out true moment d h = current-from_manual out d.manual d (nothing d) h h

  current-draw : (out : List Line) (s : State) (moment : ℕ) (d : Data) → d.state ≡ s → CurrentTo p commands out d → CurrentDrawn out (draw_at s moment d)
  current-draw out Printing moment d e h = current-talk out moment d _ h (current-file out _ d refl e h)
  current-draw out Operational moment d e h = current-talk out moment d _ h (λ w. current-probe out d.issued moment d h)
  current-draw out Pausing moment d e h = current-talk out moment d _ h (λ w. current-probe out d.issued moment d h)
  current-draw out Paused moment d e h = current-talk out moment d _ h (λ w. current-probe out d.issued moment d h)
  current-draw out Cancelling moment d e h = current-talk out moment d _ h (λ w. current-probe out d.issued moment d h)
  current-draw out Finishing moment d e h = current-talk out moment d _ h (λ w. current-probe out d.issued moment d h)
  current-draw out Closing moment d e h = current-last out d.stopped moment d h
  current-draw out _ moment d e h = h

  -- all commands were issued
  all_issued : (out : List Line) (d : Data) → is_issued d ≡ true → d.state ≡ Printing → CurrentTo p commands out d →
      Body d.scripts p commands (length commands) (out ++ print_lines p d.waiting)
  all_issued out d t e h =
      let at_end : d.cursor ≡ length (commands_of d.file) = grind (arith, nat_tests) in
      subst (λ n. Body d.scripts p commands n (out ++ print_lines p d.waiting)) (at_end ∙ ap length h.texts_are) (stage_is out d Printing e h)

  settle_if : (out : List Line) (b : Bool) (d : Data) → is_issued d ≡ b → d.state ≡ Printing → CurrentTo p commands out d →
      CurrentTo p commands out (cond b (with_script point.Done d.greatest (record d { state = Finishing })) d)
  settle_if out true d t e h = joins point.Done out d Finishing h (with_done _ (all_issued out d t e h))
  settle_if out false d t e h = h

  pub current-settle : (out : List Line) (s : State) (d : Data) → d.state ≡ s → CurrentTo p commands out d → CurrentTo p commands out (settle_at s d)
  current-settle out Printing d e h = settle_if out (is_issued d) d refl e h
  current-settle out _ d e h = h

  pub current-pull : (out : List Line) (moment : ℕ) (d : Data) → CurrentTo p commands out d → CurrentDrawn out (pull_step moment d)
  current-pull out moment d h =
      let drawn : Drawn = draw_at d.state moment d in
      current-settle (with_line out drawn.0) drawn.1.state drawn.1 refl (current-draw out d.state moment d refl h)
