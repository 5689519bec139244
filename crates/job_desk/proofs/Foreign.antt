-- A print that is not going on: no call but its own start touches it.
use Rattle.std.proofs.Common.{◌≡◌, ◌⊎◌, inl, inr, ℕ, Bool, true, false, cond, nat_eq, ◌+◌, codes, List, [], ◌∷◌, ◌++◌, Option, None, Some, refl, sym, ◌∙◌, ap, subst}
use Rattle.std.proofs.lemmas.Bool.{false≢true, cond_both}
use Rattle.std.specs.Prelude.{◌&&◌}
use Rattle.job_desk.specs.Data.{Data, File, Line, script_lines, moment_after}
use Rattle.job_desk.specs.Table.{connect_at, disconnect_at, select_at, drop_file_step, is_named, printing, pause_at, resume_at, toggle_at, cancel_at, manual_at, add_manual, take_manual, is_stop, may_stop_closing}
use Rattle.job_desk.specs.Pull.{Drawn, draw_in_order, nothing, next_number, keep_number, issue, from_scripts, from_manual, from_poll, poll_is_due, from_probe, put_off, probe_is_due, from_file, draw_last, draw_at, is_issued, settle_at, pull_step}
use Rattle.job_desk.specs.Note.{Noted, after_ending, is_over, end_at, finish, leave, hung_up, fail, ready_at, after_open, note_fact, note_step, with_acked}
use Rattle.job_desk.specs.Course.{job_line}
use Rattle.job_desk.specs.Run.{is_of, print_lines}
use Rattle.job_desk.specs.declared.state.State.{State}
use Rattle.job_desk.specs.declared.state.State.TheVariants.{Offline, Connecting, Operational, Printing, Pausing, Paused, Cancelling, Finishing, Closing, Fault}
use Rattle.job_desk.specs.declared.state.Point.{Point}
use Rattle.job_desk.specs.declared.state.Point.TheVariants as point
use Rattle.job_desk.specs.declared.state.Tag.{Tag}
use Rattle.job_desk.specs.declared.state.Tag.TheVariants.{Script, Job, Manual, Poll}
use Rattle.job_desk.specs.declared.link_fact.LinkFact.{LinkFact}
use Rattle.job_desk.specs.declared.link_fact.LinkFact.TheVariants as fact
use Rattle.print_queue.specs.declared.ending.Ending.{Ending}
use Rattle.print_queue.specs.declared.ending.Outcome.{Outcome}
use Rattle.print_queue.specs.declared.ending.Outcome.TheVariants as outcome
use Rattle.job_desk.proofs.Lines.{waits_other}

-- states in which no print is going on, but that an end of a connection may still be on its way
abbrev pub IsIdle : State → Type 0
IsIdle Offline = Unit {0}
IsIdle Connecting = Unit {0}
IsIdle Operational = Unit {0}
IsIdle Printing = ⊥
IsIdle Pausing = ⊥
IsIdle Paused = ⊥
IsIdle Cancelling = ⊥
IsIdle Finishing = ⊥
IsIdle Closing = Unit {0}
IsIdle Fault = Unit {0}

-- none of its lines waits, and the desk's print is another one, or over
pub record Foreign (p : ℕ) (waiting : List Line) (greatest : ℕ) (active : Bool) (state : State) : Type 0 where
  pub none : print_lines p waiting ≡ []
  pub other : (nat_eq greatest p ≡ false) ⊎ ((active ≡ false) × IsIdle state)

abbrev pub ForeignTo : ℕ → Data → Type 0
ForeignTo p d = Foreign p d.waiting d.greatest d.active d.state

module _ (p : ℕ) where
  choose_pair : {X : Type 0} (b : Bool) (x y : X × Data) → ForeignTo p x.1 → ForeignTo p y.1 → ForeignTo p (cond b x y).1
  choose_pair true x y hx hy = hx
  choose_pair false x y hx hy = hy

  -- a step to an idle state
  idle : (d : Data) (s : State) → IsIdle s → ForeignTo p d → Foreign p d.waiting d.greatest d.active s
  idle d s i f = record { none = f.none; other = elim f.other [ inl e ↦ inl e | inr o ↦ inr (o.0, i) ] }

  -- in a busy state it is another print that is going on
  other_print : (d : Data) (s : State) → d.state ≡ s → (IsIdle s → ⊥) → ForeignTo p d → nat_eq d.greatest p ≡ false
  other_print d s e busy f = elim f.other [ inl o ↦ o | inr o ↦ absurd (busy (subst IsIdle e o.1)) ]

  busy_script : (at : Point) (d : Data) (s next : State) → d.state ≡ s → (IsIdle s → ⊥) → ForeignTo p d →
      Foreign p (d.waiting ++ script_lines d.scripts at d.greatest) d.greatest d.active next
  busy_script at d s next e busy f =
      let o = other_print d s e busy f in record { none = waits_other d.waiting d.scripts at p d.greatest o ∙ f.none; other = inl o }

  -- a script of no print
  free_script : (at : Point) (d : Data) (next : State) → nat_eq 0 p ≡ false → IsIdle next → ForeignTo p d →
      Foreign p (d.waiting ++ script_lines d.scripts at 0) d.greatest d.active next
  free_script at d next z i f = record { none = waits_other d.waiting d.scripts at p 0 z ∙ f.none; other = (idle d next i f).other }

  pub foreign-connect : (s : State) (port : List ℕ) (d : Data) → d.state ≡ s → ForeignTo p d → ForeignTo p (connect_at s port d).1
  foreign-connect Offline port d e f = idle d Connecting tt f
  foreign-connect Fault port d e f = idle d Connecting tt f
  foreign-connect _ port d e f = f

  pub foreign-disconnect : nat_eq 0 p ≡ false → (s : State) (d : Data) → d.state ≡ s → ForeignTo p d → ForeignTo p (disconnect_at s d)
  foreign-disconnect z Offline d e f = f
  foreign-disconnect z Closing d e f = f
  foreign-disconnect z Connecting d e f = idle d Closing tt f
  foreign-disconnect z Fault d e f = idle d Offline tt f
  foreign-disconnect z _ d e f = free_script point.Disconnect d Closing z tt f

  pub foreign-select : (s : State) (file : File) (d : Data) → ForeignTo p d → ForeignTo p (select_at s file d).1
  foreign-select Offline file d f = f
  foreign-select Connecting file d f = f
  foreign-select Operational file d f = f
  foreign-select Fault file d f = f
  foreign-select _ file d f = f

  pub foreign-drop_file : (name : List ℕ) (d : Data) → ForeignTo p d → ForeignTo p (drop_file_step name d).1
  foreign-drop_file name d f = choose_pair (is_named name d.file) _ _ (choose_pair d.active _ _ f f) f

  -- another print begins
  pub foreign-printing : (q : ℕ) (d : Data) → nat_eq q p ≡ false → print_lines p d.waiting ≡ [] → ForeignTo p (printing q d)
  foreign-printing q d e none = record { none = waits_other d.waiting d.scripts point.Started p q e ∙ none; other = inl e }

  pub foreign-pause : (s : State) (d : Data) → d.state ≡ s → ForeignTo p d → ForeignTo p (pause_at s d).1
  foreign-pause Printing d e f = busy_script point.Paused d Printing Pausing e (λ h. h) f
  foreign-pause _ d e f = f

  pub foreign-resume : (s : State) (d : Data) → d.state ≡ s → ForeignTo p d → ForeignTo p (resume_at s d).1
  foreign-resume Paused d e f = busy_script point.Resumed d Paused Printing e (λ h. h) f
  foreign-resume _ d e f = f

  pub foreign-toggle : (s : State) (d : Data) → d.state ≡ s → ForeignTo p d → ForeignTo p (toggle_at s d).1
  foreign-toggle Printing d e f = busy_script point.Paused d Printing Pausing e (λ h. h) f
  foreign-toggle Paused d e f = busy_script point.Resumed d Paused Printing e (λ h. h) f
  foreign-toggle _ d e f = f

  pub foreign-cancel : (s : State) (d : Data) → d.state ≡ s → ForeignTo p d → ForeignTo p (cancel_at s d).1
  foreign-cancel Printing d e f = busy_script point.Cancelled d Printing Cancelling e (λ h. h) f
  foreign-cancel Pausing d e f = busy_script point.Cancelled d Pausing Cancelling e (λ h. h) f
  foreign-cancel Paused d e f = busy_script point.Cancelled d Paused Cancelling e (λ h. h) f
  foreign-cancel _ d e f = f

  foreign-add : (lines : List (List ℕ)) (d : Data) → ForeignTo p d → ForeignTo p (add_manual lines d).1
  foreign-add lines d f = choose_pair _ _ _ f f

  foreign-take : (lines : List (List ℕ)) (d : Data) → ForeignTo p d → ForeignTo p (take_manual lines d).1
  foreign-take lines d f = choose_pair (is_stop lines) _ _ (idle d Closing tt f) (foreign-add lines d f)

  pub foreign-manual : (s : State) (lines : List (List ℕ)) (d : Data) → ForeignTo p d → ForeignTo p (manual_at s lines d).1
  foreign-manual Operational lines d f = foreign-take lines d f
  foreign-manual Printing lines d f = foreign-take lines d f
  foreign-manual Pausing lines d f = foreign-take lines d f
  foreign-manual Paused lines d f = foreign-take lines d f
  foreign-manual Cancelling lines d f = foreign-take lines d f
  foreign-manual Finishing lines d f = foreign-take lines d f
  foreign-manual Connecting lines d f = choose_pair (is_stop lines && d.linked) _ _ (idle d Closing tt f) f
  foreign-manual Closing lines d f = choose_pair (is_stop lines && may_stop_closing d) _ _ (idle d Closing tt f) f
  foreign-manual _ lines d f = f

  -- a line of something else, or none
  abbrev pub IsNotOf : Option Line → Type 0
  IsNotOf None = Unit {0}
  IsNotOf (Some line) = is_of p line.tag ≡ false

  abbrev pub ForeignDrawn : Drawn → Type 0
  ForeignDrawn drawn = ForeignTo p drawn.1 × IsNotOf drawn.0

  choose_drawn : (b : Bool) (x y : Drawn) → ForeignDrawn x → ForeignDrawn y → ForeignDrawn (cond b x y)
  choose_drawn true x y hx hy = hx
  choose_drawn false x y hx hy = hy

  foreign-keep : (tag : Tag) (number : ℕ) (d : Data) → ForeignTo p d → ForeignTo p (keep_number tag number d)
  foreign-keep (Script at print) number d f = cond_both (nat_eq print 0) (record d { last_line = number }) (record d { print_line = number; last_line = number })
      (λ e. ForeignTo p e) (λ _. f) (λ _. f)
  foreign-keep (Job print index) number d f = f
  foreign-keep Manual number d f = f
  foreign-keep Poll number d f = f

  foreign-issue : (line : Line) (d : Data) → is_of p line.tag ≡ false → ForeignTo p d → ForeignDrawn (issue line d)
  foreign-issue line d e f = (foreign-keep line.tag (next_number d.issued) (record d { issued = next_number d.issued }) f, e)

  -- the first of lines that are none of its
  first_other : (line : Line) (lines : List Line) → print_lines p (line ∷ lines) ≡ [] → (is_of p line.tag ≡ false) × (print_lines p lines ≡ [])
  first_other line lines e =
      elim (is_of p line.tag) as (λ b. cond b (line ∷ print_lines p lines) (print_lines p lines) ≡ [] → (b ≡ false) × (print_lines p lines ≡ [])) [
        | true ↦ λ h. absurd (cc h)
        | false ↦ λ h. (refl, h)
      ] e

  foreign-scripts : (w : List Line) (d : Data) (next : Drawn) → d.waiting ≡ w → ForeignTo p d → ForeignDrawn next → ForeignDrawn (from_scripts w d next)
  foreign-scripts [] d next e f h = h
  foreign-scripts (line ∷ lines) d next e f h =
      let first = first_other line lines (ap (λ w. print_lines p w) (sym e) ∙ f.none) in
      foreign-issue line (record d { waiting = lines }) first.0 (record { none = first.1; other = f.other })

  foreign-from_manual : (m : List (List ℕ)) (d : Data) (next : Drawn) → ForeignTo p d → ForeignDrawn next → ForeignDrawn (from_manual m d next)
  foreign-from_manual [] d next f h = h
  foreign-from_manual (text ∷ texts) d next f h = foreign-issue (record { text = text; tag = Manual }) (record d { manual = texts }) refl f

  foreign-poll : (moment : ℕ) (d : Data) (next : Drawn) → ForeignTo p d → ForeignDrawn next → ForeignDrawn (from_poll moment d next)
  foreign-poll moment d next f h =
      choose_drawn (poll_is_due moment d) _ next (foreign-issue (record { text = codes "M105"; tag = Poll })
      (record d { poll_at = moment_after moment d.poll_ms }) refl f) h

  foreign-probe : (awaited moment : ℕ) (d : Data) → ForeignTo p d → ForeignDrawn (from_probe awaited moment d)
  foreign-probe awaited moment d f =
      choose_drawn (probe_is_due awaited moment d) _ (nothing d) (foreign-issue (record { text = codes "M400"; tag = Poll })
      (put_off moment d) refl f) (f, tt)

  foreign-file : (text : Option (List ℕ)) (d : Data) → nat_eq d.greatest p ≡ false → ForeignTo p d → ForeignDrawn (from_file text d)
  foreign-file None d e f = (f, tt)
  foreign-file (Some text) d e f = foreign-issue (job_line d.greatest d.cursor text) (record d { cursor = d.cursor + 1 }) e f

  foreign-talk : (moment : ℕ) (d : Data) (next : Drawn) → ForeignTo p d → ForeignDrawn next → ForeignDrawn (draw_in_order moment d next)
  foreign-talk moment d next f h = foreign-scripts d.waiting d _ refl f (foreign-from_manual d.manual d _ f (foreign-poll moment d next f h))

  foreign-last : (b : Bool) (moment : ℕ) (d : Data) → ForeignTo p d → ForeignDrawn (draw_last b moment d)
  foreign-last false moment d f = foreign-scripts d.waiting d _ refl f (foreign-probe d.last_line moment d f)
  foreign-last true moment d f = foreign-from_manual d.manual d (nothing d) f (f, tt)

  foreign-draw : (s : State) (moment : ℕ) (d : Data) → d.state ≡ s → ForeignTo p d → ForeignDrawn (draw_at s moment d)
  foreign-draw Offline moment d e f = (f, tt)
  foreign-draw Connecting moment d e f = (f, tt)
  foreign-draw Operational moment d e f = foreign-talk moment d _ f (foreign-probe d.issued moment d f)
  foreign-draw Printing moment d e f = foreign-talk moment d _ f (foreign-file _ d (other_print d Printing e (λ h. h) f) f)
  foreign-draw Pausing moment d e f = foreign-talk moment d _ f (foreign-probe d.issued moment d f)
  foreign-draw Paused moment d e f = foreign-talk moment d _ f (foreign-probe d.issued moment d f)
  foreign-draw Cancelling moment d e f = foreign-talk moment d _ f (foreign-probe d.issued moment d f)
  foreign-draw Finishing moment d e f = foreign-talk moment d _ f (foreign-probe d.issued moment d f)
  foreign-draw Closing moment d e f = foreign-last d.stopped moment d f
  foreign-draw Fault moment d e f = (f, tt)

  pub foreign-settle : (s : State) (d : Data) → d.state ≡ s → ForeignTo p d → ForeignTo p (settle_at s d)
  foreign-settle Printing d e f = cond_both (is_issued d) _ d (λ x. ForeignTo p x) (λ _. busy_script point.Done d Printing Finishing e (λ h. h) f) (λ _. f)
  foreign-settle _ d e f = f

  pub foreign-pull : (moment : ℕ) (d : Data) → ForeignTo p d → ForeignDrawn (pull_step moment d)
  foreign-pull moment d f =
      let drawn : Drawn = draw_at d.state moment d in
      let h = foreign-draw d.state moment d refl f in
      (foreign-settle drawn.1.state drawn.1 refl h.0, h.1)

  -- an end of another print, or none
  abbrev pub IsNoEndOf : Option Ending → Type 0
  IsNoEndOf None = Unit {0}
  IsNoEndOf (Some ending) = nat_eq ending.print p ≡ false

  abbrev pub ForeignNoted : Noted → Type 0
  ForeignNoted noted = ForeignTo p noted.1 × IsNoEndOf noted.0

  choose_noted : (b : Bool) (x y : Noted) → ForeignNoted x → ForeignNoted y → ForeignNoted (cond b x y)
  choose_noted true x y hx hy = hx
  choose_noted false x y hx hy = hy

  foreign-finish : (how : Outcome) (d : Data) (s : State) → d.state ≡ s → (IsIdle s → ⊥) → ForeignTo p d → ForeignNoted (finish how d)
  foreign-finish how d s e busy f = (record { none = f.none; other = inr (refl, tt) }, other_print d s e busy f)

  foreign-end : (s : State) (d : Data) → d.state ≡ s → ForeignTo p d → ForeignNoted (end_at s d)
  foreign-end Pausing d e f = choose_noted (is_over d) _ _ (record { none = f.none; other = inl (other_print d Pausing e (λ h. h) f) }, tt) (f, tt)
  foreign-end Cancelling d e f = choose_noted (is_over d) _ _ (foreign-finish outcome.Cancelled d Cancelling e (λ h. h) f) (f, tt)
  foreign-end Finishing d e f = choose_noted (is_over d) _ _ (foreign-finish outcome.Done d Finishing e (λ h. h) f) (f, tt)
  foreign-end _ d e f = (f, tt)

  left_end : (b : Bool) (d : Data) (how : Outcome) → d.active ≡ b → ForeignTo p d →
      IsNoEndOf (cond b (Some (record { print = d.greatest; outcome = how })) None)
  left_end true d how e f = elim f.other [ inl o ↦ o | inr o ↦ absurd (false≢true (sym o.0 ∙ e)) ]
  left_end false d how e f = tt

  pub foreign-leave : (s : State) (how : Outcome) (d : Data) → IsIdle s → ForeignTo p d → ForeignNoted (leave s how d)
  foreign-leave s how d i f = (record { none = refl; other = inr (refl, i) }, left_end d.active d how refl f)

  foreign-fail : (noted : Noted) → ForeignNoted noted → ForeignNoted (fail noted)
  foreign-fail (None, d) h = foreign-leave Fault outcome.Failed d tt h.0
  foreign-fail (Some ending, d) h = ((foreign-leave Fault outcome.Failed d tt h.0).0, h.1)

  foreign-hung : (b : Bool) (d : Data) → ForeignTo p d → ForeignNoted (hung_up b d)
  foreign-hung false d f = foreign-leave Offline outcome.Cancelled d tt f
  foreign-hung true d f = foreign-leave Fault outcome.Failed d tt f

  foreign-ready : nat_eq 0 p ≡ false → (s : State) (moment : ℕ) (d : Data) → ForeignTo p d → ForeignTo p (ready_at s moment d)
  foreign-ready z Connecting moment d f = free_script point.Connected d Operational z tt f
  foreign-ready z _ moment d f = f

  foreign-fact : nat_eq 0 p ≡ false → (f : LinkFact) (moment : ℕ) (d : Data) → ForeignTo p d → ForeignNoted (note_fact f moment d)
  foreign-fact z fact.Quiet moment d f = foreign-end d.state d refl f
  foreign-fact z fact.Opened moment d f = foreign-end d.state (after_open d) refl f
  foreign-fact z fact.Ready moment d f =
      let heard : Data = record d { ready = true } in
      let is : Data = ready_at heard.state moment heard in
      foreign-end is.state is refl (foreign-ready z heard.state moment heard f)
  foreign-fact z fact.Closed moment d f = foreign-hung d.stopped d f
  foreign-fact z fact.NoPort moment d f = foreign-leave Fault outcome.Failed d tt f
  foreign-fact z fact.Failed moment d f = foreign-fail (after_ending d) (foreign-end d.state d refl f)
  foreign-fact z (fact.Ended end) moment d f = foreign-fail (after_ending d) (foreign-end d.state d refl f)

  pub foreign-note : nat_eq 0 p ≡ false → (acked : ℕ) (f : LinkFact) (moment : ℕ) (d : Data) → ForeignTo p d → ForeignNoted (note_step acked f moment d)
  foreign-note z acked f moment d h =
      let told : Data = with_acked acked moment d in
      let noted : Noted = note_fact f moment told in
      let g = foreign-fact z f moment told h in
      (foreign-settle noted.1.state noted.1 refl g.0, g.1)
