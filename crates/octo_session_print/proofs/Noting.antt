-- A note leads from phase to phase, and an ending says what the print came to.
use Rattle.std.proofs.Common.{◌≡◌, ℕ, ◌≤◌, Bool, true, false, cond, nat_le, not, ◌||◌, ◌&&◌, ◌==◌, List, [], ◌∷◌, ◌++◌, length, Option, None, Some, refl, sym, ◌∙◌, ap, subst, arith}
use Rattle.std.proofs.lemmas.List.{append-nil}
use Rattle.std.proofs.lemmas.Bool.{false≢true, and_parts, leb-true}
use Rattle.job_desk.specs.Data.{Data, Line, with_script, script_lines, moment_after}
use Rattle.job_desk.specs.Pull.{settle_at, settled}
use Rattle.job_desk.specs.Table.{closing_line, is_closable, is_closable_at}
use Rattle.job_desk.specs.Note.{Noted, after_ending, is_over, end_at, finish, leave, hung_up, fail, ready_at, after_open, note_fact, note_step, with_acked}
use Rattle.job_desk.specs.declared.state.State.{State}
use Rattle.job_desk.specs.declared.state.State.TheVariants.{Offline, Connecting, Operational, Printing, Pausing, Paused, Cancelling, Finishing, Closing, Fault}
use Rattle.job_desk.specs.declared.state.Point.TheVariants as point
use Rattle.job_desk.specs.declared.link_fact.LinkFact.{LinkFact}
use Rattle.job_desk.specs.declared.link_fact.LinkFact.TheVariants as fact
use Rattle.print_queue.specs.declared.ending.Ending.{Ending}
use Rattle.print_queue.specs.declared.ending.Outcome.{Outcome}
use Rattle.print_queue.specs.declared.ending.Outcome.TheVariants as outcome
use Rattle.job_desk.proofs.Noted.{no_lines}
use Rattle.octo_session_print.specs.Plan.{PrintData, connected_lines, done_lines, plan_lines}
use Rattle.octo_session.specs.Plan.{Weave, empty, IsPart}
use Rattle.octo_session_print.specs.Underway.{Standing, standing, IsOpen, IsFree, IsPrinting, Phase, IsCounted, IsUnderway, Suits, IsPrinted, ComesTo, EndsAs}
use Rattle.octo_session_print.specs.Underway as phase
use Rattle.octo_session_print.specs.Progress.{after_fact}
use Rattle.octo_session_print.proofs.Weaves.{part_self, part_of, part_after}
use Rattle.octo_session_print.proofs.Phases.{none_closing, in_plan, print_of, connecting_of, finishing_of, closing_of, impossible}
use Rattle.octo_session_print.proofs.Pulling.{settle-underway}
use Rattle.octo_session.specs.Turn.{texts_in}

module _ (p : PrintData) where
  -- the print after a note
  abbrev pub NotedSo : List (List ℕ) → Noted → Type 0
  NotedSo issued noted = IsUnderway p noted.1 issued × EndsAs p noted.0 noted.1.state issued

  -- the print is done
  finishes : (b : Bool) (d : Data) (issued : List (List ℕ)) → is_over d ≡ b → d.state ≡ Finishing → IsUnderway p d issued
      → NotedSo issued (cond b (finish outcome.Done d) (None, d))
  finishes false d issued t at h = (h, tt)
  finishes true d issued t at h =
      let on = finishing_of p (standing d) h.lines h.phase at in
      let none : d.waiting ≡ [] = no_lines d.waiting (and_parts (length d.waiting == 0) (nat_le d.print_line d.acked) t).0 in
      let all : h.sent ≡ done_lines p = sym (append-nil h.sent) ∙ ap (λ (w : List Line). h.sent ++ w) (sym none) ∙ h.parted ∙ on.are in (
        record {
          numbered_is = h.numbered_is;
          scripts_are = h.scripts_are;
          limits_are = h.limits_are;
          file_is = h.file_is;
          no_manual = h.no_manual;
          unstopped = h.unstopped;
          lines = done_lines p;
          phase = phase.ended (record { its_state = refl; ready_is = on.opened.ready_is }) (record { print_is = on.on.print_is; active_is = refl }) none;
          sent = h.sent;
          parted = h.parted ∙ on.are;
          woven = h.woven;
          counted = λ below. (let c = h.counted below in record { all = c.all; print = c.print; last = c.last });
          by_last = h.by_last;
          acknowledged = λ off. (let clash : Operational ≡ Offline = off in absurd (cc clash));
        },
        (on.on.print_is, record { first = issued; is_part = part_self issued; woven = subst (λ (l : List Line). Weave p.numbered issued (texts_in l)) all h.woven }),
      )

  pub ends : (s : State) (d : Data) (issued : List (List ℕ)) → d.state ≡ s → IsUnderway p d issued → NotedSo issued (end_at s d)
  ends Finishing d issued at h = finishes (is_over d) d issued refl at h
  ends Pausing d issued at h = impossible _ p (standing d) h.lines Pausing h.phase at refl
  ends Cancelling d issued at h = impossible _ p (standing d) h.lines Cancelling h.phase at refl
  ends Offline d issued at h = (h, tt)
  ends Connecting d issued at h = (h, tt)
  ends Operational d issued at h = (h, tt)
  ends Printing d issued at h = (h, tt)
  ends Paused d issued at h = (h, tt)
  ends Closing d issued at h = (h, tt)
  ends Fault d issued at h = (h, tt)

  both_empty : {X : Type 0} (xs ys : List X) → xs ++ ys ≡ [] → (xs ≡ []) × (ys ≡ [])
  both_empty [] ys e = (refl, e)
  both_empty (x ∷ xs) ys e = absurd (cc e)

  -- nothing is issued before the connection is ready
  pub nothing_sent : (d : Data) (issued : List (List ℕ)) (h : IsUnderway p d issued) → d.state ≡ Connecting → (h.sent ≡ []) × (d.waiting ≡ [])
  nothing_sent d issued h at =
      let on = connecting_of p (standing d) h.lines h.phase at in
      let both : h.sent ++ d.waiting ≡ [] = h.parted ∙ on.are in
      both_empty h.sent d.waiting both

  pub opens : (d : Data) (issued : List (List ℕ)) → d.state ≡ Connecting → IsUnderway p d issued → IsUnderway p (after_open d) []
  opens d issued at h =
      let on = connecting_of p (standing d) h.lines h.phase at in
      let n = nothing_sent d issued h at in
      record {
        numbered_is = h.numbered_is;
        scripts_are = h.scripts_are;
        limits_are = h.limits_are;
        file_is = h.file_is;
        no_manual = h.no_manual;
        unstopped = h.unstopped;
        lines = [];
        phase = phase.connecting at (record { print_is = on.free.print_is; active_is = on.free.active_is });
        sent = [];
        parted = n.1;
        woven = empty;
        counted = λ below. record { all = refl; print = omega arith; last = omega arith };
        by_last = λ below. empty;
        acknowledged = λ off. none_closing d.numbered;
      }

  -- the hello was acknowledged: the Connected script waits
  readies : (d : Data) (moment : ℕ) (issued : List (List ℕ)) → d.state ≡ Connecting → d.ready ≡ true → IsUnderway p d issued
      → IsUnderway p (with_script point.Connected 0
      (record d { state = Operational; poll_at = moment_after moment d.poll_ms; probe_at = moment_after moment d.poll_ms })) issued
  readies d moment issued at is h =
      let on = connecting_of p (standing d) h.lines h.phase at in
      let n = nothing_sent d issued h at in
      let script : d.waiting ++ script_lines d.scripts point.Connected 0 ≡ connected_lines p =
      ap (λ (w : List Line). w ++ script_lines d.scripts point.Connected 0) n.1 ∙ ap (λ s. script_lines s point.Connected 0) h.scripts_are in
      record {
        numbered_is = h.numbered_is;
        scripts_are = h.scripts_are;
        limits_are = h.limits_are;
        file_is = h.file_is;
        no_manual = h.no_manual;
        unstopped = h.unstopped;
        lines = connected_lines p;
        phase = phase.connected (record { its_state = refl; ready_is = is }) (record { print_is = on.free.print_is; active_is = on.free.active_is });
        sent = h.sent;
        parted = ap (λ (l : List Line). l ++ (d.waiting ++ script_lines d.scripts point.Connected 0)) n.0 ∙ script;
        woven = h.woven;
        counted = λ below. (let c = h.counted below in record { all = c.all; print = c.print; last = c.last });
        by_last = h.by_last;
        acknowledged = λ off. (let clash : Operational ≡ Offline = off in absurd (cc clash));
      }

  stays_ready : (s : Standing) (lines : List Line) → Phase p s lines → Phase p (record s { ready = true }) lines
  stays_ready s _ (phase.connecting at f) = phase.connecting at (record { print_is = f.print_is; active_is = f.active_is })
  stays_ready s _ (phase.connected o f) = phase.connected (record { its_state = o.its_state; ready_is = refl })
      (record { print_is = f.print_is; active_is = f.active_is })
  stays_ready s _ (phase.printing o f below) =
      phase.printing (record { its_state = o.its_state; ready_is = refl }) (record { print_is = f.print_is; active_is = f.active_is }) below
  stays_ready s _ (phase.finishing o f) = phase.finishing (record { its_state = o.its_state; ready_is = refl })
      (record { print_is = f.print_is; active_is = f.active_is })
  stays_ready s _ (phase.ended o f w) = phase.ended (record { its_state = o.its_state; ready_is = refl })
      (record { print_is = f.print_is; active_is = f.active_is }) w
  stays_ready s _ (phase.closing o f w) = phase.closing (record { its_state = o.its_state; ready_is = refl })
      (record { print_is = f.print_is; active_is = f.active_is }) w
  stays_ready s _ (phase.offline at i w) = phase.offline at i w
  stays_ready s _ (phase.failed at i lines part) = phase.failed at i lines part

  -- the hello's acknowledgement says nothing new later on
  pub hears : (d : Data) (issued : List (List ℕ)) → IsUnderway p d issued → IsUnderway p (record d { ready = true }) issued
  hears d issued h = record {
    numbered_is = h.numbered_is;
    scripts_are = h.scripts_are;
    limits_are = h.limits_are;
    file_is = h.file_is;
    no_manual = h.no_manual;
    unstopped = h.unstopped;
    lines = h.lines;
    phase = stays_ready (standing d) h.lines h.phase;
    sent = h.sent;
    parted = h.parted;
    woven = h.woven;
    counted = λ below. (let c = h.counted below in record { all = c.all; print = c.print; last = c.last });
    by_last = h.by_last;
    acknowledged = h.acknowledged;
  }

  pub ready_from : (s : State) (moment : ℕ) (d : Data) (issued : List (List ℕ)) → d.state ≡ s → d.ready ≡ true → IsUnderway p d issued
      → IsUnderway p (ready_at s moment d) issued
  ready_from Connecting moment d issued at is h = readies d moment issued at is h
  ready_from Offline moment d issued at is h = h
  ready_from Operational moment d issued at is h = h
  ready_from Printing moment d issued at is h = h
  ready_from Pausing moment d issued at is h = h
  ready_from Paused moment d issued at is h = h
  ready_from Cancelling moment d issued at is h = h
  ready_from Finishing moment d issued at is h = h
  ready_from Closing moment d issued at is h = h
  ready_from Fault moment d issued at is h = h

  failed_print : (b : Bool) (d : Data) (issued : List (List ℕ)) → d.active ≡ b → IsUnderway p d issued
      → EndsAs p (cond b (Some (record { print = d.greatest; outcome = outcome.Failed })) None) Fault issued
  failed_print false d issued e h = tt
  failed_print true d issued e h = (print_of p (standing d) h.lines h.phase e, refl)

  -- the link or the session failed, or the port isn't listed
  fails : (b : Bool) (d : Data) (issued : List (List ℕ)) → d.active ≡ b → IsUnderway p d issued
      → NotedSo issued (
        cond b (Some (record { print = d.greatest; outcome = outcome.Failed })) None,
        record d { state = Fault; active = false; waiting = []; manual = []; stopped = false; linked = false },
      )
  fails b d issued e h = (
    record {
      numbered_is = h.numbered_is;
      scripts_are = h.scripts_are;
      limits_are = h.limits_are;
      file_is = h.file_is;
      no_manual = refl;
      unstopped = refl;
      lines = h.sent;
      phase = phase.failed refl refl h.sent (part_of h.sent (h.sent ++ d.waiting) (plan_lines p) (part_after h.sent d.waiting)
          (subst (λ (l : List Line). IsPart l (plan_lines p)) (sym h.parted) (in_plan p (standing d) h.lines h.phase)));
      sent = h.sent;
      parted = append-nil h.sent;
      woven = h.woven;
      counted = λ below. (let c = h.counted below in record { all = c.all; print = c.print; last = c.last });
      by_last = h.by_last;
      acknowledged = λ off. (let clash : Fault ≡ Offline = off in absurd (cc clash));
    },
    failed_print b d issued e h,
  )

  -- what was done stays so in a failure
  pub still_so : (how : Outcome) (state : State) (issued : List (List ℕ)) → ComesTo p how state issued → ComesTo p how Fault issued
  still_so outcome.Active state issued h = h
  still_so outcome.Done state issued h = h
  still_so outcome.Cancelled state issued h = h
  still_so outcome.Failed state issued h = refl

  fails_after : (noted : Noted) (issued : List (List ℕ)) → NotedSo issued noted → NotedSo issued (fail noted)
  fails_after (None, d) issued h = fails d.active d issued refl h.0
  fails_after (Some ending, d) issued h = ((fails d.active d issued refl h.0).0, (h.1.0, still_so ending.outcome d.state issued h.1.1))

  -- a desk that may be closed
  pub record MayClose (d : Data) (lines : List Line) : Type 0 where
    pub closing : d.state ≡ Closing
    pub none : d.waiting ≡ []
    pub all : closing_line d ≤ d.acked
    pub are : lines ≡ plan_lines p
    pub active_is : d.active ≡ false

  or_first : (a : Bool) → (a || not true) ≡ true → a ≡ true
  or_first true e = refl
  or_first false e = absurd (false≢true e)

  waits_none : (d : Data) → (((length d.waiting == 0) && nat_le (closing_line d) d.acked) || not true) ≡ true → (d.waiting ≡ []) × (closing_line d ≤ d.acked)
  waits_none d t =
      let both : ((length d.waiting == 0) && nat_le (closing_line d) d.acked) ≡ true = or_first ((length d.waiting == 0) && nat_le (closing_line d) d.acked) t in (
        no_lines d.waiting (and_parts (length d.waiting == 0) (nat_le (closing_line d) d.acked) both).0,
        leb-true (closing_line d) d.acked (and_parts (length d.waiting == 0) (nat_le (closing_line d) d.acked) both).1,
      )

  may_close : (s : State) (d : Data) (issued : List (List ℕ)) → d.state ≡ s → is_closable_at s d ≡ true → (h : IsUnderway p d issued) → MayClose d h.lines
  may_close Closing d issued at t h =
      let on = closing_of p (standing d) h.lines h.phase at in
      let going : is_closable false d ≡ true = ap (λ (b : Bool). is_closable b d) (sym h.unstopped) ∙ t in
      let w = waits_none d (ap (λ (b : Bool). ((length d.waiting == 0) && nat_le (closing_line d) d.acked) || not b) (sym on.opened.ready_is) ∙ going) in
      record { closing = at; none = w.0; all = w.1; are = on.are; active_is = on.free.active_is }
  may_close Offline d issued at t h = absurd (false≢true t)
  may_close Connecting d issued at t h = absurd (false≢true t)
  may_close Operational d issued at t h = absurd (false≢true t)
  may_close Printing d issued at t h = absurd (false≢true t)
  may_close Pausing d issued at t h = absurd (false≢true t)
  may_close Paused d issued at t h = absurd (false≢true t)
  may_close Cancelling d issued at t h = absurd (false≢true t)
  may_close Finishing d issued at t h = absurd (false≢true t)
  may_close Fault d issued at t h = absurd (false≢true t)

  no_ending : (b : Bool) (ending : Ending) (state : State) (issued : List (List ℕ)) → b ≡ false → EndsAs p (cond b (Some ending) None) state issued
  no_ending false ending state issued e = tt
  no_ending true ending state issued e = absurd (false≢true (sym e))

  closes_off : (acked moment : ℕ) (d : Data) (issued : List (List ℕ)) → is_closable_at d.state d ≡ true → d.acked ≤ acked → IsUnderway p d issued
      → NotedSo issued (leave Offline outcome.Cancelled (with_acked acked moment d))
  closes_off acked moment d issued t more h =
      let m = may_close d.state d issued refl t h in
      let whole : h.sent ≡ plan_lines p = sym (append-nil h.sent) ∙ ap (λ (w : List Line). h.sent ++ w) (sym m.none) ∙ h.parted ∙ m.are in (
        record {
          numbered_is = h.numbered_is;
          scripts_are = h.scripts_are;
          limits_are = h.limits_are;
          file_is = h.file_is;
          no_manual = refl;
          unstopped = refl;
          lines = plan_lines p;
          phase = phase.offline refl refl refl;
          sent = h.sent;
          parted = append-nil h.sent ∙ whole;
          woven = h.woven;
          counted = λ below. (let c = h.counted below in record { all = c.all; print = c.print; last = c.last });
          by_last = h.by_last;
          acknowledged = λ off. omega (arith, m.all, more);
        },
        no_ending d.active (record { print = d.greatest; outcome = outcome.Cancelled }) Offline issued m.active_is,
      )

  -- nobody stops its printer
  closes : (acked moment : ℕ) (d : Data) (issued : List (List ℕ)) → is_closable_at d.state d ≡ true → d.acked ≤ acked → IsUnderway p d issued
      → NotedSo issued (hung_up d.stopped (with_acked acked moment d))
  closes acked moment d issued t more h =
      subst (λ (b : Bool). NotedSo issued (hung_up b (with_acked acked moment d))) (sym h.unstopped) (closes_off acked moment d issued t more h)

  -- acknowledgements alone change nothing of it
  pub acked_more : (acked moment : ℕ) (d : Data) (issued : List (List ℕ)) → (d.state ≡ Offline → d.acked ≤ acked) → IsUnderway p d issued
      → IsUnderway p (with_acked acked moment d) issued
  acked_more acked moment d issued more h = record {
    numbered_is = h.numbered_is;
    scripts_are = h.scripts_are;
    limits_are = h.limits_are;
    file_is = h.file_is;
    no_manual = h.no_manual;
    unstopped = h.unstopped;
    lines = h.lines;
    phase = h.phase;
    sent = h.sent;
    parted = h.parted;
    woven = h.woven;
    counted = λ below. (let c = h.counted below in record { all = c.all; print = c.print; last = c.last });
    by_last = h.by_last;
    acknowledged = λ off. (let all = h.acknowledged off in let rises = more off in omega (arith, all, rises));
  }

  pub not_offline : (d : Data) (acked : ℕ) → d.state ≡ Connecting → d.state ≡ Offline → d.acked ≤ acked
  not_offline d acked at off = let clash : Connecting ≡ Offline = sym at ∙ off in absurd (cc clash)

  facts : (f : LinkFact) (acked moment : ℕ) (d : Data) (issued : List (List ℕ)) → Suits f acked d → IsUnderway p d issued
      → NotedSo (after_fact f issued) (note_fact f moment (with_acked acked moment d))
  facts fact.Quiet acked moment d issued s h = ends d.state (with_acked acked moment d) issued refl (acked_more acked moment d issued (λ off. s) h)
  facts fact.Opened acked moment d issued s h =
      let told : Data = with_acked acked moment d in
      ends d.state (after_open told) [] refl (opens told issued s (acked_more acked moment d issued (not_offline d acked s) h))
  facts fact.Ready acked moment d issued s h =
      let heard : Data = record (with_acked acked moment d) { ready = true } in
      let is : Data = ready_at heard.state moment heard in
      ends is.state is issued refl (ready_from heard.state moment heard issued refl refl
      (hears (with_acked acked moment d) issued (acked_more acked moment d issued (λ off. s) h)))
  facts fact.Closed acked moment d issued s h = closes acked moment d issued s.0 s.1 h
  facts fact.NoPort acked moment d issued s h = fails d.active (with_acked acked moment d) issued refl (acked_more acked moment d issued (λ off. s) h)
  facts fact.Failed acked moment d issued s h =
      let told : Data = with_acked acked moment d in fails_after (after_ending told) issued
      (ends told.state told issued refl (acked_more acked moment d issued (λ off. s) h))
  facts (fact.Ended end) acked moment d issued s h =
      let told : Data = with_acked acked moment d in fails_after (after_ending told) issued
      (ends told.state told issued refl (acked_more acked moment d issued (λ off. s) h))

  settled_so : (how : Outcome) (d : Data) (issued : List (List ℕ)) → ComesTo p how d.state issued → ComesTo p how (settled d).state issued
  settled_so outcome.Active d issued h = h
  settled_so outcome.Done d issued h = h
  settled_so outcome.Cancelled d issued h = h
  settled_so outcome.Failed d issued h = ap (λ s. (settle_at s d).state) h ∙ h

  -- a failed print's desk has nothing to settle
  settled_end : (s : State) (ending : Option Ending) (d : Data) (issued : List (List ℕ)) → EndsAs p ending d.state issued
      → EndsAs p ending (settled d).state issued
  settled_end s None d issued h = tt
  settled_end s (Some ending) d issued h = (h.0, settled_so ending.outcome d issued h.1)

  -- after a note of a fact that suits the desk the print is underway, and an ending says what it came to
  pub note-underway : (f : LinkFact) (acked moment : ℕ) (d : Data) (issued : List (List ℕ)) → Suits f acked d → IsUnderway p d issued
      → NotedSo (after_fact f issued) (note_step acked f moment d)
  note-underway f acked moment d issued s h =
      let noted : Noted = note_fact f moment (with_acked acked moment d) in
      let so : NotedSo (after_fact f issued) noted = facts f acked moment d issued s h in
      (settle-underway p noted.1 (after_fact f issued) so.0, settled_end noted.1.state noted.0 noted.1 (after_fact f issued) so.1)
