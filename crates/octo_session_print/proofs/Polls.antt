-- A poll needs its moment, and puts off the next one.
use Rattle.std.proofs.Common.{◌≡◌, ◌⊎◌, inl, inr, ℕ, ◌+◌, ◌<◌, ◌≤◌, Bool, true, false, cond, nat_le, codes, List, [], ◌∷◌, slice_get, Option, None, Some, refl, sym, ◌∙◌, ap, subst, arith}
use Rattle.std.proofs.lemmas.Bool.{and_parts, leb-true}
use Rattle.job_desk.specs.Data.{Data, Line, commands_of, with_script, moment_after}
use Rattle.job_desk.specs.declared.state.Point.TheVariants as point
use Rattle.job_desk.specs.Course.{job_line}
use Rattle.job_desk.specs.Pull.{Drawn, draw_in_order, nothing, issue, from_scripts, from_manual, from_poll, poll_is_due, polled_line, from_probe, from_file, draw_last, draw_at, is_issued, settle_at, settled, pull_step}
use Rattle.job_desk.specs.declared.state.State.{State}
use Rattle.job_desk.specs.declared.state.State.TheVariants.{Offline, Connecting, Operational, Printing, Pausing, Paused, Cancelling, Finishing, Closing, Fault}
use Rattle.job_desk.specs.declared.state.Tag.TheVariants.{Poll}
use Rattle.octo_session.specs.DeskTurn.{Pulls}
use Rattle.octo_session_print.specs.Plan.{PrintData}
use Rattle.octo_session_print.specs.Underway.{IsUnderway}
use Rattle.octo_session_print.specs.Progress.{after_pull}
use Rattle.octo_session_print.specs.Remaining.{planned_tag, IsPaced, ArePaced}
use Rattle.octo_session_print.proofs.Issues.{IsIssue, issue_tag}
use Rattle.octo_session_print.proofs.Pulling.{pull-underway}
use Rattle.job_desk.proofs.Probes.{no_probe}
use Rattle.octo_session_print.proofs.Planned.{waiting_planned}

settled_at : (s : State) (d : Data) → (settle_at s d).poll_at ≡ d.poll_at
settled_at Printing d = either_at (is_issued d)
  where
    either_at : (b : Bool) → (cond b (with_script point.Done d.greatest (record d { state = Finishing })) d).poll_at ≡ d.poll_at
    either_at true = refl
    either_at false = refl
settled_at Offline d = refl
settled_at Connecting d = refl
settled_at Operational d = refl
settled_at Pausing d = refl
settled_at Paused d = refl
settled_at Cancelling d = refl
settled_at Finishing d = refl
settled_at Closing d = refl
settled_at Fault d = refl

settled_ms : (s : State) (d : Data) → (settle_at s d).poll_ms ≡ d.poll_ms
settled_ms Printing d = either_ms (is_issued d)
  where
    either_ms : (b : Bool) → (cond b (with_script point.Done d.greatest (record d { state = Finishing })) d).poll_ms ≡ d.poll_ms
    either_ms true = refl
    either_ms false = refl
settled_ms Offline d = refl
settled_ms Connecting d = refl
settled_ms Operational d = refl
settled_ms Pausing d = refl
settled_ms Paused d = refl
settled_ms Cancelling d = refl
settled_ms Finishing d = refl
settled_ms Closing d = refl
settled_ms Fault d = refl

-- one line, and then more
both_paced : (moment : ℕ) (line : Line) (lines : List Line) (old next new : Data) → moment < moment_after moment old.poll_ms → next.poll_ms ≡ old.poll_ms
    → (planned_tag line.tag ≡ 1) × (next.poll_at ≡ old.poll_at) ⊎ (planned_tag line.tag ≡ 0) × (old.poll_at ≤ moment) ×
    (next.poll_at ≡ moment_after moment old.poll_ms)
    → ArePaced moment lines next new → ArePaced moment (line ∷ lines) old new
both_paced moment line lines old next new later ms (inl first) (inl rest) = inl (omega (arith, first.0, rest.0), rest.1 ∙ first.1)
both_paced moment line lines old next new later ms (inl first) (inr rest) =
    inr (omega (arith, first.0, rest.0), omega (arith, first.1, rest.1), rest.2 ∙ ap (λ (k : ℕ). moment_after moment k) ms)
both_paced moment line lines old next new later ms (inr first) (inl rest) = inr (omega (arith, first.0, rest.0), first.1, rest.1 ∙ first.2)
both_paced moment line lines old next new later ms (inr first) (inr rest) =
    let clash : ⊥ = omega (arith, first.2, rest.1, later) in absurd clash

-- the moment of a poll that is due has come
due : (moment : ℕ) (d : Data) → poll_is_due moment d ≡ true → d.poll_at ≤ moment
due moment d e = leb-true d.poll_at moment (and_parts (nat_le d.poll_at moment) (nat_le (polled_line d) d.acked) e).0

poll_tag : (got : Line) → ◌≡◌ {A = Option Line} (Some (record { text = codes "M105"; tag = Poll })) (Some got) → planned_tag got.tag ≡ 0
poll_tag got is =
    let same : got ≡ record { text = codes "M105"; tag = Poll } = cc is in
    ap (λ (l : Line). planned_tag l.tag) same

module _ (p : PrintData) (plain : p.numbered ≡ false) (moment : ℕ) where
  -- a line of the plan leaves the poll's moment
  planned_paced : (line : Line) (d e : Data) → planned_tag line.tag ≡ 1 → e.poll_at ≡ d.poll_at → e.poll_ms ≡ d.poll_ms → IsPaced moment d (issue line e)
  planned_paced line d e one at ms got is =
      let i : IsIssue e (issue line e).1 = issue_tag line.tag e in
      let same : got ≡ line = cc is in
      record { same_ms = i.poll_ms ∙ ms; by_tag = inl (ap (λ (l : Line). planned_tag l.tag) same ∙ one, i.poll_at ∙ at) }

  none_paced : (d : Data) → IsPaced moment d (nothing d)
  none_paced d got is = absurd (cc is)

  scripts_paced : (w : List Line) (d : Data) (issued : List (List ℕ)) (next : Drawn) → d.waiting ≡ w → IsUnderway p d issued → IsPaced moment d next
      → IsPaced moment d (from_scripts w d next)
  scripts_paced [] d issued next e h other = other
  scripts_paced (line ∷ rest) d issued next e h other = planned_paced line d (record d { waiting = rest }) (waiting_planned p d issued line rest h e) refl refl

  manual_paced : (m : List (List ℕ)) (d : Data) (next : Drawn) → m ≡ [] → IsPaced moment d next → IsPaced moment d (from_manual m d next)
  manual_paced [] d next e h = h
  manual_paced (text ∷ texts) d next e h = absurd (cc e)

  poll_paced : (b : Bool) (d : Data) (next : Drawn) → poll_is_due moment d ≡ b → IsPaced moment d next
      → IsPaced moment d (cond b (issue (record { text = codes "M105"; tag = Poll }) (record d { poll_at = moment_after moment d.poll_ms })) next)
  poll_paced false d next t h = h
  poll_paced true d next t h = λ got is. record { same_ms = refl; by_tag = inr (poll_tag got is, due moment d t, refl) }

  talk_paced : (d : Data) (issued : List (List ℕ)) (next : Drawn) → IsUnderway p d issued → IsPaced moment d next → IsPaced moment d (draw_in_order moment d next)
  talk_paced d issued next h other =
      scripts_paced d.waiting d issued (from_manual d.manual d (from_poll moment d next)) refl h
      (manual_paced d.manual d (from_poll moment d next) h.no_manual (poll_paced (poll_is_due moment d) d next refl other))

  -- without numbers there is no probe
  probe_paced : (awaited : ℕ) (d : Data) (issued : List (List ℕ)) → IsUnderway p d issued → IsPaced moment d (from_probe awaited moment d)
  probe_paced awaited d issued h =
      subst (λ (drawn : Drawn). IsPaced moment d drawn) (sym (no_probe awaited moment d (h.numbered_is ∙ plain))) (none_paced d)

  file_paced : (text : Option (List ℕ)) (d : Data) → IsPaced moment d (from_file text d)
  file_paced None d = none_paced d
  file_paced (Some text) d = planned_paced (job_line d.greatest d.cursor text) d (record d { cursor = d.cursor + 1 }) refl refl refl

  draw_paced : (s : State) (d : Data) (issued : List (List ℕ)) → IsUnderway p d issued → IsPaced moment d (draw_at s moment d)
  draw_paced Offline d issued h = none_paced d
  draw_paced Connecting d issued h = none_paced d
  draw_paced Fault d issued h = none_paced d
  draw_paced Printing d issued h = talk_paced d issued (from_file (slice_get (commands_of d.file) d.cursor) d) h
      (file_paced (slice_get (commands_of d.file) d.cursor) d)
  draw_paced Closing d issued h =
      subst (λ (b : Bool). IsPaced moment d (draw_last b moment d)) (sym h.unstopped)
      (scripts_paced d.waiting d issued (from_probe d.last_line moment d) refl h (probe_paced d.last_line d issued h))
  draw_paced Operational d issued h = talk_paced d issued (from_probe d.issued moment d) h (probe_paced d.issued d issued h)
  draw_paced Pausing d issued h = talk_paced d issued (from_probe d.issued moment d) h (probe_paced d.issued d issued h)
  draw_paced Paused d issued h = talk_paced d issued (from_probe d.issued moment d) h (probe_paced d.issued d issued h)
  draw_paced Cancelling d issued h = talk_paced d issued (from_probe d.issued moment d) h (probe_paced d.issued d issued h)
  draw_paced Finishing d issued h = talk_paced d issued (from_probe d.issued moment d) h (probe_paced d.issued d issued h)

  -- a pull returns a line of the plan, or a poll whose moment has come, and the next poll's is later then
  pub pull-paced : (d : Data) (issued : List (List ℕ)) → IsUnderway p d issued → IsPaced moment d (pull_step moment d)
  pull-paced d issued h got is =
      let drawn : Drawn = draw_at d.state moment d in
      let so = draw_paced d.state d issued h got is in
      let at : (settled drawn.1).poll_at ≡ drawn.1.poll_at = settled_at drawn.1.state drawn.1 in
      let ms : (settled drawn.1).poll_ms ≡ drawn.1.poll_ms = settled_ms drawn.1.state drawn.1 in
      record {
        same_ms = ms ∙ so.same_ms;
        by_tag = elim so.by_tag [ inl planned ↦ inl (planned.0, at ∙ planned.1) | inr poll ↦ inr (poll.0, poll.1, at ∙ poll.2) ];
      }

  -- successive pulls at one moment return at most one poll
  pub pulls-paced : (lines : List Line) (old new : Data) (issued : List (List ℕ)) → moment < moment_after moment old.poll_ms
      → Pulls moment lines old new → IsUnderway p old issued → ArePaced moment lines old new
  pulls-paced [] old new issued later pulls h = inl (refl, ap (λ (d : Data). d.poll_at) pulls)
  pulls-paced (line ∷ lines) old new issued later pulls h =
      let next : Data = (pull_step moment old).1 in
      let one = pull-paced old issued h line pulls.0 in
      let still : moment < moment_after moment next.poll_ms = subst (λ (ms : ℕ). moment < moment_after moment ms) (sym one.same_ms) later in
      let rest : ArePaced moment lines next new = pulls-paced lines next new (after_pull (pull_step moment old).0 issued) still pulls.1
      (pull-underway p moment old issued h) in
      both_paced moment line lines old next new later one.same_ms one.by_tag rest
