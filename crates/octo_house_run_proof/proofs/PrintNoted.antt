-- The numbers that a desk keeps, over a note.
use Rattle.std.proofs.Common.{◌≡◌, ◌⊎◌, inl, inr, ℕ, ◌<◌, ◌≤◌, Bool, true, false, cond, nat_eq, List, [], drop, None, Some, refl, sym, ◌∙◌, ap, subst, arith}
use Rattle.job_desk.specs.Data.{Data, Line, with_script, moment_after}
use Rattle.job_desk.specs.Pull.{settled}
use Rattle.job_desk.specs.Note.{Noted, is_over, end_at, after_ending, finish, leave, hung_up, fail, ready_at, after_open, note_fact, note_step, with_acked}
use Rattle.job_desk.specs.Run.{print_lines}
use Rattle.job_desk.specs.declared.state.State.{State}
use Rattle.job_desk.specs.declared.state.State.TheVariants.{Offline, Connecting, Operational, Pausing, Paused, Cancelling, Finishing, Fault}
use Rattle.job_desk.specs.declared.state.Point.TheVariants as point
use Rattle.job_desk.specs.declared.link_fact.LinkFact.{LinkFact}
use Rattle.job_desk.specs.declared.link_fact.LinkFact.TheVariants as fact
use Rattle.print_queue.specs.declared.ending.Outcome.TheVariants as outcome
use Rattle.octo_house_run_proof.proofs.Lists.{none_past}
use Rattle.octo_house_run_proof.proofs.Marks.{Marked, marked_same}
use Rattle.octo_house_run_proof.proofs.Pulled.{same_settle}
use Rattle.job_desk.proofs.Endings.{over_line, over_waiting}

module _ (p : ℕ) (positive : nat_eq 0 p ≡ false) where
  -- what a note makes of a desk that heard how many lines are acknowledged
  record IsAfter (t e : Data) : Type 0 where
    issued : e.issued ≡ t.issued
    acked : e.acked ≡ t.acked
    line : e.print_line ≡ t.print_line
    greatest : e.greatest ≡ t.greatest
    paused : e.state ≡ Paused → ((t.state ≡ Paused) × (e.waiting ≡ t.waiting)) ⊎ ((e.waiting ≡ []) × (e.print_line ≤ e.acked))

  after_moved : (t e : Data) → e.issued ≡ t.issued → e.acked ≡ t.acked → e.print_line ≡ t.print_line → e.greatest ≡ t.greatest → (e.state ≡ Paused → ⊥)
      → IsAfter t e
  after_moved t e issued acked line greatest other =
      record { issued = issued; acked = acked; line = line; greatest = greatest; paused = λ is. absurd (other is) }

  after_same : (t : Data) → IsAfter t t
  after_same t = record { issued = refl; acked = refl; line = refl; greatest = refl; paused = λ is. inl (is, refl) }

  by_over : (t : Data) (b : Bool) (x y : Noted) → (b ≡ true → IsAfter t x.1) → IsAfter t y.1 → IsAfter t (cond b x y).1
  by_over t true x y hx hy = hx refl
  by_over t false x y hx hy = hy

  pausing : (t : Data) → is_over t ≡ true → IsAfter t (record t { state = Paused })
  pausing t over = record { issued = refl; acked = refl; line = refl; greatest = refl; paused = λ is. inr (over_waiting t over, over_line t over) }

  after_end : (s : State) (t : Data) → IsAfter t (end_at s t).1
  after_end Pausing t = by_over t (is_over t) (None, record t { state = Paused }) (None, t) (λ over. pausing t over) (after_same t)
  after_end Cancelling t =
      by_over t (is_over t) (finish outcome.Cancelled t) (None, t) (λ over. after_moved t (finish outcome.Cancelled t).1 refl refl refl refl (λ e. cc e))
      (after_same t)
  after_end Finishing t =
      by_over t (is_over t) (finish outcome.Done t) (None, t) (λ over. after_moved t (finish outcome.Done t).1 refl refl refl refl (λ e. cc e)) (after_same t)
  after_end _ t = after_same t

  after_ready : (s : State) (moment : ℕ) (t : Data) → IsAfter t (ready_at s moment t)
  after_ready Connecting moment t =
      after_moved t (with_script point.Connected 0
      (record t { state = Operational; poll_at = moment_after moment t.poll_ms; probe_at = moment_after moment t.poll_ms })) refl refl refl refl (λ e. cc e)
  after_ready _ moment t = after_same t

  -- a step after another
  after_then : (t u e : Data) → IsAfter t u → IsAfter u e → IsAfter t e
  after_then t u e first second = record {
    issued = second.issued ∙ first.issued;
    acked = second.acked ∙ first.acked;
    line = second.line ∙ first.line;
    greatest = second.greatest ∙ first.greatest;
    paused = λ is. by (second.paused is);
  }
    where
      by : ((u.state ≡ Paused) × (e.waiting ≡ u.waiting)) ⊎ ((e.waiting ≡ []) × (e.print_line ≤ e.acked)) →
          ((t.state ≡ Paused) × (e.waiting ≡ t.waiting)) ⊎ ((e.waiting ≡ []) × (e.print_line ≤ e.acked))
      by (inr over) = inr over
      by (inl was) = again was (first.paused was.0)
        where
          again : (u.state ≡ Paused) × (e.waiting ≡ u.waiting) → ((t.state ≡ Paused) × (u.waiting ≡ t.waiting))
              ⊎ ((u.waiting ≡ []) × (u.print_line ≤ u.acked)) →
              ((t.state ≡ Paused) × (e.waiting ≡ t.waiting)) ⊎ ((e.waiting ≡ []) × (e.print_line ≤ e.acked))
          again w (inl before) = inl (before.0, w.1 ∙ before.1)
          again w (inr over) = inr (w.1 ∙ over.0, omega (arith, over.1, second.line, second.acked))

  after_fail : (t : Data) (noted : Noted) → IsAfter t noted.1 → IsAfter t (fail noted).1
  after_fail t (None, e) h = after_then t e (leave Fault outcome.Failed e).1 h (after_moved e (leave Fault outcome.Failed e).1 refl refl refl refl (λ e. cc e))
  after_fail t (Some ending, e) h =
      after_then t e (leave Fault outcome.Failed e).1 h (after_moved e (leave Fault outcome.Failed e).1 refl refl refl refl (λ e. cc e))

  after_hung : (b : Bool) (t : Data) → IsAfter t (hung_up b t).1
  after_hung false t = after_moved t (leave Offline outcome.Cancelled t).1 refl refl refl refl (λ e. cc e)
  after_hung true t = after_moved t (leave Fault outcome.Failed t).1 refl refl refl refl (λ e. cc e)

  after_fact : (f : LinkFact) (moment : ℕ) (t : Data) → (f ≡ fact.Opened → ⊥) → IsAfter t (note_fact f moment t).1
  after_fact fact.Quiet moment t other = after_end t.state t
  after_fact fact.Opened moment t other = absurd (other refl)
  after_fact fact.Ready moment t other =
      let heard : Data = record t { ready = true } in
      let is : Data = ready_at heard.state moment heard in
      after_then t is (after_ending is).1 (after_then t heard is (record { issued = refl; acked = refl; line = refl; greatest = refl; paused = λ is. inl (is, refl) })
      (after_ready heard.state moment heard)) (after_end is.state is)
  after_fact fact.Closed moment t other = after_hung t.stopped t
  after_fact fact.NoPort moment t other = after_moved t (leave Fault outcome.Failed t).1 refl refl refl refl (λ e. cc e)
  after_fact fact.Failed moment t other = after_fail t (after_ending t) (after_end t.state t)
  after_fact (fact.Ended end) moment t other = after_fail t (after_ending t) (after_end t.state t)

  marked_after : (d e : Data) (acked moment : ℕ) (lines : List Line) → d.acked ≤ acked → IsAfter (with_acked acked moment d) e → Marked p d lines →
      Marked p e lines
  marked_after d e acked moment lines later a m = record {
    counted = a.issued ∙ m.counted;
    ahead = λ below. m.ahead (subst (λ g. g < p) a.greatest below);
    marked = λ is. ap (λ (n : ℕ). print_lines p (drop n lines)) a.line ∙ m.marked (sym a.greatest ∙ is);
    paused = λ is. by (a.paused is);
  }
    where
      by : ((d.state ≡ Paused) × (e.waiting ≡ d.waiting)) ⊎ ((e.waiting ≡ []) × (e.print_line ≤ e.acked)) → (e.waiting ≡ []) × (e.print_line ≤ e.acked)
      by (inl was) = (let h = m.paused was.0 in (was.1 ∙ h.0, omega (arith, h.1, a.line, a.acked, later)))
      by (inr over) = over

  -- a note that opens no session
  pub marked_note : (acked : ℕ) (f : LinkFact) (moment : ℕ) (d : Data) (lines : List Line) → (f ≡ fact.Opened → ⊥) → d.acked ≤ acked → Marked p d lines →
      Marked p (note_step acked f moment d).1 lines
  marked_note acked f moment d lines other later m =
      let noted : Noted = note_fact f moment (with_acked acked moment d) in
      marked_same p noted.1 (settled noted.1) lines (same_settle p positive noted.1.state noted.1)
      (marked_after d noted.1 acked moment lines later (after_fact f moment (with_acked acked moment d) other) m)

  pub acked_note : (acked : ℕ) (f : LinkFact) (moment : ℕ) (d : Data) → (f ≡ fact.Opened → ⊥) → (note_step acked f moment d).1.acked ≡ acked
  acked_note acked f moment d other =
      let noted : Noted = note_fact f moment (with_acked acked moment d) in
      (same_settle p positive noted.1.state noted.1).acked ∙ (after_fact f moment (with_acked acked moment d) other).acked

  -- one that does: the session has no line yet
  pub marked_opened : (acked moment : ℕ) (d : Data) (lines : List Line) → Marked p d lines → Marked p (note_step acked fact.Opened moment d).1 []
  marked_opened acked moment d lines m =
      let t : Data = after_open (with_acked acked moment d) in
      let noted : Noted = after_ending t in
      marked_same p noted.1 (settled noted.1) [] (same_settle p positive noted.1.state noted.1) (by t noted.1 refl refl (λ is. is) refl (after_end t.state t))
    where
      by : (t e : Data) → t.issued ≡ 0 → t.print_line ≡ 0 → (t.state ≡ Paused → d.state ≡ Paused) → t.waiting ≡ d.waiting → IsAfter t e → Marked p e []
      by t e none line was waits a = record {
        counted = a.issued ∙ none;
        ahead = λ below. refl;
        marked = λ is. none_past p e.print_line [] (omega arith);
        paused = λ is. again (a.paused is);
      }
        where
          again : ((t.state ≡ Paused) × (e.waiting ≡ t.waiting)) ⊎ ((e.waiting ≡ []) × (e.print_line ≤ e.acked)) → (e.waiting ≡ []) × (e.print_line ≤ e.acked)
          again (inl w) = (w.1 ∙ waits ∙ (m.paused (was w.0)).0, omega (arith, a.line, line))
          again (inr over) = over

  pub acked_opened : (acked moment : ℕ) (d : Data) → (note_step acked fact.Opened moment d).1.acked ≡ 0
  acked_opened acked moment d =
      let t : Data = after_open (with_acked acked moment d) in
      let noted : Noted = after_ending t in
      (same_settle p positive noted.1.state noted.1).acked ∙ (after_end t.state t).acked
