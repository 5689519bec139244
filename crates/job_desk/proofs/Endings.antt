-- How a print ends in a note, and what the note leaves.
use Rattle.std.proofs.Common.{◌≡◌, ◌⊎◌, inl, inr, ℕ, ◌≤◌, Bool, true, false, cond, [], Option, None, Some, refl, sym, ◌∙◌, ap, arith}
use Rattle.std.specs.Prelude.{IfSome}
use Rattle.std.proofs.lemmas.Bool.{false≢true, and_parts}
use Rattle.std.proofs.lemmas.Bool.Decides.{nat_tests}
use Rattle.job_desk.specs.Data.{Data, with_script}
use Rattle.job_desk.specs.Pull.{is_issued, settle_at, settled}
use Rattle.job_desk.specs.Note.{Noted, after_ending, is_over, end_at, finish, leave, hung_up, fail, ready_at, after_open, note_fact, note_step, with_acked}
use Rattle.job_desk.specs.Endings.{has_print, IsActive, IsAcknowledged, is_failure, EndsAs, IsEnding}
use Rattle.job_desk.specs.declared.state.State.{State}
use Rattle.job_desk.specs.declared.state.State.TheVariants.{Offline, Connecting, Printing, Pausing, Paused, Cancelling, Finishing, Fault}
use Rattle.job_desk.specs.declared.state.Point.TheVariants as point
use Rattle.job_desk.specs.declared.link_fact.LinkFact.{LinkFact}
use Rattle.job_desk.specs.declared.link_fact.LinkFact.TheVariants as fact
use Rattle.print_queue.specs.declared.ending.Ending.{Ending}
use Rattle.print_queue.specs.declared.ending.Outcome.{Outcome}
use Rattle.print_queue.specs.declared.ending.Outcome.TheVariants as outcome
use Rattle.job_desk.proofs.Noted.{no_lines}

-- no print goes on, no script line waits, and the last issued line of the last print is acknowledged
pub record IsFree (acked : ℕ) (d : Data) : Type 0 where
  pub no_print : has_print d.state ≡ false
  pub no_script : d.waiting ≡ []
  pub last_line : d.print_line ≤ acked

-- the desk that an ending leaves, by whether the printer was being stopped
abbrev pub LeavesFree : Outcome → ℕ → LinkFact → Bool → Data → Type 0
LeavesFree outcome.Active acked found stops e = Unit {0}
LeavesFree outcome.Done acked found stops e = IsFree acked e
LeavesFree outcome.Cancelled acked found stops e = IsFree acked e ⊎ ((found ≡ fact.Closed) × (stops ≡ false))
LeavesFree outcome.Failed acked found stops e = Unit {0}

-- what one note of a desk returns and leaves: no ending and the print as it was, or an ending, after which no print is
-- active
abbrev pub EndsIn : ℕ → LinkFact → Data → Option Ending → Data → Type 0
EndsIn acked found d None e = (e.active ≡ d.active) × (e.greatest ≡ d.greatest)
EndsIn acked found d (Some ending) e = IsEnding acked found d ending × LeavesFree ending.outcome acked found d.stopped e × (e.active ≡ false)

pub over_line : (t : Data) → is_over t ≡ true → t.print_line ≤ t.acked
over_line t over = grind (arith, nat_tests)

pub over_waiting : (t : Data) → is_over t ≡ true → t.waiting ≡ []
over_waiting t over = no_lines t.waiting (and_parts _ _ over).0

-- settling starts and ends no print
pub settle_print : (s : State) (t : Data) → ((settle_at s t).active ≡ t.active) × ((settle_at s t).greatest ≡ t.greatest)
settle_print Printing t = choose (is_issued t)
  where
    choose : (b : Bool) → ((cond b (with_script point.Done t.greatest (record t { state = Finishing })) t).active ≡ t.active)
        × ((cond b (with_script point.Done t.greatest (record t { state = Finishing })) t).greatest ≡ t.greatest)
    choose true = (refl, refl)
    choose false = (refl, refl)
settle_print _ t = (refl, refl)

pub free_settle : (acked : ℕ) (s : State) (t : Data) → t.state ≡ s → IsFree acked t → IsFree acked (settle_at s t)
free_settle acked Printing t e free = absurd (false≢true (sym free.no_print ∙ ap has_print e))
free_settle acked _ t e free = free

module _ (acked : ℕ) (f : LinkFact) (d : Data) where
  -- the desk on which the endings are tested
  record IsTested (t : Data) : Type 0 where
    active : t.active ≡ d.active
    greatest : t.greatest ≡ d.greatest
    waiting : t.waiting ≡ d.waiting
    line : t.print_line ≤ t.acked → (f ≡ fact.Opened) ⊎ (d.print_line ≤ acked)
    left : t.print_line ≤ t.acked → t.print_line ≤ acked

  end_if : (how : Outcome) (b : Bool) (t : Data) → is_over t ≡ b → IsTested t → d.active ≡ true →
      (IsAcknowledged acked f d → EndsAs how acked f d) → ((e : Data) → IsFree acked e → LeavesFree how acked f d.stopped e) →
      EndsIn acked f d (cond b (finish how t) (None, t)).0 (cond b (finish how t) (None, t)).1
  end_if how true t over tested active by leaves = (
    record {
      active = active;
      print = tested.greatest;
      by = by (record { no_script = sym tested.waiting ∙ over_waiting t over; last_line = tested.line (over_line t over) });
    },
    leaves (finish how t).1 (record { no_print = refl; no_script = over_waiting t over; last_line = tested.left (over_line t over) }),
    refl,
  )
  end_if how false t over tested active by leaves = (tested.active, tested.greatest)

  pause_if : (b : Bool) (t : Data) → IsTested t → EndsIn acked f d (cond {A = Noted} b (None, record t { state = Paused }) (None, t)).0
      (cond {A = Noted} b (None, record t { state = Paused }) (None, t)).1
  pause_if true t tested = (tested.active, tested.greatest)
  pause_if false t tested = (tested.active, tested.greatest)

  end_ends : IsActive d → (s : State) (t : Data) → d.state ≡ s → IsTested t → EndsIn acked f d (end_at s t).0 (end_at s t).1
  end_ends going Pausing t e tested = pause_if (is_over t) t tested
  end_ends going Cancelling t e tested =
      end_if outcome.Cancelled (is_over t) t refl tested (going (ap has_print e)) (λ is. inl (e, is)) (λ left free. inl free)
  end_ends going Finishing t e tested =
      end_if outcome.Done (is_over t) t refl tested (going (ap has_print e)) (λ is. (e, is)) (λ left free. free)
  end_ends going _ t e tested = (tested.active, tested.greatest)

  leave_ends : (how : Outcome) (s : State) (b : Bool) (t : Data) → t.active ≡ b → t.active ≡ d.active → t.greatest ≡ d.greatest →
      EndsAs how acked f d → ((e : Data) → LeavesFree how acked f d.stopped e) →
      EndsIn acked f d (cond b (Some (record { print = t.greatest; outcome = how })) None) (record t { state = s; active = false; waiting = []; manual = []; stopped = false; linked = false })
  leave_ends how s true t is same print by leaves = (record { active = sym same ∙ is; print = print; by = by }, leaves (leave s how t).1, refl)
  leave_ends how s false t is same print by leaves = (sym is ∙ same, print)

  left_fails : (how : Outcome) (t : Data) → LeavesFree how acked f d.stopped t → LeavesFree how acked f d.stopped (leave Fault outcome.Failed t).1
  left_fails outcome.Active t left = tt
  left_fails outcome.Done t free = record { no_print = refl; no_script = refl; last_line = free.last_line }
  left_fails outcome.Cancelled t (inl free) = inl (record { no_print = refl; no_script = refl; last_line = free.last_line })
  left_fails outcome.Cancelled t (inr closed) = inr closed
  left_fails outcome.Failed t left = tt

  fail_ends : (noted : Noted) → is_failure f ≡ true → EndsIn acked f d noted.0 noted.1 → EndsIn acked f d (fail noted).0 (fail noted).1
  fail_ends (None, t) fails ends = leave_ends outcome.Failed Fault t.active t refl ends.0 ends.1 (inl fails) (λ e. tt)
  fail_ends (Some ending, t) fails ends = (ends.0, left_fails ending.outcome t ends.1, refl)

  left_settles : (how : Outcome) (t : Data) → LeavesFree how acked f d.stopped t → LeavesFree how acked f d.stopped (settled t)
  left_settles outcome.Active t left = tt
  left_settles outcome.Done t free = free_settle acked t.state t refl free
  left_settles outcome.Cancelled t (inl free) = inl (free_settle acked t.state t refl free)
  left_settles outcome.Cancelled t (inr closed) = inr closed
  left_settles outcome.Failed t left = tt

  settle_ends : (gave : Option Ending) (t : Data) → EndsIn acked f d gave t → EndsIn acked f d gave (settled t)
  settle_ends None t ends = ((settle_print t.state t).0 ∙ ends.0, (settle_print t.state t).1 ∙ ends.1)
  settle_ends (Some ending) t ends = (ends.0, left_settles ending.outcome t ends.1, (settle_print t.state t).0 ∙ ends.2)

  some_ending : (gave : Option Ending) (t : Data) → EndsIn acked f d gave t → IfSome gave (λ ending. IsEnding acked f d ending)
  some_ending None t ends = tt
  some_ending (Some ending) t ends = ends.0

  none_active : (gave : Option Ending) (t : Data) → EndsIn acked f d gave t → IfSome gave (λ ending. t.active ≡ false)
  none_active None t ends = tt
  none_active (Some ending) t ends = ends.2

module _ (acked moment : ℕ) (d : Data) (going : IsActive d) where
  ready_ends : (s : State) → d.state ≡ s →
      EndsIn acked fact.Ready d (after_ending (ready_at s moment (record (with_acked acked moment d) { ready = true }))).0
      (after_ending (ready_at s moment (record (with_acked acked moment d) { ready = true }))).1
  ready_ends Connecting e = (refl, refl)
  ready_ends _ e =
      end_ends acked fact.Ready d going d.state (record (with_acked acked moment d) { ready = true }) refl
      (record { active = refl; greatest = refl; waiting = refl; line = λ l. inr l; left = λ l. l })

  hung_ends : (b : Bool) → d.stopped ≡ b → EndsIn acked fact.Closed d (hung_up b (with_acked acked moment d)).0 (hung_up b (with_acked acked moment d)).1
  hung_ends false e =
      leave_ends acked fact.Closed d outcome.Cancelled Offline d.active (with_acked acked moment d) refl refl refl (inr (refl, e)) (λ t. inr (refl, e))
  hung_ends true e = leave_ends acked fact.Closed d outcome.Failed Fault d.active (with_acked acked moment d) refl refl refl (inr (refl, e)) (λ t. tt)

  fact_ends : (f : LinkFact) → EndsIn acked f d (note_fact f moment (with_acked acked moment d)).0 (note_fact f moment (with_acked acked moment d)).1
  fact_ends fact.Quiet =
      end_ends acked fact.Quiet d going d.state (with_acked acked moment d) refl
      (record { active = refl; greatest = refl; waiting = refl; line = λ l. inr l; left = λ l. l })
  fact_ends fact.Opened =
      end_ends acked fact.Opened d going d.state (after_open (with_acked acked moment d)) refl
      (record { active = refl; greatest = refl; waiting = refl; line = λ l. inl refl; left = λ l. (let none : 0 ≤ acked = omega arith in none) })
  fact_ends fact.Ready = ready_ends d.state refl
  fact_ends fact.Closed = hung_ends d.stopped refl
  fact_ends fact.NoPort = leave_ends acked fact.NoPort d outcome.Failed Fault d.active (with_acked acked moment d) refl refl refl (inl refl) (λ e. tt)
  fact_ends fact.Failed =
      fail_ends acked fact.Failed d (after_ending (with_acked acked moment d)) refl
      (end_ends acked fact.Failed d going d.state (with_acked acked moment d) refl
      (record { active = refl; greatest = refl; waiting = refl; line = λ l. inr l; left = λ l. l }))
  fact_ends (fact.Ended end) =
      fail_ends acked (fact.Ended end) d (after_ending (with_acked acked moment d)) refl
      (end_ends acked (fact.Ended end) d going d.state (with_acked acked moment d) refl
      (record { active = refl; greatest = refl; waiting = refl; line = λ l. inr l; left = λ l. l }))

  pub note_ends : (f : LinkFact) → EndsIn acked f d (note_step acked f moment d).0 (note_step acked f moment d).1
  note_ends f =
      let noted : Noted = note_fact f moment (with_acked acked moment d) in
      settle_ends acked f d noted.0 noted.1 (fact_ends f)

-- the ending of a note, under any name
pub ending_is : (acked : ℕ) (f : LinkFact) (moment : ℕ) (d : Data) → IsActive d → IfSome (note_step acked f moment d).0 (λ ending. IsEnding acked f d ending)
ending_is acked f moment d going = some_ending acked f d (note_step acked f moment d).0 (note_step acked f moment d).1 (note_ends acked moment d going f)

-- after the ending of a note no print is active
pub ending_rests : (acked : ℕ) (f : LinkFact) (moment : ℕ) (d : Data) → IsActive d →
    IfSome (note_step acked f moment d).0 (λ ending. (note_step acked f moment d).1.active ≡ false)
ending_rests acked f moment d going = none_active acked f d (note_step acked f moment d).0 (note_step acked f moment d).1 (note_ends acked moment d going f)
