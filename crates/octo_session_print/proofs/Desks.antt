-- What a quiet turn makes of the desk of a print, as far as it counts turns.
use Rattle.std.proofs.Common.{◌≡◌, inl, inr, ℕ, ◌+◌, ◌<◌, ◌≤◌, Bool, true, false, cond, List, [], ◌∷◌, slice_get, Option, None, Some, refl, sym, ◌∙◌, ap, subst, arith}
use Rattle.job_desk.specs.Data.{Data, Line, commands_of, with_script, moment_after}
use Rattle.job_desk.specs.Pull.{Drawn, draw_in_order, nothing, from_manual, from_poll, poll_is_due, from_probe, from_file, draw_last, draw_at, is_issued, settle_at, settled, pull_step}
use Rattle.job_desk.specs.Note.{Noted, end_at, is_over, finish, after_open, ready_at, note_step, with_acked}
use Rattle.job_desk.specs.declared.state.State.{State}
use Rattle.job_desk.specs.declared.state.State.TheVariants.{Offline, Connecting, Operational, Printing, Pausing, Paused, Cancelling, Finishing, Closing, Fault}
use Rattle.job_desk.specs.declared.state.Point.TheVariants as point
use Rattle.job_desk.specs.declared.state.Tag.TheVariants.{Job}
use Rattle.job_desk.specs.declared.link_fact.LinkFact.TheVariants as fact
use Rattle.print_queue.specs.declared.ending.Ending.{Ending}
use Rattle.print_queue.specs.declared.ending.Outcome.TheVariants as outcome
use Rattle.octo_session.specs.DeskTurn.{Pulls, IsNoted}
use Rattle.octo_session.proofs.Desk.{pull_settles, note_settles}
use Rattle.octo_session_print.specs.Plan.{PrintData}
use Rattle.octo_session_print.specs.Underway.{IsUnderway}
use Rattle.octo_session_print.specs.Progress.{after_pull}
use Rattle.octo_session_print.specs.Remaining.{ArePaced}
use Rattle.octo_session_print.proofs.Issues.{issue_state}
use Rattle.octo_session_print.proofs.Pulling.{pull-underway}
use Rattle.octo_session_print.proofs.Noting.{note-underway}
use Rattle.octo_session_print.proofs.Polls.{pull-paced, pulls-paced}
use Rattle.octo_session_print.specs.OnWay.{IsInPrint}
use Rattle.octo_session_print.proofs.States.{kept_poll, kept_probe, kept_manual, kept_scripts, pulls_keep}

-- What a pull leaves of the state.

talk_state : (moment : ℕ) (d : Data) (next : Drawn) → next.1.state ≡ d.state → (draw_in_order moment d next).1.state ≡ d.state
talk_state moment d next same =
    kept_scripts d.waiting d (from_manual d.manual d (from_poll moment d next))
    (kept_manual d.manual d (from_poll moment d next) (kept_poll (poll_is_due moment d) (moment_after moment d.poll_ms) d next same))

file_state : (text : Option (List ℕ)) (d : Data) → (from_file text d).1.state ≡ d.state
file_state None d = refl
file_state (Some text) d = issue_state (record { text = text; tag = Job d.greatest d.cursor }) (record d { cursor = d.cursor + 1 })

settle_print : (d : Data) → d.state ≡ Printing → IsInPrint (settled d).state
settle_print d at = by_all (is_issued d) refl
  where
    by_all : (b : Bool) → is_issued d ≡ b → IsInPrint (settled d).state
    by_all true e = inr (ap (λ s. (settle_at s d).state) at
        ∙ ap (λ (b : Bool). (cond b (with_script point.Done d.greatest (record d { state = Finishing })) d).state) e)
    by_all false e = inl (ap (λ s. (settle_at s d).state) at
        ∙ ap (λ (b : Bool). (cond b (with_script point.Done d.greatest (record d { state = Finishing })) d).state) e ∙ at)

settle_finishing : (d : Data) → d.state ≡ Finishing → (settled d).state ≡ Finishing
settle_finishing d at = ap (λ s. (settle_at s d).state) at ∙ at

settle_closing : (d : Data) → d.state ≡ Closing → (settled d).state ≡ Closing
settle_closing d at = ap (λ s. (settle_at s d).state) at ∙ at

print_pull : (moment : ℕ) (d : Data) → IsInPrint d.state → IsInPrint (pull_step moment d).1.state
print_pull moment d (inl at) =
    settle_print (draw_at d.state moment d).1
    (ap (λ s. (draw_at s moment d).1.state) at
    ∙ talk_state moment d (from_file (slice_get (commands_of d.file) d.cursor) d) (file_state (slice_get (commands_of d.file) d.cursor) d) ∙ at)
print_pull moment d (inr at) =
    inr (settle_finishing (draw_at d.state moment d).1
    (ap (λ s. (draw_at s moment d).1.state) at ∙ talk_state moment d (from_probe d.issued moment d) (kept_probe d.issued moment d) ∙ at))

kept_last : (b : Bool) (moment : ℕ) (d : Data) → (draw_last b moment d).1.state ≡ d.state
kept_last false moment d = kept_scripts d.waiting d (from_probe d.last_line moment d) (kept_probe d.last_line moment d)
kept_last true moment d = kept_manual d.manual d (nothing d) refl

closing_pull : (moment : ℕ) (d : Data) → d.state ≡ Closing → (pull_step moment d).1.state ≡ Closing
closing_pull moment d at =
    settle_closing (draw_at d.state moment d).1
    (ap (λ s. (draw_at s moment d).1.state) at ∙ kept_last d.stopped moment d ∙ at)

print_pulls : (moment : ℕ) (lines : List Line) (old new : Data) → IsInPrint old.state → Pulls moment lines old new → IsInPrint new.state
print_pulls moment [] old new at pulls = subst (λ (d : Data). IsInPrint d.state) (sym pulls) at
print_pulls moment (line ∷ lines) old new at pulls = print_pulls moment lines (pull_step moment old).1 new (print_pull moment old at) pulls.1

-- pulls leave a settled desk
settled_pulls : (moment : ℕ) (lines : List Line) (old new : Data) → settled old ≡ old → Pulls moment lines old new → settled new ≡ new
settled_pulls moment [] old new is pulls = subst (λ (d : Data). settled d ≡ d) (sym pulls) is
settled_pulls moment (line ∷ lines) old new is pulls =
    settled_pulls moment lines (pull_step moment old).1 new (pull_settles moment old (pull_step moment old).1 refl) pulls.1

-- What a quiet turn makes of the state: the print goes on or ends, or the connection goes on closing.

pub data IsQuietFor (ending : Option Ending) (old new : Data) : Type 0 where
  goes : IsInPrint old.state → ending ≡ None → IsInPrint new.state → IsQuietFor ending old new
  ends : IsInPrint old.state → (e : Ending) → ending ≡ Some e → IsQuietFor ending old new
  closes : old.state ≡ Closing → ending ≡ None → new.state ≡ Closing → IsQuietFor ending old new

-- its first note
note_prints : (acked moment : ℕ) (d : Data) → d.state ≡ Printing →
    ((note_step acked fact.Quiet moment d).0 ≡ None) × IsInPrint (note_step acked fact.Quiet moment d).1.state
note_prints acked moment d at =
    let told : Data = with_acked acked moment d in
    let same : settled (end_at d.state told).1 ≡ settled told = ap (λ s. settled (end_at s told).1) at in (
      ap (λ s. (end_at s told).0) at,
      subst (λ (e : Data). IsInPrint e.state) (sym same) (settle_print told at),
    )

note_closes : (acked moment : ℕ) (d : Data) → d.state ≡ Closing →
    ((note_step acked fact.Quiet moment d).0 ≡ None) × ((note_step acked fact.Quiet moment d).1.state ≡ Closing)
note_closes acked moment d at =
    let told : Data = with_acked acked moment d in (
      ap (λ s. (end_at s told).0) at,
      ap (λ s. (settled (end_at s told).1).state) at ∙ settle_closing told at,
    )

-- the ending of a note while the print finishes
data FinishedSo (gave : Noted) : Type 0 where
  over : (e : Ending) → gave.0 ≡ Some e → FinishedSo gave
  on : gave.0 ≡ None → gave.1.state ≡ Finishing → FinishedSo gave

note_finishes : (acked moment : ℕ) (d : Data) → d.state ≡ Finishing → FinishedSo (note_step acked fact.Quiet moment d)
note_finishes acked moment d at = by_over (is_over told) refl
  where
    told : Data
    told = with_acked acked moment d

    by_over : (b : Bool) → is_over told ≡ b → FinishedSo (note_step acked fact.Quiet moment d)
    by_over true e =
        over (record { print = d.greatest; outcome = outcome.Done })
        (ap (λ s. (end_at s told).0) at ∙ ap (λ (b : Bool). (cond b (finish outcome.Done told) (None, told)).0) e)
    by_over false e =
        on (ap (λ s. (end_at s told).0) at ∙ ap (λ (b : Bool). (cond b (finish outcome.Done told) (None, told)).0) e)
        (ap (λ s. (settled (end_at s told).1).state) at
        ∙ ap (λ (b : Bool). (settled (cond b (finish outcome.Done told) (None, told)).1).state) e ∙ settle_finishing told at)

module _ (moment acked : ℕ) (lines : List Line) (old : Data) (ending : Option Ending) (new : Data) (n : IsNoted moment acked fact.Quiet lines old ending new) where
  abbrev first : Data
  first = (note_step acked fact.Quiet moment old).1

  pub quiet_ending : ending ≡ (note_step acked fact.Quiet moment old).0
  quiet_ending = ap (λ (q : Noted). q.0) n.is

  quiet_new : new ≡ n.pulled
  quiet_new = ap (λ (q : Noted). q.1) n.is

  -- it leaves a settled desk
  pub quiet_settles : settled new ≡ new
  quiet_settles =
      subst (λ (d : Data). settled d ≡ d) (sym quiet_new)
      (settled_pulls moment lines first n.pulled (note_settles acked fact.Quiet moment old first refl) n.pulls)

  print_new : IsInPrint first.state → IsInPrint new.state
  print_new at = subst (λ (d : Data). IsInPrint d.state) (sym quiet_new) (print_pulls moment lines first n.pulled at n.pulls)

  pub quiet_prints : IsInPrint old.state → IsQuietFor ending old new
  quiet_prints (inl at) =
      let told = note_prints acked moment old at in
      goes (inl at) (quiet_ending ∙ told.0) (print_new told.1)
  quiet_prints (inr at) = by_note (note_finishes acked moment old at)
    where
      by_note : FinishedSo (note_step acked fact.Quiet moment old) → IsQuietFor ending old new
      by_note (over e is) = ends (inr at) e (quiet_ending ∙ is)
      by_note (on none state) = goes (inr at) (quiet_ending ∙ none) (print_new (inr state))

  pub quiet_closes : old.state ≡ Closing → IsQuietFor ending old new
  quiet_closes at =
      let told = note_closes acked moment old at in
      closes at (quiet_ending ∙ told.0) (ap (λ (d : Data). d.state) quiet_new ∙ pulls_keep Closing closing_pull moment lines first n.pulled told.1 n.pulls)

-- What notes leave of the poll.

pub record IsSamePoll (d e : Data) : Type 0 where
  pub at : e.poll_at ≡ d.poll_at
  pub ms : e.poll_ms ≡ d.poll_ms

pub same_poll : (d : Data) → IsSamePoll d d
same_poll d = record { at = refl; ms = refl }

poll_then : (d e f : Data) → IsSamePoll d e → IsSamePoll e f → IsSamePoll d f
poll_then d e f a b = record { at = b.at ∙ a.at; ms = b.ms ∙ a.ms }

either_poll : (b : Bool) (d x y : Data) → IsSamePoll d x → IsSamePoll d y → IsSamePoll d (cond b x y)
either_poll true d x y hx hy = hx
either_poll false d x y hx hy = hy

either_noted : (b : Bool) (d : Data) (x y : Noted) → IsSamePoll d x.1 → IsSamePoll d y.1 → IsSamePoll d (cond b x y).1
either_noted true d x y hx hy = hx
either_noted false d x y hx hy = hy

settle_poll : (s : State) (d : Data) → IsSamePoll d (settle_at s d)
settle_poll Printing d =
    either_poll (is_issued d) d (with_script point.Done d.greatest (record d { state = Finishing })) d (record { at = refl; ms = refl }) (same_poll d)
settle_poll Offline d = same_poll d
settle_poll Connecting d = same_poll d
settle_poll Operational d = same_poll d
settle_poll Pausing d = same_poll d
settle_poll Paused d = same_poll d
settle_poll Cancelling d = same_poll d
settle_poll Finishing d = same_poll d
settle_poll Closing d = same_poll d
settle_poll Fault d = same_poll d

end_poll : (s : State) (d : Data) → IsSamePoll d (end_at s d).1
end_poll Pausing d = either_noted (is_over d) d (None, record d { state = Paused }) (None, d) (record { at = refl; ms = refl }) (same_poll d)
end_poll Cancelling d = either_noted (is_over d) d (finish outcome.Cancelled d) (None, d) (record { at = refl; ms = refl }) (same_poll d)
end_poll Finishing d = either_noted (is_over d) d (finish outcome.Done d) (None, d) (record { at = refl; ms = refl }) (same_poll d)
end_poll Offline d = same_poll d
end_poll Connecting d = same_poll d
end_poll Operational d = same_poll d
end_poll Printing d = same_poll d
end_poll Paused d = same_poll d
end_poll Closing d = same_poll d
end_poll Fault d = same_poll d

ended_poll : (d : Data) → IsSamePoll d (settled (end_at d.state d).1)
ended_poll d =
    let done : Data = (end_at d.state d).1 in
    poll_then d done (settled done) (end_poll d.state d) (settle_poll done.state done)

quiet_poll : (acked moment : ℕ) (d : Data) → IsSamePoll d (note_step acked fact.Quiet moment d).1
quiet_poll acked moment d = let so = ended_poll (with_acked acked moment d) in record { at = so.at; ms = so.ms }

pub opened_ms : (acked moment : ℕ) (d : Data) → (note_step acked fact.Opened moment d).1.poll_ms ≡ d.poll_ms
opened_ms acked moment d = (ended_poll (after_open (with_acked acked moment d))).ms

pub ready_ms : (acked moment : ℕ) (d : Data) → d.state ≡ Connecting → (note_step acked fact.Ready moment d).1.poll_ms ≡ d.poll_ms
ready_ms acked moment d at =
    let told : Data = record (with_acked acked moment d) { ready = true } in
    (ended_poll (ready_at d.state moment told)).ms ∙ ap (λ s. (ready_at s moment told).poll_ms) at

module _ (p : PrintData) (plain : p.numbered ≡ false) (moment : ℕ) where
  pulls_ms : (lines : List Line) (old new : Data) (issued : List (List ℕ)) → Pulls moment lines old new → IsUnderway p old issued →
      new.poll_ms ≡ old.poll_ms
  pulls_ms [] old new issued pulls h = ap (λ (d : Data). d.poll_ms) pulls
  pulls_ms (line ∷ lines) old new issued pulls h =
      let one = pull-paced p plain moment old issued h line pulls.0 in
      pulls_ms lines (pull_step moment old).1 new (after_pull (pull_step moment old).0 issued) pulls.1 (pull-underway p moment old issued h) ∙ one.same_ms

  repace : (lines : List Line) (old first pulled new : Data) → IsSamePoll old first → new ≡ pulled → ArePaced moment lines first pulled →
      ArePaced moment lines old new
  repace lines old first pulled new same is (inl a) = inl (a.0, ap (λ (d : Data). d.poll_at) is ∙ a.1 ∙ same.at)
  repace lines old first pulled new same is (inr a) =
      inr (a.0, omega (arith, a.1, same.at), ap (λ (d : Data). d.poll_at) is ∙ a.2 ∙ ap (λ (k : ℕ). moment_after moment k) same.ms)

  -- a quiet turn issues at most one poll, which was due
  pub quiet_paced : (acked : ℕ) (lines : List Line) (old : Data) (ending : Option Ending) (new : Data) (issued : List (List ℕ)) →
      moment < moment_after moment old.poll_ms → old.acked ≤ acked → IsNoted moment acked fact.Quiet lines old ending new → IsUnderway p old issued →
      ArePaced moment lines old new × (new.poll_ms ≡ old.poll_ms)
  quiet_paced acked lines old ending new issued later more n h =
      let first : Data = (note_step acked fact.Quiet moment old).1 in
      let same : IsSamePoll old first = quiet_poll acked moment old in
      let is : new ≡ n.pulled = ap (λ (q : Noted). q.1) n.is in
      let on : IsUnderway p first issued = (note-underway p fact.Quiet acked moment old issued more h).0 in
      let still : moment < moment_after moment first.poll_ms = subst (λ (ms : ℕ). moment < moment_after moment ms) (sym same.ms) later in (
        repace lines old first n.pulled new same is (pulls-paced p plain moment lines first n.pulled issued still n.pulls on),
        ap (λ (d : Data). d.poll_ms) is ∙ pulls_ms lines first n.pulled issued n.pulls on ∙ same.ms,
      )
