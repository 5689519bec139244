-- What of a print is acknowledged when it ends.
use Rattle.std.proofs.Common.{◌≡◌, ◌⊎◌, inl, inr, ℕ, ◌≤◌, Bool, true, false, nat_eq, List, [], ◌∷◌, ◌++◌, drop, Option, None, Some, refl, sym, ◌∙◌, ap, subst, arith}
use Rattle.std.specs.Prelude.{IfSome}
use Rattle.job_desk.specs.Data.{ScriptTexts, Data, Line}
use Rattle.job_desk.specs.Endings.{EndsAs, IsEnding}
use Rattle.job_desk.specs.Table.{start_at, restart_at}
use Rattle.job_desk.specs.Pull.{pull_step}
use Rattle.job_desk.specs.Note.{note_step}
use Rattle.job_desk.specs.Run.{Fate, Left, fate_of, cancelled_by, Run, after, after_restart, after_note, print_lines, pulled_of, of_print, DeskCall, Connect, Disconnect, Select, DropFile, Start, Restart, Pause, Resume, Toggle, Cancel, Manually, Pull, Note}
use Rattle.job_desk.specs.declared.state.State.{State}
use Rattle.job_desk.specs.declared.state.State.TheVariants.{Offline, Connecting, Operational, Printing, Pausing, Paused, Cancelling, Finishing, Closing, Fault}
use Rattle.job_desk.specs.declared.link_fact.LinkFact.{LinkFact}
use Rattle.job_desk.specs.declared.link_fact.LinkFact.TheVariants as fact
use Rattle.print_queue.specs.declared.ending.Ending.{Ending}
use Rattle.print_queue.specs.declared.ending.Outcome.{Outcome}
use Rattle.print_queue.specs.declared.ending.Outcome.TheVariants as outcome
use Rattle.job_desk.proofs.Endings.{ending_is}
use Rattle.job_desk.proofs.Foreign.{ForeignTo}
use Rattle.job_desk.proofs.Known.{Going, KnownOf}
use Rattle.job_desk.proofs.Lines.{of_print-own, same_test}
use Rattle.octo_house_rules.specs.Desk.{line_pulled}
use Rattle.octo_house_rules.specs.Legal.{up_after}
use Rattle.octo_house_rules.proofs.Runs.{desk_call}
use Rattle.octo_house_run_proof.proofs.Lists.{none_later}
use Rattle.octo_house_run_proof.proofs.Marks.{Marked, acked_request}
use Rattle.octo_house_run_proof.proofs.Pulled.{drawn_lines}
use Rattle.octo_house_run_proof.proofs.PrintNoted.{acked_note}
use Rattle.octo_house_run_proof.proofs.Plain.{IsPlain, open_by, failed_shut}
use Rattle.octo_house_run_proof.proofs.Others.{Held, LeftSo, Status, left_on, acked_up, shut_call, none_pulled, ends_pulled, ends_foreign}
use Rattle.octo_house_rules.proofs.Fates.{ends_start}

module _ (scripts : ScriptTexts) (p : ℕ) (positive : nat_eq 0 p ≡ false) where
  -- a call while the print is foreign
  status_foreign : (call : DeskCall) (run : Run) (lines : List Line) (is_open : Bool) → IsPlain call run.desk → ForeignTo p run.desk →
      Status scripts p positive (of_print p run.ends) run.desk.acked lines is_open →
      Status scripts p positive (of_print p (after call run).ends) (after call run).desk.acked (lines ++ drawn_lines (line_pulled call run.desk))
      (open_by call is_open)
  status_foreign call run lines is_open plain f (inl none) = inl (ends_foreign scripts p positive call run f ∙ none)
  status_foreign call run lines is_open plain f (inr so) =
      inr (
        so.0,
        ends_foreign scripts p positive call run f ∙ so.1,
        left_on scripts p positive so.0 run.desk.acked (after call run).desk.acked lines (drawn_lines (line_pulled call run.desk)) is_open
            (open_by call is_open)
            (omega (arith, acked_up scripts p positive call run.desk plain, ap (λ (d : Data). d.acked) (desk_call call run)))
            (none_pulled scripts p positive call run.desk f)
            (λ shut. shut_call scripts p positive call run.desk plain is_open shut) so.2,
      )

  -- the print that is going on, at a call
  module _ (run : Run) (lines : List Line) (is_open : Bool)
      (k : Going scripts p positive run.desk (of_print p run.begun) (pulled_of p run.pulled) (of_print p run.ends)) (m : Marked p run.desk lines) where
    -- once the number of its last line is acknowledged all its lines are
    all_acked : (acked : ℕ) → run.desk.print_line ≤ acked → print_lines p (drop acked lines) ≡ []
    all_acked acked below = none_later p run.desk.print_line acked lines below (m.marked k.current.is)

    own_end : nat_eq run.desk.greatest p ≡ true
    own_end = subst (λ (g : ℕ). nat_eq g p ≡ true) (sym k.current.is) (same_test p)

    cancelled_so : (f : LinkFact) (acked : ℕ) → print_lines p (drop acked lines) ≡ [] ⊎ (f ≡ fact.Closed)
        → LeftSo scripts p positive (cancelled_by f) acked lines (up_after f is_open)
    cancelled_so fact.Closed acked so = refl
    cancelled_so fact.Quiet acked (inr is) = absurd (cc is)
    cancelled_so fact.Opened acked (inr is) = absurd (cc is)
    cancelled_so fact.Ready acked (inr is) = absurd (cc is)
    cancelled_so fact.NoPort acked (inr is) = absurd (cc is)
    cancelled_so fact.Failed acked (inr is) = absurd (cc is)
    cancelled_so (fact.Ended end) acked (inr is) = absurd (cc is)
    cancelled_so _ acked (inl so) = so

    acknowledged : (acked : ℕ) (f : LinkFact) → (f ≡ fact.Opened → ⊥) → (f ≡ fact.Opened) ⊎ (run.desk.print_line ≤ acked) → print_lines p (drop acked lines) ≡ []
    acknowledged acked f other (inl is) = absurd (other is)
    acknowledged acked f other (inr below) = all_acked acked below

    ended_so : (acked : ℕ) (f : LinkFact) (o : Outcome) → (f ≡ fact.Opened → ⊥) → EndsAs o acked f run.desk
        → LeftSo scripts p positive (fate_of f o) acked lines (up_after f is_open)
    ended_so acked f outcome.Active other by = absurd by
    ended_so acked f outcome.Done other by = acknowledged acked f other by.1.last_line
    ended_so acked f outcome.Cancelled other (inl by) = cancelled_so f acked (inl (acknowledged acked f other by.1.last_line))
    ended_so acked f outcome.Cancelled other (inr is) = cancelled_so f acked (inr is.0)
    ended_so acked f outcome.Failed other (inl fails) = failed_shut f is_open fails
    ended_so acked f outcome.Failed other (inr is) = ap (λ (one : LinkFact). up_after one is_open) is.0

    noted_so : (acked : ℕ) (f : LinkFact) (ending : Option Ending) (e : Data) → (f ≡ fact.Opened → ⊥) → IfSome ending (λ one. IsEnding acked f run.desk one) →
        Status scripts p positive (of_print p (after_note f (ending, e) run).ends) acked lines (up_after f is_open)
    noted_so acked f None e other ends = inl k.no_fate
    noted_so acked f (Some ending) e other ends =
        let own : nat_eq ending.print p ≡ true = subst (λ (q : ℕ). nat_eq q p ≡ true) (sym ends.print) own_end in
        inr (
          fate_of f ending.outcome,
          of_print-own p ending.print (fate_of f ending.outcome) run.ends own ∙ ap (λ (l : List Fate). l ++ fate_of f ending.outcome ∷ []) k.no_fate,
          ended_so acked f ending.outcome other ends.by,
        )

    -- the same with nothing pulled
    status_same : (fates : List Fate) (acked later : ℕ) (now : Bool) → later ≡ acked → Status scripts p positive fates acked lines now
        → Status scripts p positive fates later (lines ++ []) now
    status_same fates acked later now same (inl none) = inl none
    status_same fates acked later now same (inr so) =
        inr (so.0, so.1, left_on scripts p positive so.0 acked later lines [] now now (omega (arith, same)) refl (λ shut. shut) so.2)

    left_so : (s : State) (q : ℕ) → run.desk.state ≡ s
        → Status scripts p positive (of_print p (after_restart q (restart_at s q run.desk) run).ends) run.desk.acked lines is_open
    left_so Paused q is =
        inr (
          Left,
          of_print-own p run.desk.greatest Left run.ends own_end ∙ ap (λ (l : List Fate). l ++ Left ∷ []) k.no_fate,
          all_acked run.desk.acked (m.paused is).1,
        )
    left_so Offline q is = inl k.no_fate
    left_so Connecting q is = inl k.no_fate
    left_so Operational q is = inl k.no_fate
    left_so Printing q is = inl k.no_fate
    left_so Pausing q is = inl k.no_fate
    left_so Cancelling q is = inl k.no_fate
    left_so Finishing q is = inl k.no_fate
    left_so Closing q is = inl k.no_fate
    left_so Fault q is = inl k.no_fate

    status_going : (call : DeskCall) → IsPlain call run.desk →
        Status scripts p positive (of_print p (after call run).ends) (after call run).desk.acked (lines ++ drawn_lines (line_pulled call run.desk))
        (open_by call is_open)
    status_going (Restart q) plain =
        status_same (of_print p (after (Restart q) run).ends) run.desk.acked (after (Restart q) run).desk.acked is_open
        (ap (λ (d : Data). d.acked) (desk_call (Restart q) run) ∙ acked_request (Restart q) run.desk tt) (left_so run.desk.state q refl)
    status_going (Note acked f moment) plain =
        status_same (of_print p (after (Note acked f moment) run).ends) acked (after (Note acked f moment) run).desk.acked (up_after f is_open)
        (ap (λ (d : Data). d.acked) (desk_call (Note acked f moment) run) ∙ acked_note p positive acked f moment run.desk plain.0)
        (noted_so acked f (note_step acked f moment run.desk).0 (note_step acked f moment run.desk).1 plain.0
        (ending_is acked f moment run.desk (λ busy. k.current.active_is)))
    status_going (Pull moment) plain =
        inl (ap (of_print p) (ends_pulled scripts p positive run.desk.state (pull_step moment run.desk).0 (pull_step moment run.desk).1 run) ∙ k.no_fate)
    status_going (Start q) plain =
        inl (ap (of_print p) (ends_start q (start_at run.desk.state q run.desk).0 (start_at run.desk.state q run.desk).1 run) ∙ k.no_fate)
    status_going (Connect port) plain = inl k.no_fate
    status_going Disconnect plain = inl k.no_fate
    status_going (Select file) plain = inl k.no_fate
    status_going (DropFile name) plain = inl k.no_fate
    status_going Pause plain = inl k.no_fate
    status_going Resume plain = inl k.no_fate
    status_going Toggle plain = inl k.no_fate
    status_going Cancel plain = inl k.no_fate
    status_going (Manually texts) plain = inl k.no_fate

  -- a call
  pub status_call : (call : DeskCall) (run : Run) (lines : List Line) (is_open : Bool) → IsPlain call run.desk → Held scripts p positive run lines →
      Status scripts p positive (of_print p run.ends) run.desk.acked lines is_open →
      Status scripts p positive (of_print p (after call run).ends) (after call run).desk.acked (lines ++ drawn_lines (line_pulled call run.desk))
      (open_by call is_open)
  status_call call run lines is_open plain h status = by h.known
    where
      by : KnownOf scripts p positive run →
          Status scripts p positive (of_print p (after call run).ends) (after call run).desk.acked (lines ++ drawn_lines (line_pulled call run.desk))
          (open_by call is_open)
      by (inl k) = status_foreign call run lines is_open plain k.foreign status
      by (inr (inl k)) = status_going run lines is_open k h.marks call plain
      by (inr (inr k)) = status_foreign call run lines is_open plain k.foreign status
