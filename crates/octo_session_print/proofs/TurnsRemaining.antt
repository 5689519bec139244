-- How a whole turn lowers what remains.
use Rattle.std.proofs.Common.{◌≡◌, ℕ, ◌+◌, ◌≤◌, List, [], ◌∷◌, Option, Some, ap, arith}
use Rattle.job_desk.specs.Data.{Data, Line}
use Rattle.job_desk.specs.Pull.{pull_step}
use Rattle.job_desk.specs.Note.{Noted, note_step}
use Rattle.job_desk.specs.declared.link_fact.LinkFact.TheVariants as fact
use Rattle.print_queue.specs.declared.ending.Ending.{Ending}
use Rattle.octo_session.specs.DeskTurn.{Pulls, IsNoted}
use Rattle.octo_session_print.specs.Plan.{PrintData}
use Rattle.octo_session_print.specs.Underway.{standing, IsUnderway}
use Rattle.octo_session_print.specs.Progress.{after_pull}
use Rattle.octo_session_print.specs.Remaining.{remaining, planned_in, planned_count}
use Rattle.octo_session_print.proofs.Pulling.{pull-underway}
use Rattle.octo_session_print.proofs.Noting.{note-underway}
use Rattle.octo_session_print.proofs.Remaining.{pull-remaining, quiet-remaining}

module _ (p : PrintData) where
  -- successive pulls lower what remains by the lines of the plan among them
  pub pulls-remaining : (moment : ℕ) (lines : List Line) (old new : Data) (issued : List (List ℕ)) → Pulls moment lines old new
      → IsUnderway p old issued → remaining p (standing new) + planned_count lines ≡ remaining p (standing old)
  pulls-remaining moment [] old new issued pulls h =
      let same : remaining p (standing new) ≡ remaining p (standing old) = ap (λ (d : Data). remaining p (standing d)) pulls in
      omega (arith, same)
  pulls-remaining moment (line ∷ lines) old new issued pulls h =
      let next : Data = (pull_step moment old).1 in
      let one : remaining p (standing next) + planned_in (pull_step moment old).0 ≡ remaining p (standing old) = pull-remaining p moment old issued h in
      let is : planned_in (pull_step moment old).0 ≡ planned_in (Some line) = ap planned_in pulls.0 in
      let rest : remaining p (standing new) + planned_count lines ≡ remaining p (standing next) =
      pulls-remaining moment lines next new (after_pull (pull_step moment old).0 issued) pulls.1 (pull-underway p moment old issued h) in
      omega (arith, one, is, rest)

  -- and so does a quiet turn
  pub turn-remaining : (moment acked : ℕ) (lines : List Line) (old : Data) (ending : Option Ending) (new : Data) (issued : List (List ℕ))
      → old.acked ≤ acked → IsNoted moment acked fact.Quiet lines old ending new → IsUnderway p old issued
      → remaining p (standing new) + planned_count lines ≡ remaining p (standing old)
  turn-remaining moment acked lines old ending new issued more n h =
      let first : Data = (note_step acked fact.Quiet moment old).1 in
      let noted : remaining p (standing first) ≡ remaining p (standing old) = quiet-remaining p acked moment old issued more h in
      let pulled : remaining p (standing n.pulled) + planned_count lines ≡ remaining p (standing first) =
      pulls-remaining moment lines first n.pulled issued n.pulls (note-underway p fact.Quiet acked moment old issued more h).0 in
      let last : remaining p (standing new) ≡ remaining p (standing n.pulled) = ap (λ (x : Noted). remaining p (standing x.1)) n.is in
      omega (arith, noted, pulled, last)
