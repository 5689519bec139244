-- What a turn and what follows of it make of the course of a print.
use Rattle.std.proofs.Common.{◌≡◌, ℕ, Bool, false, List, [], refl, sym, ◌∙◌, ap, subst}
use Rattle.std.specs.Prelude.{Option, None, Some}
use Rattle.temp_rules.specs.Hot.{first_hot_of}
use Rattle.job_desk.specs.Data.{Data, Line}
use Rattle.job_desk.specs.Note.{Noted, hung_up, note_step, with_acked}
use Rattle.job_desk.specs.Pull.{settled}
use Rattle.job_desk.specs.Table.{Answer, start_at}
use Rattle.job_desk.specs.declared.link_fact.LinkFact.TheVariants as fact
use Rattle.job_desk.specs.declared.state.State.{State}
use Rattle.job_desk.specs.declared.state.State.TheVariants.{Offline, Connecting, Operational, Printing, Pausing, Paused, Cancelling, Finishing, Closing, Fault}
use Rattle.print_queue.specs.declared.ending.Ending.{Ending}
use Rattle.octo_session.specs.DeskTurn.{Pulls, IsNoted}
use Rattle.octo_session_print.specs.Plan.{PrintData}
use Rattle.octo_session_print.specs.Underway.{IsUnderway}
use Rattle.octo_session_print.proofs.Calls.{start-underway, disconnect-underway}
use Rattle.octo_session_print.specs.Ends.{left_after}

-- after the link was hung up the desk is offline, if nobody stopped the printer
pub closed_off : (moment acked : ℕ) (lines : List Line) (d : Data) (ending : Option Ending) (e : Data) → lines ≡ [] → d.stopped ≡ false →
    IsNoted moment acked fact.Closed lines d ending e → e.state ≡ Offline
closed_off moment acked lines d ending e none goes n =
    let L : List Line → Type 0 = λ l. Pulls moment l (note_step acked fact.Closed moment d).1 n.pulled in
    let same : n.pulled ≡ (note_step acked fact.Closed moment d).1 = subst L none n.pulls in
    let off : (note_step acked fact.Closed moment d).1.state ≡ Offline =
    ap (λ (b : Bool). (settled (hung_up b (with_acked acked moment d)).1).state) goes in
    ap (λ (q : Noted). q.1.state) n.is ∙ ap (λ (x : Data). x.state) same ∙ off

-- the start of the print, if its desk lets it
pub start_course : (p : PrintData) (d : Data) (issued : List (List ℕ)) → first_hot_of p.limits p.file.job.commands ≡ None → d.greatest ≡ 0 →
    IsUnderway p d issued → IsUnderway p (start_at d.state 1 d).1 issued
start_course p d issued cool new h = by_state d.state refl
  where
    stays : (s : State) → d.state ≡ s → (start_at s 1 d).1 ≡ d → IsUnderway p (start_at d.state 1 d).1 issued
    stays s at same =
        let P : Data → Type 0 = λ x. IsUnderway p x issued in
        subst P (sym (ap (λ (x : State). (start_at x 1 d).1) at ∙ same)) h

    by_state : (s : State) → d.state ≡ s → IsUnderway p (start_at d.state 1 d).1 issued
    by_state Operational at =
        let P : Data → Type 0 = λ x. IsUnderway p x issued in
        let so = start-underway p d issued at new cool h in
        subst P (sym (ap (λ (a : Answer). a.1) so.0)) so.1
    by_state Offline at = stays Offline at refl
    by_state Connecting at = stays Connecting at refl
    by_state Printing at = stays Printing at refl
    by_state Pausing at = stays Pausing at refl
    by_state Paused at = stays Paused at refl
    by_state Cancelling at = stays Cancelling at refl
    by_state Finishing at = stays Finishing at refl
    by_state Closing at = stays Closing at refl
    by_state Fault at = stays Fault at refl

-- the end of the connection, if the print has ended
pub left_course : (p : PrintData) (ending : Option Ending) (d : Data) (issued : List (List ℕ)) →
    ((x : Ending) → ending ≡ Some x → (d.state ≡ Operational) × (d.greatest ≡ 1)) → IsUnderway p d issued → IsUnderway p (left_after ending d) issued
left_course p None d issued free h = h
left_course p (Some x) d issued free h = disconnect-underway p d issued (free x refl).0 (free x refl).1 h
