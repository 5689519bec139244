-- A print over a whole turn of its session.
use Rattle.std.specs.Prelude.{◌≡◌, ℕ, List, Option, Some}
use Rattle.job_desk.specs.Data.{Data, Line}
use Rattle.job_desk.specs.declared.state.State.TheVariants.{Connecting, Operational}
use Rattle.job_desk.specs.declared.link_fact.LinkFact.{LinkFact}
use Rattle.job_desk.specs.declared.link_fact.LinkFact.TheVariants as fact
use Rattle.print_queue.specs.declared.ending.Ending.{Ending}
use Rattle.octo_session_line_proof.specs.Issuing.{issued_in}
use Rattle.octo_session_print.specs.Plan.{PrintData}
use Rattle.octo_session_print.specs.Underway.{IsUnderway, EndsAs}
use Rattle.octo_session.specs.Turn.{texts_in}

-- a turn found this, issued these lines after these texts, and ended the print so, if it did
pub record IsTurnOf (p : PrintData) (found : LinkFact) (lines : List Line) (issued : List (List ℕ))
    (old : Data) (ending : Option Ending) (new : Data) : Type 0 where
  pub underway : IsUnderway p new (issued_in found (texts_in lines) issued)
  pub ends : EndsAs p ending new.state (issued_in found (texts_in lines) issued)
  pub same_print : new.greatest ≡ old.greatest
  -- it connects until the printer is ready
  pub connects : old.state ≡ Connecting → found ≡ fact.Quiet → new.state ≡ Connecting
  pub opens : found ≡ fact.Opened → new.state ≡ Connecting
  pub readies : old.state ≡ Connecting → found ≡ fact.Ready → new.state ≡ Operational
  -- a print that ends while the link is up leaves a desk for the next one
  pub leaves : (end : Ending) → found ≡ fact.Quiet → ending ≡ Some end → (new.state ≡ Operational) × (new.greatest ≡ 1)
