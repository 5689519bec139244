-- While a desk connects, nothing ends.
use Rattle.std.proofs.Common.{◌≡◌, ℕ, ap, ◌∙◌}
use Rattle.job_desk.specs.Data.{Data}
use Rattle.job_desk.specs.Note.{end_at, after_open, note_step, with_acked}
use Rattle.job_desk.specs.Pull.{settle_at, settled}
use Rattle.job_desk.specs.declared.link_fact.LinkFact.TheVariants as fact
use Rattle.job_desk.specs.declared.state.State.TheVariants.{Connecting}

pub none_ends : (d : Data) → d.state ≡ Connecting → (settled (end_at d.state d).1).state ≡ Connecting
none_ends d at = ap (λ s. (settled (end_at s d).1).state) at ∙ ap (λ s. (settle_at s d).state) at ∙ at

-- nor if its link is made
pub note_opened : (acked moment : ℕ) (d : Data) → d.state ≡ Connecting → (note_step acked fact.Opened moment d).1.state ≡ Connecting
note_opened acked moment d at = none_ends (after_open (with_acked acked moment d)) at
