-- What is left to settle after a pull or a note.
use Rattle.std.specs.Prelude.{◌≡◌, ℕ, None}
use Rattle.job_desk.specs.Data.{Data}
use Rattle.job_desk.specs.Pull.{settled, pull_step}
use Rattle.job_desk.specs.Note.{note_step}
use Rattle.job_desk.specs.declared.link_fact.LinkFact.{LinkFact}

-- a pull and a note leave nothing to settle, and if nothing is left to settle a pull that returns no line changes nothing
pub record IsSettledBySteps : Type 0 where
  pub by_pull : (moment : ℕ) (d : Data) → settled (pull_step moment d).1 ≡ (pull_step moment d).1
  pub by_note : (acked : ℕ) (fact : LinkFact) (moment : ℕ) (d : Data) → settled (note_step acked fact moment d).1 ≡ (note_step acked fact moment d).1
  pub idle_pull : (moment : ℕ) (d : Data) → settled d ≡ d → (pull_step moment d).0 ≡ None → (pull_step moment d).1 ≡ d
