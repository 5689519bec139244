-- What a turn of a host adds to its history.
use Rattle.std.specs.Prelude.{◌≡◌, ◌⊎◌, ℕ, [], ◌∷◌, Option, Some, None}
use Rattle.octo_outside.specs.Recorded.{Adds}
use Rattle.job_desk.specs.declared.issued.Note.{Note}
use Rattle.job_desk.specs.declared.link_fact.LinkFact.TheVariants as fact
use Rattle.job_desk.specs.declared.state.State.{State}
use Rattle.octo_asks.specs.History.{History}
use Rattle.octo_asks.specs.declared.entry.Entry.TheVariants as entry

-- a note that says only that the desk has changed
pub record IsQuiet (moment acked : ℕ) (note : Note) : Type 0 where
  pub its_moment : note.moment ≡ moment
  pub its_acked : note.acked ≡ acked
  pub its_lines : note.issued.items ≡ []
  pub its_temps : note.temps ≡ None
  pub its_fact : note.fact ≡ fact.Quiet

-- without a note of the session, one is added exactly if the desk is in another state
abbrev pub NotesChange : ℕ → ℕ → State → State → Option History → Option History → Type 0
NotesChange moment acked was now past past' =
    ((now ≡ was) × (past' ≡ past))
    ⊎ ((now ≡ was → ⊥) × ((note : Note) × IsQuiet moment acked note × Adds past past' (entry.Note note ∷ [])))

-- the session's note is added, or one of a change
abbrev pub Notes : ℕ → ℕ → State → State → Option Note → Option History → Option History → Type 0
Notes moment acked was now None past past' = NotesChange moment acked was now past past'
Notes moment acked was now (Some note) past past' = Adds past past' (entry.Note note ∷ [])
