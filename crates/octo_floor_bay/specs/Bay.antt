-- A printer of a floor as plain data: its session, and what it did.
use Rattle.std.specs.Prelude.{◌≡◌, ◌⊎◌, ℕ, false, List, [], ◌∷◌, ◌++◌, Option, None, Some}
use Rattle.job_desk.specs.Data.{Data, new_desk}
use Rattle.job_desk.specs.Run.{Run, Fate}
use Rattle.job_desk.specs.declared.issued.Note.{Note}
use Rattle.job_desk.specs.declared.link_fact.LinkFact.TheVariants as fact
use Rattle.job_desk.specs.declared.state.State.{State}
use Rattle.print_queue.specs.declared.ending.Ending.{Ending}
use Rattle.send_window.specs.Data.{IsSound}
use Rattle.octo_session.specs.Data.{SessionData}
use Rattle.octo_house_rules.specs.Desk.{desk_after_all}
use Rattle.octo_house_rules.specs.Outcomes.{outcome_of}
use Rattle.octo_house_rules.specs.PrintLaws.{IsNewDesk}
use Rattle.octo_floor_bay.specs.Desk.{AreEntered, desk_calls_in, run_over}
use Rattle.octo_floor_bay.specs.Deeds.{calls_at, desk_entries}
use Rattle.octo_floor_bay.specs.declared.deed.Deed.{Deed}
use Rattle.octo_floor_bay.specs.declared.deed.Deed.TheVariants as deed

-- a session, and what was done with it, the first deed first
pub record BayData : Type 0 where
  pub session : SessionData
  pub deeds : List Deed

-- the desk with which a session began: no step changes what it was made with
abbrev pub first_desk : SessionData → Data
first_desk s = new_desk s.desk.scripts s.desk.limits s.desk.poll_ms s.desk.numbered

-- the deeds may be done one after another from the first desk on, and lead to the session's desk
pub record IsBay (b : BayData) : Type 0 where
  pub entered : AreEntered (desk_entries b.deeds) (first_desk b.session)
  pub leads : desk_after_all (desk_calls_in (desk_entries b.deeds)) (first_desk b.session) ≡ b.session.desk

-- the run of the desk: which prints began with which commands, and how they ended
abbrev pub run_in : BayData → Run
run_in b = run_over (desk_entries b.deeds) (first_desk b.session)

-- these prints began and ended since an earlier run, each with its commands and what it came to
pub record RunsOn (begun : List (ℕ × List (List ℕ))) (ended : List (ℕ × Fate)) (old new : Run) : Type 0 where
  pub begun_are : new.begun ≡ old.begun ++ begun
  pub ended_are : new.ends ≡ old.ends ++ ended

-- the print came to this outcome; without an ending no print came to any
abbrev pub AreFates : Option Ending → List (ℕ × Fate) → Type 0
AreFates None ended = ended ≡ []
AreFates (Some ending) ended = (fate : Fate) × (outcome_of fate ≡ ending.outcome) × (ended ≡ (ending.print, fate) ∷ [])

-- no print began, and the one of this ending ended
abbrev pub EndsBy : Option Ending → Run → Run → Type 0
EndsBy ending old new = (ended : List (ℕ × Fate)) × AreFates ending ended × RunsOn [] ended old new

-- a session that nothing was done with
pub record IsNewSession (s : SessionData) : Type 0 where
  pub desk : IsNewDesk s.desk
  pub down : s.up ≡ false
  pub sound : IsSound s.sender

-- a bay after calls at its desk, and their deed
abbrev pub after_deed : Deed → BayData → BayData
after_deed one b = record {
  session = record b.session { desk = desk_after_all (calls_at one) b.session.desk };
  deeds = b.deeds ++ one ∷ [];
}

-- a note of a moment that says only that the desk has changed
pub record IsQuietNote (moment acked : ℕ) (note : Note) : Type 0 where
  pub its_moment : note.moment ≡ moment
  pub its_acked : note.acked ≡ acked
  pub its_lines : note.issued.items ≡ []
  pub its_temps : note.temps ≡ None
  pub its_fact : note.fact ≡ fact.Quiet

-- without a note of the session one is added exactly if the desk is in another state
abbrev pub AddsChange : ℕ → ℕ → State → State → List Deed → List Deed → Type 0
AddsChange moment acked was now old new =
    ((now ≡ was) × (new ≡ old))
    ⊎ ((now ≡ was → ⊥) × ((note : Note) × IsQuietNote moment acked note × (new ≡ old ++ deed.Turned note ∷ [])))

-- the session's note is added, or one of a change
abbrev pub AddsTurn : ℕ → ℕ → State → State → Option Note → List Deed → List Deed → Type 0
AddsTurn moment acked was now None old new = AddsChange moment acked was now old new
AddsTurn moment acked was now (Some note) old new = new ≡ old ++ deed.Turned note ∷ []
