-- What a free printer does with its next entry, from what the parts of it do.
use Rattle.std.proofs.Common.{◌≡◌, ◌⊎◌, inl, inr, ℕ, ◌+◌, ◌≤◌, ◌<◌, Bool, true, List, [], ◌++◌, Option, None, Some, refl, subst, arith}
use Rattle.std.specs.Prelude.{IfSome}
use Rattle.gcode_lines.specs.Job.{JobData}
use Rattle.job_desk.specs.Data.{Data}
use Rattle.job_desk.specs.declared.issued.Note.{Note}
use Rattle.job_desk.specs.declared.link_fact.LinkFact.{LinkFact}
use Rattle.octo_keeper.specs.declared.shelf.ShelfFile.{ShelfFile}
use Rattle.octo_keeper.specs.declared.tables.Tables.{Tables}
use Rattle.octo_session.specs.DeskTurn.{IsTurnEnding}
use Rattle.print_queue.specs.declared.ending.Ending.{Ending}
use Rattle.print_queue.specs.declared.entry.QueueEntry.{QueueEntry}
use Rattle.octo_floor_bay.specs.Bay.{BayData}
use Rattle.octo_floor_bay.specs.Events.{FloorHistory, started_rows, endings}
use Rattle.octo_floor.specs.Counted.{one_if}
use Rattle.octo_floor.specs.Ledger.{LedgerData, noted_events}
use Rattle.octo_floor.specs.Step.{IsFaulty, IsPassed, IsStarted, IsReadAs, Takes, faulty, passed, started}
use Rattle.octo_floor.proofs.Counted.{same_rows, same_endings}

module _ (printer : ℕ) (entry : QueueEntry) (files : Option (List ShelfFile)) (tables tables' : Option Tables) (old new : LedgerData) (bay bay' : BayData)
    (begun : FloorHistory) where
  pub takes_job : (job : JobData) → IsReadAs bay entry files (Some job) →
      IsStarted printer entry job tables tables' old new bay bay' begun ⊎ IsFaulty tables tables' old new bay bay' begun →
      Takes printer entry files tables tables' old new bay bay' begun
  takes_job job read (inl is) = started job read is
  takes_job job read (inr is) = faulty is

  pub takes_none : IsReadAs bay entry files None → IsPassed entry tables tables' old new bay bay' begun ⊎ IsFaulty tables tables' old new bay bay' begun →
      Takes printer entry files tables tables' old new bay bay' begun
  takes_none read (inl is) = passed read is
  takes_none read (inr is) = faulty is

-- a note starts and ends no print
pub noted_rows : (history : FloorHistory) (printer : ℕ) (note : Option Note) → started_rows (history ++ noted_events printer note) ≡ started_rows history
noted_rows history printer None = same_rows history [] refl
noted_rows history printer (Some note) = same_rows history (noted_events printer (Some note)) refl

pub noted_endings : (history : FloorHistory) (printer : ℕ) (note : Option Note) → endings (history ++ noted_events printer note) ≡ endings history
noted_endings history printer None = same_endings history [] refl
noted_endings history printer (Some note) = same_endings history (noted_events printer (Some note)) refl

-- a print that ends in a turn was one that was active, so fewer had ended than were started
pub ending_begun : (found : LinkFact) (old new : Data) (ended begun : ℕ) (ending : Option Ending) → IfSome ending (λ one. IsTurnEnding found old new one) →
    ended + one_if old.active ≤ begun → IfSome ending (λ one. ended < begun)
ending_begun found old new ended begun None ends few = tt
ending_begun found old new ended begun (Some ending) ends few =
    let at : ended + one_if true ≤ begun = subst (λ (b : Bool). ended + one_if b ≤ begun) ends.active few in
    omega (arith, at)
