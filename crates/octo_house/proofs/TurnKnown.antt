-- What a turn makes of a host.
use Rattle.std.proofs.Common.{◌≡◌, ℕ, List, IfSome, Option, None, Some, refl, sym, ap, ◌∙◌, subst, map}
use Rattle.job_desk.specs.Data.{Data}
use Rattle.job_desk.specs.Endings.{IsActive}
use Rattle.job_desk.specs.Issued.{line_of}
use Rattle.job_desk.specs.declared.issued.Note.{Note}
use Rattle.job_desk.proofs.Going.{Goes}
use Rattle.print_queue.specs.declared.ending.Ending.{Ending}
use Rattle.octo_keeper.specs.Tables.{with_due_end}
use Rattle.octo_session.specs.Data.{doing}
use Rattle.octo_session.specs.DeskTurn.{IsNoted, IsQuietTurn}
use Rattle.octo_session.specs.Turn.{IsNoteOn}
use Rattle.octo_session.specs.declared.found.Doing.{Doing}
use Rattle.marlin_reply.specs.declared.reply.Temps.{Temps}
use Rattle.print_queue.specs.declared.row.PrintRow.{PrintRow}
use Rattle.octo_house_tables.specs.Data.{TablesData}
use Rattle.octo_house_rules.specs.Known.{Known}
use Rattle.octo_house.specs.declared.house.House.{House}
use Rattle.octo_house.specs.State.{known_of}
use Rattle.octo_house.specs.Turned.{Turns, known_temps}
use Rattle.octo_house.proofs.Turning.{turned-noted, goes-noted, goes-quiet}

-- a note with its own moment and count
note-own : (moment acked : ℕ) (old new : Data) (ending : Option Ending) (note : Note) → IsNoteOn moment acked old new ending note
    → IsNoted note.moment note.acked note.fact (map line_of note.issued.items) old ending new
note-own moment acked old new ending note on =
    subst (λ m. IsNoted m note.acked note.fact (map line_of note.issued.items) old ending new) (sym on.its_moment)
    (subst (λ a. IsNoted moment a note.fact (map line_of note.issued.items) old ending new) (sym on.its_acked) on.noted)

module _ (moment acked : ℕ) (ending : Option Ending) (old new : House) (going : IsActive old.desk.session.desk) where
  pub turned-knows : (note : Option Note)
      → known_of new ≡ record (known_of old) {
        desk = new.desk.session.desk;
        temps = known_temps note old.desk.temps;
        prints = with_due_end ending
            old.tables.prints;
      }
      → IfSome note (λ n. IsNoteOn moment acked old.desk.session.desk new.desk.session.desk ending n)
      → (note ≡ None → IsQuietTurn (doing old.desk.session) moment old.desk.session.desk ending new.desk.session.desk) → Turns moment note ending old new
  turned-knows None is noted still = record { desk = still refl; known = is }
  turned-knows (Some note) is noted still =
      is ∙ sym (turned-noted note (known_of old) ending new.desk.session.desk going
      (note-own moment acked old.desk.session.desk new.desk.session.desk ending note noted))

-- a turn makes no print active
pub turned-goes : (moment acked : ℕ) (at : Doing) (ending : Option Ending) (old new : Data) (note : Option Note)
    → IfSome note (λ n. IsNoteOn moment acked old new ending n)
    → (note ≡ None → IsQuietTurn at moment old ending new) → Goes old new
turned-goes moment acked at ending old new None noted still = goes-quiet at moment old ending new (still refl)
turned-goes moment acked at ending old new (Some note) noted still = goes-noted moment acked
    (map line_of note.issued.items) old ending new note.fact noted.noted

-- what is known after the temperatures and the rows were noted
pub known-turned : (old : House) (desk : Data) (temps told : Temps) (tables : TablesData) (prints : List PrintRow) → temps ≡ told
    → tables ≡ record old.tables { prints = prints; unwritten = tables.unwritten }
    → ◌≡◌ {A = Known} (record (known_of old) { desk = desk; temps = temps; users = tables.users; queue = tables.queue; prints = tables.prints })
    (record (known_of old) { desk = desk; temps = told; prints = prints })
known-turned old desk temps told tables prints same rest =
    ap (λ (t : Temps). record (known_of old) { desk = desk; temps = t; users = tables.users; queue = tables.queue; prints = tables.prints }) same
    ∙ ap (λ (u : TablesData). record (known_of old) { desk = desk; temps = told; users = u.users; queue = u.queue; prints = u.prints }) rest
