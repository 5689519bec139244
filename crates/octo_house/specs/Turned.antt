-- What a turn makes of a host.
use Rattle.std.specs.Prelude.{◌≡◌, ℕ, Option, None, Some}
use Rattle.job_desk.specs.declared.issued.Note.{Note}
use Rattle.octo_session.specs.Data.{doing}
use Rattle.octo_session.specs.DeskTurn.{IsQuietTurn}
use Rattle.octo_keeper.specs.Tables.{with_due_end}
use Rattle.print_queue.specs.declared.ending.Ending.{Ending}
use Rattle.marlin_reply.specs.declared.reply.Temps.{Temps}
use Rattle.octo_house_rules.specs.Noted.{forgets, kept_unless, with_temps, known_after_note}
use Rattle.octo_house.specs.declared.house.House.{House}
use Rattle.octo_house.specs.State.{known_of}

-- the temperatures that are known after a turn with this note, or without one
abbrev pub known_temps : Option Note → Temps → Temps
known_temps None kept = kept
known_temps (Some note) kept = kept_unless (forgets note.fact) (with_temps note.temps kept)

-- a turn without a note: the desk took a quiet note or nothing, and a print that ended has that outcome
pub record IsQuiet (moment : ℕ) (ending : Option Ending) (old new : House) : Type 0 where
  pub desk : IsQuietTurn (doing old.desk.session) moment old.desk.session.desk ending new.desk.session.desk
  pub known : known_of new ≡ record (known_of old) { desk = new.desk.session.desk; prints = with_due_end ending old.tables.prints }

-- what is known after a turn with this note, or without one
abbrev pub Turns : ℕ → Option Note → Option Ending → House → House → Type 0
Turns moment None ending old new = IsQuiet moment ending old new
Turns moment (Some note) ending old new = known_of new ≡ known_after_note note (known_of old)
