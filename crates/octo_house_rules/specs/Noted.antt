-- What a note of the link makes of what is known.
use Rattle.std.specs.Prelude.{ℕ, Bool, true, false, List, [], ◌∷◌, ◌++◌, map, Option, None, Some}
use Rattle.std.specs.Option.{option_or}
use Rattle.marlin_reply.specs.declared.reply.Temps.{Temps}
use Rattle.job_desk.specs.declared.link_fact.LinkFact.{LinkFact}
use Rattle.job_desk.specs.declared.link_fact.LinkFact.TheVariants as fact
use Rattle.job_desk.specs.declared.issued.Note.{Note}
use Rattle.job_desk.specs.Data.{Line}
use Rattle.job_desk.specs.Issued.{line_of}
use Rattle.job_desk.specs.Note.{first_fact}
use Rattle.job_desk.specs.Run.{DeskCall, Pull}
use Rattle.job_desk.specs.Run as run
use Rattle.octo_keeper.specs.Tables.{with_due_end}
use Rattle.octo_house_rules.specs.Desk.{desk_after, ended_by}
use Rattle.octo_house_rules.specs.Known.{Known}

-- the lines that a note issued
abbrev pub lines_in : Note → List Line
lines_in note = map line_of note.issued.items

-- a failure after the lines
abbrev pub last_call : LinkFact → ℕ → ℕ → List DeskCall
last_call fact.Failed acked moment = run.Note acked fact.Failed moment ∷ []
last_call _ acked moment = []

-- a note at the desk: what was acknowledged and the fact, a pull for each issued line, and a failure last
abbrev pub calls_of : Note → List DeskCall
calls_of note =
    run.Note note.acked (first_fact note.fact) note.moment ∷ (map (λ issued. Pull note.moment) note.issued.items ++ last_call note.fact note.acked note.moment)

-- what is known after one of these calls: if a print has ended, its record says so
abbrev pub known_after_call : DeskCall → Known → Known
known_after_call call k = record k { desk = desk_after call k.desk; prints = with_due_end (ended_by call k.desk) k.prints }

-- what is known after these calls, in order
abbrev pub known_after_calls : List DeskCall → Known → Known
known_after_calls [] k = k
known_after_calls (call ∷ calls) k = known_after_calls calls (known_after_call call k)

-- whether the temperatures are forgotten: the session began or is over
abbrev pub forgets : LinkFact → Bool
forgets fact.Quiet = false
forgets fact.Opened = true
forgets fact.Ready = false
forgets fact.Closed = true
forgets fact.NoPort = true
forgets fact.Failed = true
forgets (fact.Ended end) = true

-- no heater has a temperature
abbrev pub no_temps : Temps
no_temps = record { tool = None; bed = None }

-- a heater that is reported takes the place of its kept value
abbrev pub with_temps : Option Temps → Temps → Temps
with_temps None kept = kept
with_temps (Some told) kept = record { tool = option_or told.tool kept.tool; bed = option_or told.bed kept.bed }

-- the kept temperatures, unless they are forgotten
abbrev pub kept_unless : Bool → Temps → Temps
kept_unless true kept = no_temps
kept_unless false kept = kept

-- what is known after a note
abbrev pub known_after_note : Note → Known → Known
known_after_note note k = record (known_after_calls (calls_of note) k) { temps = kept_unless (forgets note.fact) (with_temps note.temps k.temps) }
