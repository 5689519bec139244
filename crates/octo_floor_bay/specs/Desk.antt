-- What a printer's desk did: the entries of a history, each with the calls at the desk that it records.
use Rattle.std.specs.Prelude.{◌≡◌, List, [], ◌∷◌, ◌++◌}
use Rattle.job_desk.specs.Data.{Data}
use Rattle.job_desk.specs.Run.{DeskCall, Pull, Note, Run, MayCall, new_run, run_of}
use Rattle.job_desk.specs.declared.issued.Note as declared_note
use Rattle.job_desk.specs.declared.link_fact.LinkFact.TheVariants as fact
use Rattle.job_desk.specs.declared.state.State.TheVariants.{Connecting}
use Rattle.octo_asks.specs.History.{History}
use Rattle.octo_asks.specs.declared.entry.Entry.{Entry}
use Rattle.octo_asks.specs.declared.entry.Entry.TheVariants as entry
use Rattle.octo_house_rules.specs.Desk.{desk_after, desk_after_all, lines_pulled}
use Rattle.octo_house_rules.specs.Legal.{IsAckedWell}
use Rattle.octo_house_rules.specs.Noted.{calls_of, lines_in}

-- an entry, and the calls at the desk that it records
pub record DeskEntry : Type 0 where
  pub entry : Entry
  pub calls : List DeskCall

-- a call that is asked for, and isn't made by a turn
abbrev pub IsAsked : DeskCall → Type 0
IsAsked (Pull moment) = ⊥
IsAsked (Note acked found moment) = ⊥
IsAsked _ = Unit {0}

-- calls that are asked for and may be made, one after another
abbrev pub AreAsked : List DeskCall → Data → Type 0
AreAsked [] d = Unit {0}
AreAsked (call ∷ calls) d = IsAsked call × MayCall call d × AreAsked calls (desk_after call d)

-- a turn of the link: what it acknowledged and found may come at the desk, and it issued what the desk had next
pub record IsTurnAt (note : declared_note.Note) (calls : List DeskCall) (d : Data) : Type 0 where
  pub calls_are : calls ≡ calls_of note
  pub acked : IsAckedWell note.fact note.acked d
  pub dialled : note.fact ≡ fact.Opened → d.state ≡ Connecting
  pub issued : lines_pulled (calls_of note) d ≡ lines_in note

-- an entry may be made at a desk
abbrev pub MayEnter : Entry → List DeskCall → Data → Type 0
MayEnter (entry.Call worker ask moment answer) calls d = AreAsked calls d
MayEnter (entry.Note note) calls d = IsTurnAt note calls d
MayEnter entry.Close calls d = calls ≡ []

-- entries may be made, one after another
abbrev pub AreEntered : List DeskEntry → Data → Type 0
AreEntered [] d = Unit {0}
AreEntered (one ∷ all) d = MayEnter one.entry one.calls d × AreEntered all (desk_after_all one.calls d)

-- the entries without their calls
abbrev pub entries_in : List DeskEntry → History
entries_in [] = []
entries_in (one ∷ all) = one.entry ∷ entries_in all

-- the calls alone
abbrev pub desk_calls_in : List DeskEntry → List DeskCall
desk_calls_in [] = []
desk_calls_in (one ∷ all) = one.calls ++ desk_calls_in all

-- the run of a desk with which it began
abbrev pub run_over : List DeskEntry → Data → Run
run_over entries d = run_of (desk_calls_in entries) (new_run d)
