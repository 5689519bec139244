-- What events tell of one printer.
use Rattle.std.proofs.Common.{◌≡◌, ◌≢◌, ℕ, Bool, true, false, cond, nat_eq, List, [], ◌∷◌, ◌++◌, Option, None, Some, refl, ◌∙◌, ap}
use Rattle.std.proofs.lemmas.Bool.Decides.{nat_tests}
use Rattle.std.proofs.Common.{arith}
use Rattle.job_desk.specs.declared.issued.Note.{Note}
use Rattle.print_queue.specs.declared.ending.Ending.{Ending}
use Rattle.print_queue.specs.declared.entry.QueueEntry.{QueueEntry}
use Rattle.print_queue.specs.declared.row.PrintRow.{PrintRow}
use Rattle.octo_floor_bay.specs.Events.{FloorHistory, notes_of}
use Rattle.octo_floor_bay.specs.declared.event.FloorEvent.TheVariants.{Noted, Ended, Started, Passed}
use Rattle.octo_floor.specs.Ledger.{noted_events, ended_events}
use Rattle.octo_floor.specs.Points.{starts_of, endings_of}

-- an element in front of a list, or not, and more after it
front_more : {X : Type 0} (b : Bool) (x : X) (xs ys zs : List X) → xs ≡ ys ++ zs → cond b (x ∷ xs) xs ≡ cond b (x ∷ ys) ys ++ zs
front_more true x xs ys zs is = ap (λ (list : List _). x ∷ list) is
front_more false x xs ys zs is = is

module _ (printer : ℕ) where
  pub notes_more : (es fs : FloorHistory) → notes_of printer (es ++ fs) ≡ notes_of printer es ++ notes_of printer fs
  notes_more [] fs = refl
  notes_more (Noted at note ∷ es) fs = front_more (nat_eq at printer) note _ _ _ (notes_more es fs)
  notes_more (Ended at ending ∷ es) fs = notes_more es fs
  notes_more (Started at row entry ∷ es) fs = notes_more es fs
  notes_more (Passed entry ∷ es) fs = notes_more es fs

  pub starts_more : (es fs : FloorHistory) → starts_of printer (es ++ fs) ≡ starts_of printer es ++ starts_of printer fs
  starts_more [] fs = refl
  starts_more (Started at row entry ∷ es) fs = front_more (nat_eq at printer) (row, entry) _ _ _ (starts_more es fs)
  starts_more (Noted at note ∷ es) fs = starts_more es fs
  starts_more (Ended at ending ∷ es) fs = starts_more es fs
  starts_more (Passed entry ∷ es) fs = starts_more es fs

  pub endings_of_more : (es fs : FloorHistory) → endings_of printer (es ++ fs) ≡ endings_of printer es ++ endings_of printer fs
  endings_of_more [] fs = refl
  endings_of_more (Ended at ending ∷ es) fs = front_more (nat_eq at printer) ending _ _ _ (endings_of_more es fs)
  endings_of_more (Noted at note ∷ es) fs = endings_of_more es fs
  endings_of_more (Started at row entry ∷ es) fs = endings_of_more es fs
  endings_of_more (Passed entry ∷ es) fs = endings_of_more es fs

-- a number is itself, and no other one
pub is_own : (printer : ℕ) → nat_eq printer printer ≡ true
is_own printer = by (nat_eq printer printer) refl
  where
    by : (b : Bool) → nat_eq printer printer ≡ b → b ≡ true
    by true is = refl
    by false is = (let no : ◌≡◌ {A = ℕ} 0 1 = grind (arith, nat_tests) in absurd (cc no))

pub is_other : (at printer : ℕ) → printer ≢ at → nat_eq at printer ≡ false
is_other at printer not = by (nat_eq at printer) refl
  where
    by : (b : Bool) → nat_eq at printer ≡ b → b ≡ false
    by false is = refl
    by true is = (let same : printer ≡ at = grind (arith, nat_tests) in absurd (not same))

-- events of another printer tell nothing of this one
pub record IsOthers (printer : ℕ) (events : FloorHistory) : Type 0 where
  pub notes : notes_of printer events ≡ []
  pub starts : starts_of printer events ≡ []
  pub ends : endings_of printer events ≡ []

pub others_then : (printer : ℕ) (es fs : FloorHistory) → IsOthers printer es → IsOthers printer fs → IsOthers printer (es ++ fs)
others_then printer es fs a b = record {
  notes = notes_more printer es fs ∙ ap (λ (ns : List Note). ns ++ notes_of printer fs) a.notes ∙ b.notes;
  starts = starts_more printer es fs ∙ ap (λ (ss : List (PrintRow × QueueEntry)). ss ++ starts_of printer fs) a.starts ∙ b.starts;
  ends = endings_of_more printer es fs ∙ ap (λ (ends : List Ending). ends ++ endings_of printer fs) a.ends ∙ b.ends;
}

pub others_none : (printer : ℕ) → IsOthers printer []
others_none printer = record { notes = refl; starts = refl; ends = refl }

pub others_noted : (printer at : ℕ) (note : Option Note) → printer ≢ at → IsOthers printer (noted_events at note)
others_noted printer at None not = others_none printer
others_noted printer at (Some note) not =
    record { notes = ap (λ (b : Bool). cond b (note ∷ []) []) (is_other at printer not); starts = refl; ends = refl }

pub others_ended : (printer at : ℕ) (ending : Option Ending) → printer ≢ at → IsOthers printer (ended_events at ending)
others_ended printer at None not = others_none printer
others_ended printer at (Some ending) not =
    record { notes = refl; starts = refl; ends = ap (λ (b : Bool). cond b (ending ∷ []) []) (is_other at printer not) }

pub others_started : (printer at : ℕ) (row : PrintRow) (entry : QueueEntry) → printer ≢ at → IsOthers printer (Started at row entry ∷ [])
others_started printer at row entry not =
    record { notes = refl; starts = ap (λ (b : Bool). cond b ((row, entry) ∷ []) []) (is_other at printer not); ends = refl }
