-- Histories over the contents of a shelf, one before each entry: nobody need have recorded them, and others may have changed them.
use Rattle.std.specs.Prelude.{◌≡◌, List, [], ◌∷◌, ◌++◌, Option, Some}
use Rattle.octo_keeper.specs.declared.shelf.ShelfFile.{ShelfFile}
use Rattle.octo_asks.specs.History.{History}
use Rattle.octo_asks.specs.declared.entry.Entry.{Entry}
use Rattle.job_desk.specs.Run.{DeskCall, Run, new_run, run_of}
use Rattle.octo_house_rules.specs.Legal.{Standing, IsLegal, after_entry}
use Rattle.octo_house_rules.specs.Scripts.{calls_at}

-- the same standing, while the shelf holds these files
abbrev pub with_files : List ShelfFile → Standing → Standing
with_files files s = record s { files = files }

-- this holds of each entry and of where it came, if the shelf held these files before each
abbrev pub EachOver : (Entry → Standing → Type 0) → List (List ShelfFile) → History → Standing → Type 0
EachOver Holds [] [] s = Unit {0}
EachOver Holds [] (e ∷ es) s = ⊥
EachOver Holds (files ∷ contents) [] s = ⊥
EachOver Holds (files ∷ contents) (e ∷ es) s = Holds e (with_files files s) × EachOver Holds contents es (after_entry e (with_files files s))

-- where entries lead, if the shelf held these files before each
abbrev pub after_over : List (List ShelfFile) → History → Standing → Standing
after_over (files ∷ contents) (e ∷ es) s = after_over contents es (after_entry e (with_files files s))
after_over _ _ s = s

-- the calls at the desk that a history records, if the shelf held these files before each entry
abbrev pub calls_over : List (List ShelfFile) → History → Standing → List DeskCall
calls_over (files ∷ contents) (e ∷ es) s = calls_at e (with_files files s) ++ calls_over contents es (after_entry e (with_files files s))
calls_over _ _ s = []

-- the run of the desk that it records
abbrev pub run_over : List (List ShelfFile) → History → Standing → Run
run_over contents history s = run_of (calls_over contents history s) (new_run s.known.desk)

-- each entry may come, if the shelf held these files before each
abbrev pub LegalOver : List (List ShelfFile) → History → Standing → Type 0
LegalOver contents history s = EachOver IsLegal contents history s

-- this holds over some files of the shelf
abbrev pub OnSome : (List ShelfFile → Standing → Type 0) → Standing → Type 0
OnSome At s = (files : List ShelfFile) × At files s

-- there are contents of the shelf over which these entries may come; they lead to a standing as this
pub record LeadsOver (history : History) (s : Standing) (After : Standing → Type 0) : Type 0 where
  pub contents : List (List ShelfFile)
  pub legal : LegalOver contents history s
  pub leads : After (after_over contents history s)

-- a history that is recorded now grew by entries that so lead from each standing as before to one as after
pub record WalkedOver (past : Option History) (now : History) (Before After : Standing → Type 0) : Type 0 where
  pub old : History
  pub added : History
  pub past_is : past ≡ Some old
  pub grows : now ≡ old ++ added
  pub leads : (s : Standing) → Before s → LeadsOver added s After

-- the same of a history, if it is recorded now
abbrev pub WalksOver : (past past' : Option History) → (Before After : Standing → Type 0) → Type 0
WalksOver past past' Before After = (now : History) → past' ≡ Some now → WalkedOver past now Before After
