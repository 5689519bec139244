-- The file of a print: what the shelf held when it was selected.
use Rattle.std.specs.Prelude.{◌≡◌, ℕ, List, [], ◌∷◌, ◌++◌, Contains, Some, Ok}
use Rattle.gcode_lines.specs.Commands.{job_of}
use Rattle.gcode_lines.specs.Job.{texts_of}
use Rattle.job_desk.specs.Data.{File}
use Rattle.job_desk.specs.Run.{Select, of_print}
use Rattle.octo_keeper.specs.Files.{bytes_of}
use Rattle.octo_keeper.specs.declared.shelf.ShelfFile.{ShelfFile}
use Rattle.octo_asks.specs.History.{History}
use Rattle.octo_asks.specs.declared.entry.Entry.{Entry}
use Rattle.octo_house_rules.specs.Legal.{Standing, after_entry, after_all}
use Rattle.octo_house_rules.specs.Scripts.{calls_at, run_in}

-- the shelf holds bytes under the file's name, and they are read as its commands
pub record IsOnShelf (files : List ShelfFile) (file : File) : Type 0 where
  pub bytes : List ℕ
  pub held : bytes_of file.name files ≡ Some bytes
  pub read : job_of bytes ≡ Ok file.job

-- the file is the selected one, and stays so after each entry
abbrev pub StaysSelected : File → History → Standing → Type 0
StaysSelected file [] s = s.known.desk.file ≡ Some file
StaysSelected file (e ∷ es) s = (s.known.desk.file ≡ Some file) × StaysSelected file es (after_entry e s)

-- the file was selected by an entry, when the shelf held it, and has been the selected one since
pub record WasSelected (s : Standing) (history : History) (file : File) : Type 0 where
  pub first : History
  pub by : Entry
  pub since : History
  pub is : history ≡ first ++ by ∷ since
  pub selects : Contains (calls_at by (after_all first s)) (Select file)
  pub held : IsOnShelf (after_entry by (after_all first s)).files file
  pub stays : StaysSelected file since (after_entry by (after_all first s))

-- a print began by an entry, and its commands are those of the file that was selected then
pub record BeganWithFile (s : Standing) (history : History) (print : ℕ) (commands : List (List ℕ)) : Type 0 where
  pub first : History
  pub by : Entry
  pub later : History
  pub is : history ≡ first ++ by ∷ later
  pub unbegun : of_print print (run_in first s).begun ≡ []
  pub begun : of_print print (run_in (first ++ by ∷ []) s).begun ≡ commands ∷ []
  pub file : File
  pub commands_are : texts_of file.job ≡ commands
  pub selected : WasSelected s (first ++ by ∷ []) file

-- so it is of each print, with the commands with which it began
abbrev pub EachIsOfItsFile : Standing → History → Type 0
EachIsOfItsFile s history =
    (print : ℕ) (commands : List (List ℕ)) → of_print print (run_in history s).begun ≡ commands ∷ [] → BeganWithFile s history print commands
