-- What reading a file comes to.
use Rattle.std.specs.Prelude.{◌≡◌, ◌⊎◌, ℕ, List, Option, Some, Result, Ok, Err, IfSome}
use Rattle.octo_outside.specs.Traits.{Files}
use Rattle.octo_files.specs.declared.report.Report.{Report}
use Rattle.octo_files.specs.declared.report.Report.TheVariants as report

-- a file has these bytes, if the source records what it holds
abbrev pub IsHeld : Option Files → List ℕ → List ℕ → Type 0
IsHeld files file bytes = IfSome files (λ all. all file ≡ Some bytes)

-- the bytes of a file are read as this: a file that a recording source doesn't hold has no job
pub record FileGives (files : Option Files) (file : List ℕ) (Gives : List ℕ → Type 0) : Type 0 where
  pub bytes : List ℕ
  pub held : IsHeld files file bytes
  pub given : Gives bytes

-- memory ran out, or the source failed
abbrev pub IsTrouble : Report → Type 0
IsTrouble r = (r ≡ report.NoMemory) ⊎ (r ≡ report.SourceFailed)

-- and so there is no value
abbrev pub IsTroubled : {A : Type 0} → Result A Report → Type 0
IsTroubled (Ok value) = ⊥
IsTroubled (Err r) = IsTrouble r
