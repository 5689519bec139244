-- The laws of what a run added to its history.
use Rattle.std.specs.Prelude.{◌≡◌, List, [], Option, Some}
use Rattle.octo_outside.specs.Recorded.{Became}
use Rattle.octo_keeper.specs.declared.shelf.ShelfFile.{ShelfFile}
use Rattle.octo_asks.specs.History.{History}
use Rattle.octo_house.specs.State.{known_of, session_of}
use Rattle.octo_house.specs.declared.house.House.{House}
use Rattle.octo_house_laws.specs.Contents.{KeepsLawsOver, KeepsPrintsOver}
use Rattle.octo_house_laws.specs.Hosts.{KeepsLaws}
use Rattle.octo_house_laws.specs.Limits.{AreCoolScripts, IssuesCoolLines}
use Rattle.octo_house_rules.specs.Legal.{Standing, beginning}
use Rattle.octo_house_rules.specs.PrintLaws.{IsBeginning}

-- where a host begins, if the shelf holds these files
abbrev pub start_of : House → List ShelfFile → Standing
start_of house files = beginning (session_of house).sender.window (session_of house).sender.limit (known_of house) files

-- the laws over some contents of the shelf, one before each entry
pub record KeepsLawsOnSome (house : House) (added : History) : Type 0 where
  pub contents : List (List ShelfFile)
  -- who was denied, which puts were repeated, and what callers learned of each other
  pub calls : KeepsLawsOver contents added (start_of house [])
  -- if the host began with a new desk: the scripts and courses of prints, and what their records say
  pub prints : IsBeginning (known_of house) → KeepsPrintsOver (known_of house).desk.scripts contents added (start_of house [])
  -- no issued line was too hot, if no script's is
  pub cool : IsBeginning (known_of house) → AreCoolScripts (known_of house).desk.limits (known_of house).desk.scripts
      → IssuesCoolLines (known_of house).desk.limits added

-- what was added keeps the laws, whatever the shelf records; and if it records its files, over these
pub record RunKeepsLaws (past past' : Option History) (files : Option (List ShelfFile)) (house : House) : Type 0 where
  pub some : Became past past' (λ _ added. KeepsLawsOnSome house added)
  pub recorded : IsBeginning (known_of house) → (held : List ShelfFile) → files ≡ Some held
      → Became past past' (λ _ added. KeepsLaws (known_of house).desk.scripts (known_of house).desk.limits added (start_of house held))
