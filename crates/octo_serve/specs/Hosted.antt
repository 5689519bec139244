-- What a host did from its first connection to its end.
use Rattle.std.specs.Prelude.{◌≡◌, ◌⊎◌, ℕ, ◌≤◌, Bool, true, false, [], Option, Some, is_some}
use Rattle.octo_outside.specs.Recorded.{Became}
use Rattle.octo_outside_doors.specs.declared.door.Doors.{Doors}
use Rattle.octo_asks.specs.History.{History}
use Rattle.octo_api_worker.specs.declared.terms.Terms.{Terms}
use Rattle.octo_serve.specs.Ends.{HistoryData}
use Rattle.octo_serve.specs.Views.{AreCalls, all_of_four, has_close}
use Rattle.octo_house_rules.specs.Counted.{is_shut}
use Rattle.octo_house_rules.specs.Faults.{AreCounted}
use Rattle.octo_house_rules.specs.LinkUse.{UsesLink}
use Rattle.octo_house_rules.specs.Shows.{Shows}
use Rattle.octo_house_rules.specs.Temps.{NotesTemps}
use Rattle.octo_house_rules.specs.Tied.{TiesLines}
use Rattle.octo_house_tables.specs.Kept.{KeepsRows}
use Rattle.octo_house.specs.declared.house.House.{House}
use Rattle.octo_house.specs.State.{IsListed, session_of, tables_of}
use Rattle.octo_house_run.specs.Laws.{RunKeepsLaws}
use Rattle.octo_house_run.specs.Runs.{HasRun, HasRunOver, RunKeepsPrints, IsOver, ArePassed, begins}
use Rattle.printer_link.specs.Calls.{LinkState}
use Rattle.octo_keeper.specs.Calls.{KeeperState, ShelfState}
use Rattle.octo_outside_doors.specs.Doors.{DoorState}
use Rattle.octo_serve.specs.Doors.{AreServed, AllHaveNoMore}

-- a house, its link, its clock's moment, if that is recorded, its keeper and its shelf
pub record Setting : Type 0 where
  pub house : House
  pub link : LinkState
  pub moment : Option ℕ
  pub keeper : KeeperState
  pub shelf : ShelfState

-- the same, made of a house and four objects by what the objects' types say of them
abbrev pub setting : {L T K S : Type 0} → (L → LinkState) → (T → Option ℕ) → (K → KeeperState) → (S → ShelfState) → House → L → T → K → S → Setting
setting link_state moment keeper_state shelf_state house link clock keeper shelf =
    record { house = house; link = link_state link; moment = moment clock; keeper = keeper_state keeper; shelf = shelf_state shelf }

-- a house ran until its end: what its run says of its history, and what it leaves. It made these calls, leaves and its own apart
pub record Ran (old new : Setting) (past past' : Option History) (calls : ℕ) : Type 0 where
  -- one legal history leads from the one to the other
  pub history : HasRun past past' old.shelf.files new.shelf.files old.house new.house
  -- whatever the shelf records, it does so over some contents of the shelf
  pub contents : HasRunOver past past' old.house new.house
  -- so it keeps the laws: of calls, whatever the shelf records, and of prints
  pub laws : RunKeepsLaws past past' old.shelf.files old.house
  pub over : Became past past' (λ _ added. IsOver calls (session_of new.house).desk.active added)
  pub listed : IsListed old.shelf.files old.house → IsListed new.shelf.files new.house
  pub kept : KeepsRows old.keeper.tables new.keeper.tables (tables_of old.house) (tables_of new.house)
  -- what the history says of the clock and of the link
  pub moments : ArePassed old.moment new.moment past past'
  pub link_use : Shows past past' old.shelf.files (begins old.house) (UsesLink old.link.kind.listed old.link.calls new.link.calls)
  pub temps : Became past past' (λ _ added. NotesTemps old.link.kind old.link.past new.link.past added)
  pub tied : TiesLines (session_of old.house).sender.numbered old.link.kind past past' old.link.past new.link.past
  -- what became of the prints
  pub prints : RunKeepsPrints old.link.kind past past' old.shelf.files old.link.past new.link.past old.house
  -- the link is down, of the same kind, and its history is recorded exactly if it was
  pub down : new.link.up ≡ false
  pub kind : new.link.kind ≡ old.link.kind
  pub recorded : is_some new.link.past ≡ is_some old.link.past
  -- faults, by their counts
  pub faults : Became past past' (λ _ added. AreCounted old.keeper.faults new.keeper.faults old.shelf.faults new.shelf.faults
      old.link.faults new.link.faults added)
  pub link : old.link.faults ≤ new.link.faults
  pub keeper : old.keeper.faults ≤ new.keeper.faults
  pub shelf : old.shelf.faults ≤ new.shelf.faults

-- A host served its doors until its end. It made these calls, leaves and its own apart; all doors held, or one didn't; and this is known of
-- what was asked, answered and noted
pub record HasHosted (terms : Terms) (old new : Setting) (doors doors' : Doors DoorState) (calls : ℕ) (all_held : Bool) (known : HistoryData) : Type 0 where
  pub ran : Ran old new (Some []) (Some known.history) calls
  pub ended : has_close known.history ≡ true
  -- each call is one of the four workers', or the house's own
  pub of_four : all_of_four known.history ≡ true
  -- each worker's calls are in the history once, in their order, and are those that its door's connections led to
  pub mines : AreCalls known.history 0 known.mines
  pub served : AreServed terms doors doors' known.history all_held
  -- a shutdown was accepted, or no connection of any door will come any more
  pub why : (is_shut known.history ≡ true) ⊎ AllHaveNoMore doors doors'
