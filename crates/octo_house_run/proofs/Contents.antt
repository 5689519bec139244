-- How a run begins, goes on and ends over contents of the shelf, whatever it records.
use Rattle.std.proofs.Common.{◌≡◌, ℕ, ◌≤◌, Bool, true, false, List, [], ◌∷◌, Option, Some, refl, ap, arith}
use Rattle.octo_outside.specs.Recorded.{Adds}
use Rattle.octo_keeper.specs.declared.shelf.ShelfFile.{ShelfFile}
use Rattle.octo_asks.specs.History.{History}
use Rattle.octo_asks.specs.declared.entry.Entry.TheVariants as entry
use Rattle.octo_session.specs.Data.{SessionData}
use Rattle.octo_house_rules.specs.Known.{Known}
use Rattle.octo_house_rules.specs.Legal.{Standing}
use Rattle.octo_house_rules.specs.Stands.{StandsAt}
use Rattle.octo_house_laws.specs.OverContents.{with_files, OnSome, WalksOver}
use Rattle.octo_house_laws.proofs.Led.{over_of, over_then}
use Rattle.octo_house.specs.declared.house.House.{House}
use Rattle.octo_house.specs.State.{known_of, session_of}
use Rattle.octo_house_run.specs.Runs.{stands_with, begins, RunIsOver, Leads, LeadsOnSome, HasRunOver, IsFresh}
use Rattle.octo_house_run.proofs.Running.{begin_walks, end_walks}

-- a host stands as before if the shelf holds other files
stands_moves : (s : Standing) (known : Known) (session : SessionData) (files other : List ShelfFile) (moment : ℕ) (closed : Bool)
    → StandsAt s known session files moment closed → StandsAt (with_files other s) known session other moment closed
stands_moves s known session files other moment closed at = record {
  window = at.window;
  limit = at.limit;
  known_is = at.known_is;
  desk = at.desk;
  sound = at.sound;
  files_are = refl;
  up = at.up;
  ready = at.ready;
  patient = at.patient;
  raised = at.raised;
  moment_is = at.moment_is;
  closed_is = at.closed_is;
}

with_moves : (house : House) (moment : ℕ) (files other : List ShelfFile) (s : Standing) → stands_with house moment files s
    → stands_with house moment other (with_files other s)
with_moves house moment files other s at = stands_moves s (known_of house) (session_of house) files other moment false at

begins_moves : (house : House) (files other : List ShelfFile) (s : Standing) → begins house files s → begins house other (with_files other s)
begins_moves house files other s is = ap (λ (t : Standing). with_files other t) is

over_moves : (house : House) (files other : List ShelfFile) (s : Standing) → RunIsOver house files s → RunIsOver house other (with_files other s)
over_moves house files other s over = (over.0, stands_moves s (known_of house) (session_of house) files other over.0 true over.1)

-- a host that begins
pub begin_over : (house : House) (past : Option History) → IsFresh (session_of house) → WalksOver past past (OnSome (begins house)) (OnSome (stands_with house 0))
begin_over house past fresh =
    over_of [] [] (begins house) (stands_with house 0) (begins_moves house) (with_moves house 0) past past (begin_walks house past (Some []) fresh)

-- a round: asks are answered, and then a turn is taken
pub round_over : (first before mid after : Option History) (host old asked new : House) (at moment : ℕ) → at ≤ moment
    → WalksOver first before (OnSome (begins host)) (OnSome (stands_with old at)) → LeadsOnSome before mid moment old asked
    → ((files : Option (List ShelfFile)) → Leads mid after files files moment asked new)
    → WalksOver first after (OnSome (begins host)) (OnSome (stands_with new moment))
round_over first before mid after host old asked new at moment below led answers turns =
    over_then first mid after (OnSome (begins host)) (OnSome (stands_with asked moment)) (OnSome (stands_with new moment))
    (over_then first before mid (OnSome (begins host)) (OnSome (stands_with old at)) (OnSome (stands_with asked moment)) led
    (over_of answers.0 answers.1 (stands_with old at) (stands_with asked moment) (with_moves old at) (with_moves asked moment) before mid (answers.2 at below)))
    (over_of [] [] (stands_with asked moment) (stands_with new moment) (with_moves asked moment) (with_moves new moment) mid after (turns (Some []) moment (omega arith)))

-- the end
pub end_over : (first after last : Option History) (host house : House) (moment : ℕ)
    → WalksOver first after (OnSome (begins host)) (OnSome (stands_with house moment)) → Adds after last (entry.Close ∷ []) → HasRunOver first last host house
end_over first after last host house moment led adds =
    over_then first after last (OnSome (begins host)) (OnSome (stands_with house moment)) (OnSome (RunIsOver house)) led
    (over_of [] [] (stands_with house moment) (RunIsOver house) (with_moves house moment) (over_moves house) after last (end_walks house after last (Some []) moment adds))
