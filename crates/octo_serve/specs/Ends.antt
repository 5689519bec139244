-- The ends as contracts see them.
use Rattle.std.specs.Prelude.{◌≡◌, ◌≢◌, ℕ, ◌+◌, ◌%◌, ◌<◌, zero, suc, Bool, true, List, [], ◌∷◌, ◌++◌, Option, Some, None, Result, Ok, Err}
use Rattle.atomic_table.specs.Seated.{TableId}
use Rattle.octo_asks.specs.declared.request.Ask.{Ask}
use Rattle.octo_asks.specs.declared.answer.Answer.{Answer}
use Rattle.octo_asks.specs.declared.asker.Closed.{Closed}
use Rattle.octo_asks.specs.declared.entry.Entry.TheVariants as entry
use Rattle.octo_asks.specs.declared.counter.Given.{Given}
use Rattle.octo_asks.specs.declared.counter.Next.{Next}
use Rattle.octo_asks.specs.declared.counter.Next.TheVariants as next
use Rattle.octo_asks.specs.History.{History}
use Rattle.octo_asks.specs.Place.{Place}
use Rattle.octo_serve.specs.declared.board.Letter.TheVariants.{Answered}
use Rattle.octo_serve.specs.declared.board.Stage.{Stage}
use Rattle.octo_serve.specs.declared.board.Stage.TheVariants.{Resting, Waiting, Found}
use Rattle.octo_serve.specs.declared.board.WorkerView.{WorkerView}
use Rattle.octo_serve.specs.declared.board.HouseView.{HouseView}
use Rattle.octo_serve.specs.declared.board.View.TheVariants.{House, Worker}
use Rattle.octo_serve.specs.declared.waiting.AskState.{AskState}
use Rattle.octo_serve.specs.declared.waiting.AskState.TheVariants as ask_state
use Rattle.octo_serve.specs.Views.{new_worker, new_house, worker_of, house_of}
use Rattle.octo_serve.specs.Steps.{Sitter, Taken, at_stage, with_look, ask_from}

-- a worker end: its table and what its seat knows
pub record WorkerData : Type 0 where
  pub table : TableId
  pub view : WorkerView

-- a house end: its table, what its seat knows, and the worker whose word it looks at first
pub record HouseData : Type 0 where
  pub table : TableId
  pub view : HouseView
  pub first : ℕ

-- a finished history, and the calls of the workers 0 to 3
pub record HistoryData : Type 0 where
  pub history : History
  pub mines : List History

-- the end of a worker that did nothing yet
abbrev pub new_worker_end : TableId → ℕ → WorkerData
new_worker_end table number = record { table = table; view = new_worker number }

-- the end of a house that did nothing yet and has made four workers' seats
abbrev pub new_house_end : TableId → HouseData
new_house_end table = record { table = table; view = record new_house { made = 4 }; first = 0 }

-- the numbers of a table, which no other table has
abbrev pub numbers_of : TableId → List ℕ
numbers_of table = table.words ∷ table.slots ∷ table.views_name ∷ table.atom ∷ table.block ∷ table.offset ∷ table.slot_names

-- the seat of a worker at a table; the house has the first one
abbrev pub seat_at : TableId → ℕ → Place
seat_at table worker = record { table = numbers_of table; seat = worker + 1 }

-- a worker's seat
abbrev pub worker_place : WorkerData → Place
worker_place worker = seat_at worker.table worker.view.number

-- the house's seat
abbrev pub house_place : HouseData → Place
house_place house = record { table = numbers_of house.table; seat = 0 }

-- five words and four slots
abbrev pub IsSized : TableId → Type 0
IsSized table = (table.words ≡ 5) × (table.slots ≡ 4)

-- a seat of this table, and the number of a worker
abbrev pub SitsAt : TableId → TableId → ℕ → Type 0
SitsAt seat table number = (seat ≡ table) × IsSized table × (number < 4)

-- the seat is this worker's, at this stage, with these slots in hand
abbrev pub IsWorker : ℕ → Stage → Taken → Sitter → Type 0
IsWorker number stage taken sitter = sitter ≡ (Worker (record (worker_of sitter.0) { number = number; stage = stage }), taken)

-- the answer was found, and its letter is in hand
abbrev pub HasFound : ℕ → Sitter → Type 0
HasFound number sitter = (ask : Ask) × (moment : ℕ) × (answer : Answer)
    × IsWorker number (Found ask moment answer) ((number, Some (Answered moment answer)) ∷ []) sitter

-- a worker that rests, with what it saw of the end
abbrev pub IsResting : ℕ → Bool → Sitter → Type 0
IsResting number saw_close sitter =
    sitter ≡ (Worker (record (worker_of sitter.0) { number = number; stage = Resting; saw_close = saw_close }), [])

-- a worker whose ask is open
abbrev pub IsWaiting : ℕ → Bool → Ask → Sitter → Type 0
IsWaiting number saw_close ask sitter =
    sitter ≡ (Worker (record (worker_of sitter.0) { number = number; stage = Waiting ask; saw_close = saw_close }), [])

-- the house's slot in hand, while an ask is taken
abbrev pub slots_for : Option Given → Taken
slots_for None = []
slots_for (Some ask_from) = (ask_from.worker, None) ∷ []

-- the house's seat, with all workers' seats made and none joined
abbrev pub IsHouse : Sitter → Type 0
IsHouse sitter = sitter ≡ (House (record (house_of sitter.0) { made = 4; joined = [] }), slots_for (house_of sitter.0).taken)

-- the worker after its call is finished
abbrev pub with_call : WorkerView → Ask → ℕ → Answer → WorkerView
with_call worker ask moment answer =
    record worker { mine = worker.mine ++ entry.Call worker.number ask moment answer ∷ []; stage = Resting }

-- the answer that was found is taken, and the worker rests
abbrev pub AfterTake : Sitter → Answer → Sitter → Type 0
AfterTake old result new = (ask : Ask) (moment : ℕ) (answer : Answer) → (worker_of old.0).stage ≡ Found ask moment answer
    → (result ≡ answer) × (new ≡ (Worker (with_call (worker_of old.0) ask moment answer), []))

-- what a look for an answer leaves
abbrev pub AfterLook : Ask → Sitter → AskState → Sitter → Type 0
AfterLook ask old (ask_state.Answered answer) new = (moment : ℕ) × (new ≡ (Worker (with_call (worker_of old.0) ask moment answer), []))
AfterLook ask old ask_state.Withdrawn new = ((worker_of old.0).saw_close ≡ true) × (new ≡ (at_stage old.0 Resting, []))
AfterLook ask old ask_state.Nothing new = new ≡ old

-- what an ask leaves: one finished call more, or the same calls
abbrev pub AfterAsk : Ask → WorkerView → Result Answer Closed → WorkerView → Type 0
AfterAsk ask old (Ok answer) new = (moment : ℕ) × (new ≡ record (with_call old ask moment answer) { saw_close = new.saw_close })
AfterAsk ask old (Err closed) new = new ≡ record old { stage = Resting; saw_close = true }

-- the ask was found in this worker's word, or its word showed none
abbrev pub AfterHouseLook : ℕ → HouseView → Option Ask → HouseView → Type 0
AfterHouseLook worker old None new = (found : ℕ) × (found ≢ 1) × (new ≡ with_look old worker found)
AfterHouseLook worker old (Some ask) new = new ≡ record (with_look old worker 1) { taken = ask_from worker ask }

-- that many looks in turn, at the workers from the first one on, showed no ask
abbrev pub ShowNone : ℕ → ℕ → List (ℕ × ℕ) → Type 0
ShowNone first zero looks = looks ≡ []
ShowNone first (suc count) looks = (earlier : List (ℕ × ℕ)) × (found : ℕ)
    × (looks ≡ earlier ++ ((first + count) % 4, found) ∷ []) × (found ≢ 1) × ShowNone first count earlier

-- the house's view after looks in turn that showed no ask
abbrev pub AfterLooks : ℕ → ℕ → HouseView → HouseView → Type 0
AfterLooks first count old new = (looks : List (ℕ × ℕ)) × (new ≡ record old { looked = old.looked ++ looks }) × ShowNone first count looks

-- all four words showed no ask; or the words of some workers did, and the next one's did
abbrev pub AfterNext : HouseData → Next → HouseData → Type 0
AfterNext old next.Nothing new = (new ≡ record old { view = new.view }) × AfterLooks old.first 4 old.view new.view
AfterNext old (next.Asked worker ask) new = (count : ℕ) × (between : HouseView) × (count < 4) × AfterLooks old.first count old.view between
    × (worker ≡ (old.first + count) % 4)
    × (new ≡ record old { view = record (with_look between worker 1) { taken = ask_from worker ask }; first = (worker + 1) % 4 })
