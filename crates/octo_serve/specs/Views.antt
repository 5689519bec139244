-- What the house and a worker know.
use Rattle.std.specs.Prelude.{◌≡◌, ℕ, ◌+◌, ◌==◌, Bool, true, false, ◌||◌, nat_lt, List, [], ◌∷◌, Option, Some, None}
use Rattle.std.specs.List.{list_any, list_all}
use Rattle.octo_asks.specs.declared.request.Ask.{Ask}
use Rattle.octo_asks.specs.declared.entry.Entry.{Entry}
use Rattle.octo_asks.specs.declared.entry.Entry.TheVariants as entry
use Rattle.octo_asks.specs.declared.counter.Given.{Given}
use Rattle.octo_asks.specs.declared.request.Request.{Request}
use Rattle.octo_asks.specs.declared.request.Request.TheVariants as request
use Rattle.octo_asks.specs.History.{History, calls_of, own_number}
use Rattle.octo_serve.specs.declared.board.Stage.TheVariants.{Resting}
use Rattle.octo_serve.specs.declared.board.WorkerView.{WorkerView}
use Rattle.octo_serve.specs.declared.board.HouseView.{HouseView}
use Rattle.octo_serve.specs.declared.board.View.{View}
use Rattle.octo_serve.specs.declared.board.View.TheVariants.{House, Worker}

-- a worker that did nothing yet
abbrev pub new_worker : ℕ → WorkerView
new_worker number = record { number = number; mine = []; stage = Resting; saw_close = false }

-- the house that did nothing yet
abbrev pub new_house : HouseView
new_house = record { history = []; taken = None; closed = false; made = 0; looked = []; joined = [] }

-- what the worker at a worker's seat knows
abbrev pub worker_of : View → WorkerView
worker_of (Worker worker) = worker
worker_of _ = new_worker 0

-- what the house knows at the house's seat
abbrev pub house_of : View → HouseView
house_of (House house) = house
house_of _ = new_house

-- the entry is the host's end
abbrev pub is_close : Entry → Bool
is_close entry.Close = true
is_close _ = false

-- the host's end is in the history
abbrev pub has_close : History → Bool
has_close history = list_any is_close history

-- the ask, if it is this worker's
abbrev pub ask_for : Bool → Ask → Option Ask
ask_for true ask = Some ask
ask_for false ask = None

-- the ask of this worker that the house took and hasn't answered
abbrev pub taken_of : ℕ → Option Given → Option Ask
taken_of worker None = None
taken_of worker (Some given) = ask_for (given.worker == worker) given.ask

-- what the house knows of one worker
pub record Known : Type 0 where
  pub calls : History
  pub taken : Option Ask
  pub closed : Bool

-- what the house knows of this worker
abbrev pub known_of : HouseView → ℕ → Known
known_of house worker = record { calls = calls_of worker house.history; taken = taken_of worker house.taken; closed = house.closed }

-- a call that the house makes itself
abbrev pub is_own : ℕ → Request → Bool
is_own worker request.AutoConnect = worker == own_number
is_own worker _ = false

-- an entry, of one of the four workers or the house's own if it is a call
abbrev pub is_of_four : Entry → Bool
is_of_four (entry.Call worker ask moment answer) = nat_lt worker 4 || is_own worker ask.request
is_of_four _ = true

-- each call of the history is of one of the four workers, or the house's own
abbrev pub all_of_four : History → Bool
all_of_four history = list_all is_of_four history

-- each list is the calls of one worker in the history, from this worker on
abbrev pub AreCalls : History → ℕ → List History → Type 0
AreCalls history worker [] = Unit {0}
AreCalls history worker (mine ∷ others) = (calls_of worker history ≡ mine) × AreCalls history (worker + 1) others
