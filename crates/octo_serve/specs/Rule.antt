-- The rule of the table: what holds between any two steps.
use Rattle.std.specs.Prelude.{◌≡◌, ◌⊎◌, ℕ, suc, ◌<◌, ◌≤◌, Bool, true, false, [], ◌∷◌, ◌++◌, length, slice_index, Option, Some, None}
use mathlib.Core.Option.{some, none}
use mathlib.Core.Option as maybe
use lib.ListN.{get_elem?}
use Rattle.atomic_table.specs.Table.{State}
use Rattle.octo_asks.specs.declared.request.Ask.{Ask}
use Rattle.octo_asks.specs.declared.answer.Answer.{Answer}
use Rattle.octo_asks.specs.declared.entry.Entry.TheVariants as entry
use Rattle.octo_asks.specs.History.{History, calls_of}
use Rattle.octo_serve.specs.declared.board.Letter.{Letter}
use Rattle.octo_serve.specs.declared.board.Letter.TheVariants.{Asked, Answered}
use Rattle.octo_serve.specs.declared.board.Stage.{Stage}
use Rattle.octo_serve.specs.declared.board.Stage.TheVariants.{Resting, Writing, Waiting, Found, Withdrawn}
use Rattle.octo_serve.specs.declared.board.HouseView.{HouseView}
use Rattle.octo_serve.specs.declared.board.View.{View}
use Rattle.octo_serve.specs.declared.board.View.TheVariants.{House, Worker, Spent}
use Rattle.octo_serve.specs.Views.{Known, known_of, has_close}

-- what the note word says
abbrev pub note_word : Bool → ℕ
note_word false = 0
note_word true = 1

-- a worker's slot, if it has one: at home with what it holds, or out with a seat
abbrev pub Slot : Type 0
Slot = maybe.Option (maybe.Option (Option Letter))

-- the slot is at home, whatever it holds
abbrev pub AtHome : Slot → Type 0
AtHome slot = (letter : Option Letter) × (slot ≡ some (some letter))

module _ (known : Known) (word : ℕ) (slot : Slot) (worker : ℕ) (mine : History) where
  -- the house knows no ask of the worker, and these are its calls in the history
  abbrev pub Settled : History → Type 0
  Settled calls = (known.taken ≡ None) × (known.calls ≡ calls)

  -- the ask was not taken yet
  abbrev pub IsOpen : Ask → Type 0
  IsOpen ask = (word ≡ 1) × Settled mine × (slot ≡ some (some (Some (Asked ask))))

  -- the house has the ask, and the slot
  abbrev pub IsTaken : Ask → Type 0
  IsTaken ask = (word ≡ 1) × (known.taken ≡ Some ask) × (known.calls ≡ mine)

  -- the call is in the history, and its answer in the slot
  abbrev pub IsAnswered : Ask → Type 0
  IsAnswered ask = (word ≡ 2)
      × (moment : ℕ) × (answer : Answer)
      × Settled (mine ++ entry.Call worker ask moment answer ∷ []) × (slot ≡ some (some (Some (Answered moment answer))))

  -- a worker's word and slot at each stage
  abbrev pub AtStage : Stage → Type 0
  AtStage Resting = (word ≡ 0) × Settled mine × AtHome slot
  AtStage Writing = (word ≡ 0) × Settled mine
  AtStage (Waiting ask) = IsOpen ask ⊎ (IsTaken ask ⊎ IsAnswered ask)
  AtStage (Found ask moment answer) = (word ≡ 2) × Settled (mine ++ entry.Call worker ask moment answer ∷ [])
  AtStage (Withdrawn ask) = (word ≡ 1) × Settled mine × AtHome slot × (known.closed ≡ true)

-- a worker's word and slot, by the view of its seat: not made yet, the worker's, or joined
abbrev pub AtSeat : Known → ℕ → Slot → ℕ → maybe.Option View → Type 0
AtSeat known word slot worker none = (word ≡ 0) × (known.taken ≡ None) × (known.calls ≡ []) × AtHome slot
AtSeat known word slot worker (some (Worker view)) =
    (view.number ≡ worker) × (view.saw_close ≡ true → known.closed ≡ true)
    × AtStage known word slot worker view.mine view.stage
AtSeat known word slot worker (some Spent) = (known.closed ≡ true) × (known.taken ≡ None)
AtSeat known word slot worker (some (House house)) = ⊥

-- The house has the first seat, worker 0 the next one, and so on
pub record Kept (s : State (Option Letter) View) : Type 0 where
  pub house : HouseView
  pub seat : get_elem? s.views 0 ≡ some (House house)
  pub made : (length s.views ≡ suc house.made) × (house.made ≤ 4)
  pub wide : length s.words ≡ 5
  pub deep : length s.homes ≡ 4
  pub note : slice_index s.words 0 ≡ note_word house.closed
  pub close : house.closed ≡ true → house.taken ≡ None
  pub ended : has_close house.history ≡ house.closed
  pub joined : (worker : ℕ) (mine : History) → get_elem? house.joined worker ≡ some mine
      → (house.closed ≡ true) × (calls_of worker house.history ≡ mine)
  pub each : (worker : ℕ) → worker < 4
      → AtSeat (known_of house worker) (slice_index s.words (suc worker)) (get_elem? s.homes worker) worker (get_elem? s.views (suc worker))
