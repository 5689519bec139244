-- What is learned by each step on the table: from the step, the seat before, the number found and the seat after.
use Rattle.std.specs.Prelude.{◌≡◌, ◌≢◌, ℕ, ◌+◌, true, false, List, [], ◌∷◌, ◌++◌, Option, Some, None}
use mathlib.Core.Option.{some, none}
use mathlib.Core.Option as maybe
use lib.ListN.{get_elem?}
use Rattle.atomic_table.specs.Table.{Me, Step}
use Rattle.octo_asks.specs.declared.request.Ask.{Ask}
use Rattle.octo_asks.specs.declared.answer.Answer.{Answer}
use Rattle.octo_asks.specs.declared.entry.Entry.TheVariants as entry
use Rattle.octo_asks.specs.declared.counter.Given.{Given}
use Rattle.octo_asks.specs.History.{History, calls_of, own_call}
use Rattle.octo_serve.specs.declared.board.Letter.{Letter}
use Rattle.octo_serve.specs.declared.board.Letter.TheVariants.{Asked, Answered, Noted, Own}
use Rattle.octo_serve.specs.declared.board.Stage.{Stage}
use Rattle.octo_serve.specs.declared.board.Stage.TheVariants.{Resting, Writing, Waiting, Found, Withdrawn}
use Rattle.octo_serve.specs.declared.board.WorkerView.{WorkerView}
use Rattle.octo_serve.specs.declared.board.HouseView.{HouseView}
use Rattle.octo_serve.specs.declared.board.View.{View}
use Rattle.octo_serve.specs.declared.board.View.TheVariants.{House, Worker}
use Rattle.octo_serve.specs.Views.{new_worker, worker_of, house_of, has_close}

-- a step on the table, whose slots may hold a letter
abbrev pub At : Type 0
At = Step (Option Letter)

-- the slots that a seat has taken, and what they hold
abbrev pub Taken : Type 0
Taken = List (ℕ × Option Letter)

-- a seat's view, and the slots that it has taken
abbrev pub Sitter : Type 0
Sitter = Me (Option Letter) View

-- what the slot that was taken last holds
abbrev pub letter_in : Taken → Option Letter
letter_in [] = None
letter_in (slot ∷ slots) = slot.1

-- the answer in a letter
abbrev pub answer_in : Option Letter → Option Answer
answer_in (Some (Answered moment answer)) = Some answer
answer_in _ = None

-- the ask in a letter
abbrev pub ask_in : Option Letter → Option Ask
ask_in (Some (Asked ask)) = Some ask
ask_in _ = None

-- the worker's view with another stage
abbrev pub at_stage : View → Stage → View
at_stage view stage = Worker (record (worker_of view) { stage = stage })

-- the stage at which this letter is in the slot and asked
abbrev pub stage_with : Option Letter → Stage
stage_with (Some (Asked ask)) = Waiting ask
stage_with _ = Resting

-- the call that was found
abbrev pub found_call : ℕ → Stage → History
found_call worker (Found ask moment answer) = entry.Call worker ask moment answer ∷ []
found_call worker _ = []

-- the worker that rests again, with the call that it found
abbrev pub at_rest : WorkerView → WorkerView
at_rest worker = record worker { mine = worker.mine ++ found_call worker.number worker.stage; stage = Resting }

-- the worker takes its slot
abbrev pub slot_taken : At → Sitter → ℕ → Sitter → Type 0
slot_taken st old found new = (letter : Option Letter) × (new ≡ (at_stage old.0 Writing, ((worker_of old.0).number, letter) ∷ []))

-- the worker asks what it wrote
abbrev pub ask_put : At → Sitter → ℕ → Sitter → Type 0
ask_put st old found new = new ≡ (at_stage old.0 (stage_with (letter_in old.1)), [])

-- the worker found an answer, or that its ask was never taken, or nothing
abbrev pub answer_looked_for : At → Sitter → ℕ → Sitter → Type 0
answer_looked_for st old found new = (ask : Ask) → (worker_of old.0).stage ≡ Waiting ask
    → (found ≡ 2 → (moment : ℕ) × (answer : Answer)
    × (new ≡ (at_stage old.0 (Found ask moment answer), ((worker_of old.0).number, Some (Answered moment answer)) ∷ [])))
    × (found ≢ 2 → (worker_of old.0).saw_close ≡ true → new ≡ (at_stage old.0 (Withdrawn ask), []))
    × (found ≢ 2 → (worker_of old.0).saw_close ≡ false → new ≡ old)

-- the worker rests again
abbrev pub idle_put : At → Sitter → ℕ → Sitter → Type 0
idle_put st old found new = new ≡ (Worker (at_rest (worker_of old.0)), [])

-- the worker may have seen the end
abbrev pub close_looked_for : At → Sitter → ℕ → Sitter → Type 0
close_looked_for st old found new =
    (found ≡ 1 → new ≡ (Worker (record (worker_of old.0) { saw_close = true }), old.1)) × (found ≢ 1 → new ≡ old)

-- the house with one look more
abbrev pub with_look : HouseView → ℕ → ℕ → HouseView
with_look house worker found = record house { looked = house.looked ++ (worker, found) ∷ [] }

-- the ask of a worker, as the house took it
abbrev pub ask_from : ℕ → Ask → Option Given
ask_from worker ask = Some (record { worker = worker; ask = ask })

-- the house looked at a worker's word, and took what it asks
abbrev pub worker_looked_at : At → Sitter → ℕ → Sitter → Type 0
worker_looked_at st old found new = (worker : ℕ) → st.word ≡ worker + 1
    → (found ≡ 1 → (ask : Ask)
    × (new ≡ (House (record (with_look (house_of old.0) worker found) { taken = ask_from worker ask }), (worker, Some (Asked ask)) ∷ [])))
    × (found ≢ 1 → new ≡ (House (with_look (house_of old.0) worker found), []))

-- the call of the ask that was taken, with the answer in the slot
abbrev pub call_with : Option Given → Option Letter → History
call_with (Some ask_from) (Some (Answered moment answer)) = entry.Call ask_from.worker ask_from.ask moment answer ∷ []
call_with _ _ = []

-- the house answers: the call is in the history
abbrev pub answer_put : At → Sitter → ℕ → Sitter → Type 0
answer_put st old found new = new ≡ (
  House (record (house_of old.0) {
    history = (house_of old.0).history ++ call_with (house_of old.0).taken (letter_in old.1);
    taken = None;
  }),
  [],
)

-- the entry that the house says: a note, or its own call
abbrev pub note_in : maybe.Option (Option Letter) → History
note_in (some (Some (Noted note))) = entry.Note note ∷ []
note_in (some (Some (Own moment answer))) = own_call moment answer ∷ []
note_in _ = []

-- the house puts what it says in the history
abbrev pub note_put : At → Sitter → ℕ → Sitter → Type 0
note_put st old found new = new ≡ (House (record (house_of old.0) { history = (house_of old.0).history ++ note_in st.said }), old.1)

-- the house puts the host's end in the history
abbrev pub close_put : At → Sitter → ℕ → Sitter → Type 0
close_put st old found new = new ≡ (House (record (house_of old.0) { history = (house_of old.0).history ++ entry.Close ∷ []; closed = true }), old.1)

-- what the house learns of the workers that were joined
abbrev pub learnt : At → Sitter → ℕ → Sitter → Type 0
learnt st old found new = (new ≡ old)
    × (has_close (house_of old.0).history ≡ (house_of old.0).closed)
    × ((worker : ℕ) (mine : History) → get_elem? (house_of old.0).joined worker ≡ some mine
    → calls_of worker (house_of old.0).history ≡ mine)

-- the house's view once one more worker's seat is made
abbrev pub house_left : View → View
house_left (House house) = House (record house { made = house.made + 1 })
house_left view = view

-- the view of the worker whose seat is made next
abbrev pub worker_right : View → View
worker_right view = Worker (new_worker (house_of view).made)

-- the house's view with the calls of a worker
abbrev pub joined_with : View → View → View
joined_with (House house) view = House (record house { joined = house.joined ++ (worker_of view).mine ∷ [] })
joined_with house view = house
