-- The steps as the code makes them: at what a seat knows and has in hand.
use Rattle.std.proofs.Common.{◌≡◌, ℕ, ◌+◌, ◌<◌, eqb, Bool, false, [], ◌∷◌, sym, refl, ap, ◌∙◌, subst, add-one, Option, Some, None}
use mathlib.Core.Option.{none, some}
use prog.Atomic.{either}
use Rattle.atomic_table.specs.Table.{step, Allows}
use Rattle.job_desk.specs.declared.issued.Note.{Note}
use Rattle.octo_asks.specs.declared.request.Ask.{Ask}
use Rattle.octo_asks.specs.declared.answer.Answer.{Answer}
use Rattle.octo_asks.specs.declared.entry.Entry.{Entry}
use Rattle.octo_asks.specs.declared.entry.Entry.TheVariants as entry
use Rattle.octo_asks.specs.History.{own_call}
use Rattle.octo_serve.specs.declared.board.Letter.{Letter}
use Rattle.octo_serve.specs.declared.board.Letter.TheVariants.{Asked, Answered, Noted, Own}
use Rattle.octo_serve.specs.declared.board.Stage.{Stage}
use Rattle.octo_serve.specs.declared.board.Stage.TheVariants.{Resting, Writing, Waiting, Found, Withdrawn}
use Rattle.octo_serve.specs.declared.board.WorkerView.{WorkerView}
use Rattle.octo_serve.specs.declared.board.HouseView.{HouseView}
use Rattle.octo_serve.specs.declared.board.View.TheVariants.{House, Worker}
use Rattle.octo_serve.specs.Views.{worker_of, house_of}
use Rattle.octo_serve.specs.Rule.{Kept}
use Rattle.octo_serve.specs.Steps.{Sitter, Taken, slot_taken, ask_put, answer_looked_for, idle_put, close_looked_for, worker_looked_at, ask_from, answer_put, note_in, note_put, close_put, learnt}
use Rattle.octo_asks.specs.declared.counter.Given.{Given}
use Rattle.octo_serve.specs.Ends.{IsWorker, IsWaiting, IsHouse, slots_for}
use Rattle.octo_serve.proofs.Working.{takes_slot, puts_ask, looks_for_answer, puts_idle, withdraws, looks_for_close}
use Rattle.octo_serve.proofs.Lists.{IsAside, note_aside, own_aside}
use Rattle.octo_serve.proofs.Housing.{looks, answers, notes, closes, learns}

-- a seat with a worker's view and these slots is at this stage
pub is_worker : (me : Sitter) (v : WorkerView) (n : ℕ) (stage : Stage) (taken : Taken) → me ≡ (Worker v, taken) → v.number ≡ n → v.stage ≡ stage
    → IsWorker n stage taken me
is_worker me v n stage taken e a b = e ∙ (λ i. (at i, taken))
  where
    at : Worker v ≡ Worker (record (worker_of me.0) { number = n; stage = stage })
    at = (λ i. Worker (record v { number = a i; stage = b i })) ∙ ap (λ (z : WorkerView). Worker (record z { number = n; stage = stage })) (sym (ap (λ
        (m : Sitter). worker_of m.0) e))

pub takes_slot_as : (slots id : ℕ) (me : Sitter) (n : ℕ) → IsWorker n Resting [] me
    → Allows Kept slots id me (n + 1) (λ x. x) (slot_taken (step slots (n + 1) 0 0 none) me)
takes_slot_as slots id me n is = subst (λ (z : Sitter × ℕ). Allows Kept slots id z.0 z.1 (λ x. x) (slot_taken (step slots z.1 0 0 none) z.0)) (λ i.
    (sym is i, sym (add-one n) i))
    (takes_slot slots id (record (worker_of me.0) { number = n; stage = Resting }) refl)

pub puts_ask_as : (slots id : ℕ) (me : Sitter) (n : ℕ) (ask : Ask) → IsWorker n Writing ((n, Some (Asked ask)) ∷ []) me
    → Allows Kept slots id me (n + 1) (λ _. 1) (λ _. ask_put (step slots (n + 1) 1 0 none) me 1)
puts_ask_as slots id me n ask is = subst (λ (z : Sitter × ℕ). Allows Kept slots id z.0 z.1 (λ _. 1) (λ _. ask_put (step slots z.1 1 0 none) z.0 1)) (λ i.
    (sym is i, sym (add-one n) i))
    (puts_ask slots id (record (worker_of me.0) { number = n; stage = Writing }) ask refl)

pub looks_for_answer_as : (slots id : ℕ) (me : Sitter) (n : ℕ) (saw : Bool) (ask : Ask) → IsWaiting n saw ask me
    → Allows Kept slots id me (n + 1) (λ x. x) (answer_looked_for (step slots (n + 1) 0 0 none) me)
looks_for_answer_as slots id me n saw ask is = subst (λ (z : Sitter × ℕ). Allows Kept slots id z.0 z.1 (λ x. x) (answer_looked_for
    (step slots z.1 0 0 none) z.0)) (λ i. (sym is i, sym (add-one n) i))
    (looks_for_answer slots id (record (worker_of me.0) { number = n; stage = Waiting ask; saw_close = saw }) ask refl)

pub puts_idle_as : (slots id : ℕ) (me : Sitter) (n : ℕ) (ask : Ask) (moment : ℕ) (answer : Answer) (letter : Option Letter)
    → IsWorker n (Found ask moment answer) ((n, letter) ∷ []) me
    → Allows Kept slots id me (n + 1) (λ _. 0) (λ _. idle_put (step slots (n + 1) 0 0 none) me 0)
puts_idle_as slots id me n ask moment answer letter is = subst (λ (z : Sitter
    × ℕ). Allows Kept slots id z.0 z.1 (λ _. 0) (λ _. idle_put (step slots z.1 0 0 none) z.0 0)) (λ i. (sym is i, sym (add-one n) i))
    (puts_idle slots id (record (worker_of me.0) { number = n; stage = Found ask moment answer }) ask moment answer letter refl)

pub withdraws_as : (slots id : ℕ) (me : Sitter) (n : ℕ) (ask : Ask) → IsWorker n (Withdrawn ask) [] me
    → Allows Kept slots id me (n + 1) (λ _. 0) (λ _. idle_put (step slots (n + 1) 0 0 none) me 0)
withdraws_as slots id me n ask is = subst (λ (z : Sitter × ℕ). Allows Kept slots id z.0 z.1 (λ _. 0) (λ _. idle_put (step slots z.1 0 0 none) z.0 0))
    (λ i. (sym is i, sym (add-one n) i))
    (withdraws slots id (record (worker_of me.0) { number = n; stage = Withdrawn ask }) ask refl)

pub looks_for_close_as : (slots id : ℕ) (me : Sitter) (saw : Bool) (taken : Taken) → me ≡ (Worker (record (worker_of me.0) { saw_close = saw }), taken)
    → Allows Kept slots id me 0 (λ x. x) (close_looked_for (step slots 0 0 0 none) me)
looks_for_close_as slots id me saw taken is = subst (λ (m : Sitter). Allows Kept slots id m 0 (λ x. x) (close_looked_for (step slots 0 0 0 none) m)) (sym is)
    (looks_for_close slots id (record (worker_of me.0) { saw_close = saw }) taken)

pub looks_as : (slots id : ℕ) (me : Sitter) (h : HouseView) (w : ℕ) → me ≡ (House h, []) → w < 4 → h.taken ≡ None → h.closed ≡ false
    → Allows Kept slots id me (w + 1) (λ x. x) (worker_looked_at (step slots (w + 1) 0 0 none) me)
looks_as slots id me h w is near untaken running = subst (λ (z : Sitter × ℕ). Allows Kept slots id z.0 z.1 (λ x. x) (worker_looked_at
    (step slots z.1 0 0 none) z.0)) (λ i. (sym is i, sym (add-one w) i)) (looks slots id h w near untaken running)

pub answers_as : (slots id : ℕ) (me : Sitter) (h : HouseView) (w : ℕ) (ask : Ask) (moment : ℕ) (answer : Answer)
    → me ≡ (House h, (w, Some (Answered moment answer)) ∷ []) → w < 4 → h.taken ≡ ask_from w ask → h.closed ≡ false
    → Allows Kept slots id me (w + 1) (λ _. 2) (λ _. answer_put (step slots (w + 1) 2 0 none) me 2)
answers_as slots id me h w ask moment answer is near took running = subst (λ (z : Sitter
    × ℕ). Allows Kept slots id z.0 z.1 (λ _. 2) (λ _. answer_put (step slots z.1 2 0 none) z.0 2)) (λ i. (sym is i, sym (add-one w) i))
    (answers slots id h w ask moment answer near took running)

says_as : (slots id : ℕ) (me : Sitter) (h : HouseView) (letter : Letter) (more : Entry) (taken : Taken) → me ≡ (House h, taken)
    → note_in (some (Some letter)) ≡ more ∷ [] → IsAside more → h.closed ≡ false
    → Allows Kept slots id me 0 (λ n. either (eqb n 0) 0 n) (note_put (step slots 0 0 0 (some (Some letter))) me)
says_as slots id me h letter more taken is says aside running = subst (λ (m : Sitter). Allows Kept slots id m 0 (λ n. either (eqb n 0) 0 n) (note_put
    (step slots 0 0 0 (some (Some letter))) m)) (sym is) (notes slots id h letter more taken says aside running)

pub notes_as : (slots id : ℕ) (me : Sitter) (h : HouseView) (note : Note) (taken : Taken) → me ≡ (House h, taken) → h.closed ≡ false
    → Allows Kept slots id me 0 (λ n. either (eqb n 0) 0 n) (note_put (step slots 0 0 0 (some (Some (Noted note)))) me)
notes_as slots id me h note taken is running = says_as slots id me h (Noted note) (entry.Note note) taken is refl (note_aside note) running

pub own_as : (slots id : ℕ) (me : Sitter) (h : HouseView) (moment : ℕ) (answer : Answer) (taken : Taken) → me ≡ (House h, taken) → h.closed ≡ false
    → Allows Kept slots id me 0 (λ n. either (eqb n 0) 0 n) (note_put (step slots 0 0 0 (some (Some (Own moment answer)))) me)
own_as slots id me h moment answer taken is running =
    says_as slots id me h (Own moment answer) (own_call moment answer) taken is refl (own_aside moment answer) running

pub closes_as : (slots id : ℕ) (me : Sitter) (h : HouseView) (taken : Taken) → me ≡ (House h, taken) → h.taken ≡ None → h.closed ≡ false
    → Allows Kept slots id me 0 (λ _. 1) (λ _. close_put (step slots 0 1 0 none) me 1)
closes_as slots id me h taken is untaken running = subst (λ (m : Sitter). Allows Kept slots id m 0 (λ _. 1) (λ _. close_put (step slots 0 1 0 none) m 1))
    (sym is) (closes slots id h taken untaken running)

pub learns_as : (slots id : ℕ) (me : Sitter) (h : HouseView) → me ≡ (House h, []) → Allows Kept slots id me 0 (λ x. x) (learnt (step slots 0 0 0 none) me)
learns_as slots id me h is = subst (λ (m : Sitter). Allows Kept slots id m 0 (λ x. x) (learnt (step slots 0 0 0 none) m)) (sym is) (learns slots id h)

-- the house's seat at what it took
pub house_at : (me : Sitter) (taken : Option Given) → IsHouse me → (house_of me.0).taken ≡ taken
    → me ≡ (House (record (house_of me.0) { made = 4; joined = [] }), slots_for taken)
house_at me taken is e = is ∙ ap (λ (t : Option Given). (House (record (house_of me.0) { made = 4; joined = [] }), slots_for t)) e

-- a seat with a house's view and its slots is the house's
pub is_house : (me : Sitter) (h : HouseView) (taken : Taken) → me ≡ (House h, taken) → h.made ≡ 4 → h.joined ≡ [] → taken ≡ slots_for h.taken → IsHouse me
is_house me h taken e a b c = e ∙ ((λ i. (House (record h { made = a i; joined = b i }), c i))
    ∙ ap (λ (m : Sitter). (House (record (house_of m.0) { made = 4; joined = [] }), slots_for (house_of m.0).taken)) (sym e))
