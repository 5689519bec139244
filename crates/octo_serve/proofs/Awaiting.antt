-- The worker whose ask is open, and seats that a step of the house leaves alone.
use Rattle.std.proofs.Common.{◌≡◌, ◌⊎◌, ℕ, Bool, true, false, List, set, sym, refl, ◌∙◌, subst, inl, inr, ⊎_elim, arith, Option, Some, None}
use Rattle.std.proofs.lemmas.Bool.{true≢false}
use mathlib.Core.Option.{none, some}
use mathlib.Core.Option as maybe
use Rattle.octo_asks.specs.declared.request.Ask.{Ask}
use Rattle.octo_asks.specs.History.{History}
use Rattle.octo_serve.specs.declared.board.Letter.TheVariants.{Asked}
use Rattle.octo_serve.specs.declared.board.Stage.{Stage}
use Rattle.octo_serve.specs.declared.board.Stage.TheVariants.{Resting, Writing, Waiting, Found, Withdrawn}
use Rattle.octo_serve.specs.declared.board.WorkerView.{WorkerView}
use Rattle.octo_serve.specs.declared.board.View.{View}
use Rattle.octo_serve.specs.declared.board.View.TheVariants.{House, Worker, Spent}
use Rattle.octo_serve.specs.Views.{Known}
use Rattle.octo_serve.specs.Rule.{Kept, AtStage, AtSeat, Slot}
use Rattle.octo_serve.proofs.Frames.{St, Homes}
use Rattle.std.proofs.lemmas.Option.{none-some}

-- the worker whose ask is open
pub record Asks (known : Known) (slot : Slot) (worker : ℕ) (view : maybe.Option View) : Type 0 where
  pub v : WorkerView
  pub ask : Ask
  pub seat : view ≡ some (Worker v)
  pub number : v.number ≡ worker
  pub saw : v.saw_close ≡ true → known.closed ≡ true
  pub stage : v.stage ≡ Waiting ask
  pub calls : known.calls ≡ v.mine
  pub there : (known.taken ≡ None) × (slot ≡ some (some (Some (Asked ask)))) ⊎ (known.taken ≡ Some ask)

asks_in : (known : Known) (word : ℕ) (slot : Slot) (worker : ℕ) (v : WorkerView) (stage : Stage) → v.stage ≡ stage → v.number ≡ worker
    → (v.saw_close ≡ true → known.closed ≡ true)
    → AtStage known word slot worker v.mine stage → word ≡ 1 → known.closed ≡ false → Asks known slot worker (some (Worker v))
asks_in known word slot worker v Resting is number saw p one running = absurd (let z = p.0 in omega arith)
asks_in known word slot worker v Writing is number saw p one running = absurd (let z = p.0 in omega arith)
asks_in known word slot worker v (Waiting ask) is number saw p one running = ⊎_elim
    (λ o. record { v = v; ask = ask; seat = refl; number = number; saw = saw; stage = is; calls = o.1.1; there = inl (o.1.0, o.2) })
    (λ t. ⊎_elim (λ o. record { v = v; ask = ask; seat = refl; number = number; saw = saw; stage = is; calls = o.2; there = inr o.1 })
    (λ o. absurd (let z = o.0 in omega arith)) t) p
asks_in known word slot worker v (Found ask moment answer) is number saw p one running = absurd (let z = p.0 in omega arith)
asks_in known word slot worker v (Withdrawn ask) is number saw p one running = absurd (true≢false (sym p.3 ∙ running))

-- a word that shows an ask, while the host runs
pub asks : (known : Known) (word : ℕ) (slot : Slot) (worker : ℕ) (view : maybe.Option View) → AtSeat known word slot worker view → word ≡ 1
    → known.closed ≡ false → Asks known slot worker view
asks known word slot worker none p one running = absurd (let z = p.0 in omega arith)
asks known word slot worker (some (Worker v)) p one running = asks_in known word slot worker v v.stage refl p.0 p.1 p.2 one running
asks known word slot worker (some Spent) p one running = absurd (true≢false (sym p.0 ∙ running))
asks known word slot worker (some (House house)) p one running = absurd p

word_in : (known : Known) (word : ℕ) (slot : Slot) (worker : ℕ) (mine : History) (stage : Stage) (ask : Ask) → AtStage known word slot worker mine stage
    → known.taken ≡ Some ask → word ≡ 1
word_in known word slot worker mine Resting ask p t = absurd (none-some ask (sym p.1.0 ∙ t))
word_in known word slot worker mine Writing ask p t = absurd (none-some ask (sym p.1.0 ∙ t))
word_in known word slot worker mine (Waiting asked) ask p t = ⊎_elim (λ o. o.0) (λ z. ⊎_elim (λ o. o.0) (λ o. absurd (none-some ask (sym o.3.0 ∙ t))) z) p
word_in known word slot worker mine (Found asked moment answer) ask p t = absurd (none-some ask (sym p.1.0 ∙ t))
word_in known word slot worker mine (Withdrawn asked) ask p t = p.0

-- the word of a worker whose ask the house has
pub taken_word : (known : Known) (word : ℕ) (slot : Slot) (worker : ℕ) (view : maybe.Option View) (ask : Ask) → AtSeat known word slot worker view
    → known.taken ≡ Some ask → word ≡ 1
taken_word known word slot worker none ask p t = absurd (none-some ask (sym p.1 ∙ t))
taken_word known word slot worker (some (Worker v)) ask p t = word_in known word slot worker v.mine v.stage ask p.2 t
taken_word known word slot worker (some Spent) ask p t = absurd (none-some ask (sym p.1 ∙ t))
taken_word known word slot worker (some (House house)) ask p t = absurd p

closes_in : (known : Known) (word : ℕ) (slot : Slot) (worker : ℕ) (mine : History) (stage : Stage) → AtStage known word slot worker mine stage
    → AtStage (record known { closed = true }) word slot worker mine stage
closes_in known word slot worker mine Resting p = p
closes_in known word slot worker mine Writing p = p
closes_in known word slot worker mine (Waiting ask) p = p
closes_in known word slot worker mine (Found ask moment answer) p = p
closes_in known word slot worker mine (Withdrawn ask) p = (p.0, p.1, p.2, refl)

-- the end of the host changes no worker's word or slot
pub closes_seat : (known : Known) (word : ℕ) (slot : Slot) (worker : ℕ) (view : maybe.Option View) → AtSeat known word slot worker view
    → AtSeat (record known { closed = true }) word slot worker view
closes_seat known word slot worker none p = p
closes_seat known word slot worker (some (Worker v)) p = (p.0, (λ _. refl), closes_in known word slot worker v.mine v.stage p.2)
closes_seat known word slot worker (some Spent) p = (refl, p.1)
closes_seat known word slot worker (some (House house)) p = p

-- a worker's seat at other data
pub at_other : (old new : Known) (word word' : ℕ) (slot slot' : Slot) (worker : ℕ) (view : maybe.Option View) → old ≡ new → word ≡ word' → slot ≡ slot'
    → AtSeat old word slot worker view → AtSeat new word' slot' worker view
at_other old new word word' slot slot' worker view a b c p = subst (λ (z : Known × (ℕ × Slot)). AtSeat z.0 z.1.0 z.1.1 worker view) (λ i. (a i, (b i, c i))) p

-- at the first seat, with the house's own view
pub first_seat : (s : St) (id : ℕ) (v : View) (words : List ℕ) (homes : Homes) → id ≡ 0
    → Kept record { words = words; homes = homes; views = set s.views 0 v } → Kept record { words = words; homes = homes; views = set s.views id v }
first_seat s id v words homes e p = subst (λ (i : ℕ). Kept record { words = words; homes = homes; views = set s.views i v }) (sym e) p

abbrev pub known : History → Option Ask → Bool → Known
known calls taken closed = record { calls = calls; taken = taken; closed = closed }
