-- What a step leaves of the rule: a worker's step changes one word, slot and view, a step of the house its view.
use Rattle.std.proofs.Common.{◌≡◌, ◌≢◌, ℕ, zero, suc, ◌<◌, ◌≤◌, true, List, length, get_or, set, sym, refl, ap, ◌∙◌, subst, arith, Option, None, length-set, get_or-set_other, get_or-set_same}
use mathlib.Core.Logic.{dite}
use mathlib.Core.Option.{none, some, some-injective}
use mathlib.Core.Option as maybe
use native.Mathlib.Decide.{ℕ_discrete}
use lib.ListN.{get_elem?}
use lib.Seq.{set-get_or}
use Rattle.atomic_table.specs.Table.{State}
use Rattle.atomic_table.proofs.Lists.{set_here, set_else}
use Rattle.octo_asks.specs.History.{History, calls_of}
use Rattle.octo_serve.specs.declared.board.Letter.{Letter}
use Rattle.octo_serve.specs.declared.board.WorkerView.{WorkerView}
use Rattle.octo_serve.specs.declared.board.HouseView.{HouseView}
use Rattle.octo_serve.specs.declared.board.View.{View}
use Rattle.octo_serve.specs.declared.board.View.TheVariants.{House, Worker}
use Rattle.octo_serve.specs.Views.{known_of, house_of, has_close}
use Rattle.octo_serve.specs.Rule.{Kept, AtSeat, Slot, note_word}
use Rattle.octo_serve.proofs.Lists.{within}

abbrev pub St : Type 0
St = State (Option Letter) View

abbrev pub Homes : Type 0
Homes = List (maybe.Option (Option Letter))

abbrev OnlyHouse : View → Type 0
OnlyHouse (House house) = Unit {0}
OnlyHouse _ = ⊥

-- a house's seat is the first
pub housed : (s : St) (k : Kept s) (id : ℕ) (house : HouseView) → get_elem? s.views id ≡ some (House house) → (id ≡ 0) × (k.house ≡ house)
housed s k zero house at = (refl, ap house_of (some-injective _ _ (sym k.seat ∙ at)))
housed s k (suc w) house at = let long = within s.views (suc w) (House house) at in let made = k.made in let m₀ = made.0 in let m₁ = made.1 in
    absurd (subst (AtSeat (known_of k.house w) (get_or s.words (suc w) 0) (get_elem? s.homes w) w) at (k.each w (omega arith)))

-- each worker's seat is as the house that is at the table has it
pub seat_of : (s : St) (k : Kept s) (house : HouseView) → k.house ≡ house → (j : ℕ) → j < 4
    → AtSeat (known_of house j) (get_or s.words (suc j) 0) (get_elem? s.homes j) j (get_elem? s.views (suc j))
seat_of s k house here j l = subst (λ (z : HouseView). AtSeat (known_of z j) (get_or s.words (suc j) 0) (get_elem? s.homes j) j (get_elem? s.views (suc j))) here
    (k.each j l)

-- the worker's seat is its number's, after the house's
pub seated : (s : St) (k : Kept s) (id : ℕ) (worker : WorkerView) → get_elem? s.views id ≡ some (Worker worker) → (worker.number < 4) × (id ≡ suc worker.number)
seated s k zero worker at = absurd (subst OnlyHouse (some-injective _ _ (sym k.seat ∙ at)) tt)
seated s k (suc w) worker at = let long = within s.views (suc w) (Worker worker) at in let made = k.made in let m₀ = made.0 in let m₁ = made.1 in
    let near : w < 4 = omega arith in
    let is = (subst (AtSeat (known_of k.house w) (get_or s.words (suc w) 0) (get_elem? s.homes w) w) at (k.each w near)).0 in
    (subst (λ (n : ℕ). n < 4) (sym is) near, ap suc (sym is))

-- what the rule says of a worker
pub part : (s : St) (k : Kept s) (id : ℕ) (worker : WorkerView) → get_elem? s.views id ≡ some (Worker worker)
    → AtSeat (known_of k.house worker.number) (get_or s.words (suc worker.number) 0) (get_elem? s.homes worker.number) worker.number (some (Worker worker))
part s k id worker at = let q = seated s k id worker at in
    subst (AtSeat (known_of k.house worker.number) (get_or s.words (suc worker.number) 0) (get_elem? s.homes worker.number) worker.number)
    (ap (get_elem? s.views) (sym q.1) ∙ at) (k.each worker.number q.0)

-- a worker's step
pub moves : (s : St) (k : Kept s) (id : ℕ) (old new : WorkerView) (word : ℕ) (homes : Homes) → get_elem? s.views id ≡ some (Worker old)
    → length homes ≡ length s.homes
    → ((j : ℕ) → j ≢ old.number → get_elem? homes j ≡ get_elem? s.homes j)
    → AtSeat (known_of k.house old.number) word (get_elem? homes old.number) old.number (some (Worker new))
    → Kept record { words = set s.words (suc old.number) word; homes = homes; views = set s.views id (Worker new) }
moves s k id old new word homes at long others here = let q = seated s k id old at in let w : ℕ = old.number in let near : w < 4 = q.0 in
    let is : id ≡ suc w = q.1 in let wide = k.wide in let inside = within s.views id (Worker old) at in record {
      house = k.house;
      seat = set_else s.views id 0 (Worker new) (λ e. omega arith) ∙ k.seat;
      made = (length-set s.views id (Worker new) ∙ k.made.0, k.made.1);
      wide = length-set s.words (suc w) word ∙ k.wide;
      deep = long ∙ k.deep;
      note = get_or-set_other s.words (suc w) 0 word 0 (λ e. omega arith) ∙ k.note;
      close = k.close;
      ended = k.ended;
      joined = k.joined;
      each = λ j l. dite (ℕ_discrete j w)
          (λ e. subst (λ (i : ℕ). AtSeat (known_of k.house i) (get_or (set s.words (suc w) word) (suc i) 0) (get_elem? homes i) i (get_elem? (set s.views id
          (Worker new)) (suc i))) (sym e)
          (subst (λ (z : ℕ × maybe.Option View). AtSeat (known_of k.house w) z.0 (get_elem? homes w) w z.1)
          (λ i. (
            sym (get_or-set_same s.words (suc w) word 0 (omega arith)) i,
            sym (ap (get_elem? (set s.views id (Worker new))) (sym is)
                ∙ set_here s.views id (Worker new) inside) i,
          )) here))
          (λ other. subst (λ (z : ℕ × (Slot × maybe.Option View)). AtSeat (known_of k.house j) z.0 z.1.0 j z.1.1)
          (λ i. (
            sym (get_or-set_other s.words (suc w) (suc j) word 0 (λ e. other (omega arith))) i,
            (
              sym (others j other) i,
              sym (set_else s.views id (suc j) (Worker new) (λ e. other (omega arith))) i,
            ),
          )) (k.each j l));
    }

-- a worker's load of any word
pub loads : (s : St) (k : Kept s) (id i : ℕ) (old new : WorkerView) (homes : Homes) → get_elem? s.views id ≡ some (Worker old) → length homes ≡ length s.homes
    → ((j : ℕ) → j ≢ old.number → get_elem? homes j ≡ get_elem? s.homes j)
    → AtSeat (known_of k.house old.number) (get_or s.words (suc old.number) 0) (get_elem? homes old.number) old.number (some (Worker new))
    → Kept record { words = set s.words i (get_or s.words i 0); homes = homes; views = set s.views id (Worker new) }
loads s k id i old new homes at long others here = subst (λ (ws : List ℕ). Kept record { words = ws; homes = homes; views = set s.views id (Worker new) })
    (set-get_or s.words (suc old.number) 0 ∙ sym (set-get_or s.words i 0)) (moves s k id old new (get_or s.words (suc old.number) 0) homes at long others here)

-- a step of the house
pub house_moves : (s : St) (k : Kept s) (new : HouseView) (words : List ℕ) (homes : Homes) → new.made ≡ k.house.made → length words ≡ length s.words
    → length homes ≡ length s.homes
    → get_or words 0 0 ≡ note_word new.closed → (new.closed ≡ true → new.taken ≡ None) → has_close new.history ≡ new.closed
    → ((worker : ℕ) (mine : History) → get_elem? new.joined worker ≡ some mine → (new.closed ≡ true) × (calls_of worker new.history ≡ mine))
    → ((w : ℕ) → w < 4 → AtSeat (known_of new w) (get_or words (suc w) 0) (get_elem? homes w) w (get_elem? s.views (suc w)))
    → Kept record { words = words; homes = homes; views = set s.views 0 (House new) }
house_moves s k new words homes made wide deep note close ended joined each = let m = k.made in let m₀ = m.0 in record {
  house = new;
  seat = set_here s.views 0 (House new) (omega arith);
  made = (length-set s.views 0 (House new) ∙ (k.made.0 ∙ ap suc (sym made)), subst (λ (n : ℕ). n ≤ 4) (sym made) k.made.1);
  wide = wide ∙ k.wide;
  deep = deep ∙ k.deep;
  note = note;
  close = close;
  ended = ended;
  joined = joined;
  each = λ w l. subst (AtSeat (known_of new w) (get_or words (suc w) 0) (get_elem? homes w) w) (sym (set_else s.views 0 (suc w) (House new)
      (λ e. omega arith))) (each w l);
}
