-- Seats that are made and joined, as the code has them.
use Rattle.std.proofs.Common.{◌≡◌, ℕ, zero, suc, ◌+◌, ◌<◌, true, List, [], ◌∷◌, length, get_or, drop, sym, refl, ap, ◌∙◌, subst, arith}
use mathlib.Core.Option.{some}
use lib.ListN.{get_elem?}
use Rattle.atomic_table.specs.Table.{Splits, Joins}
use Rattle.atomic_table.specs.Seated.{TableId}
use Rattle.octo_asks.specs.History.{History, calls_of}
use Rattle.octo_asks.specs.Place.{Place}
use Rattle.octo_serve.specs.declared.board.Stage.TheVariants.{Resting}
use Rattle.octo_serve.specs.declared.board.WorkerView.{WorkerView}
use Rattle.octo_serve.specs.declared.board.HouseView.{HouseView}
use Rattle.octo_serve.specs.declared.board.View.TheVariants.{House, Worker, Spent}
use Rattle.octo_serve.specs.Views.{house_of, AreCalls}
use Rattle.octo_serve.specs.Rule.{Kept}
use Rattle.octo_serve.specs.Steps.{Sitter, house_left, worker_right, joined_with}
use Rattle.octo_serve.specs.Ends.{HouseData, seat_at, house_place}
use Rattle.octo_serve.proofs.Seating.{splits, joins}

pub splits_as : (id : ℕ) (me : Sitter) (h : HouseView) → me ≡ (House h, []) → h.made < 4 → Splits Kept id me.0 (house_left me.0) (worker_right me.0)
splits_as id me h is room = subst (λ (m : Sitter). Splits Kept id m.0 (house_left m.0) (worker_right m.0)) (sym is) (splits id h room)

pub joins_as : (id other : ℕ) (me him : Sitter) (h : HouseView) (v : WorkerView) → me ≡ (House h, []) → him ≡ (Worker v, []) → h.closed ≡ true
    → v.stage ≡ Resting → v.number ≡ length h.joined
    → Joins Kept id me.0 other him.0 (joined_with me.0 him.0) Spent
joins_as id other me him h v is his closed stage order = subst (λ (z : Sitter × Sitter). Joins Kept id z.0.0 other z.1.0 (joined_with z.0.0 z.1.0) Spent)
    (λ i. (sym is i, sym his i)) (joins id h other v closed stage order)

-- seats that are equal are at one table, and have one number
pub same_table : (a b : TableId) (n m : ℕ) → seat_at a n ≡ seat_at b m → a ≡ b
same_table a b n m e = λ i. record {
  words = get_or (e i).table 0 0;
  slots = get_or (e i).table 1 0;
  views_name = get_or (e i).table 2 0;
  atom = get_or (e i).table 3 0;
  block = get_or (e i).table 4 0;
  offset = get_or (e i).table 5 0;
  slot_names = drop 6 (e i).table;
}

pub same_number : (a b : TableId) (n m : ℕ) → seat_at a n ≡ seat_at b m → n ≡ m
same_number a b n m e = let same : n + 1 ≡ m + 1 = ap (λ (p : Place). p.seat) e in omega arith

-- a house with nothing in hand
pub as_house : (me : Sitter) (h : HouseView) → me ≡ (House h, []) → me ≡ (House (house_of me.0), [])
as_house me h e = e ∙ ap (λ (m : Sitter). (House (house_of m.0), [])) (sym e)

-- lists that are each worker's calls
pub are_calls : (history : History) (first : ℕ) (mines : List History)
    → ((i : ℕ) (mine : History) → get_elem? mines i ≡ some mine → calls_of (first + i) history ≡ mine) → AreCalls history first mines
are_calls history first [] f = tt
are_calls history first (m ∷ ms) f =
    let here : first + zero ≡ first = omega arith in (
      subst (λ (k : ℕ). calls_of k history ≡ m) here (f zero m refl),
      are_calls history (first + 1) ms (λ i mine e. let next : first + suc i ≡ first + 1 + i = omega arith in
          subst (λ (k : ℕ). calls_of k history ≡ mine) next (f (suc i) mine e)),
    )

pub all_calls : (me : Sitter) → ((worker : ℕ) (mine : History) → get_elem? (house_of me.0).joined worker ≡ some mine
    → calls_of worker (house_of me.0).history ≡ mine)
    → AreCalls (house_of me.0).history 0 (house_of me.0).joined
all_calls me f = are_calls (house_of me.0).history 0 (house_of me.0).joined
    (λ i mine e. let same : i ≡ 0 + i = omega arith in subst (λ (k : ℕ). calls_of k (house_of me.0).history ≡ mine) same (f i mine e))

-- the seats beside a house end stay as they are
pub seat_beside : (old new : HouseData) (n : ℕ) → house_place new ≡ house_place old → seat_at old.table n ≡ seat_at new.table n
seat_beside old new n e = ap (λ (p : Place). let x : Place = record { table = p.table; seat = n + 1 } in x) (sym e)
