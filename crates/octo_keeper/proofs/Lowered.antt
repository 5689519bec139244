-- Lowering an entry and dropping it at 0 is starting a copy of it.
use Rattle.std.proofs.Common.{◌≡◌, ℕ, ◌-◌, ◌==◌, ◌&&◌, inl, inr, Bool, true, false, not, nat_le, List, [], ◌∷◌, ◌++◌, length, take, drop, map, refl, ap, arith}
use Rattle.std.specs.List.{filter}
use Rattle.std.proofs.lemmas.Grind.{common_steps}
use Rattle.std.proofs.lemmas.Bool.{cases_Bool, cases_lt, le-leb, lt-leb, eq-eqb, ne_eqb}
use Rattle.print_queue.specs.declared.entry.QueueEntry.{QueueEntry}
use Rattle.print_queue.specs.Rows.{is_key, without_copy}
use Rattle.octo_keeper.specs.Tables.{lowered}

-- a row of which nothing is left
abbrev pub is_used : List ℕ → List ℕ → QueueEntry → Bool
is_used user name row = is_key user name row && row.left == 0

pub used_rows : (user name : List ℕ) (rows : List QueueEntry) → filter (λ row. not (is_used user name row)) (map (lowered user name) rows) ≡ without_copy user name rows
used_rows user name [] = refl
used_rows user name (x ∷ xs) =
    let rest = used_rows user name xs in
    elim (cases_Bool (is_key user name x)) [
      | inl key ↦ elim (cases_lt 1 x.left) [
        | inl more ↦
            let many : nat_le x.left 1 ≡ false = lt-leb x.left 1 more in
            let some : (x.left - 1 == 0) ≡ false = ne_eqb (x.left - 1) 0 (λ none. omega arith) in
            rw (key, key, many, some) (ap (λ (ys : List QueueEntry). record x { left = x.left - 1 } ∷ ys) rest)
        | inr last ↦
            let one : nat_le x.left 1 ≡ true = le-leb x.left 1 last in
            let none : (x.left - 1 == 0) ≡ true = eq-eqb (x.left - 1) 0 (omega arith) in
            rw (key, key, one, none) rest
      ]
      | inr other ↦ rw (other, other) (ap (λ (ys : List QueueEntry). x ∷ ys) rest)
    ]

-- a list written over another one of its length is what was written
pub whole_written : {X : Type 0} (n : ℕ) (a b : List X) → length a ≡ length b → n ≡ length b → take n (a ++ drop (length a) b) ≡ a
whole_written n a b same size = grind (arith, common_steps)
