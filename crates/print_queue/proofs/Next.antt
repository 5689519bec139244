-- The first fitting row is the next one.
use Rattle.std.proofs.Common.{◌≡◌, ℕ, ◌≤◌, inl, inr, true, false, List, [], ◌∷◌, suc, Option, Some, None, refl, sym, ◌∙◌, subst, arith}
use Rattle.std.specs.List.{AllByRecursion, Contains, find}
use Rattle.std.proofs.lemmas.Grind.{common_steps}
use Rattle.std.proofs.lemmas.Bool.{cases_Bool, false≢true}
use Rattle.std.proofs.lemmas.List.Elements.{All-from_recursion}
use Rattle.print_queue.specs.declared.entry.QueueEntry.{QueueEntry}
use Rattle.print_queue.specs.Rows.{is_before, fits}
use Rattle.print_queue.specs.Lawful.{IsLawful, NextOf}
use Rattle.print_queue.proofs.Pairs.{Pairs, each_so}
use Rattle.print_queue.proofs.Edits.{Above}
use Rattle.print_queue.proofs.Kept.{above_from}

-- an entry that another doesn't surpass
abbrev pub IsSurpassed : List ℕ → QueueEntry → QueueEntry → Type 0
IsSurpassed material row other = fits material other ≡ true → (other.priority ≤ row.priority) × (other.priority ≡ row.priority → row.arrival ≤ other.arrival)

surpassed_above : (material : List ℕ) (row other : QueueEntry) → Above row other → IsSurpassed material row other
surpassed_above material row other above fitting = (before_priority row other above.0, before_arrival row other above.0)
  where
    before_priority : (a b : QueueEntry) → is_before a b ≡ true → b.priority ≤ a.priority
    before_priority a b before = grind (arith, common_steps)

    before_arrival : (a b : QueueEntry) → is_before a b ≡ true → b.priority ≡ a.priority → a.arrival ≤ b.arrival
    before_arrival a b before same = grind (arith, common_steps)

-- what is found passes, is among the rows, and each fitting row is it or comes after it
record Finds (material : List ℕ) (row : QueueEntry) (rows : List QueueEntry) : Type 0 where
  among : Contains rows row
  fitting : fits material row ≡ true
  each : AllByRecursion (IsSurpassed material row) rows

found : (material : List ℕ) (rows : List QueueEntry) (row : QueueEntry) → Pairs Above rows → find (fits material) rows ≡ Some row → Finds material row rows
found material [] row pairs there = absurd (let h : None ≡ Some row = there in cc)
found material (x ∷ xs) row pairs there =
    elim (cases_Bool (fits material x)) [
      | inl yes' ↦
          let same : x ≡ row = (let h = rw yes' at there in cc) in
          subst (λ (r : QueueEntry). Finds material r (x ∷ xs)) same (record {
            among = (0, omega arith, refl);
            fitting = yes';
            each = ((λ _. (omega arith, λ _. omega arith)), each_so (Above x) (IsSurpassed material x) (surpassed_above material x) xs pairs.0);
          })
      | inr other ↦
          let rest = found material xs row pairs.1 (rw other at there) in
          record {
            among = (suc rest.among.0, omega (arith, rest.among.1), rest.among.2);
            fitting = rest.fitting;
            each = ((λ fitting. absurd (false≢true (sym other ∙ fitting))), rest.each);
          }
    ]

none_found : (material : List ℕ) (rows : List QueueEntry) → find (fits material) rows ≡ None → AllByRecursion (λ row. fits material row ≡ false) rows
none_found material [] there = tt
none_found material (x ∷ xs) there =
    elim (cases_Bool (fits material x)) [
      | inl yes' ↦ absurd (let h = rw yes' at there in cc)
      | inr other ↦ (other, none_found material xs (rw other at there))
    ]

-- the first fitting row of lawful ones is the one that is printed next
pub next_of : (material : List ℕ) (rows : List QueueEntry) (o : Option QueueEntry) → IsLawful rows → o ≡ find (fits material) rows → NextOf rows material o
next_of material rows None lawful there = All-from_recursion (λ row. fits material row ≡ false) rows (none_found material rows (sym there))
next_of material rows (Some row) lawful there =
    let finds = found material rows row (above_from rows lawful) (sym there) in
    let all = All-from_recursion (IsSurpassed material row) rows finds.each in
    record {
      among = finds.among;
      fitting = finds.fitting;
      greatest = λ k d within fitting. (all k d within fitting).0;
      least = λ k d within fitting. (all k d within fitting).1;
    }
