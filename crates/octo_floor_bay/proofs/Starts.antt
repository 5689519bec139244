-- The first entry that fits and wasn't passed over is the one that a printer starts next.
use Rattle.std.proofs.Common.{◌≡◌, ℕ, inl, inr, Bool, true, not, ◌&&◌, List, [], ◌∷◌, Option, Some, refl, ◌∙◌}
use Rattle.std.specs.List.{Contains, filter, find}
use Rattle.std.proofs.lemmas.Bool.{cases_Bool}
use Rattle.std.proofs.lemmas.List.Elements.{All-contains, All-contains_itself, All-filter, filter_passes}
use Rattle.print_queue.specs.declared.entry.QueueEntry.{QueueEntry}
use Rattle.print_queue.specs.Lawful.{IsLawful, NextOf}
use Rattle.print_queue.specs.Rows.{fits}
use Rattle.print_queue.proofs.Kept.{lawful_filter}
use Rattle.print_queue.proofs.Next.{next_of}
use Rattle.octo_floor_bay.specs.Stock.{was_passed, startable, may_start}

-- the first that passes two tests is the first of those that pass the second
find_both : (p q : QueueEntry → Bool) (xs : List QueueEntry) → find (λ x. p x && q x) xs ≡ find p (filter q xs)
find_both p q [] = refl
find_both p q (x ∷ xs) =
    elim (cases_Bool (q x)) [
      | inl passes ↦
          elim (cases_Bool (p x)) [
            | inl first ↦ rw passes (rw first refl)
            | inr other ↦ rw passes (rw other (find_both p q xs))
          ]
      | inr stays ↦
          elim (cases_Bool (p x)) [
            | inl first ↦ rw stays (rw first (find_both p q xs))
            | inr other ↦ rw stays (rw other (find_both p q xs))
          ]
    ]

-- what is found is what is started next
pub start_is : (passed : List ℕ) (queue : List QueueEntry) (material : List ℕ) (o : Option QueueEntry) → IsLawful queue →
    o ≡ find (may_start passed material) queue → NextOf (startable passed queue) material o
start_is passed queue material o lawful there =
    next_of material (startable passed queue) o (lawful_filter (λ entry. not (was_passed passed entry)) queue lawful)
    (there ∙ find_both (fits material) (λ entry. not (was_passed passed entry)) queue)

-- what is started next is an entry of the queue
pub start_among : (passed : List ℕ) (queue : List QueueEntry) (material : List ℕ) (entry : QueueEntry) →
    NextOf (startable passed queue) material (Some entry) → Contains queue entry
start_among passed queue material entry next =
    All-contains (Contains queue) (startable passed queue) entry
    (All-filter (λ other. not (was_passed passed other)) (Contains queue) queue (All-contains_itself queue)) next.among

-- and wasn't passed over
pub start_unpassed : (passed : List ℕ) (queue : List QueueEntry) (material : List ℕ) (entry : QueueEntry) →
    NextOf (startable passed queue) material (Some entry) → not (was_passed passed entry) ≡ true
start_unpassed passed queue material entry next =
    All-contains (λ other. not (was_passed passed other) ≡ true) (startable passed queue) entry
    (filter_passes (λ other. not (was_passed passed other)) queue) next.among
