-- Each start takes one copy, and the queue stays lawful.
use Rattle.std.proofs.Common.{◌≡◌, ℕ, ◌<◌, ◌≤◌, inl, inr, true, not, nat_le, List, [], ◌∷◌, length, get_or, suc, refl, sym, subst, arith}
use Rattle.std.specs.List.{AllByRecursion, Contains, list_any, position_or_len}
use Rattle.std.proofs.lemmas.Bool.{cases_Bool}
use Rattle.std.proofs.lemmas.Bool.Decides.{nat_tests}
use Rattle.std.proofs.lemmas.List.{get_or_default}
use Rattle.std.proofs.lemmas.List.Elements.{recursion_from_All}
use Rattle.std.proofs.lemmas.List.Folds.{list_any_at}
use Rattle.print_queue.specs.declared.entry.QueueEntry.{QueueEntry}
use Rattle.print_queue.specs.Lawful.{IsApart, IsWholeRow, IsLawful}
use Rattle.print_queue.specs.Rows.{is_key, without_copy}
use Rattle.print_queue.proofs.Comparisons.{key_own}
use Rattle.print_queue.proofs.Edits.{free_after, without_copy_free, copy_removes}
use Rattle.print_queue.proofs.Kept.{apart_from, lawful_filter}
use Rattle.print_queue.proofs.Pairs.{Pairs}
use Rattle.print_queue.proofs.Restored.{IsAt, at_held, lawful_copy}
use Rattle.octo_floor_bay.specs.Events.{FloorHistory}
use Rattle.octo_floor_bay.specs.Laws.{CopiesAreCounted}
use Rattle.octo_floor_bay.specs.Stock.{Stock, after_event, after_events, AllMayCome, copies_left}
use Rattle.octo_floor_bay.specs.declared.event.FloorEvent.TheVariants.{Noted, Ended, Started, Passed}
use Rattle.octo_floor_bay.proofs.Starts.{start_among}

-- an entry of the queue is one of its own key
pub keyed : (queue : List QueueEntry) (entry : QueueEntry) → Contains queue entry → list_any (is_key entry.user entry.name) queue ≡ true
keyed queue entry there =
    list_any_at (is_key entry.user entry.name) queue there.0 entry there.1
    (subst (λ (row : QueueEntry). is_key entry.user entry.name row ≡ true) (sym there.2) (key_own entry))

-- one copy less is left after one of a held entry was started
copy_less : (user name : List ℕ) (rows : List QueueEntry) → Pairs IsApart rows → AllByRecursion IsWholeRow rows → list_any (is_key user name) rows ≡ true →
    copies_left rows ≡ suc (copies_left (without_copy user name rows))
copy_less user name [] pairs whole held = absurd (cc)
copy_less user name (row ∷ rows) pairs whole held =
    elim (cases_Bool (is_key user name row)) [
      | inl key ↦
          let same = without_copy_free user name rows (free_after user name row rows key pairs.0) in
          let some = whole.0.some in
          elim (cases_Bool (nat_le row.left 1)) [
            | inl last ↦
                let one : row.left ≤ 1 = grind (arith, nat_tests) in
                rw key (rw last (rw same (omega arith)))
            | inr more ↦
                let many : 1 < row.left = grind (arith, nat_tests) in
                rw key (rw more (rw same (omega arith)))
          ]
      | inr other ↦
          let rest = copy_less user name rows pairs.1 whole.1 (rw other at held) in
          rw other (omega arith)
    ]

-- an entry that is held has a place
within_rows : (user name : List ℕ) (rows : List QueueEntry) → list_any (is_key user name) rows ≡ true → position_or_len (is_key user name) rows < length rows
within_rows user name [] held = absurd (cc)
within_rows user name (row ∷ rows) held =
    elim (cases_Bool (is_key user name row)) [
      | inl key ↦ rw key (omega arith)
      | inr other ↦ let rest = within_rows user name rows (rw other at held) in rw other (omega arith)
    ]

-- a queue stays lawful when a copy of a held entry is started
copy_lawful : (d : QueueEntry) (user name : List ℕ) (rows : List QueueEntry) → IsLawful rows → list_any (is_key user name) rows ≡ true →
    IsLawful (without_copy user name rows)
copy_lawful d user name rows lawful held =
    let place = position_or_len (is_key user name) rows in
    let within = within_rows user name rows held in
    let row = get_or rows place d in
    let at' : IsAt user name rows place row = record { first = refl; within = within; there = sym (get_or_default rows place row d within) } in
    elim (cases_Bool (nat_le row.left 1)) [
      | inl last ↦
          let one : row.left ≤ 1 = grind (arith, nat_tests) in
          subst IsLawful (sym (copy_removes user name rows (apart_from rows lawful) row (at_held user name rows place row at') one))
          (lawful_filter (λ other. not (is_key user name other)) rows lawful)
      | inr more ↦
          let many : 1 < row.left = grind (arith, nat_tests) in
          lawful_copy user name rows place row lawful at' many
    ]

-- a start takes one copy
start_takes : (s : Stock) (entry : QueueEntry) → IsLawful s.queue → Contains s.queue entry →
    copies_left s.queue ≡ suc (copies_left (without_copy entry.user entry.name s.queue))
start_takes s entry lawful there =
    copy_less entry.user entry.name s.queue (apart_from s.queue lawful) (recursion_from_All IsWholeRow s.queue lawful.sound.whole) (keyed s.queue entry there)

-- a queue stays lawful after an event
pub lawful_after : (materials : List (List ℕ)) (s : Stock) (events : FloorHistory) → IsLawful s.queue → AllMayCome materials s events →
    IsLawful (after_events events s).queue
lawful_after materials s [] lawful all = lawful
lawful_after materials s (Started at row entry ∷ events) lawful all =
    let there = start_among s.passed s.queue all.0.material entry all.0.next in
    lawful_after materials (after_event (Started at row entry) s) events
    (copy_lawful entry entry.user entry.name s.queue lawful (keyed s.queue entry there)) all.1
lawful_after materials s (Passed entry ∷ events) lawful all = lawful_after materials (after_event (Passed entry) s) events lawful all.1
lawful_after materials s (Noted at note ∷ events) lawful all = lawful_after materials s events lawful all.1
lawful_after materials s (Ended at ending ∷ events) lawful all = lawful_after materials s events lawful all.1

-- the copies at first are those that are left, and one for each print
pub copies_counted : (materials : List (List ℕ)) (s : Stock) (events : FloorHistory) → CopiesAreCounted materials s events
copies_counted materials s [] lawful all = omega arith
copies_counted materials s (Started at row entry ∷ events) lawful all =
    let there = start_among s.passed s.queue all.0.material entry all.0.next in
    let step = start_takes s entry lawful there in
    let rest = copies_counted materials (after_event (Started at row entry) s) events
    (copy_lawful entry entry.user entry.name s.queue lawful (keyed s.queue entry there)) all.1 in
    omega arith
copies_counted materials s (Passed entry ∷ events) lawful all = copies_counted materials (after_event (Passed entry) s) events lawful all.1
copies_counted materials s (Noted at note ∷ events) lawful all = copies_counted materials s events lawful all.1
copies_counted materials s (Ended at ending ∷ events) lawful all = copies_counted materials s events lawful all.1
