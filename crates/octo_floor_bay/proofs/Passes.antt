-- An entry that was passed over is not started any more.
use Rattle.std.proofs.Common.{◌≡◌, ◌≢◌, ℕ, Bool, true, false, not, ◌||◌, ◌==◌, List, [], ◌∷◌, ◌++◌, refl, sym, ◌∙◌, arith}
use Rattle.std.specs.List.{AllByRecursion, list_any}
use Rattle.std.proofs.lemmas.Bool.Decides.{nat_tests}
use Rattle.std.proofs.lemmas.List.Elements.{All-from_recursion}
use Rattle.std.proofs.lemmas.List.Folds.{list_any-append}
use Rattle.print_queue.specs.declared.entry.QueueEntry.{QueueEntry}
use Rattle.print_queue.proofs.Pairs.{each_so}
use Rattle.octo_floor_bay.specs.Events.{FloorHistory, started_entries}
use Rattle.octo_floor_bay.specs.Laws.{PassedStayOut}
use Rattle.octo_floor_bay.specs.Stock.{Stock, was_passed, after_event, AllMayCome}
use Rattle.octo_floor_bay.specs.declared.event.FloorEvent.TheVariants.{Noted, Ended, Started, Passed}
use Rattle.octo_floor_bay.proofs.Starts.{start_unpassed}

no-longer : (b : Bool) → not b ≡ true → b ≡ false
no-longer true h = absurd (cc)
no-longer false h = refl

neither : (a b : Bool) → (a || b) ≡ false → a ≡ false
neither true b h = absurd (cc)
neither false b h = refl

later-part : (a b : Bool) → (a || b) ≡ false → b ≡ false
later-part true b h = absurd (cc)
later-part false b h = h

-- an entry that isn't among more isn't among fewer
fewer : (passed : List ℕ) (arrival : ℕ) (entry : QueueEntry) → was_passed (passed ++ arrival ∷ []) entry ≡ false → was_passed passed entry ≡ false
fewer passed arrival entry h =
    neither (was_passed passed entry) (list_any (λ other. other == entry.arrival) (arrival ∷ []))
    (sym (list_any-append (λ other. other == entry.arrival) passed (arrival ∷ [])) ∙ h)

started_unpassed : (materials : List (List ℕ)) (s : Stock) (events : FloorHistory) → AllMayCome materials s events →
    AllByRecursion (λ entry. was_passed s.passed entry ≡ false) (started_entries events)
started_unpassed materials s [] all = tt
started_unpassed materials s (Started at row entry ∷ events) all = (
  no-longer (was_passed s.passed entry) (start_unpassed s.passed s.queue all.0.material entry all.0.next),
  started_unpassed materials (after_event (Started at row entry) s) events all.1,
)
started_unpassed materials s (Passed entry ∷ events) all =
    each_so (λ other. was_passed (s.passed ++ entry.arrival ∷ []) other ≡ false) (λ other. was_passed s.passed other ≡ false)
    (fewer s.passed entry.arrival) (started_entries events)
    (started_unpassed materials (after_event (Passed entry) s) events all.1)
started_unpassed materials s (Noted at note ∷ events) all = started_unpassed materials s events all.1
started_unpassed materials s (Ended at ending ∷ events) all = started_unpassed materials s events all.1

-- an entry that isn't among these arrivals has another arrival than the last of them
other-arrival : (passed : List ℕ) (entry other : QueueEntry) → was_passed (passed ++ entry.arrival ∷ []) other ≡ false → other.arrival ≢ entry.arrival
other-arrival passed entry other h =
    let p : ℕ → Bool = λ arrival. arrival == other.arrival in
    let last : list_any p (entry.arrival ∷ []) ≡ false =
    later-part (list_any p passed) (list_any p (entry.arrival ∷ [])) (sym (list_any-append p passed (entry.arrival ∷ [])) ∙ h)
    in
    let differ : (entry.arrival == other.arrival) ≡ false = neither (entry.arrival == other.arrival) (list_any p []) last in
    λ same. grind (arith, nat_tests)

-- no entry is started after it was passed over
pub passed_stay_out : (materials : List (List ℕ)) (s : Stock) (events : FloorHistory) → AllMayCome materials s events → PassedStayOut events
passed_stay_out materials s [] all = tt
passed_stay_out materials s (Passed entry ∷ events) all =
    let later = after_event (Passed entry) s in (
      All-from_recursion (λ other. other.arrival ≢ entry.arrival) (started_entries events)
          (each_so (λ other. was_passed (s.passed ++ entry.arrival ∷ []) other ≡ false) (λ other. other.arrival ≢ entry.arrival)
          (other-arrival s.passed entry) (started_entries events)
          (started_unpassed materials later events all.1)),
      passed_stay_out materials later events all.1,
    )
passed_stay_out materials s (Started at row entry ∷ events) all = passed_stay_out materials (after_event (Started at row entry) s) events all.1
passed_stay_out materials s (Noted at note ∷ events) all = passed_stay_out materials s events all.1
passed_stay_out materials s (Ended at ending ∷ events) all = passed_stay_out materials s events all.1
