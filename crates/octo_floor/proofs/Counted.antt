-- A ledger's counts after one more event.
use Rattle.std.proofs.Common.{◌≡◌, ℕ, ◌+◌, ◌≤◌, ◌<◌, Bool, true, false, List, [], ◌∷◌, ◌++◌, length, refl, sym, ◌∙◌, ap, subst, append-nil, arith}
use Rattle.std.specs.Prelude.{count_by, cond}
use Rattle.std.proofs.lemmas.List.Sums.{sum_by-append}
use Rattle.print_queue.specs.declared.ending.Ending.{Ending}
use Rattle.print_queue.specs.declared.entry.QueueEntry.{QueueEntry}
use Rattle.print_queue.specs.declared.row.PrintRow.{PrintRow}
use Rattle.octo_floor_bay.specs.Events.{FloorHistory, started_rows, endings}
use Rattle.octo_floor_bay.specs.declared.event.FloorEvent.TheVariants.{Ended, Started}
use Rattle.octo_floor_bay.proofs.Histories.{rows_more, endings_more}
use Rattle.octo_floor.specs.Counted.{IsTallyOf, is_done, is_failed, one_if}
use Rattle.octo_floor.specs.declared.tally.Tally.{Tally}

-- events without a start start nothing, and events without an end end nothing
pub same_rows : (events more : FloorHistory) → started_rows more ≡ [] → started_rows (events ++ more) ≡ started_rows events
same_rows events more none =
    rows_more events more ∙ ap (λ (rows : List PrintRow). started_rows events ++ rows) none ∙ append-nil (started_rows events)

pub same_endings : (events more : FloorHistory) → endings more ≡ [] → endings (events ++ more) ≡ endings events
same_endings events more none =
    endings_more events more ∙ ap (λ (ends : List Ending). endings events ++ ends) none ∙ append-nil (endings events)

-- one more
length-more : {X : Type 0} (xs : List X) (x : X) → length (xs ++ x ∷ []) ≡ length xs + 1
length-more [] x = refl
length-more (y ∷ xs) x = let so : length (xs ++ x ∷ []) ≡ length xs + 1 = length-more xs x in omega (arith, so)

pub one_row : (events : FloorHistory) (printer : ℕ) (row : PrintRow) (entry : QueueEntry) →
    length (started_rows (events ++ Started printer row entry ∷ [])) ≡ length (started_rows events) + 1
one_row events printer row entry =
    ap (λ (rows : List PrintRow). length rows) (rows_more events (Started printer row entry ∷ [])) ∙ length-more (started_rows events) row

pub one_ending : (events : FloorHistory) (printer : ℕ) (ending : Ending) →
    length (endings (events ++ Ended printer ending ∷ [])) ≡ length (endings events) + 1
one_ending events printer ending =
    ap (λ (ends : List Ending). length ends) (endings_more events (Ended printer ending ∷ [])) ∙ length-more (endings events) ending

one_more : (test : Ending → Bool) (ending : Ending) → count_by test (ending ∷ []) ≡ one_if (test ending)
one_more test ending = by (test ending)
  where
    by : (b : Bool) → 0 + cond b 1 0 ≡ one_if b
    by true = refl
    by false = refl

count_more : (test : Ending → Bool) (events : FloorHistory) (printer : ℕ) (ending : Ending) →
    count_by test (endings (events ++ Ended printer ending ∷ [])) ≡ count_by test (endings events) + one_if (test ending)
count_more test events printer ending =
    ap (λ (ends : List Ending). count_by test ends) (endings_more events (Ended printer ending ∷ []))
    ∙ sum_by-append (λ (e : Ending). cond (test e) 1 0) (endings events) (ending ∷ [])
    ∙ ap (λ (n : ℕ). count_by test (endings events) + n) (one_more test ending)

-- a tally counts on
pub same_tally : (events more : FloorHistory) (tally : Tally) → started_rows more ≡ [] → endings more ≡ [] → IsTallyOf events tally → IsTallyOf (events ++ more) tally
same_tally events more tally no_row no_end t = record {
  prints = t.prints ∙ sym (ap (λ (rows : List PrintRow). length rows) (same_rows events more no_row));
  done = t.done ∙ sym (ap (λ (ends : List Ending). count_by is_done ends) (same_endings events more no_end));
  failed = t.failed ∙ sym (ap (λ (ends : List Ending). count_by is_failed ends) (same_endings events more no_end));
}

pub start_tally : (events : FloorHistory) (printer : ℕ) (row : PrintRow) (entry : QueueEntry) (tally : Tally) → IsTallyOf events tally →
    IsTallyOf (events ++ Started printer row entry ∷ []) (record tally { prints = tally.prints + 1 })
start_tally events printer row entry tally t =
    let none : endings (Started printer row entry ∷ []) ≡ [] = refl in
    record {
      prints = ap (λ (n : ℕ). n + 1) t.prints ∙ sym (one_row events printer row entry);
      done = t.done ∙ sym (ap (λ (ends : List Ending). count_by is_done ends) (same_endings events (Started printer row entry ∷ []) none));
      failed = t.failed ∙ sym (ap (λ (ends : List Ending). count_by is_failed ends) (same_endings events (Started printer row entry ∷ []) none));
    }

pub end_tally : (events : FloorHistory) (printer : ℕ) (ending : Ending) (tally : Tally) → IsTallyOf events tally →
    IsTallyOf (events ++ Ended printer ending ∷ []) (record tally { done = tally.done + one_if (is_done ending); failed = tally.failed + one_if (is_failed ending) })
end_tally events printer ending tally t =
    let none : started_rows (Ended printer ending ∷ []) ≡ [] = refl in
    record {
      prints = t.prints ∙ sym (ap (λ (rows : List PrintRow). length rows) (same_rows events (Ended printer ending ∷ []) none));
      done = ap (λ (n : ℕ). n + one_if (is_done ending)) t.done ∙ sym (count_more is_done events printer ending);
      failed = ap (λ (n : ℕ). n + one_if (is_failed ending)) t.failed ∙ sym (count_more is_failed events printer ending);
    }

-- what a ledger keeps: its tally, and a record for each print that was started
pub record Holds (history : FloorHistory) (tally : Tally) (records : ℕ) : Type 0 where
  pub tally_of : IsTallyOf history tally
  pub recorded : length (started_rows history) ≤ records

pub hold_more : (events more now : FloorHistory) (tally : Tally) (records later : ℕ) → now ≡ events ++ more → started_rows more ≡ [] → endings more ≡ [] →
    records ≤ later → IsTallyOf events tally → length (started_rows events) ≤ records → Holds now tally later
hold_more events more now tally records later is no_row no_end fewer t few =
    let so : Holds (events ++ more) tally later = record {
      tally_of = same_tally events more tally no_row no_end t;
      recorded =
          let rows : length (started_rows (events ++ more)) ≡ length (started_rows events) = ap (λ (rs : List PrintRow). length rs) (same_rows events more no_row) in
          omega (arith, rows, few, fewer);
    }
    in
    subst (λ (h : FloorHistory). Holds h tally later) (sym is) so

pub hold_start : (events now : FloorHistory) (printer : ℕ) (row : PrintRow) (entry : QueueEntry) (tally after : Tally) (records : ℕ) →
    now ≡ events ++ Started printer row entry ∷ [] → after ≡ record tally { prints = tally.prints + 1 } → length (started_rows events) < records →
    IsTallyOf events tally → Holds now after records
hold_start events now printer row entry tally after records is counted fewer t =
    let so : Holds (events ++ Started printer row entry ∷ []) (record tally { prints = tally.prints + 1 }) records = record {
      tally_of = start_tally events printer row entry tally t;
      recorded = let rows = one_row events printer row entry in omega (arith, rows, fewer);
    }
    in
    subst (λ (h : FloorHistory). Holds h after records) (sym is) (subst (λ (u : Tally). Holds (events ++ Started printer row entry ∷ []) u records) (sym counted) so)

pub hold_end : (events now : FloorHistory) (printer : ℕ) (ending : Ending) (tally after : Tally) (records : ℕ) → now ≡ events ++ Ended printer ending ∷ [] →
    after ≡ record tally { done = tally.done + one_if (is_done ending); failed = tally.failed + one_if (is_failed ending) } → IsTallyOf events tally →
    length (started_rows events) ≤ records → Holds now after records
hold_end events now printer ending tally after records is counted t few =
    let more : Tally = record tally { done = tally.done + one_if (is_done ending); failed = tally.failed + one_if (is_failed ending) } in
    let so : Holds (events ++ Ended printer ending ∷ []) more records = record {
      tally_of = end_tally events printer ending tally t;
      recorded =
          let none : started_rows (Ended printer ending ∷ []) ≡ [] = refl in
          let rows : length (started_rows (events ++ Ended printer ending ∷ [])) ≡ length (started_rows events) =
          ap (λ (rs : List PrintRow). length rs) (same_rows events (Ended printer ending ∷ []) none)
          in
          omega (arith, rows, few);
    }
    in
    subst (λ (h : FloorHistory). Holds h after records) (sym is) (subst (λ (u : Tally). Holds (events ++ Ended printer ending ∷ []) u records) (sym counted) so)
