-- The keeper's tables stay those of the floor.
use Rattle.std.proofs.Common.{◌≡◌, inl, inr, ℕ, suc, ◌+◌, ◌<◌, Bool, true, false, cond, nat_eq, List, [], ◌∷◌, ◌++◌, length, map, Option, None, Some, option_map, refl, sym, ◌∙◌, ap, subst, append-nil, append_assoc, arith}
use Rattle.std.proofs.lemmas.Bool.Decides.{nat_tests}
use Rattle.std.specs.Prelude.{IfSome, slice_index_or}
use Rattle.octo_keeper.specs.Tables.{ended_row, with_end}
use Rattle.octo_keeper.specs.declared.shelf.ShelfFile.{ShelfFile}
use Rattle.octo_keeper.specs.declared.tables.Tables.{Tables}
use Rattle.job_desk.specs.declared.issued.Note.{Note}
use Rattle.print_queue.specs.Rows.{without_copy}
use Rattle.print_queue.specs.declared.ending.Ending.{Ending}
use Rattle.print_queue.specs.declared.entry.QueueEntry.{QueueEntry}
use Rattle.print_queue.specs.declared.row.PrintRow.{PrintRow}
use Rattle.octo_floor_bay.specs.Bay.{BayData}
use Rattle.octo_floor_bay.specs.Events.{FloorHistory, started_rows, endings}
use Rattle.octo_floor_bay.specs.Stock.{after_event}
use Rattle.octo_floor_bay.specs.declared.event.FloorEvent.TheVariants.{Noted, Ended, Started, Passed}
use Rattle.octo_floor_bay.specs.Written.{written}
use Rattle.octo_floor.specs.Ledger.{LedgerData, with_events, with_end_written, with_fault, noted_events}
use Rattle.octo_floor.specs.Step.{IsEndTold, Begins, faulty, passed, started, not_free, nothing_fits, takes}
use Rattle.octo_floor.proofs.Counted.{same_rows, same_endings, one_row, one_ending}
use Rattle.octo_floor.specs.Tables.{with_end_if, rows_after, AreKeptSince, AreKept}

-- records after events and more of them
rows_more : (h more : FloorHistory) (w v : List Bool) (rows : List PrintRow) → length w ≡ length (endings h) →
    rows_after (h ++ more) (w ++ v) rows ≡ rows_after more v (rows_after h w rows)
rows_more [] more [] v rows same = refl
rows_more [] more (b ∷ w) v rows same = absurd (cc same)
rows_more (Started printer row entry ∷ h) more w v rows same = rows_more h more w v (rows ++ row ∷ []) same
rows_more (Noted printer note ∷ h) more w v rows same = rows_more h more w v rows same
rows_more (Passed entry ∷ h) more w v rows same = rows_more h more w v rows same
rows_more (Ended printer ending ∷ h) more (b ∷ w) v rows same = rows_more h more w v (with_end_if b ending rows) (cc same)
rows_more (Ended printer ending ∷ h) more [] v rows same = absurd (cc same)

-- events that neither start nor end a print leave the records
rows_same : (h more : FloorHistory) (w : List Bool) → ((rows : List PrintRow) → rows_after more [] rows ≡ rows) → length w ≡ length (endings h) →
    rows_after (h ++ more) w [] ≡ rows_after h w []
rows_same h more w none same =
    ap (λ (v : List Bool). rows_after (h ++ more) v []) (sym (append-nil w)) ∙ rows_more h more w [] [] same ∙ none (rows_after h w [])

-- an end leaves the records of other prints
ended_other : (ending : Ending) (row : PrintRow) → row.number < ending.print → ended_row ending row ≡ row
ended_other ending row less = by (nat_eq row.number ending.print) refl
  where
    by : (b : Bool) → nat_eq row.number ending.print ≡ b → cond b (record row { outcome = ending.outcome }) row ≡ row
    by false is = refl
    by true is = (let no : ◌≡◌ {A = ℕ} 0 1 = grind (arith, nat_tests) in absurd (cc no))

untouched : (ending : Ending) (k : ℕ) (rows : List PrintRow) → ((i : ℕ) (d : PrintRow) → i < length rows → (slice_index_or rows i d).number ≡ i + 1 + k) →
    length rows + k < ending.print → with_end ending rows ≡ rows
untouched ending k [] numbered less = refl
untouched ending k (row ∷ rows) numbered less =
    let first : row.number ≡ 0 + 1 + k = numbered 0 row (omega arith) in
    let here : ended_row ending row ≡ row = ended_other ending row (omega (arith, first, less)) in
    let others : with_end ending rows ≡ rows =
    untouched ending (suc k) rows (λ i d within. (let so : (slice_index_or rows i d).number ≡ suc i + 1 + k = numbered (suc i) d (omega (arith, within)) in omega (arith, so)))
    (omega (arith, less))
    in
    ap (λ (r : PrintRow). r ∷ map (ended_row ending) rows) here ∙ ap (λ (rs : List PrintRow). row ∷ rs) others

map-append : (ending : Ending) (xs ys : List PrintRow) → with_end ending (xs ++ ys) ≡ with_end ending xs ++ with_end ending ys
map-append ending [] ys = refl
map-append ending (x ∷ xs) ys = ap (λ (rs : List PrintRow). ended_row ending x ∷ rs) (map-append ending xs ys)

module _ (first : Tables) where
  -- what the keeper doesn't write
  pub kept_events : (more : FloorHistory) (l new : LedgerData) (t : Option Tables) → started_rows more ≡ [] → endings more ≡ [] →
      ((rows : List PrintRow) → rows_after more [] rows ≡ rows) → new.history ≡ l.history ++ more → new.ends_written ≡ l.ends_written →
      new.stock.queue ≡ l.stock.queue → new.stock.records ≡ l.stock.records → AreKept first l t → AreKept first new t
  kept_events more l new None no_row no_end none history writes queue records kept = tt
  kept_events more l new (Some t) no_row no_end none history writes queue records kept = record {
    queue = kept.queue ∙ sym queue;
    users = kept.users;
    prints =
        kept.prints ∙ ap (λ (rows : List PrintRow). first.prints ++ rows) (sym (rows_same l.history more l.ends_written none kept.ends))
        ∙ ap (λ (h : FloorHistory). first.prints ++ rows_after h l.ends_written []) (sym history)
        ∙ ap (λ (w : List Bool). first.prints ++ rows_after new.history w []) (sym writes);
    ends =
        ap (λ (w : List Bool). length w) writes ∙ kept.ends ∙ sym (ap (λ (es : List Ending). length es) (same_endings l.history more no_end))
        ∙ ap (λ (h : FloorHistory). length (endings h)) (sym history);
    numbered = kept.numbered;
    records =
        let rows : length (started_rows new.history) ≡ length (started_rows l.history) =
        ap (λ (h : FloorHistory). length (started_rows h)) history ∙ ap (λ (rs : List PrintRow). length rs) (same_rows l.history more no_row)
        in
        let was = kept.records in
        omega (arith, rows, was, records);
  }

  pub kept_note : (printer : ℕ) (note : Option Note) (l : LedgerData) (t : Option Tables) → AreKept first l t →
      AreKept first (with_events (noted_events printer note) l) t
  kept_note printer None l t kept = kept_events [] l (with_events [] l) t refl refl (λ rows. refl) refl refl refl refl kept
  kept_note printer (Some note) l t kept =
      kept_events (Noted printer note ∷ []) l (with_events (Noted printer note ∷ []) l) t refl refl (λ rows. refl) refl refl refl refl kept

  -- an end that the keeper wrote, or not
  ended_prints : (b : Bool) (printer : ℕ) (ending : Ending) (h : FloorHistory) (w : List Bool) → length w ≡ length (endings h) →
      rows_after (h ++ Ended printer ending ∷ []) (w ++ b ∷ []) [] ≡ with_end_if b ending (rows_after h w [])
  ended_prints b printer ending h w same = rows_more h (Ended printer ending ∷ []) w (b ∷ []) [] same

  ended_records : (printer : ℕ) (ending : Ending) (h : FloorHistory) → length (started_rows (h ++ Ended printer ending ∷ [])) ≡ length (started_rows h)
  ended_records printer ending h = ap (λ (rs : List PrintRow). length rs) (same_rows h (Ended printer ending ∷ []) refl)

  kept_end_if : (b : Bool) (printer : ℕ) (ending : Ending) (l : LedgerData) (t t' : Tables) → t'.queue ≡ t.queue → t'.users ≡ t.users →
      t'.prints ≡ with_end_if b ending t.prints → length first.prints < ending.print → AreKeptSince first l t →
      AreKeptSince first (with_end_written b (with_events (Ended printer ending ∷ []) l)) t'
  kept_end_if b printer ending l t t' queue users prints above kept = record {
    queue = queue ∙ kept.queue;
    users = users ∙ kept.users;
    prints =
        prints ∙ ap (λ (rows : List PrintRow). with_end_if b ending rows) kept.prints ∙ apart b
        ∙ ap (λ (rows : List PrintRow). first.prints ++ rows) (sym (ended_prints b printer ending l.history l.ends_written kept.ends));
    ends =
        let was = kept.ends in
        let ends = one_ending l.history printer ending in
        let writes = length-more l.ends_written b in
        omega (arith, was, ends, writes);
    numbered = kept.numbered;
    records = let rows = ended_records printer ending l.history in let was = kept.records in omega (arith, rows, was);
  }
    where
      length-more : (xs : List Bool) (x : Bool) → length (xs ++ x ∷ []) ≡ length xs + 1
      length-more [] x = refl
      length-more (y ∷ xs) x = let so : length (xs ++ x ∷ []) ≡ length xs + 1 = length-more xs x in omega (arith, so)

      own : List PrintRow
      own = rows_after l.history l.ends_written []

      apart : (c : Bool) → with_end_if c ending (first.prints ++ own) ≡ first.prints ++ with_end_if c ending own
      apart false = refl
      apart true =
          map-append ending first.prints own
          ∙ ap (λ (rows : List PrintRow). rows ++ with_end ending own)
          (untouched ending 0 first.prints (λ i d within. (let so = kept.numbered i d within in omega (arith, so))) (omega (arith, above)))

  pub kept_end : (printer : ℕ) (ending : Option Ending) (tables tables' : Option Tables) (l new : LedgerData) → IsEndTold printer ending tables tables' l new →
      ((t : Tables) → tables ≡ Some t → IfSome ending (λ one. length first.prints < one.print)) → AreKept first l tables → AreKept first new tables'
  kept_end printer None tables tables' l new told above kept =
      let At : LedgerData → Type 0 = λ m. AreKept first m tables' in
      let Of : Option Tables → Type 0 = λ t. AreKept first l t in
      subst At (sym told.1) (subst Of (sym told.0) kept)
  kept_end printer (Some ending) tables tables' l new (inl is) above kept =
      let After : LedgerData = with_end_written true (with_events (Ended printer ending ∷ []) l) in
      let At : LedgerData → Type 0 = λ m. AreKept first m tables' in
      let Of : Option Tables → Type 0 = λ t. AreKept first After t in
      subst At (sym is.ledger_is) (subst Of (sym is.tables_are) (by tables refl kept))
    where
      by : (t : Option Tables) → tables ≡ t → AreKept first l t →
          AreKept first (with_end_written true (with_events (Ended printer ending ∷ []) l)) (option_map (written (Ended printer ending)) t)
      by None at all = tt
      by (Some t) at all = kept_end_if true printer ending l t (written (Ended printer ending) t) refl refl refl (above t at) all
  kept_end printer (Some ending) tables tables' l new (inr is) above kept =
      let After : LedgerData = with_fault is.why (with_end_written false (with_events (Ended printer ending ∷ []) l)) in
      let At : LedgerData → Type 0 = λ m. AreKept first m tables' in
      let Of : Option Tables → Type 0 = λ t. AreKept first After t in
      subst At (sym is.ledger_is) (subst Of (sym is.tables_are) (by tables refl kept))
    where
      by : (t : Option Tables) → tables ≡ t → AreKept first l t → AreKept first (with_fault is.why (with_end_written false (with_events (Ended printer ending ∷ []) l))) t
      by None at all = tt
      by (Some t) at all =
          let so = kept_end_if false printer ending l t t refl refl refl (above t at) all in
          record { queue = so.queue; users = so.users; prints = so.prints; ends = so.ends; numbered = so.numbered; records = so.records }

  -- what begins
  kept_start : (printer : ℕ) (row : PrintRow) (entry : QueueEntry) (l new : LedgerData) (t : Option Tables) →
      new ≡ record (with_events (Started printer row entry ∷ []) l) { stock = after_event (Started printer row entry) l.stock } → AreKept first l t →
      AreKept first new (option_map (written (Started printer row entry)) t)
  kept_start printer row entry l new None is kept = tt
  kept_start printer row entry l new (Some t) is kept =
      let At : LedgerData → Type 0 = λ m. AreKeptSince first m (written (Started printer row entry) t) in
      subst At (sym is) (record {
        queue = ap (λ (q : List QueueEntry). without_copy entry.user entry.name q) kept.queue;
        users = kept.users;
        prints =
            ap (λ (rows : List PrintRow). rows ++ row ∷ []) kept.prints ∙ append_assoc first.prints (rows_after l.history l.ends_written []) (row ∷ [])
            ∙ ap (λ (rows : List PrintRow). first.prints ++ rows) (sym more);
        ends = kept.ends ∙ sym (ap (λ (es : List Ending). length es) (same_endings l.history (Started printer row entry ∷ []) refl));
        numbered = kept.numbered;
        records = let rows = one_row l.history printer row entry in let was = kept.records in omega (arith, rows, was);
      })
    where
      more : rows_after (l.history ++ Started printer row entry ∷ []) l.ends_written [] ≡ rows_after l.history l.ends_written [] ++ row ∷ []
      more =
          ap (λ (w : List Bool). rows_after (l.history ++ Started printer row entry ∷ []) w []) (sym (append-nil l.ends_written))
          ∙ rows_more l.history (Started printer row entry ∷ []) l.ends_written [] [] kept.ends

  pub kept_begin : (printer : ℕ) (material : List ℕ) (files : Option (List ShelfFile)) (tables tables' : Option Tables) (l new : LedgerData)
      (bay bay' : BayData) (events : FloorHistory) → Begins printer material files tables tables' l new bay bay' events → AreKept first l tables →
      AreKept first new tables'
  kept_begin printer material files tables tables' l new bay bay' events begins kept = by begins
    where
      put : (m : LedgerData) (t : Option Tables) → new ≡ m → tables' ≡ t → AreKept first m t → AreKept first new tables'
      put m t is are all =
          let At : LedgerData → Type 0 = λ n. AreKept first n tables' in
          let Of : Option Tables → Type 0 = λ u. AreKept first m u in
          subst At (sym is) (subst Of (sym are) all)

      by : Begins printer material files tables tables' l new bay bay' events → AreKept first new tables'
      by (not_free busy none) = put l tables none.ledger_is none.tables_are kept
      by (nothing_fits free fits none) = put l tables none.ledger_is none.tables_are kept
      by (takes free lawful entry next (faulty is)) =
          put (with_fault is.why l) tables is.ledger_is is.tables_are
          (kept_events [] l (with_fault is.why l) tables refl refl (λ rows. refl) (sym (append-nil l.history)) refl refl refl kept)
      by (takes free lawful entry next (passed read is)) =
          let m : LedgerData = record (with_events (Passed entry ∷ []) l) { stock = after_event (Passed entry) l.stock } in
          put m tables is.ledger_is is.tables_are (kept_events (Passed entry ∷ []) l m tables refl refl (λ rows. refl) refl refl refl refl kept)
      by (takes free lawful entry next (started job read is)) =
          subst (λ (u : Option Tables). AreKept first new u) (sym is.tables_are) (kept_start printer is.row entry l new tables is.ledger_is kept)
