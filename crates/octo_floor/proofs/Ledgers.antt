-- What a printer's part of a round leaves of the ledger: the events that it adds, the stock, and the counts.
use Rattle.std.proofs.Common.{◌≡◌, inl, inr, ℕ, suc, ◌+◌, Bool, List, [], ◌∷◌, ◌++◌, length, Option, None, Some, refl, sym, ◌∙◌, ap, subst, append-nil, append_assoc, arith}
use Rattle.std.specs.Prelude.{slice_get}
use Rattle.octo_keeper.specs.declared.shelf.ShelfFile.{ShelfFile}
use Rattle.octo_keeper.specs.declared.tables.Tables.{Tables}
use Rattle.job_desk.specs.declared.issued.Note.{Note}
use Rattle.print_queue.specs.declared.ending.Ending.{Ending}
use Rattle.print_queue.specs.declared.row.PrintRow.{PrintRow}
use Rattle.octo_floor_bay.specs.Bay.{BayData}
use Rattle.octo_floor_bay.specs.Events.{FloorHistory, started_rows}
use Rattle.octo_floor_bay.specs.Stock.{Stock, AllMayCome, IsRecordOf, after_event, after_events, copies_left}
use Rattle.octo_floor_bay.specs.declared.event.FloorEvent.TheVariants.{Ended, Started, Passed}
use Rattle.octo_floor_bay.proofs.Counting.{copies_counted}
use Rattle.octo_floor_bay.proofs.Histories.{after_more, may_come_more, rows_more}
use Rattle.octo_floor.specs.Ledger.{LedgerData, with_events, with_fault, noted_events, ended_events}
use Rattle.printer_link.specs.Calls.{LinkState}
use Rattle.octo_floor.specs.Objects.{StoreState}
use Rattle.octo_floor.specs.Step.{IsEndTold, Begins, faulty, passed, started, not_free, nothing_fits, takes, IsStep}
use Rattle.octo_floor.specs.Floor.{HasCome}

-- a ledger goes on by events
pub record Grows (materials : List (List ℕ)) (old new : LedgerData) (events : FloorHistory) : Type 0 where
  pub history : new.history ≡ old.history ++ events
  pub came : AllMayCome materials old.stock events
  pub stock : new.stock ≡ after_events events old.stock
  pub copies : copies_left old.stock.queue ≡ copies_left new.stock.queue + length (started_rows events)

length-append : {X : Type 0} (xs ys : List X) → length (xs ++ ys) ≡ length xs + length ys
length-append [] ys = omega arith
length-append (x ∷ xs) ys = let so : length (xs ++ ys) ≡ length xs + length ys = length-append xs ys in omega (arith, so)

pub grows_then : (materials : List (List ℕ)) (a b c : LedgerData) (es fs : FloorHistory) → Grows materials a b es → Grows materials b c fs →
    Grows materials a c (es ++ fs)
grows_then materials a b c es fs first second = record {
  history = second.history ∙ ap (λ (h : FloorHistory). h ++ fs) first.history ∙ append_assoc a.history es fs;
  came = may_come_more materials a.stock es fs first.came (subst (λ (s : Stock). AllMayCome materials s fs) first.stock second.came);
  stock = second.stock ∙ ap (λ (s : Stock). after_events fs s) first.stock ∙ sym (after_more es fs a.stock);
  copies =
      let one = first.copies in
      let other = second.copies in
      let rows : length (started_rows (es ++ fs)) ≡ length (started_rows es) + length (started_rows fs) =
      ap (λ (rs : List PrintRow). length rs) (rows_more es fs) ∙ length-append (started_rows es) (started_rows fs)
      in
      omega (arith, one, other, rows);
}

grows_same : (materials : List (List ℕ)) (old new : LedgerData) → new ≡ old → Grows materials old new []
grows_same materials old new is =
    let By : LedgerData → Type 0 = λ l. Grows materials old l [] in
    subst By (sym is) (record { history = sym (append-nil old.history); came = tt; stock = refl; copies = omega arith })

-- a note
pub noted_grows : (materials : List (List ℕ)) (printer : ℕ) (note : Option Note) (old : LedgerData) →
    Grows materials old (with_events (noted_events printer note) old) (noted_events printer note)
noted_grows materials printer None old = record { history = refl; came = tt; stock = refl; copies = omega arith }
noted_grows materials printer (Some note) old = record { history = refl; came = (tt, tt); stock = refl; copies = omega arith }

-- an ending
pub ended_grows : (materials : List (List ℕ)) (printer : ℕ) (ending : Option Ending) (tables tables' : Option Tables) (old new : LedgerData) →
    IsEndTold printer ending tables tables' old new → Grows materials old new (ended_events printer ending)
ended_grows materials printer None tables tables' old new told = grows_same materials old new told.1
ended_grows materials printer (Some ending) tables tables' old new (inl is) =
    let By : LedgerData → Type 0 = λ l. Grows materials old l (Ended printer ending ∷ []) in
    subst By (sym is.ledger_is) (record { history = refl; came = (tt, tt); stock = refl; copies = omega arith })
ended_grows materials printer (Some ending) tables tables' old new (inr is) =
    let By : LedgerData → Type 0 = λ l. Grows materials old l (Ended printer ending ∷ []) in
    subst By (sym is.ledger_is) (record { history = refl; came = (tt, tt); stock = refl; copies = omega arith })

module _ (printer : ℕ) (material : List ℕ) (files : Option (List ShelfFile)) (tables tables' : Option Tables) (old new : LedgerData) (bay bay' : BayData)
    (events : FloorHistory) (materials : List (List ℕ)) (own : slice_get materials printer ≡ Some material) where
  abbrev Grown : FloorHistory → LedgerData → Type 0
  Grown es l = Grows materials old l es

  put : (es : FloorHistory) (l : LedgerData) → events ≡ es → new ≡ l → Grown es l → Grown events new
  put es l events_are is grown = subst (λ (fs : FloorHistory). Grown fs new) (sym events_are) (subst (λ (m : LedgerData). Grown es m) (sym is) grown)

  -- what it begins
  pub begun_grows : Begins printer material files tables tables' old new bay bay' events → Grows materials old new events
  begun_grows (not_free busy none) = put [] old none.no_event none.ledger_is (grows_same materials old old refl)
  begun_grows (nothing_fits free fits none) = put [] old none.no_event none.ledger_is (grows_same materials old old refl)
  begun_grows (takes free lawful entry next (faulty is)) =
      put [] (with_fault is.why old) is.no_event is.ledger_is (record { history = sym (append-nil old.history); came = tt; stock = refl; copies = omega arith })
  begun_grows (takes free lawful entry next (passed read is)) =
      put (Passed entry ∷ []) (record (with_events (Passed entry ∷ []) old) { stock = after_event (Passed entry) old.stock }) is.its_event is.ledger_is
      (record { history = refl; came = (record { at = printer; material = material; own = own; next = next }, tt); stock = refl; copies = omega arith })
  begun_grows (takes free lawful entry next (started job read is)) =
      let of : PrintRow → Type 0 = λ row. IsRecordOf entry (suc old.stock.records) row in
      let begun : IsRecordOf entry (suc old.stock.records) is.row =
      subst of (sym is.row_is) (record { number = refl; user = refl; file = refl; active = refl })
      in
      put (Started printer is.row entry ∷ []) (record (with_events (Started printer is.row entry ∷ []) old) { stock = after_event (Started printer is.row entry) old.stock })
      is.its_event is.ledger_is
      (record {
        history = refl;
        came = (record { material = material; own = own; next = next; begun = begun }, tt);
        stock = refl;
        copies =
            copies_counted materials old.stock (Started printer is.row entry ∷ []) lawful
            (record { material = material; own = own; next = next; begun = begun }, tt);
      })

-- a printer's part
pub step_grows : (printer moment : ℕ) (material : List ℕ) (link link' : LinkState) (store store' : StoreState) (old new : LedgerData) (bay bay' : BayData)
    (heard : Bool) (events : FloorHistory) (materials : List (List ℕ)) → slice_get materials printer ≡ Some material →
    IsStep printer moment material link link' store store' old new bay bay' heard events → Grows materials old new events
step_grows printer moment material link link' store store' old new bay bay' heard events materials own s =
    let noted : LedgerData = with_events (noted_events printer s.turned.note) old in
    let first = noted_grows materials printer s.turned.note old in
    let second = ended_grows materials printer s.turned.ending store.tables s.tables noted s.told s.ending in
    let third = begun_grows printer material store.files s.tables store'.tables s.told new s.turned_to bay' s.begun materials own s.begins in
    let so = grows_then materials old s.told new (noted_events printer s.turned.note ++ ended_events printer s.turned.ending) s.begun
    (grows_then materials old noted s.told (noted_events printer s.turned.note) (ended_events printer s.turned.ending) first second) third
    in
    subst (λ (es : FloorHistory). Grows materials old new es) (sym s.events_are) so

-- the events of a ledger go on from its first stock
pub come_on : (materials : List (List ℕ)) (old new : LedgerData) (events : FloorHistory) → Grows materials old new events → HasCome materials old →
    HasCome materials new
come_on materials old new events grows come = record {
  first = come.first;
  came =
      subst (λ (h : FloorHistory). AllMayCome materials come.first h) (sym grows.history)
      (may_come_more materials come.first old.history events come.came (subst (λ (s : Stock). AllMayCome materials s events) come.stock_is grows.came));
  stock_is =
      grows.stock ∙ ap (λ (s : Stock). after_events events s) come.stock_is ∙ sym (after_more old.history events come.first)
      ∙ ap (λ (h : FloorHistory). after_events h come.first) (sym grows.history);
}
