-- What a printer's part of a round leaves of its bay.
use Rattle.std.proofs.Common.{◌≡◌, ◌⊎◌, inl, inr, ℕ, ◌+◌, ◌≤◌, ◌<◌, Bool, true, false, List, [], ◌∷◌, ◌++◌, length, Option, None, Some, refl, sym, ◌∙◌, ap, subst, arith}
use Rattle.std.specs.Prelude.{IfSome}
use Rattle.std.proofs.lemmas.Bool.{false≢true}
use Rattle.job_desk.specs.Data.{Data, named_file}
use Rattle.job_desk.specs.Endings.{IsActive}
use Rattle.job_desk.specs.Table.{connect_at, connecting, printing}
use Rattle.job_desk.specs.declared.issued.Note.{Note}
use Rattle.job_desk.specs.declared.link_fact.LinkFact.{LinkFact}
use Rattle.job_desk.specs.declared.state.State.{State}
use Rattle.job_desk.specs.declared.state.State.TheVariants as state
use Rattle.job_desk.proofs.Going.{Goes}
use Rattle.octo_keeper.specs.declared.tables.Tables.{Tables}
use Rattle.print_queue.specs.declared.ending.Ending.{Ending}
use Rattle.print_queue.specs.declared.row.PrintRow.{PrintRow}
use Rattle.octo_session.specs.Data.{SessionData, doing}
use Rattle.octo_session.specs.DeskTurn.{IsTurnEnding}
use Rattle.octo_session.specs.Turn.{fact_of}
use Rattle.octo_session.specs.declared.found.Doing.TheVariants.{Dialling}
use Rattle.octo_floor_bay.specs.Bay.{BayData}
use Rattle.octo_floor_bay.specs.Events.{FloorHistory, started_rows, endings}
use Rattle.octo_floor_bay.specs.Stock.{after_event}
use Rattle.octo_floor_bay.specs.declared.event.FloorEvent.TheVariants.{Ended, Started, Passed}
use Rattle.octo_floor.specs.Counted.{one_if}
use Rattle.octo_floor.specs.Ledger.{LedgerData, with_events, with_end_written, with_fault, noted_events}
use Rattle.printer_link.specs.Calls.{LinkState}
use Rattle.octo_floor.specs.Objects.{StoreState}
use Rattle.octo_floor.specs.Phases.{phase_in, phase_of, is_up_in, IsAtRest}
use Rattle.octo_floor.specs.Step.{Begins, IsEndTold, faulty, passed, started, not_free, nothing_fits, takes, IsStep}
use Rattle.octo_floor.proofs.Counted.{same_rows, same_endings, one_row, one_ending}
use Rattle.octo_floor.proofs.Taking.{noted_rows, noted_endings}
use Rattle.octo_floor.proofs.Turning.{rest_turn, goes_turn}
use Rattle.octo_floor.specs.Round.{dialled}

-- a session that rests, or begins to connect
pub record IsReady (s : SessionData) : Type 0 where
  pub still : s.desk.stopped ≡ false
  pub at : (s.up ≡ is_up_in (phase_of s)) ⊎ (doing s ≡ Dialling)
  pub no_print : is_up_in (phase_of s) ≡ false → s.desk.active ≡ false
  pub going : IsActive s.desk

ready : (s : SessionData) → IsAtRest s → IsReady s
ready s rests = record { still = rests.not_stopped; at = inl rests.up; no_print = rests.no_print; going = rests.going }

-- what a connect keeps of a desk
pub record IsConnected (s t : SessionData) : Type 0 where
  pub ready : IsReady t
  pub active : t.desk.active ≡ s.desk.active
  pub greatest : t.desk.greatest ≡ s.desk.greatest
  pub limits : t.desk.limits ≡ s.desk.limits
  pub up : t.up ≡ s.up
  pub lost : t.desk.state ≡ state.Fault → s.desk.state ≡ state.Fault

dials : (port : List ℕ) (s : SessionData) → IsAtRest s → s.up ≡ false → IsConnected s (record s { desk = connecting port s.desk })
dials port s rests down = record {
  ready = record {
    still = rests.not_stopped;
    at = inr (ap (λ (up : Bool). doing (record s { desk = connecting port s.desk; up = up })) down);
    no_print = λ no. absurd (false≢true (sym no));
    going = λ has. absurd (false≢true has);
  };
  active = refl;
  greatest = refl;
  limits = refl;
  up = refl;
  lost = λ is. absurd (cc is);
}

stays : (s : SessionData) → IsAtRest s → IsConnected s s
stays s rests = record { ready = ready s rests; active = refl; greatest = refl; limits = refl; up = refl; lost = λ is. is }

connects : (port : List ℕ) (s : SessionData) → IsAtRest s → (at : State) → s.desk.state ≡ at → IsConnected s (record s { desk = (connect_at at port s.desk).1 })
connects port s rests state.Offline is = dials port s rests (rests.up ∙ ap (λ (t : State). is_up_in (phase_in t)) is)
connects port s rests state.Fault is = dials port s rests (rests.up ∙ ap (λ (t : State). is_up_in (phase_in t)) is)
connects port s rests state.Connecting is = stays s rests
connects port s rests state.Operational is = stays s rests
connects port s rests state.Printing is = stays s rests
connects port s rests state.Pausing is = stays s rests
connects port s rests state.Paused is = stays s rests
connects port s rests state.Cancelling is = stays s rests
connects port s rests state.Finishing is = stays s rests
connects port s rests state.Closing is = stays s rests

-- a bay that begins to connect in the first round
pub dial_connects : (began : Bool) (port : List ℕ) (b new : BayData) → new ≡ dialled began port b → IsAtRest b.session → IsConnected b.session new.session
dial_connects true port b new is rests = subst (λ (n : BayData). IsConnected b.session n.session) (sym is) (stays b.session rests)
dial_connects false port b new is rests =
    subst (λ (n : BayData). IsConnected b.session n.session) (sym is) (connects port b.session rests b.session.desk.state refl)

-- a print that starts: the desk prints over its link
start_rests : (s t : SessionData) (print : ℕ) (d : Data) → IsAtRest s → s.desk.state ≡ state.Operational → d.stopped ≡ s.desk.stopped → t.up ≡ s.up →
    t.desk ≡ printing print d → IsAtRest t
start_rests s t print d rests operational stopped up is =
    let At : Data → Type 0 = λ e. IsAtRest (record t { desk = e }) in
    let linked : t.up ≡ true = up ∙ rests.up ∙ ap (λ (x : State). is_up_in (phase_in x)) operational in
    subst At (sym is) (record { up = linked; not_stopped = stopped ∙ rests.not_stopped; no_print = λ no. absurd (false≢true (sym no)); going = λ has. refl })

-- how the counts of a ledger and the print of a bay go on together
pub record IsCounted (old new : LedgerData) (bay bay' : BayData) : Type 0 where
  pub gap : new.stock.records + length (started_rows old.history) ≡ old.stock.records + length (started_rows new.history)
  pub fewer : old.stock.records ≤ new.stock.records
  -- the print stays, or it is the one that began
  pub print : ((bay'.session.desk.greatest ≡ bay.session.desk.greatest) × (bay'.session.desk.active ≡ true → bay.session.desk.active ≡ true))
      ⊎ ((bay'.session.desk.greatest ≡ new.stock.records) × (old.stock.records < new.stock.records))
  pub flow : length (endings new.history) + one_if bay'.session.desk.active + length (started_rows old.history)
      ≤ length (endings old.history) + one_if bay.session.desk.active + length (started_rows new.history)

-- 1 if a print ended
abbrev ends_count : Option Ending → ℕ
ends_count None = 0
ends_count (Some ending) = 1

-- a ledger after a note and an ending
record IsTold (old new : LedgerData) (ending : Option Ending) : Type 0 where
  records : new.stock.records ≡ old.stock.records
  rows : length (started_rows new.history) ≡ length (started_rows old.history)
  ends : length (endings new.history) ≡ length (endings old.history) + ends_count ending

told_counts : (printer : ℕ) (note : Option Note) (ending : Option Ending) (tables tables' : Option Tables) (old new : LedgerData) →
    IsEndTold printer ending tables tables' (with_events (noted_events printer note) old) new → IsTold old new ending
told_counts printer note ending tables tables' old new told = by ending told
  where
    noted : FloorHistory
    noted = old.history ++ noted_events printer note

    rows : length (started_rows noted) ≡ length (started_rows old.history)
    rows = ap (λ (rs : List PrintRow). length rs) (noted_rows old.history printer note)

    ends : length (endings noted) ≡ length (endings old.history)
    ends = ap (λ (es : List Ending). length es) (noted_endings old.history printer note)

    ended : (one : Ending) (l : LedgerData) → l.stock.records ≡ old.stock.records → l.history ≡ noted ++ Ended printer one ∷ [] → new ≡ l → IsTold old new (Some one)
    ended one l records history is =
        let By : LedgerData → Type 0 = λ m. IsTold old m (Some one) in
        let all : length (started_rows l.history) ≡ length (started_rows noted) =
        ap (λ (h : FloorHistory). length (started_rows h)) history ∙ ap (λ (rs : List PrintRow). length rs) (same_rows noted (Ended printer one ∷ []) refl)
        in
        let more : length (endings l.history) ≡ length (endings noted) + 1 =
        ap (λ (h : FloorHistory). length (endings h)) history ∙ one_ending noted printer one
        in
        subst By (sym is) (record { records = records; rows = all ∙ rows; ends = omega (arith, more, ends) })

    by : (o : Option Ending) → IsEndTold printer o tables tables' (with_events (noted_events printer note) old) new → IsTold old new o
    by None same =
        let By : LedgerData → Type 0 = λ m. IsTold old m None in
        subst By (sym same.1) (record { records = refl; rows = rows; ends = omega (arith, ends) })
    by (Some one) (inl is) = ended one (with_end_written true (with_events (Ended printer one ∷ []) (with_events (noted_events printer note) old))) refl refl is.ledger_is
    by (Some one) (inr is) =
        ended one (with_fault is.why (with_end_written false (with_events (Ended printer one ∷ []) (with_events (noted_events printer note) old)))) refl refl is.ledger_is

-- a turn ends at most the active print
fewer_if : (a b : Bool) → (b ≡ true → a ≡ true) → one_if b ≤ one_if a
fewer_if true true so = omega arith
fewer_if true false so = omega arith
fewer_if false false so = omega arith
fewer_if false true so = absurd (false≢true (so refl))

flow_turn : (found : LinkFact) (d e : Data) (ended : ℕ) (ending : Option Ending) → Goes d e → IfSome ending (λ one. IsTurnEnding found d e one) →
    ended + ends_count ending + one_if e.active ≤ ended + one_if d.active
flow_turn found d e ended None goes ends = let few = fewer_if d.active e.active goes.before in omega (arith, few)
flow_turn found d e ended (Some ending) goes ends =
    let was : one_if d.active ≡ 1 = ap one_if ends.active in
    let is : one_if e.active ≡ 0 = ap one_if ends.rests in
    omega (arith, was, is)

module _ (printer moment : ℕ) (material : List ℕ) (link link' : LinkState) (store store' : StoreState) (old new : LedgerData) (bay bay' : BayData)
    (heard : Bool) (events : FloorHistory) (step : IsStep printer moment material link link' store store' old new bay bay' heard events) where
  abbrev mid : SessionData
  mid = step.turned_to.session

  goes : Goes bay.session.desk mid.desk
  goes = goes_turn moment link.kind bay.session mid step.turned step.turn.by_note

  same_bay : (P : SessionData → Type 0) → bay' ≡ step.turned_to → P mid → P bay'.session
  same_bay P is p = subst (λ (b : BayData). P b.session) (sym is) p

  -- the printer rests after it
  pub step_rests : IsReady bay.session → IsAtRest bay'.session
  step_rests r = by step.begins
    where
      turned : IsAtRest mid
      turned = rest_turn moment link.kind bay.session mid step.turned step.turn.by_note r.still r.at r.no_print r.going

      by : Begins printer material store.files step.tables store'.tables step.told new step.turned_to bay' step.begun → IsAtRest bay'.session
      by (not_free busy none) = same_bay (λ s. IsAtRest s) none.bay_is turned
      by (nothing_fits free fits none) = same_bay (λ s. IsAtRest s) none.bay_is turned
      by (takes free lawful entry next (faulty is)) = same_bay (λ s. IsAtRest s) is.bay_is turned
      by (takes free lawful entry next (passed read is)) = same_bay (λ s. IsAtRest s) is.bay_is turned
      by (takes free lawful entry next (started job read is)) =
          start_rests mid bay'.session is.row.number (record mid.desk { file = Some (named_file entry.file job) }) turned free.operational refl
          (ap (λ (b : BayData). b.session.up) is.bay_is) is.printing_is

  -- the counts after it
  pub step_counts : IsCounted old new bay bay'
  step_counts = by step.begins
    where
      told : IsTold old step.told step.turned.ending
      told = told_counts printer step.turned.note step.turned.ending store.tables step.tables old step.told step.ending

      flowed : length (endings step.told.history) + one_if mid.desk.active ≤ length (endings old.history) + one_if bay.session.desk.active
      flowed =
          let few = flow_turn (fact_of step.turned.note) bay.session.desk mid.desk (length (endings old.history)) step.turned.ending goes step.turn.by_note.ends in
          let ends = told.ends in
          omega (arith, ends, few)

      mid_print : mid.desk.greatest ≡ bay.session.desk.greatest
      mid_print = step.turn.by_note.greatest

      kept : IsCounted old step.told bay step.turned_to
      kept = record {
        gap = let rows = told.rows in let stock = told.records in omega (arith, rows, stock);
        fewer = let stock = told.records in omega (arith, stock);
        print = inl (mid_print, goes.before);
        flow = let rows = told.rows in omega (arith, rows, flowed);
      }

      same : (l : LedgerData) → new ≡ l → bay' ≡ step.turned_to → l.stock.records ≡ step.told.stock.records →
          length (started_rows l.history) ≡ length (started_rows step.told.history) → length (endings l.history) ≡ length (endings step.told.history) →
          IsCounted old new bay bay'
      same l is bay_is records rows ends =
          let At : LedgerData → Type 0 = λ m. IsCounted old m bay bay' in
          let Of : BayData → Type 0 = λ b. IsCounted old l bay b in
          subst At (sym is) (subst Of (sym bay_is) (record {
            gap = let so = kept.gap in omega (arith, so, records, rows);
            fewer = let so = kept.fewer in omega (arith, so, records);
            print = inl (mid_print, goes.before);
            flow = let so = kept.flow in omega (arith, so, rows, ends);
          }))

      by : Begins printer material store.files step.tables store'.tables step.told new step.turned_to bay' step.begun → IsCounted old new bay bay'
      by (not_free busy none) = same step.told none.ledger_is none.bay_is refl refl refl
      by (nothing_fits free fits none) = same step.told none.ledger_is none.bay_is refl refl refl
      by (takes free lawful entry next (faulty is)) = same (with_fault is.why step.told) is.ledger_is is.bay_is refl refl refl
      by (takes free lawful entry next (passed read is)) =
          same (record (with_events (Passed entry ∷ []) step.told) { stock = after_event (Passed entry) step.told.stock }) is.ledger_is is.bay_is refl
          (ap (λ (rows : List PrintRow). length rows) (same_rows step.told.history (Passed entry ∷ []) refl))
          (ap (λ (ends : List Ending). length ends) (same_endings step.told.history (Passed entry ∷ []) refl))
      by (takes free lawful entry next (started job read is)) =
          let event : FloorHistory = Started printer is.row entry ∷ [] in
          let l : LedgerData = record (with_events event step.told) { stock = after_event (Started printer is.row entry) step.told.stock } in
          let At : LedgerData → Type 0 = λ m. IsCounted old m bay bay' in
          let records : l.stock.records ≡ step.told.stock.records + 1 = omega arith in
          let rows = one_row step.told.history printer is.row entry in
          let ends = ap (λ (es : List Ending). length es) (same_endings step.told.history event refl) in
          let number : bay'.session.desk.greatest ≡ l.stock.records =
          ap (λ (d : Data). d.greatest) is.printing_is ∙ ap (λ (row : PrintRow). row.number) is.row_is
          in
          let idle : one_if mid.desk.active ≡ 0 = ap one_if free.no_print in
          let active : one_if bay'.session.desk.active ≡ 1 = ap (λ (d : Data). one_if d.active) is.printing_is in
          subst At (sym is.ledger_is) (record {
            gap = let so = kept.gap in omega (arith, so, records, rows);
            fewer = let so = kept.fewer in omega (arith, so, records);
            print = inr (number, (let so = kept.fewer in omega (arith, so, records)));
            flow = let so = kept.flow in omega (arith, so, rows, ends, idle, active);
          })
