-- Printers that are left without a print had nothing to start.
use Rattle.std.proofs.Common.{◌≡◌, ◌⊎◌, inl, inr, ℕ, zero, suc, ◌<◌, ◌≤◌, Bool, false, List, ◌++◌, length, Option, None, Some, refl, sym, ◌∙◌, ap, subst, append_assoc, arith}
use Rattle.std.specs.Prelude.{Contains, slice_get}
use Rattle.std.proofs.lemmas.Bool.{false≢true, cases_lt}
use Rattle.std.proofs.lemmas.List.Elements.{Contains-append_left, Contains-append_right}
use Rattle.std.proofs.lemmas.Option.{slice_get_within}
use Rattle.job_desk.specs.Data.{Data}
use Rattle.job_desk.specs.declared.state.State.TheVariants as state
use Rattle.print_queue.specs.declared.entry.QueueEntry.{QueueEntry}
use Rattle.octo_floor_bay.specs.Bay.{BayData}
use Rattle.octo_floor_bay.specs.Events.{FloorHistory}
use Rattle.octo_floor_bay.specs.Stock.{Stock, Start, after_events}
use Rattle.octo_floor_bay.specs.declared.end.FloorFault.{FloorFault}
use Rattle.octo_floor_bay.specs.declared.event.FloorEvent.TheVariants.{Passed}
use Rattle.octo_floor_bay.proofs.Histories.{after_more}
use Rattle.octo_floor_bay.specs.Written.{most_records}
use Rattle.octo_floor.specs.Ledger.{LedgerData, first_fault, with_events, noted_events, ended_events}
use Rattle.octo_floor.specs.Step.{Begins, faulty, passed, started, not_free, nothing_fits, takes, IsStep}
use Rattle.octo_floor.specs.Floor.{IsFloor, Setting, AreUp, is_active}
use Rattle.octo_floor.specs.Points.{IsIdleAt, LeavesIdle}
use Rattle.octo_floor.specs.Round.{IsStepAt, Steps, IsRound}
use Rattle.octo_floor.proofs.Bays.{step_counts}
use Rattle.octo_floor.proofs.Goes.{GoesWell, well_steps}
use Rattle.octo_floor.proofs.Ledgers.{grows_then, noted_grows, ended_grows}
use Rattle.octo_floor.proofs.Places.{never, same_place}
use Rattle.octo_floor.proofs.RoundParts.{own_bay, other_bay}

-- the same of the first printers, this number of them
abbrev LeavesFirst : ℕ → Setting → Setting → FloorHistory → Type 0
LeavesFirst n x y events =
    (printer : ℕ) (b : BayData) (material : List ℕ) → printer < n → slice_get y.floor.bays printer ≡ Some b → slice_get x.floor.materials printer ≡ Some material
    → b.session.desk.state ≡ state.Operational → is_active b ≡ false → y.floor.ledger.fault ≡ None
    → y.floor.ledger.stock.records < most_records → IsIdleAt material x.floor.ledger.stock events

-- more events come after a printer's place
idle_more : (material : List ℕ) (s : Stock) (es fs : FloorHistory) → IsIdleAt material s es → IsIdleAt material s (es ++ fs)
idle_more material s es fs idle = record {
  before = idle.before;
  after = idle.after ++ fs;
  events_are = ap (λ (all : FloorHistory). all ++ fs) idle.events_are ∙ append_assoc idle.before idle.after fs;
  why = by idle.why;
}
  where
    by : Start (after_events idle.before s) material None
        ⊎ ((entry : QueueEntry) × Start (after_events idle.before s) material (Some entry) × Contains es (Passed entry)) →
        Start (after_events idle.before s) material None
        ⊎ ((entry : QueueEntry) × Start (after_events idle.before s) material (Some entry) × Contains (es ++ fs) (Passed entry))
    by (inl none) = inl none
    by (inr some) = inr (some.0, some.1, Contains-append_left es fs (Passed some.0) some.2)

-- a fault that came is there
faulted : (was : Option FloorFault) (why : FloorFault) → was ≡ None → first_fault was why ≡ None → ⊥
faulted None why none is = absurd (cc is)
faulted (Some first) why none is = absurd (cc none)

module _ (n moment : ℕ) (x mid y : Setting) (hears : Bool) (former added : FloorHistory) (at : IsStepAt n moment mid y hears added)
    (stock : mid.floor.ledger.stock ≡ after_events former x.floor.ledger.stock) where
  abbrev step : IsStep n moment at.over.material at.link at.link' mid.store y.store mid.floor.ledger y.floor.ledger at.over.begun at.over.after hears added
  step = at.over.step

  abbrev told_events : FloorHistory
  told_events = noted_events n step.turned.note ++ ended_events n step.turned.ending

  told_stock : step.told.stock ≡ after_events (former ++ told_events) x.floor.ledger.stock
  told_stock =
      let noted : LedgerData = with_events (noted_events n step.turned.note) mid.floor.ledger in
      let grows = grows_then mid.floor.materials mid.floor.ledger noted step.told (noted_events n step.turned.note) (ended_events n step.turned.ending)
      (noted_grows mid.floor.materials n step.turned.note mid.floor.ledger)
      (ended_grows mid.floor.materials n step.turned.ending mid.store.tables step.tables noted step.told step.ending)
      in
      grows.stock ∙ ap (λ (s : Stock). after_events told_events s) stock ∙ sym (after_more former told_events x.floor.ledger.stock)

  -- its place in the round
  here : (material : List ℕ) → material ≡ at.over.material → Start step.told.stock at.over.material None
      ⊎ ((entry : QueueEntry) × Start step.told.stock at.over.material (Some entry) × Contains step.begun (Passed entry)) →
      IsIdleAt material x.floor.ledger.stock (former ++ added)
  here material same why =
      subst (λ (m : List ℕ). IsIdleAt m x.floor.ledger.stock (former ++ added)) (sym same) (record {
        before = former ++ told_events;
        after = step.begun;
        events_are = ap (λ (es : FloorHistory). former ++ es) step.events_are ∙ sym (append_assoc former told_events step.begun);
        why = by why;
      })
    where
      At : Option QueueEntry → Stock → Type 0
      At o s = Start s at.over.material o

      by : Start step.told.stock at.over.material None
          ⊎ ((entry : QueueEntry) × Start step.told.stock at.over.material (Some entry) × Contains step.begun (Passed entry)) →
          Start (after_events (former ++ told_events) x.floor.ledger.stock) at.over.material None
          ⊎ ((entry : QueueEntry) × Start (after_events (former ++ told_events) x.floor.ledger.stock) at.over.material (Some entry)
          × Contains (former ++ added) (Passed entry))
      by (inl none) = inl (subst (λ (s : Stock). Start s at.over.material None) told_stock none)
      by (inr some) =
          inr (
            some.0,
            subst (λ (s : Stock). Start s at.over.material (Some some.0)) told_stock some.1,
            Contains-append_right former added (Passed some.0)
                (subst (λ (es : FloorHistory). Contains es (Passed some.0)) (sym step.events_are) (Contains-append_right told_events step.begun (Passed some.0) some.2)),
          )

  own_idle : (material : List ℕ) → material ≡ at.over.material → at.over.after.session.desk.state ≡ state.Operational → is_active at.over.after ≡ false →
      y.floor.ledger.fault ≡ None → y.floor.ledger.stock.records < most_records → IsIdleAt material x.floor.ledger.stock (former ++ added)
  own_idle material same operational idle no_fault room = by step.begins
    where
      by : Begins n at.over.material mid.store.files step.tables y.store.tables step.told y.floor.ledger step.turned_to at.over.after step.begun →
          IsIdleAt material x.floor.ledger.stock (former ++ added)
      by (not_free busy none) =
          absurd (busy (record {
            operational = sym (ap (λ (b : BayData). b.session.desk.state) none.bay_is) ∙ operational;
            no_print = sym (ap (λ (b : BayData). b.session.desk.active) none.bay_is) ∙ idle;
            no_fault = sym (ap (λ (l : LedgerData). l.fault) none.ledger_is) ∙ no_fault;
            room = subst (λ (l : LedgerData). l.stock.records < most_records) none.ledger_is room;
          }))
      by (nothing_fits free fits none) = here material same (inl fits)
      by (takes free lawful entry next (faulty is)) =
          absurd (faulted step.told.fault is.why free.no_fault (sym (ap (λ (l : LedgerData). l.fault) is.ledger_is) ∙ no_fault))
      by (takes free lawful entry next (passed read is)) =
          here material same (inr (entry, next, subst (λ (es : FloorHistory). Contains es (Passed entry)) (sym is.its_event) (0, omega arith, refl)))
      by (takes free lawful entry next (started job read is)) =
          absurd (false≢true (sym idle ∙ ap (λ (d : Data). d.active) is.printing_is))

-- the first printers, one more each time
idle_steps : (n moment : ℕ) (x y : Setting) (heard : Bool) (events : FloorHistory) → Steps n moment x y heard events → IsFloor x.floor →
    AreUp x.floor.bays x.links → LeavesFirst n x y events
idle_steps zero moment x y heard events s f up printer b material first at own operational idle no_fault room = never printer 0 first (omega arith)
idle_steps (suc n) moment x y heard events (mid, before, hears, former, added, steps, last, is, are) f up printer b material first at own operational idle no_fault room =
    subst (λ (es : FloorHistory). IsIdleAt material x.floor.ledger.stock es) (sym are) (by (idle_steps n moment x mid before former steps f up) (cases_lt printer n))
  where
    well : GoesWell x mid former
    well = well_steps n moment x mid before former steps f up

    by : LeavesFirst n x mid former → (printer < n) ⊎ (n ≤ printer) → IsIdleAt material x.floor.ledger.stock (former ++ added)
    by before_it (inl less) =
        idle_more material x.floor.ledger.stock former added
        (before_it printer b material less
        (sym (other_bay n moment mid y hears added last printer (λ same. never printer n less (omega (arith, same)))) ∙ at) own operational idle
        (unfaulted mid.floor.ledger.fault refl)
        (let fewer = (step_counts n moment last.over.material last.link last.link' mid.store y.store mid.floor.ledger y.floor.ledger last.over.begun last.over.after hears
        added last.over.step).fewer
        in
        omega (arith, fewer, room)))
      where
        unfaulted : (o : Option FloorFault) → mid.floor.ledger.fault ≡ o → mid.floor.ledger.fault ≡ None
        unfaulted None none = none
        unfaulted (Some why) some = absurd (cc (sym no_fault ∙ last.over.step.faults.stays why some))
    by before_it (inr more) =
        let same : printer ≡ n = omega (arith, first, more) in
        let after_is : last.over.after ≡ b =
        same_place y.floor.bays n last.over.after b (own_bay n moment mid y hears added last) (ap (λ (j : ℕ). slice_get y.floor.bays j) (sym same) ∙ at)
        in
        let material_is : material ≡ last.over.material =
        same_place x.floor.materials n material last.over.material (ap (λ (j : ℕ). slice_get x.floor.materials j) (sym same) ∙ own)
        (ap (λ (ms : List (List ℕ)). slice_get ms n) (sym well.goes.same.materials) ∙ last.over.its_material)
        in
        own_idle n moment x mid y hears former added last well.goes.copies.stock material material_is
        (ap (λ (c : BayData). c.session.desk.state) after_is ∙ operational) (ap is_active after_is ∙ idle) no_fault room

pub idle_round : (moment : ℕ) (x y : Setting) (heard : Bool) (events : FloorHistory) → IsRound moment x y heard events → IsFloor x.floor →
    AreUp x.floor.bays x.links → LeavesIdle x y events
idle_round moment x y heard events r f up =
    subst (λ (z : Setting). LeavesIdle x z events) (sym r.made)
    (λ printer b material at own operational idle no_fault room.
    idle_steps (length x.floor.bays) moment x r.stepped heard events r.steps f up printer b material (within printer b at) at own operational idle no_fault room)
  where
    within : (printer : ℕ) (b : BayData) → slice_get r.stepped.floor.bays printer ≡ Some b → printer < length x.floor.bays
    within printer b at =
        let same = (well_steps (length x.floor.bays) moment x r.stepped heard events r.steps f up).goes.same.bays in
        let so = slice_get_within r.stepped.floor.bays printer b at in
        omega (arith, same, so)
