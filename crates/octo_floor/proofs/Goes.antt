-- A floor goes on by events: one printer's part, several of them, and a round.
use Rattle.std.proofs.Common.{◌≡◌, ◌≢◌, ◌⊎◌, inl, inr, ℕ, zero, suc, ◌+◌, ◌<◌, Bool, true, List, [], ◌∷◌, ◌++◌, length, Option, None, Some, refl, sym, ◌∙◌, ap, subst, arith}
use Rattle.std.specs.Prelude.{IfSome, slice_get}
use Rattle.std.proofs.lemmas.List.{length-set}
use Rattle.octo_keeper.specs.declared.tables.Tables.{Tables}
use Rattle.job_desk.specs.declared.issued.Note.{Note}
use Rattle.octo_session.specs.DeskTurn.{IsTurnEnding}
use Rattle.octo_session.specs.Turn.{fact_of}
use Rattle.print_queue.specs.declared.ending.Ending.{Ending}
use Rattle.temp_rules.specs.declared.limits.Limits.{Limits}
use Rattle.octo_floor_bay.specs.Bay.{BayData}
use Rattle.octo_floor_bay.specs.Events.{FloorHistory, started_rows}
use Rattle.octo_floor_bay.specs.declared.event.FloorEvent.TheVariants.{Started, Passed}
use Rattle.octo_floor_bay.specs.Files.{printable}
use Rattle.octo_floor.specs.Ledger.{LedgerData, with_events, noted_events, ended_events}
use Rattle.printer_link.specs.Calls.{LinkState}
use Rattle.octo_floor.specs.Phases.{IsAtRest}
use Rattle.octo_floor.specs.Step.{Begins, faulty, passed, started, not_free, nothing_fits, takes, IsStep}
use Rattle.octo_floor.specs.Floor.{IsFloor, Setting, AreUp, is_active}
use Rattle.octo_floor.specs.Points.{KeepsTables, Does, EachDoes, PassesRightly, GoesOn}
use Rattle.octo_floor.specs.Round.{IsStepAt, Steps, IsRound}
use Rattle.octo_floor.specs.Tables.{AreKept, AreKeptSince}
use Rattle.octo_floor.proofs.Bays.{IsConnected, dial_connects}
use Rattle.octo_floor.proofs.Does.{does_then, does_nothing, does_dial, does_turn, does_begin}
use Rattle.octo_floor.proofs.Floors.{all_at, grown}
use Rattle.octo_floor.proofs.Places.{same_place, same_or}
use Rattle.octo_floor.proofs.RoundParts.{at_bays, at_ports, at_materials, at_floor, at_up, own_bay, own_link, other_bay, other_link}
use Rattle.octo_floor.proofs.Tables.{kept_note, kept_end, kept_begin}
use Rattle.octo_floor.proofs.Tells.{IsOthers, others_then, others_none, others_noted, others_ended, others_started}
use Rattle.octo_floor.proofs.Going.{as_copies, passes_append, goes_same, goes_then}

module _ (printer moment : ℕ) (x y : Setting) (heard : Bool) (events : FloorHistory) (at : IsStepAt printer moment x y heard events) (f : IsFloor x.floor)
    (up : AreUp x.floor.bays x.links) where
  abbrev step : IsStep printer moment at.over.material at.link at.link' x.store y.store x.floor.ledger y.floor.ledger at.over.begun at.over.after heard events
  step = at.over.step

  abbrev told_events : FloorHistory
  told_events = noted_events printer step.turned.note ++ ended_events printer step.turned.ending

  rested : IsAtRest at.over.bay.session
  rested = all_at (λ (b : BayData). IsAtRest b.session) x.floor.bays printer at.over.bay f.at_rest at.over.its_bay

  dials : IsConnected at.over.bay.session at.over.begun.session
  dials = dial_connects x.floor.began at.over.port at.over.bay at.over.begun at.over.dials.bay_is rested

  linked : at.link.up ≡ at.over.bay.session.up
  linked = up printer at.over.bay at.link at.over.its_bay at.its_link

  -- what the printer did
  pub own_does : Does x.store.files events printer at.over.bay at.over.after at.link at.link'
  own_does =
      let first = does_dial x.store.files printer x.floor.began at.over.port at.over.bay at.over.begun at.link at.over.dials rested linked in
      let second = does_turn x.store.files printer moment at.link at.link' at.over.begun step.turned_to step.turned step.turn dials.ready.still in
      let third = does_begin x.store.files printer at.over.material step.tables y.store.tables step.told y.floor.ledger step.turned_to at.over.after at.link' step.begun
      step.begins step.turn.up
      in
      let so = does_then x.store.files printer told_events step.begun at.over.bay step.turned_to at.over.after at.link at.link' at.link'
      (does_then x.store.files printer [] told_events at.over.bay at.over.begun step.turned_to at.link at.link at.link' first second) third
      in
      subst (λ (es : FloorHistory). Does x.store.files es printer at.over.bay at.over.after at.link at.link') (sym step.events_are) so

  others_begun : (j : ℕ) → j ≢ printer → IsOthers j step.begun
  others_begun j not = by step.begins
    where
      put : (es : FloorHistory) → step.begun ≡ es → IsOthers j es → IsOthers j step.begun
      put es is others = subst (λ (fs : FloorHistory). IsOthers j fs) (sym is) others

      by : Begins printer at.over.material x.store.files step.tables y.store.tables step.told y.floor.ledger step.turned_to at.over.after step.begun → IsOthers j step.begun
      by (not_free busy none) = put [] none.no_event (others_none j)
      by (nothing_fits free fits none) = put [] none.no_event (others_none j)
      by (takes free lawful entry next (faulty is)) = put [] is.no_event (others_none j)
      by (takes free lawful entry next (passed read is)) = put (Passed entry ∷ []) is.its_event (record { notes = refl; starts = refl; ends = refl })
      by (takes free lawful entry next (started job read is)) = put (Started printer is.row entry ∷ []) is.its_event (others_started j printer is.row entry not)

  -- what is told of the other printers: nothing
  others : (j : ℕ) → j ≢ printer → IsOthers j events
  others j not =
      subst (λ (es : FloorHistory). IsOthers j es) (sym step.events_are)
      (others_then j told_events step.begun
      (others_then j (noted_events printer step.turned.note) (ended_events printer step.turned.ending) (others_noted j printer step.turned.note not)
      (others_ended j printer step.turned.ending not)) (others_begun j not))

  each_does : EachDoes events x y
  each_does j b b' link link' bay bay' its its' = by (same_or j printer)
    where
      by : (j ≡ printer) ⊎ (j ≢ printer) → Does x.store.files events j b b' link link'
      by (inr not) =
          let bay_is : b ≡ b' = same_place x.floor.bays j b b' bay (sym (other_bay printer moment x y heard events at j not) ∙ bay') in
          let link_is : link ≡ link' = same_place x.links j link link' its (sym (other_link printer moment x y heard events at j not) ∙ its') in
          let Of : BayData → Type 0 = λ c. Does x.store.files events j b c link link' in
          let By : LinkState → Type 0 = λ l. Does x.store.files events j b b link l in
          subst Of bay_is (subst By link_is (does_nothing x.store.files j events b link (others j not) (up j b link bay its)))
      by (inl is) =
          let At : ℕ → Type 0 = λ n. Does x.store.files events n b b' link link' in
          let b_is : at.over.bay ≡ b = same_place x.floor.bays printer at.over.bay b at.over.its_bay (ap (λ (n : ℕ). slice_get x.floor.bays n) (sym is) ∙ bay) in
          let b'_is : at.over.after ≡ b' =
          same_place y.floor.bays printer at.over.after b' (own_bay printer moment x y heard events at) (ap (λ (n : ℕ). slice_get y.floor.bays n) (sym is) ∙ bay')
          in
          let link_is : at.link ≡ link = same_place x.links printer at.link link at.its_link (ap (λ (n : ℕ). slice_get x.links n) (sym is) ∙ its) in
          let link'_is : at.link' ≡ link' =
          same_place y.links printer at.link' link' (own_link printer moment x y heard events at) (ap (λ (n : ℕ). slice_get y.links n) (sym is) ∙ its')
          in
          let A : BayData → Type 0 = λ c. Does x.store.files events printer c b' link link' in
          let B : BayData → Type 0 = λ c. Does x.store.files events printer at.over.bay c link link' in
          let K : LinkState → Type 0 = λ l. Does x.store.files events printer at.over.bay at.over.after l link' in
          let L : LinkState → Type 0 = λ l. Does x.store.files events printer at.over.bay at.over.after at.link l in
          subst At (sym is) (subst A b_is (subst B b'_is (subst K link_is (subst L link'_is own_does))))

  limits_stay : (j : ℕ) (b b' : BayData) → slice_get x.floor.bays j ≡ Some b → slice_get y.floor.bays j ≡ Some b' →
      b'.session.desk.limits ≡ b.session.desk.limits
  limits_stay j b b' bay bay' = by (same_or j printer)
    where
      by : (j ≡ printer) ⊎ (j ≢ printer) → b'.session.desk.limits ≡ b.session.desk.limits
      by (inr not) =
          sym (ap (λ (c : BayData). c.session.desk.limits)
          (same_place x.floor.bays j b b' bay (sym (other_bay printer moment x y heard events at j not) ∙ bay')))
      by (inl is) =
          let b_is : at.over.bay ≡ b = same_place x.floor.bays printer at.over.bay b at.over.its_bay (ap (λ (n : ℕ). slice_get x.floor.bays n) (sym is) ∙ bay) in
          let b'_is : at.over.after ≡ b' =
          same_place y.floor.bays printer at.over.after b' (own_bay printer moment x y heard events at) (ap (λ (n : ℕ). slice_get y.floor.bays n) (sym is) ∙ bay')
          in
          sym (ap (λ (c : BayData). c.session.desk.limits) b'_is) ∙ own_does.limits ∙ ap (λ (c : BayData). c.session.desk.limits) b_is

  -- the tables
  tables_stay : KeepsTables x y
  tables_stay first kept =
      let noted : LedgerData = with_events (noted_events printer step.turned.note) x.floor.ledger in
      let one = kept_note first printer step.turned.note x.floor.ledger x.store.tables kept in
      let two = kept_end first printer step.turned.ending x.store.tables step.tables noted step.told step.ending above one in
      kept_begin first printer at.over.material x.store.files step.tables y.store.tables step.told y.floor.ledger step.turned_to at.over.after step.begun
      step.begins two
    where
      above : (t : Tables) → x.store.tables ≡ Some t → IfSome step.turned.ending (λ one. length first.prints < one.print)
      above t is = by step.turned.ending step.turn.by_note.ends
        where
          since : AreKeptSince first x.floor.ledger t
          since = subst (λ (o : Option Tables). AreKept first x.floor.ledger o) is kept

          by : (o : Option Ending) → IfSome o (λ one. IsTurnEnding (fact_of step.turned.note) at.over.begun.session.desk step.turned_to.session.desk one) →
              IfSome o (λ one. length first.prints < one.print)
          by None ends = tt
          by (Some one) ends =
              let active : is_active at.over.bay ≡ true = sym dials.active ∙ ends.active in
              let own = all_at (λ (b : BayData). is_active b ≡ true →
              x.floor.ledger.stock.records < b.session.desk.greatest + length (started_rows x.floor.ledger.history)) x.floor.bays printer at.over.bay f.own
              at.over.its_bay active
              in
              let print = ends.print in
              let greatest = dials.greatest in
              let records = since.records in
              omega (arith, own, print, greatest, records)

  -- only what can't be printed is passed over
  passes_rightly : PassesRightly x events
  passes_rightly =
      subst (λ (es : FloorHistory). PassesRightly x es) (sym step.events_are)
      (passes_append x told_events step.begun (silent step.turned.note step.turned.ending) (by step.begins))
    where
      silent : (note : Option Note) (ending : Option Ending) → PassesRightly x (noted_events printer note ++ ended_events printer ending)
      silent None None = tt
      silent None (Some ending) = tt
      silent (Some note) None = tt
      silent (Some note) (Some ending) = tt

      limits_are : step.turned_to.session.desk.limits ≡ at.over.bay.session.desk.limits
      limits_are =
          (does_turn x.store.files printer moment at.link at.link' at.over.begun step.turned_to step.turned step.turn dials.ready.still).limits ∙ dials.limits

      put : (es : FloorHistory) → step.begun ≡ es → PassesRightly x es → PassesRightly x step.begun
      put es is so = subst (λ (fs : FloorHistory). PassesRightly x fs) (sym is) so

      by : Begins printer at.over.material x.store.files step.tables y.store.tables step.told y.floor.ledger step.turned_to at.over.after step.begun →
          PassesRightly x step.begun
      by (not_free busy none) = put [] none.no_event tt
      by (nothing_fits free fits none) = put [] none.no_event tt
      by (takes free lawful entry next (faulty is)) = put [] is.no_event tt
      by (takes free lawful entry next (started job read is)) = put (Started printer is.row entry ∷ []) is.its_event tt
      by (takes free lawful entry next (passed read is)) =
          put (Passed entry ∷ []) is.its_event (
            record {
              printer = printer;
              bay = at.over.bay;
              its_bay = at.over.its_bay;
              not_printable = λ held so. sym (subst (λ (l : Limits). None ≡ printable l entry.file held) limits_are (read held so));
            },
            tt,
          )

  pub goes_step : GoesOn x y events
  goes_step = record {
    copies = as_copies x y events (grown printer moment at.link at.link' x.store y.store x.floor y.floor heard events at.over f);
    tables = tables_stay;
    each = each_does;
    passes = passes_rightly;
    same = record {
      ports = at_ports printer moment x y heard events at;
      materials = at_materials printer moment x y heard events at;
      bays = at_bays printer moment x y heard events at;
      links = ap (λ (ls : List LinkState). length ls) at.links_are ∙ length-set x.links printer at.link';
      files = step.files;
      limits = limits_stay;
    };
    faults = step.faults;
  }

-- a floor that goes on, and is one, with its links up
pub record GoesWell (x y : Setting) (events : FloorHistory) : Type 0 where
  pub goes : GoesOn x y events
  pub floor : IsFloor y.floor
  pub up : AreUp y.floor.bays y.links

pub well_steps : (n moment : ℕ) (x y : Setting) (heard : Bool) (events : FloorHistory) → Steps n moment x y heard events → IsFloor x.floor →
    AreUp x.floor.bays x.links → GoesWell x y events
well_steps zero moment x y heard events s f up =
    let Of : FloorHistory → Type 0 = λ es. GoesWell x y es in
    let At : Setting → Type 0 = λ z. GoesWell x z [] in
    subst Of (sym s.2) (subst At (sym s.0) (record { goes = goes_same x up; floor = f; up = up }))
well_steps (suc n) moment x y heard events (mid, before, hears, former, added, first, last, is, are) f up =
    let one = well_steps n moment x mid before former first f up in
    let Of : FloorHistory → Type 0 = λ es. GoesWell x y es in
    subst Of (sym are) (record {
      goes = goes_then x mid y former added one.goes (goes_step n moment mid y hears added last one.floor one.up);
      floor = at_floor n moment mid y hears added last one.floor;
      up = at_up n moment mid y hears added last one.up;
    })

-- a round
well_made : (x stepped : Setting) (events : FloorHistory) → GoesWell x stepped events →
    GoesWell x (record stepped { floor = record stepped.floor { began = true } }) events
well_made x stepped events w = record {
  goes = record {
    copies = record { history = w.goes.copies.history; came = w.goes.copies.came; stock = w.goes.copies.stock; copies = w.goes.copies.copies };
    tables = w.goes.tables;
    each = w.goes.each;
    passes = w.goes.passes;
    same = record {
      ports = w.goes.same.ports;
      materials = w.goes.same.materials;
      bays = w.goes.same.bays;
      links = w.goes.same.links;
      files = w.goes.same.files;
      limits = w.goes.same.limits;
    };
    faults = w.goes.faults;
  };
  floor = record {
    some = w.floor.some;
    few = w.floor.few;
    ports = w.floor.ports;
    materials = w.floor.materials;
    at_rest = w.floor.at_rest;
    recorded = w.floor.recorded;
    own = w.floor.own;
    ended = w.floor.ended;
    came = w.floor.came;
  };
  up = w.up;
}

pub well_round : (moment : ℕ) (x y : Setting) (heard : Bool) (events : FloorHistory) → IsRound moment x y heard events → IsFloor x.floor →
    AreUp x.floor.bays x.links → GoesWell x y events
well_round moment x y heard events r f up =
    subst (λ (z : Setting). GoesWell x z events) (sym r.made)
    (well_made x r.stepped events (well_steps (length x.floor.bays) moment x r.stepped heard events r.steps f up))
