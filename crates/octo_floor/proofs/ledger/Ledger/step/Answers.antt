use Rattle.std.proofs.Common.{◌≡◌, ◌<◌, ℕ, List, ◌++◌, length, refl, sym, ◌∙◌, ap, subst, append_assoc}
use Rattle.std.specs.Prelude.{IfSome}
use Rattle.print_queue.specs.declared.ending.Ending.{Ending}
use Rattle.print_queue.specs.declared.row.PrintRow.{PrintRow}
use Rattle.octo_session.specs.Turn.{fact_of}
use Rattle.octo_floor_bay.specs.Events.{FloorHistory, started_rows, endings}
use Rattle.octo_floor.specs.Ledger.{LedgerData, noted_events, ended_events}
use Rattle.octo_floor.specs.Objects.{FaultsCame}
use Rattle.octo_floor.specs.Step.{IsEndTold}
use Rattle.octo_floor.proofs.Faults.{came_then}
use Rattle.octo_floor.proofs.Taking.{ending_begun, noted_rows, noted_endings}
use Rattle.octo_floor.proofs.ledger.Ledger.step.Goals as goal

pub end_print-requires-clause-begun : goal.end_print-requires-clause-begun
end_print-requires-clause-begun g c =
    let history : FloorHistory = c.args.self.now.history in
    let Few : LedgerData → Type 0 = λ l. IfSome c.turn-note.result.ending (λ one. length (endings l.history) < length (started_rows l.history)) in
    let By : ℕ → ℕ → Type 0 = λ ended begun. IfSome c.turn-note.result.ending (λ one. ended < begun) in
    let so : By (length (endings history)) (length (started_rows history)) =
    ending_begun (fact_of c.turn-note.result.note) c.args.bay.now.session.desk c.turn-note.new.self.session.desk (length (endings history))
    (length (started_rows history)) c.turn-note.result.ending c.turn-note.ensures.by_note.ends c.requires.begun
    in
    let rows = ap (λ (rs : List PrintRow). length rs) (sym (noted_rows history c.args.printer c.turn-note.result.note)) in
    let ends = ap (λ (es : List Ending). length es) (sym (noted_endings history c.args.printer c.turn-note.result.note)) in
    subst Few (sym c.add_note.ensures.ledger) (subst (λ (n : ℕ). By n (length (started_rows (history ++ noted_events c.args.printer c.turn-note.result.note)))) ends
    (subst (λ (n : ℕ). By (length (endings history)) n) rows so))

pub returns-clause-step : goal.returns-clause-step
returns-clause-step g c =
    let t = c.turn-note.ensures in
    let noted : FloorHistory = noted_events c.args.printer c.turn-note.result.note in
    let ended : FloorHistory = ended_events c.args.printer c.turn-note.result.ending in
    let begins = c.start_next.ensures.begins in
    let begun : FloorHistory = begins.0 in
    let first : FloorHistory = c.args.events.now.items in
    let Told : LedgerData → Type 0 = λ l. IsEndTold c.args.printer c.turn-note.result.ending (g.K.Keeper.state c.args.keeper.now).tables
    (g.K.Keeper.state c.end_print.new.keeper).tables l c.end_print.new.self
    in
    let Came : LedgerData → Type 0 = λ l. FaultsCame l.fault c.end_print.new.self.fault (g.K.Keeper.state c.args.keeper.now).faults
    (g.K.Keeper.state c.end_print.new.keeper).faults (g.S.Shelf.state c.args.shelf.now).faults (g.S.Shelf.state c.args.shelf.now).faults
    in
    let events : c.start_next.new.events.items ≡ first ++ (noted ++ ended ++ begun) =
    begins.1
    ∙ ap (λ (es : FloorHistory). es ++ begun) (c.end_print.ensures.events ∙ ap (λ (es : FloorHistory). es ++ ended) c.add_note.ensures.events)
    ∙ ap (λ (es : FloorHistory). es ++ begun) (append_assoc first noted ended) ∙ append_assoc first (noted ++ ended) begun
    in (
      noted ++ ended ++ begun,
      events,
      record {
        turned = c.turn-note.result;
        turned_to = c.turn-note.new.self;
        turn = record {
          turn = t.turn;
          by_note = t.by_note;
          active = t.active;
          added = t.added;
          ends = t.ends;
          tied = t.tied;
          up = t.link;
          kind = t.kind;
          counts = t.counts;
          calls = t.calls;
        };
        heard_is = refl;
        tables = (g.K.Keeper.state c.end_print.new.keeper).tables;
        told = c.end_print.new.self;
        ending = subst Told c.add_note.ensures.ledger c.end_print.ensures.told;
        begun = begun;
        begins = begins.2;
        events_are = refl;
        files = c.start_next.ensures.files;
        faults =
            came_then c.args.self.now.fault c.end_print.new.self.fault c.start_next.new.self.fault (g.K.Keeper.state c.args.keeper.now).faults
            (g.K.Keeper.state c.end_print.new.keeper).faults (g.K.Keeper.state c.start_next.new.keeper).faults (g.S.Shelf.state c.args.shelf.now).faults
            (g.S.Shelf.state c.args.shelf.now).faults (g.S.Shelf.state c.start_next.new.shelf).faults
            (subst Came c.add_note.ensures.ledger (c.end_print.ensures.faults (g.S.Shelf.state c.args.shelf.now).faults)) c.start_next.ensures.faults;
      },
    )
