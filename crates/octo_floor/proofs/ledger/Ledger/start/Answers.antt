use Rattle.std.proofs.Common.{◌≡◌, ◌<◌, inl, inr, ℕ, suc, [], ◌∷◌, length, refl, sym, ◌∙◌, ap, subst, append-nil, arith}
use Rattle.print_queue.specs.declared.row.PrintRow.{PrintRow}
use Rattle.octo_floor_bay.specs.Stock.{Stock, after_event}
use Rattle.octo_floor_bay.specs.declared.event.FloorEvent.TheVariants.{Started}
use Rattle.octo_floor_bay.specs.Written.{most_records, row_of}
use Rattle.octo_floor.specs.Ledger.{LedgerData, with_events, with_fault}
use Rattle.octo_floor.proofs.ledger.Ledger.start.Goals as goal

pub invariant_of-self : goal.invariant_of-self
invariant_of-self g c =
    let more : c.begin.new.self.records ≡ suc c.self.inside.stock.records = ap (λ (s : Stock). s.records) (c.in-Ok.ensures.ok c.args.printer) in
    let few = c.self.invariant.recorded in
    record { tally = c.self.invariant.tally; recorded = omega (arith, more, few) }

pub add_start-requires-clause-begun : goal.add_start-requires-clause-begun
add_start-requires-clause-begun g c =
    let more : c.begin.new.self.records ≡ suc c.self.inside.stock.records = ap (λ (s : Stock). s.records) (c.in-Ok.ensures.ok c.args.printer) in
    let few = c.self.invariant.recorded in
    omega (arith, more, few)

pub add_start-requires-clause-few : goal.add_start-requires-clause-few
add_start-requires-clause-few g c =
    let room : c.self.inside.stock.records < most_records = subst (λ (l : LedgerData). l.stock.records < most_records) (sym c.self.view_is) c.requires.free.room in
    let few = c.self.invariant.recorded in
    omega (arith, room, few)

pub returns-in-Ok-clause-does : goal.returns-in-Ok-clause-does
returns-in-Ok-clause-does g c =
    let row : PrintRow = c.in-Ok.row in
    let Begun : LedgerData → LedgerData =
    λ l. record (with_events (Started c.args.printer row c.args.entry ∷ []) l) { stock = after_event (Started c.args.printer row c.args.entry) l.stock }
    in
    let With : Stock → LedgerData = λ s. with_events (Started c.args.printer row c.args.entry ∷ [])
    (record { stock = s; history = c.self.inside.history; ends_written = c.self.inside.ends_written; fault = c.self.inside.fault })
    in (
      Started c.args.printer row c.args.entry ∷ [],
      c.add_start.ensures.events,
      inl (record {
        row = row;
        row_is =
            c.in-Ok.ensures.row ∙ ap (λ (n : ℕ). row_of c.self.inside.stock c.args.entry n) c.count.ensures.value
            ∙ ap (λ (l : LedgerData). row_of l.stock c.args.entry (length c.args.job.commands)) c.self.view_is;
        tables_are = c.in-Ok.ensures.written c.args.printer;
        ledger_is = c.add_start.ensures.ledger ∙ ap With (c.in-Ok.ensures.ok c.args.printer) ∙ ap Begun c.self.view_is;
        bay_is = c.start.ensures.after;
        printing_is = c.start.ensures.desk;
        begun = c.start.ensures.run;
        tied = c.start.ensures.tied;
        its_event = refl;
      }),
    )

pub returns-in-Err-clause-does : goal.returns-in-Err-clause-does
returns-in-Err-clause-does g c =
    let With : Stock → LedgerData =
    λ s. with_fault c.in-Err.fault (record { stock = s; history = c.self.inside.history; ends_written = c.self.inside.ends_written; fault = c.self.inside.fault })
    in (
      [],
      sym (append-nil c.args.events.now.items),
      inr (record {
        why = c.in-Err.fault;
        tables_are = c.in-Err.ensures.unwritten;
        ledger_is = c.add_fault.ensures ∙ ap With c.in-Err.ensures.err ∙ ap (λ (l : LedgerData). with_fault c.in-Err.fault l) c.self.view_is;
        bay_is = refl;
        no_event = refl;
      }),
    )
