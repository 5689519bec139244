use Rattle.std.proofs.Common.{◌≡◌, true, cond, sym, ap, ◌∙◌, refl, rules}
use Rattle.print_queue.specs.Calls.{put_answer}
use Rattle.print_queue.specs.Rows.{insert_row}
use Rattle.octo_house_tables.specs.Data.{TablesData}
use Rattle.octo_house_tables.proofs.Keeping.{keeps-same, queue-same, queue-over}
use Rattle.octo_house_tables.proofs.Put.{put-done, put-keeps}
use Rattle.octo_house_tables.proofs.tables.HostTables.put_entry.Goals as goal

pub returns-in-Err-clause-rest : goal.returns-in-Err-clause-rest
returns-in-Err-clause-rest g c = record {
  kept = keeps-same _ _ _ _ refl (queue-same _ _ _ c.self.view_is c.in-Err.ensures.rows);
  prints = search rules;
  written = search rules;
  keeper = search rules;
  shelf = search rules;
}

pub returns-then-put-clause-done : goal.returns-then-put-clause-done
returns-then-put-clause-done g c =
    let rows = c.self.inside.queue.rows in
    let fresh : c.in-Ok.put.fresh ≡ true = c.if-put.true in
    put-done c.args.self.now _ c.write_entry.new.self c.args.asked.now c.in-Ok.put c.write_entry.result
    (g.K.Keeper.state c.args.keeper.now).tables (g.K.Keeper.state c.write_entry.new.keeper).tables
    (ap (λ (t : TablesData). put_answer t.queue c.args.asked.now) (sym c.self.view_is) ∙ ap (put_answer rows) c.requires.new ∙ sym
    (c.in-Ok.ensures.answer (λ e. absurd (cc e))))
    fresh
    (queue-over _ _ c.put.new.self.rows (insert_row c.in-Ok.put.entry) c.self.view_is
    (c.in-Ok.ensures.rows ∙ ap (λ b. cond b (insert_row c.in-Ok.put.entry rows) rows) fresh))
    (record { answer = c.write_entry.ensures.answer; ok = c.write_entry.ensures.ok; err = c.write_entry.ensures.err })

pub returns-then-put-clause-rest : goal.returns-then-put-clause-rest
returns-then-put-clause-rest g c =
    let rows = c.self.inside.queue.rows in
    let fresh : c.in-Ok.put.fresh ≡ true = c.if-put.true in
    record {
      kept = put-keeps c.args.self.now _ c.write_entry.new.self c.args.asked.now c.in-Ok.put c.write_entry.result
          (g.K.Keeper.state c.args.keeper.now).tables (g.K.Keeper.state c.write_entry.new.keeper).tables
          (ap (λ (t : TablesData). put_answer t.queue c.args.asked.now) (sym c.self.view_is) ∙ ap (put_answer rows) c.requires.new ∙ sym
          (c.in-Ok.ensures.answer (λ e. absurd (cc e))))
          fresh
          (queue-over _ _ c.put.new.self.rows (insert_row c.in-Ok.put.entry) c.self.view_is
          (c.in-Ok.ensures.rows ∙ ap (λ b. cond b (insert_row c.in-Ok.put.entry rows) rows) fresh))
          (record { answer = c.write_entry.ensures.answer; ok = c.write_entry.ensures.ok; err = c.write_entry.ensures.err });
      prints = search rules;
      written = search rules;
      keeper = search rules;
      shelf = search rules;
    }

pub returns-clause-rest : goal.returns-clause-rest
returns-clause-rest g c =
    let rows = c.self.inside.queue.rows in
    record {
      kept = keeps-same _ _ _ _ refl (queue-same _ _ _ c.self.view_is (c.in-Ok.ensures.rows ∙ ap (λ b. cond b (insert_row c.in-Ok.put.entry rows) rows) c.if-put.false));
      prints = search rules;
      written = search rules;
      keeper = search rules;
      shelf = search rules;
    }
