use Rattle.std.proofs.Common.{[], ◌∷◌, ◌++◌, length, option_map, ap, ◌∙◌, refl, arith}
use Rattle.std.specs.Option.{option_or}
use Rattle.octo_keeper.specs.Tables.{changed, with_due_end}
use Rattle.octo_keeper.proofs.Lowered.{whole_written}
use Rattle.octo_keeper.specs.declared.tables.Change.TheVariants as change
use Rattle.octo_house_tables.specs.Data.{TablesData, due_of}
use Rattle.octo_house_tables.proofs.Keeping.{keeps-same, keeps-changed, kept-begin, prints-same, begun-over}
use Rattle.octo_house_tables.proofs.tables.HostTables.begin_print.Goals as goal

pub returns-in_default-clause-kept : goal.returns-in_default-clause-kept
returns-in_default-clause-kept g c = keeps-same _ _ _ _ refl (prints-same _ _ _ c.self.view_is c.reserve_print.ensures.items)

pub returns-clause-ok : goal.returns-clause-ok
returns-clause-ok g c =
    let same = ap length c.deref_mut.ensures.value in
    let whole = whole_written c.reserve_print.new.rows.len c.end_due.new.rows c.reserve_print.new.rows.items (omega (arith, same, c.end_due.auto.rows))
    (omega (arith, same, c.deref_mut.ensures.len)) in
    begun-over _ c.args.self.now _ c.add_print.new.rows.items c.args.ended c.args.row c.args.taken c.self.view_is
    (c.add_print.ensures
    ∙ ap (λ rows. rows ++ c.args.row ∷ [])
    (whole ∙ c.end_due.ensures ∙ ap (with_due_end c.args.ended) (c.deref_mut.ensures.value ∙ c.reserve_print.ensures.items)))
    (c.self-2.view_is ∙ c.take.ensures)

pub returns-clause-kept : goal.returns-clause-kept
returns-clause-kept g c =
    keeps-changed (change.Begin c.end_with.result c.args.row c.args.taken) _ _ _ _
    (c.in_ok-commit.ensures.ok
    ∙ ap (λ row. option_map (changed (change.Begin c.end_with.result row c.copy_taken.result)) (g.K.Keeper.state c.args.keeper.now).tables) c.copy.ensures
    ∙ ap (λ taken. option_map (changed (change.Begin c.end_with.result c.args.row taken)) (g.K.Keeper.state c.args.keeper.now).tables) c.copy_taken.ensures)
    (kept-begin c.args.ended c.end_with.result c.args.row c.args.taken c.args.self.now _ c.requires
    (c.end_with.ensures ∙ ap (λ (t : TablesData). option_or c.args.ended (due_of t)) c.self.view_is) (returns-clause-ok g c))
