use Rattle.octo_house_tables.proofs.tables.HostTables.note_end.Goals as goal

pub returns-clause-kept : goal.returns-clause-kept
returns-clause-kept g c = λ begun kept. c.write_end-2.ensures.kept begun (c.end_print.ensures.kept (g.K.Keeper.state c.args.keeper.now).tables begun kept)
