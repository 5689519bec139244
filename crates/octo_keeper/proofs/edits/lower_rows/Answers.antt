-- One more row of a map in place.
use Rattle.std.proofs.Common.{set, ap, sym, ◌∙◌, arith}
use Rattle.std.proofs.lemmas.List.Edits.{map_over_more}
use Rattle.octo_keeper.specs.Tables.{lowered}
use Rattle.octo_keeper.proofs.edits.lower_rows.Goals as goal

pub loop-row-preserved : goal.loop-row-preserved
loop-row-preserved c =
    ap (λ y. set c.loop-row.rows c.loop-row.row-index y) c.lower_row.ensures
    ∙ ap (λ y. set c.loop-row.rows c.loop-row.row-index (lowered c.args.user.now c.args.name.now y)) (sym c.row-item.is)
    ∙ map_over_more (lowered c.args.user.now c.args.name.now) c.args.rows.now c.loop-row.rows c.loop-row.row-index c.row-item.result (omega arith) c.loop-row.invariant c.row-item.is
