-- One more row of a map in place.
use Rattle.std.proofs.Common.{set, ap, sym, ◌∙◌, arith}
use Rattle.std.proofs.lemmas.List.Edits.{map_over_more}
use Rattle.octo_house_rules.specs.Begins.{row_read}
use Rattle.octo_house_tables.proofs.prints.read_prints.Goals as goal

pub loop-row-preserved : goal.loop-row-preserved
loop-row-preserved c =
    ap (λ y. set c.loop-row.rows c.loop-row.row-index y) c.read_row.ensures
    ∙ ap (λ y. set c.loop-row.rows c.loop-row.row-index (row_read y)) (sym c.row-item.is)
    ∙ map_over_more row_read c.args.rows.now c.loop-row.rows c.loop-row.row-index c.row-item.result (omega arith) c.loop-row.invariant c.row-item.is
