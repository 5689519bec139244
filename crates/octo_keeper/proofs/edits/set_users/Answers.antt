-- One more row of a map in place.
use Rattle.std.proofs.Common.{set, ap, sym, ◌∙◌, arith}
use Rattle.std.proofs.lemmas.List.Edits.{map_over_more}
use Rattle.octo_keeper.specs.Tables.{user_set}
use Rattle.octo_keeper.proofs.edits.set_users.Goals as goal

pub loop-held-preserved : goal.loop-held-preserved
loop-held-preserved c =
    ap (λ y. set c.loop-held.rows c.loop-held.held-index y) c.set_user.ensures
    ∙ ap (λ y. set c.loop-held.rows c.loop-held.held-index (user_set c.args.row.now y)) (sym c.held-item.is)
    ∙ map_over_more (user_set c.args.row.now) c.args.rows.now c.loop-held.rows c.loop-held.held-index c.held-item.result (omega arith) c.loop-held.invariant c.held-item.is
