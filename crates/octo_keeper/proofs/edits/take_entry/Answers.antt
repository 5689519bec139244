-- Rows of which nothing is left are dropped.
use Rattle.std.proofs.Common.{not, map, length, rules, ap, ◌∙◌, arith}
use Rattle.std.specs.List.{filter}
use Rattle.std.proofs.lemmas.Fn.{filter_same}
use Rattle.octo_keeper.specs.Tables.{lowered}
use Rattle.octo_keeper.proofs.Lowered.{is_used, used_rows, whole_written}
use Rattle.octo_keeper.proofs.edits.take_entry.Goals as goal

pub returns : goal.returns
returns c =
    let same = ap length c.deref_mut.ensures.value in
    filter_same _ (λ row. not (is_used c.args.user.now c.args.name.now row)) _ (λ x b f' k. search rules) _ _ c.retain.ensures.filtered
    ∙ ap (filter (λ row. not (is_used c.args.user.now c.args.name.now row)))
    (whole_written c.args.rows.now.len c.lower_rows.new.rows c.args.rows.now.items (omega (arith, same, c.lower_rows.auto.rows)) (omega (arith, same, c.deref_mut.ensures.len))
    ∙ c.lower_rows.ensures
    ∙ ap (map (lowered c.args.user.now c.args.name.now)) c.deref_mut.ensures.value)
    ∙ used_rows c.args.user.now c.args.name.now c.args.rows.now.items
