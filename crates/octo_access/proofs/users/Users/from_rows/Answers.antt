use Rattle.std.proofs.Common.{◌≡◌, ◌++◌, length, take, drop, arith, rules, ◌∙◌, ap}
use Rattle.std.proofs.lemmas.Grind.{common_steps}
use Rattle.std.proofs.lemmas.List.Sorted.{length_permutation}
use Rattle.octo_access.proofs.Tables.{table-ordered}
use Rattle.octo_access.proofs.users.Users.from_rows.Goals as goal

pub invariant_of-result : goal.invariant_of-result
invariant_of-result c =
    let long : length c.put_in_order.new.rows ≡ length c.into_items-rows.result.items =
    length_permutation c.deref_mut.result.now c.put_in_order.new.rows c.put_in_order.ensures.permutation ∙ ap length c.deref_mut.ensures.value in
    let whole : take c.into_items-rows.result.len (c.put_in_order.new.rows ++ drop (length c.put_in_order.new.rows) c.into_items-rows.result.items) ≡ c.put_in_order.new.rows = grind (arith, common_steps) in
    rw whole (table-ordered c.args.rows c.put_in_order.new.rows c.requires (search rules) c.put_in_order.ensures.ordered)
