-- The rows of the former queue, and the statements of its upgrade.
use Rattle.std.proofs.Common.{◌≡◌, List, All, map, inl, inr, IsErrOf, rules, subst, sym, ap, ◌∙◌}
use Rattle.octo_keeper.specs.declared.keeper.KeeperFault.TheVariants as fault
use Rattle.sqlite_value.specs.Order.{Row}
use Rattle.sqlite.specs.Held.{state}
use Rattle.sqlite.specs.State.{HasCleanDisk}
use Rattle.octo_keeper_sql.specs.declared.schema.TheConstants.{SELECT_OLD_QUEUE}
use Rattle.octo_keeper_sql.specs.Loads.{Found}
use Rattle.octo_keeper_sql.specs.Settled.{Upgraded, queue_moved}
use Rattle.octo_keeper_sql.specs.Statements.{FailsInTurn, Runs}
use Rattle.octo_keeper_sql.specs.Holds.{HoldsOldEntry}
use Rattle.octo_keeper_sql.specs.Rows.{old_entry_row}
use Rattle.octo_keeper_sql.specs.Upgrade.{upgraded}
use Rattle.octo_keeper_sql.proofs.Failures.{found_inside}
use Rattle.octo_keeper_sql.proofs.Kept.{commit_then, unstored_clean}
use Rattle.octo_keeper_sql.proofs.Statements.{on_ok}
use Rattle.octo_keeper_sql.proofs.adopt.upgrade_tables.Goals as goal

pub returns-clause-ran : goal.returns-clause-ran
returns-clause-ran g c =
    let a = c.args.transaction.now.conn in
    let read = c.rows_of.new.transaction.conn in
    let f = c.move_queue.new.transaction.conn in
    let olds = c.in_ok-old.old.items in
    let new : c.as_slice-3.result.now ≡ map upgraded olds = c.as_slice-3.ensures ∙ c.in_ok-entries.ensures ∙ ap (map upgraded) c.as_slice-2.ensures.value in
    on_ok c.move_queue.result (Runs g.S.Store (queue_moved c.as_slice-3.result.now) read.now f.now) (HasCleanDisk (state g.S.Store f.now) → Upgraded g.S.Store a.now f.now)
    (λ it clean. record {
      olds = olds;
      read = read.now;
      found = subst (λ (rows : List Row). Found g.S.Store SELECT_OLD_QUEUE.now rows a.now read.now) (sym (c.in_ok-old.ensures.ok ∙ c.as_slice.ensures.value)) (c.in_ok-rows.ensures.found (unstored_clean g.S.Store read f c.move_queue.ensures.stores clean));
      ran = subst (λ list. Runs g.S.Store (queue_moved list) read.now f.now) new it clean;
    }) c.move_queue.ensures.ran

-- a row that the query showed can't be read
pub returns-in_err-old-clause-failed : goal.returns-in_err-old-clause-failed
returns-in_err-old-clause-failed g c failed clean inside =
    let is : IsErrOf c.old_entries_of.result fault.Failed = search rules in
    inl (inr (c.in_ok-rows.rows.items, c.in_ok-rows.ensures.found clean, subst (λ (rows : List Row). ¬ All HoldsOldEntry rows) c.as_slice.ensures.value (c.old_entries_of.ensures.failed is)))

pub returns-clause-failed : goal.returns-clause-failed
returns-clause-failed g c failed clean inside =
    let a = c.args.transaction.now.conn in
    let read = c.rows_of.new.transaction.conn in
    let f = c.move_queue.new.transaction.conn in
    let olds = c.in_ok-old.old.items in
    let new : c.as_slice-3.result.now ≡ map upgraded olds = c.as_slice-3.ensures ∙ c.in_ok-entries.ensures ∙ ap (map upgraded) c.as_slice-2.ensures.value in
    let found = subst (λ (rows : List Row). Found g.S.Store SELECT_OLD_QUEUE.now rows a.now read.now) (sym (c.in_ok-old.ensures.ok ∙ c.as_slice.ensures.value)) (c.in_ok-rows.ensures.found (unstored_clean g.S.Store read f c.move_queue.ensures.stores clean)) in
    let still = found_inside g.S.Store SELECT_OLD_QUEUE.now (map old_entry_row olds) a.now read.now found inside in
    inr (olds, read.now, found, subst (λ list. FailsInTurn g.S.Store (queue_moved list) read.now f.now) new (c.move_queue.ensures.failed failed clean still))

pub returns-clause-kept : goal.returns-clause-kept
returns-clause-kept g c inside =
    commit_then g.S.Store c.args.transaction.now.conn c.rows_of.new.transaction.conn c.move_queue.new.transaction.conn c.move_queue.ensures.stores (c.rows_of.ensures.kept inside) c.move_queue.ensures.kept
