-- The three queries one after the other.
use Rattle.std.proofs.Common.{map, inl, inr, IsErrOf, rules}
use Rattle.octo_keeper.specs.declared.keeper.KeeperFault.TheVariants as fault
use Rattle.octo_keeper_sql.specs.Rows.{user_row, entry_row}
use Rattle.octo_keeper_sql.proofs.load.load_rows.Goals as goal

pub returns-in_err-queue-clause-failed : goal.returns-in_err-queue-clause-failed
returns-in_err-queue-clause-failed g c failed clean =
    let is : IsErrOf c.load_entries.result fault.Failed = search rules in
    inr (c.load_users.new.connection, map user_row c.in_ok-users.users, c.in_ok-users.ensures.rows (c.load_entries.ensures.clean clean), inl (c.load_entries.ensures.failed is clean))

pub returns-in_err-prints-clause-failed : goal.returns-in_err-prints-clause-failed
returns-in_err-prints-clause-failed g c failed clean =
    let two = c.load_prints.ensures.clean clean in
    let is : IsErrOf c.load_prints.result fault.Failed = search rules in
    inr (
      c.load_users.new.connection,
      map user_row c.in_ok-users.users,
      c.in_ok-users.ensures.rows (c.load_entries.ensures.clean two),
      inr (c.load_entries.new.connection, map entry_row c.in_ok-queue.queue, c.in_ok-queue.ensures.rows two, c.load_prints.ensures.failed is clean),
    )

pub returns-in_err-users-clause-memory : goal.returns-in_err-users-clause-memory
returns-in_err-users-clause-memory g c lacks clean =
    let is : IsErrOf c.load_users.result fault.NoMemory = search rules in
    inl (c.load_users.ensures.memory is clean)

pub returns-in_err-queue-clause-memory : goal.returns-in_err-queue-clause-memory
returns-in_err-queue-clause-memory g c lacks clean =
    let is : IsErrOf c.load_entries.result fault.NoMemory = search rules in
    inr (c.load_users.new.connection, map user_row c.in_ok-users.users, c.in_ok-users.ensures.rows (c.load_entries.ensures.clean clean), inl (c.load_entries.ensures.memory is clean))

pub returns-in_err-prints-clause-memory : goal.returns-in_err-prints-clause-memory
returns-in_err-prints-clause-memory g c lacks clean =
    let two = c.load_prints.ensures.clean clean in
    let is : IsErrOf c.load_prints.result fault.NoMemory = search rules in
    inr (
      c.load_users.new.connection,
      map user_row c.in_ok-users.users,
      c.in_ok-users.ensures.rows (c.load_entries.ensures.clean two),
      inr (c.load_entries.new.connection, map entry_row c.in_ok-queue.queue, c.in_ok-queue.ensures.rows two, c.load_prints.ensures.memory is clean),
    )

pub returns-clause-rows : goal.returns-clause-rows
returns-clause-rows g c clean =
    let two = c.load_prints.ensures.clean clean in
    record {
      one = c.load_users.new.connection;
      two = c.load_entries.new.connection;
      users = c.in_ok-users.ensures.rows (c.load_entries.ensures.clean two);
      queue = c.in_ok-queue.ensures.rows two;
      prints = c.in_ok-prints.ensures.rows clean;
    }
