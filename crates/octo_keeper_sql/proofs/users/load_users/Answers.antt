use Rattle.std.proofs.Common.{◌≡◌, List, [], All, inl, inr, subst, rules}
use Rattle.sqlite_value.specs.Order.{Row}
use Rattle.sqlite.specs.declared.error.Error.TheVariants.{SqliteFailure}
use Rattle.sqlite.specs.declared.error.ErrorCode.TheVariants.{OutOfMemory}
use Rattle.sqlite.specs.Held.{state}
use Rattle.sqlite.specs.State.{FailsToQuery}
use Rattle.octo_keeper_sql.specs.declared.schema.TheConstants.{SELECT_USERS}
use Rattle.octo_keeper_sql.specs.Holds.{HoldsUser}
use Rattle.octo_keeper_sql.proofs.users.load_users.Goals as goal

-- a row that the query showed can't be read
pub returns-in-Ok-clause-failed : goal.returns-in-Ok-clause-failed
returns-in-Ok-clause-failed g c failed clean =
    inr (c.in-Ok.rows.items, c.in-Ok.ensures.ok clean, subst (λ (rows : List Row). ¬ All HoldsUser rows) c.as_slice.ensures.value (c.users_of.ensures.failed failed))

pub returns-in-Err-clause-failed : goal.returns-in-Err-clause-failed
returns-in-Err-clause-failed g c failed clean =
    inl (c.in-Err.error, (λ memory. let none = c.fault_of.ensures.1 memory in cc), c.in-Err.ensures.err clean)

pub returns-in-Ok-clause-memory : goal.returns-in-Ok-clause-memory
returns-in-Ok-clause-memory g c failed clean = inr (c.in-Ok.rows.items, c.in-Ok.ensures.ok clean)

pub returns-in-Err-clause-memory : goal.returns-in-Err-clause-memory
returns-in-Err-clause-memory g c failed clean =
    let is : c.in-Err.error ≡ SqliteFailure OutOfMemory = c.fault_of.ensures.0 (search rules) in
    inl (subst (λ e. FailsToQuery SELECT_USERS.now [] (state g.S.Store c.args.connection.now) (state g.S.Store c.query_all.new.self) e) is (c.in-Err.ensures.err clean))
