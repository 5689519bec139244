-- What the query leaves of the last commit, and why it fails.
use Rattle.std.proofs.Common.{inl, inr}
use Rattle.octo_keeper_sql.proofs.Failures.{in_time, shown_keeps, fails_keeps}
use Rattle.octo_keeper_sql.proofs.adopt.rows_of.Goals as goal

pub returns-in-Ok-clause-kept : goal.returns-in-Ok-clause-kept
returns-in-Ok-clause-kept g c inside clean = shown_keeps _ _ _ _ _ (c.in-Ok.ensures.ok clean) inside

pub returns-in-Err-clause-kept : goal.returns-in-Err-clause-kept
returns-in-Err-clause-kept g c inside clean = fails_keeps _ _ _ _ _ (in_time _ _ _ _ _ (c.in-Err.ensures.err clean) inside)

pub returns-in-Err-clause-failed : goal.returns-in-Err-clause-failed
returns-in-Err-clause-failed g c failed clean inside =
    (c.in-Err.error, (λ memory. let none = c.fault_of.ensures.1 memory in cc), in_time _ _ _ _ _ (c.in-Err.ensures.err clean) inside)
