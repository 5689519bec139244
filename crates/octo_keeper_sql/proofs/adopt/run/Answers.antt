use Rattle.octo_keeper_sql.proofs.adopt.run.Goals as goal

pub returns-in-Err-clause-failed : goal.returns-in-Err-clause-failed
returns-in-Err-clause-failed g c failed = c.in-Err.ensures.failed (λ memory. let none = c.fault_of.ensures.1 memory in cc)
