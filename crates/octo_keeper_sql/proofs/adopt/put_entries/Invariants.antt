use Rattle.std.proofs.Common.{map, take}
use Rattle.octo_keeper_sql.specs.Kept.{KeepsLastCommit, Unstored}
use Rattle.octo_keeper_sql.specs.Statements.{Runs, entry_put}
use Rattle.octo_keeper_sql.proofs.adopt.put_entries.Given as goal

-- nothing is stored so far, the last commit is kept, and the statements of the entries so far ran
abbrev pub invariant-loop-entry : goal.invariant-loop-entry
invariant-loop-entry g l = record {
  stores : Unstored g.S.Store l.fn.transaction.conn l.transaction.conn;
  kept : KeepsLastCommit g.S.Store l.fn.transaction.conn.now l.transaction.conn.now;
  ran : Runs g.S.Store (map entry_put (take l.entry-index l.entries)) l.fn.transaction.conn.now l.transaction.conn.now;
}
