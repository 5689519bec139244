-- One entry more, and one that isn't put.
use Rattle.std.proofs.Common.{[], ◌∷◌, ◌++◌, ◌+◌, map, take, drop, subst, sym, arith}
use Rattle.octo_keeper_sql.specs.Statements.{FailsInTurn, InTransaction, Runs, entry_put}
use Rattle.octo_keeper_sql.proofs.Failures.{fails_at, fails_then}
use Rattle.octo_keeper_sql.proofs.Kept.{commit_then, kept_clean, kept_unstored, unstored_then}
use Rattle.octo_keeper_sql.proofs.Statements.{put_more, put_split, runs_both}
use Rattle.octo_keeper_sql.proofs.adopt.put_entries.Goals as goal

pub loop-entry-preserved : goal.loop-entry-preserved
loop-entry-preserved g c =
    let a = c.args.transaction.now.conn in
    let b = c.loop-entry.transaction.conn in
    let d = c.put_entry.new.transaction.conn in
    let kept = c.put_entry.ensures.kept in
    let entry = c.entry-item.result in
    record {
      stores = unstored_then g.S.Store a b d c.loop-entry.invariant.stores (kept_unstored g.S.Store b d kept);
      kept = commit_then g.S.Store a b d (kept_unstored g.S.Store b d kept) c.loop-entry.invariant.kept kept.moved.kept;
      ran = subst (λ list. Runs g.S.Store list a.now d.now) (sym (put_more c.args.entries.now c.loop-entry.entry-index entry (omega arith) c.entry-item.is))
          (runs_both g.S.Store (map entry_put (take c.loop-entry.entry-index c.args.entries.now)) (entry_put entry ∷ []) a.now b.now d.now (kept_clean g.S.Store b d kept) c.loop-entry.invariant.ran c.in_default.ensures.ran);
    }

pub returns-in-Err-clause-kept : goal.returns-in-Err-clause-kept
returns-in-Err-clause-kept g c =
    let a = c.args.transaction.now.conn in
    let b = c.loop-entry.transaction.conn in
    let d = c.put_entry.new.transaction.conn in
    let kept = c.put_entry.ensures.kept in
    commit_then g.S.Store a b d (kept_unstored g.S.Store b d kept) c.loop-entry.invariant.kept kept.moved.kept

pub returns-clause-kept : goal.returns-clause-kept
returns-clause-kept g c = c.loop-entry.invariant.kept

pub returns-in-Err-clause-failed : goal.returns-in-Err-clause-failed
returns-in-Err-clause-failed g c failed =
    let a = c.args.transaction.now.conn in
    let b = c.loop-entry.transaction.conn in
    let d = c.put_entry.new.transaction.conn in
    let entries = c.args.entries.now in
    let i = c.loop-entry.entry-index in
    let entry = c.entry-item.result in
    let before = map entry_put (take i entries) in
    let after = map entry_put (drop (i + 1) entries) in
    let refused = c.in-Err.ensures.failed (λ memory. let none = c.fault_of.ensures.1 memory in cc) in
    let fails = fails_then g.S.Store before (entry_put entry ∷ []) a b d (kept_unstored g.S.Store b d c.put_entry.ensures.kept) c.loop-entry.invariant.ran refused in
    subst (λ list. InTransaction g.S.Store (FailsInTurn g.S.Store list) a.now d.now) (sym (put_split entries i entry (omega arith) c.entry-item.is))
    (fails_at g.S.Store (before ++ entry_put entry ∷ []) after a.now d.now fails)
