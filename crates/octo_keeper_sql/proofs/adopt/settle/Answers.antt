-- What is done follows from the number of the schema.
use Rattle.std.proofs.Common.{◌≡◌, pos, [], ◌∷◌, inl, inr, refl, rules, IsErrOf}
use Rattle.octo_keeper.specs.declared.keeper.KeeperFault.TheVariants as fault
use Rattle.sqlite.specs.Held.{state}
use Rattle.sqlite.specs.State.{HasCleanDisk}
use Rattle.octo_keeper_sql.specs.declared.schema.TheConstants.{CREATE_META, SELECT_SCHEMA}
use Rattle.octo_keeper_sql.specs.Settled.{IsForeign, Settled, Upgraded, plain, tables_made}
use Rattle.octo_keeper_sql.specs.Statements.{Runs}
use Rattle.octo_keeper_sql.proofs.Kept.{commit_then, unstored_clean}
use Rattle.octo_keeper_sql.proofs.Failures.{found_inside}
use Rattle.octo_keeper_sql.proofs.Statements.{on_ok, ran_inside}
use Rattle.octo_keeper_sql.proofs.adopt.settle.Goals as goal

pub returns-in-0-clause-settled : goal.returns-in-0-clause-settled
returns-in-0-clause-settled g c =
    let a = c.args.transaction.now.conn in
    let b = c.run.new.transaction.conn in
    let d = c.schema_of.new.transaction.conn in
    let e = c.make_tables.new.transaction.conn in
    let is : c.in_ok-schema_of.field-0 ≡ pos 0 = search rules in
    on_ok c.make_tables.result (Runs g.S.Store tables_made d.now e.now) (HasCleanDisk (state g.S.Store e.now) → Settled g.S.Store a.now e.now)
    (λ ran clean.
    let read = unstored_clean g.S.Store d e c.make_tables.ensures.stores clean in
    record {
      made = b.now;
      read = d.now;
      number = c.in_ok-schema_of.field-0;
      meta = c.in_ok-run.ensures.ran (unstored_clean g.S.Store b d c.schema_of.ensures.stores read);
      found = c.in_ok-schema_of.ensures.number read;
      settled = inl (is, ran clean);
    }) c.make_tables.ensures.ran

pub returns-in-1-clause-settled : goal.returns-in-1-clause-settled
returns-in-1-clause-settled g c =
    let a = c.args.transaction.now.conn in
    let b = c.run.new.transaction.conn in
    let d = c.schema_of.new.transaction.conn in
    let e = c.upgrade_tables.new.transaction.conn in
    let is : c.in_ok-schema_of.field-0 ≡ pos 1 = search rules in
    on_ok c.upgrade_tables.result (HasCleanDisk (state g.S.Store e.now) → Upgraded g.S.Store d.now e.now) (HasCleanDisk (state g.S.Store e.now) → Settled g.S.Store a.now e.now)
    (λ ran clean.
    let read = unstored_clean g.S.Store d e c.upgrade_tables.ensures.stores clean in
    record {
      made = b.now;
      read = d.now;
      number = c.in_ok-schema_of.field-0;
      meta = c.in_ok-run.ensures.ran (unstored_clean g.S.Store b d c.schema_of.ensures.stores read);
      found = c.in_ok-schema_of.ensures.number read;
      settled = inr (inl (is, ran clean));
    }) c.upgrade_tables.ensures.ran

pub returns-in-2-clause-settled : goal.returns-in-2-clause-settled
returns-in-2-clause-settled g c read =
    let b = c.run.new.transaction.conn in
    let d = c.schema_of.new.transaction.conn in
    let is : c.in_ok-schema_of.field-0 ≡ pos 2 = search rules in
    record {
      made = b.now;
      read = d.now;
      number = c.in_ok-schema_of.field-0;
      meta = c.in_ok-run.ensures.ran (unstored_clean g.S.Store b d c.schema_of.ensures.stores read);
      found = c.in_ok-schema_of.ensures.number read;
      settled = inr (inr (is, refl));
    }

-- the last commit, after the number was looked up
pub returns-in_err-schema_of-clause-kept : goal.returns-in_err-schema_of-clause-kept
returns-in_err-schema_of-clause-kept g c inside clean =
    let a = c.args.transaction.now.conn in
    let b = c.run.new.transaction.conn in
    let d = c.schema_of.new.transaction.conn in
    let ran = c.in_ok-run.ensures.ran (unstored_clean g.S.Store b d c.schema_of.ensures.stores clean) in
    let still = ran_inside g.S.Store (plain CREATE_META.now ∷ []) a.now b.now ran inside in
    commit_then g.S.Store a b d c.schema_of.ensures.stores c.run.ensures.kept (c.schema_of.ensures.kept still) clean

pub returns-in-2-clause-kept : goal.returns-in-2-clause-kept
returns-in-2-clause-kept g c inside clean =
    let a = c.args.transaction.now.conn in
    let b = c.run.new.transaction.conn in
    let d = c.schema_of.new.transaction.conn in
    let ran = c.in_ok-run.ensures.ran (unstored_clean g.S.Store b d c.schema_of.ensures.stores clean) in
    let still = ran_inside g.S.Store (plain CREATE_META.now ∷ []) a.now b.now ran inside in
    commit_then g.S.Store a b d c.schema_of.ensures.stores c.run.ensures.kept (c.schema_of.ensures.kept still) clean

pub returns-in_default-clause-kept : goal.returns-in_default-clause-kept
returns-in_default-clause-kept g c inside clean =
    let a = c.args.transaction.now.conn in
    let b = c.run.new.transaction.conn in
    let d = c.schema_of.new.transaction.conn in
    let ran = c.in_ok-run.ensures.ran (unstored_clean g.S.Store b d c.schema_of.ensures.stores clean) in
    let still = ran_inside g.S.Store (plain CREATE_META.now ∷ []) a.now b.now ran inside in
    commit_then g.S.Store a b d c.schema_of.ensures.stores c.run.ensures.kept (c.schema_of.ensures.kept still) clean

pub returns-in-0-clause-kept : goal.returns-in-0-clause-kept
returns-in-0-clause-kept g c inside clean =
    let a = c.args.transaction.now.conn in
    let b = c.run.new.transaction.conn in
    let d = c.schema_of.new.transaction.conn in
    let e = c.make_tables.new.transaction.conn in
    let read = unstored_clean g.S.Store d e c.make_tables.ensures.stores clean in
    let ran = c.in_ok-run.ensures.ran (unstored_clean g.S.Store b d c.schema_of.ensures.stores read) in
    let still = ran_inside g.S.Store (plain CREATE_META.now ∷ []) a.now b.now ran inside in
    commit_then g.S.Store a d e c.make_tables.ensures.stores
    (commit_then g.S.Store a b d c.schema_of.ensures.stores c.run.ensures.kept (c.schema_of.ensures.kept still)) c.make_tables.ensures.kept clean

pub returns-in-1-clause-kept : goal.returns-in-1-clause-kept
returns-in-1-clause-kept g c inside clean =
    let a = c.args.transaction.now.conn in
    let b = c.run.new.transaction.conn in
    let d = c.schema_of.new.transaction.conn in
    let e = c.upgrade_tables.new.transaction.conn in
    let read = unstored_clean g.S.Store d e c.upgrade_tables.ensures.stores clean in
    let ran = c.in_ok-run.ensures.ran (unstored_clean g.S.Store b d c.schema_of.ensures.stores read) in
    let still = ran_inside g.S.Store (plain CREATE_META.now ∷ []) a.now b.now ran inside in
    let found = c.in_ok-schema_of.ensures.number read in
    let later = found_inside g.S.Store SELECT_SCHEMA.now found.rows b.now d.now found.found still in
    commit_then g.S.Store a d e c.upgrade_tables.ensures.stores
    (commit_then g.S.Store a b d c.schema_of.ensures.stores c.run.ensures.kept (c.schema_of.ensures.kept still)) (c.upgrade_tables.ensures.kept later) clean

pub returns-in_err-schema_of-clause-failed : goal.returns-in_err-schema_of-clause-failed
returns-in_err-schema_of-clause-failed g c failed clean inside =
    let a = c.args.transaction.now.conn in
    let b = c.run.new.transaction.conn in
    let d = c.schema_of.new.transaction.conn in
    let is : IsErrOf c.schema_of.result fault.Failed = search rules in
    let ran = c.in_ok-run.ensures.ran (unstored_clean g.S.Store b d c.schema_of.ensures.stores clean) in
    inr (b.now, ran, inl (c.schema_of.ensures.failed is clean (ran_inside g.S.Store (plain CREATE_META.now ∷ []) a.now b.now ran inside)))

pub returns-in-0-clause-failed : goal.returns-in-0-clause-failed
returns-in-0-clause-failed g c failed clean inside =
    let a = c.args.transaction.now.conn in
    let b = c.run.new.transaction.conn in
    let d = c.schema_of.new.transaction.conn in
    let e = c.make_tables.new.transaction.conn in
    let number = c.in_ok-schema_of.field-0 in
    let is : number ≡ pos 0 = search rules in
    let read = unstored_clean g.S.Store d e c.make_tables.ensures.stores clean in
    let ran = c.in_ok-run.ensures.ran (unstored_clean g.S.Store b d c.schema_of.ensures.stores read) in
    let found = c.in_ok-schema_of.ensures.number read in
    let still = found_inside g.S.Store SELECT_SCHEMA.now found.rows b.now d.now found.found (ran_inside g.S.Store (plain CREATE_META.now ∷ []) a.now b.now ran inside) in
    inr (b.now, ran, inr (d.now, number, found, inl (is, c.make_tables.ensures.failed failed clean still)))

pub returns-in-1-clause-failed : goal.returns-in-1-clause-failed
returns-in-1-clause-failed g c failed clean inside =
    let a = c.args.transaction.now.conn in
    let b = c.run.new.transaction.conn in
    let d = c.schema_of.new.transaction.conn in
    let e = c.upgrade_tables.new.transaction.conn in
    let number = c.in_ok-schema_of.field-0 in
    let is : number ≡ pos 1 = search rules in
    let read = unstored_clean g.S.Store d e c.upgrade_tables.ensures.stores clean in
    let ran = c.in_ok-run.ensures.ran (unstored_clean g.S.Store b d c.schema_of.ensures.stores read) in
    let found = c.in_ok-schema_of.ensures.number read in
    let still = found_inside g.S.Store SELECT_SCHEMA.now found.rows b.now d.now found.found (ran_inside g.S.Store (plain CREATE_META.now ∷ []) a.now b.now ran inside) in
    inr (b.now, ran, inr (d.now, number, found, inr (inl (is, c.upgrade_tables.ensures.failed failed clean still))))

pub returns-in_default-clause-failed : goal.returns-in_default-clause-failed
returns-in_default-clause-failed g c failed clean inside =
    let b = c.run.new.transaction.conn in
    let d = c.schema_of.new.transaction.conn in
    let number = c.in_ok-schema_of.field-0 in
    let ran = c.in_ok-run.ensures.ran (unstored_clean g.S.Store b d c.schema_of.ensures.stores clean) in
    let foreign : IsForeign number = search rules in
    inr (b.now, ran, inr (d.now, number, c.in_ok-schema_of.ensures.number clean, inr (inr (foreign, refl))))
