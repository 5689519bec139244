use Rattle.std.proofs.Common.{◌≡◌, [], ◌∷◌, Err, IfErr, subst, sym, rules}
use Rattle.sqlite_value.specs.Order.{Row}
use Rattle.sqlite.specs.Values.{bound}
use Rattle.octo_keeper_sql.specs.declared.schema.TheConstants.{DELETE_LAST_COPY, LOWER_COPIES}
use Rattle.octo_keeper_sql.specs.Statements.{with_values, key_values, Runs, Refuses}
use Rattle.octo_keeper_sql.proofs.Statements.{runs_then, runs_with, refused_first, refused_then, refused_with}
use Rattle.octo_keeper_sql.proofs.entries.take_copy.Goals as goal

pub returns-clause-ran : goal.returns-clause-ran
returns-clause-ran g c =
    let values = key_values c.args.taken.now.user c.args.taken.now.name in
    let a = c.args.transaction.now.conn in
    let b = c.run.new.transaction.conn in
    let d = c.run-2.new.transaction.conn in
    runs_then g.S.Store c.run-2.result (with_values DELETE_LAST_COPY.now values ∷ []) (with_values LOWER_COPIES.now values ∷ []) a b d c.run-2.ensures.kept
    (subst (λ (row : Row). Runs g.S.Store (with_values DELETE_LAST_COPY.now row ∷ []) a.now b.now) c.key_values.ensures c.in_ok-run.ensures.ran)
    (runs_with g.S.Store c.run-2.result LOWER_COPIES.now b.now d.now (bound c.key_values-2.result) values c.key_values-2.ensures c.run-2.ensures.ran)

pub returns-in_err-run-clause-failed : goal.returns-in_err-run-clause-failed
returns-in_err-run-clause-failed g c =
    let values = key_values c.args.taken.now.user c.args.taken.now.name in
    let a = c.args.transaction.now.conn.now in
    let b = c.run.new.transaction.conn.now in
    let error = c.in_err-run.field-0.0 in
    let same : c.from_residual.result ≡ Err c.in_err-run.field-0.0 = search rules in
    let refused = subst (λ (row : Row). Refuses g.S.Store (with_values DELETE_LAST_COPY.now row ∷ []) a b error) c.key_values.ensures c.in_err-run.ensures.failed in
    subst (λ r. IfErr r (Refuses g.S.Store (with_values DELETE_LAST_COPY.now values ∷ with_values LOWER_COPIES.now values ∷ []) a b)) (sym same)
    (refused_first g.S.Store (with_values DELETE_LAST_COPY.now values ∷ []) (with_values LOWER_COPIES.now values ∷ []) a b error refused)

pub returns-clause-failed : goal.returns-clause-failed
returns-clause-failed g c =
    let values = key_values c.args.taken.now.user c.args.taken.now.name in
    let a = c.args.transaction.now.conn in
    let b = c.run.new.transaction.conn in
    let d = c.run-2.new.transaction.conn in
    refused_then g.S.Store c.run-2.result (with_values DELETE_LAST_COPY.now values ∷ []) (with_values LOWER_COPIES.now values ∷ []) a b d c.run-2.ensures.kept
    (subst (λ (row : Row). Runs g.S.Store (with_values DELETE_LAST_COPY.now row ∷ []) a.now b.now) c.key_values.ensures c.in_ok-run.ensures.ran)
    (refused_with g.S.Store c.run-2.result LOWER_COPIES.now b.now d.now (bound c.key_values-2.result) values c.key_values-2.ensures c.run-2.ensures.failed)
