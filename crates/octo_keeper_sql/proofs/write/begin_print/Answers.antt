use Rattle.std.proofs.Common.{◌≡◌, [], ◌∷◌, ◌++◌, Err, IfErr, subst, sym, rules}
use Rattle.octo_keeper_sql.specs.Statements.{due_end, print_put, copy_taken, Refuses}
use Rattle.octo_keeper_sql.proofs.Kept.{kept_then}
use Rattle.octo_keeper_sql.proofs.Statements.{runs_then, refused_first, refused_then}
use Rattle.octo_keeper_sql.proofs.write.begin_print.Goals as goal

pub returns-clause-ran : goal.returns-clause-ran
returns-clause-ran g c =
    let a = c.args.transaction.now.conn in
    let b = c.end_due.new.transaction.conn in
    let d = c.put_print.new.transaction.conn in
    let e = c.take_entry.new.transaction.conn in
    runs_then g.S.Store c.take_entry.result (due_end c.args.ended) (print_put c.args.print.now ∷ copy_taken c.args.taken.now) a b e
    (kept_then g.S.Store b d e c.put_print.ensures.kept c.take_entry.ensures.kept) c.in_ok-end_due.ensures.ran
    (runs_then g.S.Store c.take_entry.result (print_put c.args.print.now ∷ []) (copy_taken c.args.taken.now) b d e c.take_entry.ensures.kept c.in_ok-put_print.ensures.ran c.take_entry.ensures.ran)

pub returns-in_err-end_due-clause-failed : goal.returns-in_err-end_due-clause-failed
returns-in_err-end_due-clause-failed g c =
    let a = c.args.transaction.now.conn.now in
    let b = c.end_due.new.transaction.conn.now in
    let others = print_put c.args.print.now ∷ copy_taken c.args.taken.now in
    let same : c.from_residual.result ≡ Err c.in_err-end_due.field-0.0 = search rules in
    subst (λ r. IfErr r (Refuses g.S.Store (due_end c.args.ended ++ others) a b)) (sym same) (refused_first g.S.Store (due_end c.args.ended) others a b c.in_err-end_due.field-0.0 c.in_err-end_due.ensures.failed)

pub returns-in_err-put_print-clause-failed : goal.returns-in_err-put_print-clause-failed
returns-in_err-put_print-clause-failed g c =
    let a = c.args.transaction.now.conn in
    let b = c.end_due.new.transaction.conn in
    let d = c.put_print.new.transaction.conn in
    let others = print_put c.args.print.now ∷ copy_taken c.args.taken.now in
    let same : c.from_residual-in_err-put_print.result ≡ Err c.in_err-put_print.field-0.0 = search rules in
    refused_then g.S.Store c.from_residual-in_err-put_print.result (due_end c.args.ended) others a b d c.put_print.ensures.kept c.in_ok-end_due.ensures.ran
    (subst (λ r. IfErr r (Refuses g.S.Store others b.now d.now)) (sym same) (refused_first g.S.Store (print_put c.args.print.now ∷ []) (copy_taken c.args.taken.now) b.now d.now c.in_err-put_print.field-0.0 c.in_err-put_print.ensures.failed))

pub returns-clause-failed : goal.returns-clause-failed
returns-clause-failed g c =
    let a = c.args.transaction.now.conn in
    let b = c.end_due.new.transaction.conn in
    let d = c.put_print.new.transaction.conn in
    let e = c.take_entry.new.transaction.conn in
    refused_then g.S.Store c.take_entry.result (due_end c.args.ended) (print_put c.args.print.now ∷ copy_taken c.args.taken.now) a b e
    (kept_then g.S.Store b d e c.put_print.ensures.kept c.take_entry.ensures.kept) c.in_ok-end_due.ensures.ran
    (refused_then g.S.Store c.take_entry.result (print_put c.args.print.now ∷ []) (copy_taken c.args.taken.now) b d e c.take_entry.ensures.kept c.in_ok-put_print.ensures.ran c.take_entry.ensures.failed)
