-- A statement that didn't fail ran inside the transaction.
use Rattle.std.proofs.Common.{◌≡◌, [], ◌∷◌, true, Err, IfErr, refl, sym, subst, inl, rules}
use Rattle.std.proofs.lemmas.Bool.{true_from_ne_false}
use Rattle.sqlite.specs.Held.{state}
use Rattle.sqlite.specs.Values.{bound}
use Rattle.sqlite.specs.State.{ExecutesInside}
use Rattle.octo_keeper_sql.specs.Statements.{Refuses, with_values}
use Rattle.octo_keeper_sql.proofs.statement.run.Goals as goal

pub returns-clause-ran : goal.returns-clause-ran
returns-clause-ran g c clean =
    let inside : c.args.transaction.now.conn.now.in_transaction ≡ true = true_from_ne_false _ (λ off. let refused = (c.execute.ensures.ended off).0 in let done = c.in_ok-execute.was in cc) in
    let ran = c.execute.ensures.runs clean inside in
    (c.execute.new.self.conn.now, (c.in_ok-execute.field-0, subst (ExecutesInside 0 c.args.sql.now (bound c.args.values.now) (state g.S.Store c.args.transaction.now.conn.now) (state g.S.Store c.execute.new.self.conn.now)) (c.in_ok-execute.was) ran), refl)

pub returns-in_err-execute-clause-failed : goal.returns-in_err-execute-clause-failed
returns-in_err-execute-clause-failed g c =
    let same : c.from_residual.result ≡ Err c.in_err-execute.field-0.0 = search rules in
    subst (λ r. IfErr r (Refuses g.S.Store (with_values c.args.sql.now (bound c.args.values.now) ∷ []) c.args.transaction.now.conn.now c.execute.new.self.conn.now)) (sym same)
    (λ other clean inside. inl (c.in_err-execute.field-0.0, other, c.in_err-execute.ensures.runs clean inside))
