-- The number of the only row.
use Rattle.std.proofs.Common.{◌≡◌, List, [], ◌∷◌, length, inr, subst, ◌∙◌, arith}
use Rattle.octo_keeper.specs.declared.keeper.KeeperFault.TheVariants as fault
use Rattle.sqlite_value.specs.declared.value.Value.TheVariants.{Int}
use Rattle.sqlite_value.specs.Order.{Row, column}
use Rattle.sqlite.specs.Held.{state}
use Rattle.sqlite.specs.State.{HasCleanDisk}
use Rattle.octo_keeper_sql.specs.Settled.{FoundNumber, HasNoSchema, IsSchema}
use Rattle.octo_keeper_sql.proofs.Failures.{none_found}
use Rattle.octo_keeper_sql.proofs.Statements.{if_found, one_row}
use Rattle.octo_keeper_sql.proofs.adopt.schema_of.Goals as goal

pub returns-in-len1-clause-number : goal.returns-in-len1-clause-number
returns-in-len1-clause-number g c =
    let row = c.row-item.result in
    let one : length c.as_slice.result.now ≡ 1 = omega arith in
    let rows : row ∷ [] ≡ c.in_ok-rows.rows.items = one_row c.as_slice.result.now row one c.row-item.is ∙ c.as_slice.ensures.value in
    if_found _ c.number_at.result _ c.ok_or.result (λ n. column row 0 ≡ Int n)
    (λ n. HasCleanDisk (state g.S.Store c.rows_of.new.transaction.conn.now) → FoundNumber g.S.Store n c.args.transaction.now.conn.now c.rows_of.new.transaction.conn.now)
    c.ok_or.ensures.value c.number_at.ensures
    (λ n is clean. record { rows = c.in_ok-rows.rows.items; found = c.in_ok-rows.ensures.found clean; is = subst (λ (list : List Row). IsSchema n list) rows is })

pub returns-in-len1-clause-failed : goal.returns-in-len1-clause-failed
returns-in-len1-clause-failed g c failed clean inside =
    let row = c.row-item.result in
    let one : length c.as_slice.result.now ≡ 1 = omega arith in
    let rows : row ∷ [] ≡ c.in_ok-rows.rows.items = one_row c.as_slice.result.now row one c.row-item.is ∙ c.as_slice.ensures.value in
    let none = none_found _ c.number_at.result _ fault.Failed c.ok_or.result (λ n. column row 0 ≡ Int n) c.ok_or.ensures.value failed c.number_at.ensures in
    inr (c.in_ok-rows.rows.items, c.in_ok-rows.ensures.found clean, subst (λ (list : List Row). HasNoSchema list) rows none)
