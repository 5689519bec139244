-- Each step settles one more of the loaded records, and no call has failed so far.
use Rattle.std.proofs.Common.{◌≡◌, ◌∙◌, ◌≤◌, length, option_map, ap, arith}
use Rattle.octo_keeper.specs.Settled.{settled_by, settled_to}
use Rattle.octo_keeper.proofs.SettledPrints.{settled_more, settled_all}
use Rattle.octo_keeper.proofs.settling.settle_prints.Goals as goal

pub loop-row-preserved : goal.loop-row-preserved
loop-row-preserved g c = (
  c.in_ok-settle_print.ensures.ok
      ∙ ap (option_map (settled_by c.row-item.result)) c.loop-row.invariant.0
      ∙ settled_more (g.K.Keeper.state c.args.keeper.now).tables c.in_ok-tables.tables c.as_slice-row-items.result.now c.loop-row.row-index c.row-item.result
      c.in_ok-tables.ensures.ok c.in_ok-tables.ensures.sound.numbered c.as_slice-row-items.ensures c.loop-row-test.true c.row-item.is,
  c.in_ok-settle_print.ensures.steady (λ failed. absurd (cc)) ∙ c.loop-row.invariant.1,
)

pub returns-clause-settled : goal.returns-clause-settled
returns-clause-settled g c =
    let many : c.loop-row.row-index ≡ length c.in_ok-tables.tables.prints
    = let same = ap length c.as_slice-row-items.ensures in let above : length c.as_slice-row-items.result.now ≤ c.loop-row.row-index = c.loop-row-test.false in
    omega arith in
    c.loop-row.invariant.0
    ∙ ap (λ n. option_map (settled_to n) (g.K.Keeper.state c.args.keeper.now).tables) many
    ∙ settled_all (g.K.Keeper.state c.args.keeper.now).tables c.in_ok-tables.tables c.in_ok-tables.ensures.ok
