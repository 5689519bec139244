-- All of the prints were added.
use Rattle.std.proofs.Common.{◌≡◌, ◌≤◌, ◌+◌, length, ap, ◌∙◌, rules, arith}
use Rattle.std.specs.Option.{option_map}
use Rattle.keeper_tool.specs.Prints.{with_prints}
use Rattle.keeper_tool.proofs.Prints.{numbered}
use Rattle.keeper_tool.proofs.add.add_prints.Goals as goal

pub returns-in-Ok-add_from-clause-some : goal.returns-in-Ok-add_from-clause-some
returns-in-Ok-add_from-clause-some g c =
    let first = c.in-Some.first in
    let is : first ≡ length c.in-Ok.tables.prints + 1 = search rules in
    let within : c.args.prints ≤ c.args.prints = omega arith in (
      c.args.prints,
      within,
      c.in-Ok-add_from.ensures.ok ∙ ap (λ t. option_map (with_prints first c.args.prints) t) c.in-Ok.ensures.stays
          ∙ numbered first c.args.prints c.in-Ok.tables (g.K.Keeper.state c.args.keeper.now).tables is c.in-Ok.ensures.ok,
    )
