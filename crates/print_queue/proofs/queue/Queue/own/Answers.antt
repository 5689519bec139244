-- A filter keeps the order.
use Rattle.std.proofs.Common.{◌≡◌, true, filter, option_map, Bor, List, ℕ, sym, subst, arith}
use Rattle.std.proofs.lemmas.Grind.{common_steps}
use Rattle.std.proofs.lemmas.List.Kept.{AllPairs-filter}
use Rattle.print_queue.specs.Rows.{is_before, is_of}
use Rattle.print_queue.specs.Lawful.{IsOrdered}
use Rattle.print_queue.proofs.queue.Queue.own.Goals as goal

pub returns-clause-ordered : goal.returns-clause-ordered
returns-clause-ordered c =
    let test = is_of (option_map (λ (u : Bor (List ℕ)). u.now) c.args.user) in
    let all : c.loop-entry.list ≡ filter test c.self.inside.entries.items = grind (arith, common_steps) in
    subst IsOrdered (sym all) (AllPairs-filter (λ a b. is_before a b ≡ true) test c.self.inside.entries.items c.self.invariant.ordered)
