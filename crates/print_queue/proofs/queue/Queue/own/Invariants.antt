use Rattle.std.proofs.Common.{◌≡◌, ◌++◌, filter, option_map, Bor, List, ℕ, drop}
use Rattle.print_queue.specs.Rows.{is_of}
use Rattle.print_queue.proofs.queue.Queue.own.Given as goal

-- what was copied and what is to come are the whole
abbrev pub invariant-loop-entry : goal.invariant-loop-entry
invariant-loop-entry l =
    filter (is_of (option_map (λ (u : Bor (List ℕ)). u.now) l.fn.user)) l.entry-items
    ≡ l.list ++ filter (is_of (option_map (λ (u : Bor (List ℕ)). u.now) l.fn.user)) (drop l.entry-index l.entry-items)
