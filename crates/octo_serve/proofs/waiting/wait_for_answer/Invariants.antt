use Rattle.std.proofs.Common.{◌≡◌, [], true}
use Rattle.octo_serve.specs.declared.board.View.TheVariants.{Worker}
use Rattle.octo_serve.specs.Views.{worker_of}
use Rattle.octo_serve.proofs.waiting.wait_for_answer.Given as goal

-- only what was seen of the end has changed
abbrev pub invariant-loop : goal.invariant-loop
invariant-loop g l = (l.seat.table_id ≡ l.initial.seat.table_id)
    × (l.seat.me ≡ (Worker (record (worker_of l.initial.seat.me.0) { saw_close = l.saw_close }), []))
    × (l.initial.saw_close ≡ true → l.saw_close ≡ true)
