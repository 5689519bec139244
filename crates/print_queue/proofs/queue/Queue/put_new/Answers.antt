-- A new entry of a free name has a place.
use Rattle.std.proofs.Common.{◌+◌, ℕ, ap, sym, ◌∙◌, subst, arith, Some}
use Rattle.std.specs.List.{count_by}
use Rattle.print_queue.specs.Rows.{is_of, last_arrival}
use Rattle.print_queue.specs.Lawful.{HasPlace}
use Rattle.print_queue.specs.Calls.{QueueData}
use Rattle.print_queue.proofs.Restored.{place_new}
use Rattle.print_queue.proofs.queue.Queue.put_new.Goals as goal

pub add-requires : goal.add-requires
add-requires c =
    let count = ap (count_by (is_of (Some c.args.asked.user))) (c.deref.ensures.value ∙ ap (λ (q : QueueData). q.rows) c.self.view_is) in
    let last = c.last_arrival-last.ensures ∙ ap last_arrival (c.deref-2.ensures.value ∙ ap (λ (q : QueueData). q.rows) c.self.view_is) in
    subst (λ (n : ℕ). HasPlace (record c.args.asked { arrival = n + 1 }) c.args.self.now.rows) (sym last)
    (place_new c.args.self.now.rows c.args.asked c.requires.free c.requires.whole (omega (arith, count)))
