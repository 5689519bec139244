-- The first fitting row of lawful rows is the next one.
use Rattle.std.proofs.Common.{length, Some, None, ap, sym, ◌∙◌, subst, arith}
use Rattle.std.specs.List.{position_or_len}
use Rattle.print_queue.specs.declared.entry.QueueEntry.{QueueEntry}
use Rattle.print_queue.specs.Rows.{fits}
use Rattle.print_queue.specs.Lawful.{NextOf}
use Rattle.print_queue.specs.Calls.{QueueData}
use Rattle.print_queue.proofs.Next.{next_of}
use Rattle.print_queue.proofs.Restored.{none_past, some_read}
use Rattle.print_queue.proofs.queue.Queue.next.Goals as goal

pub returns-then-place-len-clause-next : goal.returns-then-place-len-clause-next
returns-then-place-len-clause-next c =
    let rows = c.self.inside.entries.items in
    let first = c.place_of_fitting-place.ensures.place ∙ ap (position_or_len (fits c.args.material.now)) c.deref.ensures.value in
    let none = none_past (fits c.args.material.now) rows c.place_of_fitting-place.result first (omega (arith, ap length c.deref.ensures.value)) in
    subst (λ (q : QueueData). NextOf q.rows c.args.material.now None) c.self.view_is (next_of c.args.material.now rows None c.self.invariant (sym none))

pub returns-clause-next : goal.returns-clause-next
returns-clause-next c =
    let rows = c.self.inside.entries.items in
    let row = c.index.result.now in
    let first = c.place_of_fitting-place.ensures.place ∙ ap (position_or_len (fits c.args.material.now)) c.deref.ensures.value in
    let some = some_read (fits c.args.material.now) rows c.place_of_fitting-place.result row first (omega (arith, ap length c.deref.ensures.value)) c.index.ensures in
    subst (λ (r : QueueEntry). NextOf c.args.self.now.rows c.args.material.now (Some r)) (sym c.copy.ensures)
    (subst (λ (q : QueueData). NextOf q.rows c.args.material.now (Some row)) c.self.view_is (next_of c.args.material.now rows (Some row) c.self.invariant (sym some)))
