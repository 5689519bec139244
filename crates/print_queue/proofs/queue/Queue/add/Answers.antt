-- The inserted row is in its place in the order.
use Rattle.std.proofs.Common.{◌≡◌, ◌<◌, ◌++◌, length, ap, sym, ◌∙◌, subst, arith, vec_len, is_ok, true, ℕ}
use Rattle.std.specs.List.{prefix_len, insert}
use Rattle.std.specs.Vec.{vec_capacity}
use Rattle.print_queue.specs.declared.entry.QueueEntry.{QueueEntry}
use Rattle.print_queue.specs.Rows.{is_before, insert_row}
use Rattle.print_queue.specs.Lawful.{IsLawful, HasPlace}
use Rattle.print_queue.specs.Calls.{QueueData}
use Rattle.print_queue.proofs.Kept.{lawful_insert}
use Rattle.print_queue.proofs.queue.Queue.add.Goals as goal

inserted : (c : goal.After-insert) → c.insert.new.self.items ≡ insert_row c.args.entry c.self.inside.entries.items
inserted c =
    let rows = c.self.inside.entries.items in
    let same : c.reserve.new.self.items ≡ rows = c.reserve.ensures.items in
    let first : c.place_for-place.result ≡ prefix_len (λ row. is_before row c.args.entry) rows =
    c.place_for-place.ensures.place ∙ ap (prefix_len (λ row. is_before row c.args.entry)) (c.deref.ensures.value ∙ same) in
    let room : vec_len c.reserve.new.self < vec_capacity c.reserve.new.self = omega (arith, c.in-Ok.ensures.ok) in
    let done : is_ok c.insert.result ≡ true = c.insert.ensures.succeeds room in
    rw done at c.insert.ensures.items
    ∙ ap (λ l. insert l c.place_for-place.result c.copy.result) same
    ∙ ap (λ (r : QueueEntry). insert rows c.place_for-place.result r) c.copy.ensures
    ∙ ap (λ (k : ℕ). insert rows k c.args.entry) first

pub invariant_of-self-2 : goal.invariant_of-self-2
invariant_of-self-2 c =
    subst IsLawful (sym (inserted c))
    (lawful_insert c.args.entry c.self.inside.entries.items c.self.invariant (subst (λ (q : QueueData). HasPlace c.args.entry q.rows) (sym c.self.view_is) c.requires))
