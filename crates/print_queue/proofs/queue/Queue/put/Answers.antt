-- The name is free.
use Rattle.std.proofs.Common.{◌≡◌, length, None, ap, sym, ◌∙◌, subst, arith}
use Rattle.std.specs.List.{position_or_len}
use Rattle.print_queue.specs.Rows.{is_key, users_entry}
use Rattle.print_queue.specs.Calls.{QueueData, new_answer, new_entry}
use Rattle.print_queue.proofs.Restored.{none_past, put_free}
use Rattle.print_queue.proofs.queue.Queue.put.Goals as goal

pub returns-then-place-len-clause-answer : goal.returns-then-place-len-clause-answer
returns-then-place-len-clause-answer c memory =
    let first = c.place_of-place.ensures.place ∙ ap (position_or_len (is_key c.args.user.now c.args.name.now)) c.deref.ensures.value in
    let none = none_past (is_key c.args.user.now c.args.name.now) c.self.inside.entries.items c.place_of-place.result first (omega (arith, ap length c.deref.ensures.value)) in
    c.put_new.ensures.answer memory
    ∙ ap (new_answer c.args.self.now.rows) c.new_entry-asked.ensures
    ∙ sym (put_free c.args.self.now.rows (new_entry c.args.user.now c.args.name.now c.args.file.now c.args.priority c.args.copies c.args.material.now) (subst (λ (q : QueueData). users_entry c.args.user.now c.args.name.now q.rows ≡ None) c.self.view_is none))
