-- The removed row is at the first place of its key.
use Rattle.std.proofs.Common.{◌≡◌, ◌-◌, ◌+◌, ◌<◌, length, ap, sym, ◌∙◌, subst, arith, vec_len}
use Rattle.std.specs.List.{position_or_len, remove}
use Rattle.std.specs.Vec.{vec_capacity}
use Rattle.print_queue.specs.Rows.{is_key, without}
use Rattle.print_queue.specs.Lawful.{IsLawful}
use Rattle.print_queue.specs.Calls.{QueueData, CanRestore, restored}
use Rattle.print_queue.proofs.Edits.{without_removes}
use Rattle.print_queue.proofs.Kept.{apart_from, lawful_filter}
use Rattle.print_queue.proofs.Restored.{IsAt, can_restore_out, restored_out, data_same, out}
use Rattle.print_queue.proofs.queue.Queue.remove.Goals as goal

at_place : (c : goal.After-remove) → IsAt c.args.user.now c.args.name.now c.self.inside.entries.items c.place_of-place.result c.remove.result
at_place c = record {
  first = c.place_of-place.ensures.place ∙ ap (position_or_len (is_key c.args.user.now c.args.name.now)) c.deref.ensures.value;
  within = omega (arith, ap length c.deref.ensures.value);
  there = c.remove.ensures.value;
}

removed : (c : goal.After-remove) → c.remove.new.self.items ≡ without c.args.user.now c.args.name.now c.self.inside.entries.items
removed c =
    let at' = at_place c in
    let rows = c.self.inside.entries.items in
    let key = is_key c.args.user.now c.args.name.now in
    c.remove.ensures.items
    ∙ ap (remove rows) at'.first
    ∙ sym (without_removes c.args.user.now c.args.name.now rows (apart_from rows c.self.invariant) (subst (λ k. k < length rows) at'.first at'.within))

after : (c : goal.After-remove) → out c.remove.new.self.items (vec_capacity c.remove.new.self - vec_len c.remove.new.self) ≡ out (without c.args.user.now c.args.name.now c.self.inside.entries.items) (vec_capacity c.self.inside.entries - vec_len c.self.inside.entries + 1)
after c = data_same _ _ (removed c) (omega arith)

pub invariant_of-self : goal.invariant_of-self
invariant_of-self c = subst IsLawful (sym (removed c)) (lawful_filter _ c.self.inside.entries.items c.self.invariant)

pub returns-clause-rows : goal.returns-clause-rows
returns-clause-rows c = removed c ∙ ap (λ (q : QueueData). without c.args.user.now c.args.name.now q.rows) c.self.view_is

pub returns-clause-can_restore : goal.returns-clause-can_restore
returns-clause-can_restore c =
    subst (CanRestore c.remove.result) (sym (after c)) (can_restore_out c.args.user.now c.args.name.now c.self.inside.entries.items c.place_of-place.result c.remove.result _ c.self.invariant (at_place c))

pub returns-clause-back : goal.returns-clause-back
returns-clause-back c =
    ap (restored c.remove.result) (after c)
    ∙ restored_out c.args.user.now c.args.name.now c.self.inside.entries.items c.place_of-place.result c.remove.result _ c.self.invariant (at_place c)
    ∙ c.self.view_is
