-- One copy less is left of the row, or the row is removed.
use Rattle.std.proofs.Common.{◌≡◌, ◌-◌, ◌<◌, ◌≤◌, ℕ, List, length, ap, sym, ◌∙◌, set, subst, arith, vec_len}
use Rattle.std.specs.List.{position_or_len}
use Rattle.std.specs.Vec.{vec_capacity}
use Rattle.std.proofs.lemmas.Result.{on_ok_weaker}
use Rattle.print_queue.specs.declared.entry.QueueEntry.{QueueEntry}
use Rattle.print_queue.specs.Rows.{is_key, without, without_copy}
use Rattle.print_queue.specs.Lawful.{IsLawful}
use Rattle.print_queue.specs.Calls.{QueueData, CanRestore, restored}
use Rattle.print_queue.proofs.Edits.{with_left, copy_removes}
use Rattle.print_queue.proofs.Kept.{apart_from}
use Rattle.print_queue.proofs.Restored.{IsAt, at_held, copy_at, lawful_copy, can_restore_copy, restored_copy, out}
use Rattle.print_queue.proofs.queue.Queue.take.Goals as goal

pub returns-then-entry-le1-clause-rows : goal.returns-then-entry-le1-clause-rows
returns-then-entry-le1-clause-rows c =
    let rows = c.self.inside.entries.items in
    let user = c.args.user.now in
    let name = c.args.name.now in
    let at' : IsAt user name rows c.place_of-place.result c.index.result.now =
    record {
      first = c.place_of-place.ensures.place ∙ ap (position_or_len (is_key user name)) c.deref.ensures.value;
      within = omega (arith, ap length c.deref.ensures.value);
      there = c.index.ensures;
    }
    in
    let last : c.index.result.now.left ≤ 1 = subst (λ (r : QueueEntry). r.left ≤ 1) c.copy-entry.ensures (omega arith) in
    let gone = copy_removes user name rows (apart_from rows c.self.invariant) c.index.result.now (at_held user name rows c.place_of-place.result c.index.result.now at') last in
    let same = subst (λ (q : QueueData). without user name q.rows ≡ without_copy user name q.rows) c.self.view_is (sym gone) in
    on_ok_weaker c.remove.result (λ removed. removed ∙ same) c.remove.ensures.rows

at_place : (c : goal.After-self-1) → IsAt c.args.user.now c.args.name.now c.self.inside.entries.items c.place_of-place.result c.index.result.now
at_place c = record {
  first = c.place_of-place.ensures.place ∙ ap (position_or_len (is_key c.args.user.now c.args.name.now)) c.deref.ensures.value;
  within = omega (arith, ap length c.deref.ensures.value);
  there = c.index.ensures;
}

more : (c : goal.After-self-1) → 1 < c.index.result.now.left
more c = subst (λ (r : QueueEntry). 1 < r.left) c.copy-entry.ensures (omega arith)

abbrev spare_of : (c : goal.After-self-1) → ℕ
spare_of c = vec_capacity c.self.inside.entries - vec_len c.self.inside.entries

lowered : (c : goal.After-self-1) → without_copy c.args.user.now c.args.name.now c.self.inside.entries.items ≡ set c.self.inside.entries.items c.place_of-place.result c.after_copy.result
lowered c =
    copy_at c.args.user.now c.args.name.now c.self.inside.entries.items c.place_of-place.result c.index.result.now c.self.invariant (at_place c) (more c)
    ∙ ap (λ (r : QueueEntry). set c.self.inside.entries.items c.place_of-place.result (with_left (r.left - 1) r)) (sym c.copy-entry.ensures)
    ∙ ap (set c.self.inside.entries.items c.place_of-place.result) (sym c.after_copy.ensures)

pub invariant_of-self : goal.invariant_of-self
invariant_of-self c =
    subst IsLawful (lowered c) (lawful_copy c.args.user.now c.args.name.now c.self.inside.entries.items c.place_of-place.result c.index.result.now c.self.invariant (at_place c) (more c))

pub returns-clause-rows : goal.returns-clause-rows
returns-clause-rows c = sym (lowered c) ∙ ap (λ (q : QueueData). without_copy c.args.user.now c.args.name.now q.rows) c.self.view_is

pub returns-clause-can_restore : goal.returns-clause-can_restore
returns-clause-can_restore c =
    subst (λ (rows : List QueueEntry). CanRestore c.copy-entry.result (out rows (spare_of c))) (lowered c)
    (subst (λ (r : QueueEntry). CanRestore r (out (without_copy c.args.user.now c.args.name.now c.self.inside.entries.items) (spare_of c))) (sym c.copy-entry.ensures)
    (can_restore_copy c.args.user.now c.args.name.now c.self.inside.entries.items c.place_of-place.result c.index.result.now (spare_of c) c.self.invariant (at_place c) (more c)))

pub returns-clause-back : goal.returns-clause-back
returns-clause-back c =
    ap (λ (rows : List QueueEntry). restored c.copy-entry.result (out rows (spare_of c))) (sym (lowered c))
    ∙ ap (λ (r : QueueEntry). restored r (out (without_copy c.args.user.now c.args.name.now c.self.inside.entries.items) (spare_of c))) c.copy-entry.ensures
    ∙ restored_copy c.args.user.now c.args.name.now c.self.inside.entries.items c.place_of-place.result c.index.result.now (spare_of c) c.self.invariant (at_place c) (more c)
    ∙ c.self.view_is
