-- The entry goes to the place of what is left of it, or to its place in the order.
use Rattle.std.proofs.Common.{◌≡◌, ◌-◌, ◌<◌, length, ap, sym, ◌∙◌, subst, arith, vec_len, is_ok, true, ℕ}
use Rattle.std.specs.List.{position_or_len, prefix_len, insert}
use Rattle.std.specs.Vec.{vec_capacity}
use Rattle.print_queue.specs.Rows.{is_before, is_key, insert_row}
use Rattle.print_queue.specs.Lawful.{IsLawful, HasPlace}
use Rattle.print_queue.specs.Calls.{CanRestore, restored}
use Rattle.print_queue.proofs.Kept.{lawful_insert}
use Rattle.print_queue.proofs.Restored.{IsAt, out, data_same, restore_there, restore_free}
use Rattle.print_queue.proofs.queue.Queue.restore.Goals as goal

abbrev spare_of : (c : goal.After-self-1) → ℕ
spare_of c = vec_capacity c.self.inside.entries - vec_len c.self.inside.entries

at_place : (c : goal.After-self-1) → IsAt c.args.entry.user c.args.entry.name c.self.inside.entries.items c.place_of-place.result c.index_mut.result.now
at_place c = record {
  first = c.place_of-place.ensures.place ∙ ap (position_or_len (is_key c.args.entry.user c.args.entry.name)) c.deref.ensures.value;
  within = omega (arith, ap length c.deref.ensures.value);
  there = c.index_mut.ensures.value;
}

pub invariant_of-self : goal.invariant_of-self
invariant_of-self c =
    (restore_there c.self.inside.entries.items (spare_of c) c.place_of-place.result c.index_mut.result.now c.args.entry c.self.invariant (at_place c) (subst (CanRestore c.args.entry) (sym c.self.view_is) c.requires)).0

pub returns-then-place-len : goal.returns-then-place-len
returns-then-place-len c =
    sym (restore_there c.self.inside.entries.items (spare_of c) c.place_of-place.result c.index_mut.result.now c.args.entry c.self.invariant (at_place c) (subst (CanRestore c.args.entry) (sym c.self.view_is) c.requires)).1
    ∙ ap (restored c.args.entry) c.self.view_is

abbrev room_of : (c : goal.After-insert) → ℕ
room_of c = vec_capacity c.self.inside.entries - vec_len c.self.inside.entries

free : (c : goal.After-insert) → HasPlace c.args.entry c.self.inside.entries.items × (0 < room_of c) × (restored c.args.entry (out c.self.inside.entries.items (room_of c)) ≡ out (insert_row c.args.entry c.self.inside.entries.items) (room_of c - 1))
free c =
    restore_free c.self.inside.entries.items (room_of c) c.place_of-place.result c.args.entry
    (c.place_of-place.ensures.place ∙ ap (position_or_len (is_key c.args.entry.user c.args.entry.name)) c.deref.ensures.value)
    (omega (arith, ap length c.deref.ensures.value))
    (subst (CanRestore c.args.entry) (sym c.self.view_is) c.requires)

inserted : (c : goal.After-insert) → c.insert.new.self.items ≡ insert_row c.args.entry c.self.inside.entries.items
inserted c =
    let first = c.place_for-place.ensures.place ∙ ap (prefix_len (λ row. is_before row c.args.entry)) c.deref-2.ensures.value in
    let room : vec_len c.self.inside.entries < vec_capacity c.self.inside.entries = omega (arith, (free c).1) in
    let done : is_ok c.insert.result ≡ true = c.insert.ensures.succeeds room in
    rw done at c.insert.ensures.items ∙ ap (λ (k : ℕ). insert c.self.inside.entries.items k c.args.entry) first

pub invariant_of-self-2 : goal.invariant_of-self-2
invariant_of-self-2 c = subst IsLawful (sym (inserted c)) (lawful_insert c.args.entry c.self.inside.entries.items c.self.invariant (free c).0)

pub returns : goal.returns
returns c = data_same _ _ (inserted c) (let room : vec_len c.self.inside.entries < vec_capacity c.self.inside.entries = omega (arith, (free c).1) in let block = c.insert.ensures.in_place room in let done : is_ok c.insert.result ≡ true = c.insert.ensures.succeeds room in let longer = rw done at c.insert.ensures.len in omega (arith, block.1.0)) ∙ sym (free c).2 ∙ ap (restored c.args.entry) c.self.view_is
