use Rattle.std.proofs.Common.{◌≡◌, ◌+◌, ◌≤◌, ◌∷◌, [], length, suc, refl, ap, arith, ◌∙◌, rules, string_bytes}
use Rattle.std.proofs.lemmas.Result.{err_from_is_err_and}
use Rattle.toml.specs.View.{view, table_view, members_view}
use Rattle.octo_access.specs.Groups.{most_groups}
use Rattle.octo_settings.specs.Groups.{with_groups}
use Rattle.octo_settings.specs.Values.{members_list}
use Rattle.octo_settings.proofs.Lines.{length-members, groups-ok, groups-fault, group-grown}
use Rattle.octo_settings.proofs.groups.read_group_list.Goals as goal

pub loop-name-init : goal.loop-name-init
loop-name-init c =
    let begun : c.into_iter-name-iterator.result ≡ c.args.table.now.entries = search rules in
    let none : c.new-groups.result ≡ [] = search rules in
    let few : length (members_list (table_view c.args.table.now)) ≤ most_groups = search rules in
    let long : length (members_list (table_view c.args.table.now)) ≡ length c.args.table.now.entries = length-members c.args.table.now.entries in
    rw (begun, none) (refl, omega arith)

pub read_group-requires : goal.read_group-requires
read_group-requires c =
    let shorter : length c.loop-name.name-iterator ≡ suc (length c.next.new.self) = ap length c.in-Some.ensures.steps in
    omega (arith, c.loop-name.invariant.1, shorter)

pub loop-name-preserved : goal.loop-name-preserved
loop-name-preserved c =
    let named : c.as_str.result.now ≡ string_bytes c.in-Some.name.now = search rules in
    let left : members_list (members_view c.loop-name.name-iterator) ≡ (c.as_str.result.now, view c.in-Some.value.now) ∷ members_list (members_view c.next.new.self) =
    rw named (ap (λ es. members_list (members_view es)) c.in-Some.ensures.steps) in
    let shorter : length c.loop-name.name-iterator ≡ suc (length c.next.new.self) = ap length c.in-Some.ensures.steps in
    let grown : length c.read_group.new.groups ≡ length c.loop-name.groups + 1 =
    group-grown c.as_str.result.now (view c.in-Some.value.now) c.loop-name.groups c.read_group.new.groups c.in_ok-read_group.ensures in (
      c.loop-name.invariant.0
          ∙ groups-ok c.as_str.result.now (view c.in-Some.value.now) (members_list (members_view c.loop-name.name-iterator))
          (members_list (members_view c.next.new.self)) c.loop-name.groups c.read_group.new.groups left c.in_ok-read_group.ensures,
      omega (arith, c.loop-name.invariant.1, shorter, grown),
    )

pub returns-in_err-read_group : goal.returns-in_err-read_group
returns-in_err-read_group c =
    let p = err_from_is_err_and c.from_residual.result c.from_residual.ensures.1 in
    let named : c.as_str.result.now ≡ string_bytes c.in-Some.name.now = search rules in
    let left : members_list (members_view c.loop-name.name-iterator) ≡ (c.as_str.result.now, view c.in-Some.value.now) ∷ members_list (members_view c.next.new.self) =
    rw named (ap (λ es. members_list (members_view es)) c.in-Some.ensures.steps) in
    rw (p.1, p.2) (groups-fault c.as_str.result.now (view c.in-Some.value.now) (members_list (members_view c.loop-name.name-iterator))
    (members_list (members_view c.next.new.self)) c.loop-name.groups (with_groups (members_list (table_view c.args.table.now)) []) c.in_err-read_group.field-0.0
    c.loop-name.invariant.0 left c.in_err-read_group.ensures)
