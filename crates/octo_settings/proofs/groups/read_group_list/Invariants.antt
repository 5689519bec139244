use Rattle.std.proofs.Common.{◌≡◌, ◌+◌, ◌≤◌, [], length}
use Rattle.toml.specs.View.{table_view, members_view}
use Rattle.octo_access.specs.Groups.{most_groups}
use Rattle.octo_settings.specs.Groups.{with_groups}
use Rattle.octo_settings.specs.Values.{members_list}
use Rattle.octo_settings.proofs.groups.read_group_list.Given as goal

abbrev pub invariant-loop-name : goal.invariant-loop-name
invariant-loop-name l =
    (with_groups (members_list (table_view l.table)) [] ≡ with_groups (members_list (members_view l.name-iterator)) l.groups)
    × (length l.groups + length l.name-iterator ≤ most_groups)
