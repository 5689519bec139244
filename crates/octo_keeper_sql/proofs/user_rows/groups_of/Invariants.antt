use Rattle.std.proofs.Common.{◌≡◌, ◌≤◌, map, length, All}
use Rattle.octo_keeper_sql.specs.Holds.{IsGroup}
use Rattle.octo_keeper_sql.proofs.user_rows.groups_of.Given as goal

-- the groups are the pieces so far, each of which can be a group's name
abbrev pub invariant-loop-word : goal.invariant-loop-word
invariant-loop-word l = record { are : map (λ word. word.now) l.yielded ≡ l.groups.items; few : length l.groups.items ≤ 8; each : All IsGroup l.groups.items }
