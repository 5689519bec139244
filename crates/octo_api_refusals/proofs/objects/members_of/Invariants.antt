use Rattle.std.proofs.Common.{◌≡◌, drop}
use Rattle.serde_json.specs.Data.{no_members}
use Rattle.serde_json.specs.View.{members_view}
use Rattle.octo_api_refusals.specs.Objects.{with_rows}
use Rattle.octo_api_refusals.proofs.objects.members_of.Given as goal

-- the members so far and the rows that are left make the members of all rows
abbrev pub invariant-loop-row : goal.invariant-loop-row
invariant-loop-row l = with_rows (drop l.row-index l.rows) (members_view l.members.entries) ≡ with_rows l.rows no_members
