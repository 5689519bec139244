-- The place in the rows, which are the users.
use Rattle.std.proofs.Common.{ap, ◌∙◌}
use Rattle.std.specs.List.{prefix_len}
use Rattle.octo_access.specs.Rows.{is_before}
use Rattle.octo_access.specs.declared.row.UserRow.{UserRow}
use Rattle.octo_access.proofs.users.Users.place_for.Goals as goal

pub returns-clause-place : goal.returns-clause-place
returns-clause-place c = c.place_for_name.ensures.place ∙ ap (prefix_len (λ (r : UserRow). is_before r.name c.args.name.now)) c.rows.ensures.value
