-- The place in the rows, which are the users.
use Rattle.std.proofs.Common.{ap, ◌∙◌}
use Rattle.std.specs.List.{position_or_len}
use Rattle.octo_access.specs.Rows.{is_named}
use Rattle.octo_access.proofs.users.Users.place_of.Goals as goal

pub returns-clause-place : goal.returns-clause-place
returns-clause-place c = c.place_of_name.ensures.place ∙ ap (position_or_len (is_named c.args.name.now)) c.rows.ensures.value
