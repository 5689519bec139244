use Rattle.std.proofs.Common.{◌≡◌, not, rules, ◌∙◌, ap}
use Rattle.std.proofs.lemmas.Fn.{filter_same}
use Rattle.octo_access.specs.Rows.{is_named, without}
use Rattle.octo_access.specs.declared.row.UserRow.{UserRow}
use Rattle.octo_access.proofs.Changed.{table-left}
use Rattle.octo_access.proofs.users.Users.take_back.Goals as goal

left : (c : goal.After-retain) → c.retain.new.self.items ≡ without c.args.name.now c.self.inside.rows.items
left c = filter_same _ (λ (row : UserRow). not (is_named c.args.name.now row)) _ (λ x b f' k. search rules) _ _ c.retain.ensures.filtered

pub invariant_of-self : goal.invariant_of-self
invariant_of-self c = table-left c.args.name.now c.self.inside.rows.items c.retain.new.self.items c.self.invariant (left c)

pub returns : goal.returns
returns c = left c ∙ ap (without c.args.name.now) c.self.view_is
