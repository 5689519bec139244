use Rattle.std.proofs.Common.{◌<◌, length, ◌∙◌, rules}
use Rattle.octo_access.proofs.Changed.{index-changed, set-changed, held-changed}
use Rattle.octo_access.proofs.users.Users.change.Goals as goal

pub index_mut-requires : goal.index_mut-requires
index_mut-requires c =
    let within : c.place_of-place.result < length c.self.inside.rows.items =
    index-changed c.args.policy.now c.args.row.now c.args.self.now c.self.inside.rows.items c.place_of-place.result
    c.self.view_is c.place_of-place.ensures.place c.in_ok-check_change.ensures in
    search rules

pub invariant_of-self : goal.invariant_of-self
invariant_of-self c =
    set-changed c.args.policy.now c.args.row.now c.replace.new.dest c.args.self.now c.self.inside.rows.items c.place_of-place.result
    c.self.invariant c.self.view_is c.place_of-place.ensures.place (c.replace.ensures.after ∙ c.copy.ensures) c.in_ok-check_change.ensures

pub returns-clause-exact : goal.returns-clause-exact
returns-clause-exact c = (
  c.in_ok-check_change.ensures,
  held-changed c.args.policy.now c.args.row.now c.replace.result c.args.self.now c.self.inside.rows.items c.place_of-place.result
      c.self.view_is c.place_of-place.ensures.place (cc) c.in_ok-check_change.ensures,
)
