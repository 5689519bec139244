use Rattle.std.proofs.Common.{is_ok}
use Rattle.octo_access.proofs.Refused.{rows-put}
use Rattle.octo_access.proofs.users.Users.put.Goals as goal

pub invariant_of-self : goal.invariant_of-self
invariant_of-self c =
    rows-put c.args.policy.now c.args.row.now c.copy.result c.args.self.now c.self.inside.rows.items c.insert.new.self.items c.place_for-place.result (is_ok c.insert.result)
    c.self.invariant c.self.view_is c.place_for-place.ensures.place c.copy.ensures c.in_ok-check_new.ensures c.insert.ensures.items
