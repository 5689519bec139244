use Rattle.std.proofs.Common.{◌<◌, length, rules}
use Rattle.octo_access.proofs.Changed.{index-restored, set-restored}
use Rattle.octo_access.proofs.users.Users.restore.Goals as goal

pub index_mut-requires : goal.index_mut-requires
index_mut-requires c =
    let within : c.place_of-place.result < length c.self.inside.rows.items =
    index-restored c.args.row.now.name c.args.self.now c.self.inside.rows.items c.place_of-place.result c.self.view_is c.place_of-place.ensures.place c.requires.held in
    search rules

pub invariant_of-self : goal.invariant_of-self
invariant_of-self c =
    set-restored c.args.row.now c.copy.result c.args.self.now c.self.inside.rows.items c.place_of-place.result
    c.self.invariant c.self.view_is c.place_of-place.ensures.place c.copy.ensures c.requires.held c.requires.key
