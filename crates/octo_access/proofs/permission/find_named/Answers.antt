use Rattle.std.proofs.Common.{◌<◌, length, sym, ap, ◌∙◌, arith}
use Rattle.std.proofs.lemmas.List.Folds.{find_at}
use Rattle.std.proofs.lemmas.Option.{slice_get-get_or}
use Rattle.std.specs.List.{slice_get}
use Rattle.octo_access.specs.Permissions.{has_name}
use Rattle.octo_access.specs.declared.permission.Permission.TheVariants.{Status}
use Rattle.octo_access.proofs.permission.find_named.Goals as goal

pub returns : goal.returns
returns c =
    let within : c.place_in-place.result < length c.args.permissions.now = omega arith in
    sym (find_at (has_name c.args.text.now) c.args.permissions.now
    ∙ ap (slice_get c.args.permissions.now) (sym c.place_in-place.ensures.place)
    ∙ slice_get-get_or c.args.permissions.now c.place_in-place.result Status within)
