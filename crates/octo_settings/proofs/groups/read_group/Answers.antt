use Rattle.std.proofs.Common.{inr}
use Rattle.std.proofs.lemmas.Result.{err_from_is_err_and}
use Rattle.toml.specs.View.{view}
use Rattle.octo_settings.proofs.Lines.{group-unnamed}
use Rattle.octo_settings.proofs.groups.read_group.Goals as goal

pub returns-in_err-name : goal.returns-in_err-name
returns-in_err-name c =
    let p = err_from_is_err_and c.from_residual.result c.from_residual.ensures.1 in
    rw (p.1, p.2) (inr (group-unnamed c.args.name.now (view c.args.value.now) c.args.groups.now c.in_err-name.field-0.0 c.in_err-name.ensures.0 c.in_err-name.ensures.1))
