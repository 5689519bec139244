use Rattle.std.proofs.Common.{ap, ◌∙◌}
use Rattle.std.specs.List.{list_any}
use Rattle.std.specs.Str.{bytes_eq}
use Rattle.octo_house.proofs.house.House.holds.Goals as goal

pub returns : goal.returns
returns c = c.is_among.ensures ∙ ap (list_any (λ n. bytes_eq n c.args.name.now)) c.deref.ensures.value
