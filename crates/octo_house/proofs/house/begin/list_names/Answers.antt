use Rattle.std.proofs.Common.{ℕ, List, map, ap, ◌∙◌}
use Rattle.octo_house.proofs.Begun.{names-held}
use Rattle.octo_house.proofs.house.begin.list_names.Goals as goal

pub returns-in-Ok-names_in-clause-names : goal.returns-in-Ok-names_in-clause-names
returns-in-Ok-names_in-clause-names g c =
    names-held (g.S.Shelf.state c.args.shelf.now).files c.in-Ok.files c.in-Ok-names_in.names.items c.in-Ok.ensures.ok
    (c.in-Ok-names_in.ensures ∙ ap (map (λ (one : List ℕ × ℕ). one.0)) c.as_slice.ensures)
