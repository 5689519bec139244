use Rattle.std.proofs.Common.{ℕ, ◌∙◌, ap, List, set}
use Rattle.arrayvec.specs.ArrayVec.{ArrayVec}
use Rattle.std.proofs.lemmas.List.{map-set}
use Rattle.printer_model.proofs.wire.Wire.set.Goals as goal

pub returns : goal.returns
returns g c =
    map-set (λ (l : ArrayVec ℕ). l.items) c.self.inside.lines.items c.args.at c.args.line
    ∙ ap (λ (ls : List (List ℕ)). set ls c.args.at c.args.line.items) c.self.view_is
