use Rattle.std.proofs.Common.{◌≡◌, ◌++◌, drop, option_map}
use Rattle.serde_json.specs.View.{items_view}
use Rattle.octo_api_commands.specs.Moves.{axes_text}
use Rattle.octo_api_commands.proofs.moves.axes_text.Given as goal

-- the axes of all are those so far and those of what is left
abbrev pub invariant-loop-value : goal.invariant-loop-value
invariant-loop-value l =
    axes_text (items_view l.values)
    ≡ option_map (λ others. l.text ++ others) (axes_text (items_view (drop l.value-index l.values)))
