use Rattle.std.proofs.Common.{◌≡◌, ◌++◌, drop, option_map}
use Rattle.serde_json.specs.View.{view, items_view}
use Rattle.octo_api_commands.specs.Lists.{all_of}
use Rattle.octo_api_commands.specs.Commands.{as_command}
use Rattle.octo_api_commands.proofs.lists.commands_in.Given as goal

-- all commands are those so far and those of what is left
abbrev pub invariant-loop-value : goal.invariant-loop-value
invariant-loop-value l =
    all_of (as_command (option_map (λ given. view given.now) l.parameters)) (items_view l.values)
    ≡ option_map (λ others. l.texts ++ others)
    (all_of (as_command (option_map (λ given. view given.now) l.parameters)) (items_view (drop l.value-index l.values)))
