use Rattle.std.proofs.Common.{◌≡◌, ◌++◌, drop, length, option_map}
use Rattle.serde_json.specs.View.{items_view}
use Rattle.octo_api_commands.specs.Lists.{all_of}
use Rattle.octo_api_requests.specs.Fields.{as_name}
use Rattle.octo_api_requests.proofs.lists.names_in.Given as goal

-- all names are those so far and those of what is left
abbrev pub invariant-loop-value : goal.invariant-loop-value
invariant-loop-value l =
    (length l.names.items ≡ l.value-index)
    × (all_of as_name (items_view l.values) ≡ option_map (λ others. l.names.items ++ others) (all_of as_name (items_view (drop l.value-index l.values))))
