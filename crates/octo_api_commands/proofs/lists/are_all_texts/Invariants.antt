use Rattle.std.proofs.Common.{◌≡◌, drop}
use Rattle.std.specs.Prelude.{is_some}
use Rattle.serde_json.specs.Find.{as_str}
use Rattle.serde_json.specs.View.{items_view}
use Rattle.octo_api_commands.specs.Lists.{all_of}
use Rattle.octo_api_commands.proofs.lists.are_all_texts.Given as goal

-- it rests on what is left
abbrev pub invariant-loop-value : goal.invariant-loop-value
invariant-loop-value l = is_some (all_of as_str (items_view l.values)) ≡ is_some (all_of as_str (items_view (drop l.value-index l.values)))
