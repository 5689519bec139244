-- The heaters that were reported are in the byte order of their names.
use Rattle.std.proofs.Common.{◌≡◌, refl, codes, Option, Some, None}
use Rattle.serde_json.specs.Data.{object, no_members}
use Rattle.octo_asks.specs.declared.shown.ShownHeat.{ShownHeat}
use Rattle.octo_api_replies.specs.Pages.{with_heater, heaters_data}

pub heaters_in_order : (tool bed : Option ShownHeat) → object (with_heater (codes "bed") bed (with_heater (codes "tool0") tool no_members)) ≡ heaters_data tool bed
heaters_in_order None None = refl
heaters_in_order (Some tool) None = refl
heaters_in_order None (Some bed) = refl
heaters_in_order (Some tool) (Some bed) = refl
