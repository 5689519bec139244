-- The number of items of a list.
use Rattle.serde_json.proofs.Views.{items_len-items_view}

pub ruleset item_counts = (items_len-items_view)
