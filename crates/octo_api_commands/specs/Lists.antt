-- Lists in JSON bodies.
use Rattle.std.specs.Prelude.{ℕ, Bool, ◌&&◌, nat_le, List, [], ◌∷◌, if◌then◌else◌, Option, Some, None, option_map, option_and_then, is_some}
use Rattle.serde_json.specs.Data.{Data, Items, no_items, item}
use Rattle.serde_json.specs.Events.{items_len}
use Rattle.serde_json.specs.Find.{as_str, as_array}

-- all items, if each of them can be read
abbrev pub all_of : {A : Type 0} → (Data → Option A) → Items → Option (List A)
all_of read no_items = Some []
all_of read (item found rest) = option_and_then (λ first. option_map (λ others. first ∷ others) (all_of read rest)) (read found)

-- the items of a list whose length is in this range
abbrev pub in_bounds : ℕ → ℕ → Items → Option Items
in_bounds least most items = if nat_le least (items_len items) && nat_le (items_len items) most then Some items else None

-- the items of a JSON list, if their number is in a range
abbrev pub items_in : ℕ → ℕ → Data → Option Items
items_in least most found = option_and_then (in_bounds least most) (as_array found)

-- a JSON list of 1 to 256 texts
abbrev pub are_texts : Data → Bool
are_texts found = is_some (option_and_then (all_of as_str) (items_in 1 256 found))

-- the items as they are read, if each can be read and their number is in a range
abbrev pub as_list : {A : Type 0} → (Data → Option A) → ℕ → ℕ → Data → Option (List A)
as_list read least most found = option_and_then (all_of read) (items_in least most found)
