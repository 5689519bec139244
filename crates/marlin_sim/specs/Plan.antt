-- The arguments of the printer as a program, and the plan that they name.
use Rattle.std.specs.Prelude.{◌≡◌, ℕ, ◌≤◌, Bool, true, false, ◌==◌, ◌&&◌, nat_le, nat_lt, if◌then◌else◌, List, [], ◌∷◌, length, codes, Option, Some, None, option_map}
use Rattle.std.specs.List.{list_all, slice_split}
use Rattle.std.specs.Str.{bytes_eq}
use Rattle.byte_text.specs.Number.{only_if, number_in, most_u32}
use Rattle.marlin_sim.specs.declared.plan.SimPlan.{SimPlan}

-- the place that a text is, if it is above this one
abbrev pub place_in : ℕ → List ℕ → Option ℕ
place_in least word = only_if (λ n. nat_lt least n) (number_in word)

-- a place, and later ones that depend on it
abbrev pub with_place : Option ℕ → (ℕ → Option (List ℕ)) → Option (List ℕ)
with_place None later = None
with_place (Some n) later = option_map (λ places. n ∷ places) (later n)

-- the places that texts are, each above the one before
abbrev pub places_above : ℕ → List (List ℕ) → Option (List ℕ)
places_above least [] = Some []
places_above least (piece ∷ pieces) = with_place (place_in least piece) (λ n. places_above n pieces)

-- whether a byte is between two places
abbrev pub is_comma : ℕ → Bool
is_comma byte = byte == 44

-- the places that a word lists, none for a dash
abbrev pub places_in : List ℕ → Option (List ℕ)
places_in word = if bytes_eq word (codes "-") then Some [] else places_above 0 (slice_split is_comma word)

-- whether a number may be the number of the printer's buffer slots
abbrev pub is_places : ℕ → Bool
is_places n = nat_le 1 n && nat_le n 16

-- how many lines the printer keeps waiting: 1 to 16
abbrev pub count_in : List ℕ → Option ℕ
count_in word = only_if is_places (number_in word)

-- a plan of these parts, if none is missing; a connection is served for 4,000,000,000,000 turns
abbrev pub plan_with : Option ℕ → Option ℕ → Option (List ℕ) → Option (List ℕ) → Bool → Option (List ℕ) → Option SimPlan
plan_with (Some last) (Some slots) (Some dropped) (Some corrupted) numbered (Some lost) =
    Some (record {
      last = last;
      slots = slots;
      drop = dropped;
      corrupt = corrupted;
      numbered = numbered;
      lost = lost;
      turns = 4000000000000;
    })
plan_with _ _ _ _ _ _ = None

-- whether a word may be an address: 1 to 100 bytes
abbrev pub is_address : List ℕ → Bool
is_address word = nat_le 1 (length word) && nat_le (length word) 100

-- the plan of the first five arguments: the address, the last number, the buffer slots, and the lines to drop and to corrupt
abbrev pub plan_by : Bool → Option (List ℕ) → List (List ℕ) → Option SimPlan
plan_by numbered lost (address ∷ last ∷ slots ∷ dropped ∷ corrupted ∷ more) =
    if is_address address then plan_with (number_in last) (count_in slots) (places_in dropped) (places_in corrupted) numbered lost else None
plan_by _ _ _ = None

-- the plan that the arguments are; with the sixth, the replies to lose, acknowledgements are numbered
abbrev pub plan_of : List (List ℕ) → Option SimPlan
plan_of (a ∷ b ∷ c ∷ d ∷ e ∷ []) = plan_by false (Some []) (a ∷ b ∷ c ∷ d ∷ e ∷ [])
plan_of (a ∷ b ∷ c ∷ d ∷ e ∷ lost ∷ []) = plan_by true (places_in lost) (a ∷ b ∷ c ∷ d ∷ e ∷ lost ∷ [])
plan_of _ = None

-- whether a number may be the number of a received line or of a reply
abbrev pub is_place : ℕ → Bool
is_place n = nat_le n most_u32

-- a plan as arguments can name it
pub record IsPlan (plan : SimPlan) : Type 0 where
  pub some : 1 ≤ plan.slots
  pub few : plan.slots ≤ 16
  pub dropped : list_all is_place plan.drop ≡ true
  pub corrupted : list_all is_place plan.corrupt ≡ true
  pub lost : list_all is_place plan.lost ≡ true
  pub turns : 1 ≤ plan.turns
