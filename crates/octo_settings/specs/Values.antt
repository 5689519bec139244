-- Values of a TOML document as settings have them: whole numbers in a range, texts, lists of texts.
use Rattle.std.specs.Prelude.{◌≡◌, ℕ, ◌+◌, pos, negsuc, ◌&&◌, nat_le, if◌then◌else◌, List, [], ◌∷◌, ◌⊎◌, Option, None, Some, Result, Ok, Err, MatchResult}
use Rattle.toml.specs.Data.{Data, string, integer, array, table, Items, no_items, item, Members, no_members, member}
use Rattle.octo_settings.specs.declared.fault.SettingsFault.{SettingsFault}
use Rattle.octo_settings.specs.declared.fault.SettingsFault.TheVariants.{Missing, WrongKind, OutOfRange, NoMemory}

-- a result is the wanted one, or memory ran out
abbrev pub Reads : {A : Type 0} → Result A SettingsFault → Result A SettingsFault → Type 0
Reads result wanted = MatchResult result (λ value. wanted ≡ Ok value) (λ fault. (fault ≡ NoMemory) ⊎ (wanted ≡ Err fault))

-- the first fault, or what the next step makes of the value
abbrev pub and_then : {A B : Type 0} → Result A SettingsFault → (A → Result B SettingsFault) → Result B SettingsFault
and_then (Ok value) next = next value
and_then (Err fault) next = Err fault

-- what each item of a list is read as, or the fault of the first one that has one; items are numbered
abbrev pub each_from : {A B : Type 0} → (ℕ → A → Result B SettingsFault) → ℕ → List A → Result (List B) SettingsFault
each_from read n [] = Ok []
each_from read n (x ∷ xs) = and_then (read n x) (λ y. and_then (each_from read (n + 1) xs) (λ ys. Ok (y ∷ ys)))

-- the same without the items' numbers
abbrev pub each : {A B : Type 0} → (A → Result B SettingsFault) → List A → Result (List B) SettingsFault
each read xs = each_from (λ n x. read x) 0 xs

-- items and members as lists
abbrev pub items_list : Items → List Data
items_list no_items = []
items_list (item value items) = value ∷ items_list items

-- the members of a table, with their names
abbrev pub members_list : Members → List (List ℕ × Data)
members_list no_members = []
members_list (member name value members) = (name, value) ∷ members_list members

-- the members of a table that may be missing
abbrev pub section : List ℕ → Option Data → Result Members SettingsFault
section key None = Ok no_members
section key (Some (table members)) = Ok members
section key (Some _) = Err (WrongKind key)

-- a whole number within a range, its default if it is missing
abbrev pub whole : List ℕ → ℕ → ℕ → ℕ → Option Data → Result ℕ SettingsFault
whole key least most default None = Ok default
whole key least most default (Some (integer (pos n))) = if nat_le least n && nat_le n most then Ok n else Err (OutOfRange key)
whole key least most default (Some (integer (negsuc n))) = Err (OutOfRange key)
whole key least most default (Some _) = Err (WrongKind key)

-- a value that has to be a text
abbrev pub text_value : List ℕ → Data → Result (List ℕ) SettingsFault
text_value key (string text) = Ok text
text_value key _ = Err (WrongKind key)

-- a text that may not be missing
abbrev pub required_text : List ℕ → Option Data → Result (List ℕ) SettingsFault
required_text key None = Err (Missing key)
required_text key (Some value) = text_value key value

-- a value that has to be a list of texts
abbrev pub text_values : List ℕ → Data → Result (List (List ℕ)) SettingsFault
text_values key (array items) = each (text_value key) (items_list items)
text_values key _ = Err (WrongKind key)

-- what a reading that yields a value or none yields, none being out of range
abbrev pub in_range : {A : Type 0} → List ℕ → Option A → Result A SettingsFault
in_range key None = Err (OutOfRange key)
in_range key (Some value) = Ok value
