-- The section `floor` of settings: the ports and the materials of the printers.
use Rattle.std.specs.Prelude.{ℕ, ◌&&◌, ◌==◌, nat_le, if◌then◌else◌, List, length, codes, Option, None, Some, Result, Ok, Err}
use Rattle.toml.specs.Data.{Data, Members, get_member}
use Rattle.octo_access.specs.Names.{name_of}
use Rattle.octo_settings.specs.Sections.{short_text}
use Rattle.octo_settings.specs.Values.{and_then, each, in_range, section, text_values}
use Rattle.octo_settings.specs.declared.fault.SettingsFault.{SettingsFault}
use Rattle.octo_settings.specs.declared.fault.SettingsFault.TheVariants.{Missing, OutOfRange}
use Rattle.octo_settings.specs.declared.printers.FloorKey.{FloorKey}
use Rattle.octo_settings.specs.declared.printers.FloorKey.TheVariants.{Ports, Materials}
use Rattle.octo_settings.specs.declared.printers.Printers.{Printers}

-- a key as faults name it
abbrev pub key_of : FloorKey → List ℕ
key_of Ports = codes "floor.ports"
key_of Materials = codes "floor.materials"

-- an item of a list: a port's name, or a material's
abbrev pub item_of : FloorKey → List ℕ → Result (List ℕ) SettingsFault
item_of Ports text = short_text (key_of Ports) text
item_of Materials text = in_range (key_of Materials) (name_of text)

-- 2 to 8 items
abbrev pub items_in : FloorKey → List (List ℕ) → Result (List (List ℕ)) SettingsFault
items_in key texts = if nat_le 2 (length texts) && nat_le (length texts) 8 then each (item_of key) texts else Err (OutOfRange (key_of key))

-- the items of a list of texts, which may not be missing
abbrev pub items_of : FloorKey → Option Data → Result (List (List ℕ)) SettingsFault
items_of key None = Err (Missing (key_of key))
items_of key (Some value) = and_then (text_values (key_of key) value) (items_in key)

-- one material for each port
abbrev pub paired : List (List ℕ) → List (List ℕ) → Result Printers SettingsFault
paired ports materials =
    if length materials == length ports then Ok (record { ports = ports; materials = materials }) else Err (OutOfRange (key_of Materials))

-- the printers of a table
abbrev pub printers_in : Members → Result Printers SettingsFault
printers_in members =
    and_then (items_of Ports (get_member (codes "ports") members)) (λ ports.
    and_then (items_of Materials (get_member (codes "materials") members)) (λ materials.
    paired ports materials))

-- the printers of the section `floor`
abbrev pub printers_of : Option Data → Result Printers SettingsFault
printers_of value = and_then (section (codes "floor") value) printers_in
