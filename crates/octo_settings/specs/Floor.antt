-- The settings of a floor that a text says, or the first of its faults in the order of the keys.
use Rattle.std.specs.Prelude.{ℕ, List, codes, Option, None, Some, Result, Ok, Err}
use Rattle.toml.specs.Data.{Members, get_member}
use Rattle.octo_settings.specs.Config.{document_of, config}
use Rattle.octo_settings.specs.Values.{and_then}
use Rattle.octo_settings.specs.declared.fault.SettingsFault.{SettingsFault}
use Rattle.octo_settings.specs.declared.fault.SettingsFault.TheVariants.{NotToml}
use Rattle.octo_settings.specs.declared.settings.Settings.{Settings}
use Rattle.octo_settings.specs.Printers.{printers_of}
use Rattle.octo_settings.specs.declared.floor.FloorSettings.{FloorSettings}
use Rattle.octo_settings.specs.declared.printers.Printers.{Printers}

-- the printers of a document, or the fault `NotToml` without one
abbrev pub printers_at : Option Members → Result Printers SettingsFault
printers_at None = Err NotToml
printers_at (Some members) = printers_of (get_member (codes "floor") members)

-- the printers of a text
abbrev pub printers_or : List ℕ → Result Printers SettingsFault
printers_or text = printers_at (document_of text)

-- the settings of a floor, from those of a print host and the printers
abbrev pub with_printers : Settings → Result Printers SettingsFault → Result FloorSettings SettingsFault
with_printers settings printers = and_then printers (λ p. Ok (record { settings = settings; ports = p.ports; materials = p.materials }))

-- the settings of a floor that a text says: first those of a print host, then the printers
abbrev pub floor_config : List ℕ → Result FloorSettings SettingsFault
floor_config text = and_then (config text) (λ settings. with_printers settings (printers_or text))
