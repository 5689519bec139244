-- The settings that a text says, or the first of its faults in the order of the keys.
use Rattle.std.specs.Prelude.{ℕ, false, true, nat_le, nat_lt, if◌then◌else◌, List, [], length, codes, Option, None, Some, Result, Ok, Err}
use Rattle.toml.specs.Data.{Members, get_member}
use Rattle.toml.specs.Parse.{parse_document}
use Rattle.octo_settings.specs.Groups.{groups_of}
use Rattle.octo_settings.specs.Scripts.{scripts_of}
use Rattle.octo_settings.specs.Sections.{printer_of, limits_of, admin_of, serve_of}
use Rattle.octo_settings.specs.Values.{and_then}
use Rattle.octo_settings.specs.declared.fault.SettingsFault.{SettingsFault}
use Rattle.octo_settings.specs.declared.fault.SettingsFault.TheVariants.{NotToml, OutOfRange}
use Rattle.octo_settings.specs.declared.settings.Settings.{Settings}
use Rattle.job_desk.specs.Scripts.{no_scripts}

-- the most bytes of settings
abbrev pub most_config_bytes : ℕ
most_config_bytes = 1048576

-- the table that a text is, none if it isn't TOML or is too long
abbrev pub document_of : List ℕ → Option Members
document_of text = if nat_le (length text) most_config_bytes then parse_document text else None

-- the settings of a table
abbrev pub settings_in : Members → Result Settings SettingsFault
settings_in members =
    and_then (printer_of (get_member (codes "printer") members)) (λ printer.
    and_then (limits_of (get_member (codes "limits") members)) (λ limits.
    and_then (admin_of (get_member (codes "admin") members)) (λ admin.
    and_then (serve_of (get_member (codes "serve") members)) (λ serve.
    and_then (groups_of (get_member (codes "groups") members)) (λ groups.
    and_then (scripts_of limits (get_member (codes "scripts") members)) (λ scripts.
    Ok (record {
      ports = printer.ports;
      window = printer.window;
      limit_ms = printer.limit_ms;
      poll_ms = printer.poll_ms;
      boot_ms = printer.boot_ms;
      material = printer.material;
      connect = printer.connect;
      numbered_oks = printer.numbered_oks;
      limits = limits;
      admin = Some admin;
      patience = serve.patience;
      origins = serve.origins;
      groups = groups;
      scripts = scripts;
    })))))))

-- the settings of a table, or the fault `NotToml` without one
abbrev pub settings_or : Option Members → Result Settings SettingsFault
settings_or None = Err NotToml
settings_or (Some members) = settings_in members

-- the settings of a text
abbrev pub config : List ℕ → Result Settings SettingsFault
config text = settings_or (document_of text)

-- without settings: the defaults, no port, no admin and no script
abbrev pub plain_settings : Settings
plain_settings = record {
  ports = [];
  window = 4;
  limit_ms = 30000;
  poll_ms = 5000;
  boot_ms = None;
  material = codes "any";
  connect = false;
  numbered_oks = false;
  limits = record { tool = 300; bed = 120 };
  admin = None;
  patience = 6000;
  origins = [];
  groups = [];
  scripts = no_scripts;
}

-- whether settings take that `ok`s have numbers, and the settings with it
abbrev pub with_numbers : Settings → Result (Unit {0}) SettingsFault × Settings
with_numbers settings =
    if nat_lt settings.window 2 then (Err (OutOfRange (codes "printer.numbered_oks")), settings) else (Ok tt, record settings { numbered_oks = true })
