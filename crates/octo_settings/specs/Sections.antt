-- The sections of settings: the printer, its limits, the admin, and how serving treats connections.
use Rattle.std.specs.Prelude.{ℕ, Bool, false, ◌&&◌, nat_le, nat_lt, if◌then◌else◌, List, [], length, codes, Option, None, Some, Result, Ok, Err}
use Rattle.toml.specs.Data.{Data, boolean, Members, get_member}
use Rattle.hex.specs.Hex.{decode_sized}
use Rattle.hex.specs.declared.error.FromHexError.{FromHexError}
use Rattle.octo_access.specs.Names.{name_of}
use Rattle.octo_access.specs.declared.row.Admin.{Admin}
use Rattle.temp_rules.specs.declared.limits.Limits.{Limits}
use Rattle.octo_settings.specs.Values.{and_then, each, in_range, section, whole, text_value, required_text, text_values}
use Rattle.octo_settings.specs.declared.fault.SettingsFault.{SettingsFault}
use Rattle.octo_settings.specs.declared.fault.SettingsFault.TheVariants.{Missing, WrongKind, OutOfRange}
use Rattle.octo_settings.specs.declared.sections.Printer.{Printer}
use Rattle.octo_settings.specs.declared.sections.Serve.{Serve}

-- a port's name, or an origin: 1 to 100 bytes
abbrev pub short_text : List ℕ → List ℕ → Result (List ℕ) SettingsFault
short_text key text = if nat_le 1 (length text) && nat_le (length text) 100 then Ok text else Err (OutOfRange key)

-- 1 to 16 ports
abbrev pub ports_in : List ℕ → List (List ℕ) → Result (List (List ℕ)) SettingsFault
ports_in key texts = if nat_le 1 (length texts) && nat_le (length texts) 16 then each (short_text key) texts else Err (OutOfRange key)

-- the ports, which may not be missing
abbrev pub ports_of : List ℕ → Option Data → Result (List (List ℕ)) SettingsFault
ports_of key None = Err (Missing key)
ports_of key (Some value) = and_then (text_values key value) (ports_in key)

-- a material's name, `any` if it is missing
abbrev pub material_of : List ℕ → Option Data → Result (List ℕ) SettingsFault
material_of key None = Ok (codes "any")
material_of key (Some value) = and_then (text_value key value) (λ text. in_range key (name_of text))

-- a number of milliseconds that was read
abbrev pub some_number : ℕ → Result (Option ℕ) SettingsFault
some_number n = Ok (Some n)

-- how long the printer may take to start, in milliseconds, if it is said
abbrev pub boot_of : List ℕ → Option Data → Result (Option ℕ) SettingsFault
boot_of key None = Ok None
boot_of key (Some value) = and_then (whole key 0 60000 0 (Some value)) some_number

-- a yes or no, no if it is missing
abbrev pub flag_of : List ℕ → Option Data → Result Bool SettingsFault
flag_of key None = Ok false
flag_of key (Some (boolean flag)) = Ok flag
flag_of key (Some _) = Err (WrongKind key)

-- `ok`s may have numbers only if there is room for a second line: a probe behind a poll
abbrev pub numbered_in : List ℕ → ℕ → Bool → Result Bool SettingsFault
numbered_in key window numbered = if numbered && nat_lt window 2 then Err (OutOfRange key) else Ok numbered

-- whether the printer's `ok`s have numbers, no if it is missing
abbrev pub numbered_of : List ℕ → ℕ → Option Data → Result Bool SettingsFault
numbered_of key window value = and_then (flag_of key value) (numbered_in key window)

-- the printer of a table
abbrev pub printer_in : Members → Result Printer SettingsFault
printer_in members =
    and_then (ports_of (codes "printer.ports") (get_member (codes "ports") members)) (λ ports.
    and_then (whole (codes "printer.window") 1 16 4 (get_member (codes "window") members)) (λ window.
    and_then (whole (codes "printer.limit_ms") 1000 600000 30000 (get_member (codes "limit_ms") members)) (λ limit_ms.
    and_then (whole (codes "printer.poll_ms") 1000 600000 5000 (get_member (codes "poll_ms") members)) (λ poll_ms.
    and_then (boot_of (codes "printer.boot_ms") (get_member (codes "boot_ms") members)) (λ boot_ms.
    and_then (material_of (codes "printer.material") (get_member (codes "material") members)) (λ material.
    and_then (flag_of (codes "printer.connect") (get_member (codes "connect") members)) (λ connect.
    and_then (numbered_of (codes "printer.numbered_oks") window (get_member (codes "numbered_oks") members)) (λ numbered_oks.
    Ok (record {
      ports = ports;
      window = window;
      limit_ms = limit_ms;
      poll_ms = poll_ms;
      boot_ms = boot_ms;
      material = material;
      connect = connect;
      numbered_oks = numbered_oks;
    })))))))))

-- the printer of the section `printer`
abbrev pub printer_of : Option Data → Result Printer SettingsFault
printer_of value = and_then (section (codes "printer") value) printer_in

-- the limits of a table, in degrees Celsius
abbrev pub limits_in : Members → Result Limits SettingsFault
limits_in members =
    and_then (whole (codes "limits.tool") 0 500 300 (get_member (codes "tool") members)) (λ tool.
    and_then (whole (codes "limits.bed") 0 200 120 (get_member (codes "bed") members)) (λ bed.
    Ok (record { tool = tool; bed = bed })))

-- the limits of the section `limits`, the defaults if it is missing
abbrev pub limits_of : Option Data → Result Limits SettingsFault
limits_of value = and_then (section (codes "limits") value) limits_in

-- a digest, of 64 hexadecimal digits
abbrev pub digest_in : List ℕ → Result (List ℕ) FromHexError → Result (List ℕ) SettingsFault
digest_in key (Ok digest) = Ok digest
digest_in key (Err fault) = Err (OutOfRange key)

-- the digest of a key, which may not be missing
abbrev pub digest_of : List ℕ → Option Data → Result (List ℕ) SettingsFault
digest_of key value = and_then (required_text key value) (λ text. digest_in key (decode_sized text 32))

-- the admin's name, which may not be missing
abbrev pub admin_name_of : List ℕ → Option Data → Result (List ℕ) SettingsFault
admin_name_of key value = and_then (required_text key value) (λ text. in_range key (name_of text))

-- the admin of a table
abbrev pub admin_in : Members → Result Admin SettingsFault
admin_in members =
    and_then (admin_name_of (codes "admin.name") (get_member (codes "name") members)) (λ name.
    and_then (digest_of (codes "admin.key_sha256") (get_member (codes "key_sha256") members)) (λ digest.
    Ok (record { name = name; digest = digest })))

-- the admin of the section `admin`
abbrev pub admin_of : Option Data → Result Admin SettingsFault
admin_of value = and_then (section (codes "admin") value) admin_in

-- at most 8 origins
abbrev pub origins_in : List ℕ → List (List ℕ) → Result (List (List ℕ)) SettingsFault
origins_in key texts = if nat_le (length texts) 8 then each (short_text key) texts else Err (OutOfRange key)

-- the origins whose pages may read replies, none if they are missing
abbrev pub origins_of : List ℕ → Option Data → Result (List (List ℕ)) SettingsFault
origins_of key None = Ok []
origins_of key (Some value) = and_then (text_values key value) (origins_in key)

-- how many turns serving waits for a message, and the origins, by a table
abbrev pub serve_in : Members → Result Serve SettingsFault
serve_in members =
    and_then (whole (codes "serve.patience") 1 4000000000 6000 (get_member (codes "patience") members)) (λ patience.
    and_then (origins_of (codes "serve.origins") (get_member (codes "origins") members)) (λ origins.
    Ok (record { patience = patience; origins = origins })))

-- the same by the section `serve`, the defaults if it is missing
abbrev pub serve_of : Option Data → Result Serve SettingsFault
serve_of value = and_then (section (codes "serve") value) serve_in
