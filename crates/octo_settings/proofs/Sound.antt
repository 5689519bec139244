-- Settings that were read are ones that a sender and a desk can be made with.
use Rattle.std.proofs.Common.{◌≡◌, ℕ, ◌≤◌, pos, negsuc, Bool, true, false, ◌&&◌, nat_le, nat_lt, cond, ◌∙◌, List, Option, Some, None, Result, Ok, Err, IfOk, refl, subst, codes, rules, arith}
use Rattle.std.proofs.lemmas.Bool.Decides.{nat_tests}
use Rattle.toml.specs.Data.{Data, string, integer, float, boolean, datetime, array, table, Members, get_member}
use Rattle.job_desk.specs.Data.{ScriptTexts}
use Rattle.temp_rules.specs.declared.limits.Limits.{Limits}
use Rattle.octo_access.specs.Groups.{GroupData}
use Rattle.octo_access.specs.declared.row.Admin.{Admin}
use Rattle.octo_settings.specs.Config.{document_of, settings_in, settings_or, config, plain_settings, with_numbers}
use Rattle.octo_settings.specs.Groups.{groups_of}
use Rattle.octo_settings.specs.Scripts.{scripts_of}
use Rattle.octo_settings.specs.Sections.{ports_of, material_of, boot_of, flag_of, numbered_in, numbered_of, printer_in, printer_of, limits_of, admin_of, serve_in, serve_of, origins_of}
use Rattle.octo_settings.specs.Sound.{AreScripts, IsSettings}
use Rattle.octo_settings.specs.Values.{Reads, and_then, section, whole}
use Rattle.octo_settings.specs.declared.fault.SettingsFault.{SettingsFault}
use Rattle.octo_settings.specs.declared.fault.SettingsFault.TheVariants.{OutOfRange}
use Rattle.octo_settings.specs.declared.sections.Printer.{Printer}
use Rattle.octo_settings.specs.declared.sections.Serve.{Serve}
use Rattle.octo_settings.specs.declared.settings.Settings.{Settings}
use Rattle.octo_settings.proofs.ScriptsSound.{made, all-scripts-sound, none-at}

-- a whole number that was read is within its range
in-bounds : (key : List ℕ) (least most n m : ℕ) (b : Bool) → (nat_le least m && nat_le m most) ≡ b →
    ◌≡◌ {A = Result ℕ SettingsFault} (cond b (Ok m) (Err (OutOfRange key))) (Ok n) → (least ≤ n) × (n ≤ most)
in-bounds key least most n m true is h =
    let e : m ≡ n = cc in
    let within : (least ≤ m) × (m ≤ most) = (grind (arith, nat_tests), grind (arith, nat_tests)) in
    subst (λ k. (least ≤ k) × (k ≤ most)) e within
in-bounds key least most n m false is h = absurd (cc)

pub whole-within : (key : List ℕ) (least most default : ℕ) (value : Option Data) (n : ℕ) → least ≤ default → default ≤ most →
    whole key least most default value ≡ Ok n → (least ≤ n) × (n ≤ most)
whole-within key least most default None n low high h = let e : default ≡ n = cc in subst (λ k. (least ≤ k) × (k ≤ most)) e (low, high)
whole-within key least most default (Some (integer (pos m))) n low high h = in-bounds key least most n m (nat_le least m && nat_le m most) refl h
whole-within key least most default (Some (integer (negsuc m))) n low high h = absurd (cc)
whole-within key least most default (Some (string text)) n low high h = absurd (cc)
whole-within key least most default (Some (float x)) n low high h = absurd (cc)
whole-within key least most default (Some (boolean b)) n low high h = absurd (cc)
whole-within key least most default (Some (datetime d)) n low high h = absurd (cc)
whole-within key least most default (Some (array items)) n low high h = absurd (cc)
whole-within key least most default (Some (table _)) n low high h = absurd (cc)

-- what a printer's section is made of
record IsPrinter (p : Printer) : Type 0 where
  open_window : 1 ≤ p.window
  small_window : p.window ≤ 16
  some_limit : 1 ≤ p.limit_ms
  some_poll : 1 ≤ p.poll_ms
  wide_window : p.numbered_oks ≡ true → 2 ≤ p.window

abbrev whole-printer : List (List ℕ) → ℕ → ℕ → ℕ → Option ℕ → List ℕ → Bool → Bool → Printer
whole-printer ports window limit poll boot material connect numbered =
    record {
      ports = ports;
      window = window;
      limit_ms = limit;
      poll_ms = poll;
      boot_ms = boot;
      material = material;
      connect = connect;
      numbered_oks = numbered;
    }

-- a flag that is read for a window is true only with a window of 2
wide-enough : (key : List ℕ) (window : ℕ) (flag numbered : Bool) (b : Bool) → (flag && nat_lt window 2) ≡ b →
    ◌≡◌ {A = Result Bool SettingsFault} (cond b (Err (OutOfRange key)) (Ok flag)) (Ok numbered) → numbered ≡ true → 2 ≤ window
wide-enough key window flag numbered true is h on = absurd (cc h)
wide-enough key window true numbered false is h on = grind (arith, nat_tests)
wide-enough key window false numbered false is h on = let same : false ≡ numbered = cc h in absurd (cc (same ∙ on))

wide-by : (key : List ℕ) (window : ℕ) (flag : Result Bool SettingsFault) (numbered : Bool) →
    and_then flag (numbered_in key window) ≡ Ok numbered → numbered ≡ true → 2 ≤ window
wide-by key window (Err fault) numbered h on = absurd (cc h)
wide-by key window (Ok flag) numbered h on = wide-enough key window flag numbered (flag && nat_lt window 2) refl h on

-- the last key of a printer
printer-last : (made_with : Bool → Printer) (numbered : Result Bool SettingsFault) (p : Printer) →
    ((n : Bool) → numbered ≡ Ok n → made_with n ≡ p → IsPrinter p) →
    ◌≡◌ {A = Result Printer SettingsFault} (and_then numbered (λ n. Ok (made_with n))) (Ok p) → IsPrinter p
printer-last made_with (Err fault) p k h = absurd (cc h)
printer-last made_with (Ok n) p k h = let same : made_with n ≡ p = cc h in k n refl same

printer-by : (ports : Result (List (List ℕ)) SettingsFault) (window limit poll : Result ℕ SettingsFault) (boot : Result (Option ℕ) SettingsFault)
    (material : Result (List ℕ) SettingsFault) (connect : Result Bool SettingsFault) (numbered : ℕ → Result Bool SettingsFault) (p : Printer)
    → ((n : ℕ) → window ≡ Ok n → (1 ≤ n) × (n ≤ 16)) → ((n : ℕ) → limit ≡ Ok n → 1 ≤ n) → ((n : ℕ) → poll ≡ Ok n → 1 ≤ n)
    → ((n : ℕ) (b : Bool) → numbered n ≡ Ok b → b ≡ true → 2 ≤ n)
    → and_then ports (λ a. and_then window (λ b. and_then limit (λ c. and_then poll (λ d. and_then boot (λ f.
    and_then material (λ e. and_then connect (λ g. and_then (numbered b) (λ o. Ok (whole-printer a b c d f e g o))))))))) ≡ Ok p
    → IsPrinter p
printer-by (Err fault) window limit poll boot material connect numbered p w l q o h = absurd (cc)
printer-by (Ok a) (Err fault) limit poll boot material connect numbered p w l q o h = absurd (cc)
printer-by (Ok a) (Ok b) (Err fault) poll boot material connect numbered p w l q o h = absurd (cc)
printer-by (Ok a) (Ok b) (Ok c) (Err fault) boot material connect numbered p w l q o h = absurd (cc)
printer-by (Ok a) (Ok b) (Ok c) (Ok d) (Err fault) material connect numbered p w l q o h = absurd (cc)
printer-by (Ok a) (Ok b) (Ok c) (Ok d) (Ok f) (Err fault) connect numbered p w l q o h = absurd (cc)
printer-by (Ok a) (Ok b) (Ok c) (Ok d) (Ok f) (Ok e) (Err fault) numbered p w l q o h = absurd (cc)
printer-by (Ok a) (Ok b) (Ok c) (Ok d) (Ok f) (Ok e) (Ok g) numbered p w l q o h =
    printer-last (whole-printer a b c d f e g) (numbered b) p
    (λ n is same. subst IsPrinter same
    (record { open_window = (w b refl).0; small_window = (w b refl).1; some_limit = l c refl; some_poll = q d refl; wide_window = o b n is })) h

at-least-one : (key : List ℕ) (least most default : ℕ) (value : Option Data) (n : ℕ) → 1 ≤ least → least ≤ default → default ≤ most →
    whole key least most default value ≡ Ok n → 1 ≤ n
at-least-one key least most default value n one low high h = let within = (whole-within key least most default value n low high h).0 in omega (arith, within)

printer-in-sound : (members : Members) (p : Printer) → printer_in members ≡ Ok p → IsPrinter p
printer-in-sound members p h =
    printer-by
    (ports_of (codes "printer.ports") (get_member (codes "ports") members))
    (whole (codes "printer.window") 1 16 4 (get_member (codes "window") members))
    (whole (codes "printer.limit_ms") 1000 600000 30000 (get_member (codes "limit_ms") members))
    (whole (codes "printer.poll_ms") 1000 600000 5000 (get_member (codes "poll_ms") members))
    (boot_of (codes "printer.boot_ms") (get_member (codes "boot_ms") members))
    (material_of (codes "printer.material") (get_member (codes "material") members))
    (flag_of (codes "printer.connect") (get_member (codes "connect") members))
    (λ window. numbered_of (codes "printer.numbered_oks") window (get_member (codes "numbered_oks") members))
    p
    (λ n is. whole-within (codes "printer.window") 1 16 4 (get_member (codes "window") members) n (omega arith) (omega arith) is)
    (λ n is. at-least-one (codes "printer.limit_ms") 1000 600000 30000 (get_member (codes "limit_ms") members) n (omega arith) (omega arith) (omega arith) is)
    (λ n is. at-least-one (codes "printer.poll_ms") 1000 600000 5000 (get_member (codes "poll_ms") members) n (omega arith) (omega arith) (omega arith) is)
    (λ n b is. wide-by (codes "printer.numbered_oks") n (flag_of (codes "printer.numbered_oks") (get_member (codes "numbered_oks") members)) b is)
    h

printer-sound : (value : Option Data) (p : Printer) → printer_of value ≡ Ok p → IsPrinter p
printer-sound value p h = let m = made (section (codes "printer") value) printer_in p h in printer-in-sound m.0 p m.2

serve-by : (patience : Result ℕ SettingsFault) (origins : Result (List (List ℕ)) SettingsFault) (s : Serve) → ((n : ℕ) → patience ≡ Ok n → 1 ≤ n)
    → and_then patience (λ n. and_then origins (λ o. Ok (record { patience = n; origins = o }))) ≡ Ok s → 1 ≤ s.patience
serve-by (Err fault) origins s some h = absurd (cc)
serve-by (Ok n) (Err fault) s some h = absurd (cc)
serve-by (Ok n) (Ok o) s some h =
    let same : record { patience = n; origins = o } ≡ s = cc in
    subst (λ (x : Serve). 1 ≤ x.patience) same (some n refl)

serve-in-sound : (members : Members) (s : Serve) → serve_in members ≡ Ok s → 1 ≤ s.patience
serve-in-sound members s h =
    serve-by
    (whole (codes "serve.patience") 1 4000000000 6000 (get_member (codes "patience") members))
    (origins_of (codes "serve.origins") (get_member (codes "origins") members))
    s
    (λ n is. at-least-one (codes "serve.patience") 1 4000000000 6000 (get_member (codes "patience") members) n (omega arith) (omega arith) (omega arith) is)
    h

serve-sound : (value : Option Data) (s : Serve) → serve_of value ≡ Ok s → 1 ≤ s.patience
serve-sound value s h = let m = made (section (codes "serve") value) serve_in s h in serve-in-sound m.0 s m.2

-- settings of their sections
abbrev whole-settings : Printer → Limits → Admin → Serve → List GroupData → ScriptTexts → Settings
whole-settings p limits admin serve groups scripts =
    record {
      ports = p.ports;
      window = p.window;
      limit_ms = p.limit_ms;
      poll_ms = p.poll_ms;
      boot_ms = p.boot_ms;
      material = p.material;
      connect = p.connect;
      numbered_oks = p.numbered_oks;
      limits = limits;
      admin = Some admin;
      patience = serve.patience;
      origins = serve.origins;
      groups = groups;
      scripts = scripts;
    }

settings-made : (p : Printer) (limits : Limits) (admin : Admin) (serve : Serve) (groups : List GroupData) (scripts : Result ScriptTexts SettingsFault)
    (s : Settings)
    → IsPrinter p → 1 ≤ serve.patience → ((texts : ScriptTexts) → scripts ≡ Ok texts → AreScripts limits texts)
    → and_then scripts (λ texts. Ok (whole-settings p limits admin serve groups texts)) ≡ Ok s → IsSettings s
settings-made p limits admin serve groups (Err fault) s printer some each h = absurd (cc)
settings-made p limits admin serve groups (Ok texts) s printer some each h =
    let same : whole-settings p limits admin serve groups texts ≡ s = cc in
    subst IsSettings same (record {
      open_window = printer.open_window;
      small_window = printer.small_window;
      wide_window = printer.wide_window;
      some_limit = printer.some_limit;
      some_poll = printer.some_poll;
      patient = some;
      scripts = each texts refl;
    })

settings-by : (printer : Result Printer SettingsFault) (limits : Result Limits SettingsFault) (admin : Result Admin SettingsFault)
    (serve : Result Serve SettingsFault)
    (groups : Result (List GroupData) SettingsFault) (scripts : Limits → Result ScriptTexts SettingsFault) (s : Settings)
    → ((p : Printer) → printer ≡ Ok p → IsPrinter p) → ((n : Serve) → serve ≡ Ok n → 1 ≤ n.patience)
    → ((l : Limits) (texts : ScriptTexts) → scripts l ≡ Ok texts → AreScripts l texts)
    → and_then printer (λ p. and_then limits (λ l. and_then admin (λ a. and_then serve
    (λ n. and_then groups (λ g. and_then (scripts l) (λ t. Ok (whole-settings p l a n g t))))))) ≡ Ok s
    → IsSettings s
settings-by (Err fault) limits admin serve groups scripts s p n t h = absurd (cc)
settings-by (Ok x) (Err fault) admin serve groups scripts s p n t h = absurd (cc)
settings-by (Ok x) (Ok l) (Err fault) serve groups scripts s p n t h = absurd (cc)
settings-by (Ok x) (Ok l) (Ok a) (Err fault) groups scripts s p n t h = absurd (cc)
settings-by (Ok x) (Ok l) (Ok a) (Ok k) (Err fault) scripts s p n t h = absurd (cc)
settings-by (Ok x) (Ok l) (Ok a) (Ok k) (Ok g) scripts s p n t h = settings-made x l a k g (scripts l) s (p x refl) (n k refl) (t l) h

pub settings-sound : (members : Members) (s : Settings) → settings_in members ≡ Ok s → IsSettings s
settings-sound members s h =
    settings-by
    (printer_of (get_member (codes "printer") members))
    (limits_of (get_member (codes "limits") members))
    (admin_of (get_member (codes "admin") members))
    (serve_of (get_member (codes "serve") members))
    (groups_of (get_member (codes "groups") members))
    (λ limits. scripts_of limits (get_member (codes "scripts") members))
    s
    (printer-sound (get_member (codes "printer") members))
    (serve-sound (get_member (codes "serve") members))
    (λ limits texts is. all-scripts-sound limits (get_member (codes "scripts") members) texts is)
    h

sound-or : (members : Option Members) (s : Settings) → settings_or members ≡ Ok s → IsSettings s
sound-or None s h = absurd (cc)
sound-or (Some members) s h = settings-sound members s h

-- settings that a text says are sound
pub config-sound : (text : List ℕ) (s : Settings) → config text ≡ Ok s → IsSettings s
config-sound text s h = sound-or (document_of text) s h

-- so are those that were read
pub read-sound : (result wanted : Result Settings SettingsFault) → Reads result wanted → ((s : Settings) → wanted ≡ Ok s → IsSettings s) →
    IfOk result IsSettings
read-sound (Ok s) wanted is sound = sound s is
read-sound (Err fault) wanted is sound = search rules

-- so are those to which numbers were added
pub numbered_sound : (s : Settings) → IsSettings s → IsSettings (with_numbers s).1
numbered_sound s is = by (nat_lt s.window 2) refl
  where
    answer : Bool → Result (Unit {0}) SettingsFault × Settings
    answer b = cond b (Err (OutOfRange (codes "printer.numbered_oks")), s) (Ok tt, record s { numbered_oks = true })

    by : (b : Bool) → nat_lt s.window 2 ≡ b → IsSettings (answer b).1
    by true small = is
    by false wide = record {
      open_window = is.open_window;
      small_window = is.small_window;
      wide_window = λ on. grind (arith, nat_tests);
      some_limit = is.some_limit;
      some_poll = is.some_poll;
      patient = is.patient;
      scripts = is.scripts;
    }

pub plain-sound : IsSettings plain_settings
plain-sound =
    record {
      open_window = omega arith;
      small_window = omega arith;
      wide_window = λ on. absurd (cc on);
      some_limit = omega arith;
      some_poll = omega arith;
      patient = omega arith;
      scripts = none-at (record { tool = 300; bed = 120 });
    }
