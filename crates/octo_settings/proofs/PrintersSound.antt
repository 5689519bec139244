-- Printers that were read are 2 to 8, each with a port and a material.
use Rattle.std.proofs.Common.{◌≡◌, ℕ, ◌+◌, ◌≤◌, suc, Bool, true, false, ◌==◌, ◌&&◌, nat_le, cond, List, [], ◌∷◌, length, Option, Some, None, Result, Ok, Err, IfOk, All, refl, ap, subst, codes, arith}
use Rattle.std.proofs.lemmas.Bool.Decides.{nat_tests}
use Rattle.std.proofs.lemmas.List.Elements.{All-cons, All-nil}
use Rattle.toml.specs.Data.{Data, Members, get_member}
use Rattle.octo_access.specs.Names.{is_name}
use Rattle.octo_settings.specs.Values.{Reads, and_then, each, each_from, in_range, section, text_values}
use Rattle.octo_settings.specs.declared.fault.SettingsFault.{SettingsFault}
use Rattle.octo_settings.specs.declared.fault.SettingsFault.TheVariants.{OutOfRange}
use Rattle.octo_settings.proofs.ScriptsSound.{made}
use Rattle.octo_settings.specs.Printers.{key_of, item_of, items_in, items_of, paired, printers_in, printers_of}
use Rattle.octo_settings.specs.Sound.{ArePrinters}
use Rattle.octo_settings.specs.declared.printers.FloorKey.{FloorKey}
use Rattle.octo_settings.specs.declared.printers.FloorKey.TheVariants.{Ports, Materials}
use Rattle.octo_settings.specs.declared.printers.Printers.{Printers}

-- what was read item by item: as many as there were items, each read of one
record AreRead (P : List ℕ → Type 0) (texts names : List (List ℕ)) : Type 0 where
  size : length names ≡ length texts
  each : All P names

read-each : (P : List ℕ → Type 0) (read : ℕ → List ℕ → Result (List ℕ) SettingsFault) → ((n : ℕ) (text name : List ℕ) → read n text ≡ Ok name → P name) →
    (n : ℕ) (texts names : List (List ℕ))
    → each_from read n texts ≡ Ok names → AreRead P texts names
read-each P read sound n [] names h = let same : [] ≡ names = cc in subst (AreRead P []) same (record { size = refl; each = All-nil P })
read-each P read sound n (text ∷ texts) names h =
    let first = made (read n text) (λ y. and_then (each_from read (n + 1) texts) (λ ys. Ok (y ∷ ys))) names h in
    let later = made (each_from read (n + 1) texts) (λ ys. Ok (first.0 ∷ ys)) names first.2 in
    let rest = read-each P read sound (n + 1) texts later.0 later.1 in
    let same : first.0 ∷ later.0 ≡ names = cc in
    subst (AreRead P (text ∷ texts)) same (record { size = ap suc rest.size; each = All-cons P first.0 later.0 (sound n text first.0 first.1) rest.each })

-- what was read of a list of 2 to 8 items
record AreItems (P : List ℕ → Type 0) (names : List (List ℕ)) : Type 0 where
  some : 2 ≤ length names
  few : length names ≤ 8
  each : All P names

items-by : (P : List ℕ → Type 0) (key : FloorKey) → ((text name : List ℕ) → item_of key text ≡ Ok name → P name) → (texts names : List (List ℕ)) (b : Bool)
    → (nat_le 2 (length texts) && nat_le (length texts) 8) ≡ b →
    ◌≡◌ {A = Result (List (List ℕ)) SettingsFault} (cond b (each (item_of key) texts) (Err (OutOfRange (key_of key)))) (Ok names)
    → AreItems P names
items-by P key sound texts names true is h =
    let read = read-each P (λ n x. item_of key x) (λ n text name. sound text name) 0 texts names h in
    let low : 2 ≤ length texts = grind (arith, nat_tests) in
    let high : length texts ≤ 8 = grind (arith, nat_tests) in
    let size = read.size in
    record { some = omega arith; few = omega arith; each = read.each }
items-by P key sound texts names false is h = absurd (cc)

items-sound : (P : List ℕ → Type 0) (key : FloorKey) → ((text name : List ℕ) → item_of key text ≡ Ok name → P name) →
    (value : Option Data) (names : List (List ℕ)) → items_of key value ≡ Ok names → AreItems P names
items-sound P key sound None names h = absurd (cc)
items-sound P key sound (Some value) names h =
    let m = made (text_values (key_of key) value) (items_in key) names h in
    items-by P key sound m.0 names (nat_le 2 (length m.0) && nat_le (length m.0) 8) refl m.2

named-by : (text name : List ℕ) (b : Bool) → is_name text ≡ b → in_range (key_of Materials) (cond b (Some text) None) ≡ Ok name → is_name name ≡ true
named-by text name true is h = let same : text ≡ name = cc in subst (λ (t : List ℕ). is_name t ≡ true) same is
named-by text name false is h = absurd (cc)

paired-by : (ports materials : List (List ℕ)) (p : Printers) (b : Bool) → (length materials == length ports) ≡ b → AreItems (λ port. Unit {0}) ports →
    AreItems (λ material. is_name material ≡ true) materials
    → ◌≡◌ {A = Result Printers SettingsFault} (cond b (Ok (record { ports = ports; materials = materials })) (Err (OutOfRange (key_of Materials)))) (Ok p) →
    ArePrinters p.ports p.materials
paired-by ports materials p true is some named h =
    let whole : Printers = record { ports = ports; materials = materials } in
    let same : whole ≡ p = cc in
    let even : length materials ≡ length ports = grind (arith, nat_tests) in
    subst (λ (q : Printers). ArePrinters q.ports q.materials) same (record { some = some.some; few = some.few; paired = even; named = named.each })
paired-by ports materials p false is some named h = absurd (cc)

printers-in-sound : (members : Members) (p : Printers) → printers_in members ≡ Ok p → ArePrinters p.ports p.materials
printers-in-sound members p h =
    let a = get_member (codes "ports") members in
    let b = get_member (codes "materials") members in
    let ports = made (items_of Ports a) (λ ports. and_then (items_of Materials b) (λ materials. paired ports materials)) p h in
    let materials = made (items_of Materials b) (λ materials. paired ports.0 materials) p ports.2 in
    paired-by ports.0 materials.0 p (length materials.0 == length ports.0) refl
    (items-sound (λ port. Unit {0}) Ports (λ text name is. tt) a ports.0 ports.1)
    (items-sound (λ material. is_name material ≡ true) Materials (λ text name is. named-by text name (is_name text) refl is) b materials.0 materials.1)
    materials.2

printers-sound : (value : Option Data) (p : Printers) → printers_of value ≡ Ok p → ArePrinters p.ports p.materials
printers-sound value p h = let m = made (section (codes "floor") value) printers_in p h in printers-in-sound m.0 p m.2

-- what a reading of the section yields
pub printers-read : (value : Option Data) (result : Result Printers SettingsFault) → Reads result (printers_of value) →
    IfOk result (λ printers. ArePrinters printers.ports printers.materials)
printers-read value (Ok p) reads = printers-sound value p reads
printers-read value (Err fault) reads = tt
