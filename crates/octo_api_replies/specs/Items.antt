-- Files, users, queue entries, prints and heaters as JSON. Members are in the byte order of their names.
use Rattle.std.specs.Prelude.{ℕ, List, codes, map}
use Rattle.serde_json.specs.Data.{Data, number, unsigned, string, boolean, array, object, no_members, member}
use Rattle.serde_json.specs.Find.{of_integer}
use Rattle.serde_json.specs.View.{items_of}
use Rattle.octo_asks.specs.declared.shown.ShownHeat.{ShownHeat}
use Rattle.octo_asks.specs.declared.shown.ShownFile.{ShownFile}
use Rattle.octo_asks.specs.declared.shown.ShownUser.{ShownUser}
use Rattle.octo_asks.specs.declared.shown.ShownEntry.{ShownEntry}
use Rattle.octo_asks.specs.declared.shown.ShownPrint.{ShownPrint}
use Rattle.octo_api_replies.specs.Texts.{outcome_text}

-- a count as a number
abbrev pub count : ℕ → Data
count n = number (unsigned n)

-- a list of texts
abbrev pub texts_data : List (List ℕ) → Data
texts_data texts = array (items_of (map string texts))

-- a heater's temperatures
abbrev pub heat_data : ShownHeat → Data
heat_data heat = object (
    member (codes "actual") (number (of_integer heat.actual))
    (member (codes "target") (number (of_integer heat.target))
    no_members))

-- a file
abbrev pub file_data : ShownFile → Data
file_data file = object (
    member (codes "name") (string file.name)
    (member (codes "origin") (string (codes "local"))
    (member (codes "path") (string file.name)
    (member (codes "size") (count file.size)
    (member (codes "type") (string (codes "machinecode"))
    no_members)))))

-- a user
abbrev pub user_data : ShownUser → Data
user_data user = object (
    member (codes "active") (boolean user.active)
    (member (codes "groups") (texts_data user.groups.items)
    (member (codes "name") (string user.name)
    no_members)))

-- an entry of the queue
abbrev pub entry_data : ShownEntry → Data
entry_data entry = object (
    member (codes "copies") (count entry.copies)
    (member (codes "file") (string entry.file)
    (member (codes "left") (count entry.left)
    (member (codes "material") (string entry.material)
    (member (codes "name") (string entry.name)
    (member (codes "priority") (count entry.priority)
    (member (codes "user") (string entry.user)
    no_members)))))))

-- the record of a print
abbrev pub print_data : ShownPrint → Data
print_data print = object (
    member (codes "commands") (count print.commands)
    (member (codes "file") (string print.file)
    (member (codes "number") (count print.number)
    (member (codes "outcome") (string (outcome_text print.outcome))
    (member (codes "user") (string print.user)
    no_members)))))
