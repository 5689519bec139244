-- What the tests of a host begin with.
use Rattle.std.specs.Prelude.{ℕ, List, [], ◌∷◌, codes, false, true, Some}
use Rattle.sha2.specs.Sha256.{sha256}
use Rattle.octo_access.specs.declared.policy.Policy.{Policy}
use Rattle.octo_access.specs.declared.row.UserRow.{UserRow}
use Rattle.octo_keeper.specs.declared.tables.Tables.{Tables}
use Rattle.job_desk.specs.Data.{Data, new_desk}
use Rattle.job_desk.specs.Scripts.{no_scripts}
use Rattle.send_window.specs.Data.{new_sender}
use Rattle.octo_session.specs.Data.{SessionData}
use Rattle.printer_link.specs.Memory.{MemoryLinkData, new_link}
use Rattle.printer_link.specs.declared.schedule.Fate.{Fate}

-- a desk without scripts, for a printer that takes 250 and 100 degrees
abbrev pub plain_desk : Data
plain_desk = new_desk no_scripts (record { tool = 250; bed = 100 }) 5000 false

-- a session of such a desk that hasn't begun, with a window of four lines and this time limit
abbrev pub plain_session : ℕ → SessionData
plain_session limit = record { desk = plain_desk; sender = new_sender 4 false limit; up = false }

-- a link to a printer with four buffer slots whose `ok`s have numbers, which lists one port
abbrev pub link_at : List ℕ → List Fate → MemoryLinkData
link_at port fates = new_link (record {
  names = port ∷ [];
  last = 0;
  slots = 4;
  numbered = true;
  fates = fates;
  slow = 0;
  fail_at = [];
  restart_at = [];
  lost = [];
})

-- an active user of one group
abbrev pub user_of : List ℕ → List ℕ → List ℕ → UserRow
user_of name key group = record { name = name; digest = sha256 key; groups = record { items = group ∷ [] }; active = true }

-- the groups that are built in, and an admin called root
abbrev pub root_policy : List ℕ → Policy
root_policy key = record { groups = []; admin = Some (record { name = codes "root"; digest = sha256 key }) }

-- tables of users alone
abbrev pub users_alone : List UserRow → Tables
users_alone users = record { users = users; queue = []; prints = [] }
