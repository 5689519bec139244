-- The fields of the desk as plain data, and what holds of them.
use Rattle.std.specs.Prelude.{◌≡◌, ℕ, ◌≤◌, true, All}
use Rattle.std.specs.Option.{option_map}
use Rattle.byte_text.specs.Sendable.{IsSendable}
use Rattle.job_desk.specs.Data.{Data, File}
use Rattle.job_desk.specs.Endings.{has_print}
use Rattle.job_desk.specs.declared.waiting.TheConstants.{MOST_WAITING}
use Rattle.job_desk.specs.Table.{most_manual}
use Rattle.job_desk.specs.declared.state.State.{State}
use Rattle.job_desk.specs.declared.state.State.TheVariants.{Offline, Connecting, Operational, Printing, Pausing, Paused, Cancelling, Finishing, Closing, Fault}
use Rattle.job_desk.specs.declared.link_fact.LinkFact.{LinkFact}
use Rattle.job_desk.specs.declared.link_fact.LinkFact.TheVariants as fact
use Rattle.job_desk.specs.Views.{bytes_of}
use Rattle.job_desk.specs.declared.desk.Selected.{Selected}
use Rattle.job_desk.specs.declared.desk.Desk.TheInside.{Inside}

-- a selected file as plain data
abbrev pub file_of : Selected → File
file_of file = record { name = file.name; job = file.job }

-- the fields of a desk as plain data
abbrev pub desk_data : Inside → Data
desk_data desk = record {
  scripts = desk.waiting.scripts;
  limits = desk.limits;
  poll_ms = desk.poll_ms;
  numbered = desk.numbered;
  state = desk.state;
  port = desk.port;
  file = option_map file_of desk.file;
  greatest = desk.prints.greatest;
  active = desk.prints.active;
  cursor = desk.prints.cursor;
  waiting = desk.waiting.lines;
  manual = bytes_of desk.manual.items;
  poll_at = desk.poll_at;
  probe_at = desk.probe_at;
  issued = desk.lines.issued;
  acked = desk.lines.acked;
  print_line = desk.lines.of_print;
  poll_line = desk.lines.of_poll;
  last_line = desk.lines.last;
  ready = desk.ready;
  stopped = desk.stopped;
  linked = desk.linked;
}

-- the most scripts that wait in a state: what a state adds is over before the next one that adds comes, but for a print
-- that is paused, cancelled and disconnected while the first of its scripts still waits
abbrev pub most_in : State → ℕ
most_in Offline = 0
most_in Connecting = 0
most_in Operational = 1
most_in Printing = 2
most_in Pausing = 3
most_in Paused = 0
most_in Cancelling = 4
most_in Finishing = 1
most_in Closing = MOST_WAITING
most_in Fault = 0

-- few enough scripts wait, so that the next one finds room, the users' lines may be sent, and a print that is going on
-- is active
pub record IsDesk (desk : Inside) : Type 0 where
  pub few : desk.waiting.count ≤ most_in desk.state
  pub room : desk.manual.capacity ≡ most_manual
  pub sendable : All IsSendable (bytes_of desk.manual.items)
  pub going : has_print desk.state ≡ true → desk.prints.active ≡ true

-- how many lines are acknowledged falls only if a session begins, to 0, and is at most how many were issued
abbrev pub MayNote : ℕ → LinkFact → Data → Type 0
MayNote acked fact.Opened d = acked ≡ 0
MayNote acked fact.Quiet d = (d.acked ≤ acked) × (acked ≤ d.issued)
MayNote acked fact.Ready d = (d.acked ≤ acked) × (acked ≤ d.issued)
MayNote acked fact.Closed d = (d.acked ≤ acked) × (acked ≤ d.issued)
MayNote acked fact.NoPort d = (d.acked ≤ acked) × (acked ≤ d.issued)
MayNote acked fact.Failed d = (d.acked ≤ acked) × (acked ≤ d.issued)
MayNote acked (fact.Ended end) d = (d.acked ≤ acked) × (acked ≤ d.issued)
