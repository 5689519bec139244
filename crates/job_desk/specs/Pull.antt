-- The next line to issue.
use Rattle.std.specs.Prelude.{ℕ, ◌+◌, Bool, true, false, not, ◌&&◌, ◌==◌, nat_le, nat_lt, min, codes, List, [], ◌∷◌, length, slice_get, Option, None, Some, if◌then◌else◌}
use Rattle.byte_text.specs.Number.{most_u64}
use Rattle.job_desk.specs.Data.{Data, Line, commands_of, with_script, moment_after}
use Rattle.job_desk.specs.declared.state.State.{State}
use Rattle.job_desk.specs.declared.state.State.TheVariants.{Offline, Connecting, Operational, Printing, Pausing, Paused, Cancelling, Finishing, Closing, Fault}
use Rattle.job_desk.specs.declared.state.Point.TheVariants as point
use Rattle.job_desk.specs.declared.state.Tag.{Tag}
use Rattle.job_desk.specs.declared.state.Tag.TheVariants.{Script, Job, Manual, Poll}

-- the line that was drawn, if any, and the desk after it
abbrev pub Drawn : Type 0
Drawn = Option Line × Data

-- no line
abbrev pub nothing : Data → Drawn
nothing d = (None, d)

-- the number of a line is kept: as that of the last poll, or of the last line that is none, and of its print's last one; print 0 is none
abbrev pub keep_number : Tag → ℕ → Data → Data
keep_number (Script point print) number d =
    if print == 0 then record d { last_line = number } else record d { print_line = number; last_line = number }
keep_number (Job print index) number d = record d { print_line = number; last_line = number }
keep_number Manual number d = record d { last_line = number }
keep_number Poll number d = record d { poll_line = number }

-- the greatest number of a line
abbrev pub last_number : ℕ
last_number = most_u64

-- the number of the next line of a session; the count stays at the greatest one
abbrev pub next_number : ℕ → ℕ
next_number issued = min (issued + 1) last_number

-- a line counts as issued under the next number
abbrev pub issue : Line → Data → Drawn
issue line d = (Some line, keep_number line.tag (next_number d.issued) (record d { issued = next_number d.issued }))

-- the first waiting script line, or else what is next
abbrev pub from_scripts : List Line → Data → Drawn → Drawn
from_scripts [] d next = next
from_scripts (line ∷ lines) d next = issue line (record d { waiting = lines })

-- the oldest line of a user, or else what is next
abbrev pub from_manual : List (List ℕ) → Data → Drawn → Drawn
from_manual [] d next = next
from_manual (text ∷ texts) d next = issue (record { text = text; tag = Manual }) (record d { manual = texts })

-- whether the commands of a file are issued
abbrev pub is_printing : State → Bool
is_printing Printing = true
is_printing _ = false

-- the line up to which all must be acknowledged before a poll: the last poll. With numbered `ok`s and no more commands, of which each brings a
-- number, it is the last issued line: the reply to a poll has none, so a probe takes its place
abbrev pub polled_line : Data → ℕ
polled_line d = if d.numbered && not (is_printing d.state) then d.issued else d.poll_line

-- a poll is due
abbrev pub poll_is_due : ℕ → Data → Bool
poll_is_due moment d = nat_le d.poll_at moment && nat_le (polled_line d) d.acked

-- a due poll, or else what is next
abbrev pub from_poll : ℕ → Data → Drawn → Drawn
from_poll moment d next =
    if poll_is_due moment d then issue (record { text = codes "M105"; tag = Poll }) (record d { poll_at = moment_after moment d.poll_ms }) else next

-- a printer that numbers its `ok`s is to be probed: one of this many lines isn't acknowledged, and no acknowledgement came since the
-- last probe for as long as between two polls
abbrev pub probe_is_due : ℕ → ℕ → Data → Bool
probe_is_due awaited moment d = d.numbered && (nat_le d.probe_at moment && nat_lt d.acked awaited)

-- the next probe is put off, and so is the next poll
abbrev pub put_off : ℕ → Data → Data
put_off moment d = record d { poll_at = moment_after moment d.poll_ms; probe_at = moment_after moment d.poll_ms }

-- a due probe, or else no line: a command that waits for all moves, whose `ok` has a number
abbrev pub from_probe : ℕ → ℕ → Data → Drawn
from_probe awaited moment d =
    if probe_is_due awaited moment d then issue (record { text = codes "M400"; tag = Poll }) (put_off moment d)
    else nothing d

-- the file command at the cursor, which moves on
abbrev pub from_file : Option (List ℕ) → Data → Drawn
from_file None d = nothing d
from_file (Some text) d = issue (record { text = text; tag = Job d.greatest d.cursor }) (record d { cursor = d.cursor + 1 })

-- scripts, then users' lines, then a due poll, or else what is next
abbrev pub draw_in_order : ℕ → Data → Drawn → Drawn
draw_in_order moment d next = from_scripts d.waiting d (from_manual d.manual d (from_poll moment d next))

-- scripts, users' lines and a due poll, and else a probe if a line isn't acknowledged
abbrev pub draw_idle : ℕ → Data → Drawn
draw_idle moment d = draw_in_order moment d (from_probe d.issued moment d)

-- what is issued while a connection is being closed: its script, and then probes until all lines but the polls are acknowledged, or
-- the line that stops the printer and nothing else
abbrev pub draw_last : Bool → ℕ → Data → Drawn
draw_last false moment d = from_scripts d.waiting d (from_probe d.last_line moment d)
draw_last true moment d = from_manual d.manual d (nothing d)

-- the line that a desk draws in each state
abbrev pub draw_at : State → ℕ → Data → Drawn
draw_at Offline moment d = nothing d
draw_at Connecting moment d = nothing d
draw_at Operational moment d = draw_idle moment d
draw_at Printing moment d = draw_in_order moment d (from_file (slice_get (commands_of d.file) d.cursor) d)
draw_at Pausing moment d = draw_idle moment d
draw_at Paused moment d = draw_idle moment d
draw_at Cancelling moment d = draw_idle moment d
draw_at Finishing moment d = draw_idle moment d
draw_at Closing moment d = draw_last d.stopped moment d
draw_at Fault moment d = nothing d

-- all lines of the print but the script for its end were issued
abbrev pub is_issued : Data → Bool
is_issued d = (length d.waiting == 0) && (d.cursor == length (commands_of d.file))

-- a print whose commands were all issued goes on to its last script
abbrev pub settle_at : State → Data → Data
settle_at Offline d = d
settle_at Connecting d = d
settle_at Operational d = d
settle_at Printing d = if is_issued d then with_script point.Done d.greatest (record d { state = Finishing }) else d
settle_at Pausing d = d
settle_at Paused d = d
settle_at Cancelling d = d
settle_at Finishing d = d
settle_at Closing d = d
settle_at Fault d = d

-- the desk, whose print goes on to its last script if its commands were all issued
abbrev pub settled : Data → Data
settled d = settle_at d.state d

-- what one pull returns and leaves
abbrev pub pull_step : ℕ → Data → Drawn
pull_step moment d = let drawn = draw_at d.state moment d in (drawn.0, settled drawn.1)
