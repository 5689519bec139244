-- The line of each event of a host's link.
use Rattle.std.specs.Prelude.{ℕ, ◌||◌, ◌&&◌, Bool, true, false, if◌then◌else◌, List, [], ◌++◌, take, codes, Option, Some, None, Result, Ok, Err}
use Rattle.marlin_reply.specs.Kind.{kind_of}
use Rattle.marlin_reply.specs.Pieces.{begins}
use Rattle.marlin_reply.specs.declared.reply.Reply.{Reply}
use Rattle.marlin_reply.specs.declared.reply.Reply.TheVariants as reply
use Rattle.octo_log.specs.Lines.{line_of}
use Rattle.printer_link.specs.declared.link.Heard.{Heard}
use Rattle.printer_link.specs.declared.link.Heard.TheVariants as heard
use Rattle.printer_link.specs.declared.link.LinkFault.{LinkFault}
use Rattle.printer_link.specs.declared.link.LinkFault.TheVariants.{NoPort, Failed}
use Rattle.printer_link_cause.specs.Causes.{cause_words}
use Rattle.printer_link_cause.specs.declared.cause.Cause.{Cause}

-- a name that may be long
abbrev pub short : List ℕ → List ℕ
short name = take 100 name

-- why a call failed, if the link knows it
abbrev pub why : Option Cause → List ℕ
why (Some cause) = codes ": " ++ cause_words cause
why None = []

-- a link that is made
abbrev pub made_words : List ℕ → List ℕ
made_words port = codes "printer: connected to " ++ short port

-- a link that can't be made
abbrev pub unmade_words : List ℕ → Option Cause → List ℕ
unmade_words port cause = codes "printer: no link to " ++ short port ++ why cause

-- the words of a call that made a link to a port, or didn't
abbrev pub dial_words : List ℕ → Option Cause → Result (Unit {0}) LinkFault → List ℕ
dial_words port cause (Ok done) = made_words port
dial_words port cause (Err NoPort) = codes "printer: no port " ++ short port
dial_words port cause (Err Failed) = unmade_words port cause

-- whether a call found that there is no link to a listed port
abbrev pub has_no_link : Result (Unit {0}) LinkFault → Bool
has_no_link (Err Failed) = true
has_no_link _ = false

-- the line of such a call, unless it left a link that is still being made: of calls in a row that all found no link only the first has one
abbrev pub dial_line : (pending had_no_link : Bool) → List ℕ → Option Cause → Result (Unit {0}) LinkFault → List ℕ
dial_line true had_no_link port cause made = []
dial_line false had_no_link port cause made =
    if had_no_link && has_no_link made then [] else line_of (dial_words port cause made)

-- a link that failed
abbrev pub loss_words : Option Cause → List ℕ
loss_words cause = codes "printer: the link failed" ++ why cause

-- the first `ok` since the link was made
abbrev pub ready_words : List ℕ
ready_words = codes "printer: ready"

-- a printer that has restarted while a link was in use
abbrev pub restart_words : List ℕ
restart_words = codes "printer: it has restarted"

-- whether an error only asks for a line again
abbrev pub asks_again : List ℕ → Bool
asks_again text =
    begins text (codes "Error:checksum mismatch") || (begins text (codes "Error:Line Number is not")
    || (begins text (codes "Error:No Checksum") || begins text (codes "Error:No Line Number")))

-- another error that the printer reports
abbrev pub said_words : List ℕ → List ℕ
said_words text = codes "printer: " ++ short text

-- the line of an `ok`
abbrev pub ready_line : Bool → List ℕ
ready_line ready = if ready then [] else line_of ready_words

-- the line of a `start`: before the first `ok` it belongs to the making of a link
abbrev pub restart_line : Bool → List ℕ
restart_line ready = if ready then line_of restart_words else []

-- the line of an error
abbrev pub error_line : List ℕ → List ℕ
error_line text = if asks_again text then [] else line_of (said_words text)

-- the line of a reply, by what kind of reply it is
abbrev pub reply_line : Bool → List ℕ → Reply → List ℕ
reply_line ready text (reply.Ok number planner block temps) = ready_line ready
reply_line ready text reply.Start = restart_line ready
reply_line ready text reply.Error = error_line text
reply_line ready text _ = []

-- whether an `ok` has come
abbrev pub ready_after : Bool → Reply → Bool
ready_after ready (reply.Ok number planner block temps) = true
ready_after ready _ = ready

-- the line of what a call received
abbrev pub heard_line : Bool → List ℕ → Result Heard LinkFault → List ℕ
heard_line ready text (Ok heard.Line) = reply_line ready text (kind_of text)
heard_line ready text (Ok heard.Nothing) = []
heard_line ready text (Err fault) = []

-- whether an `ok` has come, after such a call
abbrev pub recv_ready : Bool → List ℕ → Result Heard LinkFault → Bool
recv_ready ready text (Ok heard.Line) = ready_after ready (kind_of text)
recv_ready ready text (Ok heard.Nothing) = ready
recv_ready ready text (Err fault) = ready

-- a link that was closed
abbrev pub hang_up_words : List ℕ
hang_up_words = codes "printer: disconnected"

-- the line of a link to a port that a call found: whether it was being made and still is, and whether the call failed
abbrev pub link_line : (was_pending had_no_link : Bool) → List ℕ → (pending : Bool) → Option Cause → (failed : Bool) → List ℕ
link_line false had_no_link port pending cause true = line_of (loss_words cause)
link_line false had_no_link port pending cause false = []
link_line true had_no_link port pending cause true = if had_no_link then [] else line_of (unmade_words port cause)
link_line true had_no_link port pending cause false = if pending then [] else line_of (made_words port)

-- whether the last call that was to make a link found none, after such a call
abbrev pub no_link_after : (was_pending had_no_link pending failed : Bool) → Bool
no_link_after false had_no_link pending failed = had_no_link
no_link_after true had_no_link pending true = true
no_link_after true had_no_link pending false = pending && had_no_link

-- the line of a link that is closed, if it was made
abbrev pub hang_up_line : Bool → List ℕ
hang_up_line was_up = if was_up then line_of hang_up_words else []
