-- How far a print over a link has come, and what is shown of it.
use Rattle.std.specs.Prelude.{ℕ, ◌+◌, ◌-◌, ◌*◌, ◌/◌, ◌==◌, ◌||◌, Bool, true, false, nat_lt, nat_le, min, if◌then◌else◌, List, [], ◌∷◌, ◌++◌, map, take, drop, codes, decimal, Option, Some, None, Result, Ok, Err}
use Rattle.std.specs.List.{prefix_len}
use Rattle.std.specs.Char.{is_ascii_digit}
use Rattle.byte_text.specs.Number.{number_of, most_u64}
use Rattle.marlin_reply.specs.Kind.{kind_of}
use Rattle.marlin_reply.specs.Pieces.{begins}
use Rattle.marlin_reply.specs.declared.reply.Reply.{Reply}
use Rattle.marlin_reply.specs.declared.reply.Reply.TheVariants as reply
use Rattle.printer_link.specs.declared.link.Heard.{Heard}
use Rattle.printer_link.specs.declared.link.Heard.TheVariants as heard
use Rattle.printer_link.specs.declared.link.LinkFault.{LinkFault}
use Rattle.octo_log.specs.Lines.{line_of, shown_byte}
use Rattle.octo_log_link.specs.declared.tally.Tally.{Tally}
use Rattle.octo_log_link.specs.declared.progress.Showing.{Showing}
use Rattle.octo_log_link.specs.declared.progress.Showing.TheVariants.{Off, InPlace, Tenths}

-- a count that rose
abbrev pub more : ℕ → ℕ
more count = min (count + 1) most_u64

-- the number of a line, `N` and digits
abbrev pub line_number : List ℕ → ℕ
line_number line = number_of (drop 1 line)

-- the text of a numbered line
abbrev pub line_text : List ℕ → List ℕ
line_text line = drop (prefix_len is_ascii_digit (drop 1 line) + 2) line

-- whether a text is of the host and not of the file: it sets the line number or asks for temperatures
abbrev pub is_hosts : List ℕ → Bool
is_hosts text = begins text (codes "M110") || begins text (codes "M105")

-- whether a line was sent before: its number isn't above the greatest one
abbrev pub is_again : Option ℕ → ℕ → Bool
is_again None number = false
is_again (Some last) number = nat_le number last

-- after a line was sent
abbrev pub sent_by : Tally → List ℕ → Tally
sent_by tally line =
    if is_again tally.last (line_number line) then record tally { again = more tally.again }
    else (if is_hosts (line_text line)
    then record tally { last = Some (line_number line); others = more tally.others }
    else record tally { last = Some (line_number line); commands = more tally.commands })

-- after a reply
abbrev pub replied_by : Tally → Reply → Tally
replied_by tally (reply.Ok number planner block temps) = record tally { oks = more tally.oks }
replied_by tally (reply.Resend number) = record tally { resends = more tally.resends }
replied_by tally _ = tally

-- after a call that receives
abbrev pub heard_by : Tally → List ℕ → Result Heard LinkFault → Tally
heard_by tally text (Ok heard.Line) = replied_by tally (kind_of text)
heard_by tally text (Ok heard.Nothing) = tally
heard_by tally text (Err fault) = tally

-- how many commands are acknowledged: an `ok` comes with each `Resend` too, and for the host's lines
abbrev pub acknowledged : Tally → ℕ
acknowledged tally = min tally.commands ((tally.oks - tally.resends) - tally.others)

-- whether a reply has temperatures
abbrev pub has_temps : Reply → Bool
has_temps (reply.Ok number planner block (Some temps)) = true
has_temps (reply.Temps temps) = true
has_temps _ = false

-- a reply without its `ok`
abbrev pub without_ok : List ℕ → List ℕ
without_ok text = if begins text (codes "ok ") then drop 3 text else text

-- the last reply with temperatures, after one more
abbrev pub temps_after : List ℕ → List ℕ → Reply → List ℕ
temps_after shown text said = if has_temps said then take 60 (without_ok text) else shown

-- the same after a call that receives
abbrev pub temps_by : List ℕ → List ℕ → Result Heard LinkFault → List ℕ
temps_by shown text (Ok heard.Line) = temps_after shown text (kind_of text)
temps_by shown text (Ok heard.Nothing) = shown
temps_by shown text (Err fault) = shown

-- which part of a number of commands is acknowledged, in hundredths
abbrev pub percent : ℕ → ℕ → ℕ
percent total done = if total == 0 then 100 else (min done total * 100) / total

-- that part in words, if the number is known
abbrev pub percent_words : Option ℕ → ℕ → List ℕ
percent_words None done = []
percent_words (Some total) done = decimal (percent total done) ++ codes "%, "

-- the number of commands
abbrev pub total_words : Option ℕ → List ℕ
total_words None = []
total_words (Some total) = codes " of " ++ decimal total

-- the seconds that are left if the print goes on as fast as it did
abbrev pub left_of : ℕ → ℕ → ℕ → ℕ
left_of total seconds done = if done == 0 then 0 else min (seconds * (total - done)) most_u64 / done

abbrev pub left_words : Option ℕ → ℕ → ℕ → List ℕ
left_words None seconds done = []
left_words (Some total) seconds done = codes ", " ++ decimal (left_of total seconds done) ++ codes " s left"

-- the temperatures
abbrev pub temps_words : List ℕ → List ℕ
temps_words [] = []
temps_words shown = codes ", " ++ shown

-- what was sent
abbrev pub sent_words : Option ℕ → ℕ → List ℕ
sent_words total commands = decimal commands ++ total_words total ++ codes " sent, "

-- what was acknowledged, and what was sent again
abbrev pub acknowledged_words : ℕ → ℕ → List ℕ
acknowledged_words done again = decimal done ++ codes " acknowledged, " ++ decimal again ++ codes " again, "

-- both
abbrev pub count_words : Option ℕ → Tally → List ℕ
count_words total tally = sent_words total tally.commands ++ acknowledged_words (acknowledged tally) tally.again

-- how far a print has come after these seconds, of this number of commands
abbrev pub progress_words : Option ℕ → ℕ → Tally → List ℕ → List ℕ
progress_words total seconds tally temps =
    percent_words total (acknowledged tally) ++ count_words total tally ++ decimal seconds ++ codes " s"
    ++ left_words total seconds (acknowledged tally) ++ temps_words temps

-- what a terminal takes before words that are shown in place: back to the beginning of the line, and what doesn't fit in it isn't wrapped
abbrev pub before_words : List ℕ
before_words = 13 ∷ 27 ∷ codes "[?7l"

-- and after them: the rest of the line is erased, and what comes next is wrapped
abbrev pub after_words : List ℕ
after_words = (27 ∷ codes "[K") ++ (27 ∷ codes "[?7h")

-- the bytes that show it in place, over what the line of a terminal has
abbrev pub in_place : List ℕ → List ℕ
in_place words = before_words ++ map shown_byte words ++ after_words

-- how many tenths of the commands are acknowledged
abbrev pub tenth_of : Option ℕ → ℕ → ℕ
tenth_of None done = 0
tenth_of (Some total) done = percent total done / 10

-- whether it is shown now: in place a second after it was shown last, and otherwise if a further tenth is acknowledged
abbrev pub is_due : Showing → (shown moment tenth : ℕ) → Bool
is_due Off shown moment tenth = false
is_due InPlace shown moment tenth = nat_le (min (shown + 1000) most_u64) moment
is_due Tenths shown moment tenth = nat_lt shown tenth

-- these words as they are shown
abbrev pub shown_as : Showing → List ℕ → List ℕ
shown_as Off words = []
shown_as InPlace words = in_place words
shown_as Tenths words = line_of words

-- what is shown at a moment of a print that began at another
abbrev pub shown_text : Showing → Option ℕ → (began shown moment : ℕ) → Tally → List ℕ → List ℕ
shown_text showing total began shown moment tally temps =
    if is_due showing shown moment (tenth_of total (acknowledged tally))
    then shown_as showing (progress_words total ((moment - began) / 1000) tally temps) else []

-- the moment or the tenth that was shown last, after that
abbrev pub shown_after : Showing → Option ℕ → (shown moment : ℕ) → Tally → ℕ
shown_after Off total shown moment tally = shown
shown_after InPlace total shown moment tally = if is_due InPlace shown moment 0 then moment else shown
shown_after Tenths total shown moment tally =
    if nat_lt shown (tenth_of total (acknowledged tally)) then tenth_of total (acknowledged tally) else shown

-- what is shown at the end: in place the last words stay, and the cursor goes to the next line
abbrev pub end_text : Showing → List ℕ → List ℕ
end_text Off words = []
end_text InPlace words = in_place words ++ (10 ∷ [])
end_text Tenths words = []

-- the last words of a link, if any were shown
abbrev pub last_text : Showing → Option ℕ → (began shown moment : ℕ) → Tally → List ℕ → List ℕ
last_text showing total began shown moment tally temps =
    if nat_lt 0 shown then end_text showing (progress_words total ((moment - began) / 1000) tally temps) else []

-- nothing was sent yet
abbrev pub new_tally : Tally
new_tally = record { last = None; commands = 0; others = 0; again = 0; oks = 0; resends = 0 }
