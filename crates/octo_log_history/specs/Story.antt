-- What a host's history says in its log.
use Rattle.std.specs.Prelude.{ℕ, Bool, true, false, not, if◌then◌else◌, nat_eq, List, [], ◌++◌, codes}
use Rattle.std.specs.Cmp.Lexicographic.{pointwise}
use Rattle.std.specs.List.{list_any}
use Rattle.job_desk.specs.Table.{stop_text}
use Rattle.job_desk.specs.declared.issued.Issued.{Issued}
use Rattle.job_desk.specs.declared.issued.Note.{Note}
use Rattle.job_desk.specs.declared.link_fact.LinkFact.{LinkFact}
use Rattle.job_desk.specs.declared.link_fact.LinkFact.TheVariants as fact
use Rattle.octo_asks.specs.declared.answer.Answer.{Answer}
use Rattle.octo_asks.specs.declared.answer.Answer.TheVariants as answer
use Rattle.octo_asks.specs.declared.counter.Next.{Next}
use Rattle.octo_asks.specs.declared.counter.Next.TheVariants as next
use Rattle.octo_asks.specs.declared.request.Request.{Request}
use Rattle.octo_asks.specs.declared.request.Request.TheVariants as request
use Rattle.octo_files.specs.Faults.{end_text}
use Rattle.octo_log.specs.Lines.{line_of}
use Rattle.octo_log_history.specs.declared.press.Press.{Press}
use Rattle.octo_log_history.specs.declared.press.Press.TheVariants as press

-- what a request asks of the print
abbrev pub press_of : Request → Press
press_of request.Pause = press.Pause
press_of request.Resume = press.Resume
press_of request.Toggle = press.Toggle
press_of request.Cancel = press.End
press_of request.Restart = press.End
press_of _ = press.Other

-- what the ask that comes next asks of the print
abbrev pub press_next : Next → Press
press_next next.Nothing = press.Other
press_next (next.Asked worker ask) = press_of ask.request

-- whether an answer accepts
abbrev pub is_accepted : Answer → Bool
is_accepted answer.Accepted = true
is_accepted _ = false

-- a print that was paused, and one that goes on
abbrev pub paused_words : List ℕ
paused_words = codes "print: paused"

abbrev pub resumed_words : List ℕ
resumed_words = codes "print: resumed"

-- whether the print is paused after an accepted ask
abbrev pub paused_by : Press → Bool → Bool
paused_by press.Pause paused = true
paused_by press.Resume paused = false
paused_by press.Toggle paused = not paused
paused_by press.End paused = false
paused_by press.Other paused = paused

-- the line of a print that was or wasn't paused, and is or isn't now
abbrev pub change_line : Bool → Bool → List ℕ
change_line false true = line_of paused_words
change_line true false = line_of resumed_words
change_line false false = []
change_line true true = []

-- the line of an accepted ask; a print that ends isn't resumed
abbrev pub press_line : Press → Bool → List ℕ
press_line press.End paused = []
press_line p paused = change_line paused (paused_by p paused)

-- the line of an answered ask
abbrev pub answer_line : Press → Bool → Answer → List ℕ
answer_line p paused x = if is_accepted x then press_line p paused else []

-- whether the print is paused after an answered ask
abbrev pub answer_paused : Press → Bool → Answer → Bool
answer_paused p paused x = if is_accepted x then paused_by p paused else paused

-- a line that stops the printer was issued
abbrev pub is_stop : Issued → Bool
is_stop line = pointwise nat_eq line.text.items stop_text

abbrev pub stopped_words : List ℕ
stopped_words = codes "printer: stopped by M112"

-- the line of what was issued
abbrev pub issued_line : List Issued → List ℕ
issued_line lines = if list_any is_stop lines then line_of stopped_words else []

-- why a session ended, as the command `print` reports it; a link that failed has its line by the link
abbrev pub fact_line : LinkFact → List ℕ
fact_line (fact.Ended end) = end_text end
fact_line _ = []

-- the lines of a note
abbrev pub note_lines : Note → List ℕ
note_lines note = issued_line note.issued.items ++ fact_line note.fact

-- whether the print is paused after a note: a link that was lost ends it
abbrev pub note_paused : LinkFact → Bool → Bool
note_paused fact.Quiet paused = paused
note_paused _ paused = false
