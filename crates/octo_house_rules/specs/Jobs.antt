-- The file commands of a print, and those that the printer executed.
use Rattle.std.specs.Prelude.{ℕ, suc, ◌+◌, List, [], ◌∷◌, length, take}
use Rattle.job_desk.specs.Course.{job_line}
use Rattle.job_desk.specs.Data.{Line}
use Rattle.printer_model.specs.Executed.{opens, executed}
use Rattle.printer_model.specs.declared.event.WorldEvent.{WorldEvent}
use Rattle.printer_link.specs.Link.{LinkKind}
use Rattle.octo_asks.specs.History.{History}
use Rattle.octo_house_rules.specs.Issued.{issued_of, job_part}

-- commands as file commands of a print: each once and in order, from an index on
abbrev pub jobs_from : ℕ → ℕ → List (List ℕ) → List Line
jobs_from print index [] = []
jobs_from print index (text ∷ texts) = job_line print index text ∷ jobs_from print (suc index) texts

-- how many lines the printer executed in a session of a history that began when the link's history was so long
abbrev pub executed_in : LinkKind → List WorldEvent → List WorldEvent → ℕ → ℕ
executed_in kind front past session = length (executed kind.slots kind.oks past (opens front + session))

-- the lines of a session that the printer executed: by Tied they are the first ones
abbrev pub lines_executed : LinkKind → List WorldEvent → List WorldEvent → ℕ → History → List Line
lines_executed kind front past session history = take (executed_in kind front past session) (issued_of session history)

-- the file commands of a print that the printer executed in a session
abbrev pub jobs_executed : ℕ → LinkKind → List WorldEvent → List WorldEvent → ℕ → History → List Line
jobs_executed print kind front past session history = job_part print (lines_executed kind front past session history)
