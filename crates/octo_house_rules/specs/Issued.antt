-- The lines that a history issued.
use Rattle.std.specs.Prelude.{ℕ, zero, suc, ◌==◌, Bool, true, false, not, List, [], ◌∷◌, ◌++◌, filter, if◌then◌else◌}
use Rattle.std.specs.List.{take_while}
use Rattle.job_desk.specs.declared.link_fact.LinkFact.{LinkFact}
use Rattle.job_desk.specs.declared.link_fact.LinkFact.TheVariants as fact
use Rattle.job_desk.specs.Data.{Line}
use Rattle.job_desk.specs.Run.{print_lines}
use Rattle.job_desk.specs.declared.state.Tag.{Tag}
use Rattle.job_desk.specs.declared.state.Tag.TheVariants.{Script, Job, Manual, Poll}
use Rattle.octo_asks.specs.History.{History}
use Rattle.octo_asks.specs.declared.entry.Entry.{Entry}
use Rattle.octo_asks.specs.declared.entry.Entry.TheVariants as entry
use Rattle.octo_house_rules.specs.Noted.{lines_in}

-- the lines that an entry issued
abbrev pub lines_at : Entry → List Line
lines_at (entry.Call worker ask moment x) = []
lines_at (entry.Note note) = lines_in note
lines_at entry.Close = []

-- all issued lines, in order
abbrev pub issued_in : History → List Line
issued_in [] = []
issued_in (e ∷ es) = lines_at e ++ issued_in es

-- whether a fact says that a session began
abbrev pub is_opening : LinkFact → Bool
is_opening fact.Opened = true
is_opening _ = false

-- whether a session began with the entry
abbrev pub is_opened : Entry → Bool
is_opened (entry.Note note) = is_opening note.fact
is_opened _ = false

-- what follows the beginning of a session, which is counted from 1
abbrev pub after_opening : ℕ → History → History
after_opening zero es = es
after_opening (suc session) [] = []
after_opening (suc session) (e ∷ es) = after_opening (if is_opened e then session else suc session) es

-- the lines that a session issued; they are numbered from 1
abbrev pub issued_of : ℕ → History → List Line
issued_of session history = issued_in (take_while (λ e. not (is_opened e)) (after_opening session history))

-- whether a line with this tag is a file command of the print
abbrev pub is_job_of : ℕ → Tag → Bool
is_job_of print (Script point of) = false
is_job_of print (Job of index) = of == print
is_job_of print Manual = false
is_job_of print Poll = false

-- the file commands of a print among lines
abbrev pub job_part : ℕ → List Line → List Line
job_part print lines = filter (λ (line : Line). is_job_of print line.tag) lines

-- the issued script lines and file commands of a print
abbrev pub trace : ℕ → History → List Line
trace print history = print_lines print (issued_in history)
