-- Issued lines as plain data.
use Rattle.job_desk.specs.Data.{Line}
use Rattle.job_desk.specs.declared.issued.Issued.{Issued}

-- an issued line
abbrev pub line_of : Issued → Line
line_of issued = record { text = issued.text.items; tag = issued.tag }
