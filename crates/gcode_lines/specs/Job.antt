-- The job of a file as plain data: its commands and their places.
use Rattle.std.specs.Prelude.{◌≡◌, ℕ, ◌+◌, ◌*◌, ◌^◌, ◌≤◌, List, length, take, drop, map, All}
use Rattle.byte_text.specs.Sendable.{IsSendable}

-- the most bytes that a file may have
abbrev pub most_bytes : ℕ
most_bytes = 67108864

-- a command of a file: its text, its line counted from 1, the place of its line's first byte, and the place of its text's
pub record Command : Type 0 where
  pub text : List ℕ
  pub line : ℕ
  pub place : ℕ
  pub begin : ℕ

-- what a file is read as: its bytes, its commands in order, how many lines were skipped, and how many bytes it has
pub record JobData : Type 0 where
  pub file : List ℕ
  pub commands : List Command
  pub skipped : ℕ
  pub bytes : ℕ

-- the commands' texts
abbrev pub texts_of : JobData → List (List ℕ)
texts_of job = map (λ c. c.text) job.commands

-- the commands' lines
abbrev pub numbers_of : JobData → List ℕ
numbers_of job = map (λ c. c.line) job.commands

-- the places of the commands' lines
abbrev pub places_of : JobData → List ℕ
places_of job = map (λ c. c.place) job.commands

-- an entry: where a text begins in 28 bits, how long it is in 7, and above them its line
abbrev pub entry_at : ℕ → ℕ → ℕ → ℕ
entry_at begin size line = begin + 2 ^ 28 * size + 2 ^ 35 * line

-- a command as an entry
abbrev pub entry_of : Command → ℕ
entry_of c = entry_at c.begin (length c.text) c.line

-- the commands as entries
abbrev pub packed_of : JobData → List ℕ
packed_of job = map entry_of job.commands

-- a command's text is what the file holds from its place on
abbrev pub IsCutFrom : List ℕ → Command → Type 0
IsCutFrom file c = take (length c.text) (drop c.begin file) ≡ c.text

-- every text may be sent
abbrev pub AllSendable : List (List ℕ) → Type 0
AllSendable texts = All IsSendable texts

-- what holds of every job: its texts may be sent, and it is no larger than a file
pub record IsJob (job : JobData) : Type 0 where
  pub sendable : AllSendable (texts_of job)
  pub lines : length job.commands + job.skipped ≤ most_bytes
  pub size : job.bytes ≤ most_bytes
