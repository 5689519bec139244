-- What the memory forms of the outside hold.
use Rattle.std.specs.Prelude.{ℕ, ◌+◌, ◌-◌, length, Bool, true, false, if◌then◌else◌, List, [], ◌∷◌, Option, Some, None, ◌==◌, drop, min, slice_get, option_map, unwrap_or}
use Rattle.std.specs.List.{list_any}
use Rattle.std.specs.Str.{bytes_eq}
use Rattle.octo_outside.specs.declared.conn.Got.{Got}
use Rattle.octo_outside.specs.declared.conn.Got.TheVariants.{Bytes, Quiet, Ended}
use Rattle.octo_outside.specs.declared.memory_source.MemoryFile.{MemoryFile}
use Rattle.octo_outside.specs.Recorded.{last_count}

-- the bytes of the first file of that name
abbrev pub bytes_named : List MemoryFile → List ℕ → Option (List ℕ)
bytes_named [] name = None
bytes_named (file ∷ files) name = if bytes_eq file.name name then Some file.bytes else bytes_named files name

-- the bytes of the file at this place, none past the end
abbrev pub bytes_at : List MemoryFile → ℕ → List ℕ
bytes_at files place = unwrap_or (option_map (λ (file : MemoryFile). file.bytes) (slice_get files place)) []

-- the last n bytes
abbrev pub last_of : ℕ → List ℕ → List ℕ
last_of n bytes = drop (length bytes - n) bytes

-- the calls of a form in memory: how many were made, how many failed, and which are to fail
pub record CallsData : Type 0 where
  pub made : ℕ
  pub faults : ℕ
  pub fail_at : List ℕ

-- a source in memory
pub record SourceData : Type 0 where
  pub files : List MemoryFile
  pub left : List ℕ
  pub calls : ℕ
  pub faults : ℕ
  pub fail_at : List ℕ

-- a sink in memory
pub record SinkData : Type 0 where
  pub written : List ℕ
  pub calls : ℕ
  pub faults : ℕ
  pub fail_at : List ℕ

-- a connection in memory
pub record ConnData : Type 0 where
  pub left : List ℕ
  pub written : List ℕ
  pub calls : ℕ
  pub faults : ℕ
  pub quiets : ℕ
  pub quiet_at : List ℕ
  pub fail_at : List ℕ

-- a clock in memory
pub record ClockData : Type 0 where
  pub moment : ℕ
  pub step : ℕ

-- one more, up to the type's last value
abbrev pub one_more : ℕ → ℕ
one_more count = min (count + 1) last_count

-- whether a call is in a list of those that fail
abbrev pub is_listed : List ℕ → ℕ → Bool
is_listed calls call = list_any (λ c. c == call) calls

-- what the next read of a connection gets, unless it fails: nothing yet if that call is listed and something is left
abbrev pub next_got : ConnData → ℕ → Got
next_got c room =
    if is_none c.left then Ended else if is_listed c.quiet_at (one_more c.calls) then Quiet else Bytes (min room (length c.left))
  where
    is_none : List ℕ → Bool
    is_none [] = true
    is_none (byte ∷ bytes) = false

-- the connection after a read that got this
abbrev pub after_got : ConnData → Got → ConnData
after_got c (Bytes n) = record c { left = drop n c.left; calls = one_more c.calls }
after_got c Quiet = record c { quiets = one_more c.quiets; calls = one_more c.calls }
after_got c Ended = record c { calls = one_more c.calls }
