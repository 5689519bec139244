-- Since when a stream takes nothing of what is unsent.
use Rattle.std.specs.Prelude.{ℕ, List, [], ◌∷◌, Option, None, Some, unwrap_or, ◌==◌, if◌then◌else◌}

-- a stream that took that number of bytes begins anew, if it took any
abbrev pub stuck_before : (count : ℕ) → (stuck : Option ℕ) → Option ℕ
stuck_before count stuck = if count == 0 then stuck else None

-- since when it is, at this moment, if these bytes are left
abbrev pub stuck_after : (left : List ℕ) → (stuck : Option ℕ) → (now : ℕ) → Option ℕ
stuck_after [] stuck now = None
stuck_after (byte ∷ left) stuck now = Some (unwrap_or stuck now)
