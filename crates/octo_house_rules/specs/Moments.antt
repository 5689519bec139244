-- When the entries of a history were made.
use Rattle.std.specs.Prelude.{ℕ, ◌≤◌, All}
use Rattle.octo_asks.specs.History.{History}
use Rattle.octo_asks.specs.declared.entry.Entry.{Entry}
use Rattle.octo_asks.specs.declared.entry.Entry.TheVariants as entry

-- the moment of an entry is one of these; the end has none
abbrev pub IsBetween : ℕ → ℕ → Entry → Type 0
IsBetween first last (entry.Call worker ask moment x) = (first ≤ moment) × (moment ≤ last)
IsBetween first last (entry.Note note) = (first ≤ note.moment) × (note.moment ≤ last)
IsBetween first last entry.Close = Unit {0}

-- each entry's
abbrev pub AreBetween : ℕ → ℕ → History → Type 0
AreBetween first last h = All (IsBetween first last) h
