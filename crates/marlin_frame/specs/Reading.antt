-- What is read of a line, case by case: the cases exclude each other.
use Rattle.std.specs.Prelude.{◌≡◌, ℕ, true, false, List}
use Rattle.marlin_frame.specs.declared.read.Read.{Read}
use Rattle.marlin_frame.specs.declared.read.Read.TheVariants.{Numbered, BadSum, NoSum, Plain}
use Rattle.marlin_frame.specs.Frame.{begins_with_n, has_checksum, checksum_matches, IsNumberedLine}

-- that this is what a line is read as
abbrev pub IsReading : Read → List ℕ → Type 0
IsReading (Numbered n text) line = IsNumberedLine n text.now line
IsReading BadSum line = (begins_with_n line ≡ true) × (has_checksum line ≡ true) × (checksum_matches line ≡ false)
IsReading NoSum line = (begins_with_n line ≡ true) × (has_checksum line ≡ false)
IsReading Plain line = begins_with_n line ≡ false

-- that a reading is numbered and has this number and this command
abbrev pub IsNumbered : ℕ → List ℕ → Read → Type 0
IsNumbered n text (Numbered m command) = (m ≡ n) × (command.now ≡ text)
IsNumbered n text BadSum = ⊥
IsNumbered n text NoSum = ⊥
IsNumbered n text Plain = ⊥
