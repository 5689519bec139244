-- Parameters in the place of their names in a command.
use Rattle.std.specs.Prelude.{◌≡◌, ◌⊎◌, ℕ, ◌==◌, Bool, true, false, ◌||◌, ◌&&◌, nat_le, List, [], ◌∷◌, ◌++◌, length, codes, if◌then◌else◌, Option, Some, None, option_map, option_and_then, Result, Ok, Err}
use Rattle.std.specs.Char.{is_ascii_alphanumeric}
use Rattle.std.specs.Fmt.{signed_decimal}
use Rattle.std.specs.List.{list_all, list_any}
use Rattle.serde_json.specs.Data.{Data}
use Rattle.serde_json.specs.Find.{get, as_str, as_number, as_i64}
use Rattle.octo_api_routes.specs.Ascii.{is_ascii_byte}
use Rattle.octo_api_commands.specs.declared.commands.Brace.{Brace}
use Rattle.octo_api_commands.specs.declared.commands.Brace.TheVariants.{Outside, Opened, Closed, Named}
use Rattle.octo_api_commands.specs.declared.unread.Unread.{Unread}
use Rattle.octo_api_commands.specs.declared.unread.Unread.TheVariants as unread

-- a letter, a digit, `.`, `-`, `+` or `_`
abbrev pub is_plain_byte : ℕ → Bool
is_plain_byte byte = is_ascii_alphanumeric byte || list_any (λ b. b == byte) (codes ".-+_")

-- a plain word: one or more such bytes
abbrev pub is_plain : List ℕ → Bool
is_plain text = nat_le 1 (length text) && list_all is_plain_byte text

-- a text as a plain word
abbrev pub plain_word : List ℕ → Option (List ℕ)
plain_word text = if is_plain text then Some text else None

-- a plain word, or a whole number
abbrev pub word_or_number : Option (List ℕ) → Data → Option (List ℕ)
word_or_number (Some text) found = plain_word text
word_or_number None found = option_map signed_decimal (option_and_then as_i64 (as_number found))

-- what is put in the place of a parameter's name: a plain word, or a whole number
abbrev pub value_text : Data → Option (List ℕ)
value_text found = word_or_number (as_str found) found

-- the text of the parameter of this name
abbrev pub text_of_name : Data → List ℕ → Option (List ℕ)
text_of_name parameters name =
    if list_all is_ascii_byte name then option_and_then value_text (get name parameters) else None

-- what of a command is written so far, the name that is being read, and where in braces the next byte is
pub record Filling : Type 0 where
  pub written : List ℕ
  pub name : List ℕ
  pub brace : Brace

abbrev pub filling : List ℕ → List ℕ → Brace → Filling
filling written name brace = record { written = written; name = name; brace = brace }

-- what is written after one more byte: `{{` and `}}` write a brace, `{name}` the parameter of this name, and other braces fail
abbrev pub after_byte : Data → List ℕ → List ℕ → Brace → ℕ → Option Filling
after_byte parameters written name Outside byte =
    if byte == 123 then Some (filling written name Opened)
    else if byte == 125 then Some (filling written name Closed)
    else Some (filling (written ++ byte ∷ []) name Outside)
after_byte parameters written name Opened byte =
    if byte == 123 then Some (filling (written ++ byte ∷ []) name Outside)
    else if byte == 125 then None
    else Some (filling written (byte ∷ []) Named)
after_byte parameters written name Closed byte =
    if byte == 125 then Some (filling (written ++ byte ∷ []) name Outside) else None
after_byte parameters written name Named byte =
    if byte == 123 then None
    else if byte == 125 then option_map (λ text. filling (written ++ text) name Outside) (text_of_name parameters name)
    else Some (filling written (name ++ byte ∷ []) Named)

-- the command at its end, which is outside braces
abbrev pub at_end : List ℕ → Brace → Option (List ℕ)
at_end written Outside = Some written
at_end written _ = None

-- what a text makes of a command that is written so far
abbrev pub fill_on : Data → List ℕ → List ℕ → List ℕ → Brace → Option (List ℕ)
fill_on parameters [] written name brace = at_end written brace
fill_on parameters (byte ∷ bytes) written name brace =
    option_and_then (λ (f : Filling). fill_on parameters bytes f.written f.name f.brace) (after_byte parameters written name brace byte)

-- a command with the parameters in the place of their names
abbrev pub filled : Data → List ℕ → Option (List ℕ)
filled parameters text = fill_on parameters text [] [] Outside

-- a result is what one more byte makes of a command; memory may run out
abbrev pub IsAfterByte : Option Filling → List ℕ → List ℕ → Result Brace Unread → Type 0
IsAfterByte read written name (Ok brace) = read ≡ Some (filling written name brace)
IsAfterByte read written name (Err e) = (e ≡ unread.NoMemory) ⊎ ((read ≡ None) × (e ≡ unread.Wrong))

-- a text, if there is one, was added; memory may run out
abbrev pub AddsText : Option (List ℕ) → List ℕ → List ℕ → Result (Unit {0}) Unread → Type 0
AddsText read old new (Ok done) = option_map (λ text. old ++ text) read ≡ Some new
AddsText read old new (Err e) = (e ≡ unread.NoMemory) ⊎ ((read ≡ None) × (e ≡ unread.Wrong))
