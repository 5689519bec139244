-- What is said of arguments that are no command.
use Rattle.std.specs.Prelude.{◌≡◌, ◌⊎◌, false, [], ◌∷◌, ◌++◌, List}
use Rattle.byte_text.specs.Marks.{has_byte}
use Rattle.clap.specs.Words.{IsAmong, Text, fault_of}
use Rattle.clap.specs.declared.error.kind.ErrorKind.{ErrorKind}
use Rattle.clap.specs.declared.error.kind.ErrorKind.TheVariants as kind
use Rattle.octo_words.specs.Apps.{helped_app}
use Rattle.octo_words.specs.declared.remark.Remark.{Remark}
use Rattle.octo_words.specs.declared.remark.Remark.TheVariants as remark

-- a fault asks for help or for the version
abbrev pub AsksForText : ErrorKind → Type 0
AsksForText fault = (fault ≡ kind.DisplayHelp) ⊎ (fault ≡ kind.DisplayVersion)

-- `clap` has such a fault on the arguments
pub record HasFault (words : List Text) (Such : ErrorKind → Type 0) : Type 0 where
  pub fault : ErrorKind
  pub among : IsAmong fault (fault_of helped_app words)
  pub such : Such fault

-- the arguments ask for help or for the version
abbrev pub IsAsked : List Text → Type 0
IsAsked words = HasFault words AsksForText

-- the arguments have a fault that doesn't
abbrev pub IsFaulty : List Text → Type 0
IsFaulty words = HasFault words (λ fault. AsksForText fault → ⊥)

-- one line with its line feed
pub record IsLine (text : Text) : Type 0 where
  pub line : Text
  pub whole : text ≡ line ++ 10 ∷ []
  pub single : has_byte 10 line ≡ false

-- what is said of a fault: a text if it asks for that, otherwise a line
abbrev pub IsSaidOf : ErrorKind → Remark → Type 0
IsSaidOf fault (remark.Asked text) = AsksForText fault
IsSaidOf fault (remark.Wrong text) = (AsksForText fault → ⊥) × IsLine text

-- what is said of a value: a line
abbrev pub IsLineOn : Remark → Type 0
IsLineOn (remark.Asked text) = ⊥
IsLineOn (remark.Wrong text) = IsLine text

-- what is said: help or the version exactly if it is asked for; otherwise a line, on an argument or on the value of one
pub data IsRemarkOn (words : List Text) : Remark → Type 0 where
  asked : (text : Text) → IsAsked words → IsRemarkOn words (remark.Asked text)
  argument : (text : Text) → IsFaulty words → IsLine text → IsRemarkOn words (remark.Wrong text)
  value : (text : Text) → fault_of helped_app words ≡ [] → IsLine text → IsRemarkOn words (remark.Wrong text)
