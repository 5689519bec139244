-- What a parse of the literal command line comes to.
use Rattle.std.proofs.Common.{◌≡◌, ◌⊎◌, inl, inr, ap, refl, true, [], ◌∷◌, List, Option, None}
use Rattle.clap.proofs.OnLiterals.{clap_on_literals}
use Rattle.clap.specs.Words.{IsAmong, Kinds, Row, Text, fault_of, is_simple, is_simple_and_free, subcommand_of}
use Rattle.clap.specs.declared.error.kind.ErrorKind.{ErrorKind}
use Rattle.clap.specs.declared.error.kind.ErrorKind.TheVariants.{OutOfMemory}
use Rattle.octo_words.specs.Apps.{octo_app, helped_app}
use Rattle.octo_words.specs.Words.{rows_named, unless}

-- `clap` defines the matches and the faults of this command line
pub octo_is_free : is_simple_and_free octo_app ≡ true
unfolding clap_on_literals
octo_is_free = refl

pub octo_is_simple : is_simple octo_app ≡ true
unfolding clap_on_literals
octo_is_simple = refl

-- the same of the command line that shows help
pub helped_is_free : is_simple_and_free helped_app ≡ true
unfolding clap_on_literals
helped_is_free = refl

-- without a fault the rows are those of the command that is named
pub rows_without_fault : (words : List Text) → fault_of octo_app words ≡ [] → rows_named words ≡ subcommand_of octo_app words
unfolding rows_named
rows_without_fault words none = ap (λ kinds. unless kinds (subcommand_of octo_app words)) none

no_rows : (kinds : Kinds) (rows : Option (Text × List Row)) (kind : ErrorKind) → (kind ≡ OutOfMemory → ⊥) → (kind ≡ OutOfMemory) ⊎ IsAmong kind kinds → unless kinds rows ≡ None
no_rows [] rows kind other (inl memory) = absurd (other memory)
no_rows [] rows kind other (inr among) = absurd among
no_rows (first ∷ kinds) rows kind other found = refl

-- a fault other than out of memory leaves no rows
pub rows_with_fault : (words : List Text) (kind : ErrorKind) → (kind ≡ OutOfMemory → ⊥) → (kind ≡ OutOfMemory) ⊎ IsAmong kind (fault_of octo_app words) → rows_named words ≡ None
unfolding rows_named
rows_with_fault words kind other found = no_rows (fault_of octo_app words) (subcommand_of octo_app words) kind other found
