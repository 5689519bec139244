-- Lines of users.
use Rattle.std.specs.Prelude.{◌≡◌, ◌⊎◌, ℕ, List, None, Some, All}
use Rattle.arrayvec.specs.ArrayVec.{ArrayVec}
use Rattle.byte_text.specs.Sendable.{IsSendable}
use Rattle.job_desk.specs.Views.{bytes_of}
use Rattle.octo_asks.specs.declared.answer.Answer.{Answer}
use Rattle.octo_asks.specs.declared.answer.Answer.TheVariants as answer
use Rattle.octo_house_rules.specs.Prints.{commands_in}

-- the commands of texts, which may be sent
pub record AreLines (texts : List (List ℕ)) (lines : List (ArrayVec ℕ)) : Type 0 where
  pub are : commands_in texts ≡ Some (bytes_of lines)
  pub sendable : All IsSendable (bytes_of lines)

-- why texts are no lines: memory ran out, or one is no command
abbrev pub AreNoLines : List (List ℕ) → Answer → Type 0
AreNoLines texts x = (x ≡ answer.NoMemory) ⊎ ((x ≡ answer.BadCommand) × (commands_in texts ≡ None))
