-- What the sending of a frame is among the steps of a turn.
use Rattle.std.specs.Prelude.{Bool, true, false, List, [], ◌∷◌}
use Rattle.octo_session.specs.Steps.{Step, gives, fails_to_send}
use Rattle.octo_session.specs.declared.open_turn.Gave.{Gave}
use Rattle.octo_session.specs.declared.open_turn.Gave.TheVariants as gave

-- the step of a sending
abbrev pub steps_of_sending : Gave → List Step
steps_of_sending gave.Sent = gives ∷ []
steps_of_sending gave.Nothing = []
steps_of_sending gave.Failed = fails_to_send ∷ []

-- whether the link is up after a sending
abbrev pub is_up_by : Gave → Bool
is_up_by gave.Sent = true
is_up_by gave.Nothing = true
is_up_by gave.Failed = false
