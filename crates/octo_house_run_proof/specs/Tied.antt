-- A history and the recorded history of a link, side by side.
use Rattle.std.specs.Prelude.{◌≡◌, ◌⊎◌, ℕ, Bool, true, List, [], ◌∷◌}
use Rattle.marlin_frame.specs.Frame.{fails}
use Rattle.printer_model.specs.declared.event.WorldEvent.{WorldEvent}
use Rattle.printer_model.specs.declared.event.WorldEvent.TheVariants.{Send}
use Rattle.octo_session.specs.Sends.{IsHello, IsLineAbove}

-- a line that was sent when this number of lines was acknowledged: a hello, an issued line above those, or one that failed
abbrev pub IsAbove : Bool → List (List ℕ) → ℕ → WorldEvent → Type 0
IsAbove numbered texts acked (Send line) = IsHello numbered line.items ⊎ (IsLineAbove texts acked line.items ⊎ (fails line.items ≡ true))
IsAbove numbered texts acked _ = Unit {0}

-- each of these
abbrev pub AreAbove : Bool → List (List ℕ) → ℕ → List WorldEvent → Type 0
AreAbove numbered texts acked [] = Unit {0}
AreAbove numbered texts acked (event ∷ events) = IsAbove numbered texts acked event × AreAbove numbered texts acked events
