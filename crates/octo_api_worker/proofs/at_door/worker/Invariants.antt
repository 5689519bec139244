use Rattle.std.proofs.Common.{◌≡◌, ℕ, List, Some}
use Rattle.octo_api_worker.specs.Worked.{AddsAsks, IsWorking}
use Rattle.octo_api_worker.proofs.at_door.worker.Given as goal

-- the door held, the asker is in its place, the first of the inputs to come were served, and connections led to all calls
abbrev pub invariant-loop : goal.invariant-loop
invariant-loop g l = ((g.D.Door.state l.door).faults ≡ (g.D.Door.state l.initial.door).faults)
    × ((g.A.Asker.state l.asker).place ≡ (g.A.Asker.state l.initial.asker).place)
    × ((inputs : List (List ℕ)) → (g.D.Door.state l.initial.door).coming ≡ Some inputs
    → IsWorking l.fn.terms inputs (g.D.Door.state l.door).coming (g.D.Door.state l.initial.door).served (g.D.Door.state l.door).served (g.A.Asker.state l.initial.asker).mine (g.A.Asker.state l.asker).mine)
    × AddsAsks (g.A.Asker.state l.initial.asker).mine (g.A.Asker.state l.asker).mine
