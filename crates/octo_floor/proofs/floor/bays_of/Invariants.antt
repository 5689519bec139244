use Rattle.std.proofs.Common.{◌≡◌, ◌++◌, map}
use Rattle.std.specs.Prelude.{All}
use Rattle.octo_floor_bay.specs.Bay.{IsNewSession}
use Rattle.octo_floor.specs.Floor.{AreFresh, new_bay}
use Rattle.octo_floor.proofs.floor.bays_of.Given as goal

-- the bays of the sessions so far, and the sessions that are left
abbrev pub invariant-loop-session : goal.invariant-loop-session
invariant-loop-session l = record {
  bays : map new_bay l.fn.sessions ≡ l.bays.items ++ map new_bay l.session-iterator.rest.items;
  new : All IsNewSession l.session-iterator.rest.items;
  fresh : AreFresh l.bays.items;
}
