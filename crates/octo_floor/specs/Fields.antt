-- A floor's fields, seen as plain data.
use Rattle.octo_floor.specs.Floor.{FloorData, IsFloor}
use Rattle.octo_floor.specs.declared.floor.Floor.TheInside.{Inside}

-- the data that the fields hold
abbrev pub floor_of : Inside → FloorData
floor_of f = record { bays = f.bays.items; ports = f.ports.items; materials = f.materials.items; ledger = f.ledger; began = f.began }

-- what holds of a floor between its calls
abbrev pub IsKept : Inside → Type 0
IsKept f = IsFloor (floor_of f)
