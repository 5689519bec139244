-- A bay's fields, seen as plain data.
use Rattle.octo_floor_bay.specs.Bay.{BayData, IsBay}
use Rattle.octo_floor_bay.specs.declared.bay.Bay.TheInside.{Inside}

-- the data that the fields hold
abbrev pub bay_of : Inside → BayData
bay_of b = record { session = b.session; deeds = b.deeds }

-- the deeds lead to the session
abbrev pub IsKept : Inside → Type 0
IsKept b = IsBay (bay_of b)
