-- The links of a floor in memory.
use Rattle.std.specs.Prelude.{◌≡◌, false, List, All}
use Rattle.octo_floor_bay.specs.Bay.{BayData}
use Rattle.printer_link.specs.Calls.{LinkState}
use Rattle.octo_floor.specs.Links.{link_states}
use Rattle.octo_floor.specs.declared.links.Links.{Links}
use Rattle.printer_link.specs.Memory.{MemoryLinkData, link_state, link_world}

-- the links of a floor in memory, as what they say of themselves
abbrev pub memory_states : Links MemoryLinkData → List LinkState
memory_states = link_states link_state

-- a link isn't made
abbrev pub IsDown : MemoryLinkData → Type 0
IsDown l = (link_world l).linked ≡ false

-- none of eight links is made
pub record AreDown (links : Links MemoryLinkData) : Type 0 where
  pub a : IsDown links.a
  pub b : IsDown links.b
  pub c : IsDown links.c
  pub d : IsDown links.d
  pub e : IsDown links.e
  pub f : IsDown links.f
  pub g : IsDown links.g
  pub h : IsDown links.h

-- no printer has a link
abbrev pub AreOffline : List BayData → Type 0
AreOffline = All (λ (b : BayData). b.session.up ≡ false)
