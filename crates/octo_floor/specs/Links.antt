-- The links of a floor as what they say of themselves.
use Rattle.std.specs.Prelude.{List, [], ◌∷◌}
use Rattle.printer_link.specs.Calls.{LinkState}
use Rattle.octo_floor.specs.declared.links.Links.{Links}

-- the states of eight links
abbrev pub link_states : {L : Type 0} → (L → LinkState) → Links L → List LinkState
link_states state links =
    state links.a ∷ state links.b ∷ state links.c ∷ state links.d ∷ state links.e ∷ state links.f ∷ state links.g ∷ state links.h ∷ []
