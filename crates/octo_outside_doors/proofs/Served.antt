-- A connection that is given back joins those that are kept, if all are.
use Rattle.std.proofs.Common.{Bool, true, false, List, [], ◌∷◌, ◌++◌, map, Some, None, refl, sym, ◌∙◌}
use Rattle.std.specs.Prelude.{option_map, if◌then◌else◌}
use Rattle.std.proofs.lemmas.List.{map-append}
use Rattle.octo_outside.specs.Memory.{ConnData}
use Rattle.octo_outside.specs.Recorded.{Adds}
use Rattle.octo_outside_doors.specs.Memory.{conn_state}
use Rattle.std.proofs.lemmas.Option.{none-some, same_Some}

pub adds_conn : (keeps : Bool) (old : List ConnData) (conn : ConnData)
    → Adds (option_map (map conn_state) (if keeps then Some old else None))
    (option_map (map conn_state) (if keeps then Some (old ++ conn ∷ []) else None)) (conn_state conn ∷ [])
adds_conn true old conn now e = (
  map conn_state old,
  conn_state conn ∷ [],
  refl,
  sym (same_Some (map conn_state (old ++ conn ∷ [])) now e)
      ∙ map-append conn_state old (conn ∷ []),
  refl,
)
adds_conn false old conn now e = absurd (none-some now e)
