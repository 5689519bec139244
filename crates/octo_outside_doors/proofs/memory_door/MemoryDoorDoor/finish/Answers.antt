use Rattle.std.proofs.Common.{[], ◌∷◌, List, map, Option, Some, None, ap, sym, subst}
use Rattle.std.specs.Prelude.{option_map, if◌then◌else◌}
use Rattle.octo_outside.specs.Memory.{ConnData}
use Rattle.octo_outside.specs.Recorded.{Adds}
use Rattle.octo_outside_doors.specs.Memory.{DoorData, conn_state}
use Rattle.octo_outside_doors.proofs.Served.{adds_conn}
use Rattle.octo_outside_doors.proofs.memory_door.MemoryDoorDoor.finish.Goals as goal

pub returns-in-Ok-clause-served : goal.returns-in-Ok-clause-served
returns-in-Ok-clause-served c =
    let keeps = c.self.inside.keeps_all in
    let old = c.self.inside.served in
    let conn = c.args.conn in
    let is = ap (λ (d : DoorData). d.served) c.self.view_is in
    let pushed = c.in-Ok.ensures.ok in
    subst (λ (served : Option (List ConnData)). Adds (option_map (map conn_state) served)
    (option_map (map conn_state) (if keeps then Some c.push.new.self else None)) (conn_state conn ∷ [])) is
    (subst (λ (list : List ConnData). Adds (option_map (map conn_state) (if keeps then Some old else None))
    (option_map (map conn_state) (if keeps then Some list else None)) (conn_state conn ∷ [])) (sym pushed) (adds_conn keeps old conn))
