use Rattle.std.proofs.Common.{rules, ◌≡◌, ℕ, List, false, length, map, sym, ◌∙◌, ap, subst}
use Rattle.octo_floor_bay.specs.Bay.{BayData}
use Rattle.octo_floor.specs.Ledger.{LedgerData}
use Rattle.octo_floor.specs.Floor.{FloorData, IsFloor, new_bay, new_floor}
use Rattle.octo_floor.proofs.News.{new_is_floor}
use Rattle.octo_floor.proofs.floor.Floor.new.Goals as goal

pub invariant_of-result : goal.invariant_of-result
invariant_of-result c =
    let bays : c.in_ok-bays_of.field-0.items ≡ map new_bay c.args.sessions = search rules in
    let ports : c.into_items.result.items ≡ c.args.ports = search rules in
    let materials : c.into_items-2.result.items ≡ c.args.materials = search rules in
    let records : c.count_of-records.result ≡ length c.args.prints = search rules in
    let new : FloorData = new_floor c.args.sessions c.args.ports c.args.materials c.args.queue.rows c.count_of-records.result in
    let ledger : c.in_ok-new.field-0 ≡ new.ledger = search rules in
    let With : List BayData → List (List ℕ) → List (List ℕ) → LedgerData → FloorData =
    λ bs ps ms l. record { bays = bs; ports = ps; materials = ms; ledger = l; began = false }
    in
    let is : With c.in_ok-bays_of.field-0.items c.into_items.result.items c.into_items-2.result.items c.in_ok-new.field-0 ≡ new =
    ap (λ (bs : List BayData). With bs c.into_items.result.items c.into_items-2.result.items c.in_ok-new.field-0) bays
    ∙ ap (λ (ps : List (List ℕ)). With (map new_bay c.args.sessions) ps c.into_items-2.result.items c.in_ok-new.field-0) ports
    ∙ ap (λ (ms : List (List ℕ)). With (map new_bay c.args.sessions) c.args.ports ms c.in_ok-new.field-0) materials
    ∙ ap (λ (l : LedgerData). With (map new_bay c.args.sessions) c.args.ports c.args.materials l) ledger
    in
    subst (λ (f : FloorData). IsFloor f) (sym is)
    (new_is_floor c.args.sessions c.args.ports c.args.materials c.args.queue.rows c.count_of-records.result c.requires.some c.requires.few c.requires.ports
    c.requires.materials c.requires.sessions)
