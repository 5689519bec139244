use Rattle.std.proofs.Common.{◌≡◌, ◌∙◌, List, ap, refl, false, subst}
use Rattle.std.specs.Prelude.{All}
use Rattle.printer_link.specs.Suits.{SuitsAs}
use Rattle.octo_floor_bay.specs.Bay.{BayData, IsBay}
use Rattle.printer_link.specs.Calls.{LinkState}
use Rattle.octo_floor.specs.Objects.{StoreState, store_state}
use Rattle.octo_floor.specs.Links.{link_states}
use Rattle.octo_floor_command.specs.Beginning.{Around, around}
use Rattle.octo_floor_command.specs.Running.{ran}
use Rattle.octo_floor_command.specs.declared.running.FloorDone.{FloorDone}
use Rattle.octo_floor_command.proofs.Runs.{each_state, has_run, not_run}
use Rattle.octo_floor_command.proofs.Begun.{up_first}
use Rattle.octo_floor_command.proofs.running.run_by.Goals as goal

pub returns-in-Err-clause-runs : goal.returns-in-Err-clause-runs
returns-in-Err-clause-runs g c =
    let e = c.in-Err.ensures in
    not_run _ _ _ _ c.in-Err.fault _ _ (ap (λ (d : FloorDone). d.report) c.unrun.ensures ∙ c.floor_fault_report.ensures)
    (ap (λ (d : FloorDone). d.floor) c.unrun.ensures)
    (record { links = refl; tables = e.tables; files = e.files; keeper = e.keeper.later; shelf = e.shelf.later })

pub run-end-requires-clause-up : goal.run-end-requires-clause-up
run-end-requires-clause-up g c lifetimes live =
    let state : _ → LinkState = g.L.Link.state in
    up_first c.args.settings (g.K.Keeper.state c.args.keeper.now).tables c.in-Ok.floor c.in-Ok.ensures.begun (link_states state c.args.links.now)
    (each_state state (λ (l : LinkState). l.up ≡ false) c.args.links.now c.requires.down)

pub returns-clause-runs : goal.returns-clause-runs
returns-clause-runs g c =
    let state : _ → LinkState = g.L.Link.state in
    let store : _ → _ → StoreState = λ keeper shelf. store_state (g.K.Keeper.state keeper) (g.S.Shelf.state shelf) in
    let old : Around = around (link_states state c.args.links.now) (store c.args.keeper.now c.args.shelf.now) in
    let between : Around = around (link_states state c.args.links.now) (store c.begin_by.new.keeper c.begin_by.new.shelf) in
    let r = c.run-end in
    let new : Around = around (link_states state r.new.links) (store r.new.keeper r.new.shelf) in
    let e = c.in-Ok.ensures in
    ran r.result r.new.self (has_run c.args.settings c.args.turns old between new c.in-Ok.floor r.new.self r.result e.begun
    (record { links = refl; tables = e.tables; files = e.files; keeper = e.keeper.later; shelf = e.shelf.later }) e.fresh
    (each_state state (λ (l : LinkState). SuitsAs c.args.settings.settings.numbered_oks l.past l.kind.oks) c.args.links.now c.requires.suits)
    r.ensures.goes r.ensures.rounds r.ensures.records
    (subst (λ (bays : List BayData). All IsBay bays) c.printers.ensures c.know_bays.ensures) r.ensures.numbers r.ensures.ends r.ensures.used r.ensures.up_after)
