use Rattle.std.proofs.Common.{◌≡◌, [], Some, refl, sym, ◌∙◌, ap, subst, append-nil, arith}
use Rattle.job_desk.specs.Data.{Data}
use Rattle.temp_rules.specs.declared.limits.Limits.{Limits}
use Rattle.octo_session.specs.Data.{SessionData}
use Rattle.octo_floor_bay.specs.Files.{printable}
use Rattle.octo_floor.specs.Step.{IsReadAs, faulty}
use Rattle.octo_floor.proofs.Faults.{none_came, came_then}
use Rattle.octo_floor.proofs.Taking.{takes_job}
use Rattle.octo_floor.proofs.ledger.Ledger.take.Goals as goal

pub returns-in-Ok-Some-clause-takes : goal.returns-in-Ok-Some-clause-takes
returns-in-Ok-Some-clause-takes g c =
    let limits : c.limits.result.now ≡ c.args.bay.now.session.desk.limits =
    c.limits.ensures ∙ ap (λ (d : Data). d.limits) c.desk.ensures ∙ ap (λ (s : SessionData). s.desk.limits) c.session.ensures.session
    in
    let read : IsReadAs c.args.bay.now c.args.entry (g.S.Shelf.state c.args.shelf.now).files (Some c.in-Ok-Some.job) =
    λ held is. subst (λ (l : Limits). Some c.in-Ok-Some.job ≡ printable l c.args.entry.file held) limits (sym c.in-Ok-Some.field-0-is ∙ c.in-Ok-Some.ensures.read held is)
    in
    let does = c.start.ensures.does in (
      does.0,
      does.1,
      takes_job c.args.printer c.args.entry (g.S.Shelf.state c.args.shelf.now).files (g.K.Keeper.state c.args.keeper.now).tables
          (g.K.Keeper.state c.start.new.keeper).tables c.args.self.now c.start.new.self c.args.bay.now c.start.new.bay does.0 c.in-Ok-Some.job read does.2,
    )

pub returns-in-Ok-Some-clause-faults : goal.returns-in-Ok-Some-clause-faults
returns-in-Ok-Some-clause-faults g c =
    came_then c.args.self.now.fault c.args.self.now.fault c.start.new.self.fault (g.K.Keeper.state c.args.keeper.now).faults (g.K.Keeper.state c.args.keeper.now).faults
    (g.K.Keeper.state c.start.new.keeper).faults (g.S.Shelf.state c.args.shelf.now).faults (g.S.Shelf.state c.read_entry.new.shelf).faults
    (g.S.Shelf.state c.read_entry.new.shelf).faults
    (none_came c.args.self.now.fault (g.K.Keeper.state c.args.keeper.now).faults (g.K.Keeper.state c.args.keeper.now).faults (g.S.Shelf.state c.args.shelf.now).faults
    (g.S.Shelf.state c.read_entry.new.shelf).faults (omega arith) c.read_entry.ensures.faults.counts.later)
    (c.start.ensures.faults (g.S.Shelf.state c.read_entry.new.shelf).faults)

pub returns-in-Ok-None-clause-faults : goal.returns-in-Ok-None-clause-faults
returns-in-Ok-None-clause-faults g c =
    came_then c.args.self.now.fault c.args.self.now.fault c.pass.new.self.fault (g.K.Keeper.state c.args.keeper.now).faults (g.K.Keeper.state c.args.keeper.now).faults
    (g.K.Keeper.state c.args.keeper.now).faults (g.S.Shelf.state c.args.shelf.now).faults (g.S.Shelf.state c.read_entry.new.shelf).faults
    (g.S.Shelf.state c.read_entry.new.shelf).faults
    (none_came c.args.self.now.fault (g.K.Keeper.state c.args.keeper.now).faults (g.K.Keeper.state c.args.keeper.now).faults (g.S.Shelf.state c.args.shelf.now).faults
    (g.S.Shelf.state c.read_entry.new.shelf).faults (omega arith) c.read_entry.ensures.faults.counts.later)
    (c.pass.ensures.faults (g.K.Keeper.state c.args.keeper.now).faults (g.S.Shelf.state c.read_entry.new.shelf).faults)

pub returns-in-Err-clause-takes : goal.returns-in-Err-clause-takes
returns-in-Err-clause-takes g c = (
  [],
  sym (append-nil c.args.events.now.items),
  faulty (record { why = c.in-Err.fault; tables_are = refl; ledger_is = c.add_fault.ensures; bay_is = refl; no_event = refl }),
)
