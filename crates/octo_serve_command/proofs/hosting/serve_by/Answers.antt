use Rattle.std.proofs.Common.{◌≡◌, ◌∙◌, ap, refl, arith}
use Rattle.octo_serve.specs.Around.{door_states}
use Rattle.octo_serve_command.specs.Hosting.{around}
use Rattle.octo_serve_command.specs.declared.hosting.HostEnd.{HostEnd}
use Rattle.octo_house.specs.declared.faults.BeginFault.TheVariants as fault
use Rattle.octo_serve_command.proofs.Laws.{host_laws, host_laws_over}
use Rattle.octo_serve_command.proofs.Printing.{host_prints}
use Rattle.octo_serve_command.proofs.Serving.{has_served, hosted_by, not_served, served_causes}
use Rattle.octo_serve_command.proofs.hosting.serve_by.Goals as goal

pub returns-in-Err-clause-serves : goal.returns-in-Err-clause-serves
returns-in-Err-clause-serves g c =
    let e = c.in-Err.ensures in
    not_served _ _ _ c.in-Err.fault _ _ (ap (λ (h : HostEnd). h.report) c.unserved.ensures ∙ c.begin_fault_report.ensures) (ap (λ (h : HostEnd). h.history) c.unserved.ensures) (record {
      link = refl;
      moment = refl;
      tables = e.tables;
      files = e.files;
      doors = refl;
      later = record { link = omega arith; keeper = e.keeper.later; shelf = e.shelf.later };
    })

pub returns-in-Ok-serve-clause-serves : goal.returns-in-Ok-serve-clause-serves
returns-in-Ok-serve-clause-serves g c =
    let e = c.in-Ok.ensures in
    let ran = c.in-Ok-serve.served in
    let hosted = hosted_by _ c.args.settings _ _ _ _ _ _ _ e.terms c.in-Ok-serve.ensures.ok in
    let link_at = g.L.Link.state in
    let doors_at = g.D.Door.state in
    let at = around link_at g.T.Clock.moment (g.K.Keeper.state) (g.S.Shelf.state) doors_at in
    has_served c.args.settings _ _ _ _ ran.history c.has_served.ensures.history (record {
      first = c.in-Ok.begun.house;
      last = c.serve.new.house;
      between = at c.args.link.now c.args.clock.now c.begin_by.new.keeper c.begin_by.new.shelf c.args.doors.now;
      begun = record {
        unserved = record {
          link = refl;
          moment = refl;
          tables = e.tables;
          files = e.files;
          doors = refl;
          later = record { link = omega arith; keeper = e.keeper.later; shelf = e.shelf.later };
        };
        made = e.made;
        begins = e.begins;
        kept = e.kept;
        listed = e.listed;
      };
      calls = ran.calls;
      held = ran.doors_held;
      hosted = hosted;
      prints = host_prints c.args.settings (at c.args.link.now c.args.clock.now c.begin_by.new.keeper c.begin_by.new.shelf c.args.doors.now) _ c.in-Ok.begun.house
          c.serve.new.house ran.calls ran.doors_held _ e.made hosted;
      laws = host_laws c.args.settings (at c.args.link.now c.args.clock.now c.begin_by.new.keeper c.begin_by.new.shelf c.args.doors.now) _ c.in-Ok.begun.house
          c.serve.new.house ran.calls ran.doors_held _ c.requires.sound e.made hosted;
      laws_over = host_laws_over c.args.settings (at c.args.link.now c.args.clock.now c.begin_by.new.keeper c.begin_by.new.shelf c.args.doors.now) _ c.in-Ok.begun.house
          c.serve.new.house ran.calls ran.doors_held _ c.requires.sound e.made hosted;
      own = c.in-Ok-serve.ensures.own;
      is = c.has_served.ensures.report;
    })

pub returns-in-Ok-serve-clause-causes : goal.returns-in-Ok-serve-clause-causes
returns-in-Ok-serve-clause-causes g c =
    let e = c.in-Ok.ensures in
    let ran = c.in-Ok-serve.served in
    let hosted = hosted_by _ c.args.settings _ _ _ _ _ _ _ e.terms c.in-Ok-serve.ensures.ok in
    let link_at = g.L.Link.state in
    let doors_at = g.D.Door.state in
    let at = around link_at g.T.Clock.moment (g.K.Keeper.state) (g.S.Shelf.state) doors_at in
    served_causes c.args.settings _ _ _ ran.history (record {
      first = c.in-Ok.begun.house;
      last = c.serve.new.house;
      between = at c.args.link.now c.args.clock.now c.begin_by.new.keeper c.begin_by.new.shelf c.args.doors.now;
      begun = record {
        unserved = record {
          link = refl;
          moment = refl;
          tables = e.tables;
          files = e.files;
          doors = refl;
          later = record { link = omega arith; keeper = e.keeper.later; shelf = e.shelf.later };
        };
        made = e.made;
        begins = e.begins;
        kept = e.kept;
        listed = e.listed;
      };
      calls = ran.calls;
      held = ran.doors_held;
      hosted = hosted;
      prints = host_prints c.args.settings (at c.args.link.now c.args.clock.now c.begin_by.new.keeper c.begin_by.new.shelf c.args.doors.now) _ c.in-Ok.begun.house
          c.serve.new.house ran.calls ran.doors_held _ e.made hosted;
      laws = host_laws c.args.settings (at c.args.link.now c.args.clock.now c.begin_by.new.keeper c.begin_by.new.shelf c.args.doors.now) _ c.in-Ok.begun.house
          c.serve.new.house ran.calls ran.doors_held _ c.requires.sound e.made hosted;
      laws_over = host_laws_over c.args.settings (at c.args.link.now c.args.clock.now c.begin_by.new.keeper c.begin_by.new.shelf c.args.doors.now) _ c.in-Ok.begun.house
          c.serve.new.house ran.calls ran.doors_held _ c.requires.sound e.made hosted;
      own = c.in-Ok-serve.ensures.own;
      is = c.has_served.ensures.report;
    })

pub returns-clause-serves : goal.returns-clause-serves
returns-clause-serves g c =
    let e = c.in-Ok.ensures in
    let s = c.in-Err-serve.ensures in
    let u = c.unserved-in-Err-serve in
    let link_at = g.L.Link.state in
    let doors_at = g.D.Door.state in
    let link_faults : (g.L.Link.state c.serve.new.link).faults ≡ (g.L.Link.state c.args.link.now).faults = ap (λ x. (g.L.Link.state x).faults) s.link in
    let keeper_faults : (g.K.Keeper.state c.serve.new.keeper).faults ≡ (g.K.Keeper.state c.begin_by.new.keeper).faults = ap (λ x. (g.K.Keeper.state x).faults) s.keeper in
    let shelf_faults : (g.S.Shelf.state c.serve.new.shelf).faults ≡ (g.S.Shelf.state c.begin_by.new.shelf).faults = ap (λ x. (g.S.Shelf.state x).faults) s.shelf in
    not_served c.args.settings _ _ fault.NoMemory _ _ (ap (λ (h : HostEnd). h.report) u.ensures) (ap (λ (h : HostEnd). h.history) u.ensures) (record {
      link = ap link_at s.link;
      moment = ap g.T.Clock.moment s.clock;
      tables = ap (λ x. (g.K.Keeper.state x).tables) s.keeper ∙ e.tables;
      files = ap (λ x. (g.S.Shelf.state x).files) s.shelf ∙ e.files;
      doors = ap (door_states doors_at) s.doors;
      later = record { link = omega (arith, link_faults); keeper = omega (arith, keeper_faults, e.keeper.later); shelf = omega (arith, shelf_faults, e.shelf.later) };
    })

pub returns-in-Ok-serve-clause-down : goal.returns-in-Ok-serve-clause-down
returns-in-Ok-serve-clause-down g c = c.in-Ok-serve.ensures.ok.ran.down
