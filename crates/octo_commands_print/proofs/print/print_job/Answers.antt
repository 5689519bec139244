use Rattle.std.proofs.Common.{inr, arith, refl, ap, sym, subst}
use Rattle.octo_session.specs.Data.{SessionData}
use Rattle.octo_session_print.specs.Ends.{IsNew}
use Rattle.send_window.specs.Data.{IsSound}
use Rattle.octo_commands_print.specs.Printing.{over_port, seen_of}
use Rattle.octo_commands_print.proofs.Runs.{ran, untouched, waited}
use Rattle.octo_commands_print.proofs.print.print_job.Goals as goal

pub run_print-end-requires-clause-new : goal.run_print-end-requires-clause-new
run_print-end-requires-clause-new g c =
    let e = c.in-Ok.ensures in
    let sound = subst (λ (x : SessionData). IsSound x.sender) e.session e.sound in
    subst (λ (x : SessionData). IsNew x) (sym e.session) (record { its_desk = refl; its_sender = refl; kind = refl; sound = sound; down = refl })

pub returns-in-Ok-clause-run : goal.returns-in-Ok-clause-run
returns-in-Ok-clause-run g c =
    let e = c.run_print-end.ensures in
    let seen = seen_of (g.L.Link.state c.args.link.now).past (g.L.Link.state c.run_print-end.new.link).past (g.L.Link.state c.args.link.now).faults (g.L.Link.state c.run_print-end.new.link).faults (g.T.Clock.moment c.run_print-end.new.clock) in
    inr (record {
      how = c.run_print-end.result;
      is = c.report_of.ensures c.args.job (omega (arith, c.count-commands.ensures.value, c.count-commands.ensures.few)) c.skipped-skipped.ensures.value;
      run = ran (g.L.Link.state c.args.link.now).kind c.args.settings c.args.job (over_port c.args.port.now c.args.turns) seen c.in-Ok.session c.run_print-end.new.session c.run_print-end.result
          (ap (λ (x : SessionData). x.desk) c.in-Ok.ensures.session) (ap (λ (x : SessionData). x.sender) c.in-Ok.ensures.session) e.numbered c.requires.cool
          e.printed e.too_hot e.no_port e.ended (λ made is. (e.used made is).0) e.unsent e.prompt;
    })

pub returns-in-Ok-clause-waited : goal.returns-in-Ok-clause-waited
returns-in-Ok-clause-waited g c count is =
    waited c.args.settings c.args.job c.args.port.now c.in-Ok.session c.run_print-end.result (g.T.Clock.moment c.args.clock.now) (g.T.Clock.moment c.run_print-end.new.clock) count c.report_of.result
    (ap (λ (x : SessionData). x.sender) c.in-Ok.ensures.session) (c.report_of.ensures c.args.job (omega (arith, c.count-commands.ensures.value, c.count-commands.ensures.few)) c.skipped-skipped.ensures.value)
    c.run_print-end.ensures.waited is

pub returns-in-Ok-clause-untouched : goal.returns-in-Ok-clause-untouched
returns-in-Ok-clause-untouched g c unused =
    c.run_print-end.ensures.untouched (untouched c.run_print-end.result c.args.port.now c.args.job c.report_of.result
    (c.report_of.ensures c.args.job (omega (arith, c.count-commands.ensures.value, c.count-commands.ensures.few)) c.skipped-skipped.ensures.value) unused)
