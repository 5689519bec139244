use Rattle.std.proofs.Common.{◌≡◌, ◌∙◌, Bool, List, [], Some, ap, sym, subst, true≢false}
use Rattle.job_desk.specs.Data.{Data, ScriptTexts}
use Rattle.gcode_lines.specs.Job.{texts_of}
use Rattle.job_desk.specs.Scripts.{no_scripts}
use Rattle.printer_link.specs.Link.{Recorded}
use Rattle.printer_link.specs.Memory.{link_kind}
use Rattle.printer_model.specs.declared.event.WorldEvent.{WorldEvent}
use Rattle.octo_session.specs.Causes.{EndCausedAs}
use Rattle.octo_session.specs.Plan.{plan}
use Rattle.send_window.specs.Data.{SenderData}
use Rattle.send_window.specs.declared.session_end.SessionEnd.{SessionEnd}
use Rattle.octo_session_print.specs.Ends.{IsTooHot}
use Rattle.octo_session_print.specs.Printed.{HasPrinted}
use Rattle.temp_rules.specs.Hot.{first_hot_of}
use Rattle.octo_commands_print.proofs.run.print_over.Goals as goal

pub returns : goal.returns
returns c =
    let kind = link_kind c.args.link.now in
    let end = c.run_print.result in
    let acked = c.run_print.new.session.sender.acked in
    let said = c.run_print.ensures in
    let past = Some c.run_print.new.link.story.past in
    let made = c.in_ok-session.ensures.desk in
    let numbered = c.args.numbered in
    let x = c.in_ok-session.session in
    let same : x.sender.numbered ≡ numbered = ap (λ (s : SenderData). s.numbered) c.in_ok-session.ensures.sender in
    let N : Bool → Type 0 = λ b. Recorded (Some []) past (HasPrinted b kind (plan no_scripts (texts_of c.args.job)) end acked) in
    let E : SessionEnd → Bool → Type 0 = λ why b. EndCausedAs b kind past why in
    let plain = subst (λ (s : ScriptTexts). Recorded (Some c.args.link.now.story.past) past (HasPrinted x.sender.numbered kind (plan s (texts_of c.args.job)) end acked)) (ap (λ (d : Data). d.scripts) made) said.printed in
    record {
      acked = acked;
      printed = subst N same (subst (λ (before : List WorldEvent). Recorded (Some before) past (HasPrinted x.sender.numbered kind (plan no_scripts (texts_of c.args.job)) end acked)) c.requires.new plain);
      ended = λ why ended. subst (E why) (said.numbered ∙ same) (said.ended why ended).caused;
      same_kind = said.kind;
      down = said.down;
      listed = λ is none. absurd (true≢false (sym (ap kind.listed c.of_short.ensures ∙ is) ∙ (said.no_port.0 none).unlisted));
      cool = subst (λ limits. IsTooHot (first_hot_of limits c.args.job.commands) end) (ap (λ (d : Data). d.limits) made) said.too_hot;
      used = λ turns is. (said.used turns is).0;
    }
