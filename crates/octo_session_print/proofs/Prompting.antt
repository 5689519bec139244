-- How the turns of a print over a prompt link come to its end.
use Rattle.std.proofs.Common.{◌≡◌, ℕ, ◌+◌, ◌-◌, ◌<◌, ◌≤◌, false, List, [], ◌++◌, length, refl, sym, ◌∙◌, ap, length-append, arith}
use Rattle.std.proofs.lemmas.List.{length-map}
use Rattle.std.specs.Prelude.{Option, None, Some}
use Rattle.gcode_lines.specs.Job.{JobData, Command, texts_of, most_bytes}
use Rattle.job_desk.specs.Data.{ScriptTexts, File}
use Rattle.job_desk.specs.declared.link_fact.LinkFact.{LinkFact}
use Rattle.job_desk.specs.declared.link_fact.LinkFact.TheVariants as fact
use Rattle.job_desk.specs.Scripts.{own_lines}
use Rattle.print_queue.specs.declared.ending.Ending.{Ending}
use Rattle.printer_model.specs.declared.event.WorldEvent.{WorldEvent}
use Rattle.printer_link.specs.Link.{LinkKind}
use Rattle.send_window.specs.Data.{most_lines}
use Rattle.octo_session.specs.Data.{SessionData, port_of}
use Rattle.octo_session_print.specs.Plan.{PrintData}
use Rattle.octo_session.specs.Plan.{plan}
use Rattle.octo_session_print.specs.OnWay.{plan_length, IsOnWay, dials, LeadsOn}
use Rattle.octo_session.specs.Smooth.{IsSmooth}
use Rattle.octo_session.proofs.Choosing.{dials_at}
use Rattle.octo_session_print.specs.Ends.{IsNew, end_of, desk_after}
use Rattle.octo_session_print.specs.BetweenTurns.{IsDialling}
use Rattle.octo_session_print.specs.Enough.{LeavesOnWay}
use Rattle.octo_session_print.specs.Progress.{after_select}

-- what follows of a turn that leads a print on
pub leads_left : (f : LinkFact) (ending : Option Ending) (kind : LinkKind) (p : PrintData) (poll_ms at left : ℕ) (past : Option (List WorldEvent)) (x : SessionData) →
    LeadsOn f ending kind p poll_ms at left past x → LeavesOnWay (end_of f) kind p poll_ms at left past (record x { desk = desk_after f ending x.desk })
leads_left fact.Opened ending kind p poll_ms at left past x way = way
leads_left fact.Quiet None kind p poll_ms at left past x way = way
leads_left fact.Quiet (Some e) kind p poll_ms at left past x way = way
leads_left fact.Ready ending kind p poll_ms at left past x way = way
leads_left fact.Closed ending kind p poll_ms at left past x way = refl
leads_left fact.NoPort ending kind p poll_ms at left past x way = absurd way
leads_left fact.Failed ending kind p poll_ms at left past x way = absurd way
leads_left (fact.Ended why) ending kind p poll_ms at left past x way = absurd way

-- a plan has fewer lines than a session has numbers: those of a file and of four scripts
pub few_planned : (scripts : ScriptTexts) (job : JobData) → own_lines scripts ≤ 256 → length job.commands ≤ most_bytes →
    length (plan scripts (texts_of job)) + 32 < most_lines
few_planned scripts job own few =
    let front : List (List ℕ) = scripts.connected ++ scripts.started in
    let one = length-append scripts.connected scripts.started in
    let two = length-append front (texts_of job) in
    let three = length-append (front ++ texts_of job) scripts.done in
    let all : length (plan scripts (texts_of job)) ≡ length (front ++ texts_of job ++ scripts.done) + length scripts.disconnect =
    length-append (front ++ texts_of job ++ scripts.done) scripts.disconnect in
    let texts : length (texts_of job) ≡ length job.commands = length-map job.commands (λ (c : Command). c.text) in
    let ours : length scripts.connected + length scripts.started + length scripts.done + length scripts.disconnect ≤ 256 = own in
    omega (arith, one, two, three, all, texts, few, ours)

-- a print that is to dial is on its way
pub sets_out : (kind : LinkKind) (p : PrintData) (past : Option (List WorldEvent)) (before now : ℕ) (clock : Option ℕ) (x : SessionData) →
    x.sender.numbered ≡ false → IsDialling p (port_of x.desk) past past x →
    IsSmooth kind past (port_of x.desk) before now clock x.sender.limit x.desk.poll_ms → plan_length p + 32 < most_lines → (at : ℕ) →
    IsOnWay kind p x.desk.poll_ms at (plan_length p + 12 - 0) past x
sets_out kind p past before now clock x counts d s few at = dials (record {
  dials = d.dials;
  listed = s.listed;
  recorded = s.recorded;
  desk = record { issued = []; course = d.on.course; cool = d.on.cool; its_ms = refl; plain = sym d.on.its_kind ∙ counts };
  connects = dials_at x d.dials;
  counts = counts;
  sound = d.on.sound;
  enough = omega arith;
  few = omega (arith, few);
})

-- what a print makes ready is as smooth as it is
pub smooth_prepared : (kind : LinkKind) (past : Option (List WorldEvent)) (port : List ℕ) (file : File) (before now : ℕ) (clock : Option ℕ) (x y : SessionData) →
    IsNew x → y.desk ≡ after_select port file x.desk → y.sender ≡ x.sender →
    IsSmooth kind past port before now clock x.sender.limit x.desk.poll_ms →
    IsSmooth kind past (port_of y.desk) before now clock y.sender.limit y.desk.poll_ms
smooth_prepared kind past port file before now clock x y new desk sender s =
    let ready = desk ∙ ap (after_select port file) new.its_desk in
    let its_port : port_of y.desk ≡ port = ap port_of ready in
    let limit : y.sender.limit ≡ x.sender.limit = ap (λ t. t.limit) sender in
    let ms : y.desk.poll_ms ≡ x.desk.poll_ms = ap (λ d. d.poll_ms) ready in
    record {
      prompt = s.prompt;
      recorded = s.recorded;
      listed = ap kind.listed its_port ∙ s.listed;
      steady = s.steady;
      unsaturated = record {
        last = s.unsaturated.last;
        shown = s.unsaturated.shown;
        answers = omega (arith, limit, s.unsaturated.answers);
        polls = omega (arith, ms, s.unsaturated.polls);
        some_poll = omega (arith, ms, s.unsaturated.some_poll);
      };
    }
