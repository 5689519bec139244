use Rattle.std.proofs.Common.{inr, ◌≡◌, ◌+◌, map, sym, ap, subst, ◌∙◌, arith}
use Rattle.job_desk.specs.Data.{Data}
use Rattle.job_desk.specs.Pull.{next_number}
use Rattle.job_desk.specs.Issued.{line_of}
use Rattle.send_window.specs.Data.{SenderData, NoneEarly}
use Rattle.send_window.specs.Sending.{room_of, push_step}
use Rattle.octo_session.proofs.Counts.{counted_pull, pull_some}
use Rattle.octo_session.proofs.Desk.{issues_none, pull_again, pull_idle, pull_settles, pulled_by, pulls_next, issuing_next}
use Rattle.octo_session.proofs.Keeping.{room_early, room_push}
use Rattle.octo_session.proofs.open_turn.pull_more.Goals as goal

pub returns-then-not-pull_one-clause-spent : goal.returns-then-not-pull_one-clause-spent
returns-then-not-pull_one-clause-spent c =
    let i = c.loop.invariant in
    inr (pull_again c.args.moment c.loop.desk c.pull_one.new.desk i.is_settled (sym c.pull_one.ensures.answer ∙ c.if-not-pull_one.true)
    c.pull_one.ensures.after)

pub returns-then-not-pull_one-clause-issued : goal.returns-then-not-pull_one-clause-issued
returns-then-not-pull_one-clause-issued c =
    let i = c.loop.invariant in
    let e = c.pull_one.ensures in
    let none = sym e.answer ∙ c.if-not-pull_one.true in
    ap (λ (d : Data). d.issued) (pull_idle c.args.moment c.loop.desk c.pull_one.new.desk i.is_settled none e.after) ∙ i.issued
    ∙ sym (ap (λ (s : SenderData). s.issued) (issues_none c.args.moment c.loop.desk c.loop.sender c.pull_one.new.sender none e.steps))

pub returns-then-not-pull_one-clause-acked : goal.returns-then-not-pull_one-clause-acked
returns-then-not-pull_one-clause-acked c =
    let i = c.loop.invariant in
    let e = c.pull_one.ensures in
    ap (λ (d : Data). d.acked) (pull_idle c.args.moment c.loop.desk c.pull_one.new.desk i.is_settled (sym e.answer ∙ c.if-not-pull_one.true) e.after) ∙ i.acked

pub returns-then-not-pull_one-clause-early : goal.returns-then-not-pull_one-clause-early
returns-then-not-pull_one-clause-early c early =
    let e = c.pull_one.ensures in
    subst NoneEarly (sym (issues_none c.args.moment c.loop.desk c.loop.sender c.pull_one.new.sender (sym e.answer ∙ c.if-not-pull_one.true) e.steps)) (c.loop.invariant.early early)

pub loop-preserved : goal.loop-preserved
loop-preserved c =
    let i = c.loop.invariant in
    let e = c.pull_one.ensures in
    let some = sym e.answer ∙ c.if-not-pull_one.false in
    let one = pulled_by c.args.moment c.loop.desk c.loop.sender c.pull_one.new.sender some e.steps in
    let room : room_of (push_step one.line.text c.loop.sender) + 1 ≡ room_of c.loop.sender =
    room_push one.line.text c.loop.sender i.sound (omega (arith, i.room, c.loop-test.true, c.room-end.ensures.room)) in
    let room_after : room_of c.pull_one.new.sender ≡ room_of (push_step one.line.text c.loop.sender) = ap room_of one.pushed in
    let counted : c.pull_one.new.desk.issued ≡ next_number c.loop.desk.issued = ap (λ (d : Data). d.issued) e.after
    ∙ pull_some c.args.moment c.loop.desk one.line one.drew in
    let pushed : c.pull_one.new.sender.issued ≡ c.loop.sender.issued + 1 = ap (λ (s : SenderData). s.issued) one.pushed in
    record {
      pulls = pulls_next c.args.moment (map line_of c.loop.lines.items) (map line_of c.pull_one.new.lines.items) c.args.desk.now c.loop.desk c.pull_one.new.desk
          one.line i.pulls one.drew e.after e.lines;
      steps = issuing_next c.args.moment (map line_of c.loop.lines.items) (map line_of c.pull_one.new.lines.items) c.loop.desk c.args.sender.now c.loop.sender
          c.pull_one.new.sender i.steps e.steps e.lines;
      count = e.count c.if-not-pull_one.false ∙ ap (λ n. n + 1) i.count;
      room = omega (arith, room, room_after, i.room);
      sound = e.sound;
      issued = omega (arith, counted, pushed, i.issued, i.sound.few);
      acked = ap (λ (d : Data). d.acked) e.after ∙ (counted_pull c.args.moment c.loop.desk).acked ∙ i.acked;
      is_settled = pull_settles c.args.moment c.loop.desk c.pull_one.new.desk e.after;
      early = λ _. subst NoneEarly (sym one.pushed)
          (room_early one.line.text c.loop.sender (omega (arith, i.room, c.loop-test.true, c.room-end.ensures.room)));
    }
