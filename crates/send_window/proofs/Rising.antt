-- When the count of acknowledged lines rises.
use Rattle.std.proofs.Common.{◌≡◌, ℕ, ◌+◌, ◌<◌, ◌≤◌, Bool, true, false, arith, refl}
use Rattle.std.specs.Prelude.{Option, None, Some}
use Rattle.std.proofs.lemmas.Grind.{common_steps}
use Rattle.marlin_reply.specs.declared.reply.Reply.{Reply}
use Rattle.marlin_reply.specs.declared.reply.Reply.TheVariants as reply
use Rattle.marlin_reply.specs.declared.reply.Temps.{Temps}
use Rattle.send_window.specs.declared.session_end.SessionEnd.{SessionEnd}
use Rattle.send_window.specs.Data.{SenderData}
use Rattle.send_window.specs.Hearing.{hear_step, tick_step, heard_reply, heard_ok, ok_named, ok_in, heard_resend, heard_start, after_hearing, after_busy, unless_ended}
use Rattle.send_window.specs.Sending.{push_step, frame_step}
use Rattle.send_window.specs.Session.{Step, hears, ticks, issues, gives}
use Rattle.send_window.specs.Laws.{is_counted, IsOkOf, AckedRises}

-- what the law says of a step that leaves this sender
record Rises (step : Step) (s after : SenderData) : Type 0 where
  grows : s.acked ≤ after.acked
  by_one : s.numbered ≡ false → after.acked ≤ s.acked + 1
  counted : s.numbered ≡ false → is_counted step s ≡ false → after.acked ≡ s.acked
  named : s.numbered ≡ true → s.acked < after.acked → IsOkOf after.acked step × (after.acked ≤ s.issued)

-- a step that acknowledges nothing
stays : (step : Step) (s after : SenderData) → after.acked ≡ s.acked → Rises step s after
stays step s after same = record {
  grows = omega (arith, same);
  by_one = λ _. omega (arith, same);
  counted = λ _ _. same;
  named = λ _ more. absurd (omega (arith, same, more));
}

counted_rises : (number p b : Option ℕ) (t : Option Temps) (moment : ℕ) (s : SenderData) → s.numbered ≡ false →
    Rises (hears (reply.Ok number p b t) moment) s (heard_ok s.swallow s.ready number moment s)
counted_rises number p b t moment s kind = record {
  grows = grind (arith, common_steps);
  by_one = λ _. grind (arith, common_steps);
  counted = λ _ uncounted. grind (arith, common_steps);
  named = λ (names : s.numbered ≡ true) _. absurd (cc);
}

named_rises : (number p b : Option ℕ) (t : Option Temps) (moment : ℕ) (s : SenderData) → s.numbered ≡ true →
    Rises (hears (reply.Ok number p b t) moment) s (ok_named s.ready number moment s)
named_rises number p b t moment s kind = record {
  grows = grind (arith, common_steps);
  by_one = λ (counts : s.numbered ≡ false). absurd (cc);
  counted = λ (counts : s.numbered ≡ false) _. absurd (cc);
  named = λ _ more. grind (arith, common_steps);
}

ok_rises : (by_number : Bool) (number p b : Option ℕ) (t : Option Temps) (moment : ℕ) (s : SenderData) → s.numbered ≡ by_number →
    Rises (hears (reply.Ok number p b t) moment) s (ok_in by_number number moment s)
ok_rises false number p b t moment s kind = counted_rises number p b t moment s kind
ok_rises true number p b t moment s kind = named_rises number p b t moment s kind

reply_rises : (heard_line : Reply) (moment : ℕ) (s : SenderData) → Rises (hears heard_line moment) s (heard_reply heard_line moment s)
reply_rises (reply.Ok number p b t) moment s = ok_rises s.numbered number p b t moment s refl
reply_rises (reply.Resend number) moment s = stays (hears (reply.Resend number) moment) s (heard_resend s.ready number moment s) (grind (arith, common_steps))
reply_rises reply.Start moment s = stays (hears reply.Start moment) s (heard_start s.ready s) (grind (arith, common_steps))
reply_rises reply.Busy moment s = stays (hears reply.Busy moment) s (after_busy s) refl
reply_rises (reply.Temps temps) moment s = stays (hears (reply.Temps temps) moment) s (after_hearing s) refl
reply_rises reply.Error moment s = stays (hears reply.Error moment) s (after_hearing s) refl
reply_rises reply.Other moment s = stays (hears reply.Other moment) s (after_hearing s) refl

ended_rises : (ended : Option SessionEnd) (step : Step) (s after : SenderData) → Rises step s after → Rises step s (unless_ended ended after s)
ended_rises None step s after rises = rises
ended_rises (Some why) step s after rises = stays step s s refl

-- the law's four parts
parts : (step : Step) (s after : SenderData) → Rises step s after →
    (s.acked ≤ after.acked) × (s.numbered ≡ false → after.acked ≤ s.acked + 1)
    × (s.numbered ≡ false → is_counted step s ≡ false → after.acked ≡ s.acked)
    × (s.numbered ≡ true → s.acked < after.acked → IsOkOf after.acked step × (after.acked ≤ s.issued))
parts step s after rises = (rises.grows, rises.by_one, rises.counted, rises.named)

pub acked_rises : AckedRises
acked_rises (hears heard_line moment) s =
    parts (hears heard_line moment) s (hear_step heard_line moment s)
    (ended_rises s.ended (hears heard_line moment) s (heard_reply heard_line moment s) (reply_rises heard_line moment s))
acked_rises (ticks moment) s = parts (ticks moment) s (tick_step moment s) (stays (ticks moment) s (tick_step moment s) (grind (arith, common_steps)))
acked_rises (issues text) s = parts (issues text) s (push_step text s) (stays (issues text) s (push_step text s) refl)
acked_rises (gives moment) s = parts (gives moment) s (frame_step moment s) (stays (gives moment) s (frame_step moment s) (grind (arith, common_steps)))
