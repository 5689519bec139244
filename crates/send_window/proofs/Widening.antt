-- When more lines than the window may be unacknowledged.
use Rattle.std.proofs.Common.{◌≡◌, ◌≢◌, ◌⊎◌, inl, ℕ, ◌+◌, ◌<◌, Bool, true, false, arith, refl}
use Rattle.std.specs.Prelude.{Option, None, Some}
use Rattle.std.proofs.lemmas.Grind.{common_steps}
use Rattle.marlin_reply.specs.declared.reply.Reply.{Reply}
use Rattle.marlin_reply.specs.declared.reply.Reply.TheVariants as reply
use Rattle.send_window.specs.declared.session_end.SessionEnd.{SessionEnd}
use Rattle.send_window.specs.Data.{SenderData, IsSound}
use Rattle.send_window.specs.Hearing.{tick_step, heard_reply, heard_ok, ok_in, heard_resend, heard_start, after_hearing, after_busy, unless_ended}
use Rattle.send_window.specs.Sending.{push_step, frame_step}
use Rattle.send_window.specs.Session.{Step, hears, ticks, issues, gives}
use Rattle.send_window.specs.Laws.{IsRetold, ExtraIsGiven}

-- what the law says of a step that leaves this sender
abbrev IsGivenSo : Step → SenderData → SenderData → Type 0
IsGivenSo step s after =
    after.extra ≢ s.extra →
    (s.numbered ≡ true)
    × (((s.acked < after.acked) × (after.extra ≡ 0)) ⊎ (IsRetold step s × (after.extra ≡ s.extra + 1) × (after.doubts ≡ false)))

same_extra : (step : Step) (s after : SenderData) → after.extra ≡ s.extra → IsGivenSo step s after
same_extra step s after same other = absurd (other same)

ok_given : (by_number : Bool) (number p b : Option ℕ) (step : Step) (moment : ℕ) (s : SenderData) → s.numbered ≡ by_number → s.ended ≡ None →
    IsGivenSo step s (ok_in by_number number moment s)
ok_given false number p b step moment s kind none_yet = same_extra step s (heard_ok s.swallow s.ready number moment s) (grind (arith, common_steps))
ok_given true number p b step moment s kind none_yet = λ other. (kind, inl (grind (arith, common_steps)))

resend_given : (number moment : ℕ) (s : SenderData) → IsSound s → s.ended ≡ None → IsGivenSo (hears (reply.Resend number) moment) s (heard_resend s.ready number moment s)
resend_given number moment s sound none_yet = λ other. grind (arith, common_steps)

reply_given : (heard_line : Reply) (moment : ℕ) (s : SenderData) → IsSound s → s.ended ≡ None → IsGivenSo (hears heard_line moment) s (heard_reply heard_line moment s)
reply_given (reply.Ok number p b t) moment s sound none_yet = ok_given s.numbered number p b (hears (reply.Ok number p b t) moment) moment s refl none_yet
reply_given (reply.Resend number) moment s sound none_yet = resend_given number moment s sound none_yet
reply_given reply.Start moment s sound none_yet = same_extra (hears reply.Start moment) s (heard_start s.ready s) (grind (arith, common_steps))
reply_given reply.Busy moment s sound none_yet = same_extra (hears reply.Busy moment) s (after_busy s) refl
reply_given (reply.Temps temps) moment s sound none_yet = same_extra (hears (reply.Temps temps) moment) s (after_hearing s) refl
reply_given reply.Error moment s sound none_yet = same_extra (hears reply.Error moment) s (after_hearing s) refl
reply_given reply.Other moment s sound none_yet = same_extra (hears reply.Other moment) s (after_hearing s) refl

ended_given : (ended : Option SessionEnd) (step : Step) (s after : SenderData) → (ended ≡ None → IsGivenSo step s after) → IsGivenSo step s (unless_ended ended after s)
ended_given None step s after given = given refl
ended_given (Some why) step s after given = same_extra step s s refl

pub extra_is_given : ExtraIsGiven
extra_is_given (hears heard_line moment) s sound =
    ended_given s.ended (hears heard_line moment) s (heard_reply heard_line moment s) (λ none_yet. reply_given heard_line moment s sound none_yet)
extra_is_given (ticks moment) s sound = same_extra (ticks moment) s (tick_step moment s) (grind (arith, common_steps))
extra_is_given (issues text) s sound = same_extra (issues text) s (push_step text s) refl
extra_is_given (gives moment) s sound = same_extra (gives moment) s (frame_step moment s) (grind (arith, common_steps))
