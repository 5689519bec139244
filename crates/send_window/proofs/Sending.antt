-- What goes out, what a Resend and the clock leave, and which texts may be issued.
use Rattle.std.proofs.Common.{◌≡◌, ℕ, false, true, arith, rules, ◌∙◌}
use Rattle.std.specs.Prelude.{None}
use Rattle.std.proofs.lemmas.Grind.{common_steps}
use Rattle.marlin_reply.specs.declared.reply.Reply.{Reply}
use Rattle.marlin_reply.specs.declared.reply.Reply.TheVariants as reply
use Rattle.send_window.specs.Counting.{is_ok}
use Rattle.send_window.specs.Data.{SenderData}
use Rattle.send_window.specs.Hearing.{hear_step}
use Rattle.send_window.specs.Laws.{GivesNothing, ResendKeepsAcked, CarriesSendable, KeepsAllLines, KeepsKind}
use Rattle.send_window.specs.Session.{hears, ticks, issues, gives}

pub gives_nothing : GivesNothing
gives_nothing s = search rules

resend_keeps : (number moment : ℕ) (s : SenderData) → (hear_step (reply.Resend number) moment s).acked ≡ s.acked
resend_keeps number moment s = grind (arith, common_steps)

-- after a Resend the session has ended or an `ok` is passed over
resend_swallows : (number moment : ℕ) (s : SenderData) → s.numbered ≡ false → (hear_step (reply.Resend number) moment s).ended ≡ None →
    ((hear_step (reply.Resend number) moment s).numbered ≡ false) × ((hear_step (reply.Resend number) moment s).swallow ≡ true)
resend_swallows number moment s counted open_still = grind (arith, common_steps)

swallowed_keeps : (heard_line : Reply) (moment : ℕ) (s : SenderData) → (s.ended ≡ None → (s.numbered ≡ false) × (s.swallow ≡ true)) → is_ok heard_line ≡ true →
    (hear_step heard_line moment s).acked ≡ s.acked
swallowed_keeps heard_line moment s swallows ok = grind (arith, common_steps)

after_resend : (number moment later_moment : ℕ) (s : SenderData) (heard_line : Reply) → s.numbered ≡ false → is_ok heard_line ≡ true →
    (hear_step heard_line later_moment (hear_step (reply.Resend number) moment s)).acked ≡ s.acked
after_resend number moment later_moment s heard_line counted ok =
    swallowed_keeps heard_line later_moment (hear_step (reply.Resend number) moment s) (resend_swallows number moment s counted) ok ∙ resend_keeps number moment s

pub resend_keeps_acked : ResendKeepsAcked
resend_keeps_acked number moment s = (resend_keeps number moment s, λ heard_line later_moment counted ok. after_resend number moment later_moment s heard_line counted ok)

pub carries_sendable : CarriesSendable
carries_sendable text h = record { some = h.some; short = h.short; no_star = h.no_star; no_line_feed = h.no_line_feed }

pub keeps_all_lines : KeepsAllLines
keeps_all_lines moment s = search rules

pub keeps_kind : KeepsKind
keeps_kind (hears heard_line moment) s = grind (arith, common_steps)
keeps_kind (ticks moment) s = grind (arith, common_steps)
keeps_kind (issues text) s = grind (arith, common_steps)
keeps_kind (gives moment) s = grind (arith, common_steps)
