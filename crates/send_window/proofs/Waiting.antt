-- A session waits five limits for an answer.
use Rattle.std.proofs.Common.{◌≡◌, ◌⊎◌, ℕ, ◌+◌, ◌*◌, ◌<◌, ◌≤◌, false, true, arith}
use Rattle.std.specs.Prelude.{Option, None, Some}
use Rattle.std.proofs.lemmas.Grind.{common_steps}
use Rattle.marlin_reply.specs.declared.reply.Reply.{Reply}
use Rattle.marlin_reply.specs.declared.reply.Reply.TheVariants as reply
use Rattle.send_window.specs.declared.session_end.SessionEnd.TheVariants.{NoAnswer, LostOk}
use Rattle.send_window.specs.declared.session_end.SessionEnd.{SessionEnd}
use Rattle.send_window.specs.Data.{SenderData, IsSound, sender_after_dial}
use Rattle.send_window.specs.Hearing.{later, hear_step, tick_step, heard_reply, unless_ended}
use Rattle.send_window.specs.Session.{Step, hears, ticks, issues, gives, after_step, IsSince, WaitsSince}
use Rattle.send_window.specs.Laws.{WaitsFiveLimits}

-- one limit from a moment that isn't before the start
later_one : (start moment span : ℕ) → start ≤ moment → later start ((0 + 1) * span) ≤ later moment span
unfolding later
later_one start moment span since = omega arith

-- one more limit from a moment at which the others had passed
later_more : (start moment span silent wanted : ℕ) → later start ((silent + 1) * span) ≤ wanted → wanted ≤ moment →
    later start ((silent + 1 + 1) * span) ≤ later moment span
unfolding later
later_more start moment span silent wanted passed due = omega arith

-- several limits are no shorter than one
later_longer : (moment count span : ℕ) → later moment span ≤ later moment ((count + 1) * span)
unfolding later
later_longer moment count span = omega arith

-- the first limit passes no later than one more
later_first : (start span told : ℕ) → later start ((0 + 1) * span) ≤ later start ((told + 1) * span)
unfolding later
later_first start span told = omega arith

begun_waits : (start : ℕ) (s : SenderData) → WaitsSince start (sender_after_dial s)
begun_waits start s = record { long_enough = λ wanted _ none_set. absurd (cc); told_enough = λ wanted _ none_set. absurd (cc) }

-- the told limits of a sender leave room
abbrev WaitsTold : ℕ → SenderData → Type 0
WaitsTold start s = (wanted : ℕ) → s.ended ≡ None → s.deadline ≡ Some wanted → later start ((s.told + 1) * s.limit) ≤ wanted

reply_told : (start : ℕ) (heard_line : Reply) (moment : ℕ) (s : SenderData) → IsSound s → start ≤ moment → WaitsSince start s → WaitsTold start (heard_reply heard_line moment s)
reply_told start (reply.Ok number _ _ _) moment s sound since waits = λ wanted open_still set.
    let one = later_one start moment s.limit since in grind (arith, common_steps, one, waits.told_enough wanted)
reply_told start (reply.Resend number) moment s sound since waits = λ wanted open_still set.
    let one = later_one start moment s.limit since in grind (arith, common_steps, one, waits.told_enough)
reply_told start reply.Start moment s sound since waits = λ wanted open_still set. grind (arith, common_steps, waits.told_enough wanted)
reply_told start reply.Busy moment s sound since waits = λ wanted open_still set.
    omega (arith, later_first start s.limit s.told, waits.told_enough wanted open_still set)
reply_told start (reply.Temps _) moment s sound since waits = λ wanted open_still set. waits.told_enough wanted open_still set
reply_told start reply.Error moment s sound since waits = λ wanted open_still set. waits.told_enough wanted open_still set
reply_told start reply.Other moment s sound since waits = λ wanted open_still set. waits.told_enough wanted open_still set

reply_waits : (start : ℕ) (heard_line : Reply) (moment : ℕ) (s : SenderData) → IsSound s → start ≤ moment → WaitsSince start s → WaitsSince start (heard_reply heard_line moment s)
reply_waits start heard_line moment s sound since waits = record {
  long_enough = λ wanted open_still set. let one = later_one start moment s.limit since in grind (arith, common_steps, one, waits.long_enough wanted);
  told_enough = reply_told start heard_line moment s sound since waits;
}

unless_ended_waits : (start : ℕ) (ended : Option SessionEnd) (after s : SenderData) → WaitsSince start after → WaitsSince start s → WaitsSince start (unless_ended ended after s)
unless_ended_waits start None after s then_waits waits = then_waits
unless_ended_waits start (Some why) after s then_waits waits = waits

tick_waits : (start moment : ℕ) (s : SenderData) → start ≤ moment → WaitsSince start s → WaitsSince start (tick_step moment s)
tick_waits start moment s since waits = record {
  long_enough = λ wanted open_still set. let one = later_one start moment s.limit since in grind (arith, common_steps, one, later_more, later_longer, waits.long_enough);
  told_enough = λ wanted open_still set. let one = later_one start moment s.limit since in grind (arith, common_steps, one, later_more, later_longer, waits.told_enough);
}

give_waits : (start moment : ℕ) (s : SenderData) → IsSound s → start ≤ moment → WaitsSince start s → WaitsSince start (after_step (gives moment) s)
give_waits start moment s sound since waits = record {
  long_enough = λ wanted open_still set. let one = later_one start moment s.limit since in grind (arith, common_steps, one, waits.long_enough);
  told_enough = λ wanted open_still set. let one = later_one start moment s.limit since in grind (arith, common_steps, one, waits.told_enough);
}

step_waits : (start : ℕ) (step : Step) (s : SenderData) → IsSound s → IsSince start step → WaitsSince start s → WaitsSince start (after_step step s)
step_waits start (hears heard_line moment) s sound since waits =
    unless_ended_waits start s.ended (heard_reply heard_line moment s) s (reply_waits start heard_line moment s sound since waits) waits
step_waits start (ticks moment) s sound since waits = tick_waits start moment s since waits
step_waits start (issues text) s sound since waits = record { long_enough = waits.long_enough; told_enough = waits.told_enough }
step_waits start (gives moment) s sound since waits = give_waits start moment s sound since waits

acknowledged_waits : (heard_line : Reply) (moment : ℕ) (s : SenderData) → s.acked < (hear_step heard_line moment s).acked → WaitsSince moment (hear_step heard_line moment s)
acknowledged_waits heard_line moment s rises = record {
  long_enough = λ wanted open_still set. let one = later_one moment moment s.limit (omega arith) in grind (arith, common_steps, one);
  told_enough = λ wanted open_still set. let one = later_one moment moment s.limit (omega arith) in grind (arith, common_steps, one);
}

five_limits : (start moment count : ℕ) (s : SenderData) → IsSound s → WaitsSince start s → s.ended ≡ None → (tick_step moment s).ended ≡ Some (NoAnswer count) →
    (later start (5 * s.limit) ≤ moment) × ((s.ready ≡ false) ⊎ (s.acked < s.issued))
five_limits start moment count s sound waits open_still ends = grind (arith, common_steps, waits.long_enough)

twenty_limits : (start moment limits : ℕ) (s : SenderData) → IsSound s → WaitsSince start s → s.ended ≡ None → (tick_step moment s).ended ≡ Some (LostOk limits) →
    (later start (20 * s.limit) ≤ moment) × (s.ready ≡ true) × (s.acked < s.issued)
twenty_limits start moment limits s sound waits open_still ends = grind (arith, common_steps, waits.told_enough)

pub waits_five_limits : WaitsFiveLimits
waits_five_limits = (begun_waits, step_waits, acknowledged_waits, five_limits, twenty_limits)
