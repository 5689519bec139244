-- The lines that a session acknowledges are the `ok`s that count among its replies.
use Rattle.std.proofs.Common.{◌≡◌, ◌↔◌, ℕ, ◌+◌, ◌-◌, ◌≤◌, Bool, true, false, List, [], ◌∷◌, arith, refl, sym, ◌∙◌, ap}
use Rattle.std.specs.Prelude.{Option, None, Some}
use Rattle.std.proofs.lemmas.Grind.{common_steps}
use Rattle.marlin_reply.specs.declared.reply.Reply.{Reply}
use Rattle.marlin_reply.specs.declared.reply.Reply.TheVariants as reply
use Rattle.marlin_reply.specs.declared.reply.Temps.{Temps}
use Rattle.send_window.specs.declared.session_end.SessionEnd.{SessionEnd}
use Rattle.send_window.specs.Data.{SenderData, sender_after_dial}
use Rattle.send_window.specs.Hearing.{tick_step, heard_reply, heard_ok, ok_in, unless_ended}
use Rattle.send_window.specs.Session.{Step, hears, ticks, issues, gives, after_step, after_steps, replies_of}
use Rattle.send_window.specs.Counting.{is_resend, answers_of, own_oks, last_of, IsAwaited, AreAwaited}
use Rattle.send_window.specs.Laws.{AckedIsCounted, FlagsAreCounted}
use Rattle.send_window.proofs.Sending.{keeps_kind}
use Rattle.send_window.proofs.OwnOks.{former_behind, own_ok, own_oks-cons, last_of-cons}

-- how many `ok`s the hello still takes
abbrev pub owed : Bool → ℕ
owed true = 0
owed false = 1

-- the answer before the next one
abbrev pub former_after : Reply → Step → Reply
former_after former (hears heard_line moment) = former_behind former heard_line
former_after former (ticks moment) = former
former_after former (issues text) = former
former_after former (gives moment) = former

-- the `ok`s of one step that count
abbrev pub own_of : Reply → Step → ℕ
own_of former (hears heard_line moment) = own_ok former heard_line
own_of former (ticks moment) = 0
own_of former (issues text) = 0
own_of former (gives moment) = 0

-- what one step adds to the tally
pub record Adds (own : ℕ) (later former : Reply) (awaited : Type 0) (s after : SenderData) : Type 0 where
  pub swallows : after.ended ≡ None → after.swallow ≡ is_resend later
  pub most : (rest : ℕ) → after.acked + (rest - owed after.ready) ≤ s.acked + (own + rest - owed s.ready)
  pub exact : after.ended ≡ None → awaited → (rest : ℕ) → after.acked + (rest - owed after.ready) ≡ s.acked + (own + rest - owed s.ready)
  pub open_before : after.ended ≡ None → s.ended ≡ None
  pub readies : after.ended ≡ None → owed after.ready ≡ owed s.ready - own

counted_adds : (number p b : Option ℕ) (t : Option Temps) (moment : ℕ) (s : SenderData) (former : Reply) → s.ended ≡ None → s.swallow ≡ is_resend former →
    Adds (own_of former (hears (reply.Ok number p b t) moment)) (reply.Ok number p b t) former (IsAwaited (hears (reply.Ok number p b t) moment) s) s
    (heard_ok s.swallow s.ready number moment s)
counted_adds number p b t moment s former none_yet swallows = record {
  swallows = grind (arith, common_steps);
  most = grind (arith, common_steps);
  exact = grind (arith, common_steps);
  open_before = λ _. none_yet;
  readies = grind (arith, common_steps);
}

ok_adds : (by_number : Bool) (number p b : Option ℕ) (t : Option Temps) (moment : ℕ) (s : SenderData) (former : Reply) → by_number ≡ false → s.ended ≡ None →
    s.swallow ≡ is_resend former →
    Adds (own_of former (hears (reply.Ok number p b t) moment)) (reply.Ok number p b t) former (IsAwaited (hears (reply.Ok number p b t) moment) s) s
    (ok_in by_number number moment s)
ok_adds false number p b t moment s former counted none_yet swallows = counted_adds number p b t moment s former none_yet swallows
ok_adds true number p b t moment s former counted none_yet swallows = absurd (cc)

reply_adds : (heard_line : Reply) (moment : ℕ) (s : SenderData) (former : Reply) → s.numbered ≡ false → s.ended ≡ None → s.swallow ≡ is_resend former →
    Adds (own_of former (hears heard_line moment)) (former_after former (hears heard_line moment)) former (IsAwaited (hears heard_line moment) s) s (heard_reply heard_line moment s)
reply_adds (reply.Ok number p b t) moment s former counted none_yet swallows = ok_adds s.numbered number p b t moment s former counted none_yet swallows
reply_adds (reply.Resend number) moment s former counted none_yet swallows = grind (arith, common_steps)
reply_adds reply.Start moment s former counted none_yet swallows = grind (arith, common_steps)
reply_adds reply.Busy moment s former counted none_yet swallows = grind (arith, common_steps)
reply_adds (reply.Temps _) moment s former counted none_yet swallows = grind (arith, common_steps)
reply_adds reply.Error moment s former counted none_yet swallows = grind (arith, common_steps)
reply_adds reply.Other moment s former counted none_yet swallows = grind (arith, common_steps)

unless_ended_adds : (ended : Option SessionEnd) (own : ℕ) (later former : Reply) (awaited : Type 0) (after s : SenderData) → s.ended ≡ ended →
    (ended ≡ None → Adds own later former awaited s after) → Adds own later former awaited s (unless_ended ended after s)
unless_ended_adds None own later former awaited after s e adds = adds refl
unless_ended_adds (Some why) own later former awaited after s e adds = record {
  swallows = λ (open_still : s.ended ≡ None). absurd (cc);
  most = λ rest. omega arith;
  exact = λ (open_still : s.ended ≡ None) _ rest. absurd (cc);
  open_before = λ open_still. open_still;
  readies = λ (open_still : s.ended ≡ None). absurd (cc);
}

tick_adds : (moment : ℕ) (s : SenderData) (former : Reply) → (s.ended ≡ None → s.swallow ≡ is_resend former) →
    Adds 0 former former (Unit {0}) s (tick_step moment s)
tick_adds moment s former swallows = grind (arith, common_steps)

give_adds : (moment : ℕ) (s : SenderData) (former : Reply) → (s.ended ≡ None → s.swallow ≡ is_resend former) →
    Adds 0 former former (Unit {0}) s (after_step (gives moment) s)
give_adds moment s former swallows = grind (arith, common_steps)

issue_adds : (text : List ℕ) (s : SenderData) (former : Reply) → (s.ended ≡ None → s.swallow ≡ is_resend former) →
    Adds 0 former former (Unit {0}) s (after_step (issues text) s)
issue_adds text s former swallows = grind (arith, common_steps)

step_adds : (step : Step) (s : SenderData) (former : Reply) → s.numbered ≡ false → (s.ended ≡ None → s.swallow ≡ is_resend former) →
    Adds (own_of former step) (former_after former step) former (IsAwaited step s) s (after_step step s)
step_adds (hears heard_line moment) s former counted swallows =
    unless_ended_adds s.ended _ _ former _ (heard_reply heard_line moment s) s refl
    (λ none_yet. reply_adds heard_line moment s former counted none_yet (swallows none_yet))
step_adds (ticks moment) s former counted swallows = tick_adds moment s former swallows
step_adds (issues text) s former counted swallows = issue_adds text s former swallows
step_adds (gives moment) s former counted swallows = give_adds moment s former swallows

-- the tally of a list is the tally of its first step and of the others
first_counts : (step : Step) (steps : List Step) (former : Reply) →
    own_oks former (replies_of (step ∷ steps)) ≡ own_of former step + own_oks (former_after former step) (replies_of steps)
first_counts (hears heard_line moment) steps former = own_oks-cons former heard_line (replies_of steps)
first_counts (ticks moment) steps former = omega arith
first_counts (issues text) steps former = omega arith
first_counts (gives moment) steps former = omega arith

-- the last answer of a list is the last one of the others, after the first step's
first_former : (step : Step) (steps : List Step) (former : Reply) →
    last_of former (answers_of (replies_of (step ∷ steps))) ≡ last_of (former_after former step) (answers_of (replies_of steps))
first_former (hears heard_line moment) steps former = last_of-cons former heard_line (replies_of steps)
first_former (ticks moment) steps former = refl
first_former (issues text) steps former = refl
first_former (gives moment) steps former = refl

-- the tally of steps from any state
record Tally (steps : List Step) (former : Reply) (s : SenderData) : Type 0 where
  most : (after_steps steps s).acked ≤ s.acked + (own_oks former (replies_of steps) - owed s.ready)
  exact : (after_steps steps s).ended ≡ None → AreAwaited steps s → (after_steps steps s).acked ≡ s.acked + (own_oks former (replies_of steps) - owed s.ready)
  open_before : (after_steps steps s).ended ≡ None → s.ended ≡ None
  swallows : (after_steps steps s).ended ≡ None → (after_steps steps s).swallow ≡ is_resend (last_of former (answers_of (replies_of steps)))
  readies : (after_steps steps s).ended ≡ None → owed (after_steps steps s).ready ≡ owed s.ready - own_oks former (replies_of steps)

none_tally : (former : Reply) (s : SenderData) → (s.ended ≡ None → s.swallow ≡ is_resend former) → Tally [] former s
none_tally former s swallows = record {
  most = omega arith;
  exact = λ _ _. omega arith;
  open_before = λ e. e;
  swallows = swallows;
  readies = λ _. omega arith;
}

more_tally : (step : Step) (steps : List Step) (former : Reply) (s : SenderData) →
    Adds (own_of former step) (former_after former step) former (IsAwaited step s) s (after_step step s) →
    Tally steps (former_after former step) (after_step step s) → Tally (step ∷ steps) former s
more_tally step steps former s adds rest = record {
  most = omega (arith, rest.most, adds.most (own_oks (former_after former step) (replies_of steps)), first_counts step steps former);
  exact = λ open_still awaited.
      omega (arith, rest.exact open_still awaited.1, adds.exact (rest.open_before open_still) awaited.0 (own_oks (former_after former step) (replies_of steps)), first_counts step steps former);
  open_before = λ open_still. adds.open_before (rest.open_before open_still);
  swallows = λ open_still. rest.swallows open_still ∙ ap is_resend (sym (first_former step steps former));
  readies = λ open_still.
      omega (arith, rest.readies open_still, adds.readies (rest.open_before open_still), first_counts step steps former);
}

steps_tally : (steps : List Step) (former : Reply) (s : SenderData) → s.numbered ≡ false → (s.ended ≡ None → s.swallow ≡ is_resend former) → Tally steps former s
steps_tally [] former s counted swallows = none_tally former s swallows
steps_tally (step ∷ steps) former s counted swallows =
    let adds = step_adds step s former counted swallows in
    more_tally step steps former s adds (steps_tally steps (former_after former step) (after_step step s) (keeps_kind step s ∙ counted) adds.swallows)

pub acked_is_counted : AckedIsCounted
acked_is_counted steps s counted =
    let tally = steps_tally steps reply.Start (sender_after_dial s) counted (λ _. refl) in
    (omega (arith, tally.most), λ open_still awaited. omega (arith, tally.exact open_still awaited))

owed_false : (b : Bool) (n : ℕ) → owed b ≡ 1 - n → (b ≡ true) ↔ (1 ≤ n)
owed_false true n e = (λ _. omega arith, λ _. refl)
owed_false false n e = (λ h. absurd (cc), λ h. absurd (omega arith))

pub flags_are_counted : FlagsAreCounted
flags_are_counted steps s counted open_still =
    let tally = steps_tally steps reply.Start (sender_after_dial s) counted (λ _. refl) in
    (tally.swallows open_still, owed_false _ _ (tally.readies open_still))
