-- No step of a sender breaks what holds of it between its calls.
use Rattle.std.proofs.Common.{◌≡◌, ℕ, ◌+◌, ◌-◌, ◌<◌, ◌≤◌, nat_lt, nat_le, Bool, not, false, true, List, arith, refl, rules}
use Rattle.std.specs.Prelude.{Option, None, Some, ◌&&◌, ◌||◌, ◌==◌, if◌then◌else◌}
use Rattle.std.proofs.lemmas.Bool.{cond_both}
use Rattle.std.proofs.lemmas.Grind.{common_steps}
use Rattle.marlin_reply.specs.declared.reply.Reply.{Reply}
use Rattle.marlin_reply.specs.declared.reply.Reply.TheVariants as reply
use Rattle.send_window.specs.declared.session_end.SessionEnd.{SessionEnd}
use Rattle.send_window.specs.declared.session_end.SessionEnd.TheVariants.{NoAnswer, LostOk, AskedBack, AskedAhead, Counts}
use Rattle.marlin_frame.specs.Numbering.{wire_number, place_of}
use Rattle.send_window.specs.Data.{SenderData, IsSound, new_sender, sender_after_dial, most_silent, most_told}
use Rattle.send_window.specs.Hearing.{acknowledged, line_ok, named_ok, extra_after, has_all, is_repeated, line_asked, resend_asked, renewed, deadline_at, hear_step, tick_step, heard_reply, heard_ok, ok_named, ok_in, heard_resend, heard_start, after_hearing, after_busy, unless_ended, ended_by, later, is_past, silent_limits, told_limits, due_again, wait_after, limit_passed, ticked}
use Rattle.send_window.specs.Sending.{last_room_of}
use Rattle.send_window.specs.Laws.{StaysSound}
use Rattle.send_window.specs.Session.{Step, hears, ticks, issues, gives, after_step, IsAllowed}

pub new_sound : (w l : ℕ) (by_number : Bool) → 1 ≤ w → w ≤ 16 → 1 ≤ l → IsSound (new_sender w by_number l)
new_sound w l by_number some most span = search rules

pub begun_sound : (s : SenderData) → IsSound s → IsSound (sender_after_dial s)
begun_sound s sound = search rules

marked_sound : (s : SenderData) → IsSound s → IsSound (after_hearing s)
marked_sound s sound = grind (arith, common_steps)

next_sound : (moment : ℕ) (s : SenderData) → s.numbered ≡ false → s.ready ≡ true → s.ended ≡ None → s.acked < s.issued → IsSound s → IsSound (acknowledged moment s)
next_sound moment s kind is none_yet unmet sound = grind (arith, common_steps)

line_ok_sound : (moment : ℕ) (s : SenderData) → s.numbered ≡ false → s.ready ≡ true → s.ended ≡ None → IsSound s → IsSound (line_ok moment s)
line_ok_sound moment s kind is none_yet sound =
    let P : SenderData → Type 0 = λ t. IsSound t in
    cond_both (nat_lt s.acked s.issued) (acknowledged moment s) (after_hearing s) P
    (λ unmet. next_sound moment s kind is none_yet (grind (arith, common_steps)) sound) (λ _. marked_sound s sound)

named_ok_sound : (number : Option ℕ) (moment : ℕ) (s : SenderData) → s.numbered ≡ false → s.ready ≡ true → s.ended ≡ None → IsSound s →
    IsSound (named_ok number moment s)
named_ok_sound None moment s kind is none_yet sound = line_ok_sound moment s kind is none_yet sound
named_ok_sound (Some number) moment s kind is none_yet sound =
    let P : SenderData → Type 0 = λ t. IsSound t in
    let other : SenderData = ended_by (Counts number (wire_number (s.acked + 1))) s in
    cond_both (number == wire_number (s.acked + 1)) (line_ok moment s) other P
    (λ _. line_ok_sound moment s kind is none_yet sound) (λ _. grind (arith, common_steps))

counted_by : (swallow ready : Bool) (number : Option ℕ) (moment : ℕ) (s : SenderData) → s.numbered ≡ false → s.swallow ≡ swallow → s.ready ≡ ready → s.ended ≡ None →
    IsSound s → IsSound (heard_ok swallow ready number moment s)
counted_by true true number moment s kind swallows is none_yet sound = grind (arith, common_steps)
counted_by true false number moment s kind swallows is none_yet sound = grind (arith, common_steps)
counted_by false false number moment s kind swallows is none_yet sound = grind (arith, common_steps)
counted_by false true number moment s kind swallows is none_yet sound = named_ok_sound number moment s kind is none_yet sound

named_by : (ready : Bool) (number : Option ℕ) (moment : ℕ) (s : SenderData) → s.numbered ≡ true → s.ready ≡ ready → s.ended ≡ None → IsSound s →
    IsSound (ok_named ready number moment s)
named_by false number moment s kind is none_yet sound = grind (arith, common_steps)
named_by true number moment s kind is none_yet sound = grind (arith, common_steps)

ok_sound : (by_number : Bool) (number : Option ℕ) (moment : ℕ) (s : SenderData) → s.numbered ≡ by_number → s.ended ≡ None → IsSound s →
    IsSound (ok_in by_number number moment s)
ok_sound false number moment s kind none_yet sound = counted_by s.swallow s.ready number moment s kind refl refl none_yet sound
ok_sound true number moment s kind none_yet sound = named_by s.ready number moment s kind refl none_yet sound

-- a Resend of a line, but for the room that it may give
abbrev gone_back : ℕ → ℕ → SenderData → SenderData
gone_back place moment s = record s {
  swallow = not s.numbered;
  cursor = if is_repeated place s then s.cursor else place;
  asked = place;
  left = if is_repeated place s then s.left - 1 else s.sent - place;
  deadline = renewed s.deadline (deadline_at moment s.limit s.acked s.issued);
  silent = 0;
  heard = false;
  asked_anew = true;
}

gone_back_sound : (place moment : ℕ) (numbered : Bool) (s : SenderData) → s.numbered ≡ numbered → s.ready ≡ true → s.ended ≡ None → s.acked < place →
    place ≤ s.issued + 1 → IsSound s → IsSound (gone_back place moment s)
gone_back_sound place moment true s kind is none_yet above within sound = grind (arith, common_steps)
gone_back_sound place moment false s kind is none_yet above within sound = grind (arith, common_steps)

widened_sound : (place : ℕ) (numbered : Bool) (s : SenderData) → s.numbered ≡ numbered → s.ready ≡ true → s.ended ≡ None → IsSound s →
    IsSound (record s { extra = extra_after place s; doubts = s.doubts && not (has_all place s) })
widened_sound place true s kind is none_yet sound = grind (arith, common_steps)
widened_sound place false s kind is none_yet sound = grind (arith, common_steps)

line_asked_sound : (place moment : ℕ) (s : SenderData) → s.ready ≡ true → s.ended ≡ None → s.acked < place → place ≤ s.issued + 1 → IsSound s →
    IsSound (line_asked place moment s)
line_asked_sound place moment s is none_yet above within sound =
    let wider : SenderData = record s { extra = extra_after place s; doubts = s.doubts && not (has_all place s) } in
    gone_back_sound place moment s.numbered wider refl is none_yet above within (widened_sound place s.numbered s refl is none_yet sound)

asked_sound : (number moment : ℕ) (s : SenderData) → s.ready ≡ true → s.ended ≡ None → IsSound s → IsSound (resend_asked number moment s)
asked_sound number moment s is none_yet sound =
    let P : SenderData → Type 0 = λ t. IsSound t in
    let back : SenderData = ended_by (AskedBack number (wire_number s.acked)) (record s { swallow = not s.numbered }) in
    let ahead : SenderData = ended_by (AskedAhead number (wire_number s.issued)) (record s { swallow = not s.numbered }) in
    let asked : SenderData = line_asked (place_of number) moment s in
    cond_both (nat_le number (wire_number s.acked)) back (if nat_lt (wire_number (s.issued + 1)) number then ahead else asked) P (λ old. grind (arith, common_steps))
    (λ fresh. cond_both (nat_lt (wire_number (s.issued + 1)) number) ahead asked P (λ far. grind (arith, common_steps))
    (λ near. line_asked_sound (place_of number) moment s is none_yet (grind (arith, common_steps)) (grind (arith, common_steps)) sound))

resend_by : (ready numbered : Bool) (number moment : ℕ) (s : SenderData) → s.ready ≡ ready → s.numbered ≡ numbered → s.ended ≡ None → IsSound s →
    IsSound (heard_resend ready number moment s)
resend_by true numbered number moment s is kind none_yet sound = asked_sound number moment s is none_yet sound
resend_by false true number moment s is kind none_yet sound = grind (arith, common_steps)
resend_by false false number moment s is kind none_yet sound = grind (arith, common_steps)

resend_sound : (number moment : ℕ) (s : SenderData) → s.ended ≡ None → IsSound s → IsSound (heard_resend s.ready number moment s)
resend_sound number moment s none_yet sound = resend_by s.ready s.numbered number moment s refl refl none_yet sound

start_sound : (s : SenderData) → s.ended ≡ None → IsSound s → IsSound (heard_start s.ready s)
start_sound s none_yet sound = grind (arith, common_steps)

busy_sound : (s : SenderData) → IsSound s → IsSound (after_busy s)
busy_sound s sound = grind (arith, common_steps)

reply_sound : (heard_line : Reply) (moment : ℕ) (s : SenderData) → s.ended ≡ None → IsSound s → IsSound (heard_reply heard_line moment s)
reply_sound (reply.Ok number _ _ _) moment s none_yet sound = ok_sound s.numbered number moment s refl none_yet sound
reply_sound (reply.Resend number) moment s none_yet sound = resend_sound number moment s none_yet sound
reply_sound reply.Start moment s none_yet sound = start_sound s none_yet sound
reply_sound reply.Busy moment s none_yet sound = busy_sound s sound
reply_sound (reply.Temps _) moment s none_yet sound = marked_sound s sound
reply_sound reply.Error moment s none_yet sound = marked_sound s sound
reply_sound reply.Other moment s none_yet sound = marked_sound s sound

unless_ended_sound : (ended : Option SessionEnd) (after s : SenderData) → (ended ≡ None → IsSound after) → IsSound s → IsSound (unless_ended ended after s)
unless_ended_sound None after s then_sound sound = then_sound refl
unless_ended_sound (Some why) after s then_sound sound = sound

pub hears_sound : (heard_line : Reply) (moment : ℕ) (s : SenderData) → IsSound s → IsSound (hear_step heard_line moment s)
hears_sound heard_line moment s sound =
    unless_ended_sound s.ended (heard_reply heard_line moment s) s (λ e. reply_sound heard_line moment s e sound) sound

-- a limit passed, and the session goes on
abbrev waits : ℕ → ℕ → ℕ → SenderData → SenderData
waits moment silent told s = record s {
  silent = silent;
  asked_anew = false;
  told = told;
  cursor = if s.ready then s.acked + 1 else s.cursor;
  left = if s.ready then 0 else s.left;
  doubts = s.doubts || (s.numbered && s.ready);
  hello_due = due_again s;
  heard = false;
  deadline = Some (later moment (wait_after silent s));
}

waits_sound : (moment silent told : ℕ) (ready : Bool) (s : SenderData) → s.ready ≡ ready → silent < most_silent → told < most_told → (s.ready ≡ false → told ≡ 0) →
    s.ended ≡ None → is_past s.deadline moment ≡ true → IsSound s → IsSound (waits moment silent told s)
waits_sound moment silent told true s is few fewer none none_yet past sound = grind (arith, common_steps)
waits_sound moment silent told false s is few fewer none none_yet past sound = grind (arith, common_steps)

silent_few : (s : SenderData) → IsSound s → s.ended ≡ None → (silent_limits s == most_silent) ≡ false → silent_limits s < most_silent
silent_few s sound none_yet other = grind (arith, common_steps)

told_few : (s : SenderData) → IsSound s → s.ended ≡ None → (told_limits s == most_told) ≡ false → told_limits s < most_told
told_few s sound none_yet other = grind (arith, common_steps)

told_unready : (s : SenderData) → IsSound s → s.ready ≡ false → told_limits s ≡ 0
told_unready s sound unready = grind (arith, common_steps)

limit_sound : (moment : ℕ) (s : SenderData) → s.ended ≡ None → is_past s.deadline moment ≡ true → IsSound s → IsSound (limit_passed moment s)
limit_sound moment s none_yet past sound =
    let P : SenderData → Type 0 = λ t. IsSound t in
    let unanswered : SenderData = ended_by (NoAnswer most_silent) (record s { silent = most_silent }) in
    let missing : SenderData = ended_by (LostOk most_told) (record s { silent = silent_limits s; told = most_told }) in
    let on : SenderData = waits moment (silent_limits s) (told_limits s) s in
    cond_both (silent_limits s == most_silent) unanswered (if told_limits s == most_told then missing else on) P (λ last. grind (arith, common_steps))
    (λ more. cond_both (told_limits s == most_told) missing on P (λ last. grind (arith, common_steps))
    (λ fewer. waits_sound moment (silent_limits s) (told_limits s) s.ready s refl (silent_few s sound none_yet more) (told_few s sound none_yet fewer)
    (told_unready s sound) none_yet past sound))

pub ticks_sound : (moment : ℕ) (s : SenderData) → IsSound s → IsSound (tick_step moment s)
ticks_sound moment s sound =
    let P : SenderData → Type 0 = λ t. IsSound t in
    unless_ended_sound s.ended (ticked moment s) s
    (λ none_yet. cond_both (is_past s.deadline moment) (limit_passed moment s) s P (λ past. limit_sound moment s none_yet past sound) (λ _. sound)) sound

pub issues_sound : (text : List ℕ) (s : SenderData) → 0 < last_room_of s → IsSound s → IsSound (after_step (issues text) s)
issues_sound text s room sound = grind (arith, common_steps)

pub gives_sound : (moment : ℕ) (s : SenderData) → IsSound s → IsSound (after_step (gives moment) s)
gives_sound moment s sound = grind (arith, common_steps)

pub step_sound : (step : Step) (s : SenderData) → IsAllowed step s → IsSound s → IsSound (after_step step s)
step_sound (hears heard_line moment) s allowed sound = hears_sound heard_line moment s sound
step_sound (ticks moment) s allowed sound = ticks_sound moment s sound
step_sound (issues text) s allowed sound = issues_sound text s allowed sound
step_sound (gives moment) s allowed sound = gives_sound moment s sound

-- the law
pub stays_sound : StaysSound
stays_sound = (new_sound, begun_sound, step_sound)
