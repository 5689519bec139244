-- Each limit that passes in silence brings a line, so the fifth one finds the printer silent.
use Rattle.std.proofs.Common.{◌≡◌, ◌⊎◌, inl, inr, ℕ, zero, suc, ◌+◌, ◌≤◌, Bool, true, false, List, [], ◌∷◌, ◌++◌, arith, refl, sym, ◌∙◌, ap, subst, append_assoc}
use Rattle.std.specs.Prelude.{Option, None, Some, is_some, if◌then◌else◌}
use Rattle.std.specs.List.{prefix_len}
use Rattle.std.proofs.lemmas.Grind.{common_steps}
use Rattle.std.proofs.lemmas.List.{reverse-append, append-nil}
use Rattle.marlin_reply.specs.declared.reply.Reply.{Reply}
use Rattle.marlin_reply.specs.declared.reply.Reply.TheVariants as reply
use Rattle.send_window.specs.declared.session_end.SessionEnd.TheVariants.{NoAnswer}
use Rattle.send_window.specs.Data.{SenderData, IsSound, sender_after_dial}
use Rattle.send_window.specs.Hearing.{hear_step, tick_step}
use Rattle.send_window.specs.Sending.{Outgoing, next_of, push_step, frame_step}
use Rattle.send_window.specs.Session.{Step, hears, ticks, issues, gives, after_step, after_steps, AreAllowed, AreAfterHello, replies_of}
use Rattle.send_window.specs.Counting.{Traffic, sent, received, is_sent, sent_since, received_of, traffic_at, traffic_of, IsInTurn, AreInTurn, IsQuiet, OwesLine, IsSilent, IsUnbegun, own_oks}
use Rattle.send_window.specs.Laws.{SendsInSilence, EndsInSilence}
use Rattle.send_window.proofs.Soundness.{begun_sound, step_sound}
use Rattle.send_window.proofs.Ending.{tick_ends}
use Rattle.send_window.proofs.Tally.{flags_are_counted}
use Rattle.send_window.proofs.Named.{flags_are_named}

quiet_heard : (heard_line : Reply) (moment : ℕ) (s : SenderData) → IsQuiet 0 (hear_step heard_line moment s)
quiet_heard heard_line moment s = grind (arith, common_steps)

owes_ticked : (moment since : ℕ) (s : SenderData) → IsSound s → IsQuiet since s → OwesLine since (tick_step moment s)
owes_ticked moment since s sound quiet = grind (arith, common_steps)

owes_issued : (text : List ℕ) (since : ℕ) (s : SenderData) → OwesLine since s → OwesLine since (push_step text s)
owes_issued text since s owes = grind (arith, common_steps)

quiet_given : (moment since : ℕ) (s : SenderData) → IsSound s → OwesLine since s → is_some (next_of s) ≡ true → IsQuiet (since + 1) (frame_step moment s)
quiet_given moment since s sound owes some = grind (arith, common_steps)

quiet_unsent : (since : ℕ) (s : SenderData) → IsSound s → OwesLine since s → next_of s ≡ None → IsQuiet since s
quiet_unsent since s sound owes none_left = grind (arith, common_steps)

pub sends_in_silence : SendsInSilence
sends_in_silence = (quiet_heard, owes_ticked, owes_issued, quiet_given, quiet_unsent)

pub owes_quiet : (since : ℕ) (s : SenderData) → IsQuiet since s → OwesLine since s
owes_quiet since s quiet = grind (arith, common_steps)

quiet_in_turn : (moment since : ℕ) (s : SenderData) → IsSound s → OwesLine since s → IsInTurn (ticks moment) s → IsQuiet since s
quiet_in_turn moment since s sound owes (inl none_left) = quiet_unsent since s sound owes none_left
quiet_in_turn moment since s sound owes (inr (inl heard)) = record { sent_enough = λ _ _ unheard. absurd (cc) }
quiet_in_turn moment since s sound owes (inr (inr silent)) = record { sent_enough = λ _ _ _. omega arith }

sent_since-received : (traffic : List Traffic) (heard_line : Reply) → sent_since (traffic ++ received heard_line ∷ []) ≡ 0
sent_since-received traffic heard_line = ap (prefix_len is_sent) (reverse-append traffic (received heard_line ∷ []))

sent_since-sent : (traffic : List Traffic) → sent_since (traffic ++ sent ∷ []) ≡ sent_since traffic + 1
sent_since-sent traffic =
    let e : sent_since (traffic ++ sent ∷ []) ≡ 1 + sent_since traffic = ap (prefix_len is_sent) (reverse-append traffic (sent ∷ [])) in
    omega arith

-- none is returned: nothing changes
owes_none : (moment : ℕ) (traffic : List Traffic) (s : SenderData) (next : Option Outgoing) → next_of s ≡ next → IsSound s → OwesLine (sent_since traffic) s →
    OwesLine (sent_since (traffic ++ (if is_some next then sent ∷ [] else []))) (frame_step moment s)
owes_none moment traffic s None none_left sound owes =
    let same : frame_step moment s ≡ s = grind (arith, common_steps) in
    rw append-nil (rw same owes)
owes_none moment traffic s (Some next) e sound owes =
    rw (sent_since-sent traffic) (owes_quiet _ _ (quiet_given moment (sent_since traffic) s sound owes (ap is_some e)))

step_owes : (step : Step) (traffic : List Traffic) (s : SenderData) → IsSound s → IsInTurn step s → OwesLine (sent_since traffic) s →
    OwesLine (sent_since (traffic ++ traffic_at step s)) (after_step step s)
step_owes (hears heard_line moment) traffic s sound in_turn owes =
    rw (sent_since-received traffic heard_line) (owes_quiet _ _ (quiet_heard heard_line moment s))
step_owes (ticks moment) traffic s sound in_turn owes =
    rw append-nil (owes_ticked moment _ s sound (quiet_in_turn moment _ s sound owes in_turn))
step_owes (issues text) traffic s sound in_turn owes = rw append-nil (owes_issued text _ s owes)
step_owes (gives moment) traffic s sound in_turn owes = owes_none moment traffic s (next_of s) refl sound owes

-- what is owed after these steps, after the traffic before them
record Owed (traffic : List Traffic) (s : SenderData) : Type 0 where
  sound : IsSound s
  owes : OwesLine (sent_since traffic) s

steps_owed : (steps : List Step) (traffic : List Traffic) (s : SenderData) → AreAllowed steps s → AreInTurn steps s → Owed traffic s →
    Owed (traffic ++ traffic_of steps s) (after_steps steps s)
steps_owed [] traffic s allowed in_turn owed = rw append-nil owed
steps_owed (step ∷ steps) traffic s allowed in_turn owed =
    let after : Owed (traffic ++ traffic_at step s) (after_step step s) = record {
      sound = step_sound step s allowed.0 owed.sound;
      owes = step_owes step traffic s owed.sound in_turn.0 owed.owes;
    } in
    let P : List Traffic → Type 0 = λ all. Owed all (after_steps steps (after_step step s)) in
    subst P (append_assoc traffic (traffic_at step s) (traffic_of steps (after_step step s)))
    (steps_owed steps (traffic ++ traffic_at step s) (after_step step s) allowed.1 in_turn.1 after)

received_given : (next : Option Outgoing) (traffic : List Traffic) → received_of ((if is_some next then sent ∷ [] else []) ++ traffic) ≡ received_of traffic
received_given None traffic = refl
received_given (Some next) traffic = refl

received_steps : (steps : List Step) (s : SenderData) → received_of (traffic_of steps s) ≡ replies_of steps
received_steps [] s = refl
received_steps (hears heard_line moment ∷ steps) s = ap (λ (replies : List Reply). heard_line ∷ replies) (received_steps steps (after_step (hears heard_line moment) s))
received_steps (ticks moment ∷ steps) s = received_steps steps (after_step (ticks moment) s)
received_steps (issues text ∷ steps) s = received_steps steps (after_step (issues text) s)
received_steps (gives moment ∷ steps) s =
    received_given (next_of s) (traffic_of steps (after_step (gives moment) s)) ∙ received_steps steps (after_step (gives moment) s)

-- after the `ok` of the hello a limit counts only in silence
pub silent_once_ready : (s : SenderData) → (s.heard ≡ false) ⊎ (s.ready ≡ false) → s.ready ≡ true → s.heard ≡ false
silent_once_ready s (inl unheard_still) is = unheard_still
silent_once_ready s (inr unready) is = absurd (cc)

-- before the session is ready lines and replies don't acknowledge the hello
unbegun_by : (by_number : Bool) (steps : List Step) (s : SenderData) → IsSound s → s.numbered ≡ by_number → AreAllowed steps (sender_after_dial s) →
    AreAfterHello steps (sender_after_dial s) →
    (after_steps steps (sender_after_dial s)).ended ≡ None → (after_steps steps (sender_after_dial s)).ready ≡ false →
    IsUnbegun by_number (traffic_of steps (sender_after_dial s))
unbegun_by false steps s sound kind allowed after open_still unready =
    let P : List Reply → Type 0 = λ replies. own_oks reply.Start replies ≡ 0 in
    subst P (sym (received_steps steps (sender_after_dial s))) (none_of _ _ unready (flags_are_counted steps s kind open_still).1.1)
  where
    none_of : (b : Bool) (n : ℕ) → b ≡ false → (1 ≤ n → b ≡ true) → n ≡ 0
    none_of true n e f = absurd (cc)
    none_of false zero e f = refl
    none_of false (suc n) e f = let h : false ≡ true = f (omega arith) in absurd (cc)
unbegun_by true steps s sound kind allowed after open_still unready = sym (flags_are_named steps s sound kind allowed after open_still).2 ∙ unready

silent_by : (ready : Bool) (steps : List Step) (s : SenderData) (moment count : ℕ) → IsSound s → AreAllowed steps (sender_after_dial s) →
    AreAfterHello steps (sender_after_dial s) → AreInTurn steps (sender_after_dial s) →
    IsInTurn (ticks moment) (after_steps steps (sender_after_dial s)) → (after_steps steps (sender_after_dial s)).ended ≡ None →
    (tick_step moment (after_steps steps (sender_after_dial s))).ended ≡ Some (NoAnswer count) → (after_steps steps (sender_after_dial s)).ready ≡ ready →
    IsSilent s.numbered (traffic_of steps (sender_after_dial s))
silent_by false steps s moment count sound allowed after in_turn last_in_turn open_still ends unready =
    inl (unbegun_by s.numbered steps s sound refl allowed after open_still unready)
silent_by true steps s moment count sound allowed after in_turn last_in_turn open_still ends is_ready =
    let owed : Owed ([] ++ traffic_of steps (sender_after_dial s)) (after_steps steps (sender_after_dial s)) =
    steps_owed steps [] (sender_after_dial s) allowed in_turn (record { sound = begun_sound s sound; owes = record { one_more = λ _ _ _. omega arith; unsent = λ _ _ _ more. absurd (omega arith) } }) in
    let before = after_steps steps (sender_after_dial s) in
    let rule = (tick_ends (NoAnswer count) moment before open_still).0 ends in
    let quiet : IsQuiet (sent_since (traffic_of steps (sender_after_dial s))) before = quiet_in_turn moment _ before owed.sound owed.owes last_in_turn in
    inr (omega (arith, quiet.sent_enough open_still is_ready (silent_once_ready before rule.1 is_ready), rule.2))

pub ends_in_silence : EndsInSilence
ends_in_silence steps s moment count sound allowed after in_turn last_in_turn open_still ends =
    silent_by _ steps s moment count sound allowed after in_turn last_in_turn open_still ends refl
