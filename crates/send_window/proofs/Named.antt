-- What a session acknowledges if `ok`s count by the numbers that they name.
use Rattle.std.proofs.Common.{◌≡◌, ℕ, ◌≤◌, Bool, true, false, List, [], ◌∷◌, ◌++◌, arith, refl, sym, ◌∙◌, subst}
use Rattle.std.specs.Prelude.{Option, None, Some}
use Rattle.std.proofs.lemmas.Grind.{common_steps}
use Rattle.marlin_reply.specs.declared.reply.Reply.{Reply}
use Rattle.marlin_reply.specs.declared.reply.Reply.TheVariants as reply
use Rattle.send_window.specs.declared.session_end.SessionEnd.{SessionEnd}
use Rattle.send_window.specs.Data.{SenderData, IsSound, NoneEarly, sender_after_dial}
use Rattle.send_window.specs.Hearing.{heard_reply, ok_named, ok_in, unless_ended}
use Rattle.send_window.specs.Session.{Step, hears, ticks, issues, gives, after_step, after_steps, AreAllowed, IsAfterHello, AreAfterHello}
use Rattle.send_window.specs.Counting.{Traffic, Account, name_in, with_name, with_traffic, after_traffic, traffic_at, traffic_of}
use Rattle.send_window.specs.Laws.{AckedIsNamed, FlagsAreNamed}
use Rattle.send_window.proofs.Sending.{keeps_kind}
use Rattle.send_window.proofs.Soundness.{begun_sound, step_sound}

-- the account of lines and replies in two parts
pub after_traffic-append : (xs ys : List Traffic) (c : Account) → after_traffic (xs ++ ys) c ≡ after_traffic ys (after_traffic xs c)
after_traffic-append [] ys c = refl
after_traffic-append (item ∷ xs) ys c = after_traffic-append xs ys (with_traffic item c)

-- a sender keeps this account while its session goes on, and never acknowledges more
pub record Accounted (c : Account) (s : SenderData) : Type 0 where
  pub below : s.acked ≤ c.acked
  pub hellos : s.ended ≡ None → s.hellos ≡ c.hellos
  pub begun : s.ended ≡ None → s.ready ≡ c.begun
  pub acked : s.ended ≡ None → s.acked ≡ c.acked
  pub unswallowed : s.swallow ≡ false

named_accounts : (number : Option ℕ) (moment : ℕ) (s : SenderData) (c : Account) → s.ended ≡ None → Accounted c s →
    Accounted (with_name number c) (ok_named s.ready number moment s)
named_accounts number moment s c none_yet a = record {
  below = grind (arith, common_steps);
  hellos = grind (arith, common_steps);
  begun = grind (arith, common_steps);
  acked = grind (arith, common_steps);
  unswallowed = grind (arith, common_steps);
}

ok_accounts : (by_number : Bool) (number : Option ℕ) (moment : ℕ) (s : SenderData) (c : Account) → by_number ≡ true → s.ended ≡ None → Accounted c s →
    Accounted (with_name number c) (ok_in by_number number moment s)
ok_accounts true number moment s c named none_yet a = named_accounts number moment s c none_yet a
ok_accounts false number moment s c named none_yet a = absurd (cc)

reply_accounts : (heard_line : Reply) (moment : ℕ) (s : SenderData) (c : Account) → s.numbered ≡ true → s.ended ≡ None → Accounted c s →
    Accounted (with_name (name_in heard_line) c) (heard_reply heard_line moment s)
reply_accounts (reply.Ok number _ _ _) moment s c named none_yet a = ok_accounts s.numbered number moment s c named none_yet a
reply_accounts (reply.Resend number) moment s c named none_yet a = grind (arith, common_steps)
reply_accounts reply.Start moment s c named none_yet a = grind (arith, common_steps)
reply_accounts reply.Busy moment s c named none_yet a = grind (arith, common_steps)
reply_accounts (reply.Temps _) moment s c named none_yet a = grind (arith, common_steps)
reply_accounts reply.Error moment s c named none_yet a = grind (arith, common_steps)
reply_accounts reply.Other moment s c named none_yet a = grind (arith, common_steps)

-- after an end acked stays, and no reply lessens the account
ended_accounts : (ended : Option SessionEnd) (number : Option ℕ) (after s : SenderData) (c : Account) → s.ended ≡ ended → Accounted c s →
    (ended ≡ None → Accounted (with_name number c) after) → Accounted (with_name number c) (unless_ended ended after s)
ended_accounts None number after s c e a then_so = then_so refl
ended_accounts (Some why) number after s c e a then_so = record {
  below = grind (arith, common_steps);
  hellos = λ (open_still : s.ended ≡ None). absurd (cc);
  begun = λ (open_still : s.ended ≡ None). absurd (cc);
  acked = λ (open_still : s.ended ≡ None). absurd (cc);
  unswallowed = a.unswallowed;
}

gives_accounts : (moment : ℕ) (s : SenderData) (c : Account) → IsSound s → NoneEarly s → s.numbered ≡ true → Accounted c s →
    Accounted (after_traffic (traffic_at (gives moment) s) c) (after_step (gives moment) s)
gives_accounts moment s c sound early named a = record {
  below = grind (arith, common_steps);
  hellos = grind (arith, common_steps);
  begun = grind (arith, common_steps);
  acked = grind (arith, common_steps);
  unswallowed = grind (arith, common_steps);
}

pub step_accounts : (step : Step) (s : SenderData) (c : Account) → IsSound s → NoneEarly s → s.numbered ≡ true → Accounted c s →
    Accounted (after_traffic (traffic_at step s) c) (after_step step s)
step_accounts (hears heard_line moment) s c sound early named a =
    ended_accounts s.ended (name_in heard_line) (heard_reply heard_line moment s) s c refl a (λ none_yet. reply_accounts heard_line moment s c named none_yet a)
step_accounts (ticks moment) s c sound early named a = grind (arith, common_steps)
step_accounts (issues text) s c sound early named a = record { below = a.below; hellos = a.hellos; begun = a.begun; acked = a.acked; unswallowed = a.unswallowed }
step_accounts (gives moment) s c sound early named a = gives_accounts moment s c sound early named a

-- the sender of a session without an early line stays one
pub step_none_early : (step : Step) (s : SenderData) → IsAfterHello step s → NoneEarly s → NoneEarly (after_step step s)
step_none_early (hears heard_line moment) s after early = grind (arith, common_steps)
step_none_early (ticks moment) s after early = grind (arith, common_steps)
step_none_early (issues text) s after early = λ (unready : s.ready ≡ false). absurd (cc)
step_none_early (gives moment) s after early = grind (arith, common_steps)

-- the same of steps from any state
pub steps_account : (steps : List Step) (s : SenderData) (c : Account) → IsSound s → NoneEarly s → s.numbered ≡ true → AreAllowed steps s →
    AreAfterHello steps s → Accounted c s →
    Accounted (after_traffic (traffic_of steps s) c) (after_steps steps s)
steps_account [] s c sound early named allowed after a = a
steps_account (step ∷ steps) s c sound early named allowed after a =
    let A : Account → Type 0 = λ d. Accounted d (after_steps steps (after_step step s)) in
    subst A (sym (after_traffic-append (traffic_at step s) (traffic_of steps (after_step step s)) c))
    (steps_account steps (after_step step s) (after_traffic (traffic_at step s) c) (step_sound step s allowed.0 sound)
    (step_none_early step s after.0 early) (keeps_kind step s ∙ named) allowed.1 after.1 (step_accounts step s c sound early named a))

-- the account of a session
session_account : (steps : List Step) (s : SenderData) → IsSound s → s.numbered ≡ true → AreAllowed steps (sender_after_dial s) →
    AreAfterHello steps (sender_after_dial s) →
    Accounted (after_traffic (traffic_of steps (sender_after_dial s)) (record { hellos = 0; begun = false; acked = 0 })) (after_steps steps (sender_after_dial s))
session_account steps s sound named allowed after =
    steps_account steps (sender_after_dial s) (record { hellos = 0; begun = false; acked = 0 }) (begun_sound s sound) (λ _. refl) named allowed after
    (record { below = omega arith; hellos = λ _. refl; begun = λ _. refl; acked = λ _. refl; unswallowed = refl })

pub acked_is_named : AckedIsNamed
acked_is_named steps s sound named allowed after =
    let account = session_account steps s sound named allowed after in
    (account.below, account.acked)

pub flags_are_named : FlagsAreNamed
flags_are_named steps s sound named allowed after open_still =
    let account = session_account steps s sound named allowed after in
    (account.unswallowed, account.hellos open_still, account.begun open_still)
