-- What the steps of a turn leave of a sender.
use Rattle.std.proofs.Common.{◌≡◌, ◌≢◌, ◌⊎◌, inl, inr, ℕ, ◌+◌, ◌-◌, ◌<◌, ◌≤◌, zero, suc, Bool, true, false, List, [], ◌∷◌, refl, sym, ◌∙◌, subst, arith}
use Rattle.std.specs.Prelude.{None}
use Rattle.std.proofs.lemmas.Grind.{common_steps}
use Rattle.marlin_reply.specs.Kind.{kind_of}
use Rattle.marlin_reply.specs.declared.reply.Reply.{Reply}
use Rattle.marlin_reply.specs.declared.reply.Reply.TheVariants as reply
use Rattle.send_window.specs.Data.{SenderData, IsSound, NoneEarly}
use Rattle.send_window.specs.Hearing.{hear_step, tick_step}
use Rattle.send_window.specs.Sending.{next_of, room_of, last_room_of, frame_step, push_step}
use Rattle.job_desk.specs.Data.{Data}
use Rattle.job_desk.specs.Pull.{pull_step}
use Rattle.job_desk.specs.Table.{is_stopping}
use Rattle.octo_session.specs.Data.{IsStopped}
use Rattle.octo_session.specs.Turn.{IsSpent}
use Rattle.octo_session.specs.Found.{Got, unasked, lost, nothing, whole}
use Rattle.octo_session.specs.Steps.{after_steps, issuing, received_by, sends}

-- what issuing and sending leave as it is
pub record Keeps (s t : SenderData) : Type 0 where
  pub window : t.window ≡ s.window
  pub acked : t.acked ≡ s.acked
  pub ready : t.ready ≡ s.ready
  pub ended : t.ended ≡ s.ended

pub keeps_same : (s : SenderData) → Keeps s s
keeps_same s = record { window = refl; acked = refl; ready = refl; ended = refl }

pub keeps_then : (s t u : SenderData) → Keeps s t → Keeps t u → Keeps s u
keeps_then s t u a b = record { window = b.window ∙ a.window; acked = b.acked ∙ a.acked; ready = b.ready ∙ a.ready; ended = b.ended ∙ a.ended }

pub keeps_issuing : (moment : ℕ) (texts : List (List ℕ)) (s : SenderData) → Keeps s (after_steps moment (issuing texts) s)
keeps_issuing moment [] s = keeps_same s
keeps_issuing moment (text ∷ texts) s =
    keeps_then s (push_step text s) _ (record { window = refl; acked = refl; ready = refl; ended = refl }) (keeps_issuing moment texts (push_step text s))

pub keeps_frame : (moment : ℕ) (s : SenderData) → Keeps s (frame_step moment s)
keeps_frame moment s = grind (arith, common_steps)

pub issued_frame : (moment : ℕ) (s : SenderData) → (frame_step moment s).issued ≡ s.issued
issued_frame moment s = grind (arith, common_steps)

pub room_frame : (moment : ℕ) (s : SenderData) → room_of (frame_step moment s) ≡ room_of s
room_frame moment s = grind (arith, common_steps)

pub last_frame : (moment : ℕ) (s : SenderData) → last_room_of (frame_step moment s) ≡ last_room_of s
last_frame moment s = grind (arith, common_steps)

-- what sending leaves as it is
pub record Unmoved (s t : SenderData) : Type 0 where
  pub keeps : Keeps s t
  pub issued : t.issued ≡ s.issued
  pub room : room_of t ≡ room_of s
  pub last : last_room_of t ≡ last_room_of s

unmoved_frame : (moment : ℕ) (s : SenderData) → Unmoved s (frame_step moment s)
unmoved_frame moment s =
    record { keeps = keeps_frame moment s; issued = issued_frame moment s; room = room_frame moment s; last = last_frame moment s }

unmoved_then : (s t u : SenderData) → Unmoved s t → Unmoved t u → Unmoved s u
unmoved_then s t u a b =
    record { keeps = keeps_then s t u a.keeps b.keeps; issued = b.issued ∙ a.issued; room = b.room ∙ a.room; last = b.last ∙ a.last }

pub unmoved_sends : (moment : ℕ) (all : Bool) (count : ℕ) (s : SenderData) → Unmoved s (after_steps moment (sends all count) s)
unmoved_sends moment true zero s = record { keeps = keeps_same s; issued = refl; room = refl; last = refl }
unmoved_sends moment false zero s = unmoved_frame moment s
unmoved_sends moment true (suc count) s =
    unmoved_then s (frame_step moment s) _ (unmoved_frame moment s) (unmoved_sends moment true count (frame_step moment s))
unmoved_sends moment false (suc count) s =
    unmoved_then s (frame_step moment s) _ (unmoved_frame moment s) (unmoved_sends moment false count (frame_step moment s))

-- what issuing and then sending leave as it is
pub record Said (s p q : SenderData) : Type 0 where
  pub keeps : Keeps s q
  pub acked : p.acked ≡ s.acked
  pub was_ready : p.ready ≡ q.ready
  pub issued : q.issued ≡ p.issued
  pub room : room_of q ≡ room_of p
  pub last : last_room_of q ≡ last_room_of p

pub said : (moment : ℕ) (texts : List (List ℕ)) (all : Bool) (count : ℕ) (s p q : SenderData) → p ≡ after_steps moment (issuing texts) s →
    q ≡ after_steps moment (sends all count) p → Said s p q
said moment texts all count s p q first second =
    let K : SenderData → Type 0 = λ t. Keeps s t in
    let U : SenderData → Type 0 = λ t. Unmoved p t in
    let issued_lines : Keeps s p = subst K (sym first) (keeps_issuing moment texts s) in
    let sent : Unmoved p q = subst U (sym second) (unmoved_sends moment all count p) in
    record { keeps = keeps_then s p q issued_lines sent.keeps; acked = issued_lines.acked; was_ready = sym sent.keeps.ready; issued = sent.issued; room = sent.room; last = sent.last }

-- what is sent leaves it so
pub said_early : (s p q : SenderData) → Said s p q → NoneEarly p → NoneEarly q
said_early s p q kept early = λ unready. (
    let same : p.ready ≡ q.ready = kept.was_ready in kept.issued ∙ early (same ∙ unready)
    )

pub stays_early : (s p q : SenderData) (d : Data) → Said s p q → NoneEarly p ⊎ IsStopped d → NoneEarly q ⊎ IsStopped d
stays_early s p q d kept (inl early) = inl (said_early s p q kept early)
stays_early s p q d kept (inr st) = inr st

-- a line takes one place
pub room_push : (text : List ℕ) (s : SenderData) → IsSound s → 0 < room_of s → room_of (push_step text s) + 1 ≡ room_of s
room_push text s sound room = grind (arith, common_steps)

-- the window has room only after the `ok` of the hello, and then no line is early
pub room_early : (text : List ℕ) (s : SenderData) → 0 < room_of s → NoneEarly (push_step text s)
room_early text s room = λ unready. grind (arith, common_steps)

-- a line may be issued if the window has room
pub room_last : (s : SenderData) → room_of s ≤ last_room_of s
room_last s = grind (arith, common_steps)

pub room_small : (s : SenderData) → IsSound s → room_of s ≤ 16
room_small s sound = grind (arith, common_steps)

-- how much is unsent
abbrev pub unsent_hello : Bool → ℕ
unsent_hello true = 1
unsent_hello false = 0

abbrev pub unsent : SenderData → ℕ
unsent s = unsent_hello s.hello_due + (s.issued + 1 - s.cursor)

pub unsent_falls : (moment : ℕ) (s : SenderData) → next_of s ≢ None → unsent (frame_step moment s) < unsent s
unsent_falls moment s some = grind (arith, common_steps)

-- a reply that makes the session ready doesn't end it, nor does the clock then
pub ready_goes_on : (line : Reply) (moment : ℕ) (s : SenderData) → s.ended ≡ None → s.ready ≡ false → (hear_step line moment s).ready ≡ true →
    (tick_step moment (hear_step line moment s)).ended ≡ None
ready_goes_on (reply.Ok number _ _ _) moment s running not_ready ready = grind (arith, common_steps)
ready_goes_on (reply.Resend number) moment s running not_ready ready = grind (arith, common_steps)
ready_goes_on reply.Start moment s running not_ready ready = grind (arith, common_steps)
ready_goes_on reply.Busy moment s running not_ready ready = grind (arith, common_steps)
ready_goes_on (reply.Temps _) moment s running not_ready ready = grind (arith, common_steps)
ready_goes_on reply.Error moment s running not_ready ready = grind (arith, common_steps)
ready_goes_on reply.Other moment s running not_ready ready = grind (arith, common_steps)

-- readiness lasts
pub ready_lasts : (line : Reply) (moment : ℕ) (s : SenderData) → s.ready ≡ true → (hear_step line moment s).ready ≡ true
ready_lasts (reply.Ok number _ _ _) moment s ready = grind (arith, common_steps)
ready_lasts (reply.Resend number) moment s ready = grind (arith, common_steps)
ready_lasts reply.Start moment s ready = grind (arith, common_steps)
ready_lasts reply.Busy moment s ready = grind (arith, common_steps)
ready_lasts (reply.Temps _) moment s ready = grind (arith, common_steps)
ready_lasts reply.Error moment s ready = grind (arith, common_steps)
ready_lasts reply.Other moment s ready = grind (arith, common_steps)

-- acked never falls, and the lines of a session are issued before
pub acked_heard : (line : Reply) (moment : ℕ) (s : SenderData) → s.acked ≤ (hear_step line moment s).acked
acked_heard (reply.Ok number _ _ _) moment s = grind (arith, common_steps)
acked_heard (reply.Resend number) moment s = grind (arith, common_steps)
acked_heard reply.Start moment s = grind (arith, common_steps)
acked_heard reply.Busy moment s = grind (arith, common_steps)
acked_heard (reply.Temps _) moment s = grind (arith, common_steps)
acked_heard reply.Error moment s = grind (arith, common_steps)
acked_heard reply.Other moment s = grind (arith, common_steps)

pub issued_heard : (line : Reply) (moment : ℕ) (s : SenderData) → (hear_step line moment s).issued ≡ s.issued
issued_heard (reply.Ok number _ _ _) moment s = grind (arith, common_steps)
issued_heard (reply.Resend number) moment s = grind (arith, common_steps)
issued_heard reply.Start moment s = grind (arith, common_steps)
issued_heard reply.Busy moment s = grind (arith, common_steps)
issued_heard (reply.Temps _) moment s = grind (arith, common_steps)
issued_heard reply.Error moment s = grind (arith, common_steps)
issued_heard reply.Other moment s = grind (arith, common_steps)

-- what a turn's receiving leaves of a sender
pub record HasHeard (moment : ℕ) (s t : SenderData) : Type 0 where
  pub issued : t.issued ≡ s.issued
  pub acked : s.acked ≤ t.acked
  pub lasts : s.ready ≡ true → t.ready ≡ true
  pub goes_on : s.ready ≡ false → t.ready ≡ true → (tick_step moment t).ended ≡ None

heard_nothing : (moment : ℕ) (s : SenderData) → HasHeard moment s s
heard_nothing moment s =
    record { issued = refl; acked = omega arith; lasts = λ ready. ready; goes_on = λ (unready : s.ready ≡ false) (ready : s.ready ≡ true). absurd (cc) }

heard_got : (got : Got) (moment : ℕ) (s : SenderData) → s.ended ≡ None → HasHeard moment s (after_steps moment (received_by got) s)
heard_got unasked moment s running = heard_nothing moment s
heard_got lost moment s running = heard_nothing moment s
heard_got nothing moment s running = heard_nothing moment s
heard_got (whole bytes) moment s running = record {
  issued = issued_heard (kind_of bytes) moment s;
  acked = acked_heard (kind_of bytes) moment s;
  lasts = ready_lasts (kind_of bytes) moment s;
  goes_on = ready_goes_on (kind_of bytes) moment s running;
}

pub has_heard : (got : Got) (moment : ℕ) (s t : SenderData) → s.ended ≡ None → t ≡ after_steps moment (received_by got) s → HasHeard moment s t
has_heard got moment s t running after = subst (λ (x : SenderData). HasHeard moment s x) (sym after) (heard_got got moment s running)

-- a tick issues and acknowledges nothing
pub record Ticked (s t : SenderData) : Type 0 where
  pub issued : t.issued ≡ s.issued
  pub acked : t.acked ≡ s.acked
  pub ready : t.ready ≡ s.ready

pub ticked_keeps : (moment : ℕ) (s : SenderData) → Ticked s (tick_step moment s)
ticked_keeps moment s = grind (arith, common_steps)

-- a tick issues none, nor is one early in a ready session
pub ticked_early : (moment : ℕ) (was_ready : Bool) (s : SenderData) → (was_ready ≡ true → s.ready ≡ true) → (was_ready ≡ false → s.issued ≡ 0) →
    NoneEarly (tick_step moment s)
ticked_early moment true s lasts fresh = λ unready. (
    let ready : (tick_step moment s).ready ≡ true = (ticked_keeps moment s).ready ∙ lasts refl in absurd (cc)
    )
ticked_early moment false s lasts fresh = λ unready. ((ticked_keeps moment s).issued ∙ fresh refl)

-- what is spent before the frames are sent is spent after it
pub spent_after : (moment : ℕ) (before d : Data) (p q : SenderData) → room_of q ≡ room_of p → last_room_of q ≡ last_room_of p →
    (room_of p ≡ 0) ⊎ ((pull_step moment d).0 ≡ None) → (is_stopping before ≡ true → (last_room_of p ≡ 0) ⊎ ((pull_step moment d).0 ≡ None)) →
    next_of q ≡ None → IsSpent moment before d q
spent_after moment before d p q room last spent stopped sent =
    let P : ℕ → Type 0 = λ n. (n ≡ 0) ⊎ ((pull_step moment d).0 ≡ None) in
    record { issued = subst P (sym room) spent; stopped = λ stops. subst P (sym last) (stopped stops); sent = sent }

-- with the hello's `ok` nothing is unsent
pub ready_unsent : (s : SenderData) → IsSound s → s.ready ≡ true → s.issued ≡ 0 → next_of s ≡ None
ready_unsent s sound ready fresh = grind (arith, common_steps)
