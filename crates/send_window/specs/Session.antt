-- What happens to a sender in a session, step by step.
use Rattle.std.specs.Prelude.{◌≡◌, ℕ, ◌+◌, ◌*◌, ◌≤◌, ◌<◌, true, List, [], ◌∷◌, length, drop, None, Some}
use Rattle.marlin_reply.specs.declared.reply.Reply.{Reply}
use Rattle.send_window.specs.Data.{SenderData}
use Rattle.send_window.specs.Hearing.{later, hear_step, tick_step}
use Rattle.send_window.specs.Sending.{last_room_of, push_step, frame_step}

-- one call: a reply is heard or the clock ticks at a moment, a text is issued, or a frame is asked for at a moment
pub data Step : Type 0 where
  hears : Reply → ℕ → Step
  ticks : ℕ → Step
  issues : List ℕ → Step
  gives : ℕ → Step

-- the sender after a step
abbrev pub after_step : Step → SenderData → SenderData
after_step (hears heard_line moment) s = hear_step heard_line moment s
after_step (ticks moment) s = tick_step moment s
after_step (issues text) s = push_step text s
after_step (gives moment) s = frame_step moment s

-- the sender after these steps
abbrev pub after_steps : List Step → SenderData → SenderData
after_steps [] s = s
after_steps (step ∷ steps) s = after_steps steps (after_step step s)

-- a line is issued only if there is room for it, or for one that stops the printer
abbrev pub IsAllowed : Step → SenderData → Type 0
IsAllowed (hears heard_line moment) s = Unit {0}
IsAllowed (ticks moment) s = Unit {0}
IsAllowed (issues text) s = 0 < last_room_of s
IsAllowed (gives moment) s = Unit {0}

-- each line is issued only if there is room
abbrev pub AreAllowed : List Step → SenderData → Type 0
AreAllowed [] s = Unit {0}
AreAllowed (step ∷ steps) s = IsAllowed step s × AreAllowed steps (after_step step s)

-- a line is issued only after the `ok` of the hello
abbrev pub IsAfterHello : Step → SenderData → Type 0
IsAfterHello (hears heard_line moment) s = Unit {0}
IsAfterHello (ticks moment) s = Unit {0}
IsAfterHello (issues text) s = s.ready ≡ true
IsAfterHello (gives moment) s = Unit {0}

-- each line is
abbrev pub AreAfterHello : List Step → SenderData → Type 0
AreAfterHello [] s = Unit {0}
AreAfterHello (step ∷ steps) s = IsAfterHello step s × AreAfterHello steps (after_step step s)

-- the replies that were heard in these steps
abbrev pub replies_of : List Step → List Reply
replies_of [] = []
replies_of (hears heard_line moment ∷ steps) = heard_line ∷ replies_of steps
replies_of (ticks moment ∷ steps) = replies_of steps
replies_of (issues text ∷ steps) = replies_of steps
replies_of (gives moment ∷ steps) = replies_of steps

-- the texts that were issued in these steps
abbrev pub texts_issued : List Step → List (List ℕ)
texts_issued [] = []
texts_issued (hears heard_line moment ∷ steps) = texts_issued steps
texts_issued (ticks moment ∷ steps) = texts_issued steps
texts_issued (issues text ∷ steps) = text ∷ texts_issued steps
texts_issued (gives moment ∷ steps) = texts_issued steps

-- the sender holds the issued lines above acked
pub record HoldsIssued (texts : List (List ℕ)) (s : SenderData) : Type 0 where
  pub count : s.issued ≡ length texts
  pub rest : s.held ≡ drop s.acked texts
  pub acked_issued : s.acked ≤ length texts

-- the step doesn't come before this moment
abbrev pub IsSince : ℕ → Step → Type 0
IsSince start (hears heard_line moment) = start ≤ moment
IsSince start (ticks moment) = start ≤ moment
IsSince start (issues text) = Unit {0}
IsSince start (gives moment) = start ≤ moment

-- while the session goes on the deadline leaves room, from a moment on, for the limits that passed in silence and one more, and for those in
-- which the printer asked for the line after the last issued one and one more
pub record WaitsSince (start : ℕ) (s : SenderData) : Type 0 where
  pub long_enough : (wanted : ℕ) → s.ended ≡ None → s.deadline ≡ Some wanted → later start ((s.silent + 1) * s.limit) ≤ wanted
  pub told_enough : (wanted : ℕ) → s.ended ≡ None → s.deadline ≡ Some wanted → later start ((s.told + 1) * s.limit) ≤ wanted
