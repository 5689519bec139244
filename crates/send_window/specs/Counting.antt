-- What a session's lines and replies alone say of it.
use Rattle.std.specs.Prelude.{◌≡◌, ◌⊎◌, ℕ, ◌+◌, ◌-◌, ◌<◌, ◌≤◌, ◌==◌, max, Bool, true, false, not, ◌&&◌, ◌||◌, List, [], ◌∷◌, ◌++◌, filter, count_by, zip, reverse, Option, None, Some, is_some, if◌then◌else◌}
use Rattle.std.specs.List.{prefix_len}
use Rattle.marlin_frame.specs.Numbering.{place_of}
use Rattle.marlin_reply.specs.declared.reply.Reply.{Reply}
use Rattle.marlin_reply.specs.declared.reply.Reply.TheVariants as reply
use Rattle.send_window.specs.Data.{SenderData}
use Rattle.send_window.specs.Sending.{next_of}
use Rattle.send_window.specs.Session.{Step, hears, ticks, issues, gives, after_step}

-- whether a reply is an `ok`
abbrev pub is_ok : Reply → Bool
is_ok (reply.Ok _ _ _ _) = true
is_ok (reply.Resend _) = false
is_ok reply.Start = false
is_ok reply.Busy = false
is_ok (reply.Temps _) = false
is_ok reply.Error = false
is_ok reply.Other = false

-- whether a reply is a Resend
abbrev pub is_resend : Reply → Bool
is_resend (reply.Ok _ _ _ _) = false
is_resend (reply.Resend _) = true
is_resend reply.Start = false
is_resend reply.Busy = false
is_resend (reply.Temps _) = false
is_resend reply.Error = false
is_resend reply.Other = false

-- the `ok`s and Resends among the replies
abbrev pub answers_of : List Reply → List Reply
answers_of replies = filter (λ heard_line. is_ok heard_line || is_resend heard_line) replies

-- each reply with the one before it, given what is before the first
abbrev pub with_former : Reply → List Reply → List (Reply × Reply)
with_former first replies = zip (first ∷ replies) replies

-- an `ok` that doesn't follow a Resend
abbrev pub is_own_ok : Reply × Reply → Bool
is_own_ok p = is_ok p.1 && not (is_resend p.0)

-- how many `ok`s there are, without the first one after a Resend
abbrev pub own_oks : Reply → List Reply → ℕ
own_oks first replies = count_by is_own_ok (with_former first (answers_of replies))

-- how many lines the replies of a session acknowledge: the first `ok` that counts is the hello's
abbrev pub acked_of : List Reply → ℕ
acked_of replies = own_oks reply.Start replies - 1

-- the number that a reply names, if it is an `ok` that names one
abbrev pub name_in : Reply → Option ℕ
name_in (reply.Ok number _ _ _) = number
name_in (reply.Resend _) = None
name_in reply.Start = None
name_in reply.Busy = None
name_in (reply.Temps _) = None
name_in reply.Error = None
name_in reply.Other = None

-- the last of a list of replies, given what is before the first
abbrev pub last_of : Reply → List Reply → Reply
last_of first [] = first
last_of first (heard_line ∷ replies) = last_of heard_line replies

-- whether a Resend is the last `ok` or Resend, so that the next `ok` doesn't count
abbrev pub is_pending : List Reply → Bool
is_pending replies = is_resend (last_of reply.Start (answers_of replies))

-- a line that was sent, or a reply that was received
pub data Traffic : Type 0 where
  sent : Traffic
  received : Reply → Traffic

-- the replies
abbrev pub received_of : List Traffic → List Reply
received_of [] = []
received_of (sent ∷ traffic) = received_of traffic
received_of (received heard_line ∷ traffic) = heard_line ∷ received_of traffic

-- what the names of `ok`s say of a session: how many hellos were sent, whether the last of them has its `ok`, and how many
-- lines are acknowledged
pub record Account : Type 0 where
  pub hellos : ℕ
  pub begun : Bool
  pub acked : ℕ

-- one more `ok`: it begins the session if it names the last hello that was sent, and then acknowledges all through its line
abbrev pub with_name : Option ℕ → Account → Account
with_name None c = c
with_name (Some number) c =
    if c.begun then record c { acked = max c.acked (place_of number) }
    else record c { begun = number + 1 == c.hellos }

-- one more line or reply: until the session has begun each line is a hello
abbrev pub with_traffic : Traffic → Account → Account
with_traffic sent c = if c.begun then c else record c { hellos = c.hellos + 1 }
with_traffic (received heard_line) c = with_name (name_in heard_line) c

-- more of them
abbrev pub after_traffic : List Traffic → Account → Account
after_traffic [] c = c
after_traffic (item ∷ traffic) c = after_traffic traffic (with_traffic item c)

-- the account of a session
abbrev pub account_of : List Traffic → Account
account_of traffic = after_traffic traffic (record { hellos = 0; begun = false; acked = 0 })

-- how many lines a session's lines and replies acknowledge, by whether an `ok` counts only by the number that it names
abbrev pub acked_as : Bool → List Traffic → ℕ
acked_as false traffic = acked_of (received_of traffic)
acked_as true traffic = (account_of traffic).acked

-- they don't acknowledge the hello, by whether an `ok` counts only by the number that it names
abbrev pub IsUnbegun : Bool → List Traffic → Type 0
IsUnbegun false traffic = own_oks reply.Start (received_of traffic) ≡ 0
IsUnbegun true traffic = (account_of traffic).begun ≡ false

-- whether it is a line that was sent
abbrev pub is_sent : Traffic → Bool
is_sent sent = true
is_sent (received heard_line) = false

-- how many lines were sent after the last reply
abbrev pub sent_since : List Traffic → ℕ
sent_since traffic = prefix_len is_sent (reverse traffic)

-- the printer is silent: the hello has no `ok`, or at least four lines were sent since anything was received
abbrev pub IsSilent : Bool → List Traffic → Type 0
IsSilent numbered traffic = IsUnbegun numbered traffic ⊎ (4 ≤ sent_since traffic)

-- what goes over the line in a step of a sender
abbrev pub traffic_at : Step → SenderData → List Traffic
traffic_at (hears heard_line moment) s = received heard_line ∷ []
traffic_at (ticks moment) s = []
traffic_at (issues text) s = []
traffic_at (gives moment) s = if is_some (next_of s) then sent ∷ [] else []

-- what goes over the line in these steps
abbrev pub traffic_of : List Step → SenderData → List Traffic
traffic_of [] s = []
traffic_of (step ∷ steps) s = traffic_at step s ++ traffic_of steps (after_step step s)

-- a tick comes if nothing is unsent, unless something was heard since the last limit passed
abbrev pub IsInTurn : Step → SenderData → Type 0
IsInTurn (hears heard_line moment) s = Unit {0}
IsInTurn (ticks moment) s = (next_of s ≡ None) ⊎ ((s.heard ≡ true) ⊎ (s.silent ≡ 0))
IsInTurn (issues text) s = Unit {0}
IsInTurn (gives moment) s = Unit {0}

-- each tick does
abbrev pub AreInTurn : List Step → SenderData → Type 0
AreInTurn [] s = Unit {0}
AreInTurn (step ∷ steps) s = IsInTurn step s × AreInTurn steps (after_step step s)

-- at least as many lines were sent since the last reply as limits passed in silence
pub record IsQuiet (since : ℕ) (s : SenderData) : Type 0 where
  pub sent_enough : s.ended ≡ None → s.ready ≡ true → s.heard ≡ false → s.silent ≤ since

-- one more limit than that may have passed, and then a line is to be sent
pub record OwesLine (since : ℕ) (s : SenderData) : Type 0 where
  pub one_more : s.ended ≡ None → s.ready ≡ true → s.heard ≡ false → s.silent ≤ since + 1
  pub unsent : s.ended ≡ None → s.ready ≡ true → s.heard ≡ false → since < s.silent → s.cursor ≤ s.issued

-- an `ok` that counts for a line comes while one is unacknowledged
abbrev pub IsAwaited : Step → SenderData → Type 0
IsAwaited (hears heard_line moment) s =
    is_ok heard_line ≡ true → s.swallow ≡ false → s.ready ≡ true → s.acked < s.issued
IsAwaited (ticks moment) s = Unit {0}
IsAwaited (issues text) s = Unit {0}
IsAwaited (gives moment) s = Unit {0}

-- each of them does
abbrev pub AreAwaited : List Step → SenderData → Type 0
AreAwaited [] s = Unit {0}
AreAwaited (step ∷ steps) s = IsAwaited step s × AreAwaited steps (after_step step s)
