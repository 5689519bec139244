-- What the steps of a sender keep and bring, in the words of the protocol.
use Rattle.std.specs.Prelude.{◌≡◌, ◌≢◌, ◌⊎◌, ◌↔◌, ℕ, ◌+◌, ◌-◌, ◌*◌, ◌<◌, ◌≤◌, Bool, true, false, not, ◌&&◌, List, [], ◌∷◌, ◌++◌, Option, None, Some, slice_get, is_some, ◌||◌, if◌then◌else◌}
use Rattle.byte_text.specs.Sendable.{IsSendable}
use Rattle.marlin_reply.specs.declared.reply.Reply.{Reply}
use Rattle.marlin_reply.specs.declared.reply.Reply.TheVariants as reply
use Rattle.send_window.specs.declared.session_end.SessionEnd.{SessionEnd}
use Rattle.send_window.specs.declared.session_end.SessionEnd.TheVariants.{NoAnswer, AskedBack, AskedAhead, Counts, Restarted, LostOk, NumbersUsed}
use Rattle.marlin_frame.specs.Numbering.{wire_number}
use Rattle.send_window.specs.Data.{SenderData, IsSound, new_sender, sender_after_dial, most_lines, most_silent, most_told}
use Rattle.send_window.specs.Hearing.{later, hear_step, tick_step, is_past, silent_limits}
use Rattle.send_window.specs.Sending.{hello, line, next_of, room_of, last_room_of, push_step, frame_step, IsFramable}
use Rattle.send_window.specs.Session.{Step, hears, ticks, issues, gives, after_step, after_steps, IsAllowed, AreAllowed, AreAfterHello, replies_of, texts_issued, HoldsIssued, IsSince, WaitsSince}
use Rattle.send_window.specs.Counting.{is_ok, is_resend, is_pending, own_oks, acked_of, acked_as, account_of, AreAwaited, IsInTurn, AreInTurn, traffic_of, IsSilent, IsQuiet, OwesLine}

-- a new sender is sound, a session begins so, and no step breaks it
abbrev pub StaysSound : Type 0
StaysSound =
    ((w l : ℕ) (by_number : Bool) → 1 ≤ w → w ≤ 16 → 1 ≤ l → IsSound (new_sender w by_number l))
    × ((s : SenderData) → IsSound s → IsSound (sender_after_dial s))
    × ((step : Step) (s : SenderData) → IsAllowed step s → IsSound s → IsSound (after_step step s))

-- the lines held are the issued ones above acked, after each step and after any steps of a session
abbrev pub HoldsLines : Type 0
HoldsLines =
    ((step : Step) (s : SenderData) (texts : List (List ℕ)) →
    HoldsIssued texts s → HoldsIssued (texts ++ texts_issued (step ∷ [])) (after_step step s))
    × ((steps : List Step) (s : SenderData) → HoldsIssued (texts_issued steps) (after_steps steps (sender_after_dial s)))

-- a line to be sent is an issued one above acked, at its own place; if the session isn't ready, it is the first one
pub record IsUnacknowledged (texts : List (List ℕ)) (s : SenderData) (place : ℕ) (text : List ℕ) : Type 0 where
  pub above_acked : s.acked < place
  pub was_issued : place ≤ s.issued
  pub its_text : slice_get texts (place - 1) ≡ Some text
  pub only_first : s.ready ≡ false → place ≡ 1

-- what goes out is the hello, before the session is ready, or an unacknowledged line; the hello has the number 0 or, if
-- `ok`s count by their numbers, the number of hellos before it
abbrev pub GivesHeldLines : Type 0
GivesHeldLines =
    (s : SenderData) (texts : List (List ℕ)) → IsSound s → HoldsIssued texts s →
    ((number : ℕ) → next_of s ≡ Some (hello number) → (s.ready ≡ false) × (number ≡ (if s.numbered then s.hellos else 0)))
    × ((place : ℕ) (text : List ℕ) → next_of s ≡ Some (line place text) → IsUnacknowledged texts s place text)

-- nothing goes out exactly if the session has ended, or no hello is due and the cursor is past the last line
abbrev pub GivesNothing : Type 0
GivesNothing =
    (s : SenderData) →
    (next_of s ≡ None) ↔ ((is_some s.ended ≡ true) ⊎ ((s.hello_due ≡ false) × (s.issued < s.cursor)))

-- the number that an `ok` names, if it is one
abbrev pub ok_number : Reply → Option (Option ℕ)
ok_number (reply.Ok number _ _ _) = Some number
ok_number (reply.Resend _) = None
ok_number reply.Start = None
ok_number reply.Busy = None
ok_number (reply.Temps _) = None
ok_number reply.Error = None
ok_number reply.Other = None

-- an `ok` that isn't swallowed
abbrev pub is_counted : Step → SenderData → Bool
is_counted (hears heard_line moment) s = is_ok heard_line && not s.swallow
is_counted (ticks moment) s = false
is_counted (issues text) s = false
is_counted (gives moment) s = false

-- the step hears an `ok` that names the line at this place
abbrev pub IsOkOf : ℕ → Step → Type 0
IsOkOf place (hears heard_line moment) = ok_number heard_line ≡ Some (Some (wire_number place))
IsOkOf place (ticks moment) = ⊥
IsOkOf place (issues text) = ⊥
IsOkOf place (gives moment) = ⊥

-- the step hears such a Resend
abbrev pub IsRetold : Step → SenderData → Type 0
IsRetold (hears heard_line moment) s =
    (heard_line ≡ reply.Resend (wire_number (s.issued + 1))) × (s.doubts ≡ true) × (s.acked < s.issued) × (room_of s ≡ 0)
IsRetold (ticks moment) s = ⊥
IsRetold (issues text) s = ⊥
IsRetold (gives moment) s = ⊥

-- acked never falls. If `ok`s are counted, it rises by one at most, and only by one that isn't swallowed; if they count by
-- their numbers, it rises only to an issued line that an `ok` names
abbrev pub AckedRises : Type 0
AckedRises =
    (step : Step) (s : SenderData) →
    (s.acked ≤ (after_step step s).acked)
    × (s.numbered ≡ false → (after_step step s).acked ≤ s.acked + 1)
    × (s.numbered ≡ false → is_counted step s ≡ false → (after_step step s).acked ≡ s.acked)
    × (s.numbered ≡ true → s.acked < (after_step step s).acked →
    IsOkOf (after_step step s).acked step × ((after_step step s).acked ≤ s.issued))

-- a Resend acknowledges nothing, nor does the `ok` after it if `ok`s are counted
abbrev pub ResendKeepsAcked : Type 0
ResendKeepsAcked =
    (number moment : ℕ) (s : SenderData) →
    ((hear_step (reply.Resend number) moment s).acked ≡ s.acked)
    × ((heard_line : Reply) (later_moment : ℕ) → s.numbered ≡ false → is_ok heard_line ≡ true →
    (hear_step heard_line later_moment (hear_step (reply.Resend number) moment s)).acked ≡ s.acked)

-- an end stays, acked with it, and nothing more goes out or is issued
abbrev pub EndStays : Type 0
EndStays =
    (s : SenderData) (why : SessionEnd) → s.ended ≡ Some why →
    (next_of s ≡ None) × (last_room_of s ≡ 0)
    × ((step : Step) → ((after_step step s).ended ≡ Some why) × ((after_step step s).acked ≡ s.acked))

-- an `ok` that acknowledges the last line that a session may have
pub record IsLastOk (heard_line : Reply) (s : SenderData) : Type 0 where
  pub its_line : (ok_number heard_line ≡ Some None) ⊎ (ok_number heard_line ≡ Some (Some (wire_number (s.acked + 1))))
  pub own : s.swallow ≡ false
  pub after_hello : s.ready ≡ true
  pub awaited : s.acked < s.issued
  pub last : s.acked + 1 ≡ most_lines

-- an `ok` that names the last line that a session may have
pub record IsLastNamed (heard_line : Reply) (s : SenderData) : Type 0 where
  pub its_line : ok_number heard_line ≡ Some (Some (wire_number most_lines))
  pub after_hello : s.ready ≡ true
  pub awaited : s.acked < most_lines
  pub issued : most_lines ≤ s.issued

-- an `ok` that acknowledges the last line, by whether it counts only by its number
abbrev pub IsLast : Bool → Reply → SenderData → Type 0
IsLast false heard_line s = IsLastOk heard_line s
IsLast true heard_line s = IsLastNamed heard_line s

-- an `ok` of a ready session that doesn't fit: it names another line than the next one to acknowledge, or, if it counts
-- only by its number, one after the last issued one
abbrev pub IsMisfit : Bool → ℕ → Reply → SenderData → Type 0
IsMisfit false number heard_line s =
    (ok_number heard_line ≡ Some (Some number)) × (s.swallow ≡ false) × (s.ready ≡ true)
    × (number ≢ wire_number (s.acked + 1))
IsMisfit true number heard_line s =
    (ok_number heard_line ≡ Some (Some number)) × (s.ready ≡ true) × (wire_number s.issued < number)

-- what a reply must be to end the session so
abbrev pub IsEndedBy : SessionEnd → Reply → SenderData → Type 0
IsEndedBy (NoAnswer _) heard_line s = ⊥
IsEndedBy (AskedBack number acknowledged) heard_line s =
    (heard_line ≡ reply.Resend number) × (s.ready ≡ true)
    × (number ≤ wire_number s.acked) × (acknowledged ≡ wire_number s.acked)
IsEndedBy (AskedAhead number all) heard_line s =
    (heard_line ≡ reply.Resend number) × (s.ready ≡ true) × (wire_number (s.issued + 1) < number)
    × (wire_number s.acked < number) × (all ≡ wire_number s.issued)
IsEndedBy (Counts number expected) heard_line s =
    IsMisfit s.numbered number heard_line s × (expected ≡ wire_number (s.acked + 1))
IsEndedBy Restarted heard_line s = (heard_line ≡ reply.Start) × (s.ready ≡ true)
IsEndedBy (LostOk limits) heard_line s = ⊥
IsEndedBy (NumbersUsed all) heard_line s = IsLast s.numbered heard_line s × (all ≡ s.issued)

-- what a tick must find to end the session so: the fifth limit in a row has passed with nothing heard or without the `ok` of the hello, or the
-- twentieth in which the printer asked for the line after the last issued one
abbrev pub IsEndedAt : SessionEnd → ℕ → SenderData → Type 0
IsEndedAt (NoAnswer count) moment s =
    (is_past s.deadline moment ≡ true) × ((s.heard ≡ false) ⊎ (s.ready ≡ false)) × (s.silent + 1 ≡ most_silent) × (count ≡ most_silent)
IsEndedAt (LostOk limits) moment s =
    (is_past s.deadline moment ≡ true) × (s.asked_anew ≡ true) × (s.asked ≡ s.issued + 1) × (s.told + 1 ≡ most_told)
    × (silent_limits s ≢ most_silent) × (limits ≡ most_told)
IsEndedAt (AskedBack _ _) moment s = ⊥
IsEndedAt (AskedAhead _ _) moment s = ⊥
IsEndedAt (Counts _ _) moment s = ⊥
IsEndedAt Restarted moment s = ⊥
IsEndedAt (NumbersUsed _) moment s = ⊥

-- each end comes exactly if its rule says
abbrev pub EndsByRule : Type 0
EndsByRule =
    (why : SessionEnd) (s : SenderData) (moment : ℕ) → s.ended ≡ None →
    ((heard_line : Reply) → ((hear_step heard_line moment s).ended ≡ Some why) ↔ IsEndedBy why heard_line s)
    × (((tick_step moment s).ended ≡ Some why) ↔ IsEndedAt why moment s)

-- if `ok`s are counted, after any steps of a session acked is at most what the replies alone say, and just that if the
-- session hasn't ended and each `ok` that counts for a line came while one was unacknowledged
abbrev pub AckedIsCounted : Type 0
AckedIsCounted =
    (steps : List Step) (s : SenderData) → s.numbered ≡ false →
    ((after_steps steps (sender_after_dial s)).acked ≤ acked_of (replies_of steps))
    × ((after_steps steps (sender_after_dial s)).ended ≡ None → AreAwaited steps (sender_after_dial s) →
    (after_steps steps (sender_after_dial s)).acked ≡ acked_of (replies_of steps))

-- the same if `ok`s count by their numbers and no line is issued before the `ok` of the hello: acked is at most what lines and replies
-- say, and just that if the session hasn't ended
abbrev pub AckedIsNamed : Type 0
AckedIsNamed =
    (steps : List Step) (s : SenderData) → IsSound s → s.numbered ≡ true → AreAllowed steps (sender_after_dial s) →
    AreAfterHello steps (sender_after_dial s) →
    let traffic = traffic_of steps (sender_after_dial s) in
    ((after_steps steps (sender_after_dial s)).acked ≤ acked_as true traffic)
    × ((after_steps steps (sender_after_dial s)).ended ≡ None →
    (after_steps steps (sender_after_dial s)).acked ≡ acked_as true traffic)

-- one more reply counts if it is an `ok` and no Resend is pending; a Resend is pending from then on to the next `ok`
abbrev pub CountsNext : Type 0
CountsNext =
    (replies : List Reply) (next : Reply) →
    (own_oks reply.Start (replies ++ next ∷ [])
    ≡ own_oks reply.Start replies + (if is_ok next && not (is_pending replies) then 1 else 0))
    × (is_pending (replies ++ next ∷ []) ≡ (is_resend next || (not (is_ok next) && is_pending replies)))

-- if `ok`s are counted, the swallow flag is set exactly if a Resend is pending, and the session is ready from the first
-- `ok` that counts
abbrev pub FlagsAreCounted : Type 0
FlagsAreCounted =
    (steps : List Step) (s : SenderData) → s.numbered ≡ false → (after_steps steps (sender_after_dial s)).ended ≡ None →
    ((after_steps steps (sender_after_dial s)).swallow ≡ is_pending (replies_of steps))
    × (((after_steps steps (sender_after_dial s)).ready ≡ true) ↔ (1 ≤ own_oks reply.Start (replies_of steps)))

-- if `ok`s count by their numbers, no `ok` is ever passed over; if no line is issued before the `ok` of the hello, each hello has its
-- own number, and the session is ready from the `ok` of the last one on
abbrev pub FlagsAreNamed : Type 0
FlagsAreNamed =
    (steps : List Step) (s : SenderData) → IsSound s → s.numbered ≡ true → AreAllowed steps (sender_after_dial s) →
    AreAfterHello steps (sender_after_dial s) → (after_steps steps (sender_after_dial s)).ended ≡ None →
    let account = account_of (traffic_of steps (sender_after_dial s)) in
    ((after_steps steps (sender_after_dial s)).swallow ≡ false)
    × ((after_steps steps (sender_after_dial s)).hellos ≡ account.hellos)
    × ((after_steps steps (sender_after_dial s)).ready ≡ account.begun)

-- how the steps of a turn keep what a silent limit owes: a tick may owe a line, and once nothing is unsent none is owed
abbrev pub SendsInSilence : Type 0
SendsInSilence =
    ((heard_line : Reply) (moment : ℕ) (s : SenderData) → IsQuiet 0 (hear_step heard_line moment s))
    × ((moment since : ℕ) (s : SenderData) → IsSound s → IsQuiet since s → OwesLine since (tick_step moment s))
    × ((text : List ℕ) (since : ℕ) (s : SenderData) → OwesLine since s → OwesLine since (push_step text s))
    × ((moment since : ℕ) (s : SenderData) → IsSound s → OwesLine since s → is_some (next_of s) ≡ true →
    IsQuiet (since + 1) (frame_step moment s))
    × ((since : ℕ) (s : SenderData) → IsSound s → OwesLine since s → next_of s ≡ None → IsQuiet since s)

-- a session ends with no answer only if the printer is silent by the replies and lines alone, if at each tick
-- nothing was unsent, and no line is issued before the `ok` of the hello
abbrev pub EndsInSilence : Type 0
EndsInSilence =
    (steps : List Step) (s : SenderData) (moment count : ℕ) → IsSound s →
    AreAllowed steps (sender_after_dial s) → AreAfterHello steps (sender_after_dial s) → AreInTurn steps (sender_after_dial s) →
    let before = after_steps steps (sender_after_dial s) in
    IsInTurn (ticks moment) before → before.ended ≡ None →
    (tick_step moment before).ended ≡ Some (NoAnswer count) →
    IsSilent s.numbered (traffic_of steps (sender_after_dial s))

-- no session ends with no answer sooner than five limits after it began or a line was acknowledged, nor if the
-- hello and all issued lines are acknowledged; and for a missing `ok` none sooner than twenty, nor without such a line
abbrev pub WaitsFiveLimits : Type 0
WaitsFiveLimits =
    ((start : ℕ) (s : SenderData) → WaitsSince start (sender_after_dial s))
    × ((start : ℕ) (step : Step) (s : SenderData) → IsSound s → IsSince start step → WaitsSince start s → WaitsSince start (after_step step s))
    × ((heard_line : Reply) (moment : ℕ) (s : SenderData) → s.acked < (hear_step heard_line moment s).acked → WaitsSince moment (hear_step heard_line moment s))
    × ((start moment count : ℕ) (s : SenderData) → IsSound s → WaitsSince start s → s.ended ≡ None → (tick_step moment s).ended ≡ Some (NoAnswer count) →
    (later start (most_silent * s.limit) ≤ moment) × ((s.ready ≡ false) ⊎ (s.acked < s.issued)))
    × ((start moment limits : ℕ) (s : SenderData) → IsSound s → WaitsSince start s → s.ended ≡ None → (tick_step moment s).ended ≡ Some (LostOk limits) →
    (later start (most_told * s.limit) ≤ moment) × (s.ready ≡ true) × (s.acked < s.issued))

-- what may be unacknowledged beyond the window changes only so: an `ok` that acknowledges a line sets it back; it rises by one if a Resend
-- says, for the first time since a limit passed, that the printer has all issued lines, one isn't acknowledged, and none may be issued
abbrev pub ExtraIsGiven : Type 0
ExtraIsGiven =
    (step : Step) (s : SenderData) → IsSound s → (after_step step s).extra ≢ s.extra →
    (s.numbered ≡ true)
    × (((s.acked < (after_step step s).acked) × ((after_step step s).extra ≡ 0))
    ⊎ (IsRetold step s × ((after_step step s).extra ≡ s.extra + 1) × ((after_step step s).doubts ≡ false)))

-- a text that may be sent is one that a frame can carry
abbrev pub CarriesSendable : Type 0
CarriesSendable = (text : List ℕ) → IsSendable text → IsFramable text

-- no step changes by what an `ok` counts
abbrev pub KeepsKind : Type 0
KeepsKind = (step : Step) (s : SenderData) → (after_step step s).numbered ≡ s.numbered

-- what neither the clock nor a frame that goes out changes
pub record KeepsLines (old new : SenderData) : Type 0 where
  pub issued : new.issued ≡ old.issued
  pub acked : new.acked ≡ old.acked
  pub held : new.held ≡ old.held
  pub ready : new.ready ≡ old.ready
  pub swallow : new.swallow ≡ old.swallow

-- ticks and frames that go out issue and acknowledge nothing
abbrev pub KeepsAllLines : Type 0
KeepsAllLines =
    (moment : ℕ) (s : SenderData) → KeepsLines s (tick_step moment s) × KeepsLines s (frame_step moment s)
