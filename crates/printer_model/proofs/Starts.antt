-- A history from an Opened on: its last session, and what was executed and received in it.
use Rattle.std.proofs.Common.{◌≡◌, ℕ, zero, suc, pred, ◌≤◌, Bool, true, false, ◌&&◌, List, [], ◌∷◌, ◌++◌, length, drop, refl, sym, ◌∙◌, ap, append_assoc, arith}
use Rattle.std.specs.Prelude.{filter}
use Rattle.std.specs.List.{list_all}
use Rattle.std.proofs.Math.Seq.{drop-append_seam}
use Rattle.printer_model.specs.Printer.{Logged}
use Rattle.printer_model.specs.World.{WorldData, apply, world_from, world_of, is_free, is_run}
use Rattle.printer_model.specs.Executed.{opens, till, is_counted, executed}
use Rattle.printer_model.specs.Exchanged.{events_of_session, received_by, received_from, sent_by, sends_since}
use Rattle.printer_model.specs.declared.oks.Oks.{Oks}
use Rattle.printer_model.specs.declared.event.WorldEvent.{WorldEvent}
use Rattle.printer_model.specs.declared.event.WorldEvent.TheVariants.{Opened, Send, Arrive, Lose, LoseReply, Garble, Run, Restart, Chatter, Recv, Closed}
use Rattle.printer_model.proofs.Sessions.{till-all, opens-append}
use Rattle.std.proofs.lemmas.Bool.{and_parts}

free_opens_none : (event : WorldEvent) (past : List WorldEvent) → is_free event ≡ true → opens (event ∷ past) ≡ opens past
free_opens_none (Opened last) past free = absurd (cc)
free_opens_none (Send line) past free = absurd (cc)
free_opens_none Arrive past free = refl
free_opens_none (Lose at) past free = refl
free_opens_none (LoseReply at) past free = refl
free_opens_none (Garble at line) past free = refl
free_opens_none Run past free = refl
free_opens_none Restart past free = refl
free_opens_none (Chatter reply) past free = refl
free_opens_none Recv past free = absurd (cc)
free_opens_none Closed past free = absurd (cc)

-- what the line and the printer do by themselves opens no session
pub opens-free : (events : List WorldEvent) → list_all is_free events ≡ true → opens events ≡ 0
opens-free [] free = refl
opens-free (event ∷ events) free =
    free_opens_none event events (and_parts (is_free event) (list_all is_free events) free).0
    ∙ opens-free events (and_parts (is_free event) (list_all is_free events) free).1

run_is_free : (event : WorldEvent) → is_run event ≡ true → is_free event ≡ true
run_is_free (Opened last) run = absurd (cc)
run_is_free (Send line) run = absurd (cc)
run_is_free Arrive run = refl
run_is_free (Lose at) run = refl
run_is_free (LoseReply at) run = refl
run_is_free (Garble at line) run = refl
run_is_free Run run = refl
run_is_free Restart run = refl
run_is_free (Chatter reply) run = refl
run_is_free Recv run = absurd (cc)
run_is_free Closed run = absurd (cc)

both_hold : (a b : Bool) → a ≡ true → b ≡ true → (a && b) ≡ true
both_hold true b first second = second
both_hold false b first second = absurd (cc)

-- runs are something that the printer does by itself
pub runs-free : (events : List WorldEvent) → list_all is_run events ≡ true → list_all is_free events ≡ true
runs-free [] runs = refl
runs-free (event ∷ events) runs =
    both_hold (is_free event) (list_all is_free events)
    (run_is_free event (and_parts (is_run event) (list_all is_run events) runs).0)
    (runs-free events (and_parts (is_run event) (list_all is_run events) runs).1)

-- an Opened ends the sessions before it
pub till-stop : (past rest : List WorldEvent) (last : ℕ) → till (opens past) (past ++ Opened last ∷ rest) ≡ past
till-stop [] rest last = refl
till-stop (Opened l ∷ past) rest last = ap (λ (es : List WorldEvent). Opened l ∷ es) (till-stop past rest last)
till-stop (Send line ∷ past) rest last = ap (λ (es : List WorldEvent). Send line ∷ es) (till-stop past rest last)
till-stop (Arrive ∷ past) rest last = ap (λ (es : List WorldEvent). Arrive ∷ es) (till-stop past rest last)
till-stop (Lose at ∷ past) rest last = ap (λ (es : List WorldEvent). Lose at ∷ es) (till-stop past rest last)
till-stop (LoseReply at ∷ past) rest last = ap (λ (es : List WorldEvent). LoseReply at ∷ es) (till-stop past rest last)
till-stop (Garble at line ∷ past) rest last = ap (λ (es : List WorldEvent). Garble at line ∷ es) (till-stop past rest last)
till-stop (Run ∷ past) rest last = ap (λ (es : List WorldEvent). Run ∷ es) (till-stop past rest last)
till-stop (Restart ∷ past) rest last = ap (λ (es : List WorldEvent). Restart ∷ es) (till-stop past rest last)
till-stop (Chatter reply ∷ past) rest last = ap (λ (es : List WorldEvent). Chatter reply ∷ es) (till-stop past rest last)
till-stop (Recv ∷ past) rest last = ap (λ (es : List WorldEvent). Recv ∷ es) (till-stop past rest last)
till-stop (Closed ∷ past) rest last = ap (λ (es : List WorldEvent). Closed ∷ es) (till-stop past rest last)

-- a history whose last Opened is here
record IsLast (front rest : List WorldEvent) (last : ℕ) : Type 0 where
  here : till (suc (opens front)) (front ++ Opened last ∷ rest) ≡ front ++ Opened last ∷ rest
  before : till (opens front) (front ++ Opened last ∷ rest) ≡ front

last_session : (front rest : List WorldEvent) (last : ℕ) → opens rest ≡ 0 → IsLast front rest last
last_session front rest last none = record {
  here = till-all (suc (opens front)) (front ++ Opened last ∷ rest) (omega (arith, opens-append front (Opened last ∷ rest), none));
  before = till-stop front rest last;
}

-- its events are those from that Opened on
pub session_of-last : (front rest : List WorldEvent) (last : ℕ) → opens rest ≡ 0 →
    events_of_session (suc (opens front)) (front ++ Opened last ∷ rest) ≡ Opened last ∷ rest
session_of-last front rest last none =
    let all = front ++ Opened last ∷ rest in
    let is = last_session front rest last none in
    ap (λ (es : List WorldEvent). drop (length es) (till (suc (opens front)) all)) is.before
    ∙ ap (drop (length front)) is.here
    ∙ drop-append_seam front (Opened last ∷ rest)

-- and what was executed in it is what the log gained from that Opened on
pub executed-from : (slots : ℕ) (oks : Oks) (front rest : List WorldEvent) (last : ℕ) (lines : List Logged) → opens rest ≡ 0 →
    (world_of slots oks (front ++ Opened last ∷ rest)).log ≡ (world_of slots oks front).log ++ lines →
    executed slots oks (front ++ Opened last ∷ rest) (suc (opens front)) ≡ filter is_counted lines
executed-from slots oks front rest last lines none grew =
    let all = front ++ Opened last ∷ rest in
    let start = (world_of slots oks front).log in
    let is = last_session front rest last none in
    ap (λ (es : List WorldEvent). filter is_counted (drop (length (world_of slots oks es).log) (world_of slots oks (till (suc (opens front)) all)).log)) is.before
    ∙ ap (λ (es : List WorldEvent). filter is_counted (drop (length start) (world_of slots oks es).log)) is.here
    ∙ ap (λ (log : List Logged). filter is_counted (drop (length start) log)) grew
    ∙ ap (filter is_counted) (drop-append_seam start lines)

-- whether a session of these ends by their own end or before
till_before : (s : ℕ) (past rest : List WorldEvent) (last : ℕ) → s ≤ opens past → till s (past ++ Opened last ∷ rest) ≡ till s past
till_before s [] rest last within = let none : s ≡ zero = omega arith in ap (λ (k : ℕ). till k (Opened last ∷ rest)) none
till_before zero (Opened l ∷ past) rest last within = refl
till_before (suc s) (Opened l ∷ past) rest last within = ap (λ (es : List WorldEvent). Opened l ∷ es) (till_before s past rest last (omega arith))
till_before s (Send line ∷ past) rest last within = ap (λ (es : List WorldEvent). Send line ∷ es) (till_before s past rest last within)
till_before s (Arrive ∷ past) rest last within = ap (λ (es : List WorldEvent). Arrive ∷ es) (till_before s past rest last within)
till_before s (Lose at ∷ past) rest last within = ap (λ (es : List WorldEvent). Lose at ∷ es) (till_before s past rest last within)
till_before s (LoseReply at ∷ past) rest last within = ap (λ (es : List WorldEvent). LoseReply at ∷ es) (till_before s past rest last within)
till_before s (Garble at line ∷ past) rest last within = ap (λ (es : List WorldEvent). Garble at line ∷ es) (till_before s past rest last within)
till_before s (Run ∷ past) rest last within = ap (λ (es : List WorldEvent). Run ∷ es) (till_before s past rest last within)
till_before s (Restart ∷ past) rest last within = ap (λ (es : List WorldEvent). Restart ∷ es) (till_before s past rest last within)
till_before s (Chatter reply ∷ past) rest last within = ap (λ (es : List WorldEvent). Chatter reply ∷ es) (till_before s past rest last within)
till_before s (Recv ∷ past) rest last within = ap (λ (es : List WorldEvent). Recv ∷ es) (till_before s past rest last within)
till_before s (Closed ∷ past) rest last within = ap (λ (es : List WorldEvent). Closed ∷ es) (till_before s past rest last within)

pred_within : (s n : ℕ) → s ≤ n → pred s ≤ n
pred_within zero n within = within
pred_within (suc s) n within = omega arith

-- another session leaves what was executed in those before it
pub executed-before : (slots : ℕ) (oks : Oks) (past rest : List WorldEvent) (last s : ℕ) → s ≤ opens past →
    executed slots oks (past ++ Opened last ∷ rest) s ≡ executed slots oks past s
executed-before slots oks past rest last s within =
    let all = past ++ Opened last ∷ rest in
    ap (λ (es : List WorldEvent). filter is_counted (drop (length (world_of slots oks es).log) (world_of slots oks (till s all)).log))
    (till_before (pred s) past rest last (pred_within s (opens past) within))
    ∙ ap (λ (es : List WorldEvent). filter is_counted (drop (length (world_of slots oks (till (pred s) past)).log) (world_of slots oks es).log))
    (till_before s past rest last within)

-- what is received by events in two parts
pub received_from-append : (w : WorldData) (first more : List WorldEvent) →
    received_from w (first ++ more) ≡ received_from w first ++ received_from (world_from w first) more
received_from-append w [] more = refl
received_from-append w (event ∷ first) more =
    ap (λ (lines : List (List ℕ)). received_by w event ++ lines) (received_from-append (apply w event) first more)
    ∙ sym (append_assoc (received_by w event) (received_from (apply w event) first) (received_from (world_from (apply w event) first) more))

free_gives_none : (w : WorldData) (event : WorldEvent) → is_free event ≡ true → received_by w event ≡ []
free_gives_none w (Opened last) free = refl
free_gives_none w (Send line) free = refl
free_gives_none w Arrive free = refl
free_gives_none w (Lose at) free = refl
free_gives_none w (LoseReply at) free = refl
free_gives_none w (Garble at line) free = refl
free_gives_none w Run free = refl
free_gives_none w Restart free = refl
free_gives_none w (Chatter reply) free = refl
free_gives_none w Recv free = absurd (cc)
free_gives_none w Closed free = refl

-- by what the line and the printer do by themselves nothing is received
pub received_from-free : (w : WorldData) (events : List WorldEvent) → list_all is_free events ≡ true → received_from w events ≡ []
received_from-free w [] free = refl
received_from-free w (event ∷ events) free =
    ap (λ (lines : List (List ℕ)). lines ++ received_from (apply w event) events)
    (free_gives_none w event (and_parts (is_free event) (list_all is_free events) free).0)
    ∙ received_from-free (apply w event) events (and_parts (is_free event) (list_all is_free events) free).1

-- the lines sent since a reply, over events in two parts
pub sends_since-append : (count : ℕ) (first more : List WorldEvent) →
    sends_since count (first ++ more) ≡ sends_since (sends_since count first) more
sends_since-append count [] more = refl
sends_since-append count (event ∷ first) more = sends_since-append (sent_by count event) first more

free_sends_none : (count : ℕ) (event : WorldEvent) → is_free event ≡ true → sent_by count event ≡ count
free_sends_none count (Opened last) free = refl
free_sends_none count (Send line) free = absurd (cc)
free_sends_none count Arrive free = refl
free_sends_none count (Lose at) free = refl
free_sends_none count (LoseReply at) free = refl
free_sends_none count (Garble at line) free = refl
free_sends_none count Run free = refl
free_sends_none count Restart free = refl
free_sends_none count (Chatter reply) free = refl
free_sends_none count Recv free = absurd (cc)
free_sends_none count Closed free = refl

-- what the line and the printer do by themselves sends and receives nothing
pub sends_since-free : (count : ℕ) (events : List WorldEvent) → list_all is_free events ≡ true → sends_since count events ≡ count
sends_since-free count [] free = refl
sends_since-free count (event ∷ events) free =
    ap (λ (n : ℕ). sends_since n events) (free_sends_none count event (and_parts (is_free event) (list_all is_free events) free).0)
    ∙ sends_since-free count events (and_parts (is_free event) (list_all is_free events) free).1
