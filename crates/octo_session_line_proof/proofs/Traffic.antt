-- The lines and replies of a session, over more events.
use Rattle.std.proofs.Common.{◌≡◌, ℕ, ◌+◌, Bool, true, false, List, [], ◌∷◌, ◌++◌, map, refl, sym, ◌∙◌, ap, append_assoc}
use Rattle.std.specs.Prelude.{if◌then◌else◌}
use Rattle.std.specs.List.{list_all}
use Rattle.std.proofs.lemmas.Bool.{and_parts}
use Rattle.std.proofs.lemmas.List.{map-append}
use Rattle.marlin_reply.specs.Kind.{kind_of}
use Rattle.printer_model.specs.World.{WorldData, is_free, apply, world_from}
use Rattle.printer_model.specs.Exchanged.{received_by, received_from, replies_from}
use Rattle.printer_model.specs.declared.event.WorldEvent.{WorldEvent}
use Rattle.printer_model.specs.declared.event.WorldEvent.TheVariants.{Opened, Send, Arrive, Lose, LoseReply, Garble, Run, Restart, Chatter, Recv, Closed}
use Rattle.marlin_reply.specs.declared.reply.Reply.{Reply}
use Rattle.send_window.specs.Counting.{Traffic, sent, received, received_of, Account, with_traffic, account_of}
use Rattle.send_window.proofs.Named.{after_traffic-append}
use Rattle.octo_session.specs.Sends.{traffic_by, traffic_from}

pub received_of-append : (xs ys : List Traffic) → received_of (xs ++ ys) ≡ received_of xs ++ received_of ys
received_of-append [] ys = refl
received_of-append (sent ∷ xs) ys = received_of-append xs ys
received_of-append (received reply ∷ xs) ys = ap (λ (l : List Reply). reply ∷ l) (received_of-append xs ys)

pub traffic_from-append : (w : WorldData) (xs ys : List WorldEvent) → traffic_from w (xs ++ ys) ≡ traffic_from w xs ++ traffic_from (world_from w xs) ys
traffic_from-append w [] ys = refl
traffic_from-append w (event ∷ xs) ys =
    ap (λ (l : List Traffic). traffic_by w event ++ l) (traffic_from-append (apply w event) xs ys)
    ∙ sym (append_assoc (traffic_by w event) (traffic_from (apply w event) xs) (traffic_from (world_from (apply w event) xs) ys))

-- what the line and the printer do brings none
free_by : (w : WorldData) (event : WorldEvent) → is_free event ≡ true → traffic_by w event ≡ []
free_by w (Opened last) free = absurd (cc)
free_by w (Send line) free = absurd (cc)
free_by w Arrive free = refl
free_by w (Lose at) free = refl
free_by w (LoseReply at) free = refl
free_by w (Garble at line) free = refl
free_by w Run free = refl
free_by w Restart free = refl
free_by w (Chatter reply) free = refl
free_by w Recv free = absurd (cc)
free_by w Closed free = absurd (cc)

pub traffic_from-free : (w : WorldData) (events : List WorldEvent) → list_all is_free events ≡ true → traffic_from w events ≡ []
traffic_from-free w [] free = refl
traffic_from-free w (event ∷ events) free =
    let both = and_parts (is_free event) (list_all is_free events) free in
    ap (λ (l : List Traffic). l ++ traffic_from (apply w event) events) (free_by w event both.0) ∙ traffic_from-free (apply w event) events both.1

-- the replies among it
lines_received : (lines : List (List ℕ)) → received_of (map (λ line. received (kind_of line)) lines) ≡ map kind_of lines
lines_received [] = refl
lines_received (line ∷ lines) = ap (λ (l : List Reply). kind_of line ∷ l) (lines_received lines)

received_by_event : (w : WorldData) (event : WorldEvent) → received_of (traffic_by w event) ≡ map kind_of (received_by w event)
received_by_event w (Opened last) = refl
received_by_event w (Send line) = refl
received_by_event w Arrive = refl
received_by_event w (Lose at) = refl
received_by_event w (LoseReply at) = refl
received_by_event w (Garble at line) = refl
received_by_event w Run = refl
received_by_event w Restart = refl
received_by_event w (Chatter reply) = refl
received_by_event w Recv = lines_received (received_by w Recv)
received_by_event w Closed = refl

pub received_of-from : (w : WorldData) (events : List WorldEvent) → received_of (traffic_from w events) ≡ replies_from w events
received_of-from w [] = refl
received_of-from w (event ∷ events) =
    received_of-append (traffic_by w event) (traffic_from (apply w event) events)
    ∙ ap (λ (l : List Reply). l ++ received_of (traffic_from (apply w event) events)) (received_by_event w event)
    ∙ ap (λ (l : List Reply). map kind_of (received_by w event) ++ l) (received_of-from (apply w event) events)
    ∙ sym (map-append kind_of (received_by w event) (received_from (apply w event) events))

-- a line that is sent begins and acknowledges nothing
sent_keeps : (c : Account) (begun : Bool) → ((if begun then c else record c { hellos = c.hellos + 1 }).begun ≡ c.begun)
    × ((if begun then c else record c { hellos = c.hellos + 1 }).acked ≡ c.acked)
sent_keeps c true = (refl, refl)
sent_keeps c false = (refl, refl)

pub account_sent : (traffic : List Traffic) → ((account_of (traffic ++ sent ∷ [])).begun ≡ (account_of traffic).begun)
    × ((account_of (traffic ++ sent ∷ [])).acked ≡ (account_of traffic).acked)
account_sent traffic =
    let same : account_of (traffic ++ sent ∷ []) ≡ with_traffic sent (account_of traffic) = after_traffic-append traffic (sent ∷ []) (record { hellos = 0; begun = false; acked = 0 }) in
    let keeps = sent_keeps (account_of traffic) (account_of traffic).begun in
    (ap (λ (c : Account). c.begun) same ∙ keeps.0, ap (λ (c : Account). c.acked) same ∙ keeps.1)

pub account_received : (traffic : List Traffic) (reply : Reply) → account_of (traffic ++ received reply ∷ []) ≡ with_traffic (received reply) (account_of traffic)
account_received traffic reply = after_traffic-append traffic (received reply ∷ []) (record { hellos = 0; begun = false; acked = 0 })
