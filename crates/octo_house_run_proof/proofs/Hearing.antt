-- What a turn notes of the temperatures that it received.
use Rattle.std.proofs.Common.{◌≡◌, ◌≢◌, ◌⊎◌, inl, inr, ℕ, suc, zero, Bool, true, false, if◌then◌else◌, List, [], ◌∷◌, ◌++◌, replicate, Option, None, Some, refl, sym, ap, subst, ◌∙◌, append_assoc}
use Rattle.std.specs.Prelude.{IfSome}
use Rattle.octo_outside.specs.Recorded.{Became}
use Rattle.octo_outside.proofs.Recorded.{became_so, became_then, became_same}
use Rattle.marlin_reply.specs.Kind.{kind_of}
use Rattle.marlin_reply.specs.declared.reply.Temps.{Temps}
use Rattle.job_desk.specs.declared.issued.Note.{Note}
use Rattle.job_desk.specs.declared.link_fact.LinkFact.{LinkFact}
use Rattle.job_desk.specs.declared.link_fact.LinkFact.TheVariants as fact
use Rattle.send_window.specs.Data.{SenderData}
use Rattle.send_window.specs.Sending.{Outgoing, bytes_of_outgoing, next_of}
use Rattle.octo_asks.specs.History.{History}
use Rattle.octo_asks.specs.declared.entry.Entry.TheVariants as entry
use Rattle.octo_session.specs.Data.{SessionData, doing}
use Rattle.octo_session.specs.Found.{Got, unasked, lost, nothing, whole, temps_in, temps_of_reply}
use Rattle.octo_session.specs.Steps.{Step, opens, finds_no_port, fails_to_dial, hears, listens, fails_to_receive, ticks, issues, gives, fails_to_send, hangs_up, IsDone, IsGiven, AreAdded, after_step, issuing, sends, issues_then_sends, clock_steps, steps_over_link, dial_steps, turn_steps}
use Rattle.octo_session.specs.Turn.{IsTurn, texts_in}
use Rattle.octo_session.specs.declared.found.Doing.{Doing}
use Rattle.octo_session.specs.declared.found.Doing.TheVariants.{Dialling, HangingUp, UsingLink, Resting}
use Rattle.octo_session.specs.declared.found.Turned.{Turned}
use Rattle.printer_link.specs.Link.{LinkKind, IsSend, IsSendOf, IsSendLoss, IsHeard, MaySendFailing, IsHangUp, world_in}
use Rattle.printer_model.specs.Exchanged.{received_by, received_from, front_line}
use Rattle.printer_model.specs.World.{WorldData, world_from}
use Rattle.printer_model.specs.declared.event.WorldEvent.{WorldEvent}
use Rattle.printer_model.specs.declared.event.WorldEvent.TheVariants as event
use Rattle.printer_model.proofs.Laws.{world_of-append}
use Rattle.printer_model.proofs.Starts.{received_from-append, received_from-free, runs-free}
use Rattle.octo_house_run_proof.specs.Rounds.{IsCallAt, AsksAt, history_of_note}
use Rattle.octo_house_rules.specs.Temps.{temps_list, temps_of_entry, temps_noted, temps_reported, NotesTemps}

-- the line that a step receives
abbrev pub heard_by : Step → List (List ℕ)
heard_by (hears bytes) = bytes ∷ []
heard_by _ = []

-- the lines that steps receive
abbrev pub heard_all : List Step → List (List ℕ)
heard_all [] = []
heard_all (step ∷ steps) = heard_by step ++ heard_all steps

heard_append : (first more : List Step) → heard_all (first ++ more) ≡ heard_all first ++ heard_all more
heard_append [] more = refl
heard_append (step ∷ first) more =
    ap (λ (lines : List (List ℕ)). heard_by step ++ lines) (heard_append first more) ∙ sym (append_assoc (heard_by step) (heard_all first) (heard_all more))

-- one event by which nothing is received, between what the line and the printer do
none_between : (w : WorldData) (first : List WorldEvent) (one : WorldEvent) (more : List WorldEvent)
    → received_from w first ≡ [] → received_by (world_from w first) one ≡ [] → ((v : WorldData) → received_from v more ≡ [])
    → received_from w (first ++ one ∷ more) ≡ []
none_between w first one more before at behind =
    received_from-append w first (one ∷ more)
    ∙ (ap (λ (lines : List (List ℕ)). lines ++ received_from (world_from w first) (one ∷ more)) before
    ∙ (ap (λ (lines : List (List ℕ)). lines ++ received_from (world_from (world_from w first) (one ∷ [])) more) at
    ∙ behind (world_from (world_from w first) (one ∷ []))))

send_gives_none : (line : List ℕ) (w : WorldData) (sent : WorldEvent) → IsSendOf line sent → received_by w sent ≡ []
send_gives_none line w (event.Send bytes) is = refl
send_gives_none line w _ is = absurd is

sent_received : (line : List ℕ) (w : WorldData) (added : List WorldEvent) → IsSend line w added → received_from w added ≡ []
sent_received line w added is =
    subst (λ (events : List WorldEvent). received_from w events ≡ []) (sym is.is)
    (none_between w is.before is.sent is.after (received_from-free w is.before is.free_before) (send_gives_none line (world_from w is.before) is.sent is.line_is)
    (λ v. received_from-free v is.after is.free_after))

given_received : (next : Option Outgoing) (w : WorldData) (added : List WorldEvent) → IsGiven next w added → received_from w added ≡ []
given_received None w added is = absurd is
given_received (Some next) w added is = sent_received (bytes_of_outgoing next) w added is

-- a failing line, if there is one, and the close
failing_received : (w v : WorldData) (failing : List WorldEvent) → MaySendFailing v failing → received_from w failing ≡ []
failing_received w v [] may = refl
failing_received w v (event.Opened last ∷ []) may = absurd may
failing_received w v (event.Send bytes ∷ []) may = refl
failing_received w v (event.Arrive ∷ []) may = absurd may
failing_received w v (event.Lose at ∷ []) may = absurd may
failing_received w v (event.LoseReply at ∷ []) may = absurd may
failing_received w v (event.Garble at bytes ∷ []) may = absurd may
failing_received w v (event.Run ∷ []) may = absurd may
failing_received w v (event.Restart ∷ []) may = absurd may
failing_received w v (event.Chatter reply ∷ []) may = absurd may
failing_received w v (event.Recv ∷ []) may = absurd may
failing_received w v (event.Closed ∷ []) may = absurd may
failing_received w v (one ∷ two ∷ more) may = absurd may

none_then : (w : WorldData) (first more : List WorldEvent) → received_from w first ≡ [] → received_from (world_from w first) more ≡ []
    → received_from w (first ++ more) ≡ []
none_then w first more one two =
    received_from-append w first more ∙ (ap (λ (lines : List (List ℕ)). lines ++ received_from (world_from w first) more) one ∙ two)

loss_received : (w : WorldData) (added : List WorldEvent) → IsSendLoss w added → received_from w added ≡ []
loss_received w added is =
    let mid = world_from w is.before in
    let after = world_from w (is.before ++ is.failing) in
    subst (λ (events : List WorldEvent). received_from w events ≡ []) (sym is.is)
    (none_then w (is.before ++ is.failing ++ is.after) (event.Closed ∷ [])
    (none_then w (is.before ++ is.failing) is.after
    (none_then w is.before is.failing (received_from-free w is.before is.free_before) (failing_received mid mid is.failing is.may_send))
    (received_from-free after is.after is.free_after)) refl)

hang_up_received : (was_up : Bool) (w : WorldData) (added : List WorldEvent) → IsHangUp was_up w added → received_from w added ≡ []
hang_up_received true w added is = subst (λ (events : List WorldEvent). received_from w events ≡ []) (sym is.0) refl
hang_up_received false w added is = subst (λ (events : List WorldEvent). received_from w events ≡ []) (sym is) refl

-- a reply is received, and nothing else
heard_received : (bytes : List ℕ) (w : WorldData) (added : List WorldEvent) → IsHeard bytes w added → received_from w added ≡ bytes ∷ []
heard_received bytes w added is =
    let mid = world_from w is.before in
    let got : received_by mid event.Recv ≡ bytes ∷ [] =
    ap (λ (b : Bool). if b then front_line mid.down else []) is.linked ∙ (ap front_line is.front ∙ ap (λ (reply : List ℕ). reply ∷ []) (sym is.whole)) in
    subst (λ (events : List WorldEvent). received_from w events ≡ bytes ∷ []) (sym is.is)
    (received_from-append w is.before (event.Recv ∷ is.after)
    ∙ (ap (λ (lines : List (List ℕ)). lines ++ received_from mid (event.Recv ∷ is.after)) (received_from-free w is.before is.free_before)
    ∙ (ap (λ (lines : List (List ℕ)). lines ++ received_from (world_from mid (event.Recv ∷ [])) is.after) got
    ∙ ap (λ (lines : List (List ℕ)). bytes ∷ lines) (received_from-free (world_from mid (event.Recv ∷ [])) is.after is.free_after))))

-- what a step receives by what it adds to the recorded history
step_received : (step : Step) (s : SenderData) (w : WorldData) (added : List WorldEvent) → IsDone step s w added → received_from w added ≡ heard_by step
step_received opens s w added is =
    subst (λ (events : List WorldEvent). received_from w events ≡ []) (sym is.0.is)
    (none_then w is.0.runs (event.Opened is.0.last ∷ []) (received_from-free w is.0.runs (runs-free is.0.runs is.0.only_runs)) refl)
step_received finds_no_port s w added is = subst (λ (events : List WorldEvent). received_from w events ≡ []) (sym is) refl
step_received fails_to_dial s w added is = received_from-free w added (runs-free added is)
step_received (hears bytes) s w added is = heard_received bytes w added is
step_received listens s w added is = received_from-free w added is.free
step_received fails_to_receive s w added is =
    subst (λ (events : List WorldEvent). received_from w events ≡ []) (sym is.is)
    (none_then w is.before (event.Closed ∷ []) (received_from-free w is.before is.free) refl)
step_received ticks s w added is = subst (λ (events : List WorldEvent). received_from w events ≡ []) (sym is) refl
step_received (issues text) s w added is = subst (λ (events : List WorldEvent). received_from w events ≡ []) (sym is) refl
step_received gives s w added is = given_received (next_of s) w added is
step_received fails_to_send s w added is = loss_received w added is
step_received (hangs_up was_up) s w added is = hang_up_received was_up w added is

steps_received : (moment : ℕ) (prompt : Bool) (steps : List Step) (s : SenderData) (w : WorldData) (added : List WorldEvent) → AreAdded moment prompt steps s w added
    → received_from w added ≡ heard_all steps
steps_received moment prompt [] s w added is = subst (λ (events : List WorldEvent). received_from w events ≡ []) (sym is) refl
steps_received moment prompt (step ∷ steps) s w added is =
    let first = is.0 in
    let rest = is.1 in
    subst (λ (events : List WorldEvent). received_from w events ≡ heard_all (step ∷ steps)) (sym is.2)
    (received_from-append w first rest
    ∙ (ap (λ (lines : List (List ℕ)). lines ++ received_from (world_from w first) rest) (step_received step s w first is.3.0)
    ∙ ap (λ (lines : List (List ℕ)). heard_by step ++ lines) (steps_received moment prompt steps (after_step moment step s) (world_from w first) rest is.4)))

-- issuing and sending receive nothing
issuing_none : (texts : List (List ℕ)) → heard_all (issuing texts) ≡ []
issuing_none [] = refl
issuing_none (text ∷ texts) = issuing_none texts

giving_none : (count : ℕ) → heard_all (replicate count gives) ≡ []
giving_none zero = refl
giving_none (suc count) = giving_none count

sends_none : (all : Bool) (count : ℕ) → heard_all (sends all count) ≡ []
sends_none true count = giving_none count
sends_none false count = heard_append (replicate count gives) (fails_to_send ∷ []) ∙ ap (λ (lines : List (List ℕ)). lines ++ []) (giving_none count)

speech_none : (all : Bool) (texts : List (List ℕ)) (count : ℕ) → heard_all (issues_then_sends all texts count) ≡ []
speech_none all texts count =
    heard_append (issuing texts) (sends all count)
    ∙ (ap (λ (lines : List (List ℕ)). lines ++ heard_all (sends all count)) (issuing_none texts) ∙ sends_none all count)

clock_none : (found : LinkFact) (texts : List (List ℕ)) (count : ℕ) → heard_all (clock_steps found texts count) ≡ []
clock_none fact.Quiet texts count = speech_none true texts count
clock_none fact.Failed texts count = speech_none false texts count
clock_none _ texts count = refl

dial_none : (found : LinkFact) → heard_all (dial_steps found) ≡ []
dial_none fact.Quiet = refl
dial_none fact.Opened = refl
dial_none fact.Ready = refl
dial_none fact.Closed = refl
dial_none fact.NoPort = refl
dial_none fact.Failed = refl
dial_none (fact.Ended end) = refl

-- what a turn got
abbrev pub lines_got : Got → List (List ℕ)
lines_got unasked = []
lines_got lost = []
lines_got nothing = []
lines_got (whole bytes) = bytes ∷ []

talk_heard : (got : Got) (found : LinkFact) (texts : List (List ℕ)) (count : ℕ) → heard_all (steps_over_link got found texts count) ≡ lines_got got
talk_heard unasked found texts count = refl
talk_heard lost found texts count = refl
talk_heard nothing found texts count = clock_none found texts count
talk_heard (whole bytes) found texts count = ap (λ (lines : List (List ℕ)). bytes ∷ lines) (clock_none found texts count)

turn_heard : (d : Doing) (up : Bool) (got : Got) (found : LinkFact) (texts : List (List ℕ)) (count : ℕ) → (d ≢ UsingLink → got ≡ unasked)
    → heard_all (turn_steps d up got found texts count) ≡ lines_got got
turn_heard Dialling up got found texts count asked = dial_none found ∙ ap lines_got (sym (asked (λ e. cc)))
turn_heard HangingUp up got found texts count asked = ap lines_got (sym (asked (λ e. cc)))
turn_heard UsingLink up got found texts count asked = talk_heard got found texts count
turn_heard Resting up got found texts count asked = ap lines_got (sym (asked (λ e. cc)))

got_reported : (got : Got) → temps_reported (lines_got got) ≡ temps_list (temps_in got)
got_reported unasked = refl
got_reported lost = refl
got_reported nothing = refl
got_reported (whole bytes) = by (temps_of_reply (kind_of bytes))
  where
    by : (temps : Option Temps) → temps_list temps ++ [] ≡ temps_list temps
    by None = refl
    by (Some temps) = refl

-- the temperatures of a note that holds these, or of none
note_temps : (note : Option Note) (temps : Option Temps) → (note ≡ None → temps ≡ None) → IfSome note (λ n. n.temps ≡ temps) → temps_noted (history_of_note note) ≡ temps_list temps
note_temps None temps none some = ap temps_list (sym (none refl))
note_temps (Some note) temps none some = by note.temps ∙ ap temps_list some
  where
    by : (told : Option Temps) → temps_list told ++ [] ≡ temps_list told
    by None = refl
    by (Some told) = refl

-- a turn, and a note that holds the temperatures that it received
pub turn_notes_temps : (moment : ℕ) (kind : LinkKind) (past past' : Option (List WorldEvent)) (calls calls' : Option ℕ) (x y : SessionData) (turned : Turned)
    → (t : IsTurn moment kind past past' calls calls' x y turned) → (note : Option Note) → (note ≡ None → temps_in t.got ≡ None)
    → IfSome note (λ n. n.temps ≡ temps_in t.got) → NotesTemps kind past past' (history_of_note note)
turn_notes_temps moment kind past past' calls calls' x y turned t note none some =
    became_so past past' _ _ t.steps.takes.past.grew
    (λ old added are. note_temps note (temps_in t.got) none some ∙ (sym (got_reported t.got)
    ∙ ap temps_reported (sym (steps_received moment kind.prompt (turn_steps (doing x) x.up t.got t.found (texts_in t.lines) t.steps.count) x.sender (world_in kind old) added are
    ∙ turn_heard (doing x) x.up t.got t.found (texts_in t.lines) t.steps.count t.asked.1))))

-- one stretch and then another
noted_append : (es fs : History) → temps_noted (es ++ fs) ≡ temps_noted es ++ temps_noted fs
noted_append [] fs = refl
noted_append (e ∷ es) fs =
    ap (λ (l : List Temps). temps_of_entry e ++ l) (noted_append es fs) ∙ sym (append_assoc (temps_of_entry e) (temps_noted es) (temps_noted fs))

reported_append : (xs ys : List (List ℕ)) → temps_reported (xs ++ ys) ≡ temps_reported xs ++ temps_reported ys
reported_append [] ys = refl
reported_append (x ∷ xs) ys =
    ap (λ (l : List Temps). temps_list (temps_of_reply (kind_of x)) ++ l) (reported_append xs ys)
    ∙ sym (append_assoc (temps_list (temps_of_reply (kind_of x))) (temps_reported xs) (temps_reported ys))

both : (a a' b b' : List Temps) → a ≡ a' → b ≡ b' → a ++ b ≡ a' ++ b'
both a a' b b' one two = ap (λ (l : List Temps). l ++ b) one ∙ ap (λ (l : List Temps). a' ++ l) two

pub temps_then : (kind : LinkKind) (link mid link' : Option (List WorldEvent)) (es fs : History) → NotesTemps kind link mid es → NotesTemps kind mid link' fs
    → NotesTemps kind link link' (es ++ fs)
temps_then kind link mid link' es fs first second =
    became_then link mid link' _ _ (λ past events. temps_noted (es ++ fs) ≡ temps_reported (received_from (world_in kind past) events)) first second
    (λ past added more one two.
    noted_append es fs
    ∙ (both (temps_noted es) (temps_reported (received_from (world_in kind past) added)) (temps_noted fs)
    (temps_reported (received_from (world_from (world_in kind past) added) more)) one
    (two ∙ ap (λ (v : WorldData). temps_reported (received_from v more)) (in_append past added))
    ∙ (sym (reported_append (received_from (world_in kind past) added) (received_from (world_from (world_in kind past) added) more))
    ∙ ap temps_reported (sym (received_from-append (world_in kind past) added more)))))
  where
    in_append : (past added : List WorldEvent) → world_in kind (past ++ added) ≡ world_from (world_in kind past) added
    in_append past added = world_of-append kind.slots kind.oks past added

-- nothing was noted, and nothing received
pub temps_none : (kind : LinkKind) (link : Option (List WorldEvent)) (h : History) → temps_noted h ≡ [] → NotesTemps kind link link h
temps_none kind link h none = became_same link _ (λ past. none)

-- the link is hung up at the end
pub temps_end : (kind : LinkKind) (was_up : Bool) (link link' : Option (List WorldEvent)) → Became link link' (λ past added. IsHangUp was_up (world_in kind past) added)
    → NotesTemps kind link link' (entry.Close ∷ [])
temps_end kind was_up link link' grew =
    became_so link link' _ _ grew (λ past added is. ap temps_reported (sym (hang_up_received was_up (world_in kind past) added is)))

-- a call notes none
pub temps_of_asks : (kind : LinkKind) (link : Option (List WorldEvent)) (moment keeper keeper' shelf shelf' : ℕ) (h : History)
    → AsksAt moment keeper keeper' shelf shelf' h → NotesTemps kind link link h
temps_of_asks kind link moment keeper keeper' shelf shelf' h a = temps_none kind link h (by a.asks)
  where
    by : (h ≡ []) ⊎ IsCallAt moment h → temps_noted h ≡ []
    by (inl none) = ap temps_noted none
    by (inr one) = ap temps_noted one.3
