-- Which steps of a turn leave a link open.
use Rattle.std.proofs.Common.{◌≡◌, ℕ, zero, suc, Bool, true, false, List, [], ◌∷◌, ◌++◌, replicate, refl, sym, ◌∙◌, ap, subst}
use Rattle.std.specs.Prelude.{Option, None, Some}
use Rattle.std.specs.List.{list_all}
use Rattle.std.proofs.lemmas.Bool.{cond_both}
use Rattle.job_desk.specs.declared.link_fact.LinkFact.{LinkFact}
use Rattle.job_desk.specs.declared.link_fact.LinkFact.TheVariants as fact
use Rattle.printer_model.specs.World.{WorldData, is_free, happen, apply, world_from}
use Rattle.printer_model.specs.declared.event.WorldEvent.{WorldEvent}
use Rattle.printer_model.specs.declared.event.WorldEvent.TheVariants.{Opened, Send, Arrive, Lose, LoseReply, Garble, Run, Restart, Chatter, Recv, Closed}
use Rattle.printer_model.proofs.Laws.{after_event, happens, world_from-append, world_from-push, world_from-linked}
use Rattle.printer_model.proofs.Starts.{runs-free}
use Rattle.printer_link.specs.Link.{IsSendOf}
use Rattle.send_window.specs.Data.{SenderData}
use Rattle.send_window.specs.Sending.{Outgoing, next_of}
use Rattle.octo_session.specs.Found.{Got, unasked, lost, nothing, whole, can_find, up_after}
use Rattle.octo_session.specs.declared.found.Doing.{Doing}
use Rattle.octo_session.specs.declared.found.Doing.TheVariants.{Dialling, HangingUp, UsingLink, Resting}
use Rattle.octo_session.specs.Steps.{Step, opens, finds_no_port, fails_to_dial, hears, listens, fails_to_receive, ticks, issues, gives, fails_to_send, hangs_up, after_step, IsGiven, IsDone, AreAdded, issuing, issues_then_sends, clock_steps, steps_over_link, dial_steps, turn_steps}

-- whether a link is open after a step
abbrev pub up_by : Step → Bool → Bool
up_by opens open_now = true
up_by finds_no_port open_now = open_now
up_by fails_to_dial open_now = open_now
up_by (hears bytes) open_now = open_now
up_by listens open_now = open_now
up_by fails_to_receive open_now = false
up_by ticks open_now = open_now
up_by (issues text) open_now = open_now
up_by gives open_now = open_now
up_by fails_to_send open_now = false
up_by (hangs_up true) open_now = false
up_by (hangs_up false) open_now = open_now

abbrev pub up_all : List Step → Bool → Bool
up_all [] open_now = open_now
up_all (step ∷ steps) open_now = up_all steps (up_by step open_now)

closed_after : (w : WorldData) → (apply w Closed).linked ≡ false
closed_after w = cond_both w.linked (happen w Closed) w (λ v. v.linked ≡ false) (λ _. refl) (λ off. off)

-- one event with what the line and the printer do round it
around : (w : WorldData) (before behind : List WorldEvent) (event : WorldEvent) → list_all is_free before ≡ true →
    list_all is_free behind ≡ true → ((v : WorldData) → (apply v event).linked ≡ v.linked) →
    (world_from w (before ++ event ∷ behind)).linked ≡ w.linked
around w before behind event first last same =
    ap (λ (v : WorldData). v.linked) (world_from-append w before (event ∷ behind))
    ∙ world_from-linked (apply (world_from w before) event) behind last
    ∙ same (world_from w before)
    ∙ world_from-linked w before first

sent_around : (w : WorldData) (bytes : List ℕ) (before behind : List WorldEvent) (event : WorldEvent) → IsSendOf bytes event →
    list_all is_free before ≡ true → list_all is_free behind ≡ true → (world_from w (before ++ event ∷ behind)).linked ≡ w.linked
sent_around w bytes before behind (Send line) is first last = around w before behind (Send line) first last (λ v. after_event (λ u. u.linked ≡ v.linked) v (Send line) refl (λ _. refl))
sent_around w bytes before behind (Opened number) is first last = absurd is
sent_around w bytes before behind Arrive is first last = absurd is
sent_around w bytes before behind (Lose at) is first last = absurd is
sent_around w bytes before behind (LoseReply at) is first last = absurd is
sent_around w bytes before behind (Garble at line) is first last = absurd is
sent_around w bytes before behind Run is first last = absurd is
sent_around w bytes before behind Restart is first last = absurd is
sent_around w bytes before behind (Chatter reply) is first last = absurd is
sent_around w bytes before behind Recv is first last = absurd is
sent_around w bytes before behind Closed is first last = absurd is

given_up : (next : Option Outgoing) (w : WorldData) (added : List WorldEvent) → IsGiven next w added → (world_from w added).linked ≡ w.linked
given_up None w added given = absurd given
given_up (Some next) w added given =
    let U : List WorldEvent → Type 0 = λ es. (world_from w es).linked ≡ w.linked in
    subst U (sym given.is) (sent_around w _ given.before given.after given.sent given.line_is given.free_before given.free_after)

closed_last : (w : WorldData) (events : List WorldEvent) → (world_from w (events ++ Closed ∷ [])).linked ≡ false
closed_last w events = ap (λ (v : WorldData). v.linked) (world_from-push w events Closed) ∙ closed_after (world_from w events)

step_up : (step : Step) (s : SenderData) (w : WorldData) (added : List WorldEvent) → IsDone step s w added →
    (world_from w added).linked ≡ up_by step w.linked
step_up opens s w added is =
    let dial = is.0 in
    ap (λ (es : List WorldEvent). (world_from w es).linked) dial.is
    ∙ ap (λ (v : WorldData). v.linked) (world_from-push w dial.runs (Opened dial.last) ∙ happens (world_from w dial.runs) (Opened dial.last) dial.opens)
step_up finds_no_port s w added is = ap (λ (es : List WorldEvent). (world_from w es).linked) is
step_up fails_to_dial s w added is = world_from-linked w added (runs-free added is)
step_up (hears bytes) s w added is =
    ap (λ (es : List WorldEvent). (world_from w es).linked) is.is
    ∙ around w is.before is.after Recv is.free_before is.free_after (λ v. after_event (λ u. u.linked ≡ v.linked) v Recv refl (λ _. refl))
step_up listens s w added is = world_from-linked w added is.free
step_up fails_to_receive s w added is = ap (λ (es : List WorldEvent). (world_from w es).linked) is.is ∙ closed_last w is.before
step_up ticks s w added is = ap (λ (es : List WorldEvent). (world_from w es).linked) is
step_up (issues text) s w added is = ap (λ (es : List WorldEvent). (world_from w es).linked) is
step_up gives s w added is = given_up (next_of s) w added is
step_up fails_to_send s w added is = ap (λ (es : List WorldEvent). (world_from w es).linked) is.is ∙ closed_last w (is.before ++ is.failing ++ is.after)
step_up (hangs_up true) s w added is = ap (λ (es : List WorldEvent). (world_from w es).linked) is.0 ∙ closed_after w
step_up (hangs_up false) s w added is = ap (λ (es : List WorldEvent). (world_from w es).linked) is

pub steps_up : (moment : ℕ) (is_prompt : Bool) (steps : List Step) (s : SenderData) (w : WorldData) (added : List WorldEvent) →
    AreAdded moment is_prompt steps s w added → (world_from w added).linked ≡ up_all steps w.linked
steps_up moment is_prompt [] s w added none = ap (λ (es : List WorldEvent). (world_from w es).linked) none
steps_up moment is_prompt (step ∷ steps) s w added is =
    ap (λ (es : List WorldEvent). (world_from w es).linked) is.2
    ∙ ap (λ (v : WorldData). v.linked) (world_from-append w is.0 is.1)
    ∙ steps_up moment is_prompt steps (after_step moment step s) (world_from w is.0) is.1 is.4
    ∙ ap (up_all steps) (step_up step s w is.0 is.3.0)

up_append : (xs ys : List Step) (open_now : Bool) → up_all (xs ++ ys) open_now ≡ up_all ys (up_all xs open_now)
up_append [] ys open_now = refl
up_append (x ∷ xs) ys open_now = up_append xs ys (up_by x open_now)

up_issuing : (texts : List (List ℕ)) (open_now : Bool) → up_all (issuing texts) open_now ≡ open_now
up_issuing [] open_now = refl
up_issuing (text ∷ texts) open_now = up_issuing texts open_now

up_gives : (count : ℕ) (open_now : Bool) → up_all (replicate count gives) open_now ≡ open_now
up_gives zero open_now = refl
up_gives (suc count) open_now = up_gives count open_now

up_said : (texts : List (List ℕ)) (count : ℕ) → up_all (issues_then_sends true texts count) true ≡ true
up_said texts count = up_append (issuing texts) (replicate count gives) true ∙ up_gives count (up_all (issuing texts) true) ∙ up_issuing texts true

up_broken : (texts : List (List ℕ)) (count : ℕ) → up_all (issues_then_sends false texts count) true ≡ false
up_broken texts count = up_append (issuing texts) (replicate count gives ++ fails_to_send ∷ []) true ∙ up_append (replicate count gives) (fails_to_send ∷ []) (up_all (issuing texts) true)

up_clock : (found : LinkFact) (texts : List (List ℕ)) (count : ℕ) → can_find UsingLink found ≡ true →
    up_all (clock_steps found texts count) true ≡ up_after found true
up_clock fact.Quiet texts count can = up_said texts count
up_clock fact.Opened texts count can = absurd (cc)
up_clock fact.Ready texts count can = refl
up_clock fact.Closed texts count can = absurd (cc)
up_clock fact.NoPort texts count can = absurd (cc)
up_clock fact.Failed texts count can = up_broken texts count
up_clock (fact.Ended end) texts count can = refl

up_talk : (got : Got) (found : LinkFact) (texts : List (List ℕ)) (count : ℕ) → can_find UsingLink found ≡ true → (got ≡ unasked → ⊥) →
    (got ≡ lost → found ≡ fact.Failed) → up_all (steps_over_link got found texts count) true ≡ up_after found true
up_talk unasked found texts count can asked broken = absurd (asked refl)
up_talk lost found texts count can asked broken = sym (ap (λ (f : LinkFact). up_after f true) (broken refl))
up_talk nothing found texts count can asked broken = up_clock found texts count can
up_talk (whole bytes) found texts count can asked broken = up_clock found texts count can

up_dial : (found : LinkFact) → can_find Dialling found ≡ true → up_all (dial_steps found) false ≡ up_after found false
up_dial fact.Quiet can = absurd (cc)
up_dial fact.Opened can = refl
up_dial fact.Ready can = absurd (cc)
up_dial fact.Closed can = absurd (cc)
up_dial fact.NoPort can = refl
up_dial fact.Failed can = refl
up_dial (fact.Ended end) can = absurd (cc)

up_hang : (was_up : Bool) (found : LinkFact) → can_find HangingUp found ≡ true → up_all (hangs_up was_up ∷ []) was_up ≡ up_after found was_up
up_hang was_up fact.Quiet can = absurd (cc)
up_hang was_up fact.Opened can = absurd (cc)
up_hang was_up fact.Ready can = absurd (cc)
up_hang true fact.Closed can = refl
up_hang false fact.Closed can = refl
up_hang was_up fact.NoPort can = absurd (cc)
up_hang was_up fact.Failed can = absurd (cc)
up_hang was_up (fact.Ended end) can = absurd (cc)

up_rest : (was_up : Bool) (found : LinkFact) → can_find Resting found ≡ true → was_up ≡ up_after found was_up
up_rest was_up fact.Quiet can = refl
up_rest was_up fact.Opened can = absurd (cc)
up_rest was_up fact.Ready can = absurd (cc)
up_rest was_up fact.Closed can = absurd (cc)
up_rest was_up fact.NoPort can = absurd (cc)
up_rest was_up fact.Failed can = absurd (cc)
up_rest was_up (fact.Ended end) can = absurd (cc)

-- whether a link is up before each kind of turn
abbrev pub IsUpFor : Doing → Bool → Type 0
IsUpFor Dialling was_up = was_up ≡ false
IsUpFor HangingUp was_up = Unit {0}
IsUpFor UsingLink was_up = was_up ≡ true
IsUpFor Resting was_up = Unit {0}

pub turn_up : (doing_now : Doing) (was_up : Bool) (got : Got) (found : LinkFact) (texts : List (List ℕ)) (count : ℕ) →
    can_find doing_now found ≡ true → IsUpFor doing_now was_up → (doing_now ≡ UsingLink → got ≡ unasked → ⊥) →
    (got ≡ lost → found ≡ fact.Failed) → up_all (turn_steps doing_now was_up got found texts count) was_up ≡ up_after found was_up
turn_up Dialling was_up got found texts count can is asked broken =
    ap (up_all (dial_steps found)) is ∙ up_dial found can ∙ sym (ap (up_after found) is)
turn_up HangingUp was_up got found texts count can is asked broken = up_hang was_up found can
turn_up UsingLink was_up got found texts count can is asked broken =
    ap (up_all (steps_over_link got found texts count)) is ∙ up_talk got found texts count can (asked refl) broken ∙ sym (ap (up_after found) is)
turn_up Resting was_up got found texts count can is asked broken = up_rest was_up found can
