-- While a link is open, a sender whose hellos have numbers of their own has sent as many as the events say.
use Rattle.std.proofs.Common.{◌≡◌, ℕ, Bool, true, false, List, [], ◌∷◌, ◌++◌, replicate, map, refl, sym, ◌∙◌, ap, subst, append_assoc, append-nil, arith}
use Rattle.std.specs.Prelude.{Option, None, Some, if◌then◌else◌}
use Rattle.std.specs.List.{list_all}
use Rattle.marlin_reply.specs.Kind.{kind_of}
use Rattle.job_desk.specs.declared.link_fact.LinkFact.{LinkFact}
use Rattle.job_desk.specs.declared.link_fact.LinkFact.TheVariants as fact
use Rattle.printer_model.specs.World.{WorldData, is_free, world_from}
use Rattle.printer_model.specs.Exchanged.{front_line}
use Rattle.printer_model.specs.declared.event.WorldEvent.{WorldEvent}
use Rattle.printer_model.specs.declared.event.WorldEvent.TheVariants.{Opened, Send, Arrive, Lose, LoseReply, Garble, Run, Restart, Chatter, Recv, Closed}
use Rattle.printer_link.specs.Link.{IsSendOf, IsHeard}
use Rattle.send_window.specs.Counting.{Traffic, sent, received, Account, account_of, traffic_at}
use Rattle.send_window.specs.Data.{SenderData, IsSound, NoneEarly}
use Rattle.send_window.specs.declared.session_end.SessionEnd.{SessionEnd}
use Rattle.send_window.specs.Hearing.{hear_step, tick_step}
use Rattle.send_window.specs.Sending.{Outgoing, bytes_of_outgoing, next_of}
use Rattle.send_window.specs.Session.{Step as Turn, hears as sender_hears, ticks as sender_ticks, issues as sender_issues, gives as sender_gives, after_step as sender_after, IsAllowed as MayStep}
use Rattle.send_window.proofs.Named.{Accounted, after_traffic-append, step_accounts, step_none_early}
use Rattle.send_window.proofs.Sending.{keeps_kind}
use Rattle.send_window.proofs.Soundness.{step_sound}
use Rattle.octo_session.specs.declared.found.Doing.TheVariants.{UsingLink}
use Rattle.octo_session.specs.Found.{Got, unasked, lost, nothing, whole, end_by, can_find}
use Rattle.octo_session.specs.Sends.{traffic_from}
use Rattle.octo_session.specs.Steps.{Step, opens, finds_no_port, fails_to_dial, hears, listens, fails_to_receive, ticks, issues, gives, fails_to_send, hangs_up, after_step, after_steps, IsAllowed, AreAllowed, IsGiven, IsDone, AreAdded, issuing, issues_then_sends, clock_steps, steps_over_link}
use Rattle.octo_session_line_proof.specs.Pieces.{Each}
use Rattle.octo_session_line_proof.specs.Traces.{HasCounted, HasGreeted, IsTallied}
use Rattle.octo_session_line_proof.proofs.Ends.{clock_end}
use Rattle.octo_session_line_proof.proofs.Flags.{give_flags}
use Rattle.octo_session_line_proof.proofs.Quiet.{IsIssueOrSend, StaysUp, saying_append, saying_issuing, saying_gives}
use Rattle.octo_session_line_proof.proofs.Traffic.{traffic_from-append, traffic_from-free}

-- a sound sender keeps the account of these lines and replies
pub record Keeps (traffic : List Traffic) (s : SenderData) : Type 0 where
  pub sound : IsSound s
  pub named : s.numbered ≡ true
  pub account : Accounted (account_of traffic) s

-- a step of the sender, with what goes over the link in it
step_keeps : (step : Turn) (traffic more : List Traffic) (s : SenderData) → MayStep step s → NoneEarly s → traffic_at step s ≡ more → Keeps traffic s →
    Keeps (traffic ++ more) (sender_after step s)
step_keeps step traffic more s may fresh is k =
    let M : List Traffic → Type 0 = λ l. Keeps (traffic ++ l) (sender_after step s) in
    let A : Account → Type 0 = λ c. Accounted c (sender_after step s) in
    subst M is (record {
      sound = step_sound step s may k.sound;
      named = keeps_kind step s ∙ k.named;
      account = subst A (sym (after_traffic-append traffic (traffic_at step s) (record { hellos = 0; begun = false; acked = 0 })))
          (step_accounts step s (account_of traffic) k.sound fresh k.named k.account);
    })

-- one line was sent
sent_traffic : (bytes : List ℕ) (w : WorldData) (before behind : List WorldEvent) (event : WorldEvent) → IsSendOf bytes event →
    list_all is_free before ≡ true → list_all is_free behind ≡ true → traffic_from w (before ++ event ∷ behind) ≡ sent ∷ []
sent_traffic bytes w before behind (Send line) is first last =
    traffic_from-append w before (Send line ∷ behind)
    ∙ ap (λ (l : List Traffic). l ++ traffic_from (world_from w before) (Send line ∷ behind)) (traffic_from-free w before first)
    ∙ ap (λ (l : List Traffic). sent ∷ l) (traffic_from-free (world_from (world_from w before) (Send line ∷ [])) behind last)
sent_traffic bytes w before behind (Opened number) is first last = absurd is
sent_traffic bytes w before behind Arrive is first last = absurd is
sent_traffic bytes w before behind (Lose at) is first last = absurd is
sent_traffic bytes w before behind (LoseReply at) is first last = absurd is
sent_traffic bytes w before behind (Garble at line) is first last = absurd is
sent_traffic bytes w before behind Run is first last = absurd is
sent_traffic bytes w before behind Restart is first last = absurd is
sent_traffic bytes w before behind (Chatter reply) is first last = absurd is
sent_traffic bytes w before behind Recv is first last = absurd is
sent_traffic bytes w before behind Closed is first last = absurd is

given_traffic : (next : Option Outgoing) (w : WorldData) (added : List WorldEvent) → IsGiven next w added → traffic_from w added ≡ sent ∷ []
given_traffic None w added given = absurd given
given_traffic (Some next) w added given =
    ap (traffic_from w) given.is ∙ sent_traffic (bytes_of_outgoing next) w given.before given.after given.sent given.line_is given.free_before given.free_after

-- one reply was received
heard_traffic : (bytes : List ℕ) (w : WorldData) (added : List WorldEvent) → IsHeard bytes w added → traffic_from w added ≡ received (kind_of bytes) ∷ []
heard_traffic bytes w added is =
    let there : WorldData = world_from w is.before in
    let got : List (List ℕ) → List Traffic = λ lines. map (λ line. received (kind_of line)) lines in
    ap (traffic_from w) is.is
    ∙ traffic_from-append w is.before (Recv ∷ is.after)
    ∙ ap (λ (l : List Traffic). l ++ traffic_from there (Recv ∷ is.after)) (traffic_from-free w is.before is.free_before)
    ∙ ap (λ (l : List Traffic). got (if there.linked then front_line there.down else []) ++ l) (traffic_from-free (world_from there (Recv ∷ [])) is.after is.free_after)
    ∙ append-nil (got (if there.linked then front_line there.down else []))
    ∙ ap (λ (b : Bool). got (if b then front_line there.down else [])) is.linked
    ∙ ap (λ (down : List (List ℕ)). got (front_line down)) is.front
    ∙ ap (λ (line : List ℕ). received (kind_of line) ∷ []) (sym is.whole)

-- a line that was issued before the `ok` of the hello stays issued, while no reply is heard
said_back : (moment : ℕ) (step : Step) (s : SenderData) → IsIssueOrSend step → NoneEarly (after_step moment step s) → NoneEarly s
said_back moment (issues text) s saying fresh unready = omega (arith, fresh unready)
said_back moment gives s saying fresh unready =
    let flags = give_flags moment s in
    sym flags.issued ∙ fresh (flags.ready ∙ unready)
said_back moment opens s saying fresh unready = absurd saying
said_back moment finds_no_port s saying fresh unready = absurd saying
said_back moment fails_to_dial s saying fresh unready = absurd saying
said_back moment (hears bytes) s saying fresh unready = absurd saying
said_back moment listens s saying fresh unready = absurd saying
said_back moment fails_to_receive s saying fresh unready = absurd saying
said_back moment ticks s saying fresh unready = absurd saying
said_back moment fails_to_send s saying fresh unready = absurd saying
said_back moment (hangs_up was_up) s saying fresh unready = absurd saying

all_back : (moment : ℕ) (steps : List Step) (s : SenderData) → Each IsIssueOrSend steps → NoneEarly (after_steps moment steps s) → NoneEarly s
all_back moment [] s saying fresh = fresh
all_back moment (step ∷ steps) s saying fresh = said_back moment step s saying.0 (all_back moment steps (after_step moment step s) saying.1 fresh)

-- a step of issuing or sending
said_keeps : (moment : ℕ) (traffic : List Traffic) (step : Step) (s : SenderData) (w : WorldData) (added : List WorldEvent) → IsIssueOrSend step → IsAllowed step s →
    NoneEarly s → IsDone step s w added → Keeps traffic s → Keeps (traffic ++ traffic_from w added) (after_step moment step s)
said_keeps moment traffic (issues text) s w added saying allowed fresh is k =
    step_keeps (sender_issues text) traffic (traffic_from w added) s allowed.0 fresh (sym (ap (traffic_from w) is)) k
said_keeps moment traffic gives s w added saying allowed fresh is k =
    step_keeps (sender_gives moment) traffic (traffic_from w added) s tt fresh
    (ap (λ (b : Bool). if b then sent ∷ [] else []) allowed ∙ sym (given_traffic (next_of s) w added is)) k
said_keeps moment traffic opens s w added saying allowed fresh is k = absurd saying
said_keeps moment traffic finds_no_port s w added saying allowed fresh is k = absurd saying
said_keeps moment traffic fails_to_dial s w added saying allowed fresh is k = absurd saying
said_keeps moment traffic (hears bytes) s w added saying allowed fresh is k = absurd saying
said_keeps moment traffic listens s w added saying allowed fresh is k = absurd saying
said_keeps moment traffic fails_to_receive s w added saying allowed fresh is k = absurd saying
said_keeps moment traffic ticks s w added saying allowed fresh is k = absurd saying
said_keeps moment traffic fails_to_send s w added saying allowed fresh is k = absurd saying
said_keeps moment traffic (hangs_up was_up) s w added saying allowed fresh is k = absurd saying

-- what came in two parts
both_parts : (traffic : List Traffic) (t : SenderData) (w : WorldData) (first rest added : List WorldEvent) → added ≡ first ++ rest →
    Keeps ((traffic ++ traffic_from w first) ++ traffic_from (world_from w first) rest) t → Keeps (traffic ++ traffic_from w added) t
both_parts traffic t w first rest added is k =
    let K : List Traffic → Type 0 = λ l. Keeps l t in
    subst K (append_assoc traffic (traffic_from w first) (traffic_from (world_from w first) rest)
    ∙ ap (λ (l : List Traffic). traffic ++ l) (sym (traffic_from-append w first rest) ∙ sym (ap (traffic_from w) is))) k

all_keep : (moment : ℕ) (traffic : List Traffic) (is_prompt : Bool) (steps : List Step) (s : SenderData) (w : WorldData) (added : List WorldEvent) →
    Each IsIssueOrSend steps → AreAllowed moment steps s → NoneEarly (after_steps moment steps s) → AreAdded moment is_prompt steps s w added → Keeps traffic s →
    Keeps (traffic ++ traffic_from w added) (after_steps moment steps s)
all_keep moment traffic is_prompt [] s w added saying allowed fresh none k =
    let K : List Traffic → Type 0 = λ l. Keeps l s in
    subst K (sym (append-nil traffic) ∙ sym (ap (λ (es : List WorldEvent). traffic ++ traffic_from w es) none)) k
all_keep moment traffic is_prompt (step ∷ steps) s w added saying allowed fresh is k =
    let one = said_keeps moment traffic step s w is.0 saying.0 allowed.0 (all_back moment (step ∷ steps) s saying fresh) is.3.0 k in
    both_parts traffic (after_steps moment steps (after_step moment step s)) w is.0 is.1 added is.2
    (all_keep moment (traffic ++ traffic_from w is.0) is_prompt steps (after_step moment step s) (world_from w is.0) is.1 saying.1 allowed.1 fresh is.4 one)

module _ (moment : ℕ) (is_prompt : Bool) where
  clock_keeps : (traffic : List Traffic) (found : LinkFact) (texts : List (List ℕ)) (count : ℕ) (s : SenderData) (w : WorldData) (added : List WorldEvent) →
      StaysUp found → AreAllowed moment (clock_steps found texts count) s → NoneEarly s → NoneEarly (after_steps moment (clock_steps found texts count) s) →
      AreAdded moment is_prompt (clock_steps found texts count) s w added → Keeps traffic s →
      Keeps (traffic ++ traffic_from w added) (after_steps moment (clock_steps found texts count) s)
  clock_keeps traffic fact.Quiet texts count s w added stays allowed fresh later is k =
      let steps : List Step = issues_then_sends true texts count in
      let saying : Each IsIssueOrSend steps = saying_append (issuing texts) (replicate count gives) (saying_issuing texts) (saying_gives count) in
      let ticked : Keeps (traffic ++ traffic_from w is.0) (tick_step moment s) = step_keeps (sender_ticks moment) traffic (traffic_from w is.0) s tt fresh (sym (ap (traffic_from w) is.3.0)) k in
      both_parts traffic (after_steps moment steps (tick_step moment s)) w is.0 is.1 added is.2
      (all_keep moment (traffic ++ traffic_from w is.0) is_prompt steps (tick_step moment s) (world_from w is.0) is.1 saying allowed.1 later is.4 ticked)
  clock_keeps traffic fact.Ready texts count s w added stays allowed fresh later is k =
      let both : added ≡ [] = is.2 ∙ ap (λ (es : List WorldEvent). es ++ is.1) is.3.0 ∙ is.4 in
      step_keeps (sender_ticks moment) traffic (traffic_from w added) s tt fresh (sym (ap (traffic_from w) both)) k
  clock_keeps traffic fact.Opened texts count s w added stays allowed fresh later is k = absurd stays
  clock_keeps traffic fact.Closed texts count s w added stays allowed fresh later is k = absurd stays
  clock_keeps traffic fact.NoPort texts count s w added stays allowed fresh later is k = absurd stays
  clock_keeps traffic fact.Failed texts count s w added stays allowed fresh later is k = absurd stays
  clock_keeps traffic (fact.Ended end) texts count s w added stays allowed fresh later is k = absurd stays

  -- after a turn over the link that leaves it up
  pub talk_keeps : (traffic : List Traffic) (got : Got) (found : LinkFact) (texts : List (List ℕ)) (count : ℕ) (s : SenderData) (w : WorldData)
      (added : List WorldEvent) → (got ≡ unasked → ⊥) → (got ≡ lost → found ≡ fact.Failed) → StaysUp found →
      AreAllowed moment (steps_over_link got found texts count) s → NoneEarly s → NoneEarly (after_steps moment (steps_over_link got found texts count) s) →
      AreAdded moment is_prompt (steps_over_link got found texts count) s w added → Keeps traffic s →
      Keeps (traffic ++ traffic_from w added) (after_steps moment (steps_over_link got found texts count) s)
  talk_keeps traffic unasked found texts count s w added asked broken stays allowed fresh later is k = absurd (asked refl)
  talk_keeps traffic lost found texts count s w added asked broken stays allowed fresh later is k = absurd (subst StaysUp (broken refl) stays)
  talk_keeps traffic nothing found texts count s w added asked broken stays allowed fresh later is k =
      let K : List Traffic → Type 0 = λ l. Keeps l s in
      let same : traffic ≡ traffic ++ traffic_from w is.0 = sym (append-nil traffic) ∙ ap (λ (l : List Traffic). traffic ++ l) (sym (traffic_from-free w is.0 is.3.0.free)) in
      both_parts traffic (after_steps moment (clock_steps found texts count) s) w is.0 is.1 added is.2
      (clock_keeps (traffic ++ traffic_from w is.0) found texts count s (world_from w is.0) is.1 stays allowed.1 fresh later is.4 (subst K same k))
  talk_keeps traffic (whole bytes) found texts count s w added asked broken stays allowed fresh later is k =
      let t : SenderData = hear_step (kind_of bytes) moment s in
      let heard : Keeps (traffic ++ traffic_from w is.0) t =
      step_keeps (sender_hears (kind_of bytes) moment) traffic (traffic_from w is.0) s tt fresh (sym (heard_traffic bytes w is.0 is.3.0)) k
      in
      both_parts traffic (after_steps moment (clock_steps found texts count) t) w is.0 is.1 added is.2
      (clock_keeps (traffic ++ traffic_from w is.0) found texts count t (world_from w is.0) is.1 stays allowed.1 (step_none_early (sender_hears (kind_of bytes) moment) s tt fresh) later is.4 heard)

-- a turn that leaves the link up doesn't end the session
runs_on : (found f : LinkFact) (got : Got) (moment : ℕ) (s : SenderData) → StaysUp f → found ≡ f → (ended : Option SessionEnd) →
    ((why : SessionEnd) → ended ≡ Some why → found ≡ fact.Ended why) → ended ≡ None
runs_on found f got moment s so is None ends = refl
runs_on found f got moment s so is (Some why) ends = never f so (sym is ∙ ends why refl)
  where
    never : (g : LinkFact) → StaysUp g → g ≡ fact.Ended why → Some why ≡ None
    never fact.Quiet up e = absurd (cc)
    never fact.Ready up e = absurd (cc)
    never fact.Opened up e = absurd up
    never fact.Closed up e = absurd up
    never fact.NoPort up e = absurd up
    never fact.Failed up e = absurd up
    never (fact.Ended end) up e = absurd up

module _ (moment : ℕ) (found : LinkFact) (texts : List (List ℕ)) (count : ℕ) (s : SenderData) where
  talk_end : (got : Got) → (got ≡ unasked → ⊥) → (got ≡ lost → ⊥) → can_find UsingLink found ≡ true →
      (after_steps moment (steps_over_link got found texts count) s).ended ≡ end_by got moment s
  talk_end unasked asked broken can = absurd (asked refl)
  talk_end lost asked broken can = absurd (broken refl)
  talk_end nothing asked broken can = clock_end moment found texts count s can
  talk_end (whole bytes) asked broken can = clock_end moment found texts count (hear_step (kind_of bytes) moment s) can

module _ (moment : ℕ) (is_prompt : Bool) (made : WorldData) (rest : List WorldEvent) (got : Got) (found : LinkFact) (texts : List (List ℕ)) (count : ℕ)
    (s t : SenderData) (added : List WorldEvent) where
  greets_by : (numbered : Bool) → s.numbered ≡ numbered → (got ≡ unasked → ⊥) → (got ≡ lost → found ≡ fact.Failed) → StaysUp found →
      can_find UsingLink found ≡ true → ((why : SessionEnd) → end_by got moment s ≡ Some why → found ≡ fact.Ended why) → IsSound s → NoneEarly s → NoneEarly t →
      HasCounted numbered (traffic_from made rest) s → HasGreeted numbered (traffic_from made rest) s →
      AreAllowed moment (steps_over_link got found texts count) s → AreAdded moment is_prompt (steps_over_link got found texts count) s (world_from made rest) added →
      t ≡ after_steps moment (steps_over_link got found texts count) s → HasGreeted numbered (traffic_from made (rest ++ added)) t
  greets_by false names asked broken stays can ends sound fresh later counts greets allowed is same = tt
  greets_by true names asked broken stays can ends sound fresh later counts greets allowed is same =
      let last : SenderData = after_steps moment (steps_over_link got found texts count) s in
      let kept : Keeps (traffic_from made rest ++ traffic_from (world_from made rest) added) last =
      talk_keeps moment is_prompt (traffic_from made rest) got found texts count s (world_from made rest) added asked broken stays allowed fresh (subst NoneEarly same later) is (record {
        sound = sound;
        named = names;
        account = record {
          below = omega (arith, counts.named);
          hellos = λ _. greets;
          begun = λ _. counts.greeted;
          acked = λ _. counts.named;
          unswallowed = sound.unswallowed names;
        };
      })
      in
      let running : last.ended ≡ None =
      talk_end moment found texts count s got asked (λ l. absurd (subst StaysUp (broken l) stays)) can ∙ runs_on found found got moment s stays refl (end_by got moment s) ends
      in
      ap (λ (u : SenderData). u.hellos) same ∙ kept.account.hellos running
      ∙ ap (λ (l : List Traffic). (account_of l).hellos) (sym (traffic_from-append made rest added))

  -- a turn over the link that leaves it up keeps the count of hellos
  pub talk_greets : (got ≡ unasked → ⊥) → (got ≡ lost → found ≡ fact.Failed) → StaysUp found → can_find UsingLink found ≡ true →
      ((why : SessionEnd) → end_by got moment s ≡ Some why → found ≡ fact.Ended why) → IsSound s → NoneEarly s → NoneEarly t →
      IsTallied (traffic_from made rest) s → HasGreeted s.numbered (traffic_from made rest) s →
      AreAllowed moment (steps_over_link got found texts count) s → AreAdded moment is_prompt (steps_over_link got found texts count) s (world_from made rest) added →
      t ≡ after_steps moment (steps_over_link got found texts count) s → HasGreeted s.numbered (traffic_from made (rest ++ added)) t
  talk_greets asked broken stays can ends sound fresh later tallied greets allowed is same =
      greets_by s.numbered refl asked broken stays can ends sound fresh later tallied.counts greets allowed is same
