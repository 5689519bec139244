-- A session ends with a cause.
use Rattle.std.proofs.Common.{◌≡◌, ◌⊎◌, inl, inr, ℕ, zero, suc, ◌≤◌, Bool, true, false, List, [], ◌∷◌, ◌++◌, replicate, refl, sym, ◌∙◌, ap, subst, append-nil, arith}
use Rattle.std.specs.Prelude.{Option, None, Some}
use Rattle.std.specs.List.{list_any, list_all}
use Rattle.std.proofs.lemmas.Bool.{or_left}
use Rattle.std.proofs.lemmas.Grind.{common_steps}
use Rattle.std.proofs.lemmas.List.Folds.{list_any-append}
use Rattle.job_desk.specs.declared.link_fact.LinkFact.{LinkFact}
use Rattle.job_desk.specs.declared.link_fact.LinkFact.TheVariants as fact
use Rattle.send_window.specs.declared.session_end.SessionEnd.{SessionEnd}
use Rattle.send_window.specs.declared.session_end.SessionEnd.TheVariants.{NoAnswer, AskedBack, AskedAhead, Counts, Restarted, LostOk, NumbersUsed}
use Rattle.printer_model.specs.World.{WorldData, is_free, world_from, is_restart}
use Rattle.printer_model.specs.Exchanged.{sends_since}
use Rattle.printer_model.specs.declared.event.WorldEvent.{WorldEvent}
use Rattle.printer_model.specs.declared.event.WorldEvent.TheVariants.{Closed}
use Rattle.printer_model.proofs.Starts.{runs-free, sends_since-append, sends_since-free}
use Rattle.send_window.specs.Counting.{IsQuiet, IsUnbegun, is_resend, Traffic, received_of}
use Rattle.send_window.specs.Data.{SenderData}
use Rattle.send_window.specs.Hearing.{tick_step}
use Rattle.send_window.specs.Sending.{frame_step, push_step}
use Rattle.send_window.proofs.Ending.{tick_ends}
use Rattle.send_window.proofs.Silence.{silent_once_ready}
use Rattle.octo_session.specs.Found.{Got, can_find}
use Rattle.octo_session.specs.declared.found.Doing.{Doing}
use Rattle.octo_session.specs.declared.found.Doing.TheVariants.{Dialling, HangingUp, UsingLink, Resting}
use Rattle.octo_session.specs.Steps.{gives, fails_to_send, hangs_up, after_steps, AreAdded, issuing, issues_then_sends, clock_steps, turn_steps}
use Rattle.octo_session_line_proof.specs.Traces.{oks_of, HasCounted, IsTallied}
use Rattle.octo_session_line_proof.proofs.Traffic.{traffic_from-append, traffic_from-free, received_of-from}
use Rattle.octo_session.specs.Causes.{IsSilentSince, MayAskBack, IsCaused}
use Rattle.octo_session.proofs.Stepping.{after_steps-append}
use Rattle.octo_session_line_proof.proofs.Flags.{give_keeps_end}
use Rattle.octo_session.specs.Sends.{traffic_from}

-- events that neither send nor receive keep a cause
pub record IsStill (w : WorldData) (added : List WorldEvent) : Type 0 where
  pub unsent : (since : ℕ) → sends_since since added ≡ since
  pub unheard : traffic_from w added ≡ []

-- lines and replies stay as they are
still_traffic : (made : WorldData) (rest added : List WorldEvent) → IsStill (world_from made rest) added → traffic_from made (rest ++ added) ≡ traffic_from made rest
still_traffic made rest added still =
    traffic_from-append made rest added ∙ ap (λ (l : List Traffic). traffic_from made rest ++ l) still.unheard ∙ append-nil (traffic_from made rest)

still_silent : (numbered : Bool) (made : WorldData) (rest added : List WorldEvent) → IsStill (world_from made rest) added → IsSilentSince numbered made rest →
    IsSilentSince numbered made (rest ++ added)
still_silent numbered made rest added still (inl none) =
    let U : List Traffic → Type 0 = λ l. IsUnbegun numbered l in
    inl (subst U (sym (still_traffic made rest added still)) none)
still_silent numbered made rest added still (inr four) =
    let same : sends_since 0 (rest ++ added) ≡ sends_since 0 rest = sends_since-append 0 rest added ∙ still.unsent (sends_since 0 rest) in
    inr (omega (arith, same, four))

still_back : (numbered : Bool) (rest added : List WorldEvent) → MayAskBack numbered rest → MayAskBack numbered (rest ++ added)
still_back false rest added may = may
still_back true rest added may = list_any-append is_restart rest added ∙ or_left (list_any is_restart rest) (list_any is_restart added) may

pub still_caused : (numbered : Bool) (ended : Option SessionEnd) (made : WorldData) (rest added : List WorldEvent) → IsStill (world_from made rest) added →
    IsCaused numbered ended made rest → IsCaused numbered ended made (rest ++ added)
still_caused numbered None made rest added still caused = tt
still_caused numbered (Some (NoAnswer count)) made rest added still caused = still_silent numbered made rest added still caused
still_caused numbered (Some (AskedBack number acknowledged)) made rest added still caused = still_back numbered rest added caused
still_caused numbered (Some (AskedAhead number all)) made rest added still caused = caused
still_caused numbered (Some (Counts number expected)) made rest added still caused = caused
still_caused numbered (Some Restarted) made rest added still caused = list_any-append is_restart rest added ∙ or_left (list_any is_restart rest) (list_any is_restart added) caused
still_caused numbered (Some (LostOk limits)) made rest added still caused =
    ap (list_any is_resend) (sym (received_of-from made (rest ++ added)) ∙ ap received_of (still_traffic made rest added still) ∙ received_of-from made rest) ∙ caused
still_caused numbered (Some (NumbersUsed all)) made rest added still caused = tt

still_free : (w : WorldData) (events : List WorldEvent) → list_all is_free events ≡ true → IsStill w events
still_free w events free = record { unsent = λ since. sends_since-free since events free; unheard = traffic_from-free w events free }

-- the events of a turn that neither uses the link nor makes one: free ones, or the hanging up
pub idle_turn : (moment : ℕ) (is_prompt : Bool) (d : Doing) (was_up : Bool) (got : Got) (found : LinkFact) (texts : List (List ℕ))
    (count : ℕ) (s : SenderData) (w : WorldData) (added : List WorldEvent) → (d ≡ UsingLink → ⊥) → (found ≡ fact.Opened → ⊥) →
    AreAdded moment is_prompt (turn_steps d was_up got found texts count) s w added →
    (list_all is_free added ≡ true) ⊎ (added ≡ Closed ∷ [])
idle_turn moment is_prompt d was_up got found texts count s w added idle other is = by d found idle other is
  where
    free : (events : List WorldEvent) → added ≡ events → list_all is_free events ≡ true → (list_all is_free added ≡ true) ⊎ (added ≡ Closed ∷ [])
    free events e is_so = inl (ap (list_all is_free) e ∙ is_so)

    none : added ≡ [] → (list_all is_free added ≡ true) ⊎ (added ≡ Closed ∷ [])
    none e = free [] e refl

    by : (e : Doing) (f : LinkFact) → (e ≡ UsingLink → ⊥) → (f ≡ fact.Opened → ⊥) →
        AreAdded moment is_prompt (turn_steps e was_up got f texts count) s w added → (list_all is_free added ≡ true) ⊎ (added ≡ Closed ∷ [])
    by Dialling fact.Opened i o a = absurd (o refl)
    by Dialling fact.NoPort i o a = none (a.2 ∙ ap (λ (es : List WorldEvent). es ++ a.1) a.3.0 ∙ a.4)
    by Dialling fact.Failed i o a =
        free a.0 (a.2 ∙ ap (λ (es : List WorldEvent). a.0 ++ es) a.4 ∙ append-nil a.0) (runs-free a.0 a.3.0)
    by Dialling _ i o a = none a
    by HangingUp f i o a = hung was_up a
      where
        hung : (b : Bool) → AreAdded moment is_prompt (hangs_up b ∷ []) s w added → (list_all is_free added ≡ true) ⊎ (added ≡ Closed ∷ [])
        hung true a = inr (a.2 ∙ ap (λ (es : List WorldEvent). es ++ a.1) a.3.0.0 ∙ ap (λ (es : List WorldEvent). Closed ∷ es) a.4)
        hung false a = none (a.2 ∙ ap (λ (es : List WorldEvent). es ++ a.1) a.3.0 ∙ a.4)
    by UsingLink f i o a = absurd (i refl)
    by Resting f i o a = none a

-- such events keep a cause
pub still_idle : (w : WorldData) (added : List WorldEvent) → (list_all is_free added ≡ true) ⊎ (added ≡ Closed ∷ []) → IsStill w added
still_idle w added (inl free) = still_free w added free
still_idle w added (inr closed) =
    (let S : List WorldEvent → Type 0 = λ es. IsStill w es in subst S (sym closed) (record { unsent = λ since. refl; unheard = refl }))

-- a session that has counted no `ok`
unbegun_by : (numbered : Bool) (traffic : List Traffic) (s : SenderData) → s.ready ≡ false → HasCounted numbered traffic s → IsUnbegun numbered traffic
unbegun_by false traffic s is counts =
    let none : oks_of s.ready s.acked ≡ 0 = ap (λ (b : Bool). oks_of b s.acked) is in
    sym counts.counted ∙ none
unbegun_by true traffic s is names = sym names.greeted ∙ is

-- such a session, or one that is ready
silent_by : (traffic : List Traffic) (s : SenderData) (since : ℕ) (made : WorldData) (rest : List WorldEvent) (ready : Bool) →
    s.ready ≡ ready → IsTallied traffic s → traffic ≡ traffic_from made rest → since ≡ sends_since 0 rest → (ready ≡ true → 4 ≤ since) →
    IsSilentSince s.numbered made rest
silent_by traffic s since made rest false is tallied same count four =
    let U : List Traffic → Type 0 = λ l. IsUnbegun s.numbered l in
    inl (subst U same (unbegun_by s.numbered traffic s is tallied.counts))
silent_by traffic s since made rest true is tallied same count four = inr (omega (arith, count, four refl))

-- the clock ends a session for silence alone, at the fifth limit
tick_silent : (moment count : ℕ) (s : SenderData) (since : ℕ) → s.ended ≡ None → IsQuiet since s →
    (tick_step moment s).ended ≡ Some (NoAnswer count) → s.ready ≡ true → 4 ≤ since
tick_silent moment count s since running quiet ends ready =
    let at = (tick_ends (NoAnswer count) moment s running).0 ends in
    omega (arith, at.2, quiet.sent_enough running ready (silent_once_ready s at.1 ready))

-- how a running sender ended by a reply or none, and the clock
pub record IsAt (made : WorldData) (rest : List WorldEvent) (s : SenderData) : Type 0 where
  pub tallied : IsTallied (traffic_from made rest) s
  pub quiet : IsQuiet (sends_since 0 rest) s
  pub caused : IsCaused s.numbered s.ended made rest

tick_none : (moment : ℕ) (s : SenderData) (why : SessionEnd) → s.ended ≡ Some why → (tick_step moment s).ended ≡ Some why
tick_none moment s why is = grind (arith, common_steps)

tick_caused_by : (moment : ℕ) (made : WorldData) (rest : List WorldEvent) (s : SenderData) (ended : Option SessionEnd) → IsAt made rest s →
    s.ended ≡ None → (tick_step moment s).ended ≡ ended → IsCaused s.numbered ended made rest
tick_caused_by moment made rest s None at running is = tt
tick_caused_by moment made rest s (Some (NoAnswer count)) at running is =
    silent_by (traffic_from made rest) s (sends_since 0 rest) made rest s.ready refl at.tallied refl refl (λ ready. tick_silent moment count s (sends_since 0 rest) running at.quiet is ready)
tick_caused_by moment made rest s (Some (AskedBack number acknowledged)) at running is = absurd ((tick_ends (AskedBack number acknowledged) moment s running).0 is)
tick_caused_by moment made rest s (Some (AskedAhead number all)) at running is = absurd ((tick_ends (AskedAhead number all) moment s running).0 is)
tick_caused_by moment made rest s (Some (Counts number expected)) at running is = absurd ((tick_ends (Counts number expected) moment s running).0 is)
tick_caused_by moment made rest s (Some Restarted) at running is = absurd ((tick_ends Restarted moment s running).0 is)
tick_caused_by moment made rest s (Some (LostOk limits)) at running is =
    ap (list_any is_resend) (sym (received_of-from made rest)) ∙ at.tallied.asked ((tick_ends (LostOk limits) moment s running).0 is).1
tick_caused_by moment made rest s (Some (NumbersUsed all)) at running is = tt

pub tick_caused : (moment : ℕ) (made : WorldData) (rest : List WorldEvent) (s : SenderData) (ended : Option SessionEnd) → s.ended ≡ ended →
    IsAt made rest s → IsCaused s.numbered (tick_step moment s).ended made rest
tick_caused moment made rest s None is at = tick_caused_by moment made rest s (tick_step moment s).ended at is refl
tick_caused moment made rest s (Some why) is at =
    let C : Option SessionEnd → Type 0 = λ e. IsCaused s.numbered e made rest in
    subst C (sym (tick_none moment s why is)) (subst C is at.caused)

-- what issuing and sending leave of the end
said_end : (moment : ℕ) (texts : List (List ℕ)) (s : SenderData) → (after_steps moment (issuing texts) s).ended ≡ s.ended
said_end moment [] s = refl
said_end moment (text ∷ texts) s = said_end moment texts (push_step text s)

gives_end : (moment count : ℕ) (s : SenderData) → (after_steps moment (replicate count gives) s).ended ≡ s.ended
gives_end moment zero s = refl
gives_end moment (suc count) s = gives_end moment count (frame_step moment s) ∙ give_keeps_end moment s

speech_end : (moment : ℕ) (all : Bool) (texts : List (List ℕ)) (count : ℕ) (s : SenderData) →
    (after_steps moment (issues_then_sends all texts count) s).ended ≡ s.ended
speech_end moment true texts count s =
    ap (λ (t : SenderData). t.ended) (after_steps-append moment (issuing texts) (replicate count gives) s)
    ∙ gives_end moment count (after_steps moment (issuing texts) s) ∙ said_end moment texts s
speech_end moment false texts count s =
    ap (λ (t : SenderData). t.ended) (after_steps-append moment (issuing texts) (replicate count gives ++ fails_to_send ∷ []) s)
    ∙ ap (λ (t : SenderData). t.ended) (after_steps-append moment (replicate count gives) (fails_to_send ∷ []) (after_steps moment (issuing texts) s))
    ∙ give_keeps_end moment (after_steps moment (replicate count gives) (after_steps moment (issuing texts) s))
    ∙ gives_end moment count (after_steps moment (issuing texts) s) ∙ said_end moment texts s

-- the end after the clock's steps is the tick's end
pub clock_end : (moment : ℕ) (found : LinkFact) (texts : List (List ℕ)) (count : ℕ) (s : SenderData) → can_find UsingLink found ≡ true →
    (after_steps moment (clock_steps found texts count) s).ended ≡ (tick_step moment s).ended
clock_end moment fact.Quiet texts count s can = speech_end moment true texts count (tick_step moment s)
clock_end moment fact.Opened texts count s can = absurd (cc)
clock_end moment fact.Ready texts count s can = refl
clock_end moment fact.Closed texts count s can = absurd (cc)
clock_end moment fact.NoPort texts count s can = absurd (cc)
clock_end moment fact.Failed texts count s can = speech_end moment false texts count (tick_step moment s)
clock_end moment (fact.Ended end) texts count s can = refl
