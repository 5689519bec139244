-- A turn that uses the link ends a session with a cause.
use Rattle.std.proofs.Common.{◌≡◌, ℕ, Bool, true, false, List, [], ◌∷◌, ◌++◌, refl, sym, ◌∙◌, ap, subst, append_assoc}
use Rattle.std.specs.Prelude.{Option, None, Some}
use Rattle.std.specs.List.{list_any}
use Rattle.std.proofs.lemmas.Bool.{or_left, or_right}
use Rattle.std.proofs.lemmas.List.Folds.{list_any-append}
use Rattle.marlin_reply.specs.Kind.{kind_of}
use Rattle.job_desk.specs.declared.link_fact.LinkFact.{LinkFact}
use Rattle.job_desk.specs.declared.link_fact.LinkFact.TheVariants as fact
use Rattle.send_window.specs.declared.session_end.SessionEnd.{SessionEnd}
use Rattle.send_window.specs.declared.session_end.SessionEnd.TheVariants.{NoAnswer, AskedBack, AskedAhead, Counts, Restarted, LostOk, NumbersUsed}
use Rattle.printer_model.specs.World.{WorldData, world_from, is_restart}
use Rattle.printer_model.specs.Exchanged.{sends_since}
use Rattle.printer_model.specs.declared.event.WorldEvent.{WorldEvent}
use Rattle.printer_model.specs.declared.event.WorldEvent.TheVariants.{Recv, Closed}
use Rattle.printer_model.proofs.Laws.{world_from-append}
use Rattle.printer_model.proofs.Starts.{sends_since-append, sends_since-free}
use Rattle.printer_link.specs.Link.{IsHeard, IsSilence}
use Rattle.send_window.specs.Counting.{IsQuiet, Traffic}
use Rattle.send_window.specs.Data.{SenderData, NoneEarly}
use Rattle.send_window.specs.Hearing.{hear_step, tick_step}
use Rattle.send_window.specs.Session.{hears as sender_hears}
use Rattle.send_window.proofs.Ending.{ends_by_rule}
use Rattle.send_window.proofs.Named.{step_none_early}
use Rattle.send_window.proofs.Sending.{keeps_kind}
use Rattle.send_window.proofs.Silence.{sends_in_silence}
use Rattle.octo_session.specs.Found.{Got, unasked, lost, nothing, whole, end_by, can_find}
use Rattle.octo_session.specs.declared.found.Doing.TheVariants.{UsingLink}
use Rattle.octo_session.specs.Steps.{ticks, hangs_up, after_steps, AreAdded, clock_steps, steps_over_link}
use Rattle.octo_session_line_proof.specs.Pieces.{Each, heard_in, heard_of}
use Rattle.octo_session_line_proof.specs.Wires.{Start, IsFair, Reads, counting, naming, Meets}
use Rattle.octo_session_line_proof.specs.Stopped.{Fits}
use Rattle.octo_session_line_proof.specs.Traces.{HasGreeted, IsTallied, IsStartKnown, IsTraced}
use Rattle.octo_session_line_proof.proofs.Fitting.{fits_met, widen_fits}
use Rattle.octo_session_line_proof.proofs.Starting.{free_starts}
use Rattle.octo_session_line_proof.proofs.Tracing.{leads_free}
use Rattle.octo_session_line_proof.proofs.Traffic.{traffic_from-append}
use Rattle.octo_session.specs.Sends.{traffic_from}
use Rattle.octo_session.specs.Causes.{MayAskBack, IsCaused}
use Rattle.octo_session_line_proof.proofs.Ends.{IsStill, IsAt, still_caused, tick_caused, clock_end}
use Rattle.octo_session_line_proof.proofs.Stepping.{hears_leads}
use Rattle.octo_session_line_proof.proofs.Quiet.{since_heard}

still_closed : (w : WorldData) → IsStill w (Closed ∷ [])
still_closed w = record { unsent = λ since. refl; unheard = refl }

-- the clock's steps, after a reply was heard or none came
clock_caused : (moment : ℕ) (is_prompt : Bool) (found : LinkFact) (texts : List (List ℕ)) (count : ℕ) (made : WorldData)
    (rest : List WorldEvent) (s : SenderData) (more : List WorldEvent) (ended : Option SessionEnd) → can_find UsingLink found ≡ true →
    (tick_step moment s).ended ≡ ended → ((why : SessionEnd) → (tick_step moment s).ended ≡ Some why → found ≡ fact.Ended why) →
    IsAt made rest s → AreAdded moment is_prompt (clock_steps found texts count) s (world_from made rest) more →
    IsCaused s.numbered (after_steps moment (clock_steps found texts count) s).ended made (rest ++ more)
clock_caused moment is_prompt found texts count made rest s more None can is ends at added =
    let C : Option SessionEnd → Type 0 = λ e. IsCaused s.numbered e made (rest ++ more) in
    subst C (sym (clock_end moment found texts count s can ∙ is)) tt
clock_caused moment is_prompt found texts count made rest s more (Some why) can is ends at added =
    let C : Option SessionEnd → Type 0 = λ e. IsCaused s.numbered e made (rest ++ more) in
    let A : LinkFact → Type 0 = λ f. AreAdded moment is_prompt (clock_steps f texts count) s (world_from made rest) more in
    let steps : AreAdded moment is_prompt (ticks ∷ hangs_up true ∷ []) s (world_from made rest) more = subst A (ends why is) added in
    let inner = steps.4 in
    let last : steps.1 ≡ Closed ∷ [] = inner.2 ∙ ap (λ (es : List WorldEvent). es ++ inner.1) inner.3.0.0 ∙ ap (λ (es : List WorldEvent). Closed ∷ es) inner.4 in
    let all : more ≡ Closed ∷ [] = steps.2 ∙ ap (λ (es : List WorldEvent). es ++ steps.1) steps.3.0 ∙ last in
    let M : List WorldEvent → Type 0 = λ es. IsCaused s.numbered (tick_step moment s).ended made (rest ++ es) in
    let so : IsCaused s.numbered (tick_step moment s).ended made (rest ++ more) =
    subst M (sym all) (still_caused s.numbered (tick_step moment s).ended made rest (Closed ∷ []) (still_closed (world_from made rest)) (tick_caused moment made rest s s.ended refl at))
    in
    subst C (sym (clock_end moment found texts count s can)) so

-- the printer asks back only if `ok`s count by their numbers and it restarted
back_by : (numbered d : Bool) (rest : List WorldEvent) → (numbered ≡ false → d ≡ false) → (d ≡ true → list_any is_restart rest ≡ true) → d ≡ true →
    MayAskBack numbered rest
back_by true d rest plain known is = known is
back_by false d rest plain known is = let not_so : d ≡ false = plain refl in absurd (cc)

-- a reply ends a session with a cause
heard_caused : (moment : ℕ) (bytes : List ℕ) (made : WorldData) (rest : List WorldEvent) (numbered d : Bool) (s : SenderData) (ended : Option SessionEnd) →
    s.ended ≡ None → (hear_step (kind_of bytes) moment s).ended ≡ ended → (numbered ≡ false → d ≡ false) → (d ≡ true → list_any is_restart rest ≡ true) →
    IsFair d ended → IsStartKnown rest bytes → IsCaused numbered ended made rest
heard_caused moment bytes made rest numbered d s None running is plain told fair known = tt
heard_caused moment bytes made rest numbered d s (Some (NoAnswer count)) running is plain told fair known = absurd (((ends_by_rule (NoAnswer count) s moment running).0 (kind_of bytes)).0 is)
heard_caused moment bytes made rest numbered d s (Some (AskedBack number acknowledged)) running is plain told fair known = back_by numbered d rest plain told fair
heard_caused moment bytes made rest numbered d s (Some (AskedAhead number all)) running is plain told fair known = fair
heard_caused moment bytes made rest numbered d s (Some (Counts number expected)) running is plain told fair known = fair
heard_caused moment bytes made rest numbered d s (Some Restarted) running is plain told fair known = known (ap heard_of (((ends_by_rule Restarted s moment running).0 (kind_of bytes)).0 is).0)
heard_caused moment bytes made rest numbered d s (Some (LostOk limits)) running is plain told fair known = absurd (((ends_by_rule (LostOk limits) s moment running).0 (kind_of bytes)).0 is)
heard_caused moment bytes made rest numbered d s (Some (NumbersUsed all)) running is plain told fair known = tt

-- whether the printer may ask back, as the replies on the way say
record IsFairHere (start : Start) (s : SenderData) : Type 0 where
  d : Bool
  known : d ≡ true → start.restarted ≡ true
  plain : s.numbered ≡ false → d ≡ false
  fair : IsFair d s.ended

fair_here : (start : Start) (issued : List (List ℕ)) (s : SenderData) (w : WorldData) → Meets start issued s w → IsFairHere start s
fair_here start issued s w m = by m.reads
  where
    by : Reads issued s w.linked w.printer.oks m.wires w.down → IsFairHere start s
    by (counting c) = record { d = false; known = λ (is : false ≡ true). absurd (cc); plain = λ _. refl; fair = c.replies.fair }
    by (naming n) = record { d = m.wires.dropped; known = m.begun.known; plain = λ counts. (let names : s.numbered ≡ true = n.by_number in absurd (cc)); fair = n.replies.fair }

-- a `start` that is received comes of a restart before it
known_front : (start : Start) (issued : List (List ℕ)) (s : SenderData) (made : WorldData) (rest first : List WorldEvent)
    (bytes : List ℕ) → IsHeard bytes (world_from made rest) first → Fits start issued s (world_from made rest) →
    Each (IsStartKnown rest) (world_from made rest).down → IsStartKnown (rest ++ first) bytes
known_front start issued s made rest first bytes is m starts begins =
    let w : WorldData = world_from made rest in
    let before : Each (IsStartKnown (rest ++ is.before)) (world_from w is.before).down =
    free_starts (record start { restarted = true }) issued s w rest is.before is.free_before (λ _. refl) (widen_fits start true issued s w (λ _. refl) m) starts in
    let E : List (List ℕ) → Type 0 = λ l. Each (IsStartKnown (rest ++ is.before)) l in
    let known : IsStartKnown (rest ++ is.before) is.reply = (subst E is.front before).0 in
    let so : list_any is_restart (rest ++ is.before) ≡ true = known (ap heard_in (sym is.whole) ∙ begins) in
    let all : rest ++ first ≡ (rest ++ is.before) ++ Recv ∷ is.after = ap (λ (es : List WorldEvent). rest ++ es) is.is ∙ sym (append_assoc rest is.before (Recv ∷ is.after)) in
    ap (list_any is_restart) all ∙ list_any-append is_restart (rest ++ is.before) (Recv ∷ is.after)
    ∙ or_left (list_any is_restart (rest ++ is.before)) (list_any is_restart (Recv ∷ is.after)) so

module _ (moment : ℕ) (is_prompt : Bool) (found : LinkFact) (texts : List (List ℕ)) (count : ℕ) (start : Start) (made : WorldData) (issued : List (List ℕ)) (s : SenderData) (rest : List WorldEvent) where
  silence_at : (first : List WorldEvent) → s.ended ≡ None → IsSilence (world_from made rest) first → IsQuiet (sends_since 0 rest) s →
      IsTraced start made issued s rest → IsAt made (rest ++ first) s
  silence_at first running is quiet traced =
      let led = leads_free (record start { restarted = true }) issued s (world_from made rest) (traffic_from made rest) first is.free (λ _. refl)
      (widen_fits start true issued s (world_from made rest) (λ _. refl) traced.meets) traced.tallied in
      let T : List Traffic → Type 0 = λ l. IsTallied l s in
      let Q : ℕ → Type 0 = λ n. IsQuiet n s in
      let C : Option SessionEnd → Type 0 = λ e. IsCaused s.numbered e made (rest ++ first) in
      record {
        tallied = subst T (sym (traffic_from-append made rest first)) led.tallied;
        quiet = subst Q (sym (sends_since-append 0 rest first ∙ sends_since-free (sends_since 0 rest) first is.free)) quiet;
        caused = subst C (sym running) tt;
      }

  heard_at : (bytes : List ℕ) (first : List WorldEvent) → s.ended ≡ None → IsHeard bytes (world_from made rest) first →
      (start.restarted ≡ true → list_any is_restart rest ≡ true) → NoneEarly s → HasGreeted s.numbered (traffic_from made rest) s → IsTraced start made issued s rest →
      IsAt made (rest ++ first) (hear_step (kind_of bytes) moment s)
  heard_at bytes first running is restarts fresh greets traced =
      let all : List WorldEvent = rest ++ first in
      let from : Start = record start { restarted = list_any is_restart all } in
      let old : list_any is_restart rest ≡ true → list_any is_restart all ≡ true =
      λ r. list_any-append is_restart rest first ∙ or_left (list_any is_restart rest) (list_any is_restart first) r in
      let new : list_any is_restart first ≡ true → list_any is_restart all ≡ true =
      λ r. list_any-append is_restart rest first ∙ or_right (list_any is_restart rest) (list_any is_restart first) r in
      let t : SenderData = hear_step (kind_of bytes) moment s in
      let led = hears_leads from issued moment s (world_from made rest) (traffic_from made rest) bytes first running is new
      (widen_fits start (list_any is_restart all) issued s (world_from made rest) (λ r. old (restarts r)) traced.meets) fresh greets traced.tallied in
      let T : List Traffic → Type 0 = λ l. IsTallied l t in
      let Q : ℕ → Type 0 = λ n. IsQuiet n t in
      let here : IsFairHere from t = fair_here from issued t (world_from (world_from made rest) first)
      (fits_met from issued t (world_from (world_from made rest) first) (step_none_early (sender_hears (kind_of bytes) moment) s tt fresh) led.meets) in
      record {
        tallied = subst T (sym (traffic_from-append made rest first)) led.tallied;
        quiet = subst Q (sym (sends_since-append 0 rest first ∙ since_heard (sends_since 0 rest) bytes (world_from made rest) first is)) (sends_in_silence.0 (kind_of bytes) moment s);
        caused = heard_caused moment bytes made (rest ++ first) t.numbered here.d s t.ended running refl here.plain here.known here.fair (known_front start issued s made rest first bytes is traced.meets traced.starts);
      }

  -- what follows the first step
  behind : (first more added : List WorldEvent) (t : SenderData) → can_find UsingLink found ≡ true →
      ((why : SessionEnd) → (tick_step moment t).ended ≡ Some why → found ≡ fact.Ended why) → IsAt made (rest ++ first) t →
      added ≡ first ++ more → AreAdded moment is_prompt (clock_steps found texts count) t (world_from (world_from made rest) first) more →
      IsCaused t.numbered (after_steps moment (clock_steps found texts count) t).ended made (rest ++ added)
  behind first more added t can ends at is steps =
      let A : WorldData → Type 0 = λ w. AreAdded moment is_prompt (clock_steps found texts count) t w more in
      let C : List WorldEvent → Type 0 = λ es. IsCaused t.numbered (after_steps moment (clock_steps found texts count) t).ended made es in
      let all : (rest ++ first) ++ more ≡ rest ++ added = append_assoc rest first more ∙ ap (λ (es : List WorldEvent). rest ++ es) (sym is) in
      subst C all (clock_caused moment is_prompt found texts count made (rest ++ first) t more (tick_step moment t).ended can refl ends at (subst A (sym (world_from-append made rest first)) steps))

  pub talk_caused : (got : Got) (added : List WorldEvent) → can_find UsingLink found ≡ true → (got ≡ unasked → ⊥) →
      ((why : SessionEnd) → (found ≡ fact.Ended why → end_by got moment s ≡ Some why) × (end_by got moment s ≡ Some why → found ≡ fact.Ended why)) →
      s.ended ≡ None → IsQuiet (sends_since 0 rest) s → (start.restarted ≡ true → list_any is_restart rest ≡ true) → NoneEarly s →
      HasGreeted s.numbered (traffic_from made rest) s → IsTraced start made issued s rest →
      AreAdded moment is_prompt (steps_over_link got found texts count) s (world_from made rest) added →
      IsCaused s.numbered (after_steps moment (steps_over_link got found texts count) s).ended made (rest ++ added)
  talk_caused unasked added can asked ends running quiet restarts fresh greets traced steps = absurd (asked refl)
  talk_caused lost added can asked ends running quiet restarts fresh greets traced steps =
      let C : Option SessionEnd → Type 0 = λ e. IsCaused s.numbered e made (rest ++ added) in
      subst C (sym running) tt
  talk_caused nothing added can asked ends running quiet restarts fresh greets traced steps =
      behind steps.0 steps.1 added s can (λ why. (ends why).1) (silence_at steps.0 running steps.3.0 quiet traced) steps.2 steps.4
  talk_caused (whole bytes) added can asked ends running quiet restarts fresh greets traced steps =
      let t : SenderData = hear_step (kind_of bytes) moment s in
      let K : Bool → Type 0 = λ b. IsCaused b (after_steps moment (clock_steps found texts count) t).ended made (rest ++ added) in
      subst K (keeps_kind (sender_hears (kind_of bytes) moment) s)
      (behind steps.0 steps.1 added t can (λ why. (ends why).1) (heard_at bytes steps.0 running steps.3.0 restarts fresh greets traced) steps.2 steps.4)
