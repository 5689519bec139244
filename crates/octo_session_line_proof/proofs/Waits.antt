-- A session waits five limits before it ends with no answer.
use Rattle.std.proofs.Common.{◌≡◌, inl, inr, ℕ, ◌*◌, ◌<◌, ◌≤◌, true, List, [], ◌∷◌, refl, sym, ◌∙◌, ap, subst, arith}
use Rattle.std.specs.Prelude.{Option, None, Some, IfSome, max}
use Rattle.octo_outside.specs.Traits.{NotBefore}
use Rattle.printer_link.specs.Link.{LinkKind}
use Rattle.printer_model.specs.declared.event.WorldEvent.{WorldEvent}
use Rattle.std.proofs.lemmas.Grind.{common_steps}
use Rattle.marlin_reply.specs.Kind.{kind_of}
use Rattle.marlin_reply.specs.declared.reply.Reply.{Reply}
use Rattle.marlin_reply.specs.declared.reply.Reply.TheVariants as reply
use Rattle.job_desk.specs.declared.link_fact.LinkFact.{LinkFact}
use Rattle.job_desk.specs.declared.link_fact.LinkFact.TheVariants as fact
use Rattle.send_window.specs.declared.session_end.SessionEnd.{SessionEnd}
use Rattle.send_window.specs.declared.session_end.SessionEnd.TheVariants.{NoAnswer, LostOk}
use Rattle.send_window.specs.Data.{SenderData}
use Rattle.send_window.specs.Hearing.{later, hear_step, tick_step}
use Rattle.send_window.specs.Sending.{frame_step}
use Rattle.send_window.specs.Session.{hears as sender_hears, ticks as sender_ticks, issues as sender_issues, gives as sender_gives}
use Rattle.send_window.proofs.Ending.{ends_by_rule}
use Rattle.send_window.proofs.Soundness.{begun_sound, hears_sound, ticks_sound, issues_sound, gives_sound}
use Rattle.send_window.proofs.Waiting.{waits_five_limits}
use Rattle.octo_session.specs.Data.{SessionData, IsSession, doing}
use Rattle.octo_session.specs.Found.{Got, unasked, lost, nothing, whole, end_by, can_find}
use Rattle.octo_session.specs.Turn.{IsTurn, texts_in}
use Rattle.octo_session.specs.declared.found.Doing.{Doing}
use Rattle.octo_session.specs.declared.found.Turned.{Turned}
use Rattle.octo_session.specs.Steps.{Step, opens, finds_no_port, fails_to_dial, hears, listens, fails_to_receive, ticks, issues, gives, fails_to_send, hangs_up, after_step, after_steps, IsAllowed, AreAllowed, steps_over_link, turn_steps}
use Rattle.octo_session.proofs.Keeping.{ticked_keeps}
use Rattle.octo_session_line_proof.proofs.Turned.{talks_up}
use Rattle.octo_session_line_proof.specs.Patience.{IsOnTime}
use Rattle.send_window.specs.Patience.{IsPatient, IsUnanswered, IsMissing}
use Rattle.octo_session_line_proof.proofs.Promised.{ends_talking}

-- what no step changes
pub record Lasts (s t : SenderData) : Type 0 where
  pub window : t.window ≡ s.window
  pub limit : t.limit ≡ s.limit

heard_lasts : (line : Reply) (moment : ℕ) (s : SenderData) → Lasts s (hear_step line moment s)
heard_lasts (reply.Ok number _ _ _) moment s = grind (arith, common_steps)
heard_lasts (reply.Resend number) moment s = grind (arith, common_steps)
heard_lasts reply.Start moment s = grind (arith, common_steps)
heard_lasts reply.Busy moment s = grind (arith, common_steps)
heard_lasts (reply.Temps _) moment s = grind (arith, common_steps)
heard_lasts reply.Error moment s = grind (arith, common_steps)
heard_lasts reply.Other moment s = grind (arith, common_steps)

ticked_lasts : (moment : ℕ) (s : SenderData) → Lasts s (tick_step moment s)
ticked_lasts moment s = grind (arith, common_steps)

given_lasts : (moment : ℕ) (s : SenderData) → Lasts s (frame_step moment s)
given_lasts moment s = grind (arith, common_steps)

step_lasts : (moment : ℕ) (step : Step) (s : SenderData) → Lasts s (after_step moment step s)
step_lasts moment opens s = record { window = refl; limit = refl }
step_lasts moment finds_no_port s = record { window = refl; limit = refl }
step_lasts moment fails_to_dial s = record { window = refl; limit = refl }
step_lasts moment (hears bytes) s = heard_lasts (kind_of bytes) moment s
step_lasts moment listens s = record { window = refl; limit = refl }
step_lasts moment fails_to_receive s = record { window = refl; limit = refl }
step_lasts moment ticks s = ticked_lasts moment s
step_lasts moment (issues text) s = record { window = refl; limit = refl }
step_lasts moment gives s = given_lasts moment s
step_lasts moment fails_to_send s = given_lasts moment s
step_lasts moment (hangs_up was_up) s = record { window = refl; limit = refl }

pub steps_last : (moment : ℕ) (steps : List Step) (s : SenderData) → Lasts s (after_steps moment steps s)
steps_last moment [] s = record { window = refl; limit = refl }
steps_last moment (step ∷ steps) s =
    let one = step_lasts moment step s in
    let more = steps_last moment steps (after_step moment step s) in
    record { window = more.window ∙ one.window; limit = more.limit ∙ one.limit }

module _ (start limit moment : ℕ) (since : start ≤ moment) where
  patient_heard : (line : Reply) (s : SenderData) → IsPatient start limit s → IsPatient start limit (hear_step line moment s)
  patient_heard line s p = record {
    sound = hears_sound line moment s p.sound;
    its_limit = (heard_lasts line moment s).limit ∙ p.its_limit;
    waits = waits_five_limits.1 start (sender_hears line moment) s p.sound since p.waits;
  }

  patient_ticked : (s : SenderData) → IsPatient start limit s → IsPatient start limit (tick_step moment s)
  patient_ticked s p = record {
    sound = ticks_sound moment s p.sound;
    its_limit = (ticked_lasts moment s).limit ∙ p.its_limit;
    waits = waits_five_limits.1 start (sender_ticks moment) s p.sound since p.waits;
  }

  patient_given : (s : SenderData) → IsPatient start limit s → IsPatient start limit (frame_step moment s)
  patient_given s p = record {
    sound = gives_sound moment s p.sound;
    its_limit = (given_lasts moment s).limit ∙ p.its_limit;
    waits = waits_five_limits.1 start (sender_gives moment) s p.sound since p.waits;
  }

  patient_step : (step : Step) (s : SenderData) → IsAllowed step s → IsPatient start limit s → IsPatient start limit (after_step moment step s)
  patient_step opens s can p = record { sound = begun_sound s p.sound; its_limit = p.its_limit; waits = waits_five_limits.0 start s }
  patient_step finds_no_port s can p = p
  patient_step fails_to_dial s can p = p
  patient_step (hears bytes) s can p = patient_heard (kind_of bytes) s p
  patient_step listens s can p = p
  patient_step fails_to_receive s can p = p
  patient_step ticks s can p = patient_ticked s p
  patient_step (issues text) s can p = record {
    sound = issues_sound text s can.0 p.sound;
    its_limit = p.its_limit;
    waits = waits_five_limits.1 start (sender_issues text) s p.sound tt p.waits;
  }
  patient_step gives s can p = patient_given s p
  patient_step fails_to_send s can p = patient_given s p
  patient_step (hangs_up was_up) s can p = p

  pub patient_steps : (steps : List Step) (s : SenderData) → AreAllowed moment steps s → IsPatient start limit s →
      IsPatient start limit (after_steps moment steps s)
  patient_steps [] s can p = p
  patient_steps (step ∷ steps) s can p = patient_steps steps (after_step moment step s) can.1 (patient_step step s can.0 p)

  -- a tick that ends the session so
  tick_waited : (count : ℕ) (s : SenderData) → IsPatient start limit s → s.ended ≡ None → (tick_step moment s).ended ≡ Some (NoAnswer count) →
      (later start (5 * limit) ≤ moment) × IsUnanswered s
  tick_waited count s p running ends =
      let waited = waits_five_limits.3 start moment count s p.sound p.waits running ends in
      let L : ℕ → Type 0 = λ n. later start (5 * n) ≤ moment in
      (subst L p.its_limit waited.0, waited.1)

  heard_waited : (count : ℕ) (line : Reply) (s : SenderData) (ended : Option SessionEnd) → IsPatient start limit s → s.ended ≡ None →
      (hear_step line moment s).ended ≡ ended → (tick_step moment (hear_step line moment s)).ended ≡ Some (NoAnswer count) →
      (later start (5 * limit) ≤ moment) × IsUnanswered (hear_step line moment s)
  heard_waited count line s None p running is ends = tick_waited count (hear_step line moment s) (patient_heard line s p) is ends
  heard_waited count line s (Some why) p running is ends =
      let stays : (tick_step moment (hear_step line moment s)).ended ≡ Some why = kept (hear_step line moment s) is in
      let same : (hear_step line moment s).ended ≡ Some (NoAnswer count) = is ∙ sym stays ∙ ends in
      absurd (((ends_by_rule (NoAnswer count) s moment running).0 line).0 same)
    where
      kept : (t : SenderData) → t.ended ≡ Some why → (tick_step moment t).ended ≡ Some why
      kept t is = grind (arith, common_steps)

  -- a tick that ends the session for a missing `ok`
  tick_told : (count : ℕ) (s : SenderData) → IsPatient start limit s → s.ended ≡ None → (tick_step moment s).ended ≡ Some (LostOk count) →
      (later start (20 * limit) ≤ moment) × (s.ready ≡ true) × (s.acked < s.issued)
  tick_told count s p running ends =
      let told = waits_five_limits.4 start moment count s p.sound p.waits running ends in
      let L : ℕ → Type 0 = λ n. later start (20 * n) ≤ moment in
      (subst L p.its_limit told.0, told.1, told.2)

  heard_told : (count : ℕ) (line : Reply) (s : SenderData) (ended : Option SessionEnd) → IsPatient start limit s → s.ended ≡ None →
      (hear_step line moment s).ended ≡ ended → (tick_step moment (hear_step line moment s)).ended ≡ Some (LostOk count) →
      (later start (20 * limit) ≤ moment) × ((hear_step line moment s).ready ≡ true) × ((hear_step line moment s).acked < (hear_step line moment s).issued)
  heard_told count line s None p running is ends = tick_told count (hear_step line moment s) (patient_heard line s p) is ends
  heard_told count line s (Some why) p running is ends =
      let stays : (tick_step moment (hear_step line moment s)).ended ≡ Some why = kept (hear_step line moment s) is in
      let same : (hear_step line moment s).ended ≡ Some (LostOk count) = is ∙ sym stays ∙ ends in
      absurd (((ends_by_rule (LostOk count) s moment running).0 line).0 same)
    where
      kept : (t : SenderData) → t.ended ≡ Some why → (tick_step moment t).ended ≡ Some why
      kept t is = grind (arith, common_steps)

  missing_ticked : (s : SenderData) → s.ready ≡ true → s.acked < s.issued → ((tick_step moment s).ready ≡ true) × ((tick_step moment s).acked < (tick_step moment s).issued)
  missing_ticked s ready some =
      let kept = ticked_keeps moment s in
      (kept.ready ∙ ready, omega (arith, some, kept.acked, kept.issued))

  -- a turn that ends the session so
  pub turn_told : (count : ℕ) (got : Got) (texts : List (List ℕ)) (frames : ℕ) (s : SenderData) → IsPatient start limit s → s.ended ≡ None →
      end_by got moment s ≡ Some (LostOk count) →
      (later start (20 * limit) ≤ moment) × IsMissing (after_steps moment (steps_over_link got (fact.Ended (LostOk count)) texts frames) s)
  turn_told count unasked texts frames s p running ends = absurd (cc)
  turn_told count lost texts frames s p running ends = absurd (cc)
  turn_told count nothing texts frames s p running ends =
      let w = tick_told count s p running ends in
      (w.0, missing_ticked s w.1 w.2)
  turn_told count (whole bytes) texts frames s p running ends =
      let w = heard_told count (kind_of bytes) s (hear_step (kind_of bytes) moment s).ended p running refl ends in
      (w.0, missing_ticked (hear_step (kind_of bytes) moment s) w.1 w.2)

  -- what is left of it after the tick
  unanswered_ticked : (s : SenderData) → IsUnanswered s → IsUnanswered (tick_step moment s)
  unanswered_ticked s (inl unready) = inl ((ticked_keeps moment s).ready ∙ unready)
  unanswered_ticked s (inr some) =
      let kept = ticked_keeps moment s in
      inr (omega (arith, some, kept.acked, kept.issued))

  -- a turn that ends the session so
  pub turn_waited : (count : ℕ) (got : Got) (texts : List (List ℕ)) (frames : ℕ) (s : SenderData) → IsPatient start limit s → s.ended ≡ None →
      end_by got moment s ≡ Some (NoAnswer count) →
      (later start (5 * limit) ≤ moment) × IsUnanswered (after_steps moment (steps_over_link got (fact.Ended (NoAnswer count)) texts frames) s)
  turn_waited count unasked texts frames s p running ends = absurd (cc)
  turn_waited count lost texts frames s p running ends = absurd (cc)
  turn_waited count nothing texts frames s p running ends =
      let w = tick_waited count s p running ends in
      (w.0, unanswered_ticked s w.1)
  turn_waited count (whole bytes) texts frames s p running ends =
      let w = heard_waited count (kind_of bytes) s (hear_step (kind_of bytes) moment s).ended p running refl ends in
      (w.0, unanswered_ticked (hear_step (kind_of bytes) moment s) w.1)

module _ (moment : ℕ) (kind : LinkKind) (old_past new_past : Option (List WorldEvent)) (old_calls new_calls : Option ℕ) (old mid : SessionData) (turned : Turned) (t : IsTurn moment kind old_past new_past old_calls new_calls old mid turned) where
  -- the sender after a turn that found the end of its session
  pub ended_sender : (why : SessionEnd) → t.found ≡ fact.Ended why → can_find (doing old) t.found ≡ true →
      mid.sender ≡ after_steps moment (steps_over_link t.got (fact.Ended why) (texts_in t.lines) t.steps.count) old.sender
  ended_sender why is can =
      let F : LinkFact → Type 0 = λ f. can_find (doing old) f ≡ true in
      t.steps.takes.sender
      ∙ ap (λ (d : Doing). after_steps moment (turn_steps d old.up t.got t.found (texts_in t.lines) t.steps.count) old.sender) (ends_talking why (doing old) (subst F is can))
      ∙ ap (λ (f : LinkFact). after_steps moment (steps_over_link t.got f (texts_in t.lines) t.steps.count) old.sender) is

  -- and its end before it
  pub running_till : (why : SessionEnd) → IsSession old → t.found ≡ fact.Ended why → can_find (doing old) t.found ≡ true → old.sender.ended ≡ None
  running_till why joined is can =
      let F : LinkFact → Type 0 = λ f. can_find (doing old) f ≡ true in
      joined.running (talks_up old (ends_talking why (doing old) (subst F is can)))

  module _ (start limit : ℕ) (since : start ≤ moment) where
    -- the sender after a turn
    pub turn_patient : IsPatient start limit old.sender → IsPatient start limit mid.sender
    turn_patient p =
        let P : SenderData → Type 0 = λ s. IsPatient start limit s in
        subst P (sym t.steps.takes.sender) (patient_steps start limit moment since (turn_steps (doing old) old.up t.got t.found (texts_in t.lines) t.steps.count) old.sender t.steps.takes.allowed p)

    pub turn_unanswered : (count : ℕ) → IsSession old → IsPatient start limit old.sender → t.found ≡ fact.Ended (NoAnswer count) →
        can_find (doing old) t.found ≡ true → (later start (5 * limit) ≤ moment) × IsUnanswered mid.sender
    turn_unanswered count joined p is can =
        let w = turn_waited start limit moment since count t.got (texts_in t.lines) t.steps.count old.sender p (running_till (NoAnswer count) joined is can) ((t.ended (NoAnswer count)).0 is) in
        let U : SenderData → Type 0 = λ s. IsUnanswered s in
        (w.0, subst U (sym (ended_sender (NoAnswer count) is can)) w.1)

    pub turn_missing : (count : ℕ) → IsSession old → IsPatient start limit old.sender → t.found ≡ fact.Ended (LostOk count) →
        can_find (doing old) t.found ≡ true → (later start (20 * limit) ≤ moment) × IsMissing mid.sender
    turn_missing count joined p is can =
        let w = turn_told start limit moment since count t.got (texts_in t.lines) t.steps.count old.sender p (running_till (LostOk count) joined is can) ((t.ended (LostOk count)).0 is) in
        let U : SenderData → Type 0 = λ s. IsMissing s in
        (w.0, subst U (sym (ended_sender (LostOk count) is can)) w.1)

-- the moment of a turn is one that the clock has shown
shown_by : (a b c : Option ℕ) (at shown next moment : ℕ) → b ≡ a → NotBefore b c → c ≡ Some at → IfSome a (λ was. shown ≡ was) →
    ((was : ℕ) → a ≡ Some was → moment ≤ was) → next ≡ max shown moment → next ≤ at
shown_by None b c at shown next moment is goes e shows below greater =
    let N : Option ℕ → Type 0 = λ x. NotBefore x c in
    let M : Option ℕ → Type 0 = λ x. NotBefore None x in
    absurd (subst M e (subst N is goes))
shown_by (Some was) b c at shown next moment is goes e shows below greater =
    let N : Option ℕ → Type 0 = λ x. NotBefore x c in
    let M : Option ℕ → Type 0 = λ x. NotBefore (Some was) x in
    let later : was ≤ at = subst M e (subst N is goes) in
    omega (arith, greater, shows, below was refl, later)

module _ (began before between after : Option ℕ) (moment limit shown next : ℕ) (s t : SenderData) where
  -- a turn at the greater one of the moment that the clock shows and the last one
  pub in_time : IsOnTime began before moment limit s → IfSome before (λ at. shown ≡ at) → between ≡ before → NotBefore between after →
      next ≡ max shown moment → (start at : ℕ) → began ≡ Some start → after ≡ Some at →
      (start ≤ next) × (next ≤ at) × IsPatient start limit s
  in_time o shows stays goes greater start at is_began is_after =
      let was = told before between after at stays goes is_after in
      let same : shown ≡ was.0 = shown_at before was.0 was.1 shows in
      (omega (arith, greater, o.later start was.0 is_began was.1, same), omega (arith, greater, o.shown was.0 was.1, same, was.2), o.since start was.0 is_began was.1)
    where
      told : (a b c : Option ℕ) (at : ℕ) → b ≡ a → NotBefore b c → c ≡ Some at → (was : ℕ) × (a ≡ Some was) × (was ≤ at)
      told None b c at is goes e =
          let N : Option ℕ → Type 0 = λ x. NotBefore x c in
          let M : Option ℕ → Type 0 = λ x. NotBefore None x in
          absurd (subst M e (subst N is goes))
      told (Some was) b c at is goes e =
          let N : Option ℕ → Type 0 = λ x. NotBefore x c in
          let M : Option ℕ → Type 0 = λ x. NotBefore (Some was) x in
          (was, refl, subst M e (subst N is goes))

      shown_at : (a : Option ℕ) (was : ℕ) → a ≡ Some was → IfSome a (λ at. shown ≡ at) → shown ≡ was
      shown_at a was is shows =
          let I : Option ℕ → Type 0 = λ x. IfSome x (λ at. shown ≡ at) in
          subst I is shows

  pub on_time_next : IsOnTime began before moment limit s → IfSome before (λ at. shown ≡ at) → between ≡ before → NotBefore between after →
      next ≡ max shown moment → ((start : ℕ) → start ≤ next → IsPatient start limit s → IsPatient start limit t) →
      IsOnTime began after next limit t
  on_time_next o shows stays goes greater turn = record {
    patient = turn 0 (omega arith) o.patient;
    since = λ start at is_began is_after. (let so = in_time o shows stays goes greater start at is_began is_after in turn start so.0 so.2);
    later = λ start at is_began is_after. (let so = in_time o shows stays goes greater start at is_began is_after in omega (arith, so.0, so.1));
    shown = λ at is_after. on_show at is_after o shows stays goes greater;
  }
    where
      on_show : (at : ℕ) → after ≡ Some at → IsOnTime began before moment limit s → IfSome before (λ at. shown ≡ at) → between ≡ before →
          NotBefore between after → next ≡ max shown moment → next ≤ at
      on_show at is_after o shows stays goes greater = shown_by before between after at shown next moment stays goes is_after shows o.shown greater
