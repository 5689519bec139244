-- What a session's end says of its numbers is so.
use Rattle.std.proofs.Common.{◌≡◌, ◌⊎◌, inl, inr, ℕ, ◌≤◌, Bool, true, false, List, Option, None, Some, refl, sym, ◌∙◌, subst, arith}
use Rattle.std.proofs.lemmas.Grind.{common_steps}
use Rattle.marlin_reply.specs.Kind.{kind_of}
use Rattle.marlin_reply.specs.declared.reply.Reply.{Reply}
use Rattle.printer_link.specs.Link.{LinkKind}
use Rattle.printer_model.specs.declared.event.WorldEvent.{WorldEvent}
use Rattle.job_desk.specs.declared.link_fact.LinkFact.TheVariants as fact
use Rattle.send_window.specs.Data.{SenderData, IsSound, most_lines}
use Rattle.send_window.specs.Hearing.{hear_step, tick_step}
use Rattle.send_window.specs.declared.session_end.SessionEnd.{SessionEnd}
use Rattle.send_window.specs.declared.session_end.SessionEnd.TheVariants.{NoAnswer, AskedBack, AskedAhead, Counts, Restarted, LostOk, NumbersUsed}
use Rattle.send_window.specs.Laws.{IsLast}
use Rattle.send_window.proofs.Ending.{ends_by_rule}
use Rattle.octo_session.specs.Data.{SessionData, IsSession, doing}
use Rattle.octo_session.specs.Found.{Got, unasked, lost, nothing, whole, end_by, can_find}
use Rattle.octo_session.specs.Steps.{after_steps, steps_over_link}
use Rattle.octo_session.specs.Turn.{IsTurn, texts_in}
use Rattle.octo_session.specs.declared.found.Turned.{Turned}
use Rattle.octo_session.proofs.Keeping.{ticked_keeps}
use Rattle.send_window.specs.Patience.{IsPatient, FitsEnd}
use Rattle.octo_session_line_proof.proofs.Waits.{ended_sender, running_till, turn_unanswered, turn_missing}

module _ (moment : ℕ) where
  -- a tick keeps an end
  still_ended : (why : SessionEnd) (s : SenderData) → s.ended ≡ Some why → (tick_step moment s).ended ≡ Some why
  still_ended why s is = grind (arith, common_steps)

  -- whether a reply ends a session or the tick after it
  ends_by : (why : SessionEnd) (line : Reply) (s : SenderData) (ended : Option SessionEnd) → (hear_step line moment s).ended ≡ ended
      → (tick_step moment (hear_step line moment s)).ended ≡ Some why
      → ((hear_step line moment s).ended ≡ Some why) ⊎ ((hear_step line moment s).ended ≡ None)
  ends_by why line s None is ends = inr is
  ends_by why line s (Some other) is ends =
      inl (is ∙ sym (still_ended other (hear_step line moment s) is) ∙ ends)

  -- no answer is an end after five limits
  five_limits : (count : ℕ) (got : Got) (s : SenderData) → s.ended ≡ None → end_by got moment s ≡ Some (NoAnswer count) → count ≡ 5
  five_limits count unasked s running ends = absurd (cc)
  five_limits count lost s running ends = absurd (cc)
  five_limits count nothing s running ends = ((ends_by_rule (NoAnswer count) s moment running).1.0 ends).3
  five_limits count (whole bytes) s running ends =
      by (ends_by (NoAnswer count) (kind_of bytes) s (hear_step (kind_of bytes) moment s).ended refl ends)
    where
      by : ((hear_step (kind_of bytes) moment s).ended ≡ Some (NoAnswer count)) ⊎ ((hear_step (kind_of bytes) moment s).ended ≡ None) → count ≡ 5
      by (inl heard) = absurd (((ends_by_rule (NoAnswer count) s moment running).0 (kind_of bytes)).0 heard)
      by (inr still) = ((ends_by_rule (NoAnswer count) (hear_step (kind_of bytes) moment s) moment still).1.0 ends).3

  -- a missing `ok` is an end after twenty
  twenty_limits : (count : ℕ) (got : Got) (s : SenderData) → s.ended ≡ None → end_by got moment s ≡ Some (LostOk count) → count ≡ 20
  twenty_limits count unasked s running ends = absurd (cc)
  twenty_limits count lost s running ends = absurd (cc)
  twenty_limits count nothing s running ends = ((ends_by_rule (LostOk count) s moment running).1.0 ends).5
  twenty_limits count (whole bytes) s running ends =
      by (ends_by (LostOk count) (kind_of bytes) s (hear_step (kind_of bytes) moment s).ended refl ends)
    where
      by : ((hear_step (kind_of bytes) moment s).ended ≡ Some (LostOk count)) ⊎ ((hear_step (kind_of bytes) moment s).ended ≡ None) → count ≡ 20
      by (inl heard) = absurd (((ends_by_rule (LostOk count) s moment running).0 (kind_of bytes)).0 heard)
      by (inr still) = ((ends_by_rule (LostOk count) (hear_step (kind_of bytes) moment s) moment still).1.0 ends).5

  -- the `ok` of a session's last line
  last_heard : (all : ℕ) (line : Reply) (s : SenderData) → s.ended ≡ None → IsSound s → (hear_step line moment s).ended ≡ Some (NumbersUsed all)
      → (all ≡ most_lines) × ((hear_step line moment s).acked ≡ most_lines)
  last_heard all line s running sound heard =
      let rule = ((ends_by_rule (NumbersUsed all) s moment running).0 line).0 heard in
      (omega (arith, rule.1, issued_all s.numbered rule.0), acked_at line refl)
    where
      issued_all : (numbered : Bool) → IsLast numbered line s → s.issued ≡ most_lines
      issued_all false last = omega (arith, last.awaited, last.last, sound.few)
      issued_all true last = omega (arith, last.issued, sound.few)

      acked_at : (l : Reply) → line ≡ l → (hear_step line moment s).acked ≡ most_lines
      acked_at l is = grind (arith, common_steps)

  -- a session's numbers are used only once all of them are acknowledged
  used_numbers : (all : ℕ) (got : Got) (texts : List (List ℕ)) (frames : ℕ) (s : SenderData) → s.ended ≡ None → IsSound s
      → end_by got moment s ≡ Some (NumbersUsed all)
      → (all ≡ most_lines) × ((after_steps moment (steps_over_link got (fact.Ended (NumbersUsed all)) texts frames) s).acked ≡ most_lines)
  used_numbers all unasked texts frames s running sound ends = absurd (cc)
  used_numbers all lost texts frames s running sound ends = absurd (cc)
  used_numbers all nothing texts frames s running sound ends = absurd ((ends_by_rule (NumbersUsed all) s moment running).1.0 ends)
  used_numbers all (whole bytes) texts frames s running sound ends =
      by (ends_by (NumbersUsed all) (kind_of bytes) s (hear_step (kind_of bytes) moment s).ended refl ends)
    where
      by : ((hear_step (kind_of bytes) moment s).ended ≡ Some (NumbersUsed all)) ⊎ ((hear_step (kind_of bytes) moment s).ended ≡ None)
          → (all ≡ most_lines) × ((after_steps moment (steps_over_link (whole bytes) (fact.Ended (NumbersUsed all)) texts frames) s).acked ≡ most_lines)
      by (inl heard) =
          let last = last_heard all (kind_of bytes) s running sound heard in
          (last.0, (ticked_keeps moment (hear_step (kind_of bytes) moment s)).acked ∙ last.1)
      by (inr still) = absurd ((ends_by_rule (NumbersUsed all) (hear_step (kind_of bytes) moment s) moment still).1.0 ends)

module _ (moment : ℕ) (kind : LinkKind) (old_past new_past : Option (List WorldEvent)) (old_calls new_calls : Option ℕ) (old mid : SessionData) (turned : Turned)
    (t : IsTurn moment kind old_past new_past old_calls new_calls old mid turned) (joined : IsSession old) where
  -- a turn after which the numbers are used
  pub turn_used : (all : ℕ) → IsSound old.sender → t.found ≡ fact.Ended (NumbersUsed all) → can_find (doing old) t.found ≡ true
      → (all ≡ most_lines) × (mid.sender.acked ≡ most_lines)
  turn_used all sound is can =
      let used = used_numbers moment all t.got (texts_in t.lines) t.steps.count old.sender
      (running_till moment kind old_past new_past old_calls new_calls old mid turned t (NumbersUsed all) joined is can) sound ((t.ended (NumbersUsed all)).0 is)
      in
      let A : SenderData → Type 0 = λ s. s.acked ≡ most_lines in
      (used.0, subst A (sym (ended_sender moment kind old_past new_past old_calls new_calls old mid turned t (NumbersUsed all) is can)) used.1)

  -- the end that a turn found is so
  pub turn_fits : (start limit : ℕ) → start ≤ moment → IsPatient start limit old.sender → (why : SessionEnd) → t.found ≡ fact.Ended why
      → can_find (doing old) t.found ≡ true → FitsEnd why mid.sender
  turn_fits start limit since p (NoAnswer count) is can = (
    five_limits moment count t.got old.sender (running_till moment kind old_past new_past old_calls new_calls old mid turned t (NoAnswer count) joined is can)
        ((t.ended (NoAnswer count)).0 is),
    (turn_unanswered moment kind old_past new_past old_calls new_calls old mid turned t start limit since count joined p is can).1,
  )
  turn_fits start limit since p (LostOk count) is can = (
    twenty_limits moment count t.got old.sender (running_till moment kind old_past new_past old_calls new_calls old mid turned t (LostOk count) joined is can)
        ((t.ended (LostOk count)).0 is),
    (turn_missing moment kind old_past new_past old_calls new_calls old mid turned t start limit since count joined p is can).1,
  )
  turn_fits start limit since p (NumbersUsed all) is can = turn_used all p.sound is can
  turn_fits start limit since p (AskedBack number acknowledged) is can = tt
  turn_fits start limit since p (AskedAhead number all) is can = tt
  turn_fits start limit since p (Counts number expected) is can = tt
  turn_fits start limit since p Restarted is can = tt
