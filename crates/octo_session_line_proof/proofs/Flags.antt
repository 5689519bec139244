-- What issuing, sending and the clock leave of a sender.
use Rattle.std.proofs.Common.{◌≡◌, ℕ, ◌≤◌, Bool, true, false, List, ◌∷◌, ◌++◌, [], refl, sym, ◌∙◌, subst, arith}
use Rattle.std.specs.Prelude.{Option, Some, None}
use Rattle.std.proofs.lemmas.Grind.{common_steps}
use Rattle.send_window.specs.declared.session_end.SessionEnd.{SessionEnd}
use Rattle.send_window.specs.declared.session_end.SessionEnd.TheVariants.{NoAnswer, AskedBack, AskedAhead, Counts, Restarted, LostOk, NumbersUsed}
use Rattle.send_window.specs.Data.{SenderData, NoneEarly}
use Rattle.send_window.specs.Hearing.{tick_step}
use Rattle.send_window.specs.Sending.{frame_step}
use Rattle.send_window.proofs.Ending.{tick_ends}
use Rattle.octo_session_line_proof.specs.Pieces.{Piece, greeting, command, Sent, intact, corrupted, IsSentEarly, IsSentLate}
use Rattle.octo_session_line_proof.specs.Wires.{Printed, before, after, IsFair}
use Rattle.octo_session_line_proof.proofs.Lists.{accepted_more}

-- two senders that a printer can't distinguish by its replies
pub record SameFlags (s t : SenderData) : Type 0 where
  pub kind : t.numbered ≡ s.numbered
  pub ready : t.ready ≡ s.ready
  pub acked : t.acked ≡ s.acked
  pub issued : t.issued ≡ s.issued
  pub swallow : t.swallow ≡ s.swallow
  pub due : s.numbered ≡ false → t.hello_due ≡ true → s.hello_due ≡ true
  pub running : t.ended ≡ None → s.ended ≡ None
  pub asks : t.asked_anew ≡ true → s.asked_anew ≡ true
  pub hellos : s.hellos ≤ t.hellos
  pub fair : (d : Bool) → IsFair d s.ended → IsFair d t.ended

-- the clock ends a session only for silence
tick_fair_by : (d : Bool) (moment : ℕ) (s : SenderData) (ended : Option SessionEnd) → s.ended ≡ None → (tick_step moment s).ended ≡ ended → IsFair d ended
tick_fair_by d moment s None running is = tt
tick_fair_by d moment s (Some (NoAnswer count)) running is = tt
tick_fair_by d moment s (Some (AskedBack number acknowledged)) running is = absurd ((tick_ends (AskedBack number acknowledged) moment s running).0 is)
tick_fair_by d moment s (Some (AskedAhead number all)) running is = absurd ((tick_ends (AskedAhead number all) moment s running).0 is)
tick_fair_by d moment s (Some (Counts number expected)) running is = absurd ((tick_ends (Counts number expected) moment s running).0 is)
tick_fair_by d moment s (Some Restarted) running is = tt
tick_fair_by d moment s (Some (LostOk limits)) running is = tt
tick_fair_by d moment s (Some (NumbersUsed all)) running is = tt

tick_keeps_end : (moment : ℕ) (s : SenderData) (why : SessionEnd) → s.ended ≡ Some why → (tick_step moment s).ended ≡ s.ended
tick_keeps_end moment s why is = grind (arith, common_steps)

tick_fair : (d : Bool) (moment : ℕ) (s : SenderData) (ended : Option SessionEnd) → s.ended ≡ ended → IsFair d s.ended → IsFair d (tick_step moment s).ended
tick_fair d moment s None is fair = tick_fair_by d moment s (tick_step moment s).ended is refl
tick_fair d moment s (Some why) is fair = subst (λ (e : Option SessionEnd). IsFair d e) (sym (tick_keeps_end moment s why is)) fair

pub tick_flags : (moment : ℕ) (s : SenderData) → SameFlags s (tick_step moment s)
tick_flags moment s = record {
  kind = grind (arith, common_steps);
  ready = grind (arith, common_steps);
  acked = grind (arith, common_steps);
  issued = grind (arith, common_steps);
  swallow = grind (arith, common_steps);
  due = λ counts d. grind (arith, common_steps);
  running = λ d. grind (arith, common_steps);
  asks = λ a. grind (arith, common_steps);
  hellos = grind (arith, common_steps);
  fair = λ d. tick_fair d moment s s.ended refl;
}

pub give_keeps_end : (moment : ℕ) (s : SenderData) → (frame_step moment s).ended ≡ s.ended
give_keeps_end moment s = grind (arith, common_steps)

pub give_flags : (moment : ℕ) (s : SenderData) → SameFlags s (frame_step moment s)
give_flags moment s = record {
  kind = grind (arith, common_steps);
  ready = grind (arith, common_steps);
  acked = grind (arith, common_steps);
  issued = grind (arith, common_steps);
  swallow = grind (arith, common_steps);
  due = λ counts d. grind (arith, common_steps);
  running = λ d. grind (arith, common_steps);
  asks = λ a. grind (arith, common_steps);
  hellos = grind (arith, common_steps);
  fair = λ d fair. subst (λ (e : Option SessionEnd). IsFair d e) (sym (give_keeps_end moment s)) fair;
}

-- a hello that is sent has the next number
abbrev pub IsNextHello : ℕ → Sent → Type 0
IsNextHello hellos (intact (greeting number)) = number ≡ hellos
IsNextHello hellos (intact (command place text)) = Unit {0}
IsNextHello hellos (corrupted bytes) = Unit {0}

-- what may be sent: before the hello's `ok` only the hello, if it is due
pub record MaySend (issued : List (List ℕ)) (s : SenderData) (sent : Sent) : Type 0 where
  pub early_so : s.ready ≡ false → IsSentEarly sent × (s.hello_due ≡ true)
  pub numbered_so : IsNextHello s.hellos sent
  pub late_so : s.ready ≡ true → IsSentLate issued sent

-- more texts are issued
pub printed_more : (issued : List (List ℕ)) (text : List ℕ) (ran d : Bool) (last : ℕ) (queue log : List Piece) → Printed issued ran d last queue log →
    Printed (issued ++ text ∷ []) ran d last queue log
printed_more issued text ran d last queue log (before b) = before b
printed_more issued text ran d last queue log (after p) = after (record {
  has_run = p.has_run;
  accepted = accepted_more issued (text ∷ []) (log ++ queue) p.accepted;
  waiting = p.waiting;
  last_is = p.last_is;
  emptied = p.emptied;
})

-- no line was issued before the hello's `ok`
pub flags_fresh : (s t : SenderData) → SameFlags s t → NoneEarly s → NoneEarly t
flags_fresh s t same fresh unready = same.issued ∙ fresh (sym same.ready ∙ unready)
