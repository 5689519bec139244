-- What the events of the line and the printer leave of the parts if `ok`s count by their numbers.
use Rattle.std.proofs.Common.{◌≡◌, ◌⊎◌, inl, inr, ℕ, suc, ◌+◌, ◌<◌, ◌≤◌, Bool, true, false, List, [], ◌∷◌, ◌++◌, length, refl, ◌∙◌, ap, subst, append_assoc, length-append, arith}
use Rattle.std.specs.Prelude.{Option, None, Some}
use Rattle.std.specs.List.{remove}
use Rattle.marlin_frame.specs.Numbering.{hello_number, wire_number}
use Rattle.printer_model.specs.Replies.{asked_after}
use Rattle.send_window.specs.declared.session_end.SessionEnd.{SessionEnd}
use Rattle.send_window.specs.declared.session_end.SessionEnd.TheVariants.{NoAnswer, AskedBack, AskedAhead, Counts, Restarted, LostOk, NumbersUsed}
use Rattle.send_window.specs.Data.{SenderData, IsSound, NoneEarly, most_hellos}
use Rattle.send_window.specs.Session.{HoldsIssued}
use Rattle.octo_session_line_proof.specs.Pieces.{Piece, greeting, command, Sent, intact, Heard, ok_heard, resend_heard, start_heard, talk_heard, named_by, front_in, Each, IsGreeting, IsCommand, IsSentEarly, IsSentLate, IsLineAt}
use Rattle.octo_session_line_proof.specs.Wires.{Wires, last_at, IsAfter, Printed, before, after, lines_run, IsAsked, IsFair, resends, named_on, AreUpAhead, AreQueueAhead, AreNamesAhead, IsNamedEarly, NamedPhase, named_shut, named_early, named_late, NamesRun, NamedReplies}
use Rattle.octo_session_line_proof.proofs.Arrivals.{refusal_asks, after_ran, command_accepted}
use Rattle.octo_session_line_proof.proofs.Lists.{none_left, each_push, greetings_accepted, greetings_run, none_accepted, accepted_at, accepted_within}
use Rattle.octo_session_line_proof.proofs.Moves.{run_grows, run_counts}
use Rattle.octo_session_line_proof.proofs.Naming.{named_append, named_remove, none_removed, names_append, names_remove}
use Rattle.octo_session_line_proof.proofs.Reading.{asked_after-next}
use Rattle.octo_session_line_proof.proofs.Ahead.{queue_more, queue_joined, names_more, names_still, names_lost, names_ran, named_one, up_behind}

-- the phase and the replies after a step
pub record IsAfterNamed (issued : List (List ℕ)) (s : SenderData) (linked : Bool) (a : Wires) (way : List Heard) : Type 0 where
  pub phase : NamedPhase issued s linked a way
  pub replies : NamedReplies s linked a.dropped a.log way

-- fewer lines, or others of the same kind, are on the wire to the printer
pub named_up : (issued : List (List ℕ)) (s : SenderData) (linked : Bool) (a : Wires) (way : List Heard) (up : List Sent) → length up ≤ length a.up →
    (Each IsSentEarly a.up → Each IsSentEarly up) → (Each (IsSentLate issued) a.up → Each (IsSentLate issued) up) →
    ((h : ℕ) → AreUpAhead h a.up → AreUpAhead h up) → NamedPhase issued s linked a way → NamedPhase issued s linked (record a { up = up }) way
named_up issued s linked a way up le early_so late_so ahead_so (named_shut shut none idle) =
    let few : length a.up ≡ 0 = ap length none in
    named_shut shut (none_left up (omega (arith, le, few))) idle
named_up issued s linked a way up le early_so late_so ahead_so (named_early opened unready e) = named_early opened unready (record {
  ups = early_so e.ups;
  waits = e.waits;
  up_ahead = ahead_so s.hellos e.up_ahead;
  queue_ahead = queue_more s.hellos s.hellos (length a.up) (length up) a.queue (omega (arith, le)) e.queue_ahead;
  names_ahead = names_still s.hellos s.hellos (length a.up + length a.queue) (length up + length a.queue) way (omega (arith, le)) e.names_ahead;
  unrun_ok = e.unrun_ok;
  fair = e.fair;
})
named_up issued s linked a way up le early_so late_so ahead_so (named_late opened ready ran ups waits) = named_late opened ready ran (late_so ups) waits

-- replies that say nothing join the way, and the queue stays or is dropped
early_more : (s : SenderData) (ran : Bool) (queue queue' : List Piece) (up : List Sent) (way more : List Heard) → resends more ≡ 0 → named_on more ≡ 0 →
    AreNamesAhead s.hellos (length up + length queue') more → length queue' ≤ length queue → Each IsGreeting queue' → AreQueueAhead s.hellos (length up) queue' →
    IsNamedEarly s ran queue up way → IsNamedEarly s ran queue' up (way ++ more)
early_more s ran queue queue' up way more light none so le waits ahead e = record {
  ups = e.ups;
  waits = waits;
  up_ahead = e.up_ahead;
  queue_ahead = ahead;
  names_ahead = names_more s.hellos s.hellos (length up + length queue) (length up + length queue') way more (omega (arith, light, none, le)) so e.names_ahead;
  unrun_ok = λ t. omega (arith, e.unrun_ok t, none, named_append way more);
  fair = e.fair;
}

-- an end stays fair if the printer restarts
fair_so : (d d' : Bool) (ended : Option SessionEnd) → (d ≡ true → d' ≡ true) → IsFair d ended → IsFair d' ended
fair_so d d' None so fair = tt
fair_so d d' (Some (NoAnswer count)) so fair = tt
fair_so d d' (Some (AskedBack number acknowledged)) so fair = so fair
fair_so d d' (Some (AskedAhead number all)) so fair = fair
fair_so d d' (Some (Counts number expected)) so fair = fair
fair_so d d' (Some Restarted) so fair = tt
fair_so d d' (Some (LostOk limits)) so fair = tt
fair_so d d' (Some (NumbersUsed all)) so fair = tt

-- replies join the way, and no line runs
pub named_more : (s : SenderData) (linked d d' : Bool) (log : List Piece) (way more : List Heard) → (d ≡ true → d' ≡ true) →
    (s.ready ≡ true → (m : ℕ) → m ≤ lines_run log → NamesRun d' s.issued m (lines_run log) more) → NamedReplies s linked d log way →
    NamedReplies s linked d' log (way ++ more)
named_more s linked d d' log way more so last r = record {
  fair = fair_so d d' s.ended so r.fair;
  acked_run = r.acked_run;
  reads = λ running opened ready.
      names_append d d' s.issued s.acked (lines_run log) (lines_run log) way more so (omega arith) r.acked_run (last ready) (r.reads running opened ready);
}

module _ (issued : List (List ℕ)) (s : SenderData) (linked : Bool) (a : Wires) (way : List Heard) where
  -- another reply
  pub named_chat : linked ≡ true → NamedPhase issued s linked a way → NamedReplies s linked a.dropped a.log way →
      IsAfterNamed issued s linked a (way ++ talk_heard ∷ [])
  named_chat on phase r = record { phase = by phase; replies = named_more s linked a.dropped a.dropped a.log way (talk_heard ∷ []) (λ e. e) (λ ready m few. tt) r }
    where
      by : NamedPhase issued s linked a way → NamedPhase issued s linked a (way ++ talk_heard ∷ [])
      by (named_shut shut none idle) = absurd (cc)
      by (named_early opened unready e) =
          named_early opened unready (early_more s a.ran a.queue a.queue a.up way (talk_heard ∷ []) refl refl tt (omega arith) e.waits e.queue_ahead e)
      by (named_late opened ready ran ups waits) = named_late opened ready ran ups waits

  -- the printer restarts
  pub named_restart : linked ≡ true → (a.dropped ≡ true → a.ran ≡ true) → NamedPhase issued s linked a way → NamedReplies s linked a.dropped a.log way →
      IsAfterNamed issued s linked (record a { dropped = a.ran; queue = [] }) (way ++ start_heard ∷ [])
  named_restart on so phase r = record { phase = by phase; replies = named_more s linked a.dropped a.ran a.log way (start_heard ∷ []) so (λ ready m few. tt) r }
    where
      by : NamedPhase issued s linked a way → NamedPhase issued s linked (record a { dropped = a.ran; queue = [] }) (way ++ start_heard ∷ [])
      by (named_shut shut none idle) = absurd (cc)
      by (named_early opened unready e) =
          named_early opened unready (early_more s a.ran a.queue [] a.up way (start_heard ∷ []) refl refl tt (omega arith) tt tt e)
      by (named_late opened ready ran ups waits) = named_late opened ready ran ups tt

  -- a reply is lost
  pub named_lost : (at : ℕ) → NamedPhase issued s linked a way → NamedReplies s linked a.dropped a.log way → IsAfterNamed issued s linked a (remove way at)
  named_lost at phase r = record {
    phase = by phase;
    replies = record {
      fair = r.fair;
      acked_run = r.acked_run;
      reads = λ running opened ready. names_remove a.dropped s.issued s.acked (lines_run a.log) way at (r.reads running opened ready);
    };
  }
    where
      by : NamedPhase issued s linked a way → NamedPhase issued s linked a (remove way at)
      by (named_shut shut none idle) = named_shut shut none (none_removed way at idle)
      by (named_early opened unready e) = named_early opened unready (record {
        ups = e.ups;
        waits = e.waits;
        up_ahead = e.up_ahead;
        queue_ahead = e.queue_ahead;
        names_ahead = names_lost s.hellos (length a.up + length a.queue) way at e.names_ahead;
        unrun_ok = λ t. omega (arith, e.unrun_ok t, named_remove way at);
        fair = e.fair;
      })
      by (named_late opened ready ran ups waits) = named_late opened ready ran ups waits

-- the printer restarted after the hello ran
pub dropped_ran : (issued : List (List ℕ)) (ran d : Bool) (last : ℕ) (queue log : List Piece) → Printed issued ran d last queue log → d ≡ true → ran ≡ true
dropped_ran issued ran d last queue log (before b) is = let kept : d ≡ false = b.kept in absurd (cc)
dropped_ran issued ran d last queue log (after p) is = p.has_run

-- the `ok` of a line that ran
ok_names : (named d : Bool) (n m k place : ℕ) → place ≤ k → NamesRun d n m k (ok_heard (named_by named (wire_number place)) ∷ [])
ok_names true d n m k place has_run = (omega (arith, has_run), tt)
ok_names false d n m k place has_run = tt

run_early : (s : SenderData) (ran : Bool) (queue : List Piece) (up : List Sent) (way : List Heard) (lead : ℕ) (named : Bool) →
    IsNamedEarly s ran (greeting lead ∷ queue) up way → IsNamedEarly s true queue up (way ++ ok_heard (named_by named lead) ∷ [])
run_early s ran queue up way lead named e =
    let more : List Heard = ok_heard (named_by named lead) ∷ [] in
    record {
      ups = e.ups;
      waits = e.waits.1;
      up_ahead = e.up_ahead;
      queue_ahead = e.queue_ahead.1;
      names_ahead = names_more s.hellos s.hellos (length up + length (greeting lead ∷ queue)) (length up + length queue) way more (omega (arith, named_one named lead))
          (names_ran named s.hellos (length up + length queue) lead (omega (arith, e.queue_ahead.0))) e.names_ahead;
      unrun_ok = λ (t : true ≡ false). absurd (cc);
      fair = e.fair;
    }

-- the front of the queue runs
pub named_run : (issued : List (List ℕ)) (s : SenderData) (linked : Bool) (last : ℕ) (a : Wires) (way : List Heard) (piece : Piece) (queue : List Piece) (named : Bool) →
    linked ≡ true → Printed issued a.ran a.dropped last (piece ∷ queue) a.log → NamedPhase issued s linked (record a { queue = piece ∷ queue }) way →
    NamedReplies s linked a.dropped a.log way →
    IsAfterNamed issued s linked (record a { ran = true; queue = queue; log = a.log ++ piece ∷ [] }) (way ++ ok_heard (named_by named (front_in piece)) ∷ [])
named_run issued s linked last a way piece queue named on printed (named_shut shut none idle) r = absurd (cc)
named_run issued s linked last a way (command place text) queue named on printed (named_early opened unready e) r = absurd (e.waits.0)
named_run issued s linked last a way (greeting lead) queue named on printed (named_early opened unready e) r = record {
  phase = named_early opened unready (run_early s a.ran queue a.up way lead named e);
  replies = record {
    fair = r.fair;
    acked_run = omega (arith, r.acked_run, run_grows a.log (greeting lead));
    reads = λ running _ (ready : s.ready ≡ true). absurd (cc);
  };
}
named_run issued s linked last a way piece queue named on (before b) (named_late opened ready ran ups waits) r = let unran : a.ran ≡ false = b.unran in absurd (cc)
named_run issued s linked last a way (greeting lead) queue named on (after p) (named_late opened ready ran ups waits) r = absurd waits.0
named_run issued s linked last a way (command place text) queue named on (after p) (named_late opened ready ran ups waits) r =
    let at : IsLineAt issued (1 + lines_run a.log) (command place text) = accepted_at issued a.log place text queue p.accepted in
    let count : lines_run (a.log ++ command place text ∷ []) ≡ suc (lines_run a.log) = run_counts a.log place text in
    let log : List Piece = a.log ++ command place text ∷ [] in
    record {
      phase = named_late opened ready refl ups waits.1;
      replies = record {
        fair = r.fair;
        acked_run = omega (arith, r.acked_run, run_grows a.log (command place text));
        reads = λ running _ _.
            names_append a.dropped a.dropped s.issued s.acked (lines_run a.log) (lines_run log) way (ok_heard (named_by named (wire_number place)) ∷ []) (λ e. e)
            (run_grows a.log (command place text)) r.acked_run
            (λ m few. ok_names named a.dropped s.issued m (lines_run log) place (omega (arith, at.0, count))) (r.reads running opened ready);
      };
    }

-- over a closed link nothing is said
pub named_run_shut : (issued : List (List ℕ)) (s : SenderData) (linked : Bool) (a : Wires) (way : List Heard) (piece : Piece) (queue : List Piece) → linked ≡ false →
    NamedPhase issued s linked (record a { queue = piece ∷ queue }) way → NamedReplies s linked a.dropped a.log way →
    IsAfterNamed issued s linked (record a { ran = true; queue = queue; log = a.log ++ piece ∷ [] }) way
named_run_shut issued s linked a way piece queue off (named_early opened unready e) r = absurd (cc)
named_run_shut issued s linked a way piece queue off (named_late opened ready ran ups waits) r = absurd (cc)
named_run_shut issued s linked a way piece queue off (named_shut shut none idle) r = record {
  phase = named_shut shut none idle;
  replies = record {
    fair = r.fair;
    acked_run = omega (arith, r.acked_run, run_grows a.log piece);
    reads = λ running (on : linked ≡ true) ready. absurd (cc);
  };
}

-- what a refusal says
abbrev pub refused_by : ℕ → List Heard
refused_by number = talk_heard ∷ resend_heard number ∷ ok_heard None ∷ []

-- the line at the front is refused
named_phase_refused : (issued : List (List ℕ)) (s : SenderData) (linked : Bool) (a : Wires) (way : List Heard) (sent : Sent) (up : List Sent) (number : ℕ) →
    NamedPhase issued s linked (record a { up = sent ∷ up }) way → NamedPhase issued s linked (record a { up = up }) (way ++ refused_by number)
named_phase_refused issued s linked a way sent up number (named_shut shut none idle) = absurd (cc)
named_phase_refused issued s linked a way sent up number (named_early opened unready e) = named_early opened unready (record {
  ups = e.ups.1;
  waits = e.waits;
  up_ahead = up_behind s.hellos sent up e.up_ahead;
  queue_ahead = queue_more s.hellos s.hellos (length (sent ∷ up)) (length up) a.queue (omega arith) e.queue_ahead;
  names_ahead = names_more s.hellos s.hellos (length (sent ∷ up) + length a.queue) (length up + length a.queue) way (refused_by number) (omega arith) tt e.names_ahead;
  unrun_ok = λ t. omega (arith, e.unrun_ok t, named_append way (refused_by number));
  fair = e.fair;
})
named_phase_refused issued s linked a way sent up number (named_late opened ready ran ups waits) = named_late opened ready ran ups.1 waits

refusal_by : (issued : List (List ℕ)) (s : SenderData) (last : ℕ) (a : Wires) → IsSound s → HoldsIssued issued s → IsAfter issued a.ran a.dropped last a.queue a.log →
    (m : ℕ) → m ≤ lines_run a.log → (d : Bool) → a.dropped ≡ d → IsAsked s.issued m (asked_after last) ⊎ ((a.dropped ≡ true) × (asked_after last ≡ 1))
refusal_by issued s last a sound holds p m few false kept =
    inl (refusal_asks issued s a.ran a.dropped last a.queue a.log sound holds p m kept few)
refusal_by issued s last a sound holds p m few true is =
    let none : last ≡ 0 = p.last_is ∙ ap (λ (b : Bool). last_at b (lines_run (a.log ++ a.queue))) is in
    inr (is, asked_after-next last (omega (arith, none)) ∙ omega (arith, none))

refusal_named : (issued : List (List ℕ)) (s : SenderData) (linked : Bool) (last : ℕ) (a : Wires) (way : List Heard) (sent : Sent) (up : List Sent) → IsSound s →
    HoldsIssued issued s → Printed issued a.ran a.dropped last a.queue a.log → NamedPhase issued s linked (record a { up = sent ∷ up }) way → s.ready ≡ true →
    (m : ℕ) → m ≤ lines_run a.log → IsAsked s.issued m (asked_after last) ⊎ ((a.dropped ≡ true) × (asked_after last ≡ 1))
refusal_named issued s linked last a way sent up sound holds printed (named_shut shut none idle) ready m few = absurd (cc)
refusal_named issued s linked last a way sent up sound holds printed (named_early opened unready e) ready m few = absurd (cc)
refusal_named issued s linked last a way sent up sound holds printed (named_late opened is_ready ran ups waits) ready m few =
    refusal_by issued s last a sound holds (after_ran issued a.ran a.dropped last a.queue a.log ran printed) m few a.dropped refl

pub named_refused : (issued : List (List ℕ)) (s : SenderData) (linked : Bool) (last : ℕ) (a : Wires) (way : List Heard) (sent : Sent) (up : List Sent) → IsSound s →
    HoldsIssued issued s → Printed issued a.ran a.dropped last a.queue a.log → NamedPhase issued s linked (record a { up = sent ∷ up }) way →
    NamedReplies s linked a.dropped a.log way → IsAfterNamed issued s linked (record a { up = up }) (way ++ refused_by (asked_after last))
named_refused issued s linked last a way sent up sound holds printed phase r = record {
  phase = named_phase_refused issued s linked a way sent up (asked_after last) phase;
  replies = named_more s linked a.dropped a.dropped a.log way (refused_by (asked_after last)) (λ e. e)
      (λ ready m few. (refusal_named issued s linked last a way sent up sound holds printed phase ready m few, tt)) r;
}

-- the line at the front is accepted
pub record IsNamedTaken (issued : List (List ℕ)) (s : SenderData) (linked : Bool) (last : ℕ) (a : Wires) (way : List Heard) : Type 0 where
  pub printed : Printed issued a.ran a.dropped last a.queue a.log
  pub phase : NamedPhase issued s linked a way
  pub replies : NamedReplies s linked a.dropped a.log way

-- a hello at the front is accepted
greeting_joins : (issued : List (List ℕ)) (ran d : Bool) (last lead : ℕ) (queue log : List Piece) → lead < most_hellos → Each IsGreeting queue → issued ≡ [] →
    Printed issued ran d last queue log → Printed issued ran false hello_number (queue ++ greeting lead ∷ []) log
greeting_joins issued ran d last lead queue log small waits none (before b) =
    before (record { unran = b.unran; kept = refl; none_run = b.none_run; greetings = each_push IsGreeting queue (greeting lead) waits small })
greeting_joins issued ran d last lead queue log small waits none (after p) =
    let count : lines_run (log ++ queue) ≡ 0 = omega (arith, accepted_within issued (log ++ queue) p.accepted, ap length none) in
    let all : Each IsGreeting ((log ++ queue) ++ greeting lead ∷ []) = each_push IsGreeting (log ++ queue) (greeting lead) (none_accepted issued (log ++ queue) p.accepted count) small in
    let G : List Piece → Type 0 = λ l. Each IsGreeting l in
    let here : Each IsGreeting (log ++ (queue ++ greeting lead ∷ [])) = subst G (append_assoc log queue (greeting lead ∷ [])) all in
    let no_line : lines_run (log ++ (queue ++ greeting lead ∷ [])) ≡ 0 = greetings_run (log ++ (queue ++ greeting lead ∷ [])) here in
    after (record {
      has_run = p.has_run;
      accepted = greetings_accepted issued (log ++ (queue ++ greeting lead ∷ [])) here;
      waiting = inr no_line;
      last_is = omega (arith, no_line);
      emptied = λ (dropped : false ≡ true). absurd (cc);
    })

pub named_greeting_taken : (issued : List (List ℕ)) (s : SenderData) (linked : Bool) (last lead : ℕ) (a : Wires) (way : List Heard) (up : List Sent) → NoneEarly s →
    HoldsIssued issued s → Printed issued a.ran a.dropped last a.queue a.log → NamedPhase issued s linked (record a { up = intact (greeting lead) ∷ up }) way →
    NamedReplies s linked a.dropped a.log way →
    IsNamedTaken issued s linked hello_number (record a { up = up; queue = a.queue ++ greeting lead ∷ []; dropped = false }) way
named_greeting_taken issued s linked last lead a way up fresh holds printed (named_shut shut none idle) r = absurd (cc)
named_greeting_taken issued s linked last lead a way up fresh holds printed (named_late opened ready ran ups waits) r = absurd (ups.0)
named_greeting_taken issued s linked last lead a way up fresh holds printed (named_early opened unready e) r =
    let longer : length (a.queue ++ greeting lead ∷ []) ≡ length a.queue + 1 = length-append a.queue (greeting lead ∷ []) in
    let none : issued ≡ [] = none_left issued (omega (arith, holds.count, fresh unready)) in
    record {
      printed = greeting_joins issued a.ran a.dropped last lead a.queue a.log e.ups.0 e.waits none printed;
      phase = named_early opened unready (record {
        ups = e.ups.1;
        waits = each_push IsGreeting a.queue (greeting lead) e.waits e.ups.0;
        up_ahead = e.up_ahead.1;
        queue_ahead = queue_joined s.hellos (length up) lead a.queue e.up_ahead.0 e.queue_ahead;
        names_ahead = names_still s.hellos s.hellos (length (intact (greeting lead) ∷ up) + length a.queue) (length up + length (a.queue ++ greeting lead ∷ [])) way (omega (arith, longer)) e.names_ahead;
        unrun_ok = e.unrun_ok;
        fair = e.fair;
      });
      replies = record { fair = e.fair; acked_run = r.acked_run; reads = λ running _ (ready : s.ready ≡ true). absurd (cc) };
    }

pub named_command_taken : (issued : List (List ℕ)) (s : SenderData) (linked : Bool) (last place : ℕ) (text : List ℕ) (a : Wires) (way : List Heard) (up : List Sent) →
    wire_number place ≡ last + 1 → Printed issued a.ran a.dropped last a.queue a.log →
    NamedPhase issued s linked (record a { up = intact (command place text) ∷ up }) way → NamedReplies s linked a.dropped a.log way →
    IsNamedTaken issued s linked (wire_number place) (record a { up = up; queue = a.queue ++ command place text ∷ [] }) way
named_command_taken issued s linked last place text a way up turn printed (named_shut shut none idle) r = absurd (cc)
named_command_taken issued s linked last place text a way up turn printed (named_early opened unready e) r = absurd (e.ups.0)
named_command_taken issued s linked last place text a way up turn printed (named_late opened ready ran ups waits) r = record {
  printed = command_accepted issued last place text a turn ups.0 waits (after_ran issued a.ran a.dropped last a.queue a.log ran printed);
  phase = named_late opened ready ran ups.1 (each_push IsCommand a.queue (command place text) waits tt);
  replies = record { fair = r.fair; acked_run = r.acked_run; reads = r.reads };
}
