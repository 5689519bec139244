-- What the events of the line and the printer leave of the parts, over the parts alone.
use Rattle.std.proofs.Common.{◌≡◌, ◌⊎◌, inl, inr, ℕ, suc, ◌+◌, ◌≤◌, Bool, true, false, List, [], ◌∷◌, ◌++◌, length, refl, sym, ◌∙◌, ap, subst, append_assoc, append-nil, arith}
use Rattle.std.specs.Prelude.{Option}
use Rattle.marlin_frame.specs.Numbering.{hello_number, wire_number}
use Rattle.printer_model.specs.Printer.{last_after}
use Rattle.send_window.specs.Data.{SenderData}
use Rattle.octo_session_line_proof.specs.Pieces.{Piece, greeting, command, Sent, Answer, greeting_ok, command_ok, chat, restart, named_by, entry_in, Each, IsFit, IsCommand, IsSentEarly, IsSentLate, IsLineAt, AreAccepted}
use Rattle.octo_session_line_proof.specs.Wires.{Wires, last_at, Printed, before, after, lines_run, weight_of, greeting_count, is_closing, IsEarlyWay, IsRestartKnown, IsBegun, Answers, IsEarly, Phase, shut, early, late, Replies}
use Rattle.octo_session_line_proof.proofs.Lists.{none_left, issued_fit, run_append, greetings_accepted, greetings_run, accepted_front, accepted_at}
use Rattle.octo_session_line_proof.proofs.Ways.{weights_push, greetings_push, greetings_le, closing_push, early_push, begun_push, answers_push}
use Rattle.octo_session_line_proof.proofs.Reading.{last_after-greeting, last_after-command}

-- fewer lines, or others of the same kind, are on the wire to the printer
pub phase_up : (issued : List (List ℕ)) (s : SenderData) (linked : Bool) (a : Wires) (way : List Answer) (up : List Sent) → length up ≤ length a.up →
    (Each IsSentEarly a.up → Each IsSentEarly up) → (Each (IsSentLate issued) a.up → Each (IsSentLate issued) up) → Phase issued s linked a way →
    Phase issued s linked (record a { up = up }) way
phase_up issued s linked a way up le early_so late_so (shut closed none idle) =
    let few : length a.up ≡ 0 = ap length none in
    shut closed (none_left up (omega (arith, le, few))) idle
phase_up issued s linked a way up le early_so late_so (early opened unready e) = early opened unready (record {
  ups = early_so e.ups;
  one = omega (arith, e.one, le);
  due = λ d. omega (arith, e.due d, le);
  run_ok = e.run_ok;
  unrun_ok = e.unrun_ok;
  way_so = e.way_so;
  begun_so = e.begun_so;
  swallows = e.swallows;
})
phase_up issued s linked a way up le early_so late_so (late opened ready ran ups waits) = late opened ready ran (late_so ups) waits

-- an answer that weighs nothing joins the way, and the queue doesn't grow
pub early_way : (s : SenderData) (ran d d' : Bool) (queue queue' : List Piece) (up : List Sent) (way : List Answer) (x : Answer) → weight_of x ≡ 0 →
    greeting_count x ≡ 0 → is_closing (x ∷ []) ≡ false → length queue' ≤ length queue → ((f : Bool) → IsEarlyWay f (x ∷ [])) →
    (d ≡ false → IsRestartKnown d' (x ∷ [])) → IsBegun d' (x ∷ []) → IsEarly s ran d queue up way → IsEarly s ran d' queue' up (way ++ x ∷ [])
early_way s ran d d' queue queue' up way x light none other le so known begins e = record {
  ups = e.ups;
  one = omega (arith, e.one, le, light, weights_push way x);
  due = λ t. omega (arith, e.due t, le, light, weights_push way x);
  run_ok = λ t. omega (arith, e.run_ok t, none, greetings_push way x);
  unrun_ok = λ t. omega (arith, e.unrun_ok t, none, greetings_push way x);
  way_so = early_push true way x so e.way_so;
  begun_so = begun_push d d' way x known begins e.begun_so;
  swallows = e.swallows ∙ sym (closing_push way x other);
}

-- an answer joins the way, and no line runs
pub replies_way : (s : SenderData) (linked d d' : Bool) (log : List Piece) (way : List Answer) (x : Answer) → is_closing (x ∷ []) ≡ false →
    (s.ready ≡ true → (g : Bool) (m : ℕ) → d ≡ false → m ≡ lines_run log → Answers g d' s.issued m (x ∷ []) (lines_run log)) → Replies s linked d log way →
    Replies s linked d' log (way ++ x ∷ [])
replies_way s linked d d' log way x other so r = record {
  fair = r.fair;
  acked_run = r.acked_run;
  reads = λ running opened ready. (let read = r.reads running opened ready in record {
    swallows = read.swallows ∙ sym (closing_push way x other);
    answers = answers_push true d d' s.issued s.acked (lines_run log) (lines_run log) way x (omega arith) (so ready) read.answers;
  });
}

-- another reply
pub phase_chat : (issued : List (List ℕ)) (s : SenderData) (linked : Bool) (a : Wires) (way : List Answer) → linked ≡ true → Phase issued s linked a way →
    Phase issued s linked a (way ++ chat ∷ [])
phase_chat issued s linked a way on (shut closed none idle) = absurd (cc)
phase_chat issued s linked a way on (early opened unready e) =
    early opened unready (early_way s a.ran a.dropped a.dropped a.queue a.queue a.up way chat refl refl refl (omega arith) (λ f. tt) (λ k. k) tt e)
phase_chat issued s linked a way on (late opened ready ran ups waits) = late opened ready ran ups waits

pub replies_chat : (s : SenderData) (linked d : Bool) (log : List Piece) (way : List Answer) → Replies s linked d log way →
    Replies s linked d log (way ++ chat ∷ [])
replies_chat s linked d log way r = replies_way s linked d d log way chat refl (λ ready g m kept same. (kept, same)) r

-- the printer restarts
pub phase_restart : (issued : List (List ℕ)) (s : SenderData) (linked : Bool) (a : Wires) (way : List Answer) → linked ≡ true → Phase issued s linked a way →
    Phase issued s linked (record a { dropped = a.ran; queue = [] }) (way ++ restart ∷ [])
phase_restart issued s linked a way on (shut closed none idle) = absurd (cc)
phase_restart issued s linked a way on (early opened unready e) =
    early opened unready (early_way s a.ran a.dropped a.ran a.queue [] a.up way restart refl refl refl (omega arith) (λ f. tt) (λ k. tt) tt e)
phase_restart issued s linked a way on (late opened ready ran ups waits) = late opened ready ran ups tt

pub replies_restart : (s : SenderData) (linked d d' : Bool) (log : List Piece) (way : List Answer) → Replies s linked d log way →
    Replies s linked d' log (way ++ restart ∷ [])
replies_restart s linked d d' log way r = replies_way s linked d d' log way restart refl (λ ready g m kept same. omega (arith, same)) r

pub printed_restart : (issued : List (List ℕ)) (ran d : Bool) (last : ℕ) (queue log : List Piece) → Printed issued ran d last queue log →
    Printed issued ran ran 0 [] log
printed_restart issued ran d last queue log (before b) =
    before (record { unran = b.unran; kept = b.unran; none_run = b.none_run; greetings = tt })
printed_restart issued ran d last queue log (after p) =
    let A : List Piece → Type 0 = λ all. AreAccepted issued all in
    after (record {
      has_run = p.has_run;
      accepted = subst A (sym (append-nil log)) (accepted_front issued log queue p.accepted);
      waiting = inl tt;
      last_is = sym (ap (λ (b : Bool). last_at b (lines_run (log ++ []))) p.has_run);
      emptied = λ _. refl;
    })

-- the answer to a line that ran
abbrev pub answer_to : Piece → Bool → Answer
answer_to (greeting number) named = greeting_ok (named_by named number)
answer_to (command place text) named = command_ok place named

-- the front of the queue runs
pub printed_run : (issued : List (List ℕ)) (ran d : Bool) (last : ℕ) (piece : Piece) (queue log : List Piece) → Each IsFit issued →
    Printed issued ran d last (piece ∷ queue) log → Printed issued true d (last_after last (entry_in piece)) queue (log ++ piece ∷ [])
printed_run issued ran d last (command place text) queue log fit (before b) = absurd (b.greetings.0)
printed_run issued ran d last (greeting number) queue log fit (before b) =
    let A : List Piece → Type 0 = λ l. AreAccepted issued ((l ++ greeting number ∷ []) ++ queue) in
    let N : List Piece → Type 0 = λ l. lines_run ((l ++ greeting number ∷ []) ++ queue) ≡ 0 in
    let none : lines_run ((log ++ greeting number ∷ []) ++ queue) ≡ 0 = subst N (sym b.none_run) (greetings_run queue b.greetings.1) in
    let kept : d ≡ false = b.kept in
    let first : hello_number ≡ wire_number (lines_run ((log ++ greeting number ∷ []) ++ queue)) = omega (arith, none) in
    after (record {
      has_run = refl;
      accepted = subst A (sym b.none_run) (b.greetings.0, greetings_accepted issued queue b.greetings.1);
      waiting = inr none;
      last_is = last_after-greeting last number ∙ first ∙ sym (ap (λ (b : Bool). last_at b (lines_run ((log ++ greeting number ∷ []) ++ queue))) kept);
      emptied = λ (dropped : d ≡ true). absurd (cc);
    })
printed_run issued ran d last (greeting number) queue log fit (after p) =
    let same : (log ++ greeting number ∷ []) ++ queue ≡ log ++ greeting number ∷ queue = append_assoc log (greeting number ∷ []) queue in
    let A : List Piece → Type 0 = λ all. AreAccepted issued all in
    let none : lines_run ((log ++ greeting number ∷ []) ++ queue) ≡ 0 = ap lines_run same ∙ none_waits p.waiting in
    let kept : d ≡ false = unemptied d p.emptied in
    let first : hello_number ≡ wire_number (lines_run ((log ++ greeting number ∷ []) ++ queue)) = omega (arith, none) in
    after (record {
      has_run = refl;
      accepted = subst A (sym same) p.accepted;
      waiting = inr none;
      last_is = last_after-greeting last number ∙ first ∙ sym (ap (λ (b : Bool). last_at b (lines_run ((log ++ greeting number ∷ []) ++ queue))) kept);
      emptied = λ (dropped : d ≡ true). absurd (cc);
    })
  where
    none_waits : Each IsCommand (greeting number ∷ queue) ⊎ (lines_run (log ++ greeting number ∷ queue) ≡ 0) → lines_run (log ++ greeting number ∷ queue) ≡ 0
    none_waits (inl commands) = absurd commands.0
    none_waits (inr none) = none

    unemptied : (b : Bool) → (b ≡ true → greeting number ∷ queue ≡ []) → b ≡ false
    unemptied false empties = refl
    unemptied true empties = let empty : greeting number ∷ queue ≡ [] = empties refl in absurd (cc)
printed_run issued ran d last (command place text) queue log fit (after p) =
    let at : IsLineAt issued (1 + lines_run log) (command place text) = accepted_at issued log place text queue p.accepted in
    let A : List Piece → Type 0 = λ all. AreAccepted issued all in
    let same : (log ++ command place text ∷ []) ++ queue ≡ log ++ command place text ∷ queue = append_assoc log (command place text ∷ []) queue in
    after (record {
      has_run = refl;
      accepted = subst A (sym same) p.accepted;
      waiting = inl (commands_wait p.waiting);
      last_is = last_after-command last place text (issued_fit issued place text fit at.1) ∙ p.last_is ∙ ap (λ (all : List Piece). last_at d (lines_run all)) (sym same);
      emptied = λ dropped. (let none : command place text ∷ queue ≡ [] = p.emptied dropped in absurd (cc));
    })
  where
    commands_wait : Each IsCommand (command place text ∷ queue) ⊎ (lines_run (log ++ command place text ∷ queue) ≡ 0) → Each IsCommand queue
    commands_wait (inl commands) = commands.1
    commands_wait (inr none) = absurd (omega (arith, none, run_append log (command place text ∷ queue)))

-- how many lines have run then
pub run_grows : (log : List Piece) (piece : Piece) → lines_run log ≤ lines_run (log ++ piece ∷ [])
run_grows log piece = omega (arith, run_append log (piece ∷ []))

pub run_counts : (log : List Piece) (place : ℕ) (text : List ℕ) → lines_run (log ++ command place text ∷ []) ≡ suc (lines_run log)
run_counts log place text = omega (arith, run_append log (command place text ∷ []))

-- the phase and the replies after one step: a run, or a reply that was heard
pub record IsAfterStep (issued : List (List ℕ)) (s : SenderData) (linked : Bool) (a : Wires) (way : List Answer) : Type 0 where
  pub phase : Phase issued s linked a way
  pub replies : Replies s linked a.dropped a.log way

run_early : (s : SenderData) (ran d : Bool) (queue : List Piece) (up : List Sent) (way : List Answer) (lead : ℕ) (number : Option ℕ) → ran ≡ false → d ≡ false →
    IsEarly s ran d (greeting lead ∷ queue) up way → IsEarly s true d queue up (way ++ greeting_ok number ∷ [])
run_early s ran d queue up way lead number unran kept e = record {
  ups = e.ups;
  one = omega (arith, e.one, weights_push way (greeting_ok number));
  due = λ t. omega (arith, e.due t, weights_push way (greeting_ok number));
  run_ok = λ _. omega (arith, e.unrun_ok unran, greetings_push way (greeting_ok number));
  unrun_ok = λ t. absurd (cc);
  way_so = early_push true way (greeting_ok number) (λ f. tt) e.way_so;
  begun_so = begun_push d d way (greeting_ok number) (λ k. k) kept e.begun_so;
  swallows = e.swallows ∙ sym (closing_push way (greeting_ok number) refl);
}

pub run_open : (issued : List (List ℕ)) (s : SenderData) (linked : Bool) (last : ℕ) (a : Wires) (way : List Answer) (piece : Piece) (queue : List Piece) (named : Bool) →
    linked ≡ true → Printed issued a.ran a.dropped last (piece ∷ queue) a.log → Phase issued s linked (record a { queue = piece ∷ queue }) way →
    Replies s linked a.dropped a.log way →
    IsAfterStep issued s linked (record a { ran = true; queue = queue; log = a.log ++ piece ∷ [] }) (way ++ answer_to piece named ∷ [])
run_open issued s linked last a way piece queue named on printed (shut closed none idle) r = absurd (cc)
run_open issued s linked last a way (command place text) queue named on (before b) (early opened unready e) r = absurd (b.greetings.0)
run_open issued s linked last a way (greeting lead) queue named on (before b) (early opened unready e) r = record {
  phase = early opened unready (run_early s a.ran a.dropped queue a.up way lead (named_by named lead) b.unran b.kept e);
  replies = record {
    fair = r.fair;
    acked_run = omega (arith, r.acked_run, run_grows a.log (greeting lead));
    reads = λ running _ (ready : s.ready ≡ true). absurd (cc);
  };
}
run_open issued s linked last a way piece queue named on (after p) (early opened unready e) r =
    absurd (omega (arith, e.one, e.run_ok p.has_run, greetings_le way))
run_open issued s linked last a way piece queue named on (before b) (late opened ready ran ups waits) r = let unran : a.ran ≡ false = b.unran in absurd (cc)
run_open issued s linked last a way (greeting lead) queue named on (after p) (late opened ready ran ups waits) r = absurd waits.0
run_open issued s linked last a way (command place text) queue named on (after p) (late opened ready ran ups waits) r =
    let at : IsLineAt issued (1 + lines_run a.log) (command place text) = accepted_at issued a.log place text queue p.accepted in
    let count : lines_run (a.log ++ command place text ∷ []) ≡ suc (lines_run a.log) = run_counts a.log place text in
    let log : List Piece = a.log ++ command place text ∷ [] in
    record {
      phase = late opened ready refl ups waits.1;
      replies = record {
        fair = r.fair;
        acked_run = omega (arith, r.acked_run, run_grows a.log (command place text));
        reads = λ running _ _. (let read = r.reads running opened ready in record {
          swallows = read.swallows ∙ sym (closing_push way (command_ok place named) refl);
          answers = answers_push true a.dropped a.dropped s.issued s.acked (lines_run a.log) (lines_run log) way (command_ok place named) (run_grows a.log (command place text))
              (λ g m kept same. (omega (arith, at.0, same), (kept, omega (arith, same, count)))) read.answers;
        });
      };
    }

-- over a closed link nothing is said
pub run_shut : (issued : List (List ℕ)) (s : SenderData) (linked : Bool) (a : Wires) (way : List Answer) (piece : Piece) (queue : List Piece) → linked ≡ false →
    Phase issued s linked (record a { queue = piece ∷ queue }) way → Replies s linked a.dropped a.log way →
    IsAfterStep issued s linked (record a { ran = true; queue = queue; log = a.log ++ piece ∷ [] }) way
run_shut issued s linked a way piece queue off (early opened unready e) r = absurd (cc)
run_shut issued s linked a way piece queue off (late opened ready ran ups waits) r = absurd (cc)
run_shut issued s linked a way piece queue off (shut closed none idle) r = record {
  phase = shut closed none idle;
  replies = record {
    fair = r.fair;
    acked_run = omega (arith, r.acked_run, run_grows a.log piece);
    reads = λ running (on : linked ≡ true) ready. absurd (cc);
  };
}
