-- What the arrival of a line at the printer leaves of the parts.
use Rattle.std.proofs.Common.{◌≡◌, inl, ℕ, ◌+◌, ◌≤◌, Bool, true, false, List, [], ◌∷◌, ◌++◌, length, refl, sym, ◌∙◌, ap, subst, append_assoc, length-append, arith}
use Rattle.marlin_frame.specs.Numbering.{wire_number}
use Rattle.printer_model.specs.Replies.{asked_after}
use Rattle.send_window.specs.Data.{SenderData, IsSound}
use Rattle.send_window.specs.Session.{HoldsIssued}
use Rattle.octo_session_line_proof.specs.Pieces.{Piece, greeting, command, Sent, intact, Answer, refusal, Each, IsGreeting, IsCommand, AreAccepted}
use Rattle.octo_session.specs.Sends.{IsIssued}
use Rattle.octo_session_line_proof.specs.Wires.{Wires, last_at, IsAfter, Printed, before, after, lines_run, IsAsked, Phase, shut, early, late, Replies}
use Rattle.octo_session_line_proof.proofs.Lists.{each_push, run_append, accepted_push, accepted_within}
use Rattle.octo_session_line_proof.proofs.Ways.{weights_push, greetings_push, greetings_le, closing_push, early_push, begun_push}
use Rattle.octo_session_line_proof.proofs.Moves.{replies_way}
use Rattle.octo_session_line_proof.proofs.Reading.{asked_after-next}

-- what a refusal asks for, by what the printer accepted
pub refusal_asks : (issued : List (List ℕ)) (s : SenderData) (ran d : Bool) (last : ℕ) (queue log : List Piece) → IsSound s → HoldsIssued issued s →
    IsAfter issued ran d last queue log → (m : ℕ) → d ≡ false → m ≤ lines_run log → IsAsked s.issued m (asked_after last)
refusal_asks issued s ran d last queue log sound holds p m kept same =
    let all : ℕ = lines_run (log ++ queue) in
    let within : all ≤ length issued = accepted_within issued (log ++ queue) p.accepted in
    let number : last ≡ wire_number all = p.last_is ∙ ap (λ (b : Bool). last_at b all) kept in
    let asked : asked_after last ≡ last + 1 = asked_after-next last (omega (arith, within, number, holds.count, sound.few)) in
    record {
      place = all + 1;
      is = asked ∙ omega (arith, number);
      above = omega (arith, same, run_append log queue);
      within = omega (arith, within, holds.count);
    }

-- the line at the front is refused
pub phase_refused : (issued : List (List ℕ)) (s : SenderData) (linked : Bool) (a : Wires) (way : List Answer) (sent : Sent) (up : List Sent) (number : ℕ) →
    Phase issued s linked (record a { up = sent ∷ up }) way → Phase issued s linked (record a { up = up }) (way ++ refusal number ∷ [])
phase_refused issued s linked a way sent up number (shut closed none idle) = absurd (cc)
phase_refused issued s linked a way sent up number (early opened unready e) = early opened unready (record {
  ups = e.ups.1;
  one = omega (arith, e.one, weights_push way (refusal number));
  due = λ t. omega (arith, e.due t, weights_push way (refusal number));
  run_ok = λ t. omega (arith, e.run_ok t, greetings_push way (refusal number));
  unrun_ok = λ t. omega (arith, e.unrun_ok t, greetings_push way (refusal number));
  way_so = early_push true way (refusal number) (λ f. tt) e.way_so;
  begun_so = begun_push a.dropped a.dropped way (refusal number) (λ k. k) tt e.begun_so;
  swallows = e.swallows ∙ sym (closing_push way (refusal number) refl);
})
phase_refused issued s linked a way sent up number (late opened ready ran ups waits) = late opened ready ran ups.1 waits

pub after_ran : (issued : List (List ℕ)) (ran d : Bool) (last : ℕ) (queue log : List Piece) → ran ≡ true → Printed issued ran d last queue log →
    IsAfter issued ran d last queue log
after_ran issued ran d last queue log is (before b) = let unran : ran ≡ false = b.unran in absurd (cc)
after_ran issued ran d last queue log is (after p) = p

refusal_so : (issued : List (List ℕ)) (s : SenderData) (linked : Bool) (last : ℕ) (a : Wires) (way : List Answer) (sent : Sent) (up : List Sent) → IsSound s →
    HoldsIssued issued s → Printed issued a.ran a.dropped last a.queue a.log → Phase issued s linked (record a { up = sent ∷ up }) way → s.ready ≡ true → (m : ℕ) →
    a.dropped ≡ false → m ≡ lines_run a.log → IsAsked s.issued m (asked_after last)
refusal_so issued s linked last a way sent up sound holds printed (shut closed none idle) ready m kept same = absurd (cc)
refusal_so issued s linked last a way sent up sound holds printed (early opened unready e) ready m kept same = absurd (cc)
refusal_so issued s linked last a way sent up sound holds printed (late opened is_ready ran ups waits) ready m kept same =
    refusal_asks issued s a.ran a.dropped last a.queue a.log sound holds (after_ran issued a.ran a.dropped last a.queue a.log ran printed) m kept (omega (arith, same))

pub replies_refused : (issued : List (List ℕ)) (s : SenderData) (linked : Bool) (last : ℕ) (a : Wires) (way : List Answer) (sent : Sent) (up : List Sent) → IsSound s →
    HoldsIssued issued s → Printed issued a.ran a.dropped last a.queue a.log → Phase issued s linked (record a { up = sent ∷ up }) way →
    Replies s linked a.dropped a.log way → Replies s linked a.dropped a.log (way ++ refusal (asked_after last) ∷ [])
replies_refused issued s linked last a way sent up sound holds printed phase r =
    replies_way s linked a.dropped a.dropped a.log way (refusal (asked_after last)) refl
    (λ ready g m kept same. (refusal_so issued s linked last a way sent up sound holds printed phase ready m kept same, (kept, same))) r

-- a line at the front is accepted
pub record IsTaken (issued : List (List ℕ)) (s : SenderData) (linked : Bool) (last : ℕ) (a : Wires) (way : List Answer) : Type 0 where
  pub printed : Printed issued a.ran a.dropped last a.queue a.log
  pub phase : Phase issued s linked a way

-- a hello is, while none has run
pub record IsGreetingTaken (issued : List (List ℕ)) (s : SenderData) (linked : Bool) (last : ℕ) (a : Wires) (way : List Answer) : Type 0 where
  pub printed : Printed issued a.ran a.dropped last a.queue a.log
  pub phase : Phase issued s linked a way
  pub kept : a.dropped ≡ false

pub greeting_taken : (issued : List (List ℕ)) (s : SenderData) (linked : Bool) (last number lead : ℕ) (a : Wires) (way : List Answer) (up : List Sent) →
    Printed issued a.ran a.dropped last a.queue a.log → Phase issued s linked (record a { up = intact (greeting lead) ∷ up }) way →
    IsGreetingTaken issued s linked number (record a { up = up; queue = a.queue ++ greeting lead ∷ [] }) way
greeting_taken issued s linked last number lead a way up printed (shut closed none idle) = absurd (cc)
greeting_taken issued s linked last number lead a way up printed (late opened ready ran ups waits) = absurd (ups.0)
greeting_taken issued s linked last number lead a way up (after p) (early opened unready e) = absurd (omega (arith, e.one, e.run_ok p.has_run, greetings_le way))
greeting_taken issued s linked last number lead a way up (before b) (early opened unready e) =
    let longer : length (a.queue ++ greeting lead ∷ []) ≡ length a.queue + 1 = length-append a.queue (greeting lead ∷ []) in
    record {
      printed = before (record { unran = b.unran; kept = b.kept; none_run = b.none_run; greetings = each_push IsGreeting a.queue (greeting lead) b.greetings e.ups.0 });
      kept = b.kept;
      phase = early opened unready (record {
        ups = e.ups.1;
        one = omega (arith, longer, e.one);
        due = λ t. omega (arith, longer, e.due t);
        run_ok = e.run_ok;
        unrun_ok = e.unrun_ok;
        way_so = e.way_so;
        begun_so = e.begun_so;
        swallows = e.swallows;
      });
    }

-- an issued line at the front is accepted, which it is only in turn
kept_by : (d : Bool) (last count place : ℕ) → 1 ≤ place → last ≡ last_at d count → wire_number place ≡ last + 1 → d ≡ false
kept_by false last count place some is turn = refl
kept_by true last count place some is turn = absurd (omega (arith, is, turn))

pub command_accepted : (issued : List (List ℕ)) (last place : ℕ) (text : List ℕ) (a : Wires) → wire_number place ≡ last + 1 → IsIssued issued place text →
    Each IsCommand a.queue → IsAfter issued a.ran a.dropped last a.queue a.log →
    Printed issued a.ran a.dropped (wire_number place) (a.queue ++ command place text ∷ []) a.log
command_accepted issued last place text a turn its waits p =
    let piece : Piece = command place text in
    let all : List Piece = a.log ++ a.queue in
    let kept : a.dropped ≡ false = kept_by a.dropped last (lines_run all) place its.counted p.last_is turn in
    let number : last ≡ wire_number (lines_run all) = p.last_is ∙ ap (λ (b : Bool). last_at b (lines_run all)) kept in
    let same : all ++ piece ∷ [] ≡ a.log ++ (a.queue ++ piece ∷ []) = append_assoc a.log a.queue (piece ∷ []) in
    let more : lines_run (all ++ piece ∷ []) ≡ place = omega (arith, number, turn, run_append all (piece ∷ [])) in
    let A : List Piece → Type 0 = λ l. AreAccepted issued l in
    after (record {
      has_run = p.has_run;
      accepted = subst A same (accepted_push issued all place text p.accepted (omega (arith, number, turn)) its);
      waiting = inl (each_push IsCommand a.queue piece waits tt);
      last_is = ap (λ (n : ℕ). last_at false n) (sym more) ∙ ap (λ (b : Bool). last_at b (lines_run (all ++ piece ∷ []))) (sym kept)
          ∙ ap (λ (l : List Piece). last_at a.dropped (lines_run l)) same;
      emptied = λ (dropped : a.dropped ≡ true). absurd (cc);
    })

pub command_taken : (issued : List (List ℕ)) (s : SenderData) (linked : Bool) (last place : ℕ) (text : List ℕ) (a : Wires) (way : List Answer) (up : List Sent) →
    wire_number place ≡ last + 1 → Printed issued a.ran a.dropped last a.queue a.log →
    Phase issued s linked (record a { up = intact (command place text) ∷ up }) way →
    IsTaken issued s linked (wire_number place) (record a { up = up; queue = a.queue ++ command place text ∷ [] }) way
command_taken issued s linked last place text a way up turn printed (shut closed none idle) = absurd (cc)
command_taken issued s linked last place text a way up turn printed (early opened unready e) = absurd (e.ups.0)
command_taken issued s linked last place text a way up turn printed (late opened ready ran ups waits) = record {
  printed = command_accepted issued last place text a turn ups.0 waits (after_ran issued a.ran a.dropped last a.queue a.log ran printed);
  phase = late opened ready ran ups.1 (each_push IsCommand a.queue (command place text) waits tt);
}
