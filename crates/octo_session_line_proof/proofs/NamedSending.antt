-- What the host does leaves of the parts if `ok`s count by their numbers.
use Rattle.std.proofs.Common.{◌≡◌, ℕ, suc, ◌+◌, Bool, true, false, List, [], ◌∷◌, ◌++◌, length, sym, ◌∙◌, subst, length-append, arith}
use Rattle.send_window.specs.Data.{SenderData}
use Rattle.octo_session_line_proof.specs.Pieces.{Piece, greeting, command, Sent, intact, corrupted, Heard, IsSentEarly, IsSentLate}
use Rattle.octo_session_line_proof.specs.Wires.{Wires, lines_run, AreUpAhead, IsNamedEarly, NamedPhase, named_shut, named_early, named_late, NamesRun, NamedReplies}
use Rattle.octo_session_line_proof.proofs.Flags.{SameFlags, IsNextHello, MaySend}
use Rattle.octo_session_line_proof.proofs.Ahead.{up_more, up_greeted, up_failed, queue_more, names_still}
use Rattle.octo_session_line_proof.proofs.Lists.{each_push}

named_flags_early : (s t : SenderData) (ran : Bool) (queue : List Piece) (up : List Sent) (way : List Heard) → SameFlags s t → IsNamedEarly s ran queue up way →
    IsNamedEarly t ran queue up way
named_flags_early s t ran queue up way same e = record {
  ups = e.ups;
  waits = e.waits;
  up_ahead = up_more s.hellos t.hellos up same.hellos e.up_ahead;
  queue_ahead = queue_more s.hellos t.hellos (length up) (length up) queue (omega (arith, same.hellos)) e.queue_ahead;
  names_ahead = names_still s.hellos t.hellos (length up + length queue) (length up + length queue) way (omega (arith, same.hellos)) e.names_ahead;
  unrun_ok = e.unrun_ok;
  fair = same.fair false e.fair;
}

pub named_flags_phase : (issued : List (List ℕ)) (s t : SenderData) (linked : Bool) (a : Wires) (way : List Heard) → SameFlags s t → NamedPhase issued s linked a way →
    NamedPhase issued t linked a way
named_flags_phase issued s t linked a way same (named_shut closed none idle) = named_shut closed none idle
named_flags_phase issued s t linked a way same (named_early opened unready e) =
    named_early opened (same.ready ∙ unready) (named_flags_early s t a.ran a.queue a.up way same e)
named_flags_phase issued s t linked a way same (named_late opened ready ran ups waits) = named_late opened (same.ready ∙ ready) ran ups waits

pub named_flags_replies : (s t : SenderData) (linked d : Bool) (log : List Piece) (way : List Heard) → SameFlags s t → NamedReplies s linked d log way →
    NamedReplies t linked d log way
named_flags_replies s t linked d log way same r = record {
  fair = same.fair d r.fair;
  acked_run = omega (arith, same.acked, r.acked_run);
  reads = λ running opened ready. (
      let names = r.reads (same.running running) opened (sym same.ready ∙ ready) in
      let N : ℕ → Type 0 = λ n. NamesRun d n t.acked (lines_run log) way in
      let A : ℕ → Type 0 = λ m. NamesRun d s.issued m (lines_run log) way in
      subst N (sym same.issued) (subst A (sym same.acked) names));
}

-- one more is on the wire to the printer
ahead_sent : (h : ℕ) (up : List Sent) (sent : Sent) → IsNextHello h sent → IsSentEarly sent → AreUpAhead h up → AreUpAhead (suc h) (up ++ sent ∷ [])
ahead_sent h up (intact (greeting number)) next fits ahead = up_greeted h number up next ahead
ahead_sent h up (intact (command place text)) next fits ahead = absurd fits
ahead_sent h up (corrupted bytes) next fits ahead = up_failed h bytes up ahead

-- the hello or a line is sent
pub named_phase_sent : (issued : List (List ℕ)) (s t : SenderData) (linked : Bool) (a : Wires) (way : List Heard) (sent : Sent) → linked ≡ true → SameFlags s t →
    (s.hello_due ≡ true → t.hellos ≡ suc s.hellos) → MaySend issued s sent → NamedPhase issued s linked a way →
    NamedPhase issued t linked (record a { up = a.up ++ sent ∷ [] }) way
named_phase_sent issued s t linked a way sent on same more may (named_shut closed none idle) = absurd (cc)
named_phase_sent issued s t linked a way sent on same more may (named_early opened unready e) =
    let so = may.early_so unready in
    let next : t.hellos ≡ suc s.hellos = more so.1 in
    let longer : length (a.up ++ sent ∷ []) ≡ length a.up + 1 = length-append a.up (sent ∷ []) in
    let U : ℕ → Type 0 = λ k. AreUpAhead k (a.up ++ sent ∷ []) in
    named_early opened (same.ready ∙ unready) (record {
      ups = each_push IsSentEarly a.up sent e.ups so.0;
      waits = e.waits;
      up_ahead = subst U (sym next) (ahead_sent s.hellos a.up sent may.numbered_so so.0 e.up_ahead);
      queue_ahead = queue_more s.hellos t.hellos (length a.up) (length (a.up ++ sent ∷ [])) a.queue (omega (arith, next, longer)) e.queue_ahead;
      names_ahead = names_still s.hellos t.hellos (length a.up + length a.queue) (length (a.up ++ sent ∷ []) + length a.queue) way (omega (arith, next, longer)) e.names_ahead;
      unrun_ok = e.unrun_ok;
      fair = same.fair false e.fair;
    })
named_phase_sent issued s t linked a way sent on same more may (named_late opened ready ran ups waits) =
    named_late opened (same.ready ∙ ready) ran (each_push (IsSentLate issued) a.up sent ups (may.late_so ready)) waits
