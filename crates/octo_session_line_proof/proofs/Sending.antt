-- What the host does leaves a sender and a world that fit together: it opens and closes a link, issues and sends lines,
-- and its clock ticks.
use Rattle.std.proofs.Common.{◌≡◌, ℕ, suc, ◌+◌, ◌<◌, ◌≤◌, Bool, true, false, not, List, [], ◌∷◌, ◌++◌, length, map, refl, sym, ◌∙◌, ap, subst, append-nil, length-append, arith}
use Rattle.std.proofs.lemmas.Bool.{and_parts}
use Rattle.std.proofs.lemmas.List.{map-append}
use Rattle.printer_model.specs.World.{WorldData, is_empty, can_happen, happen}
use Rattle.printer_model.specs.declared.event.WorldEvent.TheVariants.{Opened, Closed}
use Rattle.printer_model.specs.declared.oks.Oks.{Oks}
use Rattle.printer_link.specs.Suits.{Suits}
use Rattle.send_window.specs.Data.{SenderData, IsSound, sender_after_dial}
use Rattle.send_window.specs.Hearing.{tick_step}
use Rattle.send_window.specs.Sending.{last_room_of, frame_step, push_step}
use Rattle.send_window.specs.Session.{HoldsIssued, ticks, issues, gives}
use Rattle.send_window.proofs.Issued.{step_holds}
use Rattle.send_window.proofs.Soundness.{begun_sound, ticks_sound, issues_sound, gives_sound}
use Rattle.octo_session_line_proof.specs.Pieces.{Piece, Sent, Answer, heard_in, bytes_on, IsFit, IsSentEarly, IsSentLate}
use Rattle.octo_session_line_proof.specs.Wires.{Start, Wires, before, lines_run, weights, Answers, IsEarly, Phase, shut, early, late, Replies, NamedPhase, named_shut, named_early, named_late, Reads, counting, naming, Meets}
use Rattle.octo_session_line_proof.proofs.Flags.{SameFlags, tick_flags, give_flags, MaySend, printed_more, flags_fresh}
use Rattle.octo_session_line_proof.proofs.Lists.{each_push, each_so, sent_more}
use Rattle.octo_session_line_proof.proofs.NamedSending.{named_flags_phase, named_flags_replies, named_phase_sent}
use Rattle.octo_session_line_proof.proofs.Naming.{names_so}
use Rattle.octo_session_line_proof.proofs.Ways.{answers_more}

flags_early : (s t : SenderData) (ran d : Bool) (queue : List Piece) (up : List Sent) (way : List Answer) → s.numbered ≡ false → SameFlags s t → IsEarly s ran d queue up way →
    IsEarly t ran d queue up way
flags_early s t ran d queue up way counts same e = record {
  ups = e.ups;
  one = e.one;
  due = λ d. e.due (same.due counts d);
  run_ok = e.run_ok;
  unrun_ok = e.unrun_ok;
  way_so = e.way_so;
  begun_so = e.begun_so;
  swallows = same.swallow ∙ e.swallows;
}

flags_phase : (issued : List (List ℕ)) (s t : SenderData) (linked : Bool) (a : Wires) (way : List Answer) → s.numbered ≡ false → SameFlags s t → Phase issued s linked a way →
    Phase issued t linked a way
flags_phase issued s t linked a way counts same (shut closed none idle) = shut closed none idle
flags_phase issued s t linked a way counts same (early opened unready e) = early opened (same.ready ∙ unready) (flags_early s t a.ran a.dropped a.queue a.up way counts same e)
flags_phase issued s t linked a way counts same (late opened ready ran ups waits) = late opened (same.ready ∙ ready) ran ups waits

flags_replies : (s t : SenderData) (linked d : Bool) (log : List Piece) (way : List Answer) → SameFlags s t → Replies s linked d log way →
    Replies t linked d log way
flags_replies s t linked d log way same r = record {
  fair = same.fair false r.fair;
  acked_run = omega (arith, same.acked, r.acked_run);
  reads = λ running opened ready. (
      let read = r.reads (same.running running) opened (sym same.ready ∙ ready) in
      let N : ℕ → Type 0 = λ n. Answers true d n t.acked way (lines_run log) in
      let A : ℕ → Type 0 = λ m. Answers true d s.issued m way (lines_run log) in
      record { swallows = same.swallow ∙ read.swallows; answers = subst N (sym same.issued) (subst A (sym same.acked) read.answers) });
}

flags_reads : (issued : List (List ℕ)) (s t : SenderData) (linked : Bool) (oks : Oks) (a : Wires) (down : List (List ℕ)) → SameFlags s t →
    Reads issued s linked oks a down → Reads issued t linked oks a down
flags_reads issued s t linked oks a down same (counting c) = counting (record {
  counts = same.kind ∙ c.counts;
  plain = c.plain;
  way = c.way;
  shown = c.shown;
  phase = flags_phase issued s t linked a c.way c.counts same c.phase;
  replies = flags_replies s t linked a.dropped a.log c.way same c.replies;
})
flags_reads issued s t linked oks a down same (naming n) = naming (record {
  by_number = same.kind ∙ n.by_number;
  numbers = n.numbers;
  phase = named_flags_phase issued s t linked a (map heard_in down) same n.phase;
  replies = named_flags_replies s t linked a.dropped a.log (map heard_in down) same n.replies;
})

pub flags_meets : (start : Start) (issued : List (List ℕ)) (s t : SenderData) (w : WorldData) → SameFlags s t → IsSound t → HoldsIssued issued t →
    Meets start issued s w → Meets start issued t w
flags_meets start issued s t w same sound holds m = record {
  wires = m.wires;
  begun = record { kind = same.kind ∙ m.begun.kind; known = m.begun.known; none_early = flags_fresh s t same m.begun.none_early };
  shows = m.shows;
  numbers = record { sound = sound; holds = holds; fit = m.numbers.fit; printed = m.numbers.printed };
  reads = flags_reads issued s t w.linked w.printer.oks m.wires w.down same m.reads;
}

-- the clock ticks
pub tick_meets : (start : Start) (issued : List (List ℕ)) (moment : ℕ) (s : SenderData) (w : WorldData) → Meets start issued s w →
    Meets start issued (tick_step moment s) w
tick_meets start issued moment s w m =
    let Holds : List (List ℕ) → Type 0 = λ texts. HoldsIssued texts (tick_step moment s) in
    flags_meets start issued s (tick_step moment s) w (tick_flags moment s) (ticks_sound moment s m.numbers.sound)
    (subst Holds (append-nil issued) (step_holds (ticks moment) s issued m.numbers.holds)) m

-- a line is returned; what becomes of it comes later
pub give_meets : (start : Start) (issued : List (List ℕ)) (moment : ℕ) (s : SenderData) (w : WorldData) → Meets start issued s w →
    Meets start issued (frame_step moment s) w
give_meets start issued moment s w m =
    let Holds : List (List ℕ) → Type 0 = λ texts. HoldsIssued texts (frame_step moment s) in
    flags_meets start issued s (frame_step moment s) w (give_flags moment s) (gives_sound moment s m.numbers.sound)
    (subst Holds (append-nil issued) (step_holds (gives moment) s issued m.numbers.holds)) m

phase_sent : (issued : List (List ℕ)) (s t : SenderData) (linked : Bool) (a : Wires) (way : List Answer) (sent : Sent) → linked ≡ true → SameFlags s t → t.hello_due ≡ false →
    MaySend issued s sent → Phase issued s linked a way → Phase issued t linked (record a { up = a.up ++ sent ∷ [] }) way
phase_sent issued s t linked a way sent on same undue may (shut closed none idle) = absurd (cc)
phase_sent issued s t linked a way sent on same undue may (early opened unready e) =
    let so = may.early_so unready in
    let none : length a.up + length a.queue + weights way ≡ 0 = e.due so.1 in
    early opened (same.ready ∙ unready) (record {
      ups = each_push IsSentEarly a.up sent e.ups so.0;
      one = omega (arith, none, length-append a.up (sent ∷ []));
      due = λ (d : t.hello_due ≡ true). absurd (cc);
      run_ok = e.run_ok;
      unrun_ok = e.unrun_ok;
      way_so = e.way_so;
      begun_so = e.begun_so;
      swallows = same.swallow ∙ e.swallows;
    })
phase_sent issued s t linked a way sent on same undue may (late opened ready ran ups waits) =
    late opened (same.ready ∙ ready) ran (each_push (IsSentLate issued) a.up sent ups (may.late_so ready)) waits

sent_reads : (issued : List (List ℕ)) (s t : SenderData) (linked : Bool) (oks : Oks) (a : Wires) (down : List (List ℕ)) (sent : Sent) → linked ≡ true → SameFlags s t →
    t.hello_due ≡ false → (s.numbered ≡ true → s.hello_due ≡ true → t.hellos ≡ suc s.hellos) → MaySend issued s sent → Reads issued s linked oks a down →
    Reads issued t linked oks (record a { up = a.up ++ sent ∷ [] }) down
sent_reads issued s t linked oks a down sent on same undue more may (counting c) = counting (record {
  counts = same.kind ∙ c.counts;
  plain = c.plain;
  way = c.way;
  shown = c.shown;
  phase = phase_sent issued s t linked a c.way sent on same undue may c.phase;
  replies = flags_replies s t linked a.dropped a.log c.way same c.replies;
})
sent_reads issued s t linked oks a down sent on same undue more may (naming n) = naming (record {
  by_number = same.kind ∙ n.by_number;
  numbers = n.numbers;
  phase = named_phase_sent issued s t linked a (map heard_in down) sent on same (more n.by_number) may n.phase;
  replies = named_flags_replies s t linked a.dropped a.log (map heard_in down) same n.replies;
})

-- a line is returned and sent, as it is or failing
pub sent_meets : (start : Start) (issued : List (List ℕ)) (moment : ℕ) (s : SenderData) (w : WorldData) (sent : Sent) (bytes : List ℕ) → w.linked ≡ true →
    bytes ≡ bytes_on sent → (frame_step moment s).hello_due ≡ false →
    (s.numbered ≡ true → s.hello_due ≡ true → (frame_step moment s).hellos ≡ suc s.hellos) → MaySend issued s sent → Meets start issued s w →
    Meets start issued (frame_step moment s) (record w { up = w.up ++ bytes ∷ [] })
sent_meets start issued moment s w sent bytes on is undue more may m =
    let t = frame_step moment s in
    let a = m.wires in
    let sh = m.shows in
    record {
      wires = record a { up = a.up ++ sent ∷ [] };
      begun = record { kind = (give_flags moment s).kind ∙ m.begun.kind; known = m.begun.known; none_early = flags_fresh s t (give_flags moment s) m.begun.none_early };
      shows = record {
        few = sh.few;
        queue = sh.queue;
        log = sh.log;
        up = ap (λ (l : List (List ℕ)). l ++ bytes ∷ []) sh.up ∙ ap (λ (b : List ℕ). map bytes_on a.up ++ b ∷ []) is ∙ sym (map-append bytes_on a.up (sent ∷ []));
      };
      numbers = record {
        sound = gives_sound moment s m.numbers.sound;
        holds = (let Holds : List (List ℕ) → Type 0 = λ texts. HoldsIssued texts t in subst Holds (append-nil issued) (step_holds (gives moment) s issued m.numbers.holds));
        fit = m.numbers.fit;
        printed = m.numbers.printed;
      };
      reads = sent_reads issued s t w.linked w.printer.oks a w.down sent on (give_flags moment s) undue more may m.reads;
    }

phase_more : (issued : List (List ℕ)) (text : List ℕ) (s : SenderData) (linked : Bool) (a : Wires) (way : List Answer) → s.ready ≡ true → Phase issued s linked a way →
    Phase (issued ++ text ∷ []) (push_step text s) linked a way
phase_more issued text s linked a way is (shut closed none idle) = shut closed none idle
phase_more issued text s linked a way is (early opened unready e) = absurd (cc)
phase_more issued text s linked a way is (late opened ready ran ups waits) =
    late opened ready ran (each_so (IsSentLate issued) (IsSentLate (issued ++ text ∷ [])) (sent_more issued (text ∷ [])) a.up ups) waits

replies_more : (text : List ℕ) (s : SenderData) (linked d : Bool) (log : List Piece) (way : List Answer) → Replies s linked d log way →
    Replies (push_step text s) linked d log way
replies_more text s linked d log way r = record {
  fair = r.fair;
  acked_run = r.acked_run;
  reads = λ running opened ready. (let read = r.reads running opened ready in record {
    swallows = read.swallows;
    answers = answers_more true d s.issued (s.issued + 1) s.acked way (lines_run log) (omega arith) read.answers;
  });
}

more_reads : (issued : List (List ℕ)) (text : List ℕ) (s : SenderData) (linked : Bool) (oks : Oks) (a : Wires) (down : List (List ℕ)) → s.ready ≡ true →
    Reads issued s linked oks a down → Reads (issued ++ text ∷ []) (push_step text s) linked oks a down
more_reads issued text s linked oks a down is (counting c) = counting (record {
  counts = c.counts;
  plain = c.plain;
  way = c.way;
  shown = c.shown;
  phase = phase_more issued text s linked a c.way is c.phase;
  replies = replies_more text s linked a.dropped a.log c.way c.replies;
})
more_reads issued text s linked oks a down is (naming n) = naming (record {
  by_number = n.by_number;
  numbers = n.numbers;
  phase = by n.phase;
  replies = record {
    fair = n.replies.fair;
    acked_run = n.replies.acked_run;
    reads = λ running opened ready.
        names_so a.dropped a.dropped s.issued (s.issued + 1) s.acked s.acked (lines_run a.log) (lines_run a.log) (map heard_in down) (λ e. e) (omega arith) (omega arith) (omega arith)
        (n.replies.reads running opened ready);
  };
})
  where
    by : NamedPhase issued s linked a (map heard_in down) → NamedPhase (issued ++ text ∷ []) (push_step text s) linked a (map heard_in down)
    by (named_shut closed none idle) = named_shut closed none idle
    by (named_early opened unready e) = absurd (cc)
    by (named_late opened ready ran ups waits) =
        named_late opened ready ran (each_so (IsSentLate issued) (IsSentLate (issued ++ text ∷ [])) (sent_more issued (text ∷ [])) a.up ups) waits

-- a line is issued in a ready session
pub issue_meets : (start : Start) (issued : List (List ℕ)) (text : List ℕ) (s : SenderData) (w : WorldData) → IsFit text → 0 < last_room_of s → s.ready ≡ true →
    Meets start issued s w → Meets start (issued ++ text ∷ []) (push_step text s) w
issue_meets start issued text s w fit room ready m =
    let n = m.numbers in
    record {
      wires = m.wires;
      begun = record { kind = m.begun.kind; known = m.begun.known; none_early = λ (unready : s.ready ≡ false). absurd (cc) };
      shows = m.shows;
      numbers = record {
        sound = issues_sound text s room n.sound;
        holds = step_holds (issues text) s issued n.holds;
        fit = each_push IsFit issued text n.fit fit;
        printed = printed_more issued text m.wires.ran m.wires.dropped w.printer.last m.wires.queue m.wires.log n.printed;
      };
      reads = more_reads issued text s w.linked w.printer.oks m.wires w.down ready m.reads;
    }

none_of : {X : Type 0} (xs : List X) → is_empty xs ≡ true → xs ≡ []
none_of [] is = refl
none_of (x ∷ xs) is = absurd (cc)

opened_reads : (s : SenderData) (oks : Oks) (numbered : Bool) → s.numbered ≡ numbered → Suits numbered oks → Reads [] (sender_after_dial s) true oks (record { ran = false; dropped = false; queue = []; log = []; up = [] }) []
opened_reads s oks false kind plain = counting (record {
  counts = kind;
  plain = plain;
  way = [];
  shown = refl;
  phase = early refl refl (record {
    ups = tt;
    one = omega arith;
    due = λ d. omega arith;
    run_ok = λ (ran : false ≡ true). absurd (cc);
    unrun_ok = λ ran. refl;
    way_so = tt;
    begun_so = tt;
    swallows = refl;
  });
  replies = record { fair = tt; acked_run = omega arith; reads = λ running opened (ready : false ≡ true). absurd (cc) };
})
opened_reads s oks true kind numbers = naming (record {
  by_number = kind;
  numbers = numbers;
  phase = named_early refl refl (record { ups = tt; waits = tt; up_ahead = tt; queue_ahead = tt; names_ahead = tt; unrun_ok = λ ran. refl; fair = tt });
  replies = record { fair = tt; acked_run = omega arith; reads = λ running opened (ready : false ≡ true). absurd (cc) };
})

-- a link is made: a session begins
pub opened_meets : (s : SenderData) (w : WorldData) (last : ℕ) → IsSound s → w.printer.slots ≤ 16 → Suits s.numbered w.printer.oks → can_happen w (Opened last) ≡ true →
    Meets (record { log = w.log; numbered = s.numbered; restarted = false }) [] (sender_after_dial s) (happen w (Opened last))
opened_meets s w last sound few suits can = record {
  wires = record { ran = false; dropped = false; queue = []; log = []; up = [] };
  begun = record { kind = refl; known = λ is. is; none_early = λ unready. refl };
  shows = record {
    few = few;
    queue = none_of w.printer.queue (and_parts (not w.linked) (is_empty w.printer.queue) can).1;
    log = sym (append-nil w.log);
    up = refl;
  };
  numbers = record {
    sound = begun_sound s sound;
    holds = record { count = refl; rest = refl; acked_issued = omega arith };
    fit = tt;
    printed = before (record { unran = refl; kept = refl; none_run = refl; greetings = tt });
  };
  reads = opened_reads s w.printer.oks s.numbered refl suits;
}

-- the link is closed
closed_reads : (issued : List (List ℕ)) (s : SenderData) (linked : Bool) (oks : Oks) (a : Wires) (down : List (List ℕ)) → Reads issued s linked oks a down →
    Reads issued s false oks (record a { up = [] }) []
closed_reads issued s linked oks a down (counting c) = counting (record {
  counts = c.counts;
  plain = c.plain;
  way = [];
  shown = refl;
  phase = shut refl refl refl;
  replies = record { fair = c.replies.fair; acked_run = c.replies.acked_run; reads = λ running (opened : false ≡ true) ready. absurd (cc) };
})
closed_reads issued s linked oks a down (naming n) = naming (record {
  by_number = n.by_number;
  numbers = n.numbers;
  phase = named_shut refl refl refl;
  replies = record { fair = n.replies.fair; acked_run = n.replies.acked_run; reads = λ running (opened : false ≡ true) ready. absurd (cc) };
})

pub closed_meets : (start : Start) (issued : List (List ℕ)) (s : SenderData) (w : WorldData) → Meets start issued s w →
    Meets start issued s (happen w Closed)
closed_meets start issued s w m =
    let sh = m.shows in
    let n = m.numbers in
    record {
      wires = record m.wires { up = [] };
      begun = m.begun;
      shows = record { few = sh.few; queue = sh.queue; log = sh.log; up = refl };
      numbers = record { sound = n.sound; holds = n.holds; fit = n.fit; printed = n.printed };
      reads = closed_reads issued s w.linked w.printer.oks m.wires w.down m.reads;
    }
