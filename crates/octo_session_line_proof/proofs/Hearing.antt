-- A reply on the way is received, and the sender hears it.
use Rattle.std.proofs.Common.{◌≡◌, ℕ, suc, ◌+◌, ◌<◌, ◌≤◌, Bool, true, false, List, [], ◌∷◌, ◌++◌, length, refl, sym, ◌∙◌, ap, subst, arith}
use Rattle.std.specs.Prelude.{Option, Some, None, if◌then◌else◌, not, ◌&&◌, nat_lt, ◌==◌}
use Rattle.std.proofs.lemmas.Bool.{lt-ltb, le-ltb, lt-leb, eq-eqb}
use Rattle.marlin_frame.specs.Numbering.{wire_number, place_of}
use Rattle.marlin_reply.specs.Kind.{kind_of}
use Rattle.marlin_reply.specs.declared.reply.Reply.{Reply}
use Rattle.marlin_reply.specs.declared.reply.Reply.TheVariants as reply
use Rattle.send_window.specs.declared.session_end.SessionEnd.{SessionEnd}
use Rattle.send_window.specs.declared.session_end.SessionEnd.TheVariants.{AskedBack, AskedAhead, Counts, Restarted, NumbersUsed}
use Rattle.printer_model.specs.declared.oks.Oks.{Oks}
use Rattle.send_window.specs.Data.{SenderData, IsSound, NoneEarly, most_lines}
use Rattle.send_window.specs.Hearing.{after_hearing, ended_by, after_swallowed_ok, made_ready, acknowledged, line_ok, named_ok, heard_ok, ok_in, hello_asked, hello_resent, line_asked, resend_asked, heard_resend, heard_start, heard_reply, unless_ended, hear_step}
use Rattle.send_window.specs.Session.{HoldsIssued, hears}
use Rattle.send_window.proofs.Sending.{keeps_kind}
use Rattle.octo_session_line_proof.specs.Pieces.{Piece, Sent, Each, IsCommand, IsSentLate, Answer, greeting_ok, command_ok, refusal, asking, closing, chat, restart, Heard, ok_heard, resend_heard, start_heard, talk_heard, heard_of, heard_in, named_by, reply_to, rest_of}
use Rattle.octo_session_line_proof.specs.Wires.{Wires, Printed, before, after, lines_run, weights, is_closing, IsAsked, Answers, IsEarly, Phase, shut, early, late, IsFair, IsRead, Replies, Numbers, Counted}
use Rattle.octo_session_line_proof.proofs.Lists.{none_left, run_append, accepted_within}
use Rattle.octo_session_line_proof.proofs.Ways.{early_front, early_unclosing, answers_front, answers_unclosing, answers_le, answers_begin, IsFirst, first_of_way}
use Rattle.octo_session_line_proof.proofs.Moves.{IsAfterStep}

-- whether a reply says that the printer is at work
abbrev pub is_busy : Reply → Bool
is_busy reply.Busy = true
is_busy _ = false

-- a sender after another reply, by whether that says that the printer is at work
abbrev pub after_talk : Bool → SenderData → SenderData
after_talk busy s = record s { heard = true; asked_anew = not busy && s.asked_anew; told = if busy then 0 else s.told }

-- a sender after a reply, by what the reply does
abbrev pub heard_as : Bool → Heard → ℕ → SenderData → SenderData
heard_as busy (ok_heard number) moment s = ok_in s.numbered number moment s
heard_as busy (resend_heard number) moment s = heard_resend s.ready number moment s
heard_as busy start_heard moment s = heard_start s.ready s
heard_as busy talk_heard moment s = after_talk busy s

reply_as : (r : Reply) (moment : ℕ) (s : SenderData) → heard_reply r moment s ≡ heard_as (is_busy r) (heard_of r) moment s
reply_as (reply.Ok number planner block temps) moment s = refl
reply_as (reply.Resend number) moment s = refl
reply_as reply.Start moment s = refl
reply_as reply.Busy moment s = refl
reply_as (reply.Temps temps) moment s = refl
reply_as reply.Error moment s = refl
reply_as reply.Other moment s = refl

pub hear_as : (line : List ℕ) (heard : Heard) (moment : ℕ) (s : SenderData) → s.ended ≡ None → heard_in line ≡ heard →
    hear_step (kind_of line) moment s ≡ heard_as (is_busy (kind_of line)) heard moment s
hear_as line heard moment s running is =
    ap (λ (e : Option SessionEnd). unless_ended e (heard_reply (kind_of line) moment s) s) running
    ∙ reply_as (kind_of line) moment s
    ∙ ap (λ (h : Heard). heard_as (is_busy (kind_of line)) h moment s) is

pub ok_by : (swallow ready : Bool) (number : Option ℕ) (moment : ℕ) (s : SenderData) → s.numbered ≡ false → s.swallow ≡ swallow → s.ready ≡ ready →
    ok_in s.numbered number moment s ≡ heard_ok swallow ready number moment s
ok_by swallow ready number moment s counts e f =
    ap (λ (b : Bool). ok_in b number moment s) counts
    ∙ ap (λ (b : Bool). heard_ok b s.ready number moment s) e ∙ ap (λ (b : Bool). heard_ok swallow b number moment s) f

-- before the hello's `ok` was read: a sender that stays as it was but for marks
early_stays : (s t : SenderData) (linked d : Bool) (log : List Piece) (way : List Answer) → s.ready ≡ false → t.ready ≡ s.ready → t.acked ≡ s.acked →
    t.ended ≡ s.ended → Replies s linked d log way → (way' : List Answer) → Replies t linked d log way'
early_stays s t linked d log way unready same acked ended r way' = record {
  fair = subst (λ (e : Option SessionEnd). IsFair false e) (sym ended) r.fair;
  acked_run = omega (arith, acked, r.acked_run);
  reads = λ running opened (ready : t.ready ≡ true). absurd (cc);
}

module _ (issued : List (List ℕ)) (moment : ℕ) (s : SenderData) (linked : Bool) (last : ℕ) where
  hello_heard : (a : Wires) (number : Option ℕ) (way : List Answer) → IsSound s → NoneEarly s → HoldsIssued issued s → Printed issued a.ran a.dropped last a.queue a.log →
      linked ≡ true → s.ended ≡ None → s.ready ≡ false → IsEarly s a.ran a.dropped a.queue a.up (greeting_ok number ∷ way) →
      IsAfterStep issued (made_ready s) linked a way
  hello_heard a number way sound fresh holds printed opened running unready e = hello_by printed
    where
      none : issued ≡ []
      none = none_left issued (omega (arith, holds.count, fresh unready))

      gone : a.up ≡ []
      gone = none_left a.up (omega (arith, e.one))

      empty : a.queue ≡ []
      empty = none_left a.queue (omega (arith, e.one))

      ran_by : (b : Bool) → a.ran ≡ b → a.ran ≡ true
      ran_by true is = is
      ran_by false is = absurd (omega (arith, e.unrun_ok is))

      ran : a.ran ≡ true
      ran = ran_by a.ran refl

      hello_by : Printed issued a.ran a.dropped last a.queue a.log → IsAfterStep issued (made_ready s) linked a way
      hello_by (before b) =
          let unran : a.ran ≡ false = b.unran in
          let is : a.ran ≡ true = ran in
          absurd (cc)
      hello_by (after p) =
          let run : lines_run a.log ≡ 0 = omega (arith, accepted_within issued (a.log ++ a.queue) p.accepted, ap length none, run_append a.log a.queue) in
          let acked : s.acked ≡ 0 = sound.none_acked unready in
          let all : s.issued ≡ 0 = fresh unready in
          let light : weights way ≡ 0 = omega (arith, e.one) in
          let answered : Answers false a.dropped 0 0 way 0 = answers_begin a.dropped way light e.way_so e.begun_so in
          let Ups : List Sent → Type 0 = λ up. Each (IsSentLate issued) up in
          let Waits : List Piece → Type 0 = λ queue. Each IsCommand queue in
          let N : ℕ → Type 0 = λ n. Answers true a.dropped n s.acked way (lines_run a.log) in
          let A : ℕ → Type 0 = λ m. Answers true a.dropped 0 m way (lines_run a.log) in
          let K : ℕ → Type 0 = λ k. Answers true a.dropped 0 0 way k in
          record {
            phase = late opened refl ran (subst Ups (sym gone) tt) (subst Waits (sym empty) tt);
            replies = record {
              fair = subst (λ (e : Option SessionEnd). IsFair false e) (sym running) tt;
              acked_run = omega (arith, acked);
              reads = λ _ _ _. record {
                swallows = e.swallows ∙ sym (early_unclosing way e.way_so);
                answers = subst N (sym all) (subst A (sym acked) (subst K (sym run) (answers_front a.dropped 0 0 way 0 answered)));
              };
            };
          }

  early_heard : (busy : Bool) (a : Wires) (x : Answer) (way : List Answer) → s.numbered ≡ false → IsSound s → NoneEarly s → HoldsIssued issued s → Printed issued a.ran a.dropped last a.queue a.log →
      linked ≡ true → s.ended ≡ None → s.ready ≡ false → IsEarly s a.ran a.dropped a.queue a.up (x ∷ way) → Replies s linked a.dropped a.log (x ∷ way) →
      IsAfterStep issued (heard_as busy (reply_to x) moment s) linked a (rest_of x way)
  early_heard busy a (greeting_ok number) way counts sound fresh holds printed opened running unready e r =
      let H : SenderData → Type 0 = λ t. IsAfterStep issued t linked a way in
      subst H (sym (ok_by false false number moment s counts e.swallows unready)) (hello_heard a number way sound fresh holds printed opened running unready e)
  early_heard busy a (command_ok place named) way counts sound fresh holds printed opened running unready e r = absurd (e.way_so)
  early_heard busy a (refusal number) way counts sound fresh holds printed opened running unready e r = record {
    phase = early opened unready (record {
      ups = e.ups;
      one = omega (arith, e.one);
      due = λ d. omega (arith, e.due d);
      run_ok = λ t. omega (arith, e.run_ok t);
      unrun_ok = λ t. omega (arith, e.unrun_ok t);
      way_so = (refl, e.way_so);
      begun_so = e.begun_so;
      swallows = e.swallows;
    });
    replies = early_stays s (after_talk busy s) linked a.dropped a.log (refusal number ∷ way) unready refl refl refl r (asking number ∷ way);
  }
  early_heard busy a (asking number) way counts sound fresh holds printed opened running unready e r =
      let H : SenderData → Type 0 = λ t. IsAfterStep issued t linked a (closing ∷ way) in
      let same : heard_resend s.ready number moment s ≡ hello_asked s =
      ap (λ (b : Bool). heard_resend b number moment s) unready ∙ ap (λ (b : Bool). hello_resent b moment s) counts
      in
      subst H (sym same) (record {
        phase = early opened unready (record {
          ups = e.ups;
          one = omega (arith, e.one);
          due = λ d. omega (arith, e.one);
          run_ok = λ t. omega (arith, e.run_ok t);
          unrun_ok = λ t. omega (arith, e.unrun_ok t);
          way_so = (refl, e.way_so.1);
          begun_so = e.begun_so;
          swallows = refl;
        });
        replies = early_stays s (hello_asked s) linked a.dropped a.log (asking number ∷ way) unready refl refl refl r (closing ∷ way);
      })
  early_heard busy a closing way counts sound fresh holds printed opened running unready e r =
      let H : SenderData → Type 0 = λ t. IsAfterStep issued t linked a way in
      subst H (sym (ok_by true false None moment s counts e.swallows unready)) (record {
        phase = early opened unready (record {
          ups = e.ups;
          one = omega (arith, e.one);
          due = λ d. omega (arith, e.due d);
          run_ok = λ t. omega (arith, e.run_ok t);
          unrun_ok = λ t. omega (arith, e.unrun_ok t);
          way_so = early_front way e.way_so.1;
          begun_so = e.begun_so;
          swallows = sym (early_unclosing way e.way_so.1);
        });
        replies = early_stays s (after_swallowed_ok s) linked a.dropped a.log (closing ∷ way) unready refl refl refl r way;
      })
  early_heard busy a chat way counts sound fresh holds printed opened running unready e r = record {
    phase = early opened unready (record {
      ups = e.ups;
      one = omega (arith, e.one);
      due = λ d. omega (arith, e.due d);
      run_ok = λ t. omega (arith, e.run_ok t);
      unrun_ok = λ t. omega (arith, e.unrun_ok t);
      way_so = early_front way e.way_so;
      begun_so = e.begun_so;
      swallows = e.swallows ∙ sym (early_unclosing way e.way_so);
    });
    replies = early_stays s (after_talk busy s) linked a.dropped a.log (chat ∷ way) unready refl refl refl r way;
  }
  early_heard busy a restart way counts sound fresh holds printed opened running unready e r =
      let H : SenderData → Type 0 = λ t. IsAfterStep issued t linked a way in
      let same : heard_start s.ready s ≡ after_hearing s = ap (λ (b : Bool). heard_start b s) unready in
      subst H (sym same) (record {
        phase = early opened unready (record {
          ups = e.ups;
          one = omega (arith, e.one);
          due = λ d. omega (arith, e.due d);
          run_ok = λ t. omega (arith, e.run_ok t);
          unrun_ok = λ t. omega (arith, e.unrun_ok t);
          way_so = early_front way e.way_so;
          begun_so = e.begun_so;
          swallows = e.swallows ∙ sym (early_unclosing way e.way_so);
        });
        replies = early_stays s (after_hearing s) linked a.dropped a.log (restart ∷ way) unready refl refl refl r way;
      })

-- an `ok` that names its line or none acknowledges the next line
line_right : (moment : ℕ) (s : SenderData) → s.acked < s.issued → line_ok moment s ≡ acknowledged moment s
line_right moment s more = ap (λ (b : Bool). if b then acknowledged moment s else after_hearing s) (lt-ltb s.acked s.issued more)

pub named_right : (named : Bool) (place moment : ℕ) (s : SenderData) → place ≡ suc s.acked → s.acked < s.issued →
    named_ok (named_by named (wire_number place)) moment s ≡ acknowledged moment s
named_right false place moment s is more = line_right moment s more
named_right true place moment s is more =
    ap (λ (b : Bool). if b then line_ok moment s else ended_by (Counts (wire_number place) (wire_number (s.acked + 1))) s) (eq-eqb (wire_number place) (wire_number (s.acked + 1)) (omega (arith, is)))
    ∙ line_right moment s more

pub fair_end : (d b : Bool) (all : ℕ) → IsFair d (if b then Some (NumbersUsed all) else None)
fair_end d true all = tt
fair_end d false all = tt

-- a Resend of a line that may be asked for
pub asked_right : (number moment : ℕ) (s : SenderData) → IsAsked s.issued s.acked number → resend_asked number moment s ≡ line_asked (place_of number) moment s
asked_right number moment s is =
    ap (λ (b : Bool). if b then ended_by (AskedBack number (wire_number s.acked)) (record s { swallow = not s.numbered }) else if nat_lt (wire_number (s.issued + 1)) number then ended_by (AskedAhead number (wire_number s.issued)) (record s { swallow = not s.numbered }) else line_asked (place_of number) moment s)
    (lt-leb number (wire_number s.acked) (omega (arith, is.is, is.above)))
    ∙ ap (λ (b : Bool). if b then ended_by (AskedAhead number (wire_number s.issued)) (record s { swallow = not s.numbered }) else line_asked (place_of number) moment s)
    (le-ltb (wire_number (s.issued + 1)) number (omega (arith, is.is, is.within)))

module _ (issued : List (List ℕ)) (moment : ℕ) (s : SenderData) (linked : Bool) where
  -- a ready sender that stays as it was but for marks and the swallow flag
  late_stays : (t : SenderData) (a : Wires) (x : Answer) (way way' : List Answer) → linked ≡ true → s.ready ≡ true → a.ran ≡ true →
      Each (IsSentLate issued) a.up → Each IsCommand a.queue → t.ready ≡ s.ready → t.acked ≡ s.acked → t.issued ≡ s.issued → t.ended ≡ s.ended → t.swallow ≡ is_closing way' →
      Replies s linked a.dropped a.log (x ∷ way) → Answers true a.dropped s.issued s.acked way' (lines_run a.log) →
      IsAfterStep issued t linked a way'
  late_stays t a x way way' opened ready ran ups waits same acked all ended swallows r answers =
      let N : ℕ → Type 0 = λ n. Answers true a.dropped n t.acked way' (lines_run a.log) in
      let A : ℕ → Type 0 = λ m. Answers true a.dropped s.issued m way' (lines_run a.log) in
      record {
        phase = late opened (same ∙ ready) ran ups waits;
        replies = record {
          fair = subst (λ (e : Option SessionEnd). IsFair false e) (sym ended) r.fair;
          acked_run = omega (arith, acked, r.acked_run);
          reads = λ _ _ _. record { swallows = swallows; answers = subst N (sym all) (subst A (sym acked) answers) };
        };
      }

  late_heard : (busy : Bool) (a : Wires) (x : Answer) (way : List Answer) → s.numbered ≡ false → lines_run a.log ≤ s.issued → linked ≡ true → s.ended ≡ None → s.ready ≡ true → a.ran ≡ true →
      Each (IsSentLate issued) a.up → Each IsCommand a.queue → IsRead s a.dropped (x ∷ way) (lines_run a.log) → Replies s linked a.dropped a.log (x ∷ way) →
      IsAfterStep issued (heard_as busy (reply_to x) moment s) linked a (rest_of x way)
  late_heard busy a (greeting_ok number) way counts few opened running ready ran ups waits read r = absurd (read.answers)
  late_heard busy a (command_ok place named) way counts few opened running ready ran ups waits read r =
      let H : SenderData → Type 0 = λ t. IsAfterStep issued t linked a way in
      let more : suc s.acked ≤ lines_run a.log = answers_le false a.dropped s.issued (suc s.acked) way (lines_run a.log) read.answers.1 in
      let same : ok_in s.numbered (named_by named (wire_number place)) moment s ≡ acknowledged moment s =
      ok_by false true (named_by named (wire_number place)) moment s counts read.swallows ready ∙ named_right named place moment s read.answers.0 (omega (arith, more, few))
      in
      let A : ℕ → Type 0 = λ m. Answers true a.dropped s.issued m way (lines_run a.log) in
      let next : suc s.acked ≡ s.acked + 1 = omega arith in
      subst H (sym same) (record {
        phase = late opened ready ran ups waits;
        replies = record {
          fair = fair_end false (s.acked + 1 == most_lines) s.issued;
          acked_run = omega (arith, more);
          reads = λ _ _ _. record {
            swallows = read.swallows ∙ sym (answers_unclosing a.dropped s.issued (suc s.acked) way (lines_run a.log) read.answers.1);
            answers = subst A next (answers_front a.dropped s.issued (suc s.acked) way (lines_run a.log) read.answers.1);
          };
        };
      })
  late_heard busy a (refusal number) way counts few opened running ready ran ups waits read r =
      late_stays (after_talk busy s) a (refusal number) way (asking number ∷ way) opened ready ran ups waits refl refl refl refl read.swallows r (refl, read.answers.0, read.answers.1)
  late_heard busy a (asking number) way counts few opened running ready ran ups waits read r =
      let H : SenderData → Type 0 = λ t. IsAfterStep issued t linked a (closing ∷ way) in
      let same : heard_resend s.ready number moment s ≡ line_asked (place_of number) moment s =
      ap (λ (b : Bool). heard_resend b number moment s) ready ∙ asked_right number moment s read.answers.1
      in
      subst H (sym same) (late_stays (line_asked (place_of number) moment s) a (asking number) way (closing ∷ way) opened ready ran ups waits refl refl refl refl (ap not counts) r (refl, read.answers.2))
  late_heard busy a closing way counts few opened running ready ran ups waits read r =
      let H : SenderData → Type 0 = λ t. IsAfterStep issued t linked a way in
      subst H (sym (ok_by true true None moment s counts read.swallows ready))
      (late_stays (after_swallowed_ok s) a closing way way opened ready ran ups waits refl refl refl refl (sym (answers_unclosing a.dropped s.issued s.acked way (lines_run a.log) read.answers.1)) r
      (answers_front a.dropped s.issued s.acked way (lines_run a.log) read.answers.1))
  late_heard busy a chat way counts few opened running ready ran ups waits read r =
      late_stays (after_talk busy s) a chat way way opened ready ran ups waits refl refl refl refl (read.swallows ∙ sym (answers_unclosing a.dropped s.issued s.acked way (lines_run a.log) read.answers)) r
      (answers_front a.dropped s.issued s.acked way (lines_run a.log) read.answers)
  late_heard busy a restart way counts few opened running ready ran ups waits read r =
      let H : SenderData → Type 0 = λ t. IsAfterStep issued t linked a way in
      let same : heard_start s.ready s ≡ ended_by Restarted s = ap (λ (b : Bool). heard_start b s) ready in
      subst H (sym same) (record {
        phase = late opened ready ran ups waits;
        replies = record {
          fair = tt;
          acked_run = r.acked_run;
          reads = λ (running_still : Some Restarted ≡ None) _ _. absurd (cc);
        };
      })

-- no more lines have run than were issued
pub run_few : (issued : List (List ℕ)) (ran d : Bool) (last : ℕ) (queue log : List Piece) → Printed issued ran d last queue log → lines_run log ≤ length issued
run_few issued ran d last queue log (before b) = let none : lines_run log ≡ 0 = ap lines_run b.none_run in omega (arith, none)
run_few issued ran d last queue log (after p) = omega (arith, accepted_within issued (log ++ queue) p.accepted, run_append log queue)

heard_by : (busy : Bool) (issued : List (List ℕ)) (moment : ℕ) (s : SenderData) (linked : Bool) (last : ℕ) (a : Wires) (x : Answer) (way : List Answer) → linked ≡ true →
    s.ended ≡ None → s.numbered ≡ false → NoneEarly s → Numbers issued s last a → Replies s linked a.dropped a.log (x ∷ way) → Phase issued s linked a (x ∷ way) →
    IsAfterStep issued (heard_as busy (reply_to x) moment s) linked a (rest_of x way)
heard_by busy issued moment s linked last a x way on running counts fresh n r (shut closed none idle) = absurd (cc)
heard_by busy issued moment s linked last a x way on running counts fresh n r (early opened unready e) =
    early_heard issued moment s linked last busy a x way counts n.sound fresh n.holds n.printed opened running unready e r
heard_by busy issued moment s linked last a x way on running counts fresh n r (late opened ready ran ups waits) =
    late_heard issued moment s linked busy a x way counts (omega (arith, run_few issued a.ran a.dropped last a.queue a.log n.printed, n.holds.count)) opened running ready ran ups waits
    (r.reads running opened ready) r

-- a reply is received and heard
pub heard_counted : (issued : List (List ℕ)) (moment : ℕ) (s : SenderData) (linked : Bool) (oks : Oks) (last : ℕ) (a : Wires) (line : List ℕ) (rest : List (List ℕ)) →
    linked ≡ true → s.ended ≡ None → NoneEarly s → Numbers issued s last a → Counted issued s linked oks a (line ∷ rest) →
    Counted issued (hear_step (kind_of line) moment s) linked oks a rest
heard_counted issued moment s linked oks last a line rest on running fresh n c =
    let first : IsFirst line rest c.way = first_of_way line rest c.way c.shown in
    let x = first.answer in
    let P : List Answer → Type 0 = λ l. Phase issued s linked a l in
    let R : List Answer → Type 0 = λ l. Replies s linked a.dropped a.log l in
    let so : IsAfterStep issued (heard_as (is_busy (kind_of line)) (reply_to x) moment s) linked a (rest_of x first.rest) =
    heard_by (is_busy (kind_of line)) issued moment s linked last a x first.rest on running c.counts fresh n (subst R first.is c.replies) (subst P first.is c.phase)
    in
    let same : hear_step (kind_of line) moment s ≡ heard_as (is_busy (kind_of line)) (reply_to x) moment s = hear_as line (reply_to x) moment s running first.heard in
    let H : SenderData → Type 0 = λ t. IsAfterStep issued t linked a (rest_of x first.rest) in
    let heard_so : IsAfterStep issued (hear_step (kind_of line) moment s) linked a (rest_of x first.rest) = subst H (sym same) so in
    record {
      counts = keeps_kind (hears (kind_of line) moment) s ∙ c.counts;
      plain = c.plain;
      way = rest_of x first.rest;
      shown = first.after;
      phase = heard_so.phase;
      replies = heard_so.replies;
    }
