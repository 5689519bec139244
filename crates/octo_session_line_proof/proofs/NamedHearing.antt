-- A reply is heard if `ok`s count by their numbers.
use Rattle.std.proofs.Common.{◌≡◌, ◌⊎◌, inl, inr, ℕ, ◌+◌, ◌<◌, ◌≤◌, Bool, true, false, not, ◌||◌, List, [], ◌∷◌, ◌++◌, length, refl, sym, ◌∙◌, ap, subst, arith}
use Rattle.std.specs.Prelude.{Option, Some, None, max, if◌then◌else◌, nat_lt, ◌==◌}
use Rattle.std.proofs.lemmas.Bool.{lt-ltb, le-ltb, le-leb, eq-eqb, ne_eqb, and_parts, cases_eq, cases_lt}
use Rattle.marlin_frame.specs.Numbering.{wire_number, place_of}
use Rattle.send_window.specs.declared.session_end.SessionEnd.{SessionEnd}
use Rattle.send_window.specs.declared.session_end.SessionEnd.TheVariants.{AskedBack, AskedAhead, Counts, Restarted}
use Rattle.send_window.specs.Data.{SenderData, IsSound, NoneEarly, most_lines}
use Rattle.send_window.specs.Hearing.{after_hearing, ended_by, made_ready, acknowledged_to, place_ok, ok_named, ok_in, another_hello, hello_resent, line_asked, resend_asked, heard_resend, heard_start}
use Rattle.send_window.specs.Counting.{Account, with_name}
use Rattle.send_window.specs.Session.{HoldsIssued}
use Rattle.octo_session_line_proof.specs.Pieces.{Piece, Sent, Each, IsCommand, IsSentLate, Heard, ok_heard, resend_heard, start_heard, talk_heard}
use Rattle.octo_session_line_proof.specs.Wires.{Wires, Printed, before, after, lines_run, IsAsked, IsFair, resends, named_on, AreUpAhead, AreQueueAhead, AreNamesAhead, IsNamedEarly, named_early, named_late, NamesRun, NamedReplies}
use Rattle.octo_session_line_proof.proofs.Counting.{is_resend_as}
use Rattle.octo_session_line_proof.proofs.Hearing.{after_talk, heard_as, asked_right, fair_end}
use Rattle.octo_session_line_proof.proofs.Lists.{none_left, run_append, accepted_within}
use Rattle.octo_session_line_proof.proofs.NamedMoves.{IsAfterNamed}
use Rattle.octo_session_line_proof.proofs.Naming.{names_begin}

-- the number that a reply names, if it is an `ok` that names one
abbrev pub name_as : Heard → Option ℕ
name_as (ok_heard number) = number
name_as (resend_heard number) = None
name_as start_heard = None
name_as talk_heard = None

-- the account of names that a sender stands for
abbrev pub account_in : SenderData → Account
account_in s = record { hellos = s.hellos; begun = s.ready; acked = s.acked }

-- what a reply says to a sender by its name
pub record IsNamedBy (h : Heard) (s t : SenderData) : Type 0 where
  pub account : account_in t ≡ with_name (name_as h) (account_in s)
  pub asks : t.asked_anew ≡ true → (is_resend_as h || s.asked_anew) ≡ true

-- what hearing leaves
pub record IsHeardNamed (issued : List (List ℕ)) (h : Heard) (s t : SenderData) (linked : Bool) (a : Wires) (way : List Heard) : Type 0 where
  pub after_it : IsAfterNamed issued t linked a way
  pub names : IsNamedBy h s t

-- an `ok` by the kind of the sender
ok_by_name : (ready : Bool) (number : Option ℕ) (moment : ℕ) (s : SenderData) → s.numbered ≡ true → s.ready ≡ ready →
    ok_in s.numbered number moment s ≡ ok_named ready number moment s
ok_by_name ready number moment s kind is =
    ap (λ (b : Bool). ok_in b number moment s) kind ∙ ap (λ (b : Bool). ok_named b number moment s) is

unmarked : (s t : SenderData) (h : Heard) → name_as h ≡ None → account_in t ≡ account_in s →
    (t.asked_anew ≡ true → (is_resend_as h || s.asked_anew) ≡ true) → IsNamedBy h s t
unmarked s t h none same asks = record { account = same ∙ ap (λ (name : Option ℕ). with_name name (account_in s)) (sym none); asks = asks }

-- the account after a name, by whether the session has begun
abbrev account_by : ℕ → SenderData → Bool → Account
account_by number s begun =
    if begun then record { hellos = s.hellos; begun = s.ready; acked = max s.acked (place_of number) }
    else record { hellos = s.hellos; begun = number + 1 == s.hellos; acked = s.acked }

early_account : (number : ℕ) (s : SenderData) (last : Bool) → s.ready ≡ false → (number + 1 == s.hellos) ≡ last →
    with_name (Some number) (account_in s) ≡ record { hellos = s.hellos; begun = last; acked = s.acked }
early_account number s last unready is =
    let B : Bool → Account = λ b. record { hellos = s.hellos; begun = b; acked = s.acked } in
    ap (account_by number s) unready ∙ ap B is

late_account : (number : ℕ) (s : SenderData) → s.ready ≡ true →
    with_name (Some number) (account_in s) ≡ record { hellos = s.hellos; begun = s.ready; acked = max s.acked (place_of number) }
late_account number s ready = ap (account_by number s) ready

module _ (issued : List (List ℕ)) (moment : ℕ) (s : SenderData) (linked : Bool) (last : ℕ) (a : Wires) (busy : Bool) where
  -- before the hello's `ok` was read: a sender that stays as it was but for marks
  early_stays : (t : SenderData) (way way' : List Heard) → s.ready ≡ false → t.ready ≡ s.ready → t.acked ≡ s.acked → t.ended ≡ s.ended →
      NamedReplies s linked a.dropped a.log way → NamedReplies t linked a.dropped a.log way'
  early_stays t way way' unready same acked ended r = record {
    fair = (let F : Option SessionEnd → Type 0 = λ e. IsFair a.dropped e in subst F (sym ended) r.fair);
    acked_run = omega (arith, acked, r.acked_run);
    reads = λ running opened (ready : t.ready ≡ true). absurd (cc);
  }

  -- the `ok` of the last hello
  hello_named : (number : ℕ) (way : List Heard) → number + 1 ≡ s.hellos → IsSound s → NoneEarly s → HoldsIssued issued s → Printed issued a.ran a.dropped last a.queue a.log →
      linked ≡ true → s.ended ≡ None → s.ready ≡ false → IsNamedEarly s a.ran a.queue a.up (ok_heard (Some number) ∷ way) → IsAfterNamed issued (made_ready s) linked a way
  hello_named number way is_last sound fresh holds printed opened running unready e = by printed
    where
      behind : named_on way + resends way + (length a.up + length a.queue) ≡ 0
      behind = omega (arith, e.names_ahead.0, is_last)

      none : issued ≡ []
      none = none_left issued (omega (arith, holds.count, fresh unready))

      gone : a.up ≡ []
      gone = none_left a.up (omega (arith, behind))

      empty : a.queue ≡ []
      empty = none_left a.queue (omega (arith, behind))

      ran_by : (b : Bool) → a.ran ≡ b → a.ran ≡ true
      ran_by true is = is
      ran_by false is = absurd (omega (arith, e.unrun_ok is))

      ran : a.ran ≡ true
      ran = ran_by a.ran refl

      by : Printed issued a.ran a.dropped last a.queue a.log → IsAfterNamed issued (made_ready s) linked a way
      by (before b) =
          let unran : a.ran ≡ false = b.unran in
          let is : a.ran ≡ true = ran in
          absurd (cc)
      by (after p) =
          let run : lines_run a.log ≡ 0 = omega (arith, accepted_within issued (a.log ++ a.queue) p.accepted, ap length none, run_append a.log a.queue) in
          let acked : s.acked ≡ 0 = sound.none_acked unready in
          let all : s.issued ≡ 0 = fresh unready in
          let begun : NamesRun a.dropped 0 0 0 way = names_begin a.dropped way (omega (arith, behind)) (omega (arith, behind)) in
          let Ups : List Sent → Type 0 = λ up. Each (IsSentLate issued) up in
          let Waits : List Piece → Type 0 = λ queue. Each IsCommand queue in
          let N : ℕ → Type 0 = λ n. NamesRun a.dropped n s.acked (lines_run a.log) way in
          let A : ℕ → Type 0 = λ m. NamesRun a.dropped 0 m (lines_run a.log) way in
          let K : ℕ → Type 0 = λ k. NamesRun a.dropped 0 0 k way in
          record {
            phase = named_late opened refl ran (subst Ups (sym gone) tt) (subst Waits (sym empty) tt);
            replies = record {
              fair = (let F : Option SessionEnd → Type 0 = λ e. IsFair a.dropped e in subst F (sym running) tt);
              acked_run = omega (arith, acked);
              reads = λ _ _ _. subst N (sym all) (subst A (sym acked) (subst K (sym run) begun));
            };
          }

  -- the rest of the replies, of which the first one says nothing of the last hello
  rest_early : (t : SenderData) (h : Heard) (way : List Heard) → t.hellos ≡ s.hellos → t.ended ≡ s.ended → named_on way ≤ named_on (h ∷ way) →
      (AreNamesAhead s.hellos (length a.up + length a.queue) (h ∷ way) → AreNamesAhead s.hellos (length a.up + length a.queue) way) →
      IsNamedEarly s a.ran a.queue a.up (h ∷ way) → IsNamedEarly t a.ran a.queue a.up way
  rest_early t h way hellos ended fewer rest e =
      let U : ℕ → Type 0 = λ k. AreUpAhead k a.up in
      let Q : ℕ → Type 0 = λ k. AreQueueAhead k (length a.up) a.queue in
      let W : ℕ → Type 0 = λ k. AreNamesAhead k (length a.up + length a.queue) way in
      let F : Option SessionEnd → Type 0 = λ x. IsFair false x in
      record {
        ups = e.ups;
        waits = e.waits;
        up_ahead = subst U (sym hellos) e.up_ahead;
        queue_ahead = subst Q (sym hellos) e.queue_ahead;
        names_ahead = subst W (sym hellos) (rest e.names_ahead);
        unrun_ok = λ t. omega (arith, e.unrun_ok t, fewer);
        fair = subst F (sym ended) e.fair;
      }

  -- an `ok` that names a hello: of the last one, or of one before it
  early_named : (number : ℕ) (way : List Heard) → IsSound s → NoneEarly s → HoldsIssued issued s → Printed issued a.ran a.dropped last a.queue a.log → linked ≡ true →
      s.ended ≡ None → s.ready ≡ false → IsNamedEarly s a.ran a.queue a.up (ok_heard (Some number) ∷ way) →
      NamedReplies s linked a.dropped a.log (ok_heard (Some number) ∷ way) → (number + 1 ≡ s.hellos) ⊎ (number + 1 ≡ s.hellos → ⊥) →
      IsHeardNamed issued (ok_heard (Some number)) s (if number + 1 == s.hellos then made_ready s else after_hearing s) linked a way
  early_named number way sound fresh holds printed opened running unready e r (inl is_last) =
      let H : SenderData → Type 0 = λ t. IsHeardNamed issued (ok_heard (Some number)) s t linked a way in
      let same : (number + 1 == s.hellos) ≡ true = eq-eqb (number + 1) s.hellos is_last in
      subst H (sym (ap (λ (b : Bool). if b then made_ready s else after_hearing s) same)) (record {
        after_it = hello_named number way is_last sound fresh holds printed opened running unready e;
        names = record { account = sym (early_account number s true unready same); asks = λ t. t };
      })
  early_named number way sound fresh holds printed opened running unready e r (inr other) =
      let H : SenderData → Type 0 = λ t. IsHeardNamed issued (ok_heard (Some number)) s t linked a way in
      let B : Bool → Account = λ b. record { hellos = s.hellos; begun = b; acked = s.acked } in
      let same : (number + 1 == s.hellos) ≡ false = ne_eqb (number + 1) s.hellos other in
      subst H (sym (ap (λ (b : Bool). if b then made_ready s else after_hearing s) same)) (record {
        after_it = record {
          phase = named_early opened unready (rest_early (after_hearing s) (ok_heard (Some number)) way refl refl (omega arith) (λ ahead. ahead.1) e);
          replies = early_stays (after_hearing s) (ok_heard (Some number) ∷ way) way unready refl refl refl r;
        };
        names = record { account = ap B unready ∙ sym (early_account number s false unready same); asks = λ t. t };
      })

  pub heard_early : (h : Heard) (way : List Heard) → s.numbered ≡ true → IsSound s → NoneEarly s → HoldsIssued issued s → Printed issued a.ran a.dropped last a.queue a.log →
      linked ≡ true → s.ended ≡ None → s.ready ≡ false → IsNamedEarly s a.ran a.queue a.up (h ∷ way) → NamedReplies s linked a.dropped a.log (h ∷ way) →
      IsHeardNamed issued h s (heard_as busy h moment s) linked a way
  heard_early (ok_heard None) way kind sound fresh holds printed opened running unready e r =
      let H : SenderData → Type 0 = λ t. IsHeardNamed issued (ok_heard None) s t linked a way in
      subst H (sym (ok_by_name false None moment s kind unready)) (record {
        after_it = record {
          phase = named_early opened unready (rest_early (after_hearing s) (ok_heard None) way refl refl (omega arith) (λ ahead. ahead) e);
          replies = early_stays (after_hearing s) (ok_heard None ∷ way) way unready refl refl refl r;
        };
        names = unmarked s (after_hearing s) (ok_heard None) refl refl (λ t. t);
      })
  heard_early (ok_heard (Some number)) way kind sound fresh holds printed opened running unready e r =
      let H : SenderData → Type 0 = λ t. IsHeardNamed issued (ok_heard (Some number)) s t linked a way in
      subst H (sym (ok_by_name false (Some number) moment s kind unready))
      (early_named number way sound fresh holds printed opened running unready e r (cases_eq (number + 1) s.hellos))
  heard_early (resend_heard number) way kind sound fresh holds printed opened running unready e r =
      let H : SenderData → Type 0 = λ t. IsHeardNamed issued (resend_heard number) s t linked a way in
      let same : heard_resend s.ready number moment s ≡ another_hello s =
      ap (λ (b : Bool). heard_resend b number moment s) unready ∙ ap (λ (b : Bool). hello_resent b moment s) kind
      in
      subst H (sym same) (record {
        after_it = record {
          phase = named_early opened unready (rest_early (another_hello s) (resend_heard number) way refl refl (omega arith) (λ ahead. ahead) e);
          replies = early_stays (another_hello s) (resend_heard number ∷ way) way unready refl refl refl r;
        };
        names = unmarked s (another_hello s) (resend_heard number) refl refl (λ t. refl);
      })
  heard_early start_heard way kind sound fresh holds printed opened running unready e r =
      let H : SenderData → Type 0 = λ t. IsHeardNamed issued start_heard s t linked a way in
      let same : heard_start s.ready s ≡ after_hearing s = ap (λ (b : Bool). heard_start b s) unready in
      subst H (sym same) (record {
        after_it = record {
          phase = named_early opened unready (rest_early (after_hearing s) start_heard way refl refl (omega arith) (λ ahead. ahead) e);
          replies = early_stays (after_hearing s) (start_heard ∷ way) way unready refl refl refl r;
        };
        names = unmarked s (after_hearing s) start_heard refl refl (λ t. t);
      })
  heard_early talk_heard way kind sound fresh holds printed opened running unready e r = record {
    after_it = record {
      phase = named_early opened unready (rest_early (after_talk busy s) talk_heard way refl refl (omega arith) (λ ahead. ahead) e);
      replies = early_stays (after_talk busy s) (talk_heard ∷ way) way unready refl refl refl r;
    };
    names = unmarked s (after_talk busy s) talk_heard refl refl (λ t. (and_parts (not busy) s.asked_anew t).1);
  }

  -- a ready sender that stays as it was but for marks
  late_stays : (t : SenderData) (h : Heard) (way : List Heard) → linked ≡ true → s.ready ≡ true → a.ran ≡ true → Each (IsSentLate issued) a.up → Each IsCommand a.queue →
      t.ready ≡ s.ready → t.acked ≡ s.acked → t.issued ≡ s.issued → t.ended ≡ s.ended → NamedReplies s linked a.dropped a.log (h ∷ way) →
      NamesRun a.dropped s.issued s.acked (lines_run a.log) way → IsAfterNamed issued t linked a way
  late_stays t h way opened ready ran ups waits same acked all ended r names =
      let N : ℕ → Type 0 = λ n. NamesRun a.dropped n t.acked (lines_run a.log) way in
      let A : ℕ → Type 0 = λ m. NamesRun a.dropped s.issued m (lines_run a.log) way in
      record {
        phase = named_late opened (same ∙ ready) ran ups waits;
        replies = record {
          fair = (let F : Option SessionEnd → Type 0 = λ e. IsFair a.dropped e in subst F (sym ended) r.fair);
          acked_run = omega (arith, acked, r.acked_run);
          reads = λ _ _ _. subst N (sym all) (subst A (sym acked) names);
        };
      }

  -- an `ok` that names a line that ran
  ok_late : (number : ℕ) (way : List Heard) → lines_run a.log ≤ s.issued → linked ≡ true → s.ready ≡ true → a.ran ≡ true → Each (IsSentLate issued) a.up → Each IsCommand a.queue →
      number ≤ wire_number (lines_run a.log) → NamesRun a.dropped s.issued (max s.acked (place_of number)) (lines_run a.log) way →
      NamedReplies s linked a.dropped a.log (ok_heard (Some number) ∷ way) → (wire_number s.acked < number) ⊎ (number ≤ wire_number s.acked) →
      IsHeardNamed issued (ok_heard (Some number)) s (place_ok number moment s) linked a way
  ok_late number way few opened ready ran ups waits within names r (inr old) =
      let H : SenderData → Type 0 = λ t. IsHeardNamed issued (ok_heard (Some number)) s t linked a way in
      let A : ℕ → Type 0 = λ m. NamesRun a.dropped s.issued m (lines_run a.log) way in
      let K : ℕ → Account = λ n. record { hellos = s.hellos; begun = s.ready; acked = n } in
      let same : place_ok number moment s ≡ after_hearing s =
      ap (λ (b : Bool). if b then ended_by (Counts number (wire_number (s.acked + 1))) s else (if nat_lt (wire_number s.acked) number then acknowledged_to (place_of number) moment s else after_hearing s))
      (le-ltb (wire_number s.issued) number (omega (arith, within, few)))
      ∙ ap (λ (b : Bool). if b then acknowledged_to (place_of number) moment s else after_hearing s) (le-ltb (wire_number s.acked) number old)
      in
      subst H (sym same) (record {
        after_it = late_stays (after_hearing s) (ok_heard (Some number)) way opened ready ran ups waits refl refl refl refl r (subst A (omega (arith, old)) names);
        names = record { account = ap K (omega (arith, old)) ∙ sym (late_account number s ready); asks = λ t. t };
      })
  ok_late number way few opened ready ran ups waits within names r (inl new) =
      let H : SenderData → Type 0 = λ t. IsHeardNamed issued (ok_heard (Some number)) s t linked a way in
      let A : ℕ → Type 0 = λ m. NamesRun a.dropped s.issued m (lines_run a.log) way in
      let K : ℕ → Account = λ n. record { hellos = s.hellos; begun = s.ready; acked = n } in
      let same : place_ok number moment s ≡ acknowledged_to (place_of number) moment s =
      ap (λ (b : Bool). if b then ended_by (Counts number (wire_number (s.acked + 1))) s else (if nat_lt (wire_number s.acked) number then acknowledged_to (place_of number) moment s else after_hearing s))
      (le-ltb (wire_number s.issued) number (omega (arith, within, few)))
      ∙ ap (λ (b : Bool). if b then acknowledged_to (place_of number) moment s else after_hearing s) (lt-ltb (wire_number s.acked) number new)
      in
      subst H (sym same) (record {
        after_it = record {
          phase = named_late opened ready ran ups waits;
          replies = record {
            fair = fair_end a.dropped (place_of number == most_lines) s.issued;
            acked_run = omega (arith, within);
            reads = λ _ _ _. subst A (omega (arith, new)) names;
          };
        };
        names = record { account = ap K (omega (arith, new)) ∙ sym (late_account number s ready); asks = λ (t : false ≡ true). absurd (cc) };
      })

  -- a Resend of a line that may be asked for, or of the first number
  resend_late : (number : ℕ) (way : List Heard) → linked ≡ true → s.ready ≡ true → a.ran ≡ true → Each (IsSentLate issued) a.up → Each IsCommand a.queue →
      NamesRun a.dropped s.issued s.acked (lines_run a.log) way → NamedReplies s linked a.dropped a.log (resend_heard number ∷ way) →
      IsAsked s.issued s.acked number ⊎ ((a.dropped ≡ true) × (number ≡ 1)) → IsHeardNamed issued (resend_heard number) s (resend_asked number moment s) linked a way
  resend_late number way opened ready ran ups waits names r (inl is) =
      let H : SenderData → Type 0 = λ t. IsHeardNamed issued (resend_heard number) s t linked a way in
      let t : SenderData = line_asked (place_of number) moment s in
      subst H (sym (asked_right number moment s is)) (record {
        after_it = late_stays t (resend_heard number) way opened ready ran ups waits refl refl refl refl r names;
        names = unmarked s t (resend_heard number) refl refl (λ t. refl);
      })
  resend_late number way opened ready ran ups waits names r (inr back) =
      let H : SenderData → Type 0 = λ t. IsHeardNamed issued (resend_heard number) s t linked a way in
      let t : SenderData = ended_by (AskedBack number (wire_number s.acked)) (record s { swallow = not s.numbered }) in
      let same : resend_asked number moment s ≡ t =
      ap (λ (b : Bool). if b then t else if nat_lt (wire_number (s.issued + 1)) number then ended_by (AskedAhead number (wire_number s.issued)) (record s { swallow = not s.numbered }) else line_asked (place_of number) moment s)
      (le-leb number (wire_number s.acked) (omega (arith, back.1)))
      in
      subst H (sym same) (record {
        after_it = record {
          phase = named_late opened ready ran ups waits;
          replies = record {
            fair = back.0;
            acked_run = r.acked_run;
            reads = λ (running_still : Some (AskedBack number (wire_number s.acked)) ≡ None) _ _. absurd (cc);
          };
        };
        names = unmarked s t (resend_heard number) refl refl (λ t. refl);
      })

  pub heard_late : (h : Heard) (way : List Heard) → s.numbered ≡ true → lines_run a.log ≤ s.issued → linked ≡ true → s.ready ≡ true → a.ran ≡ true →
      Each (IsSentLate issued) a.up → Each IsCommand a.queue → NamesRun a.dropped s.issued s.acked (lines_run a.log) (h ∷ way) → NamedReplies s linked a.dropped a.log (h ∷ way) →
      IsHeardNamed issued h s (heard_as busy h moment s) linked a way
  heard_late (ok_heard None) way kind few opened ready ran ups waits names r =
      let H : SenderData → Type 0 = λ t. IsHeardNamed issued (ok_heard None) s t linked a way in
      subst H (sym (ok_by_name true None moment s kind ready)) (record {
        after_it = late_stays (after_hearing s) (ok_heard None) way opened ready ran ups waits refl refl refl refl r names;
        names = unmarked s (after_hearing s) (ok_heard None) refl refl (λ t. t);
      })
  heard_late (ok_heard (Some number)) way kind few opened ready ran ups waits names r =
      let H : SenderData → Type 0 = λ t. IsHeardNamed issued (ok_heard (Some number)) s t linked a way in
      subst H (sym (ok_by_name true (Some number) moment s kind ready))
      (ok_late number way few opened ready ran ups waits names.0 names.1 r (cases_lt (wire_number s.acked) number))
  heard_late (resend_heard number) way kind few opened ready ran ups waits names r =
      let H : SenderData → Type 0 = λ t. IsHeardNamed issued (resend_heard number) s t linked a way in
      subst H (sym (ap (λ (b : Bool). heard_resend b number moment s) ready)) (resend_late number way opened ready ran ups waits names.1 r names.0)
  heard_late start_heard way kind few opened ready ran ups waits names r =
      let H : SenderData → Type 0 = λ t. IsHeardNamed issued start_heard s t linked a way in
      subst H (sym (ap (λ (b : Bool). heard_start b s) ready)) (record {
        after_it = record {
          phase = named_late opened ready ran ups waits;
          replies = record { fair = tt; acked_run = r.acked_run; reads = λ (running_still : Some Restarted ≡ None) _ _. absurd (cc) };
        };
        names = unmarked s (ended_by Restarted s) start_heard refl refl (λ t. t);
      })
  heard_late talk_heard way kind few opened ready ran ups waits names r = record {
    after_it = late_stays (after_talk busy s) talk_heard way opened ready ran ups waits refl refl refl refl r names;
    names = unmarked s (after_talk busy s) talk_heard refl refl (λ t. (and_parts (not busy) s.asked_anew t).1);
  }
