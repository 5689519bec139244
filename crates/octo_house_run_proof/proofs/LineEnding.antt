-- Calls, the beginning and the end of a run keep a host in step.
use Rattle.std.proofs.Common.{length, ◌≡◌, ◌⊎◌, inl, inr, ℕ, zero, suc, ◌+◌, ◌<◌, ◌≤◌, Bool, true, false, List, [], ◌∷◌, ◌++◌, refl, sym, ◌∙◌, ap, subst, append_assoc, append-nil, arith}
use Rattle.std.specs.Prelude.{if◌then◌else◌}
use Rattle.std.specs.List.{list_any}
use Rattle.printer_model.specs.World.{WorldData, apply, happen, world_from, is_send}
use Rattle.printer_model.specs.Executed.{opens, till}
use Rattle.printer_model.specs.declared.event.WorldEvent.{WorldEvent}
use Rattle.printer_model.specs.declared.event.WorldEvent.TheVariants.{Closed}
use Rattle.printer_model.proofs.Laws.{world_of-append}
use Rattle.printer_model.proofs.Sessions.{opens-append}
use Rattle.printer_link.specs.Link.{LinkKind, IsHangUp, world_in}
use Rattle.octo_session.specs.Data.{SessionData}
use Rattle.octo_asks.specs.History.{History}
use Rattle.octo_asks.specs.declared.entry.Entry.TheVariants as entry
use Rattle.octo_session.specs.Tied.{IsTied}
use Rattle.octo_session_line_proof.proofs.Tying.{opened_tied}
use Rattle.octo_house_rules.specs.Sessions.{sessions, session_texts, most_in, acked_in}
use Rattle.octo_house_rules.specs.Timeline.{Timeline, events_of}
use Rattle.octo_house_rules.specs.Tied.{Tied, WasTied, AreTied}
use Rattle.octo_house_run_proof.specs.InStep.{AreCalls, IsUnmade, IsCurrent, AreInStep}
use Rattle.octo_house_run_proof.proofs.Earlier.{tied_before, tied_of}
use Rattle.octo_house_run_proof.proofs.Grown.{below_or, few_other, few_none, sessions-other, texts-last, acked-last, open-after}
use Rattle.octo_house_run_proof.proofs.Longer.{hung_tied}
use Rattle.octo_house_run_proof.proofs.Standing.{longer_so_far, entry_tied, earlier_tied, same_current, current_open, still_step}

-- a link that is hung up is down
hung_down : (kind : LinkKind) (past added : List WorldEvent) → IsHangUp true (world_in kind past) added → (world_in kind (past ++ added)).linked ≡ false
hung_down kind past added hung =
    ap (λ (w : WorldData). w.linked) (world_of-append kind.slots kind.oks past added)
    ∙ ap (λ (es : List WorldEvent). (world_from (world_in kind past) es).linked) hung.0
    ∙ closed (world_in kind past) hung.1
  where
    closed : (w : WorldData) → w.linked ≡ true → (apply w Closed).linked ≡ false
    closed w up = ap (λ (b : Bool). (if b then happen w Closed else w).linked) up

module _ (numbered : Bool) (kind : LinkKind) (front : List WorldEvent) where
  -- nothing changes but the desk
  pub same_step : (h : History) (past : List WorldEvent) (x y : SessionData) → y.sender ≡ x.sender → y.up ≡ x.up →
      AreInStep numbered kind front h past x → AreInStep numbered kind front h past y
  same_step h past x y sender up i = record {
    counted = i.counted;
    former = i.former;
    few = i.few;
    current = same_current numbered kind (sessions h) (session_texts (sessions h) h) (acked_in (sessions h) h) past x y sender up i.current;
    open_as = i.open_as ∙ sym up;
    so_far = i.so_far;
  }

  -- calls leave the sender and the link
  pub calls_step : (added h : History) (past : List WorldEvent) (x y : SessionData) → AreCalls added → y.sender ≡ x.sender → y.up ≡ x.up →
      AreInStep numbered kind front h past x → AreInStep numbered kind front (h ++ added) past y
  calls_step [] h past x y calls sender up i = subst (λ (es : History). AreInStep numbered kind front es past y) (sym (append-nil h)) (same_step h past x y sender up i)
  calls_step (entry.Call worker ask moment answer ∷ added) h past x y calls sender up i =
      subst (λ (es : History). AreInStep numbered kind front es past y) (append_assoc h (entry.Call worker ask moment answer ∷ []) added)
      (calls_step added (h ++ entry.Call worker ask moment answer ∷ []) past x y calls sender up
      (still_step numbered kind front h past x x (entry.Call worker ask moment answer) refl refl refl (λ was is. refl) (λ was. refl) refl refl i))
  calls_step (entry.Note note ∷ added) h past x y calls sender up i = absurd calls
  calls_step (entry.Close ∷ added) h past x y calls sender up i = absurd calls

  -- a session without a link, at the beginning
  pub begin_step : (past : List WorldEvent) (x : SessionData) → front ≡ past → IsUnmade numbered kind x → AreInStep numbered kind front [] past x
  begin_step past x is u = record {
    counted = omega (arith, ap opens is);
    former = λ s some below. absurd (omega (arith, some, below));
    few = λ s most. few_none s;
    current = u;
    open_as = sym u.down;
    so_far = record {
      timeline = [];
      rest = [];
      history_is = refl;
      past_is = sym is ∙ sym (append-nil front) ∙ sym (append-nil (front ++ []));
      throughout = λ first later split. by first later split;
    };
  }
    where
      tied : Tied numbered kind front [] front
      tied = record {
        counted = omega arith;
        each = λ s some most. absurd (omega (arith, some, most));
        few = λ s most. few_none s;
        open_as = λ some. absurd (omega (arith, some));
      }

      by : (first later : Timeline) → [] ≡ first ++ later → WasTied numbered kind front first (events_of later ++ [])
      by [] [] split = record {
        tied = subst (λ (es : List WorldEvent). Tied numbered kind front [] es) (sym (append-nil front)) tied;
        caused = λ end ends. absurd (cc ends);
        unsent = λ shut. refl;
      }
      by [] (e ∷ later) split = absurd (cc)
      by (e ∷ first) later split = absurd (cc)

  -- the link is hung up, and the host has ended
  pub end_step : (h : History) (past added : List WorldEvent) (x : SessionData) → IsHangUp x.up (world_in kind past) added →
      AreInStep numbered kind front h past x →
      AreTied numbered kind front (h ++ entry.Close ∷ []) (past ++ added)
  end_step h past added x hung i = by x.up refl hung
    where
      -- after a hang-up the sessions are tied as before
      closes : opens added ≡ 0 → list_any is_send (till 0 added) ≡ false → (1 ≤ sessions h → (world_in kind (past ++ added)).linked ≡ false) →
          ((n : ℕ) (texts : List (List ℕ)) (acked : ℕ) → 1 ≤ n → IsCurrent numbered kind n texts acked past x → IsTied numbered kind texts acked (past ++ added) (opens past)) →
          AreTied numbered kind front (h ++ entry.Close ∷ []) (past ++ added)
      closes none quiet down last =
          let n : sessions (h ++ entry.Close ∷ []) ≡ sessions h = sessions-other h entry.Close refl in
          let few = few_other h entry.Close refl i.few
          (subst (λ (l : List (List ℕ)). length l ≤ most_in (sessions h)) (sym texts_now) (i.few (sessions h) (omega arith))) in
          let counted : opens (past ++ added) ≡ opens front + sessions (h ++ entry.Close ∷ []) = omega (arith, opens-append past added, none, i.counted, n) in
          let tied : Tied numbered kind front (h ++ entry.Close ∷ []) (past ++ added) =
          record {
            counted = counted;
            each = λ s some most. each s some (below_or s (sessions h) (omega (arith, most, n))) last;
            few = few;
            open_as = λ some. down (omega (arith, some, n)) ∙ sym (open-after h entry.Close);
          }
          in
          entry_tied numbered kind front h entry.Close (past ++ added) tied (λ end ends. absurd (cc ends))
          (longer_so_far numbered kind front h past added i.counted (λ shut. quiet) i.so_far)
        where
          texts_now : session_texts (sessions h) (h ++ entry.Close ∷ []) ≡ session_texts (sessions h) h
          texts_now = texts-last h entry.Close refl ∙ append-nil (session_texts (sessions h) h)

          each : (s : ℕ) → 1 ≤ s → (s < sessions h) ⊎ (s ≡ sessions h) →
              ((n : ℕ) (texts : List (List ℕ)) (acked : ℕ) → 1 ≤ n → IsCurrent numbered kind n texts acked past x
              → IsTied numbered kind texts acked (past ++ added) (opens past)) →
              IsTied numbered kind (session_texts s (h ++ entry.Close ∷ [])) (acked_in s (h ++ entry.Close ∷ [])) (past ++ added) (opens front + s)
          each s some (inl below) last =
              earlier_tied numbered kind front h entry.Close (past ++ added) s below
              (tied_before numbered kind (session_texts s h) (acked_in s h) past added (opens front + s) (omega (arith, i.counted, below)) (i.former s some below))
          each s some (inr same) last =
              subst (λ (k : ℕ). IsTied numbered kind (session_texts k (h ++ entry.Close ∷ [])) (acked_in k (h ++ entry.Close ∷ [])) (past ++ added) (opens front + k))
              (sym same)
              (subst (λ (l : List (List ℕ)). IsTied numbered kind l (acked_in (sessions h) (h ++ entry.Close ∷ [])) (past ++ added) (opens front + sessions h))
              (sym texts_now)
              (subst (λ (a : ℕ). IsTied numbered kind (session_texts (sessions h) h) a (past ++ added) (opens front + sessions h)) (sym (acked-last h entry.Close refl))
              (subst (λ (k : ℕ). IsTied numbered kind (session_texts (sessions h) h) (acked_in (sessions h) h) (past ++ added) k) i.counted
              (last (sessions h) (session_texts (sessions h) h) (acked_in (sessions h) h) (omega (arith, same, some)) i.current))))

      by : (up : Bool) → x.up ≡ up → IsHangUp up (world_in kind past) added → AreTied numbered kind front (h ++ entry.Close ∷ []) (past ++ added)
      by true is hung =
          closes (ap opens hung.0) (ap (λ (es : List WorldEvent). list_any is_send (till 0 es)) hung.0) (λ some. hung_down kind past added hung)
          (λ n texts acked some c. last n texts acked some c hung)
        where
          last : (n : ℕ) (texts : List (List ℕ)) (acked : ℕ) → 1 ≤ n → IsCurrent numbered kind n texts acked past x → IsHangUp true (world_in kind past) added →
              IsTied numbered kind texts acked (past ++ added) (opens past)
          last zero texts acked some c hung = absurd (omega arith)
          last (suc n) texts acked some c hung =
              tied_of numbered kind texts x.sender acked (past ++ added) (opens past) c.1 c.2 (hung_tied kind texts x past added hung c.0)
      by false is none =
          closes (ap opens none) (ap (λ (es : List WorldEvent). list_any is_send (till 0 es)) none) down (λ n texts acked some c. last n texts acked some c)
        where
          all : past ≡ past ++ added
          all = sym (append-nil past) ∙ ap (λ (es : List WorldEvent). past ++ es) (sym none)

          down : 1 ≤ sessions h → (world_in kind (past ++ added)).linked ≡ false
          down some =
              ap (λ (es : List WorldEvent). (world_in kind es).linked) (sym all)
              ∙ current_open numbered kind (sessions h) (session_texts (sessions h) h) (acked_in (sessions h) h) past x some i.current ∙ is

          last : (n : ℕ) (texts : List (List ℕ)) (acked : ℕ) → 1 ≤ n → IsCurrent numbered kind n texts acked past x
              → IsTied numbered kind texts acked (past ++ added) (opens past)
          last zero texts acked some c = absurd (omega arith)
          last (suc n) texts acked some c =
              subst (λ (es : List WorldEvent). IsTied numbered kind texts acked es (opens past)) all
              (tied_of numbered kind texts x.sender acked past (opens past) c.1 c.2 (opened_tied kind texts x past c.0))
