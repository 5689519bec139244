-- A turn of a ready session over a prompt link acknowledges the next line.
use Rattle.std.specs.Prelude.{None}
use Rattle.std.proofs.Common.{◌≡◌, ◌⊎◌, inl, inr, ℕ, suc, ◌+◌, ◌-◌, ◌<◌, ◌≤◌, true, false, List, [], ◌∷◌, ◌++◌, length, refl, sym, ◌∙◌, ap, subst, arith}
use Rattle.std.specs.Prelude.{Option, ◌&&◌}
use Rattle.std.specs.List.{list_all}
use Rattle.std.proofs.lemmas.List.Folds.{list_all-append}
use Rattle.job_desk.specs.declared.link_fact.LinkFact.TheVariants as fact
use Rattle.marlin_reply.specs.Kind.{kind_of}
use Rattle.printer_model.specs.World.{WorldData, is_free, world_from}
use Rattle.printer_model.specs.declared.event.WorldEvent.{WorldEvent}
use Rattle.printer_model.specs.declared.event.WorldEvent.TheVariants.{Recv}
use Rattle.printer_model.proofs.Laws.{world_from-append}
use Rattle.printer_link.specs.Link.{IsHeard, IsSilence, recv_events}
use Rattle.send_window.specs.Data.{SenderData, most_lines}
use Rattle.send_window.specs.Hearing.{acknowledged, hear_step, tick_step, is_past}
use Rattle.octo_session.specs.Found.{Got, unasked, lost, nothing, whole, is_whole, end_by}
use Rattle.octo_session.specs.Steps.{Step, opens, finds_no_port, fails_to_dial, hears, listens, fails_to_receive, ticks, issues, gives, fails_to_send, hangs_up, after_step, after_steps, AreAllowed, AreAdded, issues_then_sends, steps_over_link}
use Rattle.octo_session.proofs.Keeping.{keeps_frame}
use Rattle.octo_session_line_proof.specs.Pieces.{Each, IsFit}
use Rattle.octo_session_print.specs.Prompt.{IsInStep, IsReadySession}
use Rattle.octo_session_print.proofs.Prompt.{append_length, prompt_heard}
use Rattle.octo_session_print.proofs.Saying.{tick_idle, early_after, heard_saying, IsSayStep, say_all, say_speech, none_there}
use Rattle.std.proofs.lemmas.List.{take_all}
use Rattle.byte_text.proofs.ListLaws.{never_empty}
use Rattle.std.proofs.lemmas.Bool.{and_right}

-- issuing and sending acknowledge nothing
say_acked : (moment : ℕ) (steps : List Step) (s : SenderData) → Each IsSayStep steps → (after_steps moment steps s).acked ≡ s.acked
say_acked moment [] s say = refl
say_acked moment (issues text ∷ steps) s say = say_acked moment steps (after_step moment (issues text) s) say.1
say_acked moment (gives ∷ steps) s say = say_acked moment steps (after_step moment gives s) say.1 ∙ (keeps_frame moment s).acked
say_acked moment (opens ∷ steps) s say = absurd say.0
say_acked moment (finds_no_port ∷ steps) s say = absurd say.0
say_acked moment (fails_to_dial ∷ steps) s say = absurd say.0
say_acked moment (hears bytes ∷ steps) s say = absurd say.0
say_acked moment (listens ∷ steps) s say = absurd say.0
say_acked moment (fails_to_receive ∷ steps) s say = absurd say.0
say_acked moment (ticks ∷ steps) s say = absurd say.0
say_acked moment (fails_to_send ∷ steps) s say = absurd say.0
say_acked moment (hangs_up was_up ∷ steps) s say = absurd say.0

-- after a turn: one more line is acknowledged if one was unacknowledged, and then something was heard
pub record HasGoneOn (got : Got) (s t : SenderData) (v : WorldData) : Type 0 where
  pub saying : IsReadySession t v
  pub more : s.acked < s.issued → (t.acked ≡ s.acked + 1) × (is_whole got ≡ true)
  pub same : s.acked ≡ s.issued → (t.acked ≡ s.acked) × (is_whole got ≡ false)

module _ (moment : ℕ) (texts : List (List ℕ)) (count : ℕ) (s : SenderData) (w : WorldData) (added : List WorldEvent) (i : IsReadySession s w) (spoken : s.cursor ≡ s.issued + 1) (few : s.issued < most_lines) (small : moment + s.limit ≤ 18446744073709551615) where
  -- the rest of a turn, from the tick on
  clocked : (t : SenderData) (first rest : List WorldEvent) → tick_step moment t ≡ t → IsReadySession t (world_from w first) → added ≡ first ++ rest →
      AreAllowed moment (ticks ∷ issues_then_sends true texts count) t → AreAdded moment true (ticks ∷ issues_then_sends true texts count) t (world_from w first) rest →
      IsReadySession (after_steps moment (ticks ∷ issues_then_sends true texts count) t) (world_from w added)
      × ((after_steps moment (ticks ∷ issues_then_sends true texts count) t).acked ≡ t.acked)
  clocked t first rest idle here is can steps =
      let u : SenderData = tick_step moment t in
      let S : SenderData → Type 0 = λ x. IsReadySession x (world_from (world_from w first) steps.0) in
      let none : steps.0 ≡ [] = steps.3.0 in
      let N : List WorldEvent → Type 0 = λ es. IsReadySession t (world_from (world_from w first) es) in
      let ticked : IsReadySession u (world_from (world_from w first) steps.0) = subst S (sym idle) (subst N (sym none) here) in
      let said = say_all moment (issues_then_sends true texts count) u (world_from (world_from w first) steps.0) steps.1 (say_speech texts count) can.1 steps.4 ticked in
      let V : WorldData → Type 0 = λ v. IsReadySession (after_steps moment (issues_then_sends true texts count) u) v in
      let all : world_from w added ≡ world_from (world_from (world_from w first) steps.0) steps.1 =
      ap (world_from w) is ∙ world_from-append w first rest ∙ ap (world_from (world_from w first)) steps.2 ∙ world_from-append (world_from w first) steps.0 steps.1
      in
      (subst V (sym all) said, say_acked moment (issues_then_sends true texts count) u (say_speech texts count) ∙ ap (λ (x : SenderData). x.acked) idle)

  held_count : s.acked + length s.held ≡ s.issued
  held_count = i.sound.counted

  all_held : i.queued ++ i.flying ≡ s.held
  all_held = i.all ∙ take_all (s.cursor - suc s.acked) s.held (omega (arith, spoken, held_count))

  -- with something unacknowledged the receiving ends with a reply
  ends_heard : s.acked < s.issued → IsSilence w (recv_events true w) → ⊥
  ends_heard some silence = by_held s.held refl
    where
      by_held : (held : List (List ℕ)) → s.held ≡ held → ⊥
      by_held [] none = omega (arith, ap length none, held_count, some)
      by_held (text ∷ more) holds =
          let E : List (List ℕ) → Type 0 = λ l. Each IsFit l in
          let h = prompt_heard (suc s.acked) text more i.queued i.flying w (subst E holds i.fits) (omega (arith, held_count, ap length holds, few)) (all_held ∙ holds) i.step in
          let split : list_all is_free (h.first ++ Recv ∷ []) ≡ (list_all is_free h.first && false) = list_all-append is_free h.first (Recv ∷ []) in
          let off : (list_all is_free h.first && false) ≡ false = and_right (list_all is_free h.first) false refl in
          let clash : true ≡ false = sym silence.free ∙ ap (list_all is_free) h.is ∙ split ∙ off in
          absurd (cc)

  -- with nothing unacknowledged it finds nothing
  none_waits : s.acked ≡ s.issued → recv_events true w ≡ []
  none_waits all = none_there (suc s.acked) w in_step
    where
      both : (i.queued ≡ []) × (i.flying ≡ [])
      both = (
        none_of i.queued (omega (arith, append_length i.queued i.flying, ap length all_held, held_count, all)),
        none_of i.flying (omega (arith, append_length i.queued i.flying, ap length all_held, held_count, all)),
      )
        where
          none_of : (xs : List (List ℕ)) → length xs ≡ 0 → xs ≡ []
          none_of [] is = refl
          none_of (x ∷ xs) is = absurd (omega (arith, is))

      in_step : IsInStep (suc s.acked) [] [] w
      in_step =
          let Q : List (List ℕ) → Type 0 = λ q. IsInStep (suc s.acked) q i.flying w in
          let F : List (List ℕ) → Type 0 = λ f. IsInStep (suc s.acked) [] f w in
          subst F both.1 (subst Q both.0 i.step)

  -- the receiving of a turn that hears something
  heard_on : (bytes : List ℕ) (first rest : List WorldEvent) → s.acked < s.issued → IsHeard bytes w first → first ≡ recv_events true w → added ≡ first ++ rest →
      AreAllowed moment (ticks ∷ issues_then_sends true texts count) (hear_step (kind_of bytes) moment s) →
      AreAdded moment true (ticks ∷ issues_then_sends true texts count) (hear_step (kind_of bytes) moment s) (world_from w first) rest →
      HasGoneOn (whole bytes) s (after_steps moment (ticks ∷ issues_then_sends true texts count) (hear_step (kind_of bytes) moment s)) (world_from w added)
  heard_on bytes first rest some is prompt all can steps =
      let answered = heard_saying moment bytes s w first i spoken some few is prompt in
      let t : SenderData = hear_step (kind_of bytes) moment s in
      let I : SenderData → Type 0 = λ x. IsReadySession x (world_from w first) in
      let T : SenderData → Type 0 = λ x. tick_step moment x ≡ x in
      let idle : tick_step moment t ≡ t =
      subst T (sym answered.is) (tick_idle moment (acknowledged moment s) answered.saying.running (early_after moment s.limit (s.acked + 1) s.issued i.sound.some_limit small))
      in
      let on = clocked t first rest idle (subst I (sym answered.is) answered.saying) all can steps in
      record {
        saying = on.0;
        more = λ _. (on.1 ∙ ap (λ (x : SenderData). x.acked) answered.is, refl);
        same = λ none. absurd (omega (arith, some, none));
      }

  -- a turn that hears nothing
  silent_on : (first rest : List WorldEvent) → s.acked ≡ s.issued → first ≡ recv_events true w → added ≡ first ++ rest →
      AreAllowed moment (ticks ∷ issues_then_sends true texts count) s →
      AreAdded moment true (ticks ∷ issues_then_sends true texts count) s (world_from w first) rest →
      HasGoneOn nothing s (after_steps moment (ticks ∷ issues_then_sends true texts count) s) (world_from w added)
  silent_on first rest none prompt all can steps =
      let still : first ≡ [] = prompt ∙ none_waits none in
      let I : List WorldEvent → Type 0 = λ es. IsReadySession s (world_from w es) in
      let early : is_past s.deadline moment ≡ false = ap (λ (d : Option ℕ). is_past d moment) (i.sound.none_awaited i.ready_is none) in
      let on = clocked s first rest (tick_idle moment s i.running early) (subst I (sym still) i) all can steps in
      record {
        saying = on.0;
        more = λ some. absurd (omega (arith, some, none));
        same = λ _. (on.1, refl);
      }

  heard_none : (bytes : List ℕ) (first : List WorldEvent) → s.acked ≡ s.issued → IsHeard bytes w first → first ≡ recv_events true w → ⊥
  heard_none bytes first none is prompt = never_empty is.before Recv is.after (sym (prompt ∙ none_waits none) ∙ is.is)

  counted_below : (s.acked < s.issued) ⊎ (s.acked ≡ s.issued)
  counted_below = by_held s.held refl
    where
      by_held : (held : List (List ℕ)) → s.held ≡ held → (s.acked < s.issued) ⊎ (s.acked ≡ s.issued)
      by_held [] holds = inr (omega (arith, ap length holds, held_count))
      by_held (text ∷ more) holds = inl (omega (arith, ap length holds, held_count))

  pub prompt_talk : (got : Got) → (got ≡ unasked → ⊥) → (got ≡ lost → ⊥) → AreAllowed moment (steps_over_link got fact.Quiet texts count) s →
      AreAdded moment true (steps_over_link got fact.Quiet texts count) s w added →
      HasGoneOn got s (after_steps moment (steps_over_link got fact.Quiet texts count) s) (world_from w added)
  prompt_talk unasked asked unbroken can is = absurd (asked refl)
  prompt_talk lost asked unbroken can is = absurd (unbroken refl)
  prompt_talk nothing asked unbroken can is = by_count counted_below
    where
      by_count : (s.acked < s.issued) ⊎ (s.acked ≡ s.issued) → HasGoneOn nothing s (after_steps moment (steps_over_link nothing fact.Quiet texts count) s) (world_from w added)
      by_count (inl some) = (let S : List WorldEvent → Type 0 = λ es. IsSilence w es in absurd (ends_heard some (subst S (is.3.1 refl) is.3.0)))
      by_count (inr none) = silent_on is.0 is.1 none (is.3.1 refl) is.2 can.1 is.4
  prompt_talk (whole bytes) asked unbroken can is = by_count counted_below
    where
      by_count : (s.acked < s.issued) ⊎ (s.acked ≡ s.issued) → HasGoneOn (whole bytes) s (after_steps moment (steps_over_link (whole bytes) fact.Quiet texts count) s) (world_from w added)
      by_count (inl some) = heard_on bytes is.0 is.1 some is.3.0 (is.3.1 refl) is.2 can.1 is.4
      by_count (inr none) = absurd (heard_none bytes is.0 none is.3.0 (is.3.1 refl))

  -- what a turn receives doesn't end the session, nor does the clock then
  pub heard_goes_on : (bytes : List ℕ) (first : List WorldEvent) → IsHeard bytes w first → first ≡ recv_events true w → end_by (whole bytes) moment s ≡ None
  heard_goes_on bytes first is prompt = by_count counted_below
    where
      by_count : (s.acked < s.issued) ⊎ (s.acked ≡ s.issued) → end_by (whole bytes) moment s ≡ None
      by_count (inl some) =
          let answered = heard_saying moment bytes s w first i spoken some few is prompt in
          let t : SenderData = acknowledged moment s in
          let idle : tick_step moment t ≡ t = tick_idle moment t answered.saying.running (early_after moment s.limit (s.acked + 1) s.issued i.sound.some_limit small) in
          ap (λ (x : SenderData). (tick_step moment x).ended) answered.is ∙ ap (λ (x : SenderData). x.ended) idle ∙ answered.saying.running
      by_count (inr none) = absurd (heard_none bytes first none is prompt)

  pub silence_goes_on : (first : List WorldEvent) → IsSilence w first → first ≡ recv_events true w → end_by nothing moment s ≡ None
  silence_goes_on first is prompt = by_count counted_below
    where
      by_count : (s.acked < s.issued) ⊎ (s.acked ≡ s.issued) → end_by nothing moment s ≡ None
      by_count (inl some) = (let S : List WorldEvent → Type 0 = λ es. IsSilence w es in absurd (ends_heard some (subst S prompt is)))
      by_count (inr none) =
          let early : is_past s.deadline moment ≡ false = ap (λ (d : Option ℕ). is_past d moment) (i.sound.none_awaited i.ready_is none) in
          ap (λ (x : SenderData). x.ended) (tick_idle moment s i.running early) ∙ i.running
