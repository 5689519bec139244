-- A turn of a session, beside what was issued and acknowledged in the sessions so far.
use Rattle.std.proofs.Common.{length, ◌≡◌, ◌⊎◌, inl, inr, ℕ, zero, suc, ◌+◌, ◌<◌, ◌≤◌, Bool, true, false, List, [], ◌∷◌, ◌++◌, refl, sym, ◌∙◌, ap, subst, append-nil, arith}
use Rattle.std.specs.List.{list_any, list_all}
use Rattle.job_desk.specs.declared.link_fact.LinkFact.{LinkFact}
use Rattle.job_desk.specs.declared.link_fact.LinkFact.TheVariants as fact
use Rattle.printer_model.specs.World.{WorldData, is_free, is_send, apply, world_from}
use Rattle.printer_model.specs.Executed.{opens, till}
use Rattle.printer_model.specs.declared.event.WorldEvent.{WorldEvent}
use Rattle.printer_model.specs.declared.event.WorldEvent.TheVariants.{Opened, Closed}
use Rattle.printer_model.proofs.Sessions.{opens-append, till-all}
use Rattle.printer_model.proofs.Starts.{opens-free, runs-free}
use Rattle.printer_link.specs.Link.{LinkKind, IsDial, world_in}
use Rattle.printer_link.specs.Suits.{Suits}
use Rattle.send_window.specs.Data.{SenderData, IsSound, most_lines}
use Rattle.send_window.specs.Session.{HoldsIssued}
use Rattle.octo_session.specs.Data.{SessionData, doing}
use Rattle.octo_session.specs.Found.{Got, unasked, may_issue, can_find}
use Rattle.octo_session.specs.declared.found.Doing.TheVariants.{Dialling, UsingLink}
use Rattle.octo_session_line_proof.specs.Linked.{start_of, IsOpened}
use Rattle.octo_session_line_proof.specs.Wires.{Start}
use Rattle.octo_session.specs.Tied.{IsTied}
use Rattle.octo_session_line_proof.proofs.Ends.{idle_turn}
use Rattle.octo_session_line_proof.proofs.Fitting.{fits_sound, fits_holds}
use Rattle.octo_session_line_proof.proofs.Turned.{IsTurned, talks_up, opens_dialling, idle_steps, down_after}
use Rattle.octo_session_line_proof.proofs.Turning.{turn_kind, going_on, is_opened_fact}
use Rattle.octo_session_line_proof.proofs.Turns.{none_opened, dial_of, made_now}
use Rattle.octo_session_line_proof.specs.History.{IsMade}
use Rattle.octo_house_rules.specs.Sessions.{most_in}
use Rattle.octo_house_run_proof.specs.InStep.{IsUnmade, IsCurrent}
use Rattle.octo_house_run_proof.proofs.Longer.{dialled_tied}
use Rattle.octo_house_run_proof.proofs.Grown.{below_or}
use Rattle.octo_house_run_proof.proofs.Earlier.{tied_before, tied_of, till-none, unsent_free}
use Rattle.octo_session_line_proof.proofs.Speech.{issued_in_other}

-- what a turn that neither uses the link nor makes one adds
pub record IsIdle (added : List WorldEvent) : Type 0 where
  pub opens_none : opens added ≡ 0
  pub sends_none : list_any is_send added ≡ false

pub idle_added : (added : List WorldEvent) → (list_all is_free added ≡ true) ⊎ (added ≡ Closed ∷ []) → IsIdle added
idle_added added (inl free) = record { opens_none = opens-free added free; sends_none = unsent_free added free }
idle_added added (inr closed) =
    (let S : List WorldEvent → Type 0 = λ es. IsIdle es in subst S (sym closed) (record { opens_none = refl; sends_none = refl }))

-- the session is up only if it uses the link, or hangs up
not_talking : (x : SessionData) → x.up ≡ false → doing x ≡ UsingLink → ⊥
not_talking x down talks = (let up : x.up ≡ true = talks_up x talks in absurd (cc))

-- what a turn leaves of n sessions, of which these texts were issued and this number of lines acknowledged
pub record Leaves (numbered : Bool) (kind : LinkKind) (front : List WorldEvent) (n : ℕ) (texts : ℕ → List (List ℕ)) (acked : ℕ → ℕ) (last : List (List ℕ)) (last_acked : ℕ)
    (past : List WorldEvent) (x : SessionData) : Type 0 where
  pub counted : opens past ≡ opens front + n
  pub former : (s : ℕ) → 1 ≤ s → s < n → IsTied numbered kind (texts s) (acked s) past (opens front + s)
  pub current : IsCurrent numbered kind n last last_acked past x
  pub few : length last ≤ most_in n

-- an opened session issued at most as many lines as it has numbers for
pub few_opened : (kind : LinkKind) (issued : List (List ℕ)) (x : SessionData) (past : List WorldEvent) → IsOpened kind issued x past
    → length issued ≤ most_lines
few_opened kind issued x past o =
    let start : Start = start_of kind o.front x.sender.numbered o.rest in
    let w : WorldData = world_from (apply (world_in kind o.front) (Opened o.last)) o.rest in
    let holds : HoldsIssued issued x.sender = fits_holds start issued x.sender w o.traced.meets in
    let sound : IsSound x.sender = fits_sound start issued x.sender w o.traced.meets in
    omega (arith, holds.count, sound.few)

module _ (moment : ℕ) (numbered : Bool) (kind : LinkKind) (old new : SessionData) (got : Got) (found : LinkFact) (issued : List (List ℕ)) where
  -- the sessions before the last one
  former_stay : (front past added : List WorldEvent) (n : ℕ) (texts : ℕ → List (List ℕ)) (acked : ℕ → ℕ) → opens past ≡ opens front + n →
      ((s : ℕ) → 1 ≤ s → s < n → IsTied numbered kind (texts s) (acked s) past (opens front + s)) →
      (s : ℕ) → 1 ≤ s → s < n → IsTied numbered kind (texts s) (acked s) (past ++ added) (opens front + s)
  former_stay front past added n texts acked counted former s some below =
      tied_before numbered kind (texts s) (acked s) past added (opens front + s) (omega (arith, counted, below)) (former s some below)

  -- no link was made yet, nor is one made
  unmade_stays : (past added : List WorldEvent) → (found ≡ fact.Opened → ⊥) → IsTurned moment kind old new got found issued (world_in kind past) added →
      IsUnmade numbered kind old → IsUnmade numbered kind new
  unmade_stays past added other t u =
      let idle : doing old ≡ UsingLink → ⊥ = not_talking old u.down in
      let same : new.sender ≡ old.sender = t.sender ∙ idle_steps moment (doing old) old.up got found issued t.count old.sender idle other in
      record {
        down = t.up ∙ down_after (doing old) found old.up t.can idle other u.down;
        sound = subst (λ (s : SenderData). IsSound s) (sym same) u.sound;
        numbered_is = ap (λ (s : SenderData). s.numbered) same ∙ u.numbered_is;
        suits = u.suits;
      }

  -- a turn that makes no link
  pub turn_stays : (front past added : List WorldEvent) (n : ℕ) (texts : ℕ → List (List ℕ)) (acked : ℕ → ℕ) (last_acked : ℕ) → (found ≡ fact.Opened → ⊥) →
      IsTurned moment kind old new got found issued (world_in kind past) added → new.sender.acked ≡ last_acked →
      Leaves numbered kind front n texts acked (texts n) (acked n) past old → Leaves numbered kind front n texts acked (texts n ++ issued) last_acked (past ++ added) new
  turn_stays front past added zero texts acked last_acked other t same l =
      let idle : doing old ≡ UsingLink → ⊥ = not_talking old l.current.down in
      let none : IsIdle added =
      idle_added added (idle_turn moment kind.prompt (doing old) old.up got found issued t.count old.sender (world_in kind past) added idle other t.steps) in
      record {
        counted = omega (arith, opens-append past added, l.counted, none.opens_none);
        former = former_stay front past added zero texts acked l.counted l.former;
        current = unmade_stays past added other t l.current;
        few = subst (λ (l : List (List ℕ)). length l ≤ 0) (sym (none_issued idle t)) l.few;
      }
    where
      none_issued : (doing old ≡ UsingLink → ⊥) → IsTurned moment kind old new got found issued (world_in kind past) added → texts 0 ++ issued ≡ texts 0
      none_issued idle t =
          let un : got ≡ unasked = t.asked.1 idle in
          let none : issued ≡ [] = t.none_issued (ap (λ (g : Got). may_issue g found) un) in
          ap (λ (l : List (List ℕ)). texts 0 ++ l) none ∙ append-nil (texts 0)
  turn_stays front past added (suc n) texts acked last_acked other t same l =
      let o : IsOpened kind (texts (suc n)) old past = l.current.0 in
      let O : List (List ℕ) → Type 0 = λ l. IsOpened kind l new (past ++ added) in
      record {
        counted = omega (arith, opens-append past added, l.counted, none_opened moment kind old new got found issued (texts (suc n)) past added other t o);
        former = former_stay front past added (suc n) texts acked l.counted l.former;
        current = (
          subst O (issued_in_other found issued (texts (suc n)) other) (going_on moment kind old new got found issued (texts (suc n)) past added other t o),
          same,
          turn_kind moment kind old new got found issued (world_in kind past) added t ∙ l.current.2,
        );
        few = few_opened kind (texts (suc n) ++ issued) new (past ++ added)
            (subst O (issued_in_other found issued (texts (suc n)) other) (going_on moment kind old new got found issued (texts (suc n)) past added other t o));
      }

  -- a turn that makes a link
  pub turn_opens : (front past added : List WorldEvent) (n : ℕ) (texts : ℕ → List (List ℕ)) (acked : ℕ → ℕ) (last_acked : ℕ) → found ≡ fact.Opened →
      IsTurned moment kind old new got found issued (world_in kind past) added → new.sender.acked ≡ last_acked →
      Leaves numbered kind front n texts acked (texts n) (acked n) past old → Leaves numbered kind front (suc n) texts acked [] last_acked (past ++ added) new
  turn_opens front past added n texts acked last_acked is t same l =
      let dial : IsDial (world_in kind past) added = dial_of moment kind old new got found issued past added is t in
      let made : IsMade kind [] new past added =
      made_now moment kind old new got found issued past added is (sound_at n (texts n) (acked n) past old l.current)
      (suits_at n (texts n) (acked n) past old l.current) (dials is t) t in
      record {
        counted = omega (arith, opens-append past added, l.counted, made.once);
        former = λ s some below. former_by front past added n texts acked dial l s some below;
        current = (
          made.opened,
          same,
          turn_kind moment kind old new got found issued (world_in kind past) added t ∙ kind_at n (texts n) (acked n) past old l.current,
        );
        few = omega arith;
      }
    where
      dials : found ≡ fact.Opened → IsTurned moment kind old new got found issued (world_in kind past) added → doing old ≡ Dialling
      dials is t = (let F : LinkFact → Type 0 = λ f. can_find (doing old) f ≡ true in opens_dialling (doing old) (subst F is t.can))

      sound_at : (n : ℕ) (texts : List (List ℕ)) (acked : ℕ) (past : List WorldEvent) (x : SessionData) → IsCurrent numbered kind n texts acked past x →
          IsSound x.sender
      sound_at zero texts acked past x u = u.sound
      sound_at (suc n) texts acked past x c =
          fits_sound (start_of kind c.0.front x.sender.numbered c.0.rest) texts x.sender (world_from (apply (world_in kind c.0.front) (Opened c.0.last)) c.0.rest)
          c.0.traced.meets

      suits_at : (n : ℕ) (texts : List (List ℕ)) (acked : ℕ) (past : List WorldEvent) (x : SessionData) → IsCurrent numbered kind n texts acked past x
          → Suits x.sender.numbered kind.oks
      suits_at zero texts acked past x u = subst (λ (b : Bool). Suits b kind.oks) (sym u.numbered_is) u.suits
      suits_at (suc n) texts acked past x c = c.0.suits

      kind_at : (n : ℕ) (texts : List (List ℕ)) (acked : ℕ) (past : List WorldEvent) (x : SessionData) → IsCurrent numbered kind n texts acked past x
          → x.sender.numbered ≡ numbered
      kind_at zero texts acked past x u = u.numbered_is
      kind_at (suc n) texts acked past x c = c.2

      -- the last one with what ran in the dial
      ended_by : (front past added : List WorldEvent) (n : ℕ) (texts : List (List ℕ)) (acked : ℕ) → IsDial (world_in kind past) added →
          opens past ≡ opens front + n → 1 ≤ n → IsCurrent numbered kind n texts acked past old → IsTied numbered kind texts acked (past ++ added) (opens front + n)
      ended_by front past added zero texts acked dial counted some c = absurd (omega arith)
      ended_by front past added (suc n) texts acked dial counted some c =
          tied_of numbered kind texts old.sender acked (past ++ added) (opens front + suc n) c.1 c.2
          (subst (λ (s : ℕ). IsTied old.sender.numbered kind texts old.sender.acked (past ++ added) s) counted (dialled_tied kind texts old past added dial c.0))

      former_by : (front past added : List WorldEvent) (n : ℕ) (texts : ℕ → List (List ℕ)) (acked : ℕ → ℕ) → IsDial (world_in kind past) added →
          Leaves numbered kind front n texts acked (texts n) (acked n) past old → (s : ℕ) → 1 ≤ s → s < suc n →
          IsTied numbered kind (texts s) (acked s) (past ++ added) (opens front + s)
      former_by front past added n texts acked dial l s some below = by (below_or s n below)
        where
          by : (s < n) ⊎ (s ≡ n) → IsTied numbered kind (texts s) (acked s) (past ++ added) (opens front + s)
          by (inl less) = tied_before numbered kind (texts s) (acked s) past added (opens front + s) (omega (arith, l.counted, less)) (l.former s some less)
          by (inr same) =
              subst (λ (k : ℕ). IsTied numbered kind (texts k) (acked k) (past ++ added) (opens front + k)) (sym same)
              (ended_by front past added n (texts n) (acked n) dial l.counted (omega (arith, same, some)) l.current)

  -- over no link a turn sends nothing until it makes one
  pub turn_shut : (past added : List WorldEvent) → old.up ≡ false → IsTurned moment kind old new got found issued (world_in kind past) added →
      list_any is_send (till 0 added) ≡ false
  turn_shut past added down t = by (is_opened_fact found)
    where
      by : (found ≡ fact.Opened) ⊎ (found ≡ fact.Opened → ⊥) → list_any is_send (till 0 added) ≡ false
      by (inl is) =
          let dial : IsDial (world_in kind past) added = dial_of moment kind old new got found issued past added is t in
          let free = runs-free dial.runs dial.only_runs in
          let here : till 0 (dial.runs ++ Opened dial.last ∷ []) ≡ dial.runs =
          till-none dial.runs (Opened dial.last ∷ []) (opens-free dial.runs free) ∙ append-nil dial.runs in
          ap (λ (es : List WorldEvent). list_any is_send (till 0 es)) dial.is ∙ ap (λ (es : List WorldEvent). list_any is_send es) here
          ∙ unsent_free dial.runs free
      by (inr other) =
          let none : IsIdle added =
          idle_added added (idle_turn moment kind.prompt (doing old) old.up got found issued t.count old.sender (world_in kind past) added
          (not_talking old down) other t.steps) in
          ap (λ (es : List WorldEvent). list_any is_send es) (till-all 0 added (omega (arith, none.opens_none))) ∙ none.sends_none
