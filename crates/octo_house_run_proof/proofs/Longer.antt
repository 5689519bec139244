-- The last session of a link's history, with a few events more.
use Rattle.std.proofs.Common.{◌≡◌, ℕ, suc, ◌≤◌, true, false, List, [], ◌∷◌, ◌++◌, refl, sym, ◌∙◌, ap, subst, append_assoc, append-nil, arith}
use Rattle.std.specs.List.{list_any}
use Rattle.std.proofs.lemmas.Bool.{or_left, or_right}
use Rattle.std.proofs.lemmas.List.Folds.{list_any-append}
use Rattle.printer_model.specs.World.{WorldData, is_restart, apply, world_from}
use Rattle.printer_model.specs.Executed.{opens}
use Rattle.printer_model.specs.declared.event.WorldEvent.{WorldEvent}
use Rattle.printer_model.specs.declared.event.WorldEvent.TheVariants.{Opened}
use Rattle.printer_model.proofs.Laws.{world_from-append}
use Rattle.printer_model.proofs.Sessions.{opens-append}
use Rattle.printer_model.proofs.Starts.{runs-free}
use Rattle.printer_link.specs.Link.{LinkKind, IsDial, IsHangUp, world_in}
use Rattle.send_window.specs.Counting.{Traffic}
use Rattle.octo_session.specs.Data.{SessionData}
use Rattle.octo_session.specs.Sends.{traffic_from}
use Rattle.octo_session.specs.Steps.{hangs_up, AreAdded}
use Rattle.octo_session_line_proof.specs.Pieces.{Each}
use Rattle.octo_session_line_proof.specs.Wires.{Start}
use Rattle.octo_session_line_proof.specs.Stopped.{Fits}
use Rattle.octo_session_line_proof.specs.Traces.{IsTallied, IsStartKnown, IsTraced}
use Rattle.octo_session_line_proof.proofs.Tracing.{Leads, leads_free, fits_append}
use Rattle.octo_session_line_proof.proofs.Traffic.{traffic_from-append}
use Rattle.octo_session_line_proof.specs.Linked.{start_of, IsOpened}
use Rattle.octo_session.specs.Tied.{IsTied}
use Rattle.octo_session_line_proof.proofs.Former.{former_tied}
use Rattle.octo_session_line_proof.proofs.Fitting.{widen_fits}
use Rattle.octo_session_line_proof.proofs.Free.{Allows}
use Rattle.octo_session_line_proof.proofs.Speech.{steps_lead}
use Rattle.octo_session_line_proof.proofs.Turned.{world_since}
use Rattle.octo_session_line_proof.proofs.Tying.{tied_at}

module _ (kind : LinkKind) (issued : List (List ℕ)) (x : SessionData) (past more : List WorldEvent) (o : IsOpened kind issued x past) where
  abbrev start : Start
  start = start_of kind o.front x.sender.numbered (o.rest ++ more)

  abbrev made : WorldData
  made = apply (world_in kind o.front) (Opened o.last)

  abbrev Led : Type 0
  Led = Leads start issued issued x.sender (world_from made o.rest) (traffic_from made o.rest) more

  -- a restart among them is one of the session
  allows_more : Allows start more
  allows_more r = list_any-append is_restart o.rest more ∙ or_right (list_any is_restart o.rest) (list_any is_restart more) r

  longer_fits : Fits start issued x.sender (world_from made o.rest)
  longer_fits =
      widen_fits (start_of kind o.front x.sender.numbered o.rest) (list_any is_restart (o.rest ++ more)) issued x.sender (world_from made o.rest)
      (λ r. list_any-append is_restart o.rest more ∙ or_left (list_any is_restart o.rest) (list_any is_restart more) r) o.traced.meets

  longer_traced : Led → IsTraced start made issued x.sender (o.rest ++ more)
  longer_traced led =
      let M : WorldData → Type 0 = λ w. Fits start issued x.sender w in
      let R : List Traffic → Type 0 = λ l. IsTallied l x.sender in
      let E : WorldData → Type 0 = λ w. Each (IsStartKnown (o.rest ++ more)) w.down in
      record {
        same_session = omega (arith, opens-append o.rest more, o.traced.same_session, led.same_session);
        meets = subst M (sym (world_from-append made o.rest more)) led.meets;
        tallied = subst R (sym (traffic_from-append made o.rest more)) led.tallied;
        sends = fits_append x.sender.numbered issued issued [] made o.rest more led.extends o.traced.sends led.sends;
        starts = subst E (sym (world_from-append made o.rest more)) (led.starts o.rest o.traced.starts);
      }

  -- it is tied
  pub longer_tied : Led → IsTied x.sender.numbered kind issued x.sender.acked (past ++ more) (opens past)
  longer_tied led =
      let rest : List WorldEvent = o.rest ++ more in
      let traced = longer_traced led in
      let tied : IsTied x.sender.numbered kind issued x.sender.acked (o.front ++ Opened o.last ∷ rest) (suc (opens o.front)) =
      tied_at kind issued x.sender o.front o.last rest traced in
      let all : o.front ++ Opened o.last ∷ rest ≡ past ++ more =
      sym (append_assoc o.front (Opened o.last ∷ o.rest) more) ∙ ap (λ (es : List WorldEvent). es ++ more) (sym o.is)
      in
      let number : suc (opens o.front) ≡ opens past = omega (arith, ap opens o.is, opens-append o.front (Opened o.last ∷ o.rest), o.traced.same_session) in
      subst (λ (s : ℕ). IsTied x.sender.numbered kind issued x.sender.acked (past ++ more) s) number
      (subst (λ (es : List WorldEvent). IsTied x.sender.numbered kind issued x.sender.acked es (suc (opens o.front))) all tied)

  here : world_in kind past ≡ world_from made o.rest
  here = world_since kind past o.front o.last o.rest o.is

-- a session before another one, with what ran in the dial
pub dialled_tied : (kind : LinkKind) (issued : List (List ℕ)) (x : SessionData) (past added : List WorldEvent) → IsDial (world_in kind past) added →
    IsOpened kind issued x past → IsTied x.sender.numbered kind issued x.sender.acked (past ++ added) (opens past)
dialled_tied kind issued x past added dial o =
    let runs : List WorldEvent = dial.runs in
    let free = runs-free runs dial.only_runs in
    let base : WorldData = apply (world_in kind o.front) (Opened o.last) in
    let led = leads_free (start_of kind o.front x.sender.numbered (o.rest ++ runs)) issued x.sender (world_from base o.rest) (traffic_from base o.rest) runs free
    (allows_more kind issued x past runs o) (longer_fits kind issued x past runs o) o.traced.tallied in
    let tied : IsTied x.sender.numbered kind issued x.sender.acked (past ++ runs) (opens past) = longer_tied kind issued x past runs o led in
    let some : 1 ≤ opens past = omega (arith, ap opens o.is, opens-append o.front (Opened o.last ∷ o.rest)) in
    let same : opens (past ++ runs) ≡ opens past = omega (arith, opens-append past runs, led.same_session) in
    let T : ℕ → Type 0 = λ s. IsTied x.sender.numbered kind issued x.sender.acked (past ++ runs) s in
    let former = former_tied x.sender.numbered kind issued x.sender.acked (past ++ runs) [] dial.last (omega (arith, same, some)) (subst T (sym same) tied) in
    let whole : (past ++ runs) ++ Opened dial.last ∷ [] ≡ past ++ added =
    append_assoc past runs (Opened dial.last ∷ []) ∙ ap (λ (es : List WorldEvent). past ++ es) (sym dial.is) in
    subst (λ (s : ℕ). IsTied x.sender.numbered kind issued x.sender.acked (past ++ added) s) same
    (subst (λ (es : List WorldEvent). IsTied x.sender.numbered kind issued x.sender.acked es (opens (past ++ runs))) whole former)

-- the last session, whose link is hung up
pub hung_tied : (kind : LinkKind) (issued : List (List ℕ)) (x : SessionData) (past added : List WorldEvent) → IsHangUp true (world_in kind past) added →
    IsOpened kind issued x past → IsTied x.sender.numbered kind issued x.sender.acked (past ++ added) (opens past)
hung_tied kind issued x past added hung o =
    let base : WorldData = apply (world_in kind o.front) (Opened o.last) in
    let w : WorldData = world_from base o.rest in
    let H : WorldData → Type 0 = λ v. IsHangUp true v added in
    let there : IsHangUp true w added = subst H (world_since kind past o.front o.last o.rest o.is) hung in
    let steps : AreAdded 0 false (hangs_up true ∷ []) x.sender w added = (added, [], sym (append-nil added), (there, λ _. tt), refl) in
    let led = steps_lead (start_of kind o.front x.sender.numbered (o.rest ++ added)) 0 false (hangs_up true ∷ []) issued x.sender w (traffic_from base o.rest) added
    (tt, tt) (tt, tt) steps (allows_more kind issued x past added o) (longer_fits kind issued x past added o) o.traced.tallied in
    longer_tied kind issued x past added o led
