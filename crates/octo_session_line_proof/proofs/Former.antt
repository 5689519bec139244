-- A later link leaves the session before it tied.
use Rattle.std.proofs.Common.{◌≡◌, ℕ, zero, suc, pred, ◌<◌, ◌≤◌, Bool, List, [], ◌∷◌, ◌++◌, length, take, drop, sym, ◌∙◌, ap, subst, arith}
use Rattle.printer_model.specs.Printer.{Logged}
use Rattle.printer_model.specs.World.{WorldData}
use Rattle.printer_model.specs.Executed.{opens, till, executed, logged_from}
use Rattle.printer_model.specs.Exchanged.{events_of_session}
use Rattle.printer_model.specs.declared.event.WorldEvent.{WorldEvent}
use Rattle.printer_model.specs.declared.event.WorldEvent.TheVariants.{Opened}
use Rattle.printer_model.proofs.Sessions.{till-all, till-append}
use Rattle.printer_model.proofs.Starts.{till-stop, executed-before}
use Rattle.printer_link.specs.Link.{LinkKind, world_in}
use Rattle.octo_session.specs.Sends.{AreSendsFit, traffic_from}
use Rattle.send_window.specs.Counting.{acked_as}
use Rattle.octo_session.specs.Tied.{world_before, IsTied}

-- the one before a number from 1 on is less
pub pred_less : (n : ℕ) → 1 ≤ n → pred n < n
pred_less zero some = absurd (omega arith)
pred_less (suc n) some = omega arith

-- a session stays tied as a history becomes another one that ran it as before and has the same events up to it
pub tied_as : (numbered : Bool) (kind : LinkKind) (issued : List (List ℕ)) (acked s : ℕ) (past all : List WorldEvent)
    → executed kind.slots kind.oks all s ≡ executed kind.slots kind.oks past s
    → till s all ≡ till s past → till (pred s) all ≡ till (pred s) past → IsTied numbered kind issued acked past s → IsTied numbered kind issued acked all s
tied_as numbered kind issued acked s past all ran here before t =
    let world : world_before kind all s ≡ world_before kind past s = ap (world_in kind) before in
    let events : events_of_session s all ≡ events_of_session s past =
    ap (λ (es : List WorldEvent). drop (length es) (till s all)) before ∙ ap (drop (length (till (pred s) past))) here
    in
    let E : List Logged → Type 0 = λ l. l ≡ logged_from 1 (take (length l) issued) in
    let A : List Logged → Type 0 = λ l. acked ≤ length l in
    let S : WorldData → Type 0 = λ w. AreSendsFit numbered issued [] w (events_of_session s all) in
    let V : List WorldEvent → Type 0 = λ es. AreSendsFit numbered issued [] (world_before kind past s) es in
    record {
      executed_first = subst E (sym ran) t.executed_first;
      acked_is = t.acked_is
          ∙ ap (λ (es : List WorldEvent). acked_as numbered (traffic_from (world_before kind past s) es)) (sym events)
          ∙ ap (λ (w : WorldData). acked_as numbered (traffic_from w (events_of_session s all))) (sym world);
      acked_run = subst A (sym ran) t.acked_run;
      sends = subst S (sym world) (subst V (sym events) t.sends);
    }

-- what a later session leaves of the one before it
pub former_tied : (numbered : Bool) (kind : LinkKind) (issued : List (List ℕ)) (acked : ℕ) (past rest : List WorldEvent) (last : ℕ) → 1 ≤ opens past →
    IsTied numbered kind issued acked past (opens past) → IsTied numbered kind issued acked (past ++ Opened last ∷ rest) (opens past)
former_tied numbered kind issued acked past rest last some t =
    let s : ℕ = opens past in
    tied_as numbered kind issued acked s past (past ++ Opened last ∷ rest)
    (executed-before kind.slots kind.oks past rest last s (omega arith))
    (till-stop past rest last ∙ sym (till-all s past (omega arith)))
    (till-append (pred s) past (Opened last ∷ rest) (pred_less s some)) t
