-- Histories with one session more, or with none.
use Rattle.std.proofs.Common.{◌≡◌, suc, Bool, true, false, List, [], ◌∷◌, ◌++◌, length, take, drop, refl, sym, ◌∙◌, ap, subst, append-nil, arith}
use Rattle.std.specs.Prelude.{filter, Option, Some, None}
use Rattle.printer_model.specs.Printer.{Logged}
use Rattle.printer_model.specs.World.{world_of}
use Rattle.printer_model.specs.Executed.{opens, till, is_counted, executed, logged_from}
use Rattle.printer_model.specs.Exchanged.{events_of_session}
use Rattle.printer_model.specs.declared.event.WorldEvent.{WorldEvent}
use Rattle.printer_model.proofs.Sessions.{till-all, opens-append}
use Rattle.printer_link.specs.Link.{LinkKind, Recorded}
use Rattle.send_window.specs.Counting.{acked_as}
use Rattle.octo_session.specs.Sends.{AreSendsFit, traffic_from}
use Rattle.octo_session.specs.Tied.{HasIssued, world_before}

drop_whole : {X : Type 0} (xs : List X) → drop (length xs) xs ≡ []
drop_whole [] = refl
drop_whole (x ∷ xs) = drop_whole xs

-- no reply acknowledges nothing
none_acked : (numbered : Bool) → 0 ≡ acked_as numbered []
none_acked true = refl
none_acked false = refl

-- a history without another session: nothing was executed in it
pub none_printed : (numbered : Bool) (kind : LinkKind) (past added : List WorldEvent) → opens added ≡ 0 → HasIssued numbered kind [] 0 past added
none_printed numbered kind past added none =
    let all : List WorldEvent = past ++ added in
    let few : opens all ≡ opens past = omega (arith, opens-append past added, none) in
    let upto : till (suc (opens past)) all ≡ all = till-all (suc (opens past)) all (omega (arith, few)) in
    let before : till (opens past) all ≡ all = till-all (opens past) all (omega (arith, few)) in
    let log : List WorldEvent → List Logged = λ es. (world_of kind.slots kind.oks es).log in
    let ran : executed kind.slots kind.oks all (suc (opens past)) ≡ [] =
    ap (λ (es : List WorldEvent). filter is_counted (drop (length (log es)) (log (till (suc (opens past)) all)))) before
    ∙ ap (λ (es : List WorldEvent). filter is_counted (drop (length (log all)) (log es))) upto
    ∙ ap (filter is_counted) (drop_whole (log all))
    in
    let events : events_of_session (suc (opens past)) all ≡ [] =
    ap (λ (es : List WorldEvent). drop (length es) (till (suc (opens past)) all)) before
    ∙ ap (drop (length all)) upto
    ∙ drop_whole all
    in
    let E : List Logged → Type 0 = λ l. l ≡ logged_from 1 (take (length l) []) in
    let A : List WorldEvent → Type 0 = λ es. 0 ≡ acked_as numbered (traffic_from (world_before kind all (suc (opens past))) es) in
    let S : List WorldEvent → Type 0 = λ es. AreSendsFit numbered [] [] (world_before kind all (suc (opens past))) es in
    record {
      once = omega (arith, none);
      tied = record {
        executed_first = subst E (sym ran) refl;
        acked_is = subst A (sym events) (none_acked numbered);
        acked_run = omega arith;
        sends = subst S (sym events) tt;
      };
    }

-- nothing was added
pub nothing_added : (old new : Option (List WorldEvent)) → Recorded old new (λ past added. added ≡ []) → new ≡ old
nothing_added old (Some now) same =
    let grew = same.grew now refl in
    ap Some (grew.3 ∙ ap (λ (es : List WorldEvent). grew.0 ++ es) grew.4 ∙ append-nil grew.0) ∙ sym grew.2
nothing_added None None same = refl
nothing_added (Some past) None same = (let no : false ≡ true = same.stays in absurd (cc))
