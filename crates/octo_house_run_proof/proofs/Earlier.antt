-- What more events leave of the sessions before.
use Rattle.std.proofs.Common.{◌≡◌, ℕ, zero, suc, pred, ◌<◌, Bool, true, false, List, [], ◌∷◌, ◌++◌, refl, sym, ◌∙◌, ap, subst, arith}
use Rattle.std.specs.Prelude.{◌||◌}
use Rattle.std.specs.List.{list_all, list_any}
use Rattle.std.proofs.lemmas.List.Folds.{list_any-append}
use Rattle.printer_model.specs.World.{is_free, is_send}
use Rattle.printer_model.specs.Executed.{opens, till}
use Rattle.printer_model.specs.declared.event.WorldEvent.{WorldEvent}
use Rattle.printer_model.specs.declared.event.WorldEvent.TheVariants.{Opened, Send, Arrive, Lose, LoseReply, Garble, Run, Restart, Chatter, Recv, Closed}
use Rattle.printer_model.proofs.Sessions.{executed-append, till-append, till-all, pred_below}
use Rattle.printer_link.specs.Link.{LinkKind}
use Rattle.send_window.specs.Data.{SenderData}
use Rattle.octo_session.specs.Tied.{IsTied}
use Rattle.octo_session_line_proof.proofs.Former.{tied_as}
use Rattle.std.proofs.lemmas.Bool.{and_parts}

-- a session before the last one stays tied, whatever comes
pub tied_before : (numbered : Bool) (kind : LinkKind) (issued : List (List ℕ)) (acked : ℕ) (past added : List WorldEvent) (s : ℕ) → s < opens past →
    IsTied numbered kind issued acked past s → IsTied numbered kind issued acked (past ++ added) s
tied_before numbered kind issued acked past added s over t =
    tied_as numbered kind issued acked s past (past ++ added) (executed-append kind.slots kind.oks past added s over)
    (till-append s past added over) (till-append (pred s) past added (pred_below s (opens past) over)) t

-- what a session's sender says of its kind and its acknowledged lines
pub tied_of : (numbered : Bool) (kind : LinkKind) (issued : List (List ℕ)) (x : SenderData) (acked : ℕ) (past : List WorldEvent) (s : ℕ) → x.acked ≡ acked →
    x.numbered ≡ numbered → IsTied x.numbered kind issued x.acked past s → IsTied numbered kind issued acked past s
tied_of numbered kind issued x acked past s same its_kind t =
    subst (λ (b : Bool). IsTied b kind issued acked past s) its_kind (subst (λ (a : ℕ). IsTied x.numbered kind issued a past s) same t)

-- events that open no session, and then others
pub till-none : (first more : List WorldEvent) → opens first ≡ 0 → till 0 (first ++ more) ≡ first ++ till 0 more
till-none [] more none = refl
till-none (Opened last ∷ first) more none = absurd (omega (arith, none))
till-none (Send line ∷ first) more none = ap (λ (es : List WorldEvent). Send line ∷ es) (till-none first more none)
till-none (Arrive ∷ first) more none = ap (λ (es : List WorldEvent). Arrive ∷ es) (till-none first more none)
till-none (Lose at ∷ first) more none = ap (λ (es : List WorldEvent). Lose at ∷ es) (till-none first more none)
till-none (LoseReply at ∷ first) more none = ap (λ (es : List WorldEvent). LoseReply at ∷ es) (till-none first more none)
till-none (Garble at line ∷ first) more none = ap (λ (es : List WorldEvent). Garble at line ∷ es) (till-none first more none)
till-none (Run ∷ first) more none = ap (λ (es : List WorldEvent). Run ∷ es) (till-none first more none)
till-none (Restart ∷ first) more none = ap (λ (es : List WorldEvent). Restart ∷ es) (till-none first more none)
till-none (Chatter reply ∷ first) more none = ap (λ (es : List WorldEvent). Chatter reply ∷ es) (till-none first more none)
till-none (Recv ∷ first) more none = ap (λ (es : List WorldEvent). Recv ∷ es) (till-none first more none)
till-none (Closed ∷ first) more none = ap (λ (es : List WorldEvent). Closed ∷ es) (till-none first more none)

free_sends_none : (event : WorldEvent) → is_free event ≡ true → is_send event ≡ false
free_sends_none (Send line) free = absurd (cc)
free_sends_none _ free = refl

-- what the line and the printer do by themselves is no sending
pub unsent_free : (events : List WorldEvent) → list_all is_free events ≡ true → list_any is_send events ≡ false
unsent_free [] free = refl
unsent_free (event ∷ events) free =
    ap (λ (b : Bool). b || list_any is_send events) (free_sends_none event (and_parts (is_free event) (list_all is_free events) free).0)
    ∙ unsent_free events (and_parts (is_free event) (list_all is_free events) free).1

-- nothing is sent before the next session in two parts
pub unsent_more : (since added : List WorldEvent) → list_any is_send (till 0 since) ≡ false →
    (opens since ≡ 0 → list_any is_send (till 0 added) ≡ false) → list_any is_send (till 0 (since ++ added)) ≡ false
unsent_more since added quiet more = by (opens since) refl
  where
    neither : (a b : Bool) → a ≡ false → b ≡ false → (a || b) ≡ false
    neither false b first second = second
    neither true b first second = absurd (cc)

    by : (n : ℕ) → opens since ≡ n → list_any is_send (till 0 (since ++ added)) ≡ false
    by zero none =
        let here : till 0 since ≡ since = till-all 0 since (omega (arith, none)) in
        ap (λ (es : List WorldEvent). list_any is_send es) (till-none since added none)
        ∙ list_any-append is_send since (till 0 added)
        ∙ neither (list_any is_send since) (list_any is_send (till 0 added))
        (ap (λ (es : List WorldEvent). list_any is_send es) (sym here) ∙ quiet) (more none)
    by (suc n) some = ap (λ (es : List WorldEvent). list_any is_send es) (till-append 0 since added (omega (arith, some))) ∙ quiet
