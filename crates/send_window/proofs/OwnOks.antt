-- How the `ok`s that count add up over a list of replies.
use Rattle.std.proofs.Common.{◌≡◌, ℕ, ◌+◌, not, ◌&&◌, ◌||◌, cond, List, [], ◌∷◌, ◌++◌, arith, refl, sym, ◌∙◌, ap}
use Rattle.std.specs.Prelude.{if◌then◌else◌}
use Rattle.std.proofs.lemmas.List.Sums.{sum_by-cons}
use Rattle.marlin_reply.specs.declared.reply.Reply.{Reply}
use Rattle.marlin_reply.specs.declared.reply.Reply.TheVariants as reply
use Rattle.send_window.specs.Counting.{is_ok, is_resend, answers_of, with_former, is_own_ok, own_oks, last_of}
use Rattle.send_window.specs.Laws.{CountsNext}

-- the answer before the next reply
abbrev pub former_behind : Reply → Reply → Reply
former_behind former heard_line = if is_ok heard_line || is_resend heard_line then heard_line else former

-- whether one reply counts
abbrev pub own_ok : Reply → Reply → ℕ
own_ok former heard_line = if is_ok heard_line && not (is_resend former) then 1 else 0

pub own_oks-cons : (former heard_line : Reply) (replies : List Reply) →
    own_oks former (heard_line ∷ replies) ≡ own_ok former heard_line + own_oks (former_behind former heard_line) replies
own_oks-cons former (reply.Ok number p b t) replies =
    sum_by-cons (λ (pair : Reply × Reply). cond (is_own_ok pair) 1 0) (former, reply.Ok number p b t)
    (with_former (reply.Ok number p b t) (answers_of replies))
own_oks-cons former (reply.Resend number) replies = omega arith
own_oks-cons former reply.Start replies = omega arith
own_oks-cons former reply.Busy replies = omega arith
own_oks-cons former (reply.Temps t) replies = omega arith
own_oks-cons former reply.Error replies = omega arith
own_oks-cons former reply.Other replies = omega arith

pub last_of-cons : (former heard_line : Reply) (replies : List Reply) →
    last_of former (answers_of (heard_line ∷ replies)) ≡ last_of (former_behind former heard_line) (answers_of replies)
last_of-cons former (reply.Ok number p b t) replies = refl
last_of-cons former (reply.Resend number) replies = refl
last_of-cons former reply.Start replies = refl
last_of-cons former reply.Busy replies = refl
last_of-cons former (reply.Temps t) replies = refl
last_of-cons former reply.Error replies = refl
last_of-cons former reply.Other replies = refl

own_oks-append : (former : Reply) (replies : List Reply) (next : Reply) →
    own_oks former (replies ++ next ∷ []) ≡ own_oks former replies + own_ok (last_of former (answers_of replies)) next
own_oks-append former [] next = omega (arith, own_oks-cons former next [])
own_oks-append former (heard_line ∷ replies) next =
    let later = former_behind former heard_line in
    let same : own_ok (last_of former (answers_of (heard_line ∷ replies))) next ≡ own_ok (last_of later (answers_of replies)) next =
    ap (λ (last : Reply). own_ok last next) (last_of-cons former heard_line replies) in
    omega (arith, own_oks-cons former heard_line (replies ++ next ∷ []), own_oks-cons former heard_line replies, own_oks-append later replies next, same)

pending_behind : (former next : Reply) → is_resend (former_behind former next) ≡ (is_resend next || (not (is_ok next) && is_resend former))
pending_behind former (reply.Ok number p b t) = refl
pending_behind former (reply.Resend number) = refl
pending_behind former reply.Start = refl
pending_behind former reply.Busy = refl
pending_behind former (reply.Temps t) = refl
pending_behind former reply.Error = refl
pending_behind former reply.Other = refl

pending-append : (former : Reply) (replies : List Reply) (next : Reply) →
    is_resend (last_of former (answers_of (replies ++ next ∷ [])))
    ≡ (is_resend next || (not (is_ok next) && is_resend (last_of former (answers_of replies))))
pending-append former [] next = ap is_resend (last_of-cons former next []) ∙ pending_behind former next
pending-append former (heard_line ∷ replies) next =
    ap is_resend (last_of-cons former heard_line (replies ++ next ∷ []))
    ∙ pending-append (former_behind former heard_line) replies next
    ∙ ap (λ (last : Reply). is_resend next || (not (is_ok next) && is_resend last)) (sym (last_of-cons former heard_line replies))

pub counts_next : CountsNext
counts_next replies next = (own_oks-append reply.Start replies next, pending-append reply.Start replies next)
