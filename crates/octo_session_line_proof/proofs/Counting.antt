-- The acknowledged lines are counted over the replies that were received.
use Rattle.std.proofs.Common.{◌≡◌, ℕ, suc, ◌+◌, ◌≤◌, Bool, true, false, not, ◌&&◌, ◌||◌, List, ◌∷◌, refl, sym, ◌∙◌, ap, subst, arith}
use Rattle.std.specs.Prelude.{Option, None, if◌then◌else◌}
use Rattle.std.proofs.lemmas.Bool.{and_parts}
use Rattle.std.proofs.lemmas.Grind.{common_steps}
use Rattle.marlin_frame.specs.Numbering.{wire_number}
use Rattle.marlin_reply.specs.Kind.{kind_of}
use Rattle.marlin_reply.specs.declared.reply.Reply.{Reply}
use Rattle.marlin_reply.specs.declared.reply.Reply.TheVariants as reply
use Rattle.printer_model.specs.declared.oks.Oks.{Oks}
use Rattle.send_window.specs.Data.{SenderData, IsSound}
use Rattle.send_window.specs.Hearing.{acknowledged, named_ok, heard_start, hear_step}
use Rattle.send_window.specs.Counting.{is_ok, is_resend}
use Rattle.octo_session_line_proof.specs.Pieces.{Answer, greeting_ok, command_ok, refusal, asking, closing, chat, restart, Heard, ok_heard, resend_heard, start_heard, talk_heard, heard_of, heard_in, named_by, reply_to}
use Rattle.octo_session_line_proof.specs.Wires.{Wires, Phase, shut, early, late, IsRead, Replies, Numbers, Counted, lines_run}
use Rattle.octo_session_line_proof.specs.Traces.{oks_of}
use Rattle.octo_session_line_proof.proofs.Ways.{answers_le, IsFirst, first_of_way}
use Rattle.octo_session_line_proof.proofs.Hearing.{heard_as, hear_as, is_busy, ok_by, named_right, run_few}

-- whether a reply is an `ok`, or a Resend
abbrev pub is_ok_as : Heard → Bool
is_ok_as (ok_heard number) = true
is_ok_as (resend_heard number) = false
is_ok_as start_heard = false
is_ok_as talk_heard = false

abbrev pub is_resend_as : Heard → Bool
is_resend_as (ok_heard number) = false
is_resend_as (resend_heard number) = true
is_resend_as start_heard = false
is_resend_as talk_heard = false

pub ok_as : (r : Reply) → is_ok r ≡ is_ok_as (heard_of r)
ok_as (reply.Ok number planner block temps) = refl
ok_as (reply.Resend number) = refl
ok_as reply.Start = refl
ok_as reply.Busy = refl
ok_as (reply.Temps temps) = refl
ok_as reply.Error = refl
ok_as reply.Other = refl

pub resend_as : (r : Reply) → is_resend r ≡ is_resend_as (heard_of r)
resend_as (reply.Ok number planner block temps) = refl
resend_as (reply.Resend number) = refl
resend_as reply.Start = refl
resend_as reply.Busy = refl
resend_as (reply.Temps temps) = refl
resend_as reply.Error = refl
resend_as reply.Other = refl

-- a sender counts a reply
pub record IsCounted (h : Heard) (s t : SenderData) : Type 0 where
  pub swallows : t.swallow ≡ (is_resend_as h || (not (is_ok_as h) && s.swallow))
  pub counts : oks_of t.ready t.acked ≡ oks_of s.ready s.acked + (if is_ok_as h && not s.swallow then 1 else 0)
  pub asks : t.asked_anew ≡ true → (is_resend_as h || s.asked_anew) ≡ true

ok_counted : (number : Option ℕ) (moment : ℕ) (s : SenderData) (swallow ready : Bool) → s.numbered ≡ false → s.swallow ≡ swallow → s.ready ≡ ready → IsSound s →
    (s.swallow ≡ false → s.ready ≡ true → named_ok number moment s ≡ acknowledged moment s) →
    IsCounted (ok_heard number) s (heard_as false (ok_heard number) moment s)
ok_counted number moment s true ready kind e f sound so =
    let C : SenderData → Type 0 = λ t. IsCounted (ok_heard number) s t in
    let more : ℕ = if true && not s.swallow then 1 else 0 in
    let none : more ≡ 0 = ap (λ (b : Bool). if true && not b then 1 else 0) e in
    subst C (sym (ok_by true ready number moment s kind e f)) (record { swallows = refl; counts = omega (arith, none); asks = λ a. a })
ok_counted number moment s false false kind e f sound so =
    let C : SenderData → Type 0 = λ t. IsCounted (ok_heard number) s t in
    let more : ℕ = if true && not s.swallow then 1 else 0 in
    let one : more ≡ 1 = ap (λ (b : Bool). if true && not b then 1 else 0) e in
    let before : oks_of s.ready s.acked ≡ 0 = ap (λ (b : Bool). oks_of b s.acked) f in
    subst C (sym (ok_by false false number moment s kind e f))
    (record { swallows = e; counts = omega (arith, one, before, sound.none_acked f); asks = λ a. a })
ok_counted number moment s false true kind e f sound so =
    let C : SenderData → Type 0 = λ t. IsCounted (ok_heard number) s t in
    let more : ℕ = if true && not s.swallow then 1 else 0 in
    let one : more ≡ 1 = ap (λ (b : Bool). if true && not b then 1 else 0) e in
    let before : oks_of s.ready s.acked ≡ s.acked + 1 = ap (λ (b : Bool). oks_of b s.acked) f in
    let later : oks_of s.ready (s.acked + 1) ≡ s.acked + 1 + 1 = ap (λ (b : Bool). oks_of b (s.acked + 1)) f in
    subst C (sym (ok_by false true number moment s kind e f ∙ so e f)) (record { swallows = e; counts = omega (arith, one, before, later); asks = λ (a : false ≡ true). absurd (cc) })

resend_counted : (number moment : ℕ) (s : SenderData) (ready : Bool) → s.numbered ≡ false → s.ready ≡ ready →
    IsCounted (resend_heard number) s (heard_as false (resend_heard number) moment s)
resend_counted number moment s ready kind f = record { swallows = grind (arith, common_steps); counts = grind (arith, common_steps); asks = λ a. refl }

start_counted : (moment : ℕ) (s : SenderData) (ready : Bool) → s.ready ≡ ready → IsCounted start_heard s (heard_as false start_heard moment s)
start_counted moment s true f =
    let C : SenderData → Type 0 = λ t. IsCounted start_heard s t in
    subst C (sym (ap (λ (b : Bool). heard_start b s) f)) (record { swallows = refl; counts = omega arith; asks = λ a. a })
start_counted moment s false f =
    let C : SenderData → Type 0 = λ t. IsCounted start_heard s t in
    subst C (sym (ap (λ (b : Bool). heard_start b s) f)) (record { swallows = refl; counts = omega arith; asks = λ a. a })

counted : (busy : Bool) (h : Heard) (moment : ℕ) (s : SenderData) → s.numbered ≡ false → IsSound s →
    ((number : Option ℕ) → h ≡ ok_heard number → s.swallow ≡ false → s.ready ≡ true → named_ok number moment s ≡ acknowledged moment s) →
    IsCounted h s (heard_as busy h moment s)
counted busy (ok_heard number) moment s kind sound so = ok_counted number moment s s.swallow s.ready kind refl refl sound (so number refl)
counted busy (resend_heard number) moment s kind sound so = resend_counted number moment s s.ready kind refl
counted busy start_heard moment s kind sound so = start_counted moment s s.ready refl
counted busy talk_heard moment s kind sound so = record { swallows = refl; counts = omega arith; asks = λ a. (and_parts (not busy) s.asked_anew a).1 }

-- an `ok` of a ready sender that isn't swallowed acknowledges the next line
awaited : (x : Answer) (way : List Answer) (moment : ℕ) (s : SenderData) (d : Bool) (run : ℕ) → run ≤ s.issued → IsRead s d (x ∷ way) run →
    (number : Option ℕ) → reply_to x ≡ ok_heard number → s.swallow ≡ false → named_ok number moment s ≡ acknowledged moment s
awaited (greeting_ok shown) way moment s d run few read number is unswallowed = absurd (read.answers)
awaited (command_ok place named) way moment s d run few read number is unswallowed =
    let same : named_by named (wire_number place) ≡ number = cc in
    let more : suc s.acked ≤ run = answers_le false d s.issued (suc s.acked) way run read.answers.1 in
    ap (λ (n : Option ℕ). named_ok n moment s) (sym same) ∙ named_right named place moment s read.answers.0 (omega (arith, more, few))
awaited (refusal asked) way moment s d run few read number is unswallowed = absurd (cc)
awaited (asking asked) way moment s d run few read number is unswallowed = absurd (cc)
awaited closing way moment s d run few read number is unswallowed = let swallows : s.swallow ≡ true = read.swallows in absurd (cc)
awaited chat way moment s d run few read number is unswallowed = absurd (cc)
awaited restart way moment s d run few read number is unswallowed = absurd (cc)

awaited_at : (issued : List (List ℕ)) (moment : ℕ) (s : SenderData) (linked : Bool) (last : ℕ) (a : Wires) (x : Answer) (way : List Answer) → linked ≡ true →
    s.ended ≡ None → Numbers issued s last a → Replies s linked a.dropped a.log (x ∷ way) → Phase issued s linked a (x ∷ way) → (number : Option ℕ) →
    reply_to x ≡ ok_heard number → s.swallow ≡ false → s.ready ≡ true → named_ok number moment s ≡ acknowledged moment s
awaited_at issued moment s linked last a x way on running n r (shut closed none idle) number is unswallowed ready = absurd (cc)
awaited_at issued moment s linked last a x way on running n r (early opened unready e) number is unswallowed ready = absurd (cc)
awaited_at issued moment s linked last a x way on running n r (late opened is_ready ran ups waits) number is unswallowed ready =
    awaited x way moment s a.dropped (lines_run a.log) (omega (arith, run_few issued a.ran a.dropped last a.queue a.log n.printed, n.holds.count))
    (r.reads running opened ready) number is unswallowed

pub hear_counted : (issued : List (List ℕ)) (moment : ℕ) (s : SenderData) (linked : Bool) (oks : Oks) (last : ℕ) (a : Wires) (line : List ℕ) (rest : List (List ℕ)) →
    linked ≡ true → s.ended ≡ None → Numbers issued s last a → Counted issued s linked oks a (line ∷ rest) → IsCounted (heard_in line) s (hear_step (kind_of line) moment s)
hear_counted issued moment s linked oks last a line rest on running n c =
    let first : IsFirst line rest c.way = first_of_way line rest c.way c.shown in
    let x = first.answer in
    let P : List Answer → Type 0 = λ l. Phase issued s linked a l in
    let R : List Answer → Type 0 = λ l. Replies s linked a.dropped a.log l in
    let so = counted (is_busy (kind_of line)) (reply_to x) moment s c.counts n.sound
    (awaited_at issued moment s linked last a x first.rest on running n (subst R first.is c.replies) (subst P first.is c.phase)) in
    let C : SenderData → Type 0 = λ t. IsCounted (reply_to x) s t in
    let H : Heard → Type 0 = λ h. IsCounted h s (hear_step (kind_of line) moment s) in
    subst H (sym first.heard) (subst C (sym (hear_as line (reply_to x) moment s running first.heard)) so)
