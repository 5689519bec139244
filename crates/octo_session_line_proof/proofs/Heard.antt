-- A reply on the way is received, and the sender hears it and counts it, by what an `ok` counts.
use Rattle.std.proofs.Common.{◌≡◌, ℕ, Bool, true, false, not, ◌&&◌, ◌||◌, List, [], ◌∷◌, ◌++◌, map, drop, refl, sym, ◌∙◌, ap, subst, append-nil, arith}
use Rattle.std.specs.Prelude.{Option, None, if◌then◌else◌}
use Rattle.std.specs.List.{list_any}
use Rattle.std.proofs.lemmas.Bool.{or_left, or_right}
use Rattle.std.proofs.lemmas.List.Folds.{list_any-append}
use Rattle.marlin_reply.specs.Kind.{kind_of}
use Rattle.marlin_reply.specs.declared.reply.Reply.{Reply}
use Rattle.marlin_reply.specs.declared.reply.Reply.TheVariants as reply
use Rattle.printer_model.specs.World.{WorldData, happen}
use Rattle.printer_model.specs.declared.event.WorldEvent.TheVariants.{Recv}
use Rattle.printer_model.specs.declared.oks.Oks.{Oks}
use Rattle.send_window.specs.Counting.{is_ok, is_resend, is_pending, Traffic, received, received_of, name_in, Account, with_name, account_of}
use Rattle.send_window.specs.Data.{SenderData, NoneEarly}
use Rattle.send_window.specs.Hearing.{hear_step}
use Rattle.send_window.specs.Session.{HoldsIssued, hears}
use Rattle.send_window.proofs.Issued.{step_holds}
use Rattle.send_window.proofs.Named.{step_none_early}
use Rattle.send_window.proofs.OwnOks.{counts_next}
use Rattle.send_window.proofs.Sending.{keeps_kind}
use Rattle.send_window.proofs.Soundness.{hears_sound}
use Rattle.octo_session_line_proof.specs.Pieces.{Heard, heard_of, heard_in}
use Rattle.octo_session_line_proof.specs.Traces.{CountsOks, NamesOks, HasCounted, HasGreeted, IsTallied}
use Rattle.octo_session_line_proof.specs.Wires.{Start, Wires, Numbers, NamedPhase, named_shut, named_early, named_late, Named, Reads, counting, naming, Meets}
use Rattle.octo_session_line_proof.proofs.Counting.{is_ok_as, is_resend_as, ok_as, resend_as, IsCounted, hear_counted}
use Rattle.octo_session_line_proof.proofs.Hearing.{heard_as, hear_as, is_busy, run_few, heard_counted}
use Rattle.octo_session_line_proof.proofs.NamedHearing.{name_as, account_in, IsNamedBy, IsHeardNamed, heard_early, heard_late}
use Rattle.octo_session_line_proof.proofs.Traffic.{received_of-append, account_received}

-- the first reply is heard if `ok`s count by their numbers
heard_named : (issued : List (List ℕ)) (moment : ℕ) (s : SenderData) (linked : Bool) (oks : Oks) (last : ℕ) (a : Wires) (line : List ℕ) (rest : List (List ℕ)) →
    linked ≡ true → s.ended ≡ None → NoneEarly s → Numbers issued s last a → Named issued s linked oks a (line ∷ rest) →
    IsHeardNamed issued (heard_in line) s (hear_step (kind_of line) moment s) linked a (map heard_in rest)
heard_named issued moment s linked oks last a line rest on running fresh n c =
    let H : SenderData → Type 0 = λ t. IsHeardNamed issued (heard_in line) s t linked a (map heard_in rest) in
    subst H (sym (hear_as line (heard_in line) moment s running refl)) (by c.phase)
  where
    by : NamedPhase issued s linked a (heard_in line ∷ map heard_in rest) →
        IsHeardNamed issued (heard_in line) s (heard_as (is_busy (kind_of line)) (heard_in line) moment s) linked a (map heard_in rest)
    by (named_shut closed none idle) = absurd (cc)
    by (named_early opened unready e) =
        heard_early issued moment s linked last a (is_busy (kind_of line)) (heard_in line) (map heard_in rest) c.by_number n.sound fresh n.holds n.printed opened running unready e c.replies
    by (named_late opened ready ran ups waits) =
        heard_late issued moment s linked last a (is_busy (kind_of line)) (heard_in line) (map heard_in rest) c.by_number
        (omega (arith, run_few issued a.ran a.dropped last a.queue a.log n.printed, n.holds.count)) opened ready ran ups waits (c.replies.reads running opened ready) c.replies

heard_reads : (issued : List (List ℕ)) (moment : ℕ) (s : SenderData) (linked : Bool) (oks : Oks) (last : ℕ) (a : Wires) (line : List ℕ) (rest : List (List ℕ)) →
    linked ≡ true → s.ended ≡ None → NoneEarly s → Numbers issued s last a → Reads issued s linked oks a (line ∷ rest) →
    Reads issued (hear_step (kind_of line) moment s) linked oks a rest
heard_reads issued moment s linked oks last a line rest on running fresh n (counting c) = counting (heard_counted issued moment s linked oks last a line rest on running fresh n c)
heard_reads issued moment s linked oks last a line rest on running fresh n (naming c) =
    let heard = heard_named issued moment s linked oks last a line rest on running fresh n c in
    naming (record {
      by_number = keeps_kind (hears (kind_of line) moment) s ∙ c.by_number;
      numbers = c.numbers;
      phase = heard.after_it.phase;
      replies = heard.after_it.replies;
    })

-- a reply is received and heard
pub hear_meets : (start : Start) (issued : List (List ℕ)) (moment : ℕ) (s : SenderData) (w : WorldData) (line : List ℕ) (rest : List (List ℕ)) →
    w.linked ≡ true → s.ended ≡ None → w.down ≡ line ∷ rest → Meets start issued s w → Meets start issued (hear_step (kind_of line) moment s) (happen w Recv)
hear_meets start issued moment s w line rest on running front m =
    let t : SenderData = hear_step (kind_of line) moment s in
    let sh = m.shows in
    let R : List (List ℕ) → Type 0 = λ l. Reads issued s w.linked w.printer.oks m.wires l in
    let T : List (List ℕ) → Type 0 = λ l. Reads issued t w.linked w.printer.oks m.wires (drop 1 l) in
    let Holds : List (List ℕ) → Type 0 = λ texts. HoldsIssued texts t in
    record {
      wires = m.wires;
      begun = record {
        kind = keeps_kind (hears (kind_of line) moment) s ∙ m.begun.kind;
        known = m.begun.known;
        none_early = step_none_early (hears (kind_of line) moment) s tt m.begun.none_early;
      };
      shows = record { few = sh.few; queue = sh.queue; log = sh.log; up = sh.up };
      numbers = record {
        sound = hears_sound (kind_of line) moment s m.numbers.sound;
        holds = subst Holds (append-nil issued) (step_holds (hears (kind_of line) moment) s issued m.numbers.holds);
        fit = m.numbers.fit;
        printed = m.numbers.printed;
      };
      reads = subst T (sym front) (heard_reads issued moment s w.linked w.printer.oks w.printer.last m.wires line rest on running m.begun.none_early m.numbers (subst R front m.reads));
    }

-- how a sender counts a reply, by what an `ok` counts
pub data Tells (h : Heard) (s t : SenderData) : Type 0 where
  by_count : s.numbered ≡ false → IsCounted h s t → Tells h s t
  by_name : s.numbered ≡ true → IsNamedBy h s t → Tells h s t

tells_reads : (issued : List (List ℕ)) (moment : ℕ) (s : SenderData) (linked : Bool) (oks : Oks) (last : ℕ) (a : Wires) (line : List ℕ) (rest : List (List ℕ)) →
    linked ≡ true → s.ended ≡ None → NoneEarly s → Numbers issued s last a → Reads issued s linked oks a (line ∷ rest) → Tells (heard_in line) s (hear_step (kind_of line) moment s)
tells_reads issued moment s linked oks last a line rest on running fresh n (counting c) = by_count c.counts (hear_counted issued moment s linked oks last a line rest on running n c)
tells_reads issued moment s linked oks last a line rest on running fresh n (naming c) =
    by_name c.by_number (heard_named issued moment s linked oks last a line rest on running fresh n c).names

pub hear_tells : (start : Start) (issued : List (List ℕ)) (moment : ℕ) (s : SenderData) (w : WorldData) (line : List ℕ) (rest : List (List ℕ)) →
    w.linked ≡ true → s.ended ≡ None → w.down ≡ line ∷ rest → Meets start issued s w → Tells (heard_in line) s (hear_step (kind_of line) moment s)
hear_tells start issued moment s w line rest on running front m =
    let R : List (List ℕ) → Type 0 = λ l. Reads issued s w.linked w.printer.oks m.wires l in
    tells_reads issued moment s w.linked w.printer.oks w.printer.last m.wires line rest on running m.begun.none_early m.numbers (subst R front m.reads)

-- a Resend is among the replies if the last one is, or if one was before it
any_asked : (again before : Bool) (replies : List Reply) (r : Reply) → is_resend r ≡ again → (again || before) ≡ true →
    (before ≡ true → list_any is_resend replies ≡ true) → list_any is_resend (replies ++ r ∷ []) ≡ true
any_asked true before replies r is so old =
    list_any-append is_resend replies (r ∷ []) ∙ or_right (list_any is_resend replies) (list_any is_resend (r ∷ [])) (or_left (is_resend r) false is)
any_asked false before replies r is so old =
    list_any-append is_resend replies (r ∷ []) ∙ or_left (list_any is_resend replies) (list_any is_resend (r ∷ [])) (old so)

-- one more reply is counted over the replies
count_heard : (replies : List Reply) (r : Reply) (s t : SenderData) → CountsOks replies s → IsCounted (heard_of r) s t → CountsOks (replies ++ r ∷ []) t
count_heard replies r s t old c =
    let h = heard_of r in
    let pending = is_pending replies in
    let next = counts_next replies r in
    let here : ℕ = if is_ok_as h && not s.swallow then 1 else 0 in
    let there : ℕ = if is_ok r && not pending then 1 else 0 in
    let same : here ≡ there =
    ap (λ (b : Bool). if is_ok_as h && not b then 1 else 0) old.pending ∙ ap (λ (b : Bool). if b && not pending then 1 else 0) (sym (ok_as r))
    in
    record {
      pending = c.swallows
          ∙ ap (λ (b : Bool). is_resend_as h || (not (is_ok_as h) && b)) old.pending
          ∙ ap (λ (b : Bool). b || (not (is_ok_as h) && pending)) (sym (resend_as r))
          ∙ ap (λ (b : Bool). is_resend r || (not b && pending)) (sym (ok_as r))
          ∙ sym next.1;
      counted = omega (arith, c.counts, same, old.counted, next.0);
    }

-- the same of the numbers that replies name
names_as : (r : Reply) → name_in r ≡ name_as (heard_of r)
names_as (reply.Ok number planner block temps) = refl
names_as (reply.Resend number) = refl
names_as reply.Start = refl
names_as reply.Busy = refl
names_as (reply.Temps temps) = refl
names_as reply.Error = refl
names_as reply.Other = refl

-- a sender that has counted lines and replies stands for their account
account_is : (traffic : List Traffic) (s : SenderData) → NamesOks traffic s → s.hellos ≡ (account_of traffic).hellos → account_in s ≡ account_of traffic
account_is traffic s old hellos =
    let a : Account = account_of traffic in
    ap (λ (n : ℕ). record { hellos = n; begun = s.ready; acked = s.acked }) hellos
    ∙ ap (λ (b : Bool). record { hellos = a.hellos; begun = b; acked = s.acked }) old.greeted
    ∙ ap (λ (n : ℕ). record { hellos = a.hellos; begun = a.begun; acked = n }) old.named

name_heard : (traffic : List Traffic) (r : Reply) (s t : SenderData) → NamesOks traffic s → s.hellos ≡ (account_of traffic).hellos → IsNamedBy (heard_of r) s t →
    NamesOks (traffic ++ received r ∷ []) t
name_heard traffic r s t old hellos c =
    let all : account_in t ≡ account_of (traffic ++ received r ∷ []) =
    c.account
    ∙ ap (λ (name : Option ℕ). with_name name (account_in s)) (sym (names_as r))
    ∙ ap (with_name (name_in r)) (account_is traffic s old hellos)
    ∙ sym (account_received traffic r)
    in
    record { greeted = ap (λ (a : Account). a.begun) all; named = ap (λ (a : Account). a.acked) all }

-- one more reply is told, by what an `ok` counts
told_by : (traffic : List Traffic) (r : Reply) (s t : SenderData) (numbered : Bool) → s.numbered ≡ numbered → HasGreeted numbered traffic s → HasCounted numbered traffic s →
    Tells (heard_of r) s t → HasCounted numbered (traffic ++ received r ∷ []) t
told_by traffic r s t false kind greets old (by_count counts c) =
    let C : List Reply → Type 0 = λ l. CountsOks l t in
    subst C (sym (received_of-append traffic (received r ∷ []))) (count_heard (received_of traffic) r s t old c)
told_by traffic r s t true kind greets old (by_name names c) = name_heard traffic r s t old greets c
told_by traffic r s t false kind greets old (by_name names c) = absurd (cc)
told_by traffic r s t true kind greets old (by_count counts c) = absurd (cc)

asks_told : (h : Heard) (s t : SenderData) → Tells h s t → t.asked_anew ≡ true → (is_resend_as h || s.asked_anew) ≡ true
asks_told h s t (by_count counts c) a = c.asks a
asks_told h s t (by_name names c) a = c.asks a

pub tally_heard : (traffic : List Traffic) (r : Reply) (s t : SenderData) → t.numbered ≡ s.numbered → HasGreeted s.numbered traffic s → IsTallied traffic s →
    Tells (heard_of r) s t → IsTallied (traffic ++ received r ∷ []) t
tally_heard traffic r s t kind greets old tells =
    let K : Bool → Type 0 = λ b. HasCounted b (traffic ++ received r ∷ []) t in
    record {
      counts = subst K (sym kind) (told_by traffic r s t s.numbered refl greets old.counts tells);
      asked = λ a. ap (list_any is_resend) (received_of-append traffic (received r ∷ []))
          ∙ any_asked (is_resend_as (heard_of r)) s.asked_anew (received_of traffic) r (resend_as r) (asks_told (heard_of r) s t tells a) old.asked;
    }
