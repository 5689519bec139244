-- What was written at a connection, from what its calls wrote.
use Rattle.std.proofs.Common.{◌≡◌, ◌⊎◌, inl, inr, ℕ, ◌≤◌, ◌<◌, ◌+◌, Bool, true, false, List, [], ◌∷◌, ◌++◌, length, take, Option, Some, None, refl, sym, ap, subst, ◌∙◌, append-nil, arith}
use Rattle.std.specs.Prelude.{IfSome, Result, Ok, Err}
use Rattle.std.proofs.Math.Seq.{take-append-add}
use Rattle.octo_outside.specs.Recorded.{Adds, AddsPrefix, Rose}
use Rattle.octo_asks.specs.History.{History}
use Rattle.octo_outside.specs.Conns.{ConnState}
use Rattle.octo_outside_doors.specs.Doors.{fresh_conn}
use Rattle.octo_http.specs.declared.fault.MessageFault.{MessageFault}
use Rattle.octo_http.specs.declared.fault.MessageFault.TheVariants.{ReadFault}
use Rattle.octo_http.specs.declared.message.Message.{Message}
use Rattle.octo_http.specs.declared.message.Begun.{Begun}
use Rattle.octo_http.specs.Head.{HeadFault}
use Rattle.octo_http.specs.Stops.{IsFaultOf}
use Rattle.octo_http.specs.Message.{IsOfHead, BeginsWith, Begins, Writes, Answers, IsPatient, IsSlow, HasWaited}
use Rattle.octo_api_worker.specs.declared.reply.WorkerReply.{WorkerReply}
use Rattle.octo_api_worker.specs.declared.terms.Terms.{Terms}
use Rattle.octo_api_worker.specs.Served.{Sends, IsReplied, Admits, IsTurnedAway, IsServed, no_head, turned_away, no_message, message, HasBegun, AreFaultBytes, is_head, worker_bytes}
use Rattle.std.proofs.lemmas.Option.{none-some, same_Some}

-- the bytes that a reader wrote at a connection at which nothing was written before
sent_of : (written : Option (List ℕ)) (Says : List ℕ → Type 0) → Writes (Some []) written Says → (sent : List ℕ) × Says sent × IfSome written (λ w. w ≡ sent)
sent_of None Says writes = (writes.0.0, writes.0.1, tt)
sent_of (Some now) Says writes =
    let became = writes.1 now refl in
    (became.1, became.4, became.3 ∙ ap (λ (front : List ℕ). front ++ became.1) (sym (same_Some _ _ became.2)))

-- these bytes, or their beginning if faults were counted
abbrev Tells : Option (List ℕ) → ℕ → List ℕ → Type 0
Tells written faults bytes = IfSome written (λ w. (w ≡ bytes) ⊎ ((0 < faults) × (n : ℕ) × (w ≡ take n bytes)))

-- a count that rose isn't 0
above_none : (faults faults' : ℕ) → faults ≤ faults' → Rose faults faults' → 0 < faults'
above_none faults faults' below rose = grind (arith, rose)

-- bytes that are written after others
wrote_then : (before after : Option (List ℕ)) (faults faults' : ℕ) (sent bytes : List ℕ)
    → IfSome before (λ w. w ≡ sent) → faults ≤ faults' → Sends before after faults faults' bytes → Tells after faults' (sent ++ bytes)
wrote_then before None faults faults' sent bytes held below sends = tt
wrote_then None (Some now) faults faults' sent bytes held below (inl adds) = absurd (none-some (adds now refl).0 (adds now refl).2)
wrote_then None (Some now) faults faults' sent bytes held below (inr cut) = absurd (none-some (cut.1 now refl).0 (cut.1 now refl).2)
wrote_then (Some w) (Some now) faults faults' sent bytes held below (inl adds) =
    let got = adds now refl in
    inl (got.3 ∙ ap (λ (front : List ℕ). front ++ got.1) (sym (same_Some _ _ got.2) ∙ held) ∙ ap (λ (more : List ℕ). sent ++ more) got.4)
wrote_then (Some w) (Some now) faults faults' sent bytes held below (inr cut) =
    let got = cut.1 now refl in
    inr (
      above_none faults faults' below cut.0,
      length sent + got.4.0,
      (got.3
          ∙ ap (λ (front : List ℕ). front ++ got.1) (sym (same_Some _ _ got.2) ∙ held)
          ∙ ap (λ (more : List ℕ). sent ++ more) got.4.1
          ∙ sym (take-append-add sent bytes got.4.0)),
    )

-- what a reader wrote at a connection at which nothing was written before
sent_at : (before written : Option (List ℕ)) (Says : List ℕ → Type 0) → before ≡ Some [] → Writes before written Says
    → (sent : List ℕ) × Says sent × IfSome written (λ w. w ≡ sent)
sent_at before written Says none writes =
    let From : Option (List ℕ) → Type 0 = λ was. Writes was written Says in
    sent_of written Says (subst From none writes)

-- bytes that are written at a connection at which nothing was written before
wrote_first : (before after : Option (List ℕ)) (faults faults' : ℕ) (bytes : List ℕ) → before ≡ Some [] → faults ≤ faults'
    → Sends before after faults faults' bytes → Tells after faults' bytes
wrote_first before after faults faults' bytes none below sends =
    let From : Option (List ℕ) → Type 0 = λ was. Sends was after faults faults' bytes in
    wrote_then (Some []) after faults faults' [] bytes refl below (subst From none sends)

-- an input begins with the head that was read
begins_with : (input : List ℕ) (left : Option (List ℕ)) (begun : Begun) → Begins input left begun → BeginsWith input begun.head
begins_with input left begun b = (b.bytes, b.rest, b.is, b.split)

-- the head of an untouched connection's input was read
pub has_begun : (terms : Terms) (input : List ℕ) (old mid : ConnState) (begun : Begun) → old ≡ fresh_conn input
    → ((text : List ℕ) → old.left ≡ Some text → Begins text mid.left begun) → mid.written ≡ old.written → HasWaited old.quiets begun mid.quiets
    → begun.intake.patience ≡ terms.patience → HasBegun terms input mid begun
has_begun terms input old mid begun new begins same waited patience =
    let Waited : ℕ → Type 0 = λ q. HasWaited q begun mid.quiets in
    record {
      begins = begins input (ap (λ (s : ConnState). s.left) new);
      written = same ∙ ap (λ (s : ConnState). s.written) new;
      waited = subst Waited (ap (λ (s : ConnState). s.quiets) new) waited;
      patience = patience;
    }

-- a connection that held no head was served
pub unbegun : (terms : Terms) (input : List ℕ) (old mid after : ConnState) (fault : MessageFault) (bytes : List ℕ) → old ≡ fresh_conn input
    → ((text : List ℕ) → old.left ≡ Some text → IsFaultOf HeadFault text mid.left fault) → mid.written ≡ old.written
    → IsPatient terms.patience old.quiets mid.quiets (Err fault) → (fault ≡ ReadFault → Rose old.faults mid.faults) → old.faults ≤ mid.faults
    → AreFaultBytes fault bytes → Sends mid.written after.written mid.faults after.faults bytes → after.left ≡ mid.left → after.quiets ≡ mid.quiets
    → mid.faults ≤ after.faults → IsServed terms input after true []
unbegun terms input old mid after fault bytes new stopped same patient rose kept replied sends left_is quiets_is below =
    let Left : Option (List ℕ) → Type 0 = λ l. IsFaultOf HeadFault input l fault in
    let From : ℕ → Type 0 = λ q. IsSlow terms.patience q after.quiets fault in
    let Slow : ℕ → Type 0 = λ q. IsSlow terms.patience old.quiets q fault in
    no_head fault bytes (subst Left (sym left_is) (stopped input (ap (λ (s : ConnState). s.left) new)))
    (record {
      failed = λ is. omega (arith, above_none old.faults mid.faults kept (rose is), below);
      slow = subst From (ap (λ (s : ConnState). s.quiets) new) (subst Slow (sym quiets_is) patient.slow);
    })
    replied (wrote_first mid.written after.written mid.faults after.faults bytes (same ∙ ap (λ (s : ConnState). s.written) new) below sends)

-- a connection whose body isn't read was served
pub turned : (terms : Terms) (input : List ℕ) (old after : ConnState) (begun : Begun) (reply : WorkerReply) (is_open : Bool) (calls : History)
    (head_alone : Bool) → HasBegun terms input old begun → IsTurnedAway terms.origins begun.head reply is_open calls
    → head_alone ≡ is_head begun.head.method → Sends old.written after.written old.faults after.faults (worker_bytes head_alone reply)
    → old.faults ≤ after.faults → IsServed terms input after is_open calls
turned terms input old after begun reply is_open calls head_alone b away is sends below =
    let Sent : Bool → Type 0 = λ alone. Sends old.written after.written old.faults after.faults (worker_bytes alone reply) in
    turned_away begun.head reply is_open calls (begins_with input old.left begun b.begins) away
    (wrote_first old.written after.written old.faults after.faults (worker_bytes (is_head begun.head.method) reply) b.written below (subst Sent is sends))

-- a connection that held no whole message was served
pub unread : (terms : Terms) (input : List ℕ) (old mid after : ConnState) (begun : Begun) (first : History) (fault : MessageFault) (bytes : List ℕ)
    → HasBegun terms input old begun → Admits begun.head first → Writes old.written mid.written (Answers input mid.left (Err fault))
    → IsPatient begun.intake.patience 0 mid.quiets (Err fault) → (fault ≡ ReadFault → Rose old.faults mid.faults) → old.faults ≤ mid.faults
    → AreFaultBytes fault bytes → Sends mid.written after.written mid.faults after.faults bytes → after.left ≡ mid.left → after.quiets ≡ mid.quiets
    → mid.faults ≤ after.faults → IsServed terms input after true (first ++ [])
unread terms input old mid after begun first fault bytes b admits writes patient rose kept replied sends left_is quiets_is below =
    let sent = sent_at old.written mid.written (Answers input mid.left (Err fault)) b.written writes in
    let Says : Option (List ℕ) → Type 0 = λ l. Answers input l (Err fault) sent.0 in
    let Slow : ℕ → Type 0 = λ q. IsSlow begun.intake.patience 0 q fault in
    let For : ℕ → Type 0 = λ p. IsSlow p 0 after.quiets fault in
    let Made : History → Type 0 = λ made. IsServed terms input after true made in
    subst Made (sym (append-nil first))
    (no_message begun.head first fault sent.0 bytes (begins_with input old.left begun b.begins) admits (subst Says (sym left_is) sent.1)
    (record {
      failed = λ is. omega (arith, above_none old.faults mid.faults kept (rose is), below);
      slow = subst For b.patience (subst Slow (sym quiets_is) patient.slow);
    })
    replied (wrote_then mid.written after.written mid.faults after.faults sent.0 bytes sent.2 below sends))

-- a connection that held a message was served
pub served_message : (terms : Terms) (input : List ℕ) (old mid after : ConnState) (begun : Begun) (first : History) (m : Message) (reply : WorkerReply)
    (is_open : Bool) (calls : History) (head_alone : Bool) → HasBegun terms input old begun → Admits begun.head first → IsOfHead begun.head m
    → head_alone ≡ is_head m.method → Writes old.written mid.written (Answers input mid.left (Ok m)) → IsReplied terms.origins m reply is_open calls
    → Sends mid.written after.written mid.faults after.faults (worker_bytes head_alone reply) → mid.faults ≤ after.faults
    → IsServed terms input after is_open (first ++ calls)
served_message terms input old mid after begun first m reply is_open calls head_alone b admits of_head is writes replied sends below =
    let Sent : Bool → Type 0 = λ alone. Sends mid.written after.written mid.faults after.faults (worker_bytes alone reply) in
    let sent = sent_at old.written mid.written (Answers input mid.left (Ok m)) b.written writes in
    message begun.head first m sent.0 reply is_open calls (begins_with input old.left begun b.begins) admits of_head sent.1 replied
    (wrote_then mid.written after.written mid.faults after.faults sent.0 (worker_bytes (is_head m.method) reply) sent.2 below (subst Sent is sends))
