-- How a head, `100 Continue` and a body make an answer.
use Rattle.std.proofs.Common.{◌≡◌, ℕ, zero, suc, ◌≤◌, Bool, true, false, ◌&&◌, List, [], ◌++◌, length, take, Option, Some, Result, Ok, Err, refl, sym, ap, ◌∙◌, subst, append_assoc, arith, inl, inr}
use Rattle.std.specs.Prelude.{if◌then◌else◌, IfErr, ◌<◌, ◌+◌}
use Rattle.std.specs.Result.{IsErrAnd}
use Rattle.octo_outside.specs.Recorded.{Adds, AddsPrefix, Rose, last_count}
use Rattle.octo_outside.proofs.Recorded.{became_so, adds_none}
use Rattle.octo_http.specs.Input.{IntakeData, Holds, Took, Waits}
use Rattle.octo_http.specs.Stops.{Unfinished, IsFaultOf, Stops, IsShort, HasCause}
use Rattle.octo_http.specs.Head.{IsHead, HeadFault}
use Rattle.octo_http.specs.Chunks as chunks
use Rattle.octo_http.specs.Message.{has_body, continue_line, continue_due, message_of, ReadsBody, no_body, whole, short, in_chunks, IsBodyFault, message, no_head, bad_body, Begins, IsUnfinished, Answers, Writes, IsSlow, IsPatient, HasWaited}
use Rattle.octo_http.specs.declared.fault.MessageFault.{MessageFault}
use Rattle.octo_http.specs.declared.fault.MessageFault.TheVariants.{BadHead, HeadTooLarge, BodyTooLarge, BadChunk, Ended, ReadFault, NoMemory, Slow}
use Rattle.octo_http.specs.declared.framing.Framing.{Framing}
use Rattle.octo_http.specs.declared.framing.Framing.TheVariants.{NoBody, Length, Chunked}
use Rattle.octo_http.specs.declared.head.Head.{Head}
use Rattle.octo_http.specs.declared.message.Message.{Message}
use Rattle.octo_http.specs.declared.message.Begun.{Begun}
use Rattle.octo_http.proofs.Reading.{took_none}
use Rattle.octo_http.proofs.Filling.{on_exit}
use Rattle.octo_http.proofs.ChunkLemmas.{stops_after}

-- the error that a result is
pub is_err : {A : Type 0} (r : Result A MessageFault) (e : MessageFault) → IsErrAnd r (λ f. f ≡ e) → r ≡ Err e
is_err (Ok x) e is = absurd is
is_err (Err f) e is = ap Err is

-- too few bytes for a length
pub stops_length : (n : ℕ) (b0 : List ℕ) (l0 l : Option (List ℕ)) (f : MessageFault) → n ≤ 68157440 → Stops (IsShort n) b0 l0 l f
    → Stops (IsBodyFault (Length n)) b0 l0 l f
stops_length n b0 l0 l f few stops =
    stops_after (IsShort n) (IsBodyFault (Length n)) b0 l0 b0 l0 l [] f (took_none b0 l0) stops (λ input g p.
    let Says : MessageFault → Type 0 = λ h. ReadsBody (Length n) input (Err h) in
    subst Says (sym p.0) (short n input few p.1))

-- a body of a length
pub says_length : (n : ℕ) (body old taken more : List ℕ) → n ≤ 68157440 → old ≡ [] → length taken ≡ n → body ≡ old ++ taken
    → ReadsBody (Length n) (taken ++ more) (Ok body)
says_length n body old taken more few none long is =
    let Says : List ℕ → Type 0 = λ text. ReadsBody (Length n) (taken ++ more) (Ok text) in
    let same : body ≡ taken = is ∙ ap (λ text. text ++ taken) none in
    subst Says (sym same) (whole n taken more few long)

-- no body
pub says_none : (framing : Framing) (body : List ℕ) → framing ≡ NoBody → body ≡ [] → (more : List ℕ) → ReadsBody framing more (Ok body)
says_none framing body is none more =
    let Says : List ℕ → Type 0 = λ text. ReadsBody NoBody more (Ok text) in
    let At : Framing → Type 0 = λ f. ReadsBody f more (Ok body) in
    subst At (sym is) (subst Says (sym none) (no_body more))

-- a body in chunks
pub says_chunked : (framing : Framing) (body taken : List ℕ) → framing ≡ Chunked → ((more : List ℕ) → chunks.Chunked [] (taken ++ more) (Ok body))
    → (more : List ℕ) → ReadsBody framing (taken ++ more) (Ok body)
says_chunked framing body taken is says more =
    let At : Framing → Type 0 = λ f. ReadsBody f (taken ++ more) (Ok body) in
    subst At (sym is) (in_chunks (taken ++ more) (Ok body) (says more))

-- a fault in chunks
pub stops_chunked : (framing : Framing) (b0 : List ℕ) (l0 l : Option (List ℕ)) (f : MessageFault) → framing ≡ Chunked
    → Stops (chunks.IsChunkFault []) b0 l0 l f → Stops (IsBodyFault framing) b0 l0 l f
stops_chunked framing b0 l0 l f is stops =
    let At : Framing → Type 0 = λ g. Stops (IsBodyFault g) b0 l0 l f in
    subst At (sym is)
    (stops_after (chunks.IsChunkFault []) (IsBodyFault Chunked) b0 l0 b0 l0 l [] f (took_none b0 l0) stops (λ input g p. in_chunks input (Err g) p))

-- what is written before the body is a prefix of `100 Continue`
pub asked_prefix : (head : Head) → (n : ℕ) × (continue_due head ≡ take n continue_line)
asked_prefix head = by (head.expects && has_body head.framing)
  where
    by : (b : Bool) → (n : ℕ) × ((if b then continue_line else []) ≡ take n continue_line)
    by true = (25, refl)
    by false = (0, refl)

-- and so is a prefix of it
pub prefix_prefix : (head : Head) (n : ℕ) → (m : ℕ) × (take n (continue_due head) ≡ take m continue_line)
prefix_prefix head n = by (head.expects && has_body head.framing) n
  where
    none : (k : ℕ) → take {A = ℕ} k [] ≡ []
    none zero = refl
    none (suc k) = refl

    by : (b : Bool) (k : ℕ) → (m : ℕ) × (take k (if b then continue_line else []) ≡ take m continue_line)
    by true k = (k, refl)
    by false k = (0, none k)

-- all of the input is held at first
pub holds_all : (input : List ℕ) (left : Option (List ℕ)) → left ≡ Some input → Holds [] left input
holds_all input left is = record { rest = input; known = is; is = refl }

-- a fault of the head is the answer
pub head_answer : (input : List ℕ) (left : Option (List ℕ)) (f : MessageFault) → IsFaultOf HeadFault input left f → Answers input left (Err f) []
head_answer input left BadHead h = no_head input BadHead h
head_answer input left HeadTooLarge h = no_head input HeadTooLarge h
head_answer input left BodyTooLarge h = no_head input BodyTooLarge h
head_answer input left BadChunk h = no_head input BadChunk h
head_answer input left Ended h = no_head input Ended h
head_answer input left ReadFault h = inl (h.0, h.1, h.2, h.3, no_head h.0 Ended h.4)
head_answer input left NoMemory h = inl refl
head_answer input left (Slow n) h = (h.0, h.1, h.2, h.3, no_head h.0 Ended h.4)

-- a fault of the body is the answer
pub body_answer : (bytes rest input : List ℕ) (left : Option (List ℕ)) (head : Head) (f : MessageFault) → IsHead bytes head → input ≡ bytes ++ rest
    → IsFaultOf (IsBodyFault head.framing) rest left f → Answers input left (Err f) (continue_due head)
body_answer bytes rest input left head f is split fault =
    let Answer : List ℕ → Type 0 = λ text. Answers text left (Err f) (continue_due head) in
    subst Answer (sym split) (by f fault)
  where
    cut : Unfinished (IsBodyFault head.framing) rest left → IsUnfinished (bytes ++ rest) left (continue_due head)
    cut u = (bytes ++ u.0, u.1, ap (λ text. bytes ++ text) u.2 ∙ sym (append_assoc bytes u.0 u.1), u.3, bad_body bytes u.0 head Ended is u.4)

    by : (g : MessageFault) → IsFaultOf (IsBodyFault head.framing) rest left g → Answers (bytes ++ rest) left (Err g) (continue_due head)
    by BadHead h = bad_body bytes rest head BadHead is h
    by HeadTooLarge h = bad_body bytes rest head HeadTooLarge is h
    by BodyTooLarge h = bad_body bytes rest head BodyTooLarge is h
    by BadChunk h = bad_body bytes rest head BadChunk is h
    by Ended h = bad_body bytes rest head Ended is h
    by ReadFault h = inl (cut h)
    by NoMemory h = inr (bytes, rest, head, refl, is, refl)
    by (Slow n) h = cut h

-- a message is the answer
pub message_answer : (bytes taken more input : List ℕ) (left : Option (List ℕ)) (head : Head) (body : List ℕ) → IsHead bytes head
    → input ≡ bytes ++ (taken ++ more) → ReadsBody head.framing (taken ++ more) (Ok body) → Answers input left (Ok (message_of head body)) (continue_due head)
message_answer bytes taken more input left head body is split says =
    let Answer : List ℕ → Type 0 = λ text. Answers text left (Ok (message_of head body)) (continue_due head) in
    subst Answer (sym split) (message bytes (taken ++ more) head body is says)

-- what was written is known
pub writes_all : (old new : Option (List ℕ)) (sent : List ℕ) (Says : List ℕ → Type 0) → Adds old new sent → Says sent → Writes old new Says
writes_all old new sent Says adds says =
    ((sent, says), became_so old new (λ _ added. added ≡ sent) (λ _ added. Says added) adds (λ past added is. subst Says (sym is) says))

-- part of it was written
pub writes_part : (old new : Option (List ℕ)) (list : List ℕ) (Says : List ℕ → Type 0) → AddsPrefix old new list → ((n : ℕ) → Says (take n list))
    → Writes old new Says
writes_part old new list Says adds says =
    ((take 0 list, says 0), became_so old new (λ _ added. (n : ℕ) × (added ≡ take n list)) (λ _ added. Says added) adds (λ past added is. subst Says (sym is.1) (says is.0)))

-- `100 Continue`, or part of it
pub bounded_all : (old new : Option (List ℕ)) (head : Head) → Adds old new (continue_due head) → AddsPrefix old new continue_line
bounded_all old new head adds =
    became_so old new (λ _ added. added ≡ continue_due head) (λ _ added. (n : ℕ) × (added ≡ take n continue_line)) adds
    (λ past added is. let p = asked_prefix head in (p.0, is ∙ p.1))

pub bounded_part : (old new : Option (List ℕ)) (head : Head) → AddsPrefix old new (continue_due head) → AddsPrefix old new continue_line
bounded_part old new head adds =
    became_so old new (λ _ added. (n : ℕ) × (added ≡ take n (continue_due head))) (λ _ added. (n : ℕ) × (added ≡ take n continue_line)) adds
    (λ past added is. let p = prefix_prefix head is.0 in (p.0, is.1 ∙ p.1))

pub bounded_none : (old new : Option (List ℕ)) → Adds old new [] → AddsPrefix old new continue_line
bounded_none old new adds =
    became_so old new (λ _ added. added ≡ []) (λ _ added. (n : ℕ) × (added ≡ take n continue_line)) adds (λ past added is. (0, is))

-- a fault that a reader stops at, by its count of quiet reads
slow_by : (p q0 q1 g f1 : ℕ) (i : IntakeData) (f : MessageFault) → i.patience ≡ p → (q1 < last_count → q1 + i.allowed ≡ q0 + p) → HasCause i g f1 f
    → IsSlow p q0 q1 f
slow_by p q0 q1 g f1 i BadHead same counted h = tt
slow_by p q0 q1 g f1 i HeadTooLarge same counted h = tt
slow_by p q0 q1 g f1 i BodyTooLarge same counted h = tt
slow_by p q0 q1 g f1 i BadChunk same counted h = tt
slow_by p q0 q1 g f1 i Ended same counted h = tt
slow_by p q0 q1 g f1 i ReadFault same counted h = tt
slow_by p q0 q1 g f1 i NoMemory same counted h = tt
slow_by p q0 q1 g f1 i (Slow n) same counted h = (h.0 ∙ same, λ below. omega (arith, counted below, h.1))

-- a failed call was counted
pub failed_at : {A : Type 0} (i : IntakeData) (f0 f1 : ℕ) (e : MessageFault) → HasCause i f0 f1 e → ◌≡◌ {A = Result A MessageFault} (Err e) (Err ReadFault)
    → Rose f0 f1
failed_at i f0 f1 BadHead cause is = absurd (cc)
failed_at i f0 f1 HeadTooLarge cause is = absurd (cc)
failed_at i f0 f1 BodyTooLarge cause is = absurd (cc)
failed_at i f0 f1 BadChunk cause is = absurd (cc)
failed_at i f0 f1 Ended cause is = absurd (cc)
failed_at i f0 f1 ReadFault cause is = cause
failed_at i f0 f1 NoMemory cause is = absurd (cc)
failed_at i f0 f1 (Slow n) cause is = absurd (cc)

-- nothing was written
pub adds_same : (old new : Option (List ℕ)) → new ≡ old → Adds old new []
adds_same old new same = let Added : Option (List ℕ) → Type 0 = λ w. Adds old w [] in subst Added (sym same) (adds_none old)

-- a reader that has read nothing
abbrev Fresh : ℕ → IntakeData → Type 0
Fresh p i = i ≡ record { bytes = []; patience = p; allowed = p }

-- a fault of the head stops a reader
pub head_stopped : {A : Type 0} (p : ℕ) (i : IntakeData) (left left' : Option (List ℕ)) (r : Result A MessageFault) (f : MessageFault) → Fresh p i
    → Stops HeadFault i.bytes left left' f → IsErrAnd r (λ g. g ≡ f)
    → IfErr r (λ fault. (input : List ℕ) → left ≡ Some input → IsFaultOf HeadFault input left' fault)
head_stopped {A} p i left left' r f fresh stops is =
    let Stopped : IntakeData → Type 0 = λ j. Stops HeadFault j.bytes left left' f in
    let stopped : Stops HeadFault [] left left' f = subst Stopped fresh stops in
    on_exit r f (λ fault. (input : List ℕ) → left ≡ Some input → IsFaultOf HeadFault input left' fault) is
    (λ input told. stopped input (holds_all input left told))

-- with patience
pub head_patient : {A : Type 0} (p : ℕ) (i0 i : IntakeData) (f0 f1 g q0 q1 : ℕ) (r : Result A MessageFault) (e : MessageFault) → Fresh p i0
    → Waits i0 i f0 f1 q0 q1 → HasCause i g f1 e → IsErrAnd r (λ f. f ≡ e) → IfErr r (λ f. IsPatient p q0 q1 (Err f))
head_patient {A} p i0 i f0 f1 g q0 q1 r e fresh waits cause is =
    let From : IntakeData → Type 0 = λ j. Waits j i f0 f1 q0 q1 in
    let here : Waits (record { bytes = []; patience = p; allowed = p }) i f0 f1 q0 q1 = subst From fresh waits in
    on_exit r e (λ f. IsPatient p q0 q1 (Err f)) is
    (record { more = here.quiet; most = λ below. omega (arith, here.counted below); slow = slow_by p q0 q1 g f1 i e here.same here.counted cause })

-- what is known of the input after the head was taken
pub begins : (p : ℕ) (i i1 : IntakeData) (left left1 : Option (List ℕ)) (head : Head) → Fresh p i
    → ((bytes : List ℕ) × IsHead bytes head × Took i.bytes left i1.bytes left1 bytes) → (input : List ℕ) → left ≡ Some input
    → Begins input left1 (record { head = head; intake = i1 })
begins p i i1 left left1 head fresh taken input told =
    let Takes : IntakeData → Type 0 = λ j. Took j.bytes left i1.bytes left1 taken.0 in
    let takes : Took [] left i1.bytes left1 taken.0 = subst Takes fresh taken.2 in
    let one = takes input (holds_all input left told) in
    record { bytes = taken.0; rest = one.0; is = taken.1; split = one.1; holds = one.2 }

-- and how long was waited
pub has_waited : (p : ℕ) (i i1 : IntakeData) (head : Head) (f0 f1 q0 q1 : ℕ) → Fresh p i → Waits i i1 f0 f1 q0 q1
    → HasWaited q0 (record { head = head; intake = i1 }) q1
has_waited p i i1 head f0 f1 q0 q1 fresh waits =
    let From : IntakeData → Type 0 = λ j. Waits j i1 f0 f1 q0 q1 in
    let here : Waits (record { bytes = []; patience = p; allowed = p }) i1 f0 f1 q0 q1 = subst From fresh waits in
    record { more = here.quiet; most = omega (arith, here.fewer, here.same); counted = λ below. omega (arith, here.counted below, here.same) }

pub patience_is : (p : ℕ) (i i1 : IntakeData) (f0 f1 q0 q1 : ℕ) → Fresh p i → Waits i i1 f0 f1 q0 q1 → i1.patience ≡ p
patience_is p i i1 f0 f1 q0 q1 fresh waits = waits.same ∙ ap (λ (j : IntakeData). j.patience) fresh

-- the answer if `100 Continue` can't be written
pub continue_fault : (begun : Begun) (left left1 old new : Option (List ℕ)) → left1 ≡ left → AddsPrefix old new (continue_due begun.head) → (input : List ℕ)
    → Begins input left begun → Writes old new (Answers input left1 (Err ReadFault))
continue_fault begun left left1 old new same adds input b =
    writes_part old new (continue_due begun.head) (Answers input left1 (Err ReadFault)) adds
    (λ n. inr (b.bytes, b.rest, begun.head, n, b.split, b.is, refl))

-- `100 Continue` was written, and nothing else
pub asked_only : (old next new : Option (List ℕ)) (head : Head) → Adds old next (continue_due head) → new ≡ next → Adds old new (continue_due head)
asked_only old next new head adds last = let To : Option (List ℕ) → Type 0 = λ w. Adds old w (continue_due head) in subst To (sym last) adds

-- the bytes that follow a head are held after `100 Continue` was written
held : (begun : Begun) (left left1 : Option (List ℕ)) (input : List ℕ) → left1 ≡ left → (b : Begins input left begun) → Holds begun.intake.bytes left1 b.rest
held begun left left1 input same b = record { rest = b.holds.rest; known = same ∙ b.holds.known; is = b.holds.is }

-- the answer at a fault of the body
pub body_fault : (begun : Begun) (left left1 left2 old next new : Option (List ℕ)) (r : Result Message MessageFault) (f : MessageFault) → left1 ≡ left
    → Adds old next (continue_due begun.head) → new ≡ next → Stops (IsBodyFault begun.head.framing) begun.intake.bytes left1 left2 f → IsErrAnd r (λ g. g ≡ f)
    → (input : List ℕ) → Begins input left begun → Writes old new (Answers input left2 r)
body_fault begun left left1 left2 old next new r f same adds last stops is input b =
    let Says : Result Message MessageFault → Type 0 = λ q. Writes old new (Answers input left2 q) in
    subst Says (sym (is_err r f is))
    (writes_all old new (continue_due begun.head) (Answers input left2 (Err f)) (asked_only old next new begun.head adds last)
    (body_answer b.bytes b.rest input left2 begun.head f b.is b.split (stops b.rest (held begun left left1 input same b))))

-- the answer if all is read
pub message_read : (begun : Begun) (left left1 left2 old next new : Option (List ℕ)) (b2 body : List ℕ) (m : Message) → left1 ≡ left
    → Adds old next (continue_due begun.head) → new ≡ next
    → ((taken : List ℕ) × ((more : List ℕ) → ReadsBody begun.head.framing (taken ++ more) (Ok body)) × Took begun.intake.bytes left1 b2 left2 taken)
    → m ≡ message_of begun.head body → (input : List ℕ) → Begins input left begun → Writes old new (Answers input left2 (Ok m))
message_read begun left left1 left2 old next new b2 body m same adds last read is input b =
    let later = read.2 b.rest (held begun left left1 input same b) in
    let Says : Message → Type 0 = λ n. Writes old new (Answers input left2 (Ok n)) in
    subst Says (sym is)
    (writes_all old new (continue_due begun.head) (Answers input left2 (Ok (message_of begun.head body))) (asked_only old next new begun.head adds last)
    (message_answer b.bytes read.0 later.0 input left2 begun.head body b.is (b.split ∙ ap (λ text. b.bytes ++ text) later.1) (read.1 later.0)))

-- the patience at a fault of the body
pub patient_fault : (begun : Begun) (i : IntakeData) (f0 f1 g q0 q1 q2 : ℕ) (r : Result Message MessageFault) (e : MessageFault) → q1 ≡ q0
    → Waits begun.intake i f0 f1 q1 q2 → HasCause i g f1 e → IsErrAnd r (λ f. f ≡ e) → (before : ℕ) → HasWaited before begun q0
    → IsPatient begun.intake.patience before q2 r
patient_fault begun i f0 f1 g q0 q1 q2 r e same waits cause is before w =
    let At : Result Message MessageFault → Type 0 = λ s. IsPatient begun.intake.patience before q2 s in
    let counted : q2 < last_count → q2 + i.allowed ≡ before + begun.intake.patience =
    λ below. omega (arith, waits.counted below, w.counted (omega (arith, waits.quiet, same, below)), same) in
    subst At (sym (is_err r e is)) (record {
      more = omega (arith, w.more, waits.quiet, same);
      most = λ below. omega (arith, counted below);
      slow = slow_by begun.intake.patience before q2 g f1 i e waits.same counted cause;
    })

-- the patience if all is read
pub patient_read : (begun : Begun) (i : IntakeData) (f0 f1 q0 q1 q2 : ℕ) (m : Message) → q1 ≡ q0 → Waits begun.intake i f0 f1 q1 q2 → (before : ℕ)
    → HasWaited before begun q0 → IsPatient begun.intake.patience before q2 (Ok m)
patient_read begun i f0 f1 q0 q1 q2 m same waits before w = record {
  more = omega (arith, w.more, waits.quiet, same);
  most = λ below. omega (arith, waits.counted below, w.counted (omega (arith, waits.quiet, same, below)), same);
  slow = tt;
}

-- the patience if `100 Continue` can't be written
pub patient_continue : (begun : Begun) (q0 q1 : ℕ) → q1 ≡ q0 → (before : ℕ) → HasWaited before begun q0
    → IsPatient begun.intake.patience before q1 (Err ReadFault)
patient_continue begun q0 q1 same before w =
    record { more = omega (arith, w.more, same); most = λ below. omega (arith, w.counted (omega (arith, below, same)), same); slow = tt }

-- the answer at a fault of the head
pub head_fault : (left left' old new : Option (List ℕ)) (r : Result Message MessageFault) (f : MessageFault) → new ≡ old
    → ((input : List ℕ) → left ≡ Some input → IsFaultOf HeadFault input left' f) → IsErrAnd r (λ g. g ≡ f) → (input : List ℕ) → left ≡ Some input
    → Writes old new (Answers input left' r)
head_fault left left' old new r f same stopped is input told =
    let Says : Result Message MessageFault → Type 0 = λ q. Writes old new (Answers input left' q) in
    subst Says (sym (is_err r f is))
    (writes_all old new [] (Answers input left' (Err f)) (adds_same old new same) (head_answer input left' f (stopped input told)))

-- the patience there
pub patient_head : (p q0 q1 : ℕ) (r : Result Message MessageFault) (f : MessageFault) → IsPatient p q0 q1 (Err f) → IsErrAnd r (λ g. g ≡ f)
    → IsPatient p q0 q1 r
patient_head p q0 q1 r f patient is = let At : Result Message MessageFault → Type 0 = λ s. IsPatient p q0 q1 s in subst At (sym (is_err r f is)) patient

-- nothing was written, which is no more than `100 Continue`
pub bounded_same : (old new : Option (List ℕ)) → new ≡ old → AddsPrefix old new continue_line
bounded_same old new same = bounded_none old new (adds_same old new same)

-- a failed call was counted, if that is the fault
pub failed_with : {A : Type 0} (i : IntakeData) (f0 f1 : ℕ) (r : Result A MessageFault) (e : MessageFault) → HasCause i f0 f1 e → IsErrAnd r (λ f. f ≡ e)
    → r ≡ Err ReadFault → Rose f0 f1
failed_with i f0 f1 r e cause is fault = failed_at i f0 f1 e cause (sym (is_err r e is) ∙ fault)
