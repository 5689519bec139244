-- A worker's ask: what its steps leave of the seat.
use Rattle.std.proofs.Common.{◌≡◌, ℕ, Bool, true, [], ◌∷◌, ◌++◌, sym, refl, ap, ◌∙◌, unwrap_or, Option, Some, None, Result, Ok, Err, IfOk, OnErr}
use Rattle.std.proofs.lemmas.List.{append-nil}
use Rattle.atomic_table.specs.Table.{rest}
use Rattle.octo_asks.specs.declared.request.Ask.{Ask}
use Rattle.octo_asks.specs.declared.answer.Answer.{Answer}
use Rattle.octo_asks.specs.declared.asker.Closed.{Closed}
use Rattle.octo_asks.specs.declared.entry.Entry.TheVariants as entry
use Rattle.octo_asks.specs.History.{History, Finishes}
use Rattle.octo_serve.specs.declared.board.Letter.{Letter}
use Rattle.octo_serve.specs.declared.board.Letter.TheVariants.{Answered}
use Rattle.octo_serve.specs.declared.board.Stage.{Stage}
use Rattle.octo_serve.specs.declared.board.Stage.TheVariants.{Resting, Waiting, Found, Withdrawn}
use Rattle.octo_serve.specs.declared.board.WorkerView.{WorkerView}
use Rattle.octo_serve.specs.declared.board.View.TheVariants.{Worker}
use Rattle.octo_serve.specs.declared.waiting.AskState.TheVariants as ask_state
use Rattle.octo_serve.specs.Views.{worker_of}
use Rattle.octo_serve.specs.Steps.{Sitter, Taken, at_stage, at_rest, found_call, letter_in, answer_in}
use Rattle.octo_serve.specs.Ends.{HasFound, IsWorker, IsResting, IsWaiting, with_call, AfterLook, AfterAsk}
use Rattle.octo_serve.proofs.Sitting.{is_worker}

-- what the worker at this seat knows
pub knows : (me : Sitter) (v : WorkerView) (taken : Taken) → me ≡ (Worker v, taken) → worker_of me.0 ≡ v
knows me v taken e = ap (λ (m : Sitter). worker_of m.0) e

-- a seat with a worker's view is at this stage, with what it saw of the end
pub sits : (me : Sitter) (v : WorkerView) (taken : Taken) (n : ℕ) (stage : Stage) (saw : Bool) → me ≡ (Worker v, taken) → v.number ≡ n → v.stage ≡ stage
    → v.saw_close ≡ saw
    → me ≡ (Worker (record (worker_of me.0) { number = n; stage = stage; saw_close = saw }), taken)
sits me v taken n stage saw e a b c = e ∙ (λ i. (at i, taken))
  where
    at : Worker v ≡ Worker (record (worker_of me.0) { number = n; stage = stage; saw_close = saw })
    at = (λ i. Worker (record v { number = a i; stage = b i; saw_close = c i }))
        ∙ ap (λ (z : WorkerView). Worker (record z { number = n; stage = stage; saw_close = saw })) (sym (knows me v taken e))

-- the same of what it saw alone
pub saw_at : (me : Sitter) (v : WorkerView) (taken : Taken) (saw : Bool) → me ≡ (Worker v, taken) → v.saw_close ≡ saw
    → me ≡ (Worker (record (worker_of me.0) { saw_close = saw }), taken)
saw_at me v taken saw e c = e ∙ (λ i. (at i, taken))
  where
    at : Worker v ≡ Worker (record (worker_of me.0) { saw_close = saw })
    at = (λ i. Worker (record v { saw_close = c i })) ∙ ap (λ (z : WorkerView). Worker (record z { saw_close = saw })) (sym (knows me v taken e))

pub rests : (me : Sitter) (n : ℕ) (saw : Bool) → IsResting n saw me → IsWorker n Resting [] me
rests me n saw is = is_worker me (record (worker_of me.0) { number = n; stage = Resting; saw_close = saw }) n Resting [] is refl refl

-- the ask is open
pub waits : (old new : Sitter) (n : ℕ) (saw : Bool) (ask : Ask) → IsResting n saw old → new ≡ (at_stage old.0 (Waiting ask), []) → IsWaiting n saw ask new
waits old new n saw ask is e = sits new (record (worker_of old.0) { stage = Waiting ask }) [] n (Waiting ask) saw e
    (ap (λ (m : Sitter). (worker_of m.0).number) is) refl (ap (λ (m : Sitter). (worker_of m.0).saw_close) is)

-- the answer is in hand
pub finds : (old new : Sitter) (n : ℕ) (saw : Bool) (ask : Ask) (moment : ℕ) (answer : Answer) → IsWaiting n saw ask old
    → new ≡ (at_stage old.0 (Found ask moment answer), ((worker_of old.0).number, Some (Answered moment answer)) ∷ [])
    → IsWorker n (Found ask moment answer) ((n, Some (Answered moment answer)) ∷ []) new
finds old new n saw ask moment answer is e = let number = ap (λ (m : Sitter). (worker_of m.0).number) is in
    is_worker new (record (worker_of old.0) { stage = Found ask moment answer }) n (Found ask moment answer) ((n, Some (Answered moment answer)) ∷ [])
    (e ∙ (λ i. (at_stage old.0 (Found ask moment answer), (number i, Some (Answered moment answer)) ∷ []))) number refl

-- the ask is withdrawn
pub gives_up : (old new : Sitter) (n : ℕ) (saw : Bool) (ask : Ask) → IsWaiting n saw ask old → new ≡ (at_stage old.0 (Withdrawn ask), [])
    → IsWorker n (Withdrawn ask) [] new
gives_up old new n saw ask is e = is_worker new (record (worker_of old.0) { stage = Withdrawn ask }) n (Withdrawn ask) [] e (ap (λ (m : Sitter).
    (worker_of m.0).number) is) refl

-- the letter in hand has the answer that was found
pub letter_found : (me : Sitter) (n : ℕ) (letter : Option Letter) (found : HasFound n me) → me.1 ≡ (n, letter) ∷ rest me.1
    → letter ≡ Some (Answered found.1 found.2)
letter_found me n letter found hand = ap letter_in (sym hand ∙ ap (λ (m : Sitter). m.1) found.3)

-- the letter is taken out of the slot
pub emptied : (me mid : Sitter) (n : ℕ) (found : HasFound n me) → mid ≡ (me.0, (n, None) ∷ rest me.1)
    → IsWorker n (Found found.0 found.1 found.2) ((n, None) ∷ []) mid
emptied me mid n found between = is_worker mid (record (worker_of me.0) { number = n; stage = Found found.0 found.1 found.2 }) n
    (Found found.0 found.1 found.2) ((n, None) ∷ [])
    (between ∙ ap (λ (m : Sitter). (m.0, (n, None) ∷ rest m.1)) found.3) refl refl

pub in_hand : (me : Sitter) (n : ℕ) (found : HasFound n me) → me.1 ≡ (n, Some (Answered found.1 found.2)) ∷ rest me.1
in_hand me n found = let hand : me.1 ≡ (n, Some (Answered found.1 found.2)) ∷ [] = ap (λ (m : Sitter). m.1) found.3 in
    hand ∙ ap (λ (slots : Taken). (n, Some (Answered found.1 found.2)) ∷ rest slots) (sym hand)

abbrev answer_of : Answer → Stage → Answer
answer_of d (Found ask moment answer) = answer
answer_of d _ = d

-- the answer is taken, and the worker rests
pub takes : (me mid new : Sitter) (n : ℕ) (letter : Option Letter) (result : Answer) (found : HasFound n me) → me.1 ≡ (n, letter) ∷ rest me.1
    → answer_in letter ≡ Some result
    → mid ≡ (me.0, (n, None) ∷ rest me.1) → new ≡ (Worker (at_rest (worker_of mid.0)), [])
    → (ask : Ask) (moment : ℕ) (answer : Answer) → (worker_of me.0).stage ≡ Found ask moment answer
    → (result ≡ answer) × (new ≡ (Worker (with_call (worker_of me.0) ask moment answer), []))
takes me mid new n letter result found hand is between idle ask moment answer stage =
    let here : (worker_of me.0).stage ≡ Found found.0 found.1 found.2 = ap (λ (m : Sitter). (worker_of m.0).stage) found.3 in
    let read : Some result ≡ Some found.2 = sym is ∙ ap answer_in (letter_found me n letter found hand) in
    let same : found.2 ≡ answer = ap (answer_of answer) (sym here ∙ stage) in (
      ap (λ (o : Option Answer). unwrap_or o result) read ∙ same,
      idle ∙ (ap (λ (m : Sitter). (Worker (at_rest (worker_of m.0)), [])) between
          ∙ ap (λ (z : Stage). (
            Worker (record (worker_of me.0) { mine = (worker_of me.0).mine ++ found_call (worker_of me.0).number z; stage = Resting }),
            [],
          )) stage),
    )

-- a look that found the answer
pub looked_answered : (old mid new : Sitter) (ask : Ask) (moment : ℕ) (answer result : Answer)
    → mid ≡ (at_stage old.0 (Found ask moment answer), ((worker_of old.0).number, Some (Answered moment answer)) ∷ [])
    → ((a : Ask) (m : ℕ) (r : Answer) → (worker_of mid.0).stage ≡ Found a m r → (result ≡ r) × (new ≡ (Worker (with_call (worker_of mid.0) a m r), [])))
    → AfterLook ask old (ask_state.Answered result) new
looked_answered old mid new ask moment answer result e taken = let t = taken ask moment answer (ap (λ (m : Sitter). (worker_of m.0).stage) e) in
    let same : answer ≡ result = sym t.0 in
    (moment, t.1 ∙ (λ i. (Worker (with_call (worker_of (e i).0) ask moment (same i)), [])))

-- a look that withdrew the ask
pub looked_withdrawn : (old mid new : Sitter) (ask : Ask) → (worker_of old.0).saw_close ≡ true → mid ≡ (at_stage old.0 (Withdrawn ask), [])
    → new ≡ (Worker (at_rest (worker_of mid.0)), [])
    → AfterLook ask old ask_state.Withdrawn new
looked_withdrawn old mid new ask saw e idle = (
  saw,
  idle ∙ (ap (λ (m : Sitter). (Worker (at_rest (worker_of m.0)), [])) e
      ∙ ap (λ (l : History). (Worker (record (worker_of old.0) { mine = l; stage = Resting }), [])) (append-nil (worker_of old.0).mine)),
)

-- while it waits only what it saw of the end changes
pub begins : (first : Sitter) (n : ℕ) (saw : Bool) (ask : Ask) → IsWaiting n saw ask first
    → first ≡ (Worker (record (worker_of first.0) { saw_close = saw }), [])
begins first n saw ask is = saw_at first (record (worker_of first.0) { number = n; stage = Waiting ask; saw_close = saw }) [] saw is refl

pub still_waits : (first me : Sitter) (n : ℕ) (before saw : Bool) (ask : Ask) → IsWaiting n before ask first
    → me ≡ (Worker (record (worker_of first.0) { saw_close = saw }), []) → IsWaiting n saw ask me
still_waits first me n before saw ask is e = sits me (record (worker_of first.0) { saw_close = saw }) [] n (Waiting ask) saw e
    (ap (λ (m : Sitter). (worker_of m.0).number) is) (ap (λ (m : Sitter). (worker_of m.0).stage) is) refl

pub still_at : (first old new : Sitter) (before saw : Bool) → old ≡ (Worker (record (worker_of first.0) { saw_close = before }), [])
    → new ≡ (Worker (record (worker_of old.0) { saw_close = saw }), []) → new ≡ (Worker (record (worker_of first.0) { saw_close = saw }), [])
still_at first old new before saw e f = f ∙ ap (λ (m : Sitter). (Worker (record (worker_of m.0) { saw_close = saw }), [])) e

-- a worker that looked, and waited until then
module _ (first me new : Sitter) (n : ℕ) (before saw : Bool) (ask : Ask) (is : IsWaiting n before ask first) (e : me ≡ (
  Worker (record
      (worker_of first.0) { saw_close = saw }),
  [],
)) where
  pub rests_answered : (answer : Answer) → AfterLook ask me (ask_state.Answered answer) new → IsResting n saw new
  rests_answered answer p = sits new (with_call (worker_of me.0) ask p.0 answer) [] n Resting saw p.1
      (ap (λ (m : Sitter). (worker_of m.0).number) e ∙ ap (λ (m : Sitter). (worker_of m.0).number) is) refl (ap (λ (m : Sitter). (worker_of m.0).saw_close) e)

  pub rests_withdrawn : AfterLook ask me ask_state.Withdrawn new → IsResting n saw new
  rests_withdrawn p = sits new (record (worker_of me.0) { stage = Resting }) [] n Resting saw p.1
      (ap (λ (m : Sitter). (worker_of m.0).number) e ∙ ap (λ (m : Sitter). (worker_of m.0).number) is) refl (ap (λ (m : Sitter). (worker_of m.0).saw_close) e)

  pub asked_answered : (answer : Answer) → AfterLook ask me (ask_state.Answered answer) new → AfterAsk ask (worker_of first.0) (Ok answer) (worker_of new.0)
  asked_answered answer p = let w : worker_of new.0 ≡ with_call (record (worker_of first.0) { saw_close = saw }) ask p.0 answer =
      ap (λ (m : Sitter). worker_of m.0) p.1 ∙ ap (λ (m : Sitter). with_call (worker_of m.0) ask p.0 answer) e in
      let same : saw ≡ (worker_of new.0).saw_close = sym (ap (λ (z : WorkerView). z.saw_close) w) in
      (p.0, w ∙ (λ i. record (with_call (worker_of first.0) ask p.0 answer) { saw_close = same i }))

  pub asked_withdrawn : (closed : Closed) → AfterLook ask me ask_state.Withdrawn new → AfterAsk ask (worker_of first.0) (Err closed) (worker_of new.0)
  asked_withdrawn closed p = let ended : saw ≡ true = sym (ap (λ (m : Sitter). (worker_of m.0).saw_close) e) ∙ p.0 in
      ap (λ (m : Sitter). worker_of m.0) p.1 ∙ (ap (λ (m : Sitter). record (worker_of m.0) { stage = Resting }) e
      ∙ (λ i. record (worker_of first.0) { stage = Resting; saw_close = ended i }))

-- the same from before the ask was put
pub from_rest : (ask : Ask) (w w' new : WorkerView) (result : Result Answer Closed) → w' ≡ record w { stage = Waiting ask } → AfterAsk ask w' result new
    → AfterAsk ask w result new
from_rest ask w w' new (Ok answer) e p = (p.0, p.1 ∙ ap (λ (z : WorkerView). record (with_call z ask p.0 answer) { saw_close = new.saw_close }) e)
from_rest ask w w' new (Err closed) e p = p ∙ ap (λ (z : WorkerView). record z { stage = Resting; saw_close = true }) e

-- what an ask leaves, as an asker says it
pub asked_ok : (ask : Ask) (w new : WorkerView) (result : Result Answer Closed) → AfterAsk ask w result new
    → IfOk result (λ answer. Finishes ask answer (Some w.mine) (Some new.mine))
asked_ok ask w new (Ok answer) p = λ now e. (
  w.mine,
  entry.Call w.number ask p.0 answer ∷ [],
  refl,
  ap (λ (o : Option History). unwrap_or o []) (sym e) ∙ ap (λ (z : WorkerView). z.mine) p.1,
  (w.number, p.0, refl),
)
asked_ok ask w new (Err closed) p = tt

pub asked_err : (ask : Ask) (w new : WorkerView) (result : Result Answer Closed) → AfterAsk ask w result new → OnErr result (Some new.mine ≡ Some w.mine)
asked_err ask w new (Ok answer) p = tt
asked_err ask w new (Err closed) p = ap (λ (z : WorkerView). Some z.mine) p

pub asked_closed : (ask : Ask) (w new : WorkerView) (result : Result Answer Closed) → AfterAsk ask w result new → OnErr result (new.saw_close ≡ true)
asked_closed ask w new (Ok answer) p = tt
asked_closed ask w new (Err closed) p = ap (λ (z : WorkerView). z.saw_close) p

pub asked_number : (ask : Ask) (w new : WorkerView) (result : Result Answer Closed) → AfterAsk ask w result new → new.number ≡ w.number
asked_number ask w new (Ok answer) p = ap (λ (z : WorkerView). z.number) p.1
asked_number ask w new (Err closed) p = ap (λ (z : WorkerView). z.number) p
