-- Hellos with numbers of their own: each is the last one sent but for as many as are behind it.
use Rattle.std.proofs.Common.{◌≡◌, ℕ, zero, suc, ◌+◌, ◌<◌, ◌≤◌, Bool, true, false, List, [], ◌∷◌, ◌++◌, length-append, set, arith}
use Rattle.std.specs.Prelude.{None, Some}
use Rattle.std.specs.List.{remove}
use Rattle.std.proofs.lemmas.List.{length-set}
use Rattle.octo_session_line_proof.specs.Pieces.{Piece, greeting, command, Sent, intact, corrupted, Heard, ok_heard, resend_heard, start_heard, talk_heard, named_by}
use Rattle.octo_session_line_proof.specs.Wires.{resends, named_on, AreUpAhead, AreQueueAhead, AreNamesAhead}
use Rattle.octo_session_line_proof.proofs.Lists.{length-remove_le}
use Rattle.octo_session_line_proof.proofs.Naming.{resends_append, named_append, resends_remove, named_remove}

-- more hellos are sent
pub up_more : (h k : ℕ) (up : List Sent) → h ≤ k → AreUpAhead h up → AreUpAhead k up
up_more h k [] more ahead = tt
up_more h k (intact (greeting number) ∷ up) more ahead = (omega (arith, ahead.0, more), up_more h k up more ahead.1)
up_more h k (intact (command place text) ∷ up) more ahead = up_more h k up more ahead
up_more h k (corrupted bytes ∷ up) more ahead = up_more h k up more ahead

-- a line is sent: a hello with the next number, or bytes that fail in its place
pub up_greeted : (h number : ℕ) (up : List Sent) → number ≡ h → AreUpAhead h up → AreUpAhead (suc h) (up ++ intact (greeting number) ∷ [])
up_greeted h number [] next ahead = (omega (arith, next), tt)
up_greeted h number (intact (greeting earlier) ∷ up) next ahead = (omega (arith, ahead.0, length-append up (intact (greeting number) ∷ [])), up_greeted h number up next ahead.1)
up_greeted h number (intact (command place text) ∷ up) next ahead = up_greeted h number up next ahead
up_greeted h number (corrupted bytes ∷ up) next ahead = up_greeted h number up next ahead

pub up_failed : (h : ℕ) (bytes : List ℕ) (up : List Sent) → AreUpAhead h up → AreUpAhead (suc h) (up ++ corrupted bytes ∷ [])
up_failed h bytes [] ahead = tt
up_failed h bytes (intact (greeting number) ∷ up) ahead = (omega (arith, ahead.0, length-append up (corrupted bytes ∷ [])), up_failed h bytes up ahead.1)
up_failed h bytes (intact (command place text) ∷ up) ahead = up_failed h bytes up ahead
up_failed h bytes (corrupted others ∷ up) ahead = up_failed h bytes up ahead

-- without the line at the front
pub up_behind : (h : ℕ) (sent : Sent) (up : List Sent) → AreUpAhead h (sent ∷ up) → AreUpAhead h up
up_behind h (intact (greeting number)) up ahead = ahead.1
up_behind h (intact (command place text)) up ahead = ahead
up_behind h (corrupted bytes) up ahead = ahead

-- a line is lost, or corrupted
pub up_lost : (h : ℕ) (up : List Sent) (at : ℕ) → AreUpAhead h up → AreUpAhead h (remove up at)
up_lost h [] zero ahead = tt
up_lost h [] (suc at) ahead = tt
up_lost h (intact (greeting number) ∷ up) zero ahead = ahead.1
up_lost h (intact (greeting number) ∷ up) (suc at) ahead = (omega (arith, ahead.0, length-remove_le up at), up_lost h up at ahead.1)
up_lost h (intact (command place text) ∷ up) zero ahead = ahead
up_lost h (intact (command place text) ∷ up) (suc at) ahead = up_lost h up at ahead
up_lost h (corrupted bytes ∷ up) zero ahead = ahead
up_lost h (corrupted bytes ∷ up) (suc at) ahead = up_lost h up at ahead

pub up_corrupted : (h : ℕ) (bytes : List ℕ) (up : List Sent) (at : ℕ) → AreUpAhead h up → AreUpAhead h (set up at (corrupted bytes))
up_corrupted h bytes [] at ahead = tt
up_corrupted h bytes (intact (greeting number) ∷ up) zero ahead = ahead.1
up_corrupted h bytes (intact (greeting number) ∷ up) (suc at) ahead = (omega (arith, ahead.0, length-set up at (corrupted bytes)), up_corrupted h bytes up at ahead.1)
up_corrupted h bytes (intact (command place text) ∷ up) zero ahead = ahead
up_corrupted h bytes (intact (command place text) ∷ up) (suc at) ahead = up_corrupted h bytes up at ahead
up_corrupted h bytes (corrupted others ∷ up) zero ahead = ahead
up_corrupted h bytes (corrupted others ∷ up) (suc at) ahead = up_corrupted h bytes up at ahead

-- more hellos are sent, or fewer lines are behind
pub queue_more : (h k n m : ℕ) (queue : List Piece) → m + h ≤ n + k → AreQueueAhead h n queue → AreQueueAhead k m queue
queue_more h k n m [] more ahead = tt
queue_more h k n m (greeting number ∷ queue) more ahead = (omega (arith, ahead.0, more), queue_more h k n m queue more ahead.1)
queue_more h k n m (command place text ∷ queue) more ahead = queue_more h k n m queue more ahead

-- the hello behind the queue joins it
pub queue_joined : (h n number : ℕ) (queue : List Piece) → number + n < h → AreQueueAhead h (suc n) queue → AreQueueAhead h n (queue ++ greeting number ∷ [])
queue_joined h n number [] next ahead = (omega (arith, next), tt)
queue_joined h n number (greeting earlier ∷ queue) next ahead = (omega (arith, ahead.0, length-append queue (greeting number ∷ [])), queue_joined h n number queue next ahead.1)
queue_joined h n number (command place text ∷ queue) next ahead = queue_joined h n number queue next ahead

-- more hellos are sent, or replies join the way for lines that were behind it
pub names_more : (h k n m : ℕ) (way more : List Heard) → named_on more + resends more + m + h ≤ n + k → AreNamesAhead k m more → AreNamesAhead h n way →
    AreNamesAhead k m (way ++ more)
names_more h k n m [] more few last ahead = last
names_more h k n m (ok_heard None ∷ way) more few last ahead = names_more h k n m way more few last ahead
names_more h k n m (ok_heard (Some number) ∷ way) more few last ahead =
    (omega (arith, ahead.0, few, named_append way more, resends_append way more), names_more h k n m way more few last ahead.1)
names_more h k n m (resend_heard number ∷ way) more few last ahead = names_more h k n m way more few last ahead
names_more h k n m (start_heard ∷ way) more few last ahead = names_more h k n m way more few last ahead
names_more h k n m (talk_heard ∷ way) more few last ahead = names_more h k n m way more few last ahead

pub names_still : (h k n m : ℕ) (way : List Heard) → m + h ≤ n + k → AreNamesAhead h n way → AreNamesAhead k m way
names_still h k n m [] few ahead = tt
names_still h k n m (ok_heard None ∷ way) few ahead = names_still h k n m way few ahead
names_still h k n m (ok_heard (Some number) ∷ way) few ahead = (omega (arith, ahead.0, few), names_still h k n m way few ahead.1)
names_still h k n m (resend_heard number ∷ way) few ahead = names_still h k n m way few ahead
names_still h k n m (start_heard ∷ way) few ahead = names_still h k n m way few ahead
names_still h k n m (talk_heard ∷ way) few ahead = names_still h k n m way few ahead

-- a reply is lost
pub names_lost : (h n : ℕ) (way : List Heard) (at : ℕ) → AreNamesAhead h n way → AreNamesAhead h n (remove way at)
names_lost h n [] zero ahead = tt
names_lost h n [] (suc at) ahead = tt
names_lost h n (ok_heard None ∷ way) zero ahead = ahead
names_lost h n (ok_heard None ∷ way) (suc at) ahead = names_lost h n way at ahead
names_lost h n (ok_heard (Some number) ∷ way) zero ahead = ahead.1
names_lost h n (ok_heard (Some number) ∷ way) (suc at) ahead = (omega (arith, ahead.0, resends_remove way at, named_remove way at), names_lost h n way at ahead.1)
names_lost h n (resend_heard number ∷ way) zero ahead = ahead
names_lost h n (resend_heard number ∷ way) (suc at) ahead = names_lost h n way at ahead
names_lost h n (start_heard ∷ way) zero ahead = ahead
names_lost h n (start_heard ∷ way) (suc at) ahead = names_lost h n way at ahead
names_lost h n (talk_heard ∷ way) zero ahead = ahead
names_lost h n (talk_heard ∷ way) (suc at) ahead = names_lost h n way at ahead

-- the `ok` of a hello that ran joins the way
pub names_ran : (named : Bool) (h n number : ℕ) → number + n < h → AreNamesAhead h n (ok_heard (named_by named number) ∷ [])
names_ran true h n number next = (omega (arith, next), tt)
names_ran false h n number next = tt

pub named_one : (named : Bool) (number : ℕ) → named_on (ok_heard (named_by named number) ∷ []) ≤ 1
named_one true number = omega arith
named_one false number = omega arith
