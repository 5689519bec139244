-- What is on the way from the printer: one more answer, and the first reply.
use Rattle.std.proofs.Common.{◌≡◌, ℕ, suc, ◌+◌, ◌≤◌, Bool, true, false, List, [], ◌∷◌, ◌++◌, map, refl, sym, ◌∙◌, ap, append_assoc, append-nil, arith}
use Rattle.std.proofs.lemmas.List.{map-append}
use Rattle.octo_session_line_proof.specs.Pieces.{Answer, greeting_ok, command_ok, refusal, asking, closing, chat, restart, Heard, heard_in, reply_to, rest_of, replies_in, replies_on}
use Rattle.octo_session_line_proof.specs.Wires.{weight_of, weights, greeting_count, greetings_on, is_closing, IsEarlyWay, IsRestartKnown, IsBegun, IsAsked, Answers}

pub weights_push : (way : List Answer) (x : Answer) → weights (way ++ x ∷ []) ≡ weights way + weight_of x
weights_push [] x = omega arith
weights_push (y ∷ way) x = omega (arith, weights_push way x)

pub greetings_push : (way : List Answer) (x : Answer) → greetings_on (way ++ x ∷ []) ≡ greetings_on way + greeting_count x
greetings_push [] x = omega arith
greetings_push (y ∷ way) x = omega (arith, greetings_push way x)

count_le : (x : Answer) → greeting_count x ≤ weight_of x
count_le (greeting_ok number) = omega arith
count_le (command_ok place named) = omega arith
count_le (refusal number) = omega arith
count_le (asking number) = omega arith
count_le closing = omega arith
count_le chat = omega arith
count_le restart = omega arith

pub greetings_le : (way : List Answer) → greetings_on way ≤ weights way
greetings_le [] = omega arith
greetings_le (x ∷ way) = omega (arith, count_le x, greetings_le way)

-- an answer that isn't the last part of a refusal doesn't change whether one is next
pub closing_push : (way : List Answer) (x : Answer) → is_closing (x ∷ []) ≡ false → is_closing (way ++ x ∷ []) ≡ is_closing way
closing_push [] x other = other
closing_push (greeting_ok number ∷ way) x other = refl
closing_push (command_ok place named ∷ way) x other = refl
closing_push (refusal number ∷ way) x other = refl
closing_push (asking number ∷ way) x other = refl
closing_push (closing ∷ way) x other = refl
closing_push (chat ∷ way) x other = refl
closing_push (restart ∷ way) x other = refl

pub early_push : (first : Bool) (way : List Answer) (x : Answer) → ((f : Bool) → IsEarlyWay f (x ∷ [])) → IsEarlyWay first way →
    IsEarlyWay first (way ++ x ∷ [])
early_push first [] x so e = so first
early_push first (greeting_ok number ∷ way) x so e = early_push false way x so e
early_push first (command_ok place named ∷ way) x so e = absurd e
early_push first (refusal number ∷ way) x so e = early_push false way x so e
early_push first (asking number ∷ way) x so e = (e.0, early_push false way x so e.1)
early_push first (closing ∷ way) x so e = (e.0, early_push false way x so e.1)
early_push first (chat ∷ way) x so e = early_push false way x so e
early_push first (restart ∷ way) x so e = early_push false way x so e

-- what may follow the first answer may also come first
pub early_front : (way : List Answer) → IsEarlyWay false way → IsEarlyWay true way
early_front [] e = tt
early_front (greeting_ok number ∷ way) e = e
early_front (command_ok place named ∷ way) e = absurd e
early_front (refusal number ∷ way) e = e
early_front (asking number ∷ way) e = (refl, e.1)
early_front (closing ∷ way) e = (refl, e.1)
early_front (chat ∷ way) e = e
early_front (restart ∷ way) e = e

pub early_unclosing : (way : List Answer) → IsEarlyWay false way → is_closing way ≡ false
early_unclosing [] e = refl
early_unclosing (greeting_ok number ∷ way) e = refl
early_unclosing (command_ok place named ∷ way) e = refl
early_unclosing (refusal number ∷ way) e = refl
early_unclosing (asking number ∷ way) e = refl
early_unclosing (closing ∷ way) e = absurd (cc (e.0))
early_unclosing (chat ∷ way) e = refl
early_unclosing (restart ∷ way) e = refl

pub known_push : (d d' : Bool) (way : List Answer) (x : Answer) → (d ≡ false → IsRestartKnown d' (x ∷ [])) → IsRestartKnown d way →
    IsRestartKnown d' (way ++ x ∷ [])
known_push d d' [] x so k = so k
known_push d d' (greeting_ok number ∷ way) x so k = known_push d d' way x so k
known_push d d' (command_ok place named ∷ way) x so k = known_push d d' way x so k
known_push d d' (refusal number ∷ way) x so k = known_push d d' way x so k
known_push d d' (asking number ∷ way) x so k = known_push d d' way x so k
known_push d d' (closing ∷ way) x so k = known_push d d' way x so k
known_push d d' (chat ∷ way) x so k = known_push d d' way x so k
known_push d d' (restart ∷ way) x so k = tt

pub begun_push : (d d' : Bool) (way : List Answer) (x : Answer) → (d ≡ false → IsRestartKnown d' (x ∷ [])) → IsBegun d' (x ∷ []) → IsBegun d way →
    IsBegun d' (way ++ x ∷ [])
begun_push d d' [] x so one b = one
begun_push d d' (greeting_ok number ∷ way) x so one b = known_push d d' way x so b
begun_push d d' (command_ok place named ∷ way) x so one b = begun_push d d' way x so one b
begun_push d d' (refusal number ∷ way) x so one b = begun_push d d' way x so one b
begun_push d d' (asking number ∷ way) x so one b = begun_push d d' way x so one b
begun_push d d' (closing ∷ way) x so one b = begun_push d d' way x so one b
begun_push d d' (chat ∷ way) x so one b = begun_push d d' way x so one b
begun_push d d' (restart ∷ way) x so one b = begun_push d d' way x so one b

-- one more answer, by what it is at the end, if all lines that ran have theirs
pub answers_push : (f d d' : Bool) (n a k k' : ℕ) (way : List Answer) (x : Answer) → k ≤ k' →
    ((g : Bool) (m : ℕ) → d ≡ false → m ≡ k → Answers g d' n m (x ∷ []) k') → Answers f d n a way k → Answers f d' n a (way ++ x ∷ []) k'
answers_push f d d' n a k k' [] x le so h = so f a h.0 h.1
answers_push f d d' n a k k' (greeting_ok number ∷ way) x le so h = absurd h
answers_push f d d' n a k k' (command_ok place named ∷ way) x le so h = (h.0, answers_push false d d' n (suc a) k k' way x le so h.1)
answers_push f d d' n a k k' (refusal number ∷ way) x le so h = (h.0, answers_push false d d' n a k k' way x le so h.1)
answers_push f d d' n a k k' (asking number ∷ way) x le so h = (h.0, h.1, answers_push false d d' n a k k' way x le so h.2)
answers_push f d d' n a k k' (closing ∷ way) x le so h = (h.0, answers_push false d d' n a k k' way x le so h.1)
answers_push f d d' n a k k' (chat ∷ way) x le so h = answers_push false d d' n a k k' way x le so h
answers_push f d d' n a k k' (restart ∷ way) x le so h = omega (arith, h, le)

pub answers_front : (d : Bool) (n a : ℕ) (way : List Answer) (k : ℕ) → Answers false d n a way k → Answers true d n a way k
answers_front d n a [] k h = h
answers_front d n a (greeting_ok number ∷ way) k h = h
answers_front d n a (command_ok place named ∷ way) k h = h
answers_front d n a (refusal number ∷ way) k h = h
answers_front d n a (asking number ∷ way) k h = (refl, h.1, h.2)
answers_front d n a (closing ∷ way) k h = (refl, h.1)
answers_front d n a (chat ∷ way) k h = h
answers_front d n a (restart ∷ way) k h = h

pub answers_unclosing : (d : Bool) (n a : ℕ) (way : List Answer) (k : ℕ) → Answers false d n a way k → is_closing way ≡ false
answers_unclosing d n a [] k h = refl
answers_unclosing d n a (greeting_ok number ∷ way) k h = refl
answers_unclosing d n a (command_ok place named ∷ way) k h = refl
answers_unclosing d n a (refusal number ∷ way) k h = refl
answers_unclosing d n a (asking number ∷ way) k h = refl
answers_unclosing d n a (closing ∷ way) k h = absurd (cc (h.0))
answers_unclosing d n a (chat ∷ way) k h = refl
answers_unclosing d n a (restart ∷ way) k h = refl

-- no more lines are acknowledged than have run
pub answers_le : (f d : Bool) (n a : ℕ) (way : List Answer) (k : ℕ) → Answers f d n a way k → a ≤ k
answers_le f d n a [] k h = omega (arith, h.1)
answers_le f d n a (greeting_ok number ∷ way) k h = absurd h
answers_le f d n a (command_ok place named ∷ way) k h = let more = answers_le false d n (suc a) way k h.1 in omega (arith, more)
answers_le f d n a (refusal number ∷ way) k h = answers_le false d n a way k h.1
answers_le f d n a (asking number ∷ way) k h = answers_le false d n a way k h.2
answers_le f d n a (closing ∷ way) k h = answers_le false d n a way k h.1
answers_le f d n a (chat ∷ way) k h = answers_le false d n a way k h
answers_le f d n a (restart ∷ way) k h = h

asked_more : (n n' a number : ℕ) → n ≤ n' → IsAsked n a number → IsAsked n' a number
asked_more n n' a number le is = record { place = is.place; is = is.is; above = is.above; within = omega (arith, is.within, le) }

-- more lines are issued
pub answers_more : (f d : Bool) (n n' a : ℕ) (way : List Answer) (k : ℕ) → n ≤ n' → Answers f d n a way k → Answers f d n' a way k
answers_more f d n n' a [] k le h = h
answers_more f d n n' a (greeting_ok number ∷ way) k le h = absurd h
answers_more f d n n' a (command_ok place named ∷ way) k le h = (h.0, answers_more false d n n' (suc a) way k le h.1)
answers_more f d n n' a (refusal number ∷ way) k le h = (asked_more n n' a number le h.0, answers_more false d n n' a way k le h.1)
answers_more f d n n' a (asking number ∷ way) k le h = (h.0, asked_more n n' a number le h.1, answers_more false d n n' a way k le h.2)
answers_more f d n n' a (closing ∷ way) k le h = (h.0, answers_more false d n n' a way k le h.1)
answers_more f d n n' a (chat ∷ way) k le h = answers_more false d n n' a way k le h
answers_more f d n n' a (restart ∷ way) k le h = h

-- after the hello's `ok` nothing is answered yet
pub answers_begin : (d : Bool) (way : List Answer) → weights way ≡ 0 → IsEarlyWay false way → IsRestartKnown d way → Answers false d 0 0 way 0
answers_begin d [] light e k = (k, refl)
answers_begin d (greeting_ok number ∷ way) light e k = absurd (omega (arith, light))
answers_begin d (command_ok place named ∷ way) light e k = absurd e
answers_begin d (refusal number ∷ way) light e k = absurd (omega (arith, light))
answers_begin d (asking number ∷ way) light e k = absurd (cc (e.0))
answers_begin d (closing ∷ way) light e k = absurd (cc (e.0))
answers_begin d (chat ∷ way) light e k = answers_begin d way (omega (arith, light)) e k
answers_begin d (restart ∷ way) light e k = omega arith

-- the replies of one more answer
pub replies_push : (way : List Answer) (x : Answer) → replies_on (way ++ x ∷ []) ≡ replies_on way ++ replies_in x
replies_push [] x = append-nil (replies_in x)
replies_push (y ∷ way) x = ap (λ (l : List Heard). replies_in y ++ l) (replies_push way x) ∙ sym (append_assoc (replies_in y) (replies_on way) (replies_in x))

pub down_push : (down lines : List (List ℕ)) (way : List Answer) (x : Answer) → map heard_in down ≡ replies_on way → map heard_in lines ≡ replies_in x →
    map heard_in (down ++ lines) ≡ replies_on (way ++ x ∷ [])
down_push down lines way x old new =
    map-append heard_in down lines
    ∙ ap (λ (l : List Heard). l ++ map heard_in lines) old
    ∙ ap (λ (l : List Heard). replies_on way ++ l) new
    ∙ sym (replies_push way x)

-- the first reply is the first answer's
pub record IsFirst (line : List ℕ) (down : List (List ℕ)) (way : List Answer) : Type 0 where
  pub answer : Answer
  pub rest : List Answer
  pub is : way ≡ answer ∷ rest
  pub heard : heard_in line ≡ reply_to answer
  pub after : map heard_in down ≡ replies_on (rest_of answer rest)

split : (x : Answer) (way : List Answer) → replies_on (x ∷ way) ≡ reply_to x ∷ replies_on (rest_of x way)
split (greeting_ok number) way = refl
split (command_ok place named) way = refl
split (refusal number) way = refl
split (asking number) way = refl
split closing way = refl
split chat way = refl
split restart way = refl

pub first_of_way : (line : List ℕ) (down : List (List ℕ)) (way : List Answer) → map heard_in (line ∷ down) ≡ replies_on way → IsFirst line down way
first_of_way line down [] e = absurd (cc)
first_of_way line down (x ∷ way) e =
    let both : heard_in line ∷ map heard_in down ≡ reply_to x ∷ replies_on (rest_of x way) = e ∙ split x way in
    let one : heard_in line ≡ reply_to x = cc in
    let others : map heard_in down ≡ replies_on (rest_of x way) = cc in
    record { answer = x; rest = way; is = refl; heard = one; after = others }
