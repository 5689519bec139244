-- What is on the way from the printer if `ok`s count by their numbers: more replies, and a lost one.
use Rattle.std.proofs.Common.{◌≡◌, ◌⊎◌, inl, inr, ℕ, zero, suc, ◌+◌, ◌≤◌, Bool, true, List, [], ◌∷◌, ◌++◌, map, refl, ◌∙◌, ap, arith}
use Rattle.std.specs.Prelude.{None, Some, max}
use Rattle.std.specs.List.{remove}
use Rattle.std.proofs.lemmas.List.{map-append}
use Rattle.marlin_frame.specs.Numbering.{place_of}
use Rattle.octo_session_line_proof.specs.Pieces.{Heard, ok_heard, resend_heard, start_heard, talk_heard, heard_in}
use Rattle.octo_session_line_proof.specs.Wires.{resends, named_on, NamesRun, IsAsked}

-- more replies
pub resends_append : (way more : List Heard) → resends (way ++ more) ≡ resends way + resends more
resends_append [] more = omega arith
resends_append (ok_heard number ∷ way) more = resends_append way more
resends_append (resend_heard number ∷ way) more = omega (arith, resends_append way more)
resends_append (start_heard ∷ way) more = resends_append way more
resends_append (talk_heard ∷ way) more = resends_append way more

pub named_append : (way more : List Heard) → named_on (way ++ more) ≡ named_on way + named_on more
named_append [] more = omega arith
named_append (ok_heard None ∷ way) more = named_append way more
named_append (ok_heard (Some number) ∷ way) more = omega (arith, named_append way more)
named_append (resend_heard number ∷ way) more = named_append way more
named_append (start_heard ∷ way) more = named_append way more
named_append (talk_heard ∷ way) more = named_append way more

pub heard_more : (down lines : List (List ℕ)) (more : List Heard) → map heard_in lines ≡ more → map heard_in (down ++ lines) ≡ map heard_in down ++ more
heard_more down lines more is = map-append heard_in down lines ∙ ap (λ (l : List Heard). map heard_in down ++ l) is

-- a reply less
pub resends_remove : (way : List Heard) (at : ℕ) → resends (remove way at) ≤ resends way
resends_remove [] zero = omega arith
resends_remove [] (suc at) = omega arith
resends_remove (ok_heard number ∷ way) zero = omega arith
resends_remove (ok_heard number ∷ way) (suc at) = resends_remove way at
resends_remove (resend_heard number ∷ way) zero = omega arith
resends_remove (resend_heard number ∷ way) (suc at) = omega (arith, resends_remove way at)
resends_remove (start_heard ∷ way) zero = omega arith
resends_remove (start_heard ∷ way) (suc at) = resends_remove way at
resends_remove (talk_heard ∷ way) zero = omega arith
resends_remove (talk_heard ∷ way) (suc at) = resends_remove way at

pub named_remove : (way : List Heard) (at : ℕ) → named_on (remove way at) ≤ named_on way
named_remove [] zero = omega arith
named_remove [] (suc at) = omega arith
named_remove (ok_heard None ∷ way) zero = omega arith
named_remove (ok_heard None ∷ way) (suc at) = named_remove way at
named_remove (ok_heard (Some number) ∷ way) zero = omega arith
named_remove (ok_heard (Some number) ∷ way) (suc at) = omega (arith, named_remove way at)
named_remove (resend_heard number ∷ way) zero = omega arith
named_remove (resend_heard number ∷ way) (suc at) = named_remove way at
named_remove (start_heard ∷ way) zero = omega arith
named_remove (start_heard ∷ way) (suc at) = named_remove way at
named_remove (talk_heard ∷ way) zero = omega arith
named_remove (talk_heard ∷ way) (suc at) = named_remove way at

pub none_removed : {X : Type 0} (xs : List X) (at : ℕ) → xs ≡ [] → remove xs at ≡ []
none_removed [] zero none = refl
none_removed [] (suc at) none = refl
none_removed (x ∷ xs) at none = absurd (cc)

-- what a Resend asks for, if more lines are issued, fewer acknowledged, or the printer restarts
asked_so : (d d' : Bool) (n n' a a' number : ℕ) → (d ≡ true → d' ≡ true) → n ≤ n' → a' ≤ a → IsAsked n a number ⊎ ((d ≡ true) × (number ≡ 1)) →
    IsAsked n' a' number ⊎ ((d' ≡ true) × (number ≡ 1))
asked_so d d' n n' a a' number so more fewer (inl is) =
    inl (record { place = is.place; is = is.is; above = omega (arith, is.above, fewer); within = omega (arith, is.within, more) })
asked_so d d' n n' a a' number so more fewer (inr first) = inr (so first.0, first.1)

pub names_so : (d d' : Bool) (n n' a a' k k' : ℕ) (way : List Heard) → (d ≡ true → d' ≡ true) → n ≤ n' → a' ≤ a → k ≤ k' → NamesRun d n a k way →
    NamesRun d' n' a' k' way
names_so d d' n n' a a' k k' [] so more fewer later is = tt
names_so d d' n n' a a' k k' (ok_heard None ∷ way) so more fewer later is = names_so d d' n n' a a' k k' way so more fewer later is
names_so d d' n n' a a' k k' (ok_heard (Some number) ∷ way) so more fewer later is = (
  omega (arith, is.0, later),
  names_so d d' n n' (max a (place_of number)) (max a' (place_of number)) k k' way so more (omega (arith, fewer)) later is.1,
)
names_so d d' n n' a a' k k' (resend_heard number ∷ way) so more fewer later is = (asked_so d d' n n' a a' number so more fewer is.0, names_so d d' n n' a a' k k' way so more fewer later is.1)
names_so d d' n n' a a' k k' (start_heard ∷ way) so more fewer later is = names_so d d' n n' a a' k k' way so more fewer later is
names_so d d' n n' a a' k k' (talk_heard ∷ way) so more fewer later is = names_so d d' n n' a a' k k' way so more fewer later is

-- more replies, which say what is so whatever the others acknowledge
pub names_append : (d d' : Bool) (n a k k' : ℕ) (way more : List Heard) → (d ≡ true → d' ≡ true) → k ≤ k' → a ≤ k →
    ((m : ℕ) → m ≤ k → NamesRun d' n m k' more) → NamesRun d n a k way → NamesRun d' n a k' (way ++ more)
names_append d d' n a k k' [] more so later few last is = last a few
names_append d d' n a k k' (ok_heard None ∷ way) more so later few last is = names_append d d' n a k k' way more so later few last is
names_append d d' n a k k' (ok_heard (Some number) ∷ way) more so later few last is = (
  omega (arith, is.0, later),
  names_append d d' n (max a (place_of number)) k k' way more so later (omega (arith, few, is.0)) last is.1,
)
names_append d d' n a k k' (resend_heard number ∷ way) more so later few last is =
    (asked_so d d' n n a a number so (omega arith) (omega arith) is.0, names_append d d' n a k k' way more so later few last is.1)
names_append d d' n a k k' (start_heard ∷ way) more so later few last is = names_append d d' n a k k' way more so later few last is
names_append d d' n a k k' (talk_heard ∷ way) more so later few last is = names_append d d' n a k k' way more so later few last is

-- a lost reply
pub names_remove : (d : Bool) (n a k : ℕ) (way : List Heard) (at : ℕ) → NamesRun d n a k way → NamesRun d n a k (remove way at)
names_remove d n a k [] zero is = tt
names_remove d n a k [] (suc at) is = tt
names_remove d n a k (ok_heard None ∷ way) zero is = is
names_remove d n a k (ok_heard None ∷ way) (suc at) is = names_remove d n a k way at is
names_remove d n a k (ok_heard (Some number) ∷ way) zero is =
    names_so d d n n (max a (place_of number)) a k k way (λ e. e) (omega arith) (omega arith) (omega arith) is.1
names_remove d n a k (ok_heard (Some number) ∷ way) (suc at) is = (is.0, names_remove d n (max a (place_of number)) k way at is.1)
names_remove d n a k (resend_heard number ∷ way) zero is = is.1
names_remove d n a k (resend_heard number ∷ way) (suc at) is = (is.0, names_remove d n a k way at is.1)
names_remove d n a k (start_heard ∷ way) zero is = is
names_remove d n a k (start_heard ∷ way) (suc at) is = names_remove d n a k way at is
names_remove d n a k (talk_heard ∷ way) zero is = is
names_remove d n a k (talk_heard ∷ way) (suc at) is = names_remove d n a k way at is

-- after the hello's `ok` no line is named yet
pub names_begin : (d : Bool) (way : List Heard) → resends way ≡ 0 → named_on way ≡ 0 → NamesRun d 0 0 0 way
names_begin d [] light none = tt
names_begin d (ok_heard None ∷ way) light none = names_begin d way light none
names_begin d (ok_heard (Some number) ∷ way) light none = absurd (omega (arith, none))
names_begin d (resend_heard number ∷ way) light none = absurd (omega (arith, light))
names_begin d (start_heard ∷ way) light none = names_begin d way light none
names_begin d (talk_heard ∷ way) light none = names_begin d way light none
