-- Lists read by `get_elem?`, and what an entry adds to the calls of a worker.
use Rattle.std.proofs.Common.{◌≡◌, ◌≢◌, ℕ, zero, suc, ◌+◌, ◌<◌, ◌==◌, Bool, true, false, ◌&&◌, ◌||◌, nat_lt, eqb, List, [], ◌∷◌, ◌++◌, length, filter, sym, refl, ap, ◌∙◌, arith, Option, Some, None, ne_eqb, eq-eqb}
use Rattle.std.proofs.lemmas.List.{append-nil}
use Rattle.std.proofs.lemmas.List.Elements.{filter-append}
use Rattle.std.proofs.lemmas.Bool.Decides.{nat_tests}
use Rattle.std.proofs.lemmas.List.Folds.{list_any-append, list_all-append}
use Rattle.std.proofs.Math.Bool.{or-false, or-true}
use mathlib.Core.Option.{some, none, some-ne-none}
use lib.ListN.{get_elem?}
use Rattle.octo_asks.specs.declared.request.Ask.{Ask}
use Rattle.octo_asks.specs.declared.answer.Answer.{Answer}
use Rattle.job_desk.specs.declared.issued.Note.{Note}
use Rattle.octo_asks.specs.declared.entry.Entry.{Entry}
use Rattle.octo_asks.specs.declared.entry.Entry.TheVariants as entry
use Rattle.octo_asks.specs.History.{History, calls_of, is_call_of, own_call}
use Rattle.octo_serve.specs.Views.{has_close, is_close, is_own, is_of_four, all_of_four, taken_of, ask_for}

module _ {A : Type 0} where
  pub within : (l : List A) (i : ℕ) (a : A) → get_elem? l i ≡ some a → i < length l
  within [] i a e = absurd (some-ne-none a (sym e))
  within (x ∷ xs) zero a e = omega arith
  within (x ∷ xs) (suc i) a e = let h = within xs i a e in omega arith

  pub beyond : (l : List A) → get_elem? l (length l) ≡ none
  beyond [] = refl
  beyond (x ∷ xs) = beyond xs

  pub at_end_else : (l : List A) (a : A) (i : ℕ) → i ≢ length l → get_elem? (l ++ a ∷ []) i ≡ get_elem? l i
  at_end_else [] a zero n = absurd (n refl)
  at_end_else [] a (suc i) n = refl
  at_end_else (x ∷ xs) a zero n = refl
  at_end_else (x ∷ xs) a (suc i) n = at_end_else xs a i (λ e. n (ap suc e))

-- a call adds to its worker's calls, and to no other's
pub calls_own : (history : History) (worker : ℕ) (ask : Ask) (moment : ℕ) (answer : Answer)
    → calls_of worker (history ++ entry.Call worker ask moment answer ∷ []) ≡ calls_of worker history ++ entry.Call worker ask moment answer ∷ []
calls_own history worker ask moment answer = filter-append (is_call_of worker) history _
    ∙ ap (λ (b : Bool). calls_of worker history ++ Rattle.std.proofs.Common.cond b (entry.Call worker ask moment answer ∷ []) []) (eq-eqb worker worker refl)

pub calls_other : (history : History) (worker other : ℕ) (ask : Ask) (moment : ℕ) (answer : Answer) → worker ≢ other
    → calls_of other (history ++ entry.Call worker ask moment answer ∷ []) ≡ calls_of other history
calls_other history worker other ask moment answer apart = filter-append (is_call_of other) history _
    ∙ (ap (λ (b : Bool). calls_of other history ++ Rattle.std.proofs.Common.cond b (entry.Call worker ask moment answer ∷ []) [])
    (ne_eqb worker other apart) ∙ append-nil (calls_of other history))

pub calls_note : (history : History) (worker : ℕ) (note : Note) → calls_of worker (history ++ entry.Note note ∷ []) ≡ calls_of worker history
calls_note history worker note = filter-append (is_call_of worker) history _ ∙ append-nil (calls_of worker history)

pub calls_close : (history : History) (worker : ℕ) → calls_of worker (history ++ entry.Close ∷ []) ≡ calls_of worker history
calls_close history worker = filter-append (is_call_of worker) history _ ∙ append-nil (calls_of worker history)

pub close_call : (history : History) (worker : ℕ) (ask : Ask) (moment : ℕ) (answer : Answer)
    → has_close (history ++ entry.Call worker ask moment answer ∷ []) ≡ has_close history
close_call history worker ask moment answer = list_any-append is_close history _ ∙ or-false (has_close history)

pub close_note : (history : History) (note : Note) → has_close (history ++ entry.Note note ∷ []) ≡ has_close history
close_note history note = list_any-append is_close history _ ∙ or-false (has_close history)

-- an entry that is no worker's call, and not the end
abbrev pub IsAside : Entry → Type 0
IsAside more = (is_close more ≡ false) × ((worker : ℕ) → worker < 4 → is_call_of worker more ≡ false)

pub calls_aside : (history : History) (worker : ℕ) (more : Entry) → is_call_of worker more ≡ false → calls_of worker (history ++ more ∷ []) ≡ calls_of worker history
calls_aside history worker more other = filter-append (is_call_of worker) history _
    ∙ (ap (λ (b : Bool). calls_of worker history ++ Rattle.std.proofs.Common.cond b (more ∷ []) []) other ∙ append-nil (calls_of worker history))

pub close_aside : (history : History) (more : Entry) → is_close more ≡ false → has_close (history ++ more ∷ []) ≡ has_close history
close_aside history more other = list_any-append is_close history _
    ∙ (ap (λ (b : Bool). has_close history || (b || false)) other ∙ or-false (has_close history))

pub note_aside : (note : Note) → IsAside (entry.Note note)
note_aside note = (refl, λ worker near. refl)

pub own_aside : (moment : ℕ) (answer : Answer) → IsAside (own_call moment answer)
own_aside moment answer = (refl, λ worker near. ne_eqb 4 worker (λ e. omega (arith, e)))

pub close_close : (history : History) → has_close (history ++ entry.Close ∷ []) ≡ true
close_close history = list_any-append is_close history _ ∙ or-true (has_close history)

-- an ask that is taken is its worker's, and no other's
pub taken_own : (worker : ℕ) (ask : Ask) → taken_of worker (Some (record { worker = worker; ask = ask })) ≡ Some ask
taken_own worker ask = ap (λ (b : Bool). ask_for b ask) (eq-eqb worker worker refl)

pub taken_other : (worker other : ℕ) (ask : Ask) → worker ≢ other → taken_of other (Some (record { worker = worker; ask = ask })) ≡ None
taken_other worker other ask apart = ap (λ (b : Bool). ask_for b ask) (ne_eqb worker other apart)

-- one entry more: a call of one of the four workers, or none
pub four_more : (history : History) (more : Entry) → is_of_four more ≡ true → all_of_four history ≡ true → all_of_four (history ++ more ∷ []) ≡ true
four_more history more one all = list_all-append is_of_four history (more ∷ []) ∙ (λ i. all i && (one i && true))

less_four : (worker : ℕ) → worker < 4 → nat_lt worker 4 ≡ true
less_four worker near = grind (arith, nat_tests)

pub near_four : (worker : ℕ) (ask : Ask) (moment : ℕ) (answer : Answer) → worker < 4 → is_of_four (entry.Call worker ask moment answer) ≡ true
near_four worker ask moment answer near = ap (λ (b : Bool). b || is_own worker ask.request) (less_four worker near)
