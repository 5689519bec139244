-- The calls that a worker's asks add, and the replies that follow.
use Rattle.std.proofs.Common.{◌≡◌, ℕ, Bool, true, false, List, [], ◌∷◌, ◌++◌, Option, Some, None, refl, sym, subst, ◌∙◌}
use Rattle.std.specs.Prelude.{Result, Ok, Err, IfOk, OnErr, IfSome, IfNone}
use Rattle.octo_outside.specs.Recorded.{Adds}
use Rattle.octo_outside.proofs.Recorded.{adds_none}
use Rattle.octo_http.specs.declared.head.Head.{Head}
use Rattle.octo_asks.specs.declared.answer.Answer.{Answer}
use Rattle.octo_asks.specs.declared.answer.Answer.TheVariants as answer
use Rattle.octo_asks.specs.declared.asker.Closed.{Closed}
use Rattle.octo_asks.specs.declared.request.Ask.{Ask}
use Rattle.octo_asks.specs.declared.entry.Entry.TheVariants as entry
use Rattle.octo_asks.specs.History.{History, Finishes}
use Rattle.octo_api_worker.specs.declared.reply.WorkerReply.{WorkerReply}
use Rattle.octo_api_worker.specs.Served.{needs_key, whom_ask, refusal_of, Admits, known_key, RepliesWith, IsTurnedAway, by_key, by_end}
use Rattle.octo_api_worker.specs.Worked.{no_leave, one_leave, leave_ask, HasLeft}
use Rattle.std.proofs.lemmas.Option.{same_Some, none-some}

-- nothing is added if all stays
pub added_none : {A : Type 0} (old new : Option (List A)) → new ≡ old → Adds old new []
added_none {A} old new same =
    let At : Option (List A) → Type 0 = λ now. Adds old now [] in
    subst At (sym same) (adds_none old)

-- the call that an answered ask adds; of a worker that doesn't record its calls, any
pub call_of : (ask : Ask) (answer : Answer) (mine mine' : Option History) → Finishes ask answer mine mine'
    → (worker : ℕ) × (moment : ℕ) × Adds mine mine' (entry.Call worker ask moment answer ∷ [])
call_of ask answer mine None finishes = (0, 0, λ now e. absurd (none-some now e))
call_of ask answer mine (Some now) finishes =
    let got = finishes now refl in
    (got.4.0, got.4.1, λ other e. (got.0, got.1, got.2, sym (same_Some now other e) ∙ got.3, got.4.2))

-- what a worker's last ask adds: a call, or nothing if the host has ended
left_by : (result : Result Answer Closed) (mine mine' : Option History) (saw_close : Bool)
    → IfOk result (λ answer. Finishes leave_ask answer mine mine') → OnErr result (mine' ≡ mine) → OnErr result (saw_close ≡ true)
    → HasLeft mine mine' saw_close
left_by (Ok answer) mine mine' saw_close finishes same closed =
    let call = call_of leave_ask answer mine mine' finishes in
    (entry.Call call.0 leave_ask call.1 answer ∷ [], one_leave call.0 call.1 answer, call.2, λ none. absurd cc)
left_by (Err end) mine mine' saw_close finishes same closed = ([], no_leave, added_none mine mine' same, λ _. closed)

-- the same of an ask that is that one
pub left_by_ask : (ask : Ask) (result : Result Answer Closed) (mine mine' : Option History) (saw_close : Bool)
    → IfOk result (λ answer. Finishes ask answer mine mine') → ask ≡ leave_ask → OnErr result (mine' ≡ mine) → OnErr result (saw_close ≡ true)
    → HasLeft mine mine' saw_close
left_by_ask ask result mine mine' saw_close finishes is same closed =
    left_by result mine mine' saw_close (subst (λ (a : Ask). IfOk result (λ answer. Finishes a answer mine mine')) is finishes) same closed

-- the call before a body is read, once the key is known to name somebody
pub known_by : (head : Head) (ask : Ask) (a : Answer) (mine mine' : Option History) → needs_key head ≡ true → ask ≡ whom_ask head.key
    → refusal_of a ≡ None → Finishes ask a mine mine' → (first : History) × Admits head first × Adds mine mine' first
known_by head ask a mine mine' needs is known finishes =
    let Done : Ask → Type 0 = λ one. Finishes one a mine mine' in
    let call = call_of (whom_ask head.key) a mine mine' (subst Done is finishes) in
    (entry.Call call.0 (whom_ask head.key) call.1 a ∷ [], known_key call.0 call.1 a needs known, call.2)

-- and if it isn't
pub turned_by : (origins : List (List ℕ)) (head : Head) (ask : Ask) (a refusal : Answer) (reply : WorkerReply) (mine mine' : Option History)
    → needs_key head ≡ true → ask ≡ whom_ask head.key → refusal_of a ≡ Some refusal → RepliesWith origins head refusal reply → Finishes ask a mine mine'
    → (calls : History) × IsTurnedAway origins head reply true calls × Adds mine mine' calls
turned_by origins head ask a refusal reply mine mine' needs is refuses replies finishes =
    let Done : Ask → Type 0 = λ one. Finishes one a mine mine' in
    let call = call_of (whom_ask head.key) a mine mine' (subst Done is finishes) in
    (entry.Call call.0 (whom_ask head.key) call.1 a ∷ [], by_key call.0 call.1 a refusal reply needs refuses replies, call.2)

-- or the host has ended
pub turned_at_end : (origins : List (List ℕ)) (head : Head) (reply : WorkerReply) (mine mine' : Option History)
    → needs_key head ≡ true → RepliesWith origins head answer.Closed reply → mine' ≡ mine
    → (calls : History) × IsTurnedAway origins head reply false calls × Adds mine mine' calls
turned_at_end origins head reply mine mine' needs replies same = ([], by_end reply needs replies, added_none mine mine' same)

-- what holds if there is none, and of what there is
pub none_so : {A : Type 0} (o : Option A) (P Q : Type 0) → (P → Q) → IfNone o P → IfNone o Q
none_so {A} None P Q so holds = so holds
none_so {A} (Some x) P Q so holds = tt

pub some_so : {A : Type 0} (o : Option A) (P Q : A → Type 0) → ((x : A) → P x → Q x) → IfSome o P → IfSome o Q
some_so {A} None P Q so holds = tt
some_so {A} (Some x) P Q so holds = so x holds
