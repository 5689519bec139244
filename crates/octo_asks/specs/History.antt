-- The history of a print host, and what a counter and an asker add to it.
use Rattle.std.specs.Prelude.{◌≡◌, ℕ, Bool, false, ◌==◌, List, [], ◌∷◌, filter, Option, Some, None}
use Rattle.octo_outside.specs.Recorded.{Became}
use Rattle.octo_asks.specs.declared.answer.Answer.{Answer}
use Rattle.octo_asks.specs.declared.request.Ask.{Ask}
use Rattle.octo_asks.specs.declared.request.Request.TheVariants as request
use Rattle.octo_asks.specs.declared.entry.Entry.{Entry}
use Rattle.octo_asks.specs.declared.entry.Entry.TheVariants as entry
use Rattle.octo_asks.specs.declared.counter.Given.{Given}
use Rattle.octo_asks.specs.declared.counter.Next.{Next}
use Rattle.octo_asks.specs.declared.counter.Next.TheVariants as next

-- a history, oldest entry first
abbrev pub History : Type 0
History = List Entry

-- the entry is a call of this worker
abbrev pub is_call_of : ℕ → Entry → Bool
is_call_of worker (entry.Call caller ask moment answer) = caller == worker
is_call_of worker (entry.Note note) = false
is_call_of worker entry.Close = false

-- the calls of a worker, in order
abbrev pub calls_of : ℕ → History → History
calls_of worker history = filter (is_call_of worker) history

-- the number at which the host's own calls are in the history; the workers have smaller ones
abbrev pub own_number : ℕ
own_number = 4

-- the host's own ask, which has no key
abbrev pub own_ask : Ask
own_ask = record { key = []; request = request.AutoConnect }

-- the host's own call
abbrev pub own_call : ℕ → Answer → Entry
own_call moment answer = entry.Call own_number own_ask moment answer

-- the ask that is given out, if there is one
abbrev pub ask_given : Next → Option Given
ask_given next.Nothing = None
ask_given (next.Asked worker ask) = Some (record { worker = worker; ask = ask })

-- this worker's ask is given out and isn't answered
abbrev pub IsGiven : ℕ → Option Given → Type 0
IsGiven worker given = (one : Given) × (given ≡ Some one) × (one.worker ≡ worker)

-- the entries are one call, of this ask with this answer
abbrev pub IsCall : Ask → Answer → List Entry → Type 0
IsCall ask answer entries = (worker : ℕ) × (moment : ℕ) × (entries ≡ entry.Call worker ask moment answer ∷ [])

-- one finished call more, of this ask with this answer
abbrev pub Finishes : Ask → Answer → Option History → Option History → Type 0
Finishes ask answer old new = Became old new (λ _ added. IsCall ask answer added)
