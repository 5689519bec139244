-- What a worker's place and the counter say of themselves, and what each of their calls leaves.
use Rattle.std.specs.Prelude.{◌≡◌, ℕ, Bool, true, false, List, [], ◌∷◌, Option, None, Result, IfOk, OnErr, IfSome}
use Rattle.octo_outside.specs.Recorded.{Adds}
use Rattle.octo_asks.specs.History.{History, Finishes, ask_given, own_call}
use Rattle.octo_asks.specs.Place.{Place}
use Rattle.octo_asks.specs.declared.answer.Answer.{Answer}
use Rattle.octo_asks.specs.declared.request.Ask.{Ask}
use Rattle.octo_asks.specs.declared.asker.Closed.{Closed}
use Rattle.octo_asks.specs.declared.counter.Given.{Given}
use Rattle.octo_asks.specs.declared.counter.Next.{Next}
use Rattle.octo_asks.specs.declared.entry.Entry.{Entry}
use Rattle.octo_asks.specs.declared.entry.Entry.TheVariants as entry

-- a worker's: its table and seat, its finished calls, if they are recorded, and whether it saw that the host has ended
pub record AskerState : Type 0 where
  pub place : Place
  pub mine : Option History
  pub saw_close : Bool

-- the counter's: its table and seat, the history, if it is recorded, the ask that was given out and isn't answered, and whether the
-- host has ended
pub record CounterState : Type 0 where
  pub place : Place
  pub past : Option History
  pub given : Option Given
  pub closed : Bool

-- a call of `ask`
pub record Asks (old : AskerState) (ask : Ask) (result : Result Answer Closed) (new : AskerState) : Type 0 where
  pub ok : IfOk result (λ answer. Finishes ask answer old.mine new.mine)
  pub err : OnErr result (new.mine ≡ old.mine)
  pub place : new.place ≡ old.place
  pub closed : OnErr result (new.saw_close ≡ true)
  pub seen : old.saw_close ≡ true → new.saw_close ≡ true

-- a call of `closed`
pub record LooksWhetherClosed (old : AskerState) (result : Bool) (new : AskerState) : Type 0 where
  pub closed : result ≡ true → new.saw_close ≡ true
  pub seen : old.saw_close ≡ true → new.saw_close ≡ true
  pub mine : new.mine ≡ old.mine
  pub place : new.place ≡ old.place

-- a call of `next`
pub record GivesNext (old : CounterState) (result : Next) (new : CounterState) : Type 0 where
  pub past : new.past ≡ old.past
  pub given : new.given ≡ ask_given result
  pub is_open : new.closed ≡ false
  pub place : new.place ≡ old.place

-- a call of `answer`
pub record Answers (old : CounterState) (worker moment : ℕ) (answer : Answer) (new : CounterState) : Type 0 where
  pub past : IfSome old.given (λ one. Adds old.past new.past (entry.Call worker one.ask moment answer ∷ []))
  pub given : new.given ≡ None
  pub is_open : new.closed ≡ false
  pub place : new.place ≡ old.place

-- a call that adds this entry
pub record Notes (old : CounterState) (added : Entry) (new : CounterState) : Type 0 where
  pub past : Adds old.past new.past (added ∷ [])
  pub given : new.given ≡ old.given
  pub is_open : new.closed ≡ false
  pub place : new.place ≡ old.place

-- a call of `close`
pub record Closes (old new : CounterState) : Type 0 where
  pub past : Adds old.past new.past (entry.Close ∷ [])
  pub given : new.given ≡ None
  pub closed : new.closed ≡ true
  pub place : new.place ≡ old.place
