-- The connections that a host asks for by itself, by their moments in milliseconds.
use Rattle.std.specs.Prelude.{◌≡◌, ℕ, ◌≤◌, ◌==◌, Bool, true, false, if◌then◌else◌, List, [], ◌∷◌, Option, Some, None, IfSome}
use Rattle.job_desk.specs.Data.{moment_after}
use Rattle.job_desk.specs.declared.state.State.{State}
use Rattle.octo_asks.specs.History.{History, own_number}
use Rattle.octo_asks.specs.declared.counter.Given.{Given}
use Rattle.octo_asks.specs.declared.entry.Entry.TheVariants as entry
use Rattle.octo_house_run.specs.declared.reconnect.Reconnect.{Reconnect}
use Rattle.octo_house_run.specs.declared.reconnect.Reconnect.TheVariants.{Off, First, Watching, Due, Stopped}
use Rattle.octo_house_run.specs.Reconnecting.{first_wait, seen_in, is_due, after_asking}

-- the moments of the host's own calls, in order
abbrev pub own_moments : History → List ℕ
own_moments [] = []
own_moments (entry.Call worker ask moment x ∷ es) = if worker == own_number then moment ∷ own_moments es else own_moments es
own_moments (entry.Note note ∷ es) = own_moments es
own_moments (entry.Close ∷ es) = own_moments es

-- no ask that such a counter gives out has the number of the host's own calls
abbrev pub AsksOfWorkers : {C : Type 0} → (C → Option Given) → Type 0
AsksOfWorkers {C} given = (c : C) → IfSome (given c) (λ one. (one.worker == own_number) ≡ false)

-- each moment is at least the first wait after the one before; the first of them after this one, if there is one
abbrev pub AreApartAfter : Option ℕ → List ℕ → Type 0
AreApartAfter last [] = Unit {0}
AreApartAfter None (moment ∷ moments) = AreApartAfter (Some moment) moments
AreApartAfter (Some last) (moment ∷ moments) = (moment_after last first_wait ≤ moment) × AreApartAfter (Some moment) moments

-- a host that doesn't connect by itself makes no such call; one that does makes each at least the first wait after the one before
pub record ConnectsItself (connects : Bool) (added : History) : Type 0 where
  pub off : connects ≡ false → own_moments added ≡ []
  pub apart : AreApartAfter None (own_moments added)

-- what a host waits for after it has asked, or hasn't
abbrev pub asking_if : Bool → Reconnect → Reconnect
asking_if true r = after_asking r
asking_if false r = r

-- the moment at which it has asked, if it has
abbrev pub moment_if : Bool → ℕ → List ℕ
moment_if true moment = moment ∷ []
moment_if false moment = []

-- a look at the desk, which is in this state, after which the host asks only if that is due
pub record Looks (moment : ℕ) (old new : Reconnect) (added : History) : Type 0 where
  pub state : State
  pub asks : Bool
  pub due : asks ≡ true → is_due moment (seen_in state moment old) ≡ true
  pub waits : new ≡ asking_if asks (seen_in state moment old)
  pub moments : own_moments added ≡ moment_if asks moment

-- the last of these moments, after this one
abbrev pub last_after : Option ℕ → List ℕ → Option ℕ
last_after last [] = last
last_after last (moment ∷ moments) = last_after (Some moment) moments

-- the last moment isn't later than this one
abbrev pub HasPassed : ℕ → List ℕ → Type 0
HasPassed now moments = IfSome (last_after None moments) (λ last. last ≤ now)

-- nor is it less than the first wait before this one
abbrev pub HasWaited : ℕ → List ℕ → Type 0
HasWaited at moments = IfSome (last_after None moments) (λ last. moment_after last first_wait ≤ at)

-- what a host waits for fits the calls that it made until now
abbrev pub Fits : Reconnect → ℕ → List ℕ → Type 0
Fits Off now moments = moments ≡ []
Fits First now moments = moments ≡ []
Fits (Watching wait) now moments = (first_wait ≤ wait) × HasPassed now moments
Fits (Due at wait) now moments = (first_wait ≤ wait) × HasPassed now moments × HasWaited at moments
Fits Stopped now moments = HasPassed now moments

-- the same, of a host that connects by itself or doesn't
pub record Waits (connects : Bool) (r : Reconnect) (now : ℕ) (moments : List ℕ) : Type 0 where
  pub off : connects ≡ false → r ≡ Off
  pub apart : AreApartAfter None moments
  pub fits : Fits r now moments
