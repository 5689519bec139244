-- A house's end gives out no ask with the number of the house's own calls.
use Rattle.std.proofs.Common.{◌≡◌, Bool, true, false, not, Option, Some, None, refl}
use Rattle.std.specs.Prelude.{◌==◌, IfSome}
use Rattle.std.proofs.lemmas.Bool.{false≢true}
use Rattle.octo_asks.specs.History.{own_number}
use Rattle.octo_asks.specs.declared.counter.Given.{Given}
use Rattle.octo_serve.specs.Own.{is_of_worker}

is_false : (b : Bool) → not b ≡ true → b ≡ false
is_false true is = absurd (false≢true is)
is_false false is = refl

pub asks_of_worker : (given : Option Given) → is_of_worker given ≡ true → IfSome given (λ one. (one.worker == own_number) ≡ false)
asks_of_worker None is = tt
asks_of_worker (Some one) is = is_false (one.worker == own_number) is
