-- Laws of tests and of choices, over the words of std alone.
use Rattle.std.proofs.Common.{◌≡◌, Bool, true, false, cond, refl, sym, ◌∙◌}
use Rattle.std.proofs.lemmas.Bool.{false≢true}

-- no test both fails and passes
pub off_on : (b : Bool) → b ≡ false → b ≡ true → ⊥
off_on b off on = false≢true (sym off ∙ on)

-- a choice between two that are the same
pub same_if : {A : Type 0} (b : Bool) (a : A) → cond b a a ≡ a
same_if true a = refl
same_if false a = refl
