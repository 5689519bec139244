-- Laws of options, over the words of std alone.
use Rattle.std.proofs.Common.{◌≡◌, true, false, Option, Some, None, is_some, refl}
use Rattle.std.specs.Option.{option_or}

-- what a present option holds
pub some-if-true : {X : Type 0} (o : Option X) → is_some o ≡ true → (x : X) × (o ≡ Some x)
some-if-true None some = absurd (cc)
some-if-true (Some x) some = (x, refl)

-- an option that isn't present is none
pub none-if-false : {X : Type 0} (o : Option X) → is_some o ≡ false → o ≡ None
none-if-false None h = refl
none-if-false (Some x) h = absurd (cc)

-- if neither of two is present, the first isn't
pub first-none : {X : Type 0} (first second : Option X) → option_or first second ≡ None → first ≡ None
first-none None second h = refl
first-none (Some x) second h = absurd (cc)

-- and the second isn't
pub second-none : {X : Type 0} (first second : Option X) → option_or first second ≡ None → second ≡ None
second-none None second h = h
second-none (Some x) second h = absurd (cc)
