-- What holds of each two items of a list, by recursion on the list.
use Rattle.std.proofs.Common.{List, [], ◌∷◌, suc, arith}
use Rattle.std.specs.List.{AllPairs, AllByRecursion}
use Rattle.std.proofs.lemmas.List.Elements.{All-from_recursion, recursion_from_All}
use Rattle.std.proofs.lemmas.List.Kept.{AllPairs-cons}

-- each item and each later one are in this relation
abbrev pub Pairs : {X : Type 0} → (X → X → Type 0) → List X → Type 0
Pairs R [] = Unit {0}
Pairs R (x ∷ xs) = AllByRecursion (R x) xs × Pairs R xs

pub pairs_from : {X : Type 0} (R : X → X → Type 0) (xs : List X) → AllPairs R xs → Pairs R xs
pairs_from R [] all = tt
pairs_from R (x ∷ xs) all = (
  recursion_from_All (R x) xs (λ k d within. all 0 (suc k) d (omega arith) (omega arith)),
  pairs_from R xs (λ i j d below within. all (suc i) (suc j) d (omega arith) (omega arith)),
)

pub pairs_to : {X : Type 0} (R : X → X → Type 0) (xs : List X) → Pairs R xs → AllPairs R xs
pairs_to R [] pairs = λ i j d below within. absurd (omega arith)
pairs_to R (x ∷ xs) pairs = AllPairs-cons R x xs (All-from_recursion (R x) xs pairs.0) (pairs_to R xs pairs.1)

-- what holds of each item goes over to what follows from it
pub each_so : {X : Type 0} (P Q : X → Type 0) → ((x : X) → P x → Q x) → (xs : List X) → AllByRecursion P xs → AllByRecursion Q xs
each_so P Q so [] each = tt
each_so P Q so (x ∷ xs) each = (so x each.0, each_so P Q so xs each.1)

-- two facts of each item are one
pub each_both : {X : Type 0} (P Q R : X → Type 0) → ((x : X) → P x → Q x → R x) → (xs : List X) → AllByRecursion P xs → AllByRecursion Q xs → AllByRecursion R xs
each_both P Q R both [] first second = tt
each_both P Q R both (x ∷ xs) first second = (both x first.0 second.0, each_both P Q R both xs first.1 second.1)
