-- What a writer holds, call by call, if it is known.
use Rattle.std.proofs.Common.{ℕ, ◌+◌, List, [], ◌++◌, Option, Some, None, take, drop, ap, sym, refl, ◌∙◌}
use Rattle.std.specs.Io.KnownBytes.{Appends, Keeps}
use Rattle.std.proofs.Math.Seq.{take-add}
use Rattle.std.proofs.lemmas.List.{append-nil, append_assoc}

-- nothing was written yet
pub keeps_self : (a : Option (List ℕ)) → Keeps a a
keeps_self None = tt
keeps_self (Some xs) = refl

-- nothing was written twice
pub keeps_then : (a b c : Option (List ℕ)) → Keeps a b → Keeps b c → Keeps a c
keeps_then None b c k l = tt
keeps_then (Some xs) None c k l = absurd k
keeps_then (Some xs) (Some ys) None k l = l
keeps_then (Some xs) (Some ys) (Some zs) k l = l ∙ k

-- nothing was written, and then these bytes
pub keeps_appends : (a b c : Option (List ℕ)) (bytes : List ℕ) → Keeps a b → Appends b c bytes → Appends a c bytes
keeps_appends None b c bytes k p = tt
keeps_appends (Some xs) None c bytes k p = absurd k
keeps_appends (Some xs) (Some ys) None bytes k p = p
keeps_appends (Some xs) (Some ys) (Some zs) bytes k p = p ∙ ap (λ l. l ++ bytes) k

-- no bytes were written
pub appends_none : (a b : Option (List ℕ)) → Appends a b [] → Keeps a b
appends_none None b p = tt
appends_none (Some xs) None p = absurd p
appends_none (Some xs) (Some ys) p = p ∙ append-nil xs

-- the first bytes of a list, and then the next of what is left of it
pub appends_more : (a b c : Option (List ℕ)) (bytes : List ℕ) (i n : ℕ) → Appends a b (take i bytes) → Appends b c (take n (drop i bytes)) → Appends a c (take (i + n) bytes)
appends_more None b c bytes i n p q = tt
appends_more (Some xs) None c bytes i n p q = absurd p
appends_more (Some xs) (Some ys) None bytes i n p q = q
appends_more (Some xs) (Some ys) (Some zs) bytes i n p q =
    q ∙ ap (λ l. l ++ take n (drop i bytes)) p ∙ append_assoc xs (take i bytes) (take n (drop i bytes)) ∙ ap (λ l. xs ++ l) (sym (take-add i n bytes))
