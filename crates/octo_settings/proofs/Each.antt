-- A list read item by item: what was read so far, and the items that are left.
use Rattle.std.proofs.Common.{◌≡◌, ℕ, ◌+◌, List, [], ◌∷◌, ◌++◌, drop, Some, Result, Ok, Err, refl, ap, sym, append_assoc, append-nil, suc, zero, arith}
use Rattle.std.specs.List.{slice_get}
use Rattle.octo_settings.specs.Values.{and_then, each_from}
use Rattle.octo_settings.specs.declared.fault.SettingsFault.{SettingsFault}

-- what is read is what was read so far and then this
abbrev pub prepended : {B : Type 0} → List B → Result (List B) SettingsFault → Result (List B) SettingsFault
prepended done rest = and_then rest (λ ys. Ok (done ++ ys))

one-more : {B : Type 0} (done : List B) (y : B) (rest : Result (List B) SettingsFault) → prepended done (and_then rest (λ ys. Ok (y ∷ ys))) ≡ prepended (done ++ y ∷ []) rest
one-more done y (Ok ys) = ap (λ zs. Ok zs) (sym (append_assoc done (y ∷ []) ys))
one-more done y (Err fault) = refl

pub each-ok : {A B : Type 0} (read : ℕ → A → Result B SettingsFault) (n : ℕ) (x : A) (xs left : List A) (done : List B) (y : B) → left ≡ x ∷ xs → read n x ≡ Ok y → prepended done (each_from read n left) ≡ prepended (done ++ y ∷ []) (each_from read (n + 1) xs)
each-ok read n x xs left done y is found = rw (is, found) (one-more done y (each_from read (n + 1) xs))

pub each-err : {A B : Type 0} (read : ℕ → A → Result B SettingsFault) (n : ℕ) (x : A) (xs left : List A) (done : List B) (fault : SettingsFault) → left ≡ x ∷ xs → read n x ≡ Err fault → prepended done (each_from read n left) ≡ Err fault
each-err read n x xs left done fault is found = rw (is, found) refl

pub each-end : {A B : Type 0} (read : ℕ → A → Result B SettingsFault) (n : ℕ) (left : List A) (done : List B) → left ≡ [] → prepended done (each_from read n left) ≡ Ok done
each-end read n left done is = rw is (ap (λ zs. Ok zs) (append-nil done))

pub each-start : {B : Type 0} (rest : Result (List B) SettingsFault) → rest ≡ prepended [] rest
each-start (Ok ys) = refl
each-start (Err fault) = refl

-- the items from one on, if that one is known
pub drop-got : {A : Type 0} (xs : List A) (i : ℕ) (x : A) → slice_get xs i ≡ Some x → drop i xs ≡ x ∷ drop (i + 1) xs
drop-got [] i x h = absurd (cc)
drop-got (y ∷ xs) zero x h = let e : y ≡ x = cc in rw e refl
drop-got (y ∷ xs) (suc i) x h = let e : suc i + 1 ≡ suc (i + 1) = omega arith in rw e (drop-got xs i x h)
