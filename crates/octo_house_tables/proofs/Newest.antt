-- The newest rows that pass a test, read from the end.
use Rattle.std.proofs.Common.{◌≡◌, ℕ, suc, ◌+◌, ◌<◌, Bool, true, false, List, [], ◌∷◌, ◌++◌, length, get_or, take, map, filter, reverse, refl, sym, ap, ◌∙◌, append_assoc, append-nil, arith}
use Rattle.std.proofs.lemmas.List.{take_more, reverse-append}
use Rattle.std.proofs.lemmas.List.Elements.{filter-append}

-- the first rows that pass, newest first, as they are shown, at most this number of them
abbrev pub newest : {X Y : Type 0} → (X → Y) → (X → Bool) → ℕ → ℕ → List X → List Y
newest show test free left rows = map show (take free (reverse (filter test (take left rows))))

passing : {X : Type 0} (test : X → Bool) (row : X) (before : List X) → test row ≡ true
    → reverse (filter test (before ++ row ∷ [])) ≡ row ∷ reverse (filter test before)
passing test row before is =
    let one : filter test (row ∷ []) ≡ row ∷ [] = rw is refl in
    ap reverse (filter-append test before (row ∷ []) ∙ ap (λ rows. filter test before ++ rows) one) ∙ reverse-append (filter test before) (row ∷ [])

failing : {X : Type 0} (test : X → Bool) (row : X) (before : List X) → test row ≡ false
    → reverse (filter test (before ++ row ∷ [])) ≡ reverse (filter test before)
failing test row before is =
    let none : filter test (row ∷ []) ≡ [] = rw is refl in
    ap reverse (filter-append test before (row ∷ []) ∙ ap (λ rows. filter test before ++ rows) none ∙ append-nil (filter test before))

-- one row more of the first ones
one-more : {X : Type 0} (left more : ℕ) (rows : List X) (row : X) → more ≡ left + 1 → left < length rows → row ≡ get_or rows left row
    → take more rows ≡ take left rows ++ row ∷ []
one-more left more rows row next within at = rw next (take_more rows left row within ∙ ap (λ r. take left rows ++ r ∷ []) (sym at))

-- a row that passes is shown
front-more : {X Y : Type 0} (show : X → Y) (free some : ℕ) (row : X) (rows : List X) → some ≡ free + 1
    → map show (take some (row ∷ rows)) ≡ show row ∷ map show (take free rows)
front-more show free some row rows next = let e : some ≡ suc free = omega arith in rw e refl

pub newest-more : {X Y : Type 0} (show : X → Y) (test : X → Bool) (free some left more : ℕ) (rows : List X) (shown : List Y) (row : X)
    → some ≡ free + 1 → more ≡ left + 1 → left < length rows → row ≡ get_or rows left row → test row ≡ true
    → shown ++ newest show test some more rows ≡ (shown ++ show row ∷ []) ++ newest show test free left rows
newest-more show test free some left more rows shown row fewer next within at is =
    let all : reverse (filter test (take more rows)) ≡ row ∷ reverse (filter test (take left rows)) =
    ap (λ rs. reverse (filter test rs)) (one-more left more rows row next within at) ∙ passing test row (take left rows) is in
    let front : newest show test some more rows ≡ show row ∷ newest show test free left rows =
    ap (λ rs. map show (take some rs)) all ∙ front-more show free some row (reverse (filter test (take left rows))) fewer in
    ap (λ ys. shown ++ ys) front ∙ sym (append_assoc shown (show row ∷ []) (newest show test free left rows))

-- one that fails isn't
pub newest-same : {X Y : Type 0} (show : X → Y) (test : X → Bool) (free left more : ℕ) (rows : List X) (row : X) → more ≡ left + 1
    → left < length rows → row ≡ get_or rows left row → test row ≡ false
    → newest show test free more rows ≡ newest show test free left rows
newest-same show test free left more rows row next within at is =
    ap (λ rs. map show (take free rs)) (ap (λ rs. reverse (filter test rs)) (one-more left more rows row next within at) ∙ failing test row (take left rows) is)
