-- Lists of lines and the lists of their bytes.
use Rattle.std.proofs.Common.{◌≡◌, ℕ, zero, suc, List, [], ◌∷◌, ◌++◌, take, drop, refl, sym, ◌∙◌, ap, map}
use Rattle.std.specs.List.{remove}
use Rattle.std.proofs.lemmas.List.{map-append, take-map}

pub drop_map : {X Y : Type 0} (f : X → Y) (n : ℕ) (xs : List X) → drop n (map f xs) ≡ map f (drop n xs)
drop_map f zero xs = refl
drop_map f (suc n) [] = refl
drop_map f (suc n) (x ∷ xs) = drop_map f n xs

-- without the item at a place
pub map_remove : {X Y : Type 0} (f : X → Y) (xs : List X) (at : ℕ) → map f (remove xs at) ≡ remove (map f xs) at
map_remove f xs at =
    map-append f (take at xs) (drop (suc at) xs)
    ∙ ap (λ l. l ++ map f (drop (suc at) xs)) (sym (take-map f at xs))
    ∙ ap (λ l. take at (map f xs) ++ l) (sym (drop_map f (suc at) xs))
