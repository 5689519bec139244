-- A path without its empty parts, byte by byte.
use Rattle.std.proofs.Common.{◌≡◌, ℕ, ◌+◌, ◌<◌, ◌≤◌, List, [], ◌∷◌, length, drop, get_or, drop-cons, add-one, refl, ap, sym, ◌∙◌}
use Rattle.std.specs.Prelude.{if◌then◌else◌, ◌&&◌, ◌==◌}
use Rattle.std.proofs.lemmas.List.{drop_all}
use Rattle.octo_api_routes.specs.Places.{ends_part, plain_path}

plain_of_cons : (list : List ℕ) (byte : ℕ) (rest : List ℕ) → list ≡ byte ∷ rest
    → plain_path list ≡ (if byte == 47 && ends_part rest then plain_path rest else byte ∷ plain_path rest)
plain_of_cons list byte rest e = rw e refl

-- one step
pub plain_at : (path : List ℕ) (i : ℕ) → i < length path
    → plain_path (drop i path) ≡ (if get_or path i 0 == 47 && ends_part (drop (i + 1) path) then plain_path (drop (i + 1) path)
    else get_or path i 0 ∷ plain_path (drop (i + 1) path))
plain_at path i below =
    plain_of_cons (drop i path) (get_or path i 0) (drop (i + 1) path)
    (drop-cons path i 0 below ∙ ap (λ k. get_or path i 0 ∷ drop k path) (sym (add-one i)))

-- and the end
pub plain_end : (path : List ℕ) (i : ℕ) → length path ≤ i → plain_path (drop i path) ≡ []
plain_end path i past = ap plain_path (drop_all i path past)

pub ruleset plain_steps = (plain_at, plain_end)
