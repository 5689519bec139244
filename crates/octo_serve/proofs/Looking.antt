-- Looks in turn that show no ask.
use Rattle.std.proofs.Common.{◌≡◌, ◌≢◌, ℕ, suc, ◌+◌, ◌%◌, List, [], ◌∷◌, ◌++◌, sym, refl, ap, ◌∙◌}
use Rattle.std.proofs.lemmas.List.{append-nil, append_assoc}
use Rattle.octo_serve.specs.declared.board.HouseView.{HouseView}
use Rattle.octo_serve.specs.Steps.{with_look}
use Rattle.octo_serve.specs.Ends.{AfterLooks}

pub no_look : (first : ℕ) (house : HouseView) → AfterLooks first 0 house house
no_look first house = ([], ap (λ (l : List (ℕ × ℕ)). record house { looked = l }) (sym (append-nil house.looked)), refl)

pub look_more : (first count found : ℕ) (old between new : HouseView) → AfterLooks first count old between → found ≢ 1
    → new ≡ with_look between ((first + count) % 4) found
    → AfterLooks first (suc count) old new
look_more first count found old between new so_far other e = let look : List (ℕ × ℕ) = ((first + count) % 4, found) ∷ [] in (
  so_far.0 ++ look,
  e ∙ (ap (λ (h : HouseView). with_look h ((first + count) % 4) found) so_far.1 ∙ ap (λ (l : List (ℕ
      × ℕ)). record old { looked = l }) (append_assoc old.looked so_far.0 look)),
  (so_far.0, found, refl, other, so_far.2),
)
