-- Prints that are added one after the other.
use Rattle.std.proofs.Common.{◌≡◌, ℕ, ◌+◌, suc, Option, Some, None, length, IfSome, refl, ap, ◌∙◌, arith}
use Rattle.std.specs.Option.{option_map}
use Rattle.octo_keeper.specs.declared.tables.Tables.{Tables}
use Rattle.keeper_tool.specs.Prints.{with_print, with_prints, with_more}

-- one print more
pub one_more : (first n : ℕ) (old now next : Option Tables) → now ≡ option_map (with_prints first n) old → next ≡ option_map (with_print (first + n)) now
    → next ≡ option_map (with_prints first (n + 1)) old
one_more first n None now next was is = is ∙ ap (λ t. option_map (with_print (first + n)) t) was
one_more first n (Some t) now next was is = let e : n + 1 ≡ suc n = omega arith in rw e (is ∙ ap (λ t. option_map (with_print (first + n)) t) was)

-- the numbers after those that were loaded are those after what is held
pub numbered : (first n : ℕ) (loaded : Tables) (held : Option Tables) → first ≡ length loaded.prints + 1 → IfSome held (λ t. loaded ≡ t)
    → option_map (with_prints first n) held ≡ option_map (with_more n) held
numbered first n loaded None is same = refl
numbered first n loaded (Some t) is same = ap (λ k. Some (with_prints k n t)) (is ∙ ap (λ (u : Tables). length u.prints + 1) same)
