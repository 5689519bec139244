-- The replies that a text lists.
use Rattle.std.proofs.Common.{◌≡◌, ℕ, Bool, false, List, sym, ◌∙◌, ap, codes}
use Rattle.std.specs.Prelude.{if◌then◌else◌, Option, Some, Result, Ok, Err, IfOk, []}
use Rattle.std.specs.List.{slice_split}
use Rattle.std.specs.Str.{bytes_eq}
use Rattle.octo_words.specs.Words.{replies_above, replies_in, is_comma}

-- those of a text that is cut at its commas
pub replies_cut : {E : Type 0} (text : List ℕ) (pieces : List (List ℕ)) (result : Result (Option (List ℕ)) E) → bytes_eq text (codes "-") ≡ false
    → pieces ≡ slice_split is_comma text → IfOk result (λ replies. replies ≡ replies_above 0 pieces) → IfOk result (λ replies. replies ≡ replies_in text)
replies_cut text pieces (Ok replies) other cut is =
    is ∙ ap (λ (p : List (List ℕ)). replies_above 0 p) cut
    ∙ sym (ap (λ (b : Bool). if b then Some [] else replies_above 0 (slice_split is_comma text)) other)
replies_cut text pieces (Err error) other cut is = tt
