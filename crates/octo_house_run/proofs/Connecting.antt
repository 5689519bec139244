-- What the host's own call leaves and counts.
use Rattle.std.proofs.Common.{◌≡◌, ℕ, Bool, true, false, List, [], ◌∷◌, None, refl, sym, ◌∙◌, arith}
use Rattle.std.proofs.lemmas.Bool.{false≢true}
use Rattle.octo_outside.specs.Recorded.{Counts}
use Rattle.octo_keeper.specs.declared.shelf.ShelfFile.{ShelfFile}
use Rattle.octo_asks.specs.History.{own_number, own_ask, own_call}
use Rattle.octo_asks.specs.declared.answer.Answer.{Answer}
use Rattle.octo_house.proofs.Fileless.{left-after, free-leaves}
use Rattle.octo_house_rules.specs.Answers.{verdict}
use Rattle.octo_house_rules.specs.Faults.{is_keepers, is_shelfs}
use Rattle.octo_house_rules.specs.Known.{Known}
use Rattle.octo_house_rules.specs.Verdict.{files_after}
use Rattle.octo_house_run_proof.specs.Rounds.{AsksAt}
use Rattle.octo_house_run_proof.proofs.Counting.{call_asks}
use Rattle.octo_house_run.specs.Tallies.{AreOf}

-- the files stay
pub own_leaves : (files : List ShelfFile) (k : Known) (x : Answer) → files_after (verdict own_ask files k) x files ≡ files
own_leaves files k x = left-after (verdict own_ask files k) x files (free-leaves own_ask.key own_ask.request files k)

-- it isn't counted
pub own_counts : (moment : ℕ) (x : Answer) → AreOf None (own_call moment x ∷ [])
own_counts moment x = record { calls = refl; leaves = refl; shut = refl }

-- an answer that is no fault needn't be counted as one
uncounted : (fault : Bool) (count : ℕ) → fault ≡ false → Counts (fault ≡ true) count count
uncounted fault count plain = record { later = omega arith; rose = λ is. absurd (false≢true (sym plain ∙ is)) }

pub own_asks : (moment keeper shelf : ℕ) (x : Answer) → is_keepers x ≡ false → is_shelfs x ≡ false
    → AsksAt moment keeper keeper shelf shelf (own_call moment x ∷ [])
own_asks moment keeper shelf x keepers shelfs =
    call_asks moment keeper keeper shelf shelf own_number own_ask x (uncounted (is_keepers x) keeper keepers) (uncounted (is_shelfs x) shelf shelfs)
