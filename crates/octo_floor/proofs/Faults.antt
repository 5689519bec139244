-- How the first fault of a run comes with the counts of a keeper and a shelf.
use Rattle.std.proofs.Common.{◌≡◌, ℕ, ◌≤◌, ◌<◌, ◌⊎◌, inl, inr, Option, None, Some, refl, sym, ◌∙◌, arith}
use Rattle.std.proofs.lemmas.Bool.{cases_lt}
use Rattle.octo_outside.specs.Recorded.{Rose, last_count}
use Rattle.octo_floor_bay.specs.declared.end.FloorFault.{FloorFault}
use Rattle.octo_floor_bay.specs.declared.end.FloorFault.TheVariants.{KeeperFailed, ShelfFailed}
use Rattle.octo_floor.specs.Ledger.{first_fault}
use Rattle.octo_floor.specs.Objects.{FaultsCame}

pub rose_more : (a b c : ℕ) → Rose a b → b ≤ c → Rose a c
rose_more a b c rose more = λ shown. let so = rose shown in omega (arith, so, more)

pub rose_later : (a b c : ℕ) → a ≤ b → b ≤ c → Rose b c → Rose a c
rose_later a b c less more rose = λ shown. by shown (cases_lt b last_count)
  where
    by : a < last_count → (b < last_count) ⊎ (last_count ≤ b) → a < c
    by shown (inl small) = let so = rose small in omega (arith, so, less)
    by shown (inr great) = omega (arith, great, shown, more)

-- no fault came
pub none_came : (fault : Option FloorFault) (keeper keeper' shelf shelf' : ℕ) → keeper ≤ keeper' → shelf ≤ shelf' → FaultsCame fault fault keeper keeper' shelf shelf'
none_came fault keeper keeper' shelf shelf' k s = record {
  stays = λ why is. is;
  keepers = λ none is. absurd (cc (none, is));
  shelfs = λ none is. absurd (cc (none, is));
  keeper_later = k;
  shelf_later = s;
}

-- a fault came, with its own count
pub one_came : (was : Option FloorFault) (why : FloorFault) (keeper keeper' shelf shelf' : ℕ) → keeper ≤ keeper' → shelf ≤ shelf' →
    (why ≡ KeeperFailed → Rose keeper keeper') → (why ≡ ShelfFailed → Rose shelf shelf') → FaultsCame was (first_fault was why) keeper keeper' shelf shelf'
one_came None why keeper keeper' shelf shelf' k s keepers shelfs = record {
  stays = λ other is. absurd (cc is);
  keepers = λ none is. keepers (cc is);
  shelfs = λ none is. shelfs (cc is);
  keeper_later = k;
  shelf_later = s;
}
one_came (Some first) why keeper keeper' shelf shelf' k s keepers shelfs = none_came (Some first) keeper keeper' shelf shelf' k s

-- faults came in two parts
pub came_then : (was mid now : Option FloorFault) (k l m s t u : ℕ) → FaultsCame was mid k l s t → FaultsCame mid now l m t u → FaultsCame was now k m s u
came_then was None now k l m s t u a b = record {
  stays = λ why is. absurd (cc (a.stays why is));
  keepers = λ none is. rose_later k l m a.keeper_later b.keeper_later (b.keepers refl is);
  shelfs = λ none is. rose_later s t u a.shelf_later b.shelf_later (b.shelfs refl is);
  keeper_later = let x = a.keeper_later in let y = b.keeper_later in omega (arith, x, y);
  shelf_later = let x = a.shelf_later in let y = b.shelf_later in omega (arith, x, y);
}
came_then was (Some first) now k l m s t u a b =
    let is : now ≡ Some first = b.stays first refl in
    record {
      stays = λ why was_is. is ∙ a.stays why was_is;
      keepers = λ none now_is. rose_more k l m (a.keepers none (sym is ∙ now_is)) b.keeper_later;
      shelfs = λ none now_is. rose_more s t u (a.shelfs none (sym is ∙ now_is)) b.shelf_later;
      keeper_later = let x = a.keeper_later in let y = b.keeper_later in omega (arith, x, y);
      shelf_later = let x = a.shelf_later in let y = b.shelf_later in omega (arith, x, y);
    }
