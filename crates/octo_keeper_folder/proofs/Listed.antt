-- A folder's files stay in order.
use Rattle.std.proofs.Common.{◌≡◌, ℕ, Bool, true, false, List, [], ◌∷◌, All, refl, arith}
use Rattle.std.specs.List.{insert, prefix_len}
use Rattle.std.specs.Cmp.{IsStrictWeakOrder}
use Rattle.std.proofs.lemmas.Cmp.{nat_list_cmp_total}
use Rattle.std.proofs.lemmas.List.Sorted.{ranks_by}
use Rattle.std.proofs.lemmas.List.Elements.{All-cons, All-head, All-nil, All-tail}
use Rattle.octo_access.proofs.Inserted.{insert_here, insert_past, sorted-inserted}
use Rattle.octo_access.specs.FileNames.{is_file_name}
use Rattle.octo_keeper_folder.specs.Listed.{IsListing, with_listed}
use Rattle.octo_access.specs.Rows.{is_before}

-- what holds of all elements and of one more holds of all after it is inserted
all_inserted : {X : Type 0} (P : X → Type 0) (before : X → Bool) (x : X) (xs : List X) → P x → All P xs → All P (insert xs (prefix_len before xs) x)
all_inserted P before x [] p all = All-cons P x [] p (All-nil P)
all_inserted {X} P before x (y ∷ ys) p all = by (before y) refl (all_inserted P before x ys p (All-tail P y ys all))
  where
    by : (b : Bool) → before y ≡ b → All P (insert ys (prefix_len before ys) x) → All P (insert (y ∷ ys) (prefix_len before (y ∷ ys)) x)
    by true is rest =
        rw (insert_past before x y ys is) (All-cons P y (insert ys (prefix_len before ys) x) (All-head P y ys all) rest)
    by false is rest = rw (insert_here before x y ys is) (All-cons P x (y ∷ ys) p all)

by_name : IsStrictWeakOrder (λ (a b : List ℕ × ℕ). is_before a.0 b.0)
by_name = ranks_by nat_list_cmp_total (λ (file : List ℕ × ℕ). file.0)

-- no files
pub none_listed : IsListing []
none_listed = record { named = All-nil (λ file. is_file_name file.0 ≡ true); ordered = λ k d low high. absurd (omega arith) }

-- one more
pub one_listed : (file : List ℕ × ℕ) (files : List (List ℕ × ℕ)) → is_file_name file.0 ≡ true → IsListing files → IsListing (with_listed file files)
one_listed file files named listed = record {
  named = all_inserted (λ f. is_file_name f.0 ≡ true) (λ other. is_before other.0 file.0) file files named listed.named;
  ordered = sorted-inserted (λ (a b : List ℕ × ℕ). is_before a.0 b.0) by_name file files listed.ordered;
}
