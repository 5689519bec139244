-- Tables of users stay tables.
use Rattle.std.proofs.Common.{◌≡◌, ℕ, ◌+◌, ◌<◌, ◌≤◌, ◌≢◌, Bool, true, false, cond, not, List, [], ◌∷◌, length, get_or, Option, Some, None, refl, sym, ap, ◌∙◌, arith}
use Rattle.std.proofs.Math.ListN.{set, length-set}
use Rattle.std.proofs.lemmas.Bool.Decides.{nat_tests}
use Rattle.std.proofs.lemmas.Cmp.{nat_list_cmp_total}
use Rattle.std.proofs.lemmas.List.Sorted.{ranks_by, length_permutation, sum_by-IsPermutation}
use Rattle.std.proofs.lemmas.List.Edits.{length-insert}
use Rattle.std.proofs.lemmas.List.Sums.{sum_by-insert, sum_by-set, prefix_len-le-length}
use Rattle.std.specs.Cmp.{IsStrictWeakOrder}
use Rattle.std.specs.Cmp.Lexicographic.{slice_cmp, bytes_decides}
use Rattle.std.specs.List.{find, count_by, prefix_len, insert}
use Rattle.std.specs.List.Sorted.{IsPermutation}
use Rattle.std.specs.Ordering.{nat_cmp}
use Rattle.std.specs.Str.{bytes_eq}
use Rattle.octo_access.specs.Rows.{is_before, is_named, has_digest, row_named, with_row, most_users, IsByName, IsUserList, IsUserTable}
use Rattle.octo_access.specs.declared.row.UserRow.{UserRow}
use Rattle.octo_access.proofs.Inserted.{count-none, sorted-inserted}

-- the order by names is one that sorts
pub by_name : IsStrictWeakOrder (λ (a b : UserRow). is_before a.name b.name)
by_name = ranks_by nat_list_cmp_total (λ (row : UserRow). row.name)

-- how many rows pass a test, once there is one row more
counted : (test : UserRow → Bool) (row : UserRow) (rows : List UserRow) (i : ℕ) (b : Bool) → test row ≡ b → (b ≡ true → count_by test rows ≡ 0) → count_by test rows ≤ 1 → count_by test (insert rows i row) ≤ 1
counted test row rows i true is none few = rw (sum_by-insert (λ r. cond (test r) 1 0) rows i row, is, none refl) (omega arith)
counted test row rows i false is none few = rw (sum_by-insert (λ r. cond (test r) 1 0) rows i row, is) (omega arith)

names-inserted : (row : UserRow) (rows : List UserRow) (i : ℕ) → row_named row.name rows ≡ None → (name : List ℕ) → count_by (is_named name) rows ≤ 1 → count_by (is_named name) (insert rows i row) ≤ 1
names-inserted row rows i new name few =
    counted (is_named name) row rows i (is_named name row) refl
    (λ same. ap (λ n. count_by (is_named n) rows) (sym ((bytes_decides row.name name).0 same)) ∙ count-none (is_named row.name) rows new) few

keys-inserted : (row : UserRow) (rows : List UserRow) (i : ℕ) → find (has_digest row.digest) rows ≡ None → (digest : List ℕ) → count_by (has_digest digest) rows ≤ 1 → count_by (has_digest digest) (insert rows i row) ≤ 1
keys-inserted row rows i new digest few =
    counted (has_digest digest) row rows i (has_digest digest row) refl
    (λ same. ap (λ k. count_by (has_digest k) rows) (sym ((bytes_decides row.digest digest).0 same)) ∙ count-none (has_digest row.digest) rows new) few

-- a table with one row more, whose name and key are new
pub table-with_row : (row : UserRow) (rows : List UserRow) → IsUserTable rows → row_named row.name rows ≡ None → find (has_digest row.digest) rows ≡ None → length rows ≢ most_users → IsUserTable (with_row row rows)
table-with_row row rows table name key room =
    let place : ℕ = prefix_len (λ (r : UserRow). is_before r.name row.name) rows in
    let within : prefix_len (λ (r : UserRow). is_before r.name row.name) rows ≤ length rows = prefix_len-le-length (λ (r : UserRow). is_before r.name row.name) rows in
    let few : length rows ≤ most_users = table.list.few in
    let longer : length (with_row row rows) ≡ length rows + 1 = length-insert rows (prefix_len (λ (r : UserRow). is_before r.name row.name) rows) row within in
    record {
      list = record {
        names = λ n. names-inserted row rows place name n (table.list.names n);
        keys = λ k. keys-inserted row rows place key k (table.list.keys k);
        few = rw longer (omega arith);
      };
      ordered = sorted-inserted (λ (a b : UserRow). is_before a.name b.name) by_name row rows table.ordered;
    }

-- a list of users in the order of their names
pub table-ordered : (rows new : List UserRow) → IsUserList rows → IsPermutation rows new → IsByName new → IsUserTable new
table-ordered rows new list moved ordered = record {
  list = record {
    names = λ n. rw (sum_by-IsPermutation (λ r. cond (is_named n r) 1 0) rows new moved) (list.names n);
    keys = λ k. rw (sum_by-IsPermutation (λ r. cond (has_digest k r) 1 0) rows new moved) (list.keys k);
    few = rw (length_permutation rows new moved) list.few;
  };
  ordered = ordered;
}
