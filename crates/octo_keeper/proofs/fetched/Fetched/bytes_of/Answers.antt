use Rattle.std.proofs.Common.{◌≡◌, true, ◌&&◌, eqb, int_eq, sym, ◌∙◌, arith}
use Rattle.std.proofs.lemmas.Bool.Decides.{Decides-eqb, Decides-int_eq, Decides-and}
use Rattle.octo_keeper.specs.declared.fetched.FileMark.{FileMark}
use Rattle.octo_keeper.proofs.fetched.Fetched.bytes_of.Goals as goal

-- marks whose fields are equal
same : (a b : FileMark)
    → (eqb a.device b.device && (eqb a.inode b.inode && (eqb a.size b.size && (int_eq a.modified b.modified
    && (int_eq a.modified_nanos b.modified_nanos && (int_eq a.changed b.changed && int_eq a.changed_nanos b.changed_nanos)))))) ≡ true
    → b ≡ a
same a b e =
    let all = (Decides-and _ _ (Decides-eqb a.device b.device) (Decides-and _ _ (Decides-eqb a.inode b.inode) (Decides-and _ _ (Decides-eqb a.size b.size)
    (Decides-and _ _ (Decides-int_eq a.modified b.modified) (Decides-and _ _ (Decides-int_eq a.modified_nanos b.modified_nanos)
    (Decides-and _ _ (Decides-int_eq a.changed b.changed) (Decides-int_eq a.changed_nanos b.changed_nanos))))))).0 e in
    let device : b.device ≡ a.device = sym all.0 in
    let inode : b.inode ≡ a.inode = sym all.1.0 in
    let size : b.size ≡ a.size = sym all.1.1.0 in
    let modified : b.modified ≡ a.modified = sym all.1.1.1.0 in
    let modified_nanos : b.modified_nanos ≡ a.modified_nanos = sym all.1.1.1.1.0 in
    let changed : b.changed ≡ a.changed = sym all.1.1.1.1.1.0 in
    let changed_nanos : b.changed_nanos ≡ a.changed_nanos = sym all.1.1.1.1.1.1 in
    grind arith

pub returns-then-eq-clause-mark : goal.returns-then-eq-clause-mark
returns-then-eq-clause-mark c = same c.args.self.mark c.args.mark (sym c.eq.ensures ∙ c.if-eq.true)
