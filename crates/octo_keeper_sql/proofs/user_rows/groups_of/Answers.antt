-- A piece that can't be a group's name, one more that can, and the last.
use Rattle.std.proofs.Common.{◌≡◌, ℕ, ◌<◌, List, [], ◌∷◌, ◌++◌, length, All, subst, sym, ap, ap₂, ◌∙◌, tests, arith}
use Rattle.std.proofs.lemmas.Iterator.Consumers.{YieldsList-turn, YieldsList-end}
use Rattle.std.proofs.lemmas.Iterator.Splits.{YieldsList-from_str_split}
use Rattle.std.proofs.lemmas.List.{length-map, map-append}
use Rattle.std.proofs.lemmas.List.Elements.{All-push}
use Rattle.octo_keeper_sql.specs.Rows.{joined}
use Rattle.octo_keeper_sql.specs.Holds.{IsGroup}
use Rattle.octo_keeper_sql.proofs.Pieces.{unfit_piece, too_many_pieces, fit_piece, joined_pieces}
use Rattle.octo_keeper_sql.proofs.user_rows.groups_of.Goals.{then-is_empty-2-via-then-is_empty-2, then-is_empty-2-via-else-is_empty-2+then-is_full}
use Rattle.octo_keeper_sql.proofs.user_rows.groups_of.Goals as goal

pub returns-then-is_empty-2 : goal.returns-then-is_empty-2
returns-then-is_empty-2 c =
    let t = YieldsList-turn (YieldsList-from_str_split 32 c.args.text.now (omega arith) (cc) (cc) (cc)) c.loop-word.yielded _ c.loop-word.yielded_by _ _ c.in-Some.word c.in-Some.is c.next.ensures.steps in
    let some : 0 < length c.args.text.now = grind (arith, tests) in
    elim c.then-is_empty-2.branch [
      | then-is_empty-2-via-then-is_empty-2 w ↦ unfit_piece c.args.text.now c.in-Some.word.now (length c.loop-word.yielded) some t.0 t.1 (λ group. let h = group.some in grind (arith, tests))
      | then-is_empty-2-via-else-is_empty-2+then-is_full w ↦
          let same = ap length c.loop-word.invariant.are in
          let counted = length-map c.loop-word.yielded (λ word. word.now) in
          too_many_pieces c.args.text.now (length c.loop-word.yielded) some t.0 (grind (arith, tests))
    ]

pub returns-in_err-from_text : goal.returns-in_err-from_text
returns-in_err-from_text c =
    let t = YieldsList-turn (YieldsList-from_str_split 32 c.args.text.now (omega arith) (cc) (cc) (cc)) c.loop-word.yielded _ c.loop-word.yielded_by _ _ c.in-Some.word c.in-Some.is c.next.ensures.steps in
    let some : 0 < length c.args.text.now = grind (arith, tests) in
    let none = unfit_piece c.args.text.now c.in-Some.word.now (length c.loop-word.yielded) some t.0 t.1 (λ group. let h = group.short in grind (arith, tests)) in
    rw c.from_residual.ensures none

pub loop-word-preserved : goal.loop-word-preserved
loop-word-preserved c =
    let t = YieldsList-turn (YieldsList-from_str_split 32 c.args.text.now (omega arith) (cc) (cc) (cc)) c.loop-word.yielded _ c.loop-word.yielded_by _ _ c.in-Some.word c.in-Some.is c.next.ensures.steps in
    let is : c.in_ok-from_text.field-0 ≡ c.in-Some.word.now = c.in_ok-from_text.ensures.0 in
    let group : IsGroup c.in_ok-from_text.field-0 = subst IsGroup (sym is)
    (fit_piece c.args.text.now c.in-Some.word.now (length c.loop-word.yielded) t.0 t.1 (grind (arith, tests)) c.in_ok-from_text.ensures.1) in
    record {
      are = map-append (λ word. word.now) c.loop-word.yielded (c.in-Some.word ∷ []) ∙ ap₂ (λ (x y : List (List ℕ)). x ++ y) c.loop-word.invariant.are (ap (λ word. word ∷ []) (sym is)) ∙ sym c.push.ensures.items;
      few = grind (arith, tests);
      each = subst (All IsGroup) (sym c.push.ensures.items) (All-push IsGroup c.loop-word.groups.items c.in_ok-from_text.field-0 c.loop-word.invariant.each group);
    }

pub returns : goal.returns
returns c =
    let t = YieldsList-end (YieldsList-from_str_split 32 c.args.text.now (omega arith) (cc) (cc) (cc)) c.loop-word.yielded _ c.loop-word.yielded_by _ _ c.in-None.is c.next.ensures.steps in
    record {
      is = ap joined (sym c.loop-word.invariant.are ∙ t.0) ∙ joined_pieces c.args.text.now;
      few = c.loop-word.invariant.few;
      each = c.loop-word.invariant.each;
    }
