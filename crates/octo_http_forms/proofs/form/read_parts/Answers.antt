use Rattle.std.proofs.Common.{[], ◌∷◌, ◌++◌, Some, None, drop, subst, arith}
use Rattle.octo_http_forms.specs.Delimiters.{IsNextDelimiter, IsUnclosed, Reaches, first, next, without, open_part}
use Rattle.octo_http_forms.specs.Values.{span_of}
use Rattle.octo_http_forms.proofs.Forms.{if_none}
use Rattle.octo_http_forms.proofs.form.read_parts.Goals as goal

pub returns-in_err-from-clause-unclosed : goal.returns-in_err-from-clause-unclosed
returns-in_err-from-clause-unclosed c =
    if_none c.from_residual.result (IsUnclosed c.args.body.now (drop 2 c.args.finder.now)) (without c.in_err-from.ensures.first)

pub returns-in-None-clause-seen : goal.returns-in-None-clause-seen
returns-in-None-clause-seen c =
    let body = c.args.body.now in
    let dashes = drop 2 c.args.finder.now in
    ([], subst (Reaches body dashes []) c.in-None.is (first c.in_ok-from.field-0 c.in_ok-from.ensures.first), c.new-seen.ensures.seen body)

pub loop-delimiter-init : goal.loop-delimiter-init
loop-delimiter-init c =
    let body = c.args.body.now in
    let dashes = drop 2 c.args.finder.now in
    let bounds = rw c.in-Some.is at c.in_ok-from.ensures.part in
    record {
      low = bounds.0;
      high = bounds.1;
      reached = ([], subst (Reaches body dashes []) c.in-Some.is (first c.in_ok-from.field-0 c.in_ok-from.ensures.first), c.new-seen.ensures.seen body);
      within = c.new-seen.ensures.within body;
    }

pub returns-in_err-delimiter-clause-unclosed : goal.returns-in_err-delimiter-clause-unclosed
returns-in_err-delimiter-clause-unclosed c =
    let body = c.args.body.now in
    let dashes = drop 2 c.args.finder.now in
    let from = c.loop-delimiter.from in
    let reached = c.loop-delimiter.invariant.reached in
    if_none c.from_residual-in_err-delimiter.result (IsUnclosed body dashes)
    (open_part reached.0 from reached.1 (subst (λ line. IsNextDelimiter body line from None) c.requires c.in_err-delimiter.ensures.next))

pub loop-delimiter-preserved : goal.loop-delimiter-preserved
loop-delimiter-preserved c =
    let body = c.args.body.now in
    let dashes = drop 2 c.args.finder.now in
    let from = c.loop-delimiter.from in
    let reached = c.loop-delimiter.invariant.reached in
    let delimiter = c.in_ok-delimiter.delimiter in
    let spans = reached.0 ++ span_of from delimiter.at ∷ [] in
    let bounds = rw c.in-Some-part.is at c.in_ok-delimiter.ensures.part in
    let is_next = subst (λ line. IsNextDelimiter body line from (Some delimiter)) c.requires c.in_ok-delimiter.ensures.next in
    record {
      low = omega (arith, bounds.0);
      high = bounds.1;
      reached = (
        spans,
        subst (Reaches body dashes spans) c.in-Some-part.is
            (next reached.0 from delimiter reached.1 is_next),
        c.note.ensures.seen reached.0 reached.2,
      );
      within = c.note.ensures.within c.loop-delimiter.invariant.within;
    }

pub returns-in-None-part-clause-seen : goal.returns-in-None-part-clause-seen
returns-in-None-part-clause-seen c =
    let body = c.args.body.now in
    let dashes = drop 2 c.args.finder.now in
    let from = c.loop-delimiter.from in
    let reached = c.loop-delimiter.invariant.reached in
    let delimiter = c.in_ok-delimiter.delimiter in
    let spans = reached.0 ++ span_of from delimiter.at ∷ [] in
    let is_next = subst (λ line. IsNextDelimiter body line from (Some delimiter)) c.requires c.in_ok-delimiter.ensures.next in
    (spans, subst (Reaches body dashes spans) c.in-None-part.is (next reached.0 from delimiter reached.1 is_next), c.note.ensures.seen reached.0 reached.2)
