use Rattle.std.proofs.Common.{◌≡◌, ◌++◌, ◌∷◌, [], List, ℕ, refl, sym, ap, ◌∙◌, append_assoc}
use Rattle.marlin_sim.specs.Lines.{to_come, LinesData}
use Rattle.marlin_sim.proofs.Coming.{begun_comes, ended_comes}
use Rattle.marlin_sim.proofs.Lost.{after_err}
use Rattle.marlin_sim.proofs.lines.Lines.receive.Goals as goal

pub loop-piece-init : goal.loop-piece-init
loop-piece-init c = record { comes = λ more. refl; front = ([], refl) }

pub loop-piece-preserved : goal.loop-piece-preserved
loop-piece-preserved c =
    let plan = c.args.plan.now in
    let old = c.loop-piece.self in
    let piece = c.in-Some.piece.now in
    let behind = c.in-Some.after.now in
    let front = c.loop-piece.invariant.front in
    record {
      comes = λ more. (
          let whole : (c.loop-piece.rest.now ++ more) ≡ piece ++ 10 ∷ (behind ++ more) = ap (λ (l : List ℕ). l ++ more) c.in-Some.ensures.0 ∙ append_assoc piece (10 ∷ behind) more in
          ap (λ (l : LinesData). to_come plan l (behind ++ more)) c.in_ok-end_line.ensures.ok
          ∙ ended_comes plan old piece (behind ++ more) c.requires c.in-Some.ensures.1
          ∙ ap (to_come plan old) (sym whole)
          ∙ c.loop-piece.invariant.comes more);
      front = (
        front.0 ++ (piece ++ 10 ∷ []),
        front.1
            ∙ ap (λ (l : List ℕ). front.0 ++ l) (c.in-Some.ensures.0 ∙ sym (append_assoc piece (10 ∷ []) behind))
            ∙ sym (append_assoc front.0 (piece ++ 10 ∷ []) behind),
      );
    }

pub returns-in_err-end_line-clause-err : goal.returns-in_err-end_line-clause-err
returns-in_err-end_line-clause-err c =
    let front = c.loop-piece.invariant.front in
    after_err c.from_residual.result
    (record {
      front = front.0;
      rest = c.loop-piece.rest.now;
      whole = front.1;
      comes = λ more. ap (λ (l : LinesData). to_come c.args.plan.now l (c.loop-piece.rest.now ++ more)) c.in_err-end_line.ensures.err ∙ c.loop-piece.invariant.comes more;
    })

pub returns-clause-ok : goal.returns-clause-ok
returns-clause-ok c more =
    ap (λ (l : LinesData). to_come c.args.plan.now l more) c.begin.ensures
    ∙ begun_comes c.args.plan.now c.loop-piece.self c.loop-piece.rest.now more c.in_default.ensures
    ∙ c.loop-piece.invariant.comes more
