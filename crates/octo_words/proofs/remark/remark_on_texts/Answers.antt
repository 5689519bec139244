use Rattle.std.proofs.Common.{◌≡◌, ◌∙◌, ℕ, List, [], map, ap, subst}
use Rattle.std.specs.Borrow.{Bor}
use Rattle.clap.specs.Words.{App, HasKind, fault_of, is_simple_and_free}
use Rattle.octo_words.proofs.Parsed.{helped_is_free}
use Rattle.octo_words.proofs.Remarked.{said_of_fault, said_of_values}
use Rattle.octo_words.proofs.remark.remark_on_texts.Goals as goal

pub returns-in-Ok : goal.returns-in-Ok
returns-in-Ok c =
    let words = map (λ (w : Bor (List ℕ)). w.now) c.args.texts.now in
    let app_is = c.in_ok-helped_app.ensures in
    let none = subst (λ (a : App). fault_of a words ≡ []) app_is (c.in-Ok.ensures.kinds (ap is_simple_and_free app_is ∙ helped_is_free)) in
    said_of_values words c.remark_on_values.result none c.remark_on_values.ensures

pub returns-in-Err : goal.returns-in-Err
returns-in-Err c =
    let words = map (λ (w : Bor (List ℕ)). w.now) c.args.texts.now in
    let app_is = c.in_ok-helped_app.ensures in
    let found = subst (λ (a : App). HasKind (fault_of a words) c.in-Err.error) app_is (c.in-Err.ensures.kinds (ap is_simple_and_free app_is ∙ helped_is_free)) in
    said_of_fault words c.in-Err.error.kind c.remark_on_fault.result found c.remark_on_fault.ensures
