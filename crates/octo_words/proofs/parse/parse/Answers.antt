use Rattle.std.proofs.Common.{◌≡◌, ◌∙◌, ℕ, List, [], map, ap, sym, subst, rules}
use Rattle.std.specs.Borrow.{Bor}
use Rattle.clap.specs.Words.{App, HasKind, fault_of, is_simple, is_simple_and_free, subcommand_of}
use Rattle.clap.specs.declared.error.kind.ErrorKind.TheVariants.{OutOfMemory}
use Rattle.octo_words.proofs.Parsed.{octo_is_free, octo_is_simple, rows_with_fault, rows_without_fault}
use Rattle.octo_words.proofs.parse.parse.Goals as goal

pub returns-in-Ok : goal.returns-in-Ok
returns-in-Ok c =
    let words = map (λ (w : Bor (List ℕ)). w.now) c.args.words.now in
    let app_is = c.in_ok-octo_app.ensures in
    let none = subst (λ (a : App). fault_of a words ≡ []) app_is (c.in-Ok.ensures.kinds (ap is_simple_and_free app_is ∙ octo_is_free)) in
    let rows = (c.in-Ok.ensures.matches (ap is_simple app_is ∙ octo_is_simple)).1 in
    rows_without_fault words none ∙ sym (rows ∙ ap (λ (a : App). subcommand_of a words) app_is)

pub returns-else-eq : goal.returns-else-eq
returns-else-eq c bad =
    let words = map (λ (w : Bor (List ℕ)). w.now) c.args.words.now in
    let app_is = c.in_ok-octo_app.ensures in
    let found = subst (λ (a : App). HasKind (fault_of a words) c.in-Err.error) app_is (c.in-Err.ensures.kinds (ap is_simple_and_free app_is ∙ octo_is_free)) in
    let other : c.in-Err.error.kind ≡ OutOfMemory → ⊥ = search rules in
    rows_with_fault words c.in-Err.error.kind other found
