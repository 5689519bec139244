use Rattle.std.proofs.Common.{◌≡◌, ◌⊎◌, Bool, false, not, find, List, Option, None, Some, ap, sym, ◌∙◌, subst}
use Rattle.job_desk.specs.Data.{Data}
use Rattle.print_queue.specs.Rows.{fits}
use Rattle.print_queue.specs.declared.entry.QueueEntry.{QueueEntry}
use Rattle.octo_asks.specs.declared.answer.Answer.TheVariants as answer
use Rattle.octo_house_rules.specs.Refusals.{refused_if, found_or}
use Rattle.octo_house_rules.specs.States.{may_start}
use Rattle.octo_house_rules.specs.Uploads.{next_verdict, take_verdict}
use Rattle.octo_house_rules.specs.Verdict.{Verdict, IsDone}
use Rattle.octo_house.specs.Answered.{asks_files}
use Rattle.octo_house.specs.State.{known_of}
use Rattle.octo_house.proofs.house.House.print_next.Goals as goal

pub returns-in-Some-clause-done : goal.returns-in-Some-clause-done
returns-in-Some-clause-done g c = λ files.
    let k = known_of c.args.self.now in
    let state : c.state-state.result ≡ k.desk.state =
    c.state-state.ensures.state ∙ ap (λ (d : Data). d.state) (c.desk.ensures) in
    let may : not (may_start k.desk.state) ≡ false = ap (λ s. not (may_start s)) (sym state) ∙ ap not (sym c.may_start.ensures ∙ c.if-not-may_start.false) in
    let found : find (fits k.material) k.queue ≡ Some c.in-Some.entry = cc in
    let is : next_verdict files k ≡ take_verdict files k c.in-Some.entry =
    ap (λ (b : Bool). refused_if b (answer.WrongState k.desk.state) (found_or (find (fits k.material) k.queue) answer.NoEntry (take_verdict files k))) may
    ∙ ap (λ (o : Option QueueEntry). found_or o answer.NoEntry (take_verdict files k)) found in
    subst (λ (v : Verdict). ((g.S.Shelf.state c.args.shelf.now).files ≡ Some files) ⊎ (asks_files v ≡ false) → IsDone v c.print_entry.result k (known_of c.print_entry.new.self))
    (sym is) (c.print_entry.ensures.done files)

pub returns-in-Some-clause-some : goal.returns-in-Some-clause-some
returns-in-Some-clause-some g c =
    let k = known_of c.args.self.now in
    let files = c.print_entry.ensures.some.0 in
    let state : c.state-state.result ≡ k.desk.state =
    c.state-state.ensures.state ∙ ap (λ (d : Data). d.state) (c.desk.ensures) in
    let may : not (may_start k.desk.state) ≡ false = ap (λ s. not (may_start s)) (sym state) ∙ ap not (sym c.may_start.ensures ∙ c.if-not-may_start.false) in
    let found : find (fits k.material) k.queue ≡ Some c.in-Some.entry = cc in
    let is : next_verdict files k ≡ take_verdict files k c.in-Some.entry =
    ap (λ (b : Bool). refused_if b (answer.WrongState k.desk.state) (found_or (find (fits k.material) k.queue) answer.NoEntry (take_verdict files k))) may
    ∙ ap (λ (o : Option QueueEntry). found_or o answer.NoEntry (take_verdict files k)) found in
    (files, subst (λ (v : Verdict). IsDone v c.print_entry.result k (known_of c.print_entry.new.self)) (sym is) c.print_entry.ensures.some.1)
