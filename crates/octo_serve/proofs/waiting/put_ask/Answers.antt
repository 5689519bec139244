use Rattle.std.proofs.Common.{rules, ◌≡◌, [], ◌∷◌, refl, sym, ap, ◌∙◌, Some}
use Rattle.atomic_table.specs.Table.{rest}
use Rattle.octo_serve.specs.declared.board.Letter.TheVariants.{Asked}
use Rattle.octo_serve.specs.declared.board.Stage.TheVariants.{Writing}
use Rattle.octo_serve.specs.Views.{worker_of}
use Rattle.octo_serve.specs.Steps.{at_stage, stage_with, letter_in}
use Rattle.octo_serve.proofs.Sitting.{is_worker, takes_slot_as, puts_ask_as}
use Rattle.octo_serve.proofs.waiting.put_ask.Goals as goal

pub load-requires : goal.load-requires
load-requires c = (search rules, search rules, takes_slot_as _ _ _ _ c.requires.resting)

pub write_letter-requires : goal.write_letter-requires
write_letter-requires c = let took = c.load.ensures.2 in let number = ap (λ m. (worker_of m.0).number) c.requires.resting in
    let hand : c.load.new.seat.me.1 ≡ (c.args.number, took.0) ∷ [] = ap (λ m. m.1) took.1 ∙ (λ i. (number i, took.0) ∷ []) in
    record { table = search rules; taken = (took.0, hand ∙ ap (λ slots. (c.args.number, took.0) ∷ rest slots) (sym hand)) }

pub store-requires : goal.store-requires
store-requires c = let took = c.load.ensures.2 in let number = ap (λ m. (worker_of m.0).number) c.requires.resting in
    let now = c.write_letter.ensures.written ∙ ap (λ m. (m.0, (c.args.number, Some (Asked c.args.ask)) ∷ rest m.1)) took.1 in
    (search rules, search rules, puts_ask_as _ _ _ _ c.args.ask (is_worker _ _ _ Writing _ now number refl))

pub returns-clause-asked : goal.returns-clause-asked
returns-clause-asked c = let took = c.load.ensures.2 in
    c.store.ensures.2 ∙ ap (λ m. (at_stage m.0 (stage_with (letter_in m.1)), [])) (c.write_letter.ensures.written
    ∙ ap (λ m. (m.0, (c.args.number, Some (Asked c.args.ask)) ∷ rest m.1)) took.1)
