use Rattle.std.proofs.Common.{rules, ap, Option, Some, None, is_some}
use Rattle.octo_serve.specs.declared.board.Letter.{Letter}
use Rattle.octo_serve.specs.declared.board.Letter.TheVariants.{Answered}
use Rattle.octo_serve.specs.Steps.{answer_in}
use Rattle.octo_serve.proofs.Sitting.{puts_idle_as}
use Rattle.octo_serve.proofs.Asking.{emptied, in_hand, letter_found, takes}
use Rattle.octo_serve.proofs.waiting.take_answer.Goals as goal

pub exchange-letter-requires : goal.exchange-letter-requires
exchange-letter-requires c = let found = c.requires.found in (search rules, (Some (Answered found.1 found.2), in_hand _ c.args.number found))

pub store-requires : goal.store-requires
store-requires c = let found = c.requires.found in (
  search rules,
  search rules,
  puts_idle_as _ _ _ c.args.number found.0 found.1 found.2 None (emptied _ _ c.args.number found c.exchange-letter.ensures.3),
)

pub answer_in-requires : goal.answer_in-requires
answer_in-requires c = ap (λ (l : Option Letter). is_some (answer_in l)) (letter_found _ c.args.number _ c.requires.found c.exchange-letter.ensures.2)

pub returns-clause-taken : goal.returns-clause-taken
returns-clause-taken c = takes _ _ _ c.args.number _ _ c.requires.found c.exchange-letter.ensures.2 c.answer_in.ensures
    c.exchange-letter.ensures.3 c.store.ensures.2
