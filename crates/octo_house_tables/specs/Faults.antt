-- Faults of keeper and shelf as answers.
use Rattle.octo_keeper.specs.declared.keeper.KeeperFault.{KeeperFault}
use Rattle.octo_keeper.specs.declared.keeper.KeeperFault.TheVariants as keeper_fault
use Rattle.octo_keeper.specs.declared.shelf.ShelfFault.{ShelfFault}
use Rattle.octo_keeper.specs.declared.shelf.ShelfFault.TheVariants as shelf_fault
use Rattle.octo_asks.specs.declared.answer.Answer.{Answer}
use Rattle.octo_asks.specs.declared.answer.Answer.TheVariants as answer

-- the answer after a fault of the keeper
abbrev pub answer_of_keeper_fault : KeeperFault → Answer
answer_of_keeper_fault keeper_fault.Failed = answer.KeeperFault
answer_of_keeper_fault keeper_fault.NoMemory = answer.NoMemory

-- the answer after a fault of the shelf
abbrev pub answer_of_shelf_fault : ShelfFault → Answer
answer_of_shelf_fault shelf_fault.Failed = answer.ShelfFault
answer_of_shelf_fault shelf_fault.NoMemory = answer.NoMemory
