-- What a printer starts next is an entry of the queue.
use Rattle.std.proofs.Common.{ℕ, List, Option, None, Some, option_map}
use Rattle.std.specs.Prelude.{IfSome, Contains}
use Rattle.print_queue.specs.declared.entry.QueueEntry.{QueueEntry}
use Rattle.octo_floor_bay.specs.Stock.{Stock, Start}
use Rattle.octo_floor_bay.proofs.Starts.{start_among}

pub among : {X : Type 0} (view : X → QueueEntry) (s : Stock) (material : List ℕ) (o : Option X) → Start s material (option_map view o) →
    IfSome o (λ one. Contains s.queue (view one))
among view s material None next = tt
among view s material (Some one) next = start_among s.passed s.queue material (view one) next
