use Rattle.std.proofs.Common.{◌≡◌, ◌++◌, drop, map}
use Rattle.std.specs.Prelude.{option_map, List, ℕ}
use Rattle.octo_words.specs.Words.{replies_above}
use Rattle.octo_words.proofs.replies.listed_replies.Given as goal

abbrev pub invariant-loop-piece : goal.invariant-loop-piece
invariant-loop-piece l =
    replies_above 0 (map (λ p. p.now) l.pieces)
    ≡ option_map (λ (more : List ℕ). l.replies ++ more) (replies_above l.least (map (λ p. p.now) (drop l.piece-index l.pieces)))
