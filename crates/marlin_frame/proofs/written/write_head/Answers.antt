use Rattle.std.proofs.Common.{◌≡◌, ℕ, ◌++◌, [], ◌∷◌, length, decimal, ap, ◌∙◌, arith}
use Rattle.std.proofs.lemmas.Fmt.{length-decimal-le}
use Rattle.marlin_frame.specs.Frame.{head_of}
use Rattle.marlin_frame.proofs.written.write_head.Goals as goal

pub append_decimal-requires : goal.append_decimal-requires
append_decimal-requires c =
    omega (arith, ap length c.clear.ensures, length-decimal-le 10 c.from.result (omega arith) (omega (arith, c.from.ensures)) (omega (arith, c.from.ensures)))

pub append-requires-2 : goal.append-requires-2
append-requires-2 c =
    omega (arith, ap length c.clear.ensures, length-decimal-le 10 c.from.result (omega arith) (omega (arith, c.from.ensures)) (omega (arith, c.from.ensures)))

pub append-requires-3 : goal.append-requires-3
append-requires-3 c =
    omega (arith, ap length c.clear.ensures, length-decimal-le 10 c.from.result (omega arith) (omega (arith, c.from.ensures)) (omega (arith, c.from.ensures)))

pub returns-clause-items : goal.returns-clause-items
unfolding head_of
returns-clause-items c =
    let letter : c.append.new.text.items ≡ 78 ∷ [] = c.append.ensures.items ∙ ap (λ xs. xs ++ 78 ∷ []) c.clear.ensures in
    let number : c.append_decimal.new.text.items ≡ 78 ∷ decimal c.args.n = c.append_decimal.ensures.items ∙ ap (λ (k : ℕ). c.append.new.text.items ++ decimal k) c.from.ensures ∙ ap (λ xs. xs ++ decimal c.args.n) letter in
    let space : c.append-2.new.text.items ≡ 78 ∷ (decimal c.args.n ++ 32 ∷ []) = c.append-2.ensures.items ∙ ap (λ xs. xs ++ 32 ∷ []) number in
    c.append-3.ensures.items ∙ ap (λ xs. xs ++ c.args.text.now) space

pub returns-clause-len : goal.returns-clause-len
returns-clause-len c =
    omega (arith, ap length c.clear.ensures, length-decimal-le 10 c.from.result (omega arith) (omega (arith, c.from.ensures)) (omega (arith, c.from.ensures)))
