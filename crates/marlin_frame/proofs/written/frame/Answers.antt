use Rattle.std.proofs.Common.{◌≡◌, ◌<◌, ◌^◌, ◌++◌, [], ◌∷◌, List, ℕ, decimal, sym, ap, subst, ◌∙◌, arith}
use Rattle.std.proofs.lemmas.Fmt.{length-decimal-le}
use Rattle.byte_text.specs.Marks.{has_byte}
use Rattle.byte_text.specs.Xor.{xor_of}
use Rattle.marlin_frame.specs.Frame.{frame_of, begins_with_n, fails, n_parameter_of, IsNumberedLine}
use Rattle.marlin_frame.proofs.FrameLaws.{sum_of, begins_with_n-frame, fails-frame, n_parameter_of-frame, no_line_feed-frame, numbered_line}
use Rattle.marlin_frame.proofs.written.frame.Goals as goal

pub append_decimal-requires : goal.append_decimal-requires
append_decimal-requires c = omega (arith, length-decimal-le 3 c.from.result (omega arith) (omega arith) (omega arith))

sum_is : (c : goal.After-append_decimal) → c.from.result ≡ sum_of c.args.n c.args.text.now
sum_is c = c.from.ensures ∙ c.xor-sum.ensures ∙ ap xor_of (c.as_slice.ensures.value ∙ c.write_head.ensures.items)

sum_fits : (c : goal.After-append_decimal) → sum_of c.args.n c.args.text.now < 2 ^ 8
sum_fits c = omega (arith, sum_is c)

pub returns-clause-written : goal.returns-clause-written
unfolding frame_of
returns-clause-written c =
    c.append_decimal.ensures.items
    ∙ ap (λ sum. c.append.new.text.items ++ decimal sum) (sum_is c)
    ∙ ap (λ xs. xs ++ decimal (sum_of c.args.n c.args.text.now)) (c.append.ensures.items ∙ ap (λ xs. xs ++ 42 ∷ []) c.write_head.ensures.items)

pub returns-clause-at_most_95 : goal.returns-clause-at_most_95
returns-clause-at_most_95 c = omega (arith, length-decimal-le 3 c.from.result (omega arith) (omega arith) (omega arith))

pub returns-clause-one_line : goal.returns-clause-one_line
returns-clause-one_line c =
    ap (has_byte 10) (returns-clause-written c) ∙ no_line_feed-frame c.args.n c.args.text.now (omega arith) (sum_fits c) c.requires.no_line_feed

pub returns-clause-numbered : goal.returns-clause-numbered
returns-clause-numbered c = ap begins_with_n (returns-clause-written c) ∙ begins_with_n-frame c.args.n c.args.text.now

pub returns-clause-whole : goal.returns-clause-whole
returns-clause-whole c = ap fails (returns-clause-written c) ∙ fails-frame c.args.n c.args.text.now (sum_fits c)

pub returns-clause-n_parameter : goal.returns-clause-n_parameter
returns-clause-n_parameter c = ap n_parameter_of (returns-clause-written c) ∙ n_parameter_of-frame c.args.n c.args.text.now (omega arith)

pub returns-clause-reads_back : goal.returns-clause-reads_back
returns-clause-reads_back c none =
    let IsThis : List ℕ → Type 0 = λ line. IsNumberedLine c.args.n c.args.text.now line in
    subst IsThis (sym (returns-clause-written c)) (numbered_line c.args.n c.args.text.now (omega arith) (sum_fits c) none)
