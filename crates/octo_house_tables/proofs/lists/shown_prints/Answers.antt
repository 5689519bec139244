use Rattle.std.proofs.Common.{◌≡◌, true, ◌-◌, ◌++◌, ◌∷◌, [], ◌∙◌, ap, arith}
use Rattle.octo_asks.specs.Shown.{shown_print}
use Rattle.octo_house_rules.specs.Reads.{is_print_of}
use Rattle.octo_house_tables.proofs.Newest.{newest, newest-more}
use Rattle.octo_house_tables.proofs.lists.shown_prints.Goals as goal

pub loop-free-preserved-then-is_print_of : goal.loop-free-preserved-then-is_print_of
loop-free-preserved-then-is_print_of c =
    let row = c.index-rows-left.result in
    let passes : is_print_of c.args.user.now row ≡ true = cc in
    let pushed : c.loop-free.list ++ shown_print row ∷ [] ≡ c.push.new.self = cc (c.in_ok-push.ensures.ok, c.of.ensures) in
    record {
      whole = c.loop-free.invariant.whole
          ∙ newest-more shown_print (is_print_of c.args.user.now) (c.loop-free.free - 1) c.loop-free.free (c.loop-free.left - 1) c.loop-free.left
          c.args.rows.now c.loop-free.list row
          (omega arith) (omega arith) (omega arith) c.index-rows-left.is passes
          ∙ ap (λ ys. ys ++ newest shown_print (is_print_of c.args.user.now) (c.loop-free.free - 1) (c.loop-free.left - 1) c.args.rows.now) pushed;
      within = omega arith;
    }
