use Rattle.marlin_sim.proofs.Serving.{sent, not_sent, printed_on, printed_lost, after_next}
use Rattle.marlin_sim.proofs.serve.deliver.Goals as goal

pub returns-in_default-clause-follows : goal.returns-in_default-clause-follows
returns-in_default-clause-follows g c plan input first v =
    not_sent plan input first _ _ _ _ _ c.args.sim.now c.send_replies.new.sim v c.in_default.ensures.err c.in_default.ensures.same

pub returns-then-text-lt-TEXT-clause-follows : goal.returns-then-text-lt-TEXT-clause-follows
returns-then-text-lt-TEXT-clause-follows g c plan input first v =
    after_next _ c.args.ran plan input first _ _ c.next_of.ensures
    (sent plan input first _ _ _ _ _ c.args.sim.now c.send_replies.new.sim v c.send_replies.ensures.left c.in-Ok.ensures.ok c.in-Ok.ensures.after)

pub returns-in_default-print_text-clause-follows : goal.returns-in_default-print_text-clause-follows
returns-in_default-print_text-clause-follows g c plan input first v =
    let g = sent plan input first _ _ _ _ _ c.args.sim.now c.send_replies.new.sim v c.send_replies.ensures.left c.in-Ok.ensures.ok c.in-Ok.ensures.after in
    printed_lost plan input first _ _ _ _ _ g.serves c.in_default-print_text.ensures.err

pub returns-clause-follows : goal.returns-clause-follows
returns-clause-follows g c plan input first v =
    let g = sent plan input first _ _ _ _ _ c.args.sim.now c.send_replies.new.sim v c.send_replies.ensures.left c.in-Ok.ensures.ok c.in-Ok.ensures.after in
    after_next _ c.args.ran plan input first _ _ c.next_of-2.ensures
    (printed_on plan input first _ _ _ _ c.send_replies.new.sim c.print_text.new.sim g c.in-Ok-print_text.ensures.ok c.in-Ok-print_text.ensures.after)
