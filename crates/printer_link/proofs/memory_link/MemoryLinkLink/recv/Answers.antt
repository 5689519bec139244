use Rattle.std.proofs.lemmas.Grind.{common_steps}
use Rattle.std.proofs.Common.{arith, rules}
use Rattle.printer_link.proofs.Links.{heard_past, prompt_past, quiet_past, received_up, recv_failed, recv_failed_at_once}
use Rattle.printer_link.proofs.memory_link.MemoryLinkLink.recv.Goals as goal

pub returns-in-Ok-clause-hears : goal.returns-in-Ok-clause-hears
returns-in-Ok-clause-hears c = record {
  past =
      heard_past c.args.self.now c.begin-fails.new.self c.begin_recv-due.new.self c.take_reply.new.self c.restarts-restarts.result c.begin_recv-due.result c.take_reply.new.into.items c.in-Ok.got c.begin-fails.ensures.counts
      c.begin_recv-due.ensures.counts c.in-Ok.ensures.ok c.requires;
  past_nothing =
      quiet_past c.args.self.now c.begin-fails.new.self c.begin_recv-due.new.self c.take_reply.new.self c.restarts-restarts.result c.begin_recv-due.result c.take_reply.new.into.items c.in-Ok.got c.begin-fails.ensures.counts
      c.begin_recv-due.ensures.counts c.in-Ok.ensures.ok;
  past_failed = search rules;
  past_prompt =
      λ prompt.
      prompt_past c.args.self.now c.begin-fails.new.self c.begin_recv-due.new.self c.take_reply.new.self c.restarts-restarts.result c.begin_recv-due.result c.take_reply.new.into.items c.in-Ok.got c.begin-fails.ensures.counts
      c.begin_recv-due.ensures.counts c.restarts-restarts.ensures c.begin_recv-due.ensures.due c.in-Ok.ensures.ok prompt;
  no_port = search rules;
  up =
      received_up c.args.self.now c.begin-fails.new.self c.begin_recv-due.new.self c.take_reply.new.self c.restarts-restarts.result c.begin_recv-due.result c.take_reply.new.into.items c.in-Ok.got c.begin-fails.ensures.counts
      c.begin_recv-due.ensures.counts c.in-Ok.ensures.ok c.requires;
  down = search rules;
  is_open = search rules;
  kind = search rules;
  calls = search rules;
  counts = search rules;
}

pub returns-in-Err-clause-hears : goal.returns-in-Err-clause-hears
returns-in-Err-clause-hears c = record {
  past = search rules;
  past_nothing = search rules;
  past_failed =
      recv_failed c.args.self.now c.begin-fails.new.self c.begin_recv-due.new.self c.take_reply.new.self c.fail-in-Err.new.self c.begin-fails.ensures.counts c.begin_recv-due.ensures.counts c.in-Err.ensures.err c.fail-in-Err.ensures.after
      c.requires;
  past_prompt = search rules;
  no_port = search rules;
  up = search rules;
  down = grind (arith, common_steps);
  is_open = search rules;
  kind = search rules;
  calls = search rules;
  counts = search rules;
}

pub returns-then-fails-clause-hears : goal.returns-then-fails-clause-hears
returns-then-fails-clause-hears c = record {
  past = search rules;
  past_nothing = search rules;
  past_failed =
      recv_failed_at_once c.args.self.now c.begin-fails.new.self c.begin_recv-due.new.self c.fail.new.self c.begin-fails.ensures.counts c.begin_recv-due.ensures.counts c.fail.ensures.after c.requires;
  past_prompt = search rules;
  no_port = search rules;
  up = search rules;
  down = grind (arith, common_steps);
  is_open = search rules;
  kind = search rules;
  calls = search rules;
  counts = search rules;
}
