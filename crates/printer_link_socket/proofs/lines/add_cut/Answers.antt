use Rattle.std.proofs.Common.{arith, ◌∙◌}
use Rattle.printer_link_socket.proofs.Cuts.{fits_cut, adds_cut}
use Rattle.printer_link_socket.proofs.lines.add_cut.Goals as goal

pub append-requires : goal.append-requires
append-requires c = (
  omega arith,
  fits_cut c.args.line.now.items c.args.bytes.now c.remaining_capacity.result c.min-count.result c.remaining_capacity.ensures c.min-count.ensures,
)

pub returns : goal.returns
returns c =
    c.append.ensures.items
    ∙ adds_cut c.args.line.now.items c.args.bytes.now c.remaining_capacity.result c.min-count.result c.remaining_capacity.ensures c.min-count.ensures
