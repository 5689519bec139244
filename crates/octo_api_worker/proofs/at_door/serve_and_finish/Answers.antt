use Rattle.octo_api_worker.proofs.at_door.serve_and_finish.Goals as goal

pub returns-then-is_open-clause-served : goal.returns-then-is_open-clause-served
returns-then-is_open-clause-served g c input new =
    let did = c.if-is_open.ensures.served input new in
    (g.D.Conn.Conn.state c.serve_conn-is_open.new.conn, did.0, did.2, c.finish.ensures.served, did.1)

pub returns-else-is_open-clause-served : goal.returns-else-is_open-clause-served
returns-else-is_open-clause-served g c input new =
    let did = c.if-is_open.ensures.served input new in
    (g.D.Conn.Conn.state c.serve_conn-is_open.new.conn, did.0, did.2, c.finish.ensures.served, did.1)
