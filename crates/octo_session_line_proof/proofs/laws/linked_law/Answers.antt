use Rattle.octo_session_line_proof.proofs.Promised.{new_linked, desk_linked}
use Rattle.octo_session_line_proof.proofs.laws.linked_law.Goals as goal

pub returns-clause-begins : goal.returns-clause-begins
returns-clause-begins c = new_linked

pub returns-clause-desk : goal.returns-clause-desk
returns-clause-desk c = desk_linked
