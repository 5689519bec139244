-- What a call says of tables that aren't recorded.
use Rattle.std.specs.Prelude.{Result, Ok, Err, OnOk, OnErr}

-- what holds, holds if a call succeeded, and if it failed
pub if_ok : {X E P : Type 0} (r : Result X E) → P → OnOk r P
if_ok (Ok x) holds = holds
if_ok (Err e) holds = tt

pub if_err : {X E P : Type 0} (r : Result X E) → P → OnErr r P
if_err (Ok x) holds = tt
if_err (Err e) holds = holds
