-- What a connection says of itself, and what each of its calls leaves.
use Rattle.std.specs.Prelude.{◌≡◌, ℕ, ◌<◌, ◌≤◌, List, [], Option, Result, length, take, IfOk, OnErr, IsErr, IfSome}
use Rattle.octo_outside.specs.Recorded.{Adds, Counts}
use Rattle.octo_outside.specs.Traits.{Receives, IsWithin, quiets_after}
use Rattle.octo_outside.specs.declared.conn.Got.{Got}
use Rattle.octo_outside.specs.declared.types.Failed.{Failed}

-- what is left to read and what was written, if it keeps them, how many calls failed, and how many reads found nothing yet
pub record ConnState : Type 0 where
  pub left : Option (List ℕ)
  pub written : Option (List ℕ)
  pub faults : ℕ
  pub quiets : ℕ

-- a call of `read`
pub record Reads (old : ConnState) (result : Result Got Failed) (into : List ℕ) (new : ConnState) : Type 0 where
  pub ok : IfOk result (λ got. IfSome old.left (λ before. Receives before got into new.left))
  pub bound : IfOk result (λ got. IsWithin got (length into))
  pub err : OnErr result (new.left ≡ old.left)
  pub written : new.written ≡ old.written
  pub quiet : IfOk result (λ got. new.quiets ≡ quiets_after old.quiets got)
  pub quiet_err : OnErr result (new.quiets ≡ old.quiets)
  pub quiets_counted : old.quiets ≤ new.quiets
  pub counts : Counts (IsErr result) old.faults new.faults

-- a call of `write`
pub record Writes (old : ConnState) (bytes : List ℕ) (result : Result ℕ Failed) (new : ConnState) : Type 0 where
  pub ok : IfOk result (λ n. (0 < n) × (n ≤ length bytes) × Adds old.written new.written (take n bytes))
  pub err : OnErr result (Adds old.written new.written [])
  pub left : new.left ≡ old.left
  pub quiets : new.quiets ≡ old.quiets
  pub counts : Counts (IsErr result) old.faults new.faults
