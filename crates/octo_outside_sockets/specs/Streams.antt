-- What is known of a stream of the system.
use Rattle.std.specs.Prelude.{ℕ, List, Option, None}
use Rattle.octo_outside_sockets.specs.declared.socket_stream.SocketStream.{SocketStream}
use Rattle.octo_outside_sockets.specs.declared.socket_stream.SocketStream.TheVariants.{Tcp, Unix}

-- what is known of the stream over TCP; of a Unix socket nothing is
abbrev pub of_stream : {S : Type 0} → (S → Option (List ℕ)) → SocketStream S → Option (List ℕ)
of_stream known (Tcp stream) = known stream
of_stream known (Unix stream) = None
