-- What is known of a stream to a printer, and why there is none.
use Rattle.std.specs.Prelude.{ℕ, ℤ, List, Option, Some, None, unsigned_abs}
use Rattle.printer_link_cause.specs.declared.cause.Cause.{Cause}
use Rattle.printer_link_cause.specs.declared.cause.Cause.TheVariants.{NoDevice, System, Unnumbered}
use Rattle.printer_link_ports.specs.declared.stream.PortStream.{PortStream}
use Rattle.printer_link_ports.specs.declared.stream.PortStream.TheVariants.{Socket, Tty}

-- what is known of the socket, or of the serial device
abbrev pub of_port : {S T : Type 0} → (S → Option (List ℕ)) → (T → Option (List ℕ)) → PortStream S T → Option (List ℕ)
of_port socket tty (Socket stream) = socket stream
of_port socket tty (Tty stream) = tty stream

-- a device's file that can't be opened, by the number of the system's error
abbrev pub not_opened : Option ℤ → Cause
not_opened (Some number) = NoDevice (unsigned_abs number)
not_opened None = Unnumbered

-- a peer that hasn't accepted; an error without a number is that of a connect that took too long
abbrev pub unconnected : Option ℤ → Cause
unconnected (Some number) = System (unsigned_abs number)
unconnected None = System 110
