-- Names of ports: over TCP, of Unix sockets and of serial devices.
use Rattle.std.specs.Prelude.{ℕ, Bool, ◌&&◌, ◌||◌, not, ◌==◌, if◌then◌else◌, List, length, drop, codes, nat_eq, nat_le, Option, Some, None}
use Rattle.std.specs.Char.{is_ascii_digit}
use Rattle.std.specs.List.{list_all, before_last, after_last, starts_with}
use Rattle.byte_text.specs.Marks.{has_byte}
use Rattle.byte_text.specs.Number.{number_of}

-- the colon
abbrev pub is_colon : ℕ → Bool
is_colon byte = byte == 58

-- what is before the last colon
abbrev pub before_last_colon : List ℕ → List ℕ
before_last_colon bytes = before_last is_colon bytes

-- what is after the last colon
abbrev pub after_last_colon : List ℕ → List ℕ
after_last_colon bytes = after_last is_colon bytes

-- a port is written in one to five digits, and is at most 65,535
abbrev pub is_port : List ℕ → Bool
is_port bytes =
    list_all is_ascii_digit bytes
    && nat_le 1 (length bytes)
    && nat_le (length bytes) 5
    && nat_le (number_of bytes) 65535

-- the names that begin as one of a file's
abbrev pub names_file : List ℕ → Bool
names_file name = starts_with nat_eq name (codes "unix:") || starts_with nat_eq name (codes "tty:")

-- an address is a host and, after the last colon, a port; what begins with `unix:` or `tty:` is none
abbrev pub names_address : List ℕ → Bool
names_address name =
    has_byte 58 name
    && nat_le 1 (length (before_last_colon name))
    && is_port (after_last_colon name)
    && not (names_file name)

-- a path of a Unix socket, which isn't empty
abbrev pub names_path : List ℕ → Bool
names_path name = starts_with nat_eq name (codes "unix:") && nat_le 6 (length name)

-- a speed has at most seven digits and isn't 0
abbrev pub is_speed : List ℕ → Bool
is_speed digits = nat_le (length digits) 7 && nat_le 1 (number_of digits)

-- digits after the last colon are a speed
unfoldable pub has_speed : List ℕ → Bool
has_speed device =
    has_byte 58 device
    && list_all is_ascii_digit (after_last_colon device)
    && nat_le 1 (length (after_last_colon device))

-- the path of a device
unfoldable pub device_path : List ℕ → List ℕ
device_path device = if has_speed device then before_last_colon device else device

-- the speed of a device, if one is written
unfoldable pub speed_of : List ℕ → Option ℕ
speed_of device = if has_speed device then Some (number_of (after_last_colon device)) else None

-- a device's path, which isn't empty, with a speed or without
unfoldable pub is_device : List ℕ → Bool
is_device device =
    if has_speed device
    then nat_le 1 (length (before_last_colon device)) && is_speed (after_last_colon device)
    else nat_le 1 (length device)

-- the name of a device
unfoldable pub names_device : List ℕ → Bool
names_device name = starts_with nat_eq name (codes "tty:") && is_device (drop 4 name)

-- the names of ports
abbrev pub names_port : List ℕ → Bool
names_port name = names_address name || names_path name || names_device name
