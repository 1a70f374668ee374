-- What a door to the network holds and counts.
use Rattle.std.specs.Prelude.{ℕ, List}
use Rattle.lk_listen.specs.declared.tcp_door.TcpDoor.{TcpDoor}

-- the runtime that it listens by
abbrev pub door_runtime : {R : Type 0} → TcpDoor R → R
door_runtime door = door.rt

-- the address that it binds
abbrev pub door_address : {R : Type 0} → TcpDoor R → List ℕ
door_address door = door.address

-- the calls that failed
abbrev pub door_faults : {R : Type 0} → TcpDoor R → ℕ
door_faults door = door.faults
