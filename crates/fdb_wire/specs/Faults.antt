-- A fault of a tuple, as one of the wire.
use Rattle.fdb_tuple.specs.declared.fault.UnpackFault.{UnpackFault}
use Rattle.fdb_tuple.specs.declared.fault.UnpackFault.TheVariants as unpack
use Rattle.fdb_wire.specs.declared.fault.WireFault.{WireFault}
use Rattle.fdb_wire.specs.declared.fault.WireFault.TheVariants.{NoTuple, NoMemory}

abbrev pub wire_fault : UnpackFault → WireFault
wire_fault (unpack.Truncated place) = NoTuple (unpack.Truncated place)
wire_fault (unpack.BadCode place) = NoTuple (unpack.BadCode place)
wire_fault (unpack.NotMinimal place) = NoTuple (unpack.NotMinimal place)
wire_fault (unpack.TooBig place) = NoTuple (unpack.TooBig place)
wire_fault (unpack.BadUtf8 place) = NoTuple (unpack.BadUtf8 place)
wire_fault (unpack.TooDeep place) = NoTuple (unpack.TooDeep place)
wire_fault unpack.NoMemory = NoMemory
