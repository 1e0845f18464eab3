-- The fault of a call of the allocator, where one of the transaction's calls has a fault.
use Rattle.fdb_calls.specs.declared.fault.TrFault.{TrFault}
use Rattle.fdb_calls.specs.declared.fault.TrFault.TheVariants as tr
use Rattle.prefix_allocator.specs.declared.fault.AllocFault.{AllocFault}
use Rattle.prefix_allocator.specs.declared.fault.AllocFault.TheVariants as fault

abbrev pub fault_of : TrFault → AllocFault
fault_of (tr.Code code) = fault.Tr code
fault_of tr.NoMemory = fault.NoMemory
