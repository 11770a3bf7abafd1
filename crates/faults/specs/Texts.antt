-- The texts of a place that is refused.
use Rattle.std.specs.Prelude.{ℕ, List, ◌++◌, codes, decimal}
use Rattle.memory.specs.declared.MemoryFault.TheVariants.{Fixed, Absent}
use Rattle.faults.specs.declared.Misplaced.{Misplaced}
use Rattle.faults.specs.declared.Misplaced.TheVariants.{Memory, Past}
use Rattle.faults.specs.declared.PlaceFault.{PlaceFault}

abbrev pub misplaced_text : Misplaced → List ℕ
misplaced_text (Memory Fixed) = codes "fixed"
misplaced_text (Memory Absent) = codes "absent"
misplaced_text Past = codes "past"

abbrev pub place_text : PlaceFault → List ℕ
place_text place = codes "fault " ++ misplaced_text place.fault ++ codes " address " ++ decimal place.address
