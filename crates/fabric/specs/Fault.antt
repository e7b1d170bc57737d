-- What a refusal of a fabric says.
use Rattle.std.specs.Prelude.{ℕ}
use Rattle.fabric.specs.declared.fault.FabricFault.{FabricFault}
use Rattle.fabric.specs.declared.fault.FabricFault.TheVariants.{NoLane, Full, Empty}

-- the number of each refusal
abbrev pub fault_number : FabricFault → ℕ
fault_number (NoLane k) = 21
fault_number (Full k) = 22
fault_number (Empty k) = 23

-- the lane that was named
abbrev pub fault_lane : FabricFault → ℕ
fault_lane (NoLane k) = k
fault_lane (Full k) = k
fault_lane (Empty k) = k
