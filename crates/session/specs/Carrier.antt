-- The fabric of a sheet: its name, and its lanes.
use Rattle.fabric.specs.Backing.{Backing, Model, no_backing}
use Rattle.frames.specs.Frames.{frames_model}
use Rattle.ring.specs.Ring.{ring_model}
use Rattle.stage.specs.Stage.{stage_model}
use Rattle.sheet.specs.declared.line.FabricName.{FabricName}
use Rattle.sheet.specs.declared.line.FabricName.TheVariants as name
use Rattle.session.specs.declared.carrier.Carrier.{Carrier}
use Rattle.session.specs.declared.carrier.Carrier.TheVariants.{Ring, Frames, Staged}

abbrev pub carrier_name : Carrier → FabricName
carrier_name (Ring r) = name.Ring
carrier_name (Frames f) = name.Frames
carrier_name (Staged s) = name.Staged

-- the lanes of a fabric, with nothing behind them
abbrev pub bare : {ω : Backing} → Model ω → Model no_backing
bare φ = record { lanes = φ.lanes; state = tt }

abbrev pub carrier_lanes : Carrier → Model no_backing
carrier_lanes (Ring r) = bare (ring_model r)
carrier_lanes (Frames f) = bare (frames_model f)
carrier_lanes (Staged s) = bare (stage_model no_backing s.registers (ring_model s.below))
