-- The limits of the code are those of the definitions.
use Rattle.std.proofs.Common.{◌≡◌, refl}
use Rattle.fabric.specs.declared.fabric.TheConstants.{MAX_SHIMS, MAX_LANES, MAX_CAPACITY}
use Rattle.fabric.specs.declared.frame.TheConstants.{FRAME_LEN}
use Rattle.fabric.specs.Frame.{frame_bytes}
use Rattle.fabric.specs.Lanes.{shim_limit, lane_limit, capacity_limit}

pub limits : (MAX_SHIMS ≡ shim_limit) × (MAX_LANES ≡ lane_limit) × (MAX_CAPACITY ≡ capacity_limit) × (FRAME_LEN ≡ frame_bytes)
limits = (refl, refl, refl, refl)
