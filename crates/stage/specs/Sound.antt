-- What holds of every lawful stage.
use Rattle.std.proofs.Common.{sym, subst, ◌∙◌}
use Rattle.std.specs.Prelude.{ℕ, ◌<◌, List, length, Option}
use Rattle.fabric.specs.declared.message.Message.{Message}
use Rattle.fabric.specs.Lanes.{Lane, Sound, Level}
use Rattle.fabric.proofs.Queue.{lanes_length}
use Rattle.fabric.proofs.Tables as tables
use Rattle.stage.specs.Stage.{stage_lane, stage_lanes, StageLawful}

pub stage_sound : (rs : List (Option Message)) (m : List Lane) → StageLawful rs m → Sound m → Sound (stage_lanes rs m)
stage_sound rs m ok sound =
    tables.table_sound (length m) (stage_lane rs m) sound.lane_bound (λ k h. (sound.capacity_least k h, sound.capacity_most k, ok.fits k h))

pub stage_level : (rs : List (Option Message)) (m : List Lane) → Level m → Level (stage_lanes rs m)
stage_level rs m level j k a b =
    let n = length m in
    let inside : (i : ℕ) → i < length (stage_lanes rs m) → i < length m = λ i h. subst (λ x. i < x) (lanes_length (length m) (stage_lane rs m)) h in
    sym (tables.capacity_in n (stage_lane rs m) j (inside j a)) ∙ level j k (inside j a) (inside k b) ∙ tables.capacity_in n (stage_lane rs m) k (inside k b)
