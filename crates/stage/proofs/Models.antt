-- What each call makes of the meaning of a stage.
use Rattle.std.proofs.Common.{◌≡◌, ℕ, ◌+◌, ◌<◌, cond, List, length, set, is_ok, Some, None, Option, Result, ap, ◌∙◌}
use Rattle.std.specs.Result.{result_ok}
use Rattle.fabric.specs.declared.message.Message.{Message}
use Rattle.fabric.specs.declared.fault.FabricFault.{FabricFault}
use Rattle.fabric.specs.Lanes.{Sound, put_answer, take_answer, messages_of, capacity_of}
use Rattle.fabric.specs.Backing.{Backing, Model, put_on, take_on, after_put, after_take}
use Rattle.fabric.proofs.Backing.{put_lanes_are, put_state_is, put_both, take_lanes_are, take_state_is}
use Rattle.stage.specs.Stage.{register, stage_backing, stage_model, StageLawful}
use Rattle.stage.proofs.Behind.{put_none_state, put_some_state, take_some_state}
use Rattle.stage.proofs.Calls.{stage_answers, put_none_lanes, put_some_lanes, take_some_lanes}

module _ (b : Backing) (rs : List (Option Message)) (m : Model b) (k : ℕ) (in_range : k < length m.lanes) (ok : StageLawful rs m.lanes) (sound : Sound m.lanes) where
  -- the message goes into the empty register
  pub put_in_register : (x : Message) → register rs k ≡ None → stage_model b (set rs k (Some x)) m ≡ put_on (stage_backing b) (stage_model b rs m) k x
  put_in_register x none =
      let lanes = put_none_lanes rs m.lanes k in_range ok sound x none in
      let state = put_none_state rs m.lanes ok b m.state k in_range sound x none in
      λ i. record { lanes = lanes i; state = state i }

  module _ (y : Message) (some : register rs k ≡ Some y) (m' : Model b) where
    -- the register is full, and the message goes below
    pub put_below : (x : Message) (r : Result Unit FabricFault) → length (messages_of m.lanes k) + 1 < capacity_of m.lanes k → r ≡ put_answer m.lanes k → m' ≡ after_put b r m k x
        → stage_model b rs m' ≡ after_put (stage_backing b) r (stage_model b rs m) k x
    put_below x r space answer after =
        put_both (stage_backing b) r (stage_model b rs m) (stage_model b rs m') k x
        (put_some_lanes rs m.lanes k in_range ok sound y some x m'.lanes r space answer (put_lanes_are b r m m' k x after))
        (put_state_is b r m m' k x after ∙ ap (λ q. cond (is_ok r) q m.state) (put_some_state rs m.lanes ok b m.state k in_range sound y some x))

    -- the message in the register goes, and the next one below comes up
    pub next_comes_up : (r : Result Message FabricFault) (o : Option Message) → r ≡ take_answer m.lanes k → m' ≡ after_take b r m k → o ≡ result_ok r
        → stage_model b (set rs k o) m' ≡ take_on (stage_backing b) (stage_model b rs m) k
    next_comes_up r o answer after next =
        let lanes = take_some_lanes rs m.lanes k in_range ok sound y some m'.lanes r o answer (take_lanes_are b r m m' k after) next in
        let state = take_some_state rs m.lanes ok b m.state k in_range sound y some m'.state r answer (take_state_is b r m m' k after) in
        λ i. record { lanes = lanes i; state = state i }

-- what a stage answers, and what a put and a take leave
pub ruleset stage_calls = (stage_answers, put_in_register, put_below, next_comes_up)
