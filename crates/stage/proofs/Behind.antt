-- What calls on a stage make of what lies behind it.
use Rattle.std.proofs.Common.{◌≡◌, ℕ, ◌<◌, cond, List, [], ◌∷◌, ◌++◌, length, is_ok, Some, None, Option, Result, sym, refl, ap, ◌∙◌, subst}
use Rattle.std.specs.Option.{option_to_list}
use Rattle.fabric.specs.declared.message.Message.{Message}
use Rattle.fabric.specs.declared.fault.FabricFault.{FabricFault}
use Rattle.fabric.specs.Lanes.{Lane, Sound, with_messages, rest_of, lane_of, take_answer, messages_of, capacity_of}
use Rattle.fabric.specs.Backing.{Backing}
use Rattle.fabric.proofs.Answered as answered
use Rattle.fabric.proofs.Queue.{lanes_are, lanes_at, lanes_length}
use Rattle.stage.specs.Stage.{register, stage_lane, stage_lanes, stage_backing, below_lanes, if_empty, StageLawful}
use Rattle.stage.proofs.Calls.{holds, empty, full}

module _ (rs : List (Option Message)) (m : List Lane) (ok : StageLawful rs m) where
  rest_by : (k : ℕ) → k < length m → (o : Option Message) → register rs k ≡ o → messages_of m k ≡ rest_of (option_to_list (register rs k) ++ messages_of m k)
  rest_by k h None e = ok.register_first k h e ∙ sym (λ i. rest_of (option_to_list (e i) ++ ok.register_first k h e i))
  rest_by k h (Some y) e = sym (ap (λ o. rest_of (option_to_list o ++ messages_of m k)) e)

  -- the lanes below are those that the stage's lanes give
  pub below_are : below_lanes (stage_lanes rs m) ≡ m
  below_are =
      let ls : List Lane = stage_lanes rs m in
      sym (lanes_are (length ls) (λ k. with_messages (lane_of ls k) (rest_of (messages_of ls k))) m (sym (lanes_length (length m) (stage_lane rs m)))
      (λ k h.
      let l : k < length m = subst (λ n. k < n) (lanes_length (length m) (stage_lane rs m)) h in
      let a : lane_of ls k ≡ stage_lane rs m k = lanes_at (length m) (stage_lane rs m) k l in
      (λ i. record { capacity = capacity_of m k; messages = rest_by k l (register rs k) refl i }) ∙ sym (ap (λ q. with_messages q (rest_of q.messages)) a)))

  module _ (b : Backing) (s : b.State) (k : ℕ) (in_range : k < length m) (sound : Sound m) where
    abbrev ls : List Lane
    ls = stage_lanes rs m

    pub put_none_state : (x : Message) → register rs k ≡ None → s ≡ (stage_backing b).put_state s ls k x
    put_none_state x e =
        let h : messages_of ls k ≡ [] = holds rs m k in_range ok sound ∙ empty rs m k in_range ok sound e in
        sym (ap (λ l. if_empty l s (b.put_state s (below_lanes ls) k x)) h)

    module _ (y : Message) (some : register rs k ≡ Some y) where
      has : messages_of ls k ≡ y ∷ messages_of m k
      has = holds rs m k in_range ok sound ∙ full rs m k in_range ok sound y some

      pub put_some_state : (x : Message) → b.put_state s m k x ≡ (stage_backing b).put_state s ls k x
      put_some_state x = sym (λ i. if_empty (has i) s (b.put_state s (below_are i) k x))

      by_list : (l : List Message) → messages_of m k ≡ l → (s' : b.State) (r : Result Message FabricFault) → r ≡ take_answer m k → s' ≡ cond (is_ok r) (b.take_state s m k) s → s' ≡ (stage_backing b).take_state s ls k
      by_list [] e s' r a h =
          h ∙ ap (λ q. cond (is_ok q) (b.take_state s m k) s) (a ∙ answered.take_empty m k in_range e)
          ∙ sym (ap (λ l. if_empty (rest_of l) s (b.take_state s (below_lanes ls) k)) (has ∙ ap (λ l. y ∷ l) e))
      by_list (z ∷ zs) e s' r a h =
          h ∙ ap (λ q. cond (is_ok q) (b.take_state s m k) s) (a ∙ answered.take_ok m k z zs in_range e)
          ∙ sym (λ i. if_empty (rest_of ((has ∙ ap (λ l. y ∷ l) e) i)) s (b.take_state s (below_are i) k))

      pub take_some_state : (s' : b.State) (r : Result Message FabricFault) → r ≡ take_answer m k → s' ≡ cond (is_ok r) (b.take_state s m k) s → s' ≡ (stage_backing b).take_state s ls k
      take_some_state = by_list (messages_of m k) refl
