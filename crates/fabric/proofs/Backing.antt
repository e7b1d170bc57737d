-- The two parts of a fabric after a call.
use Rattle.std.proofs.Common.{◌≡◌, ℕ, cond, is_ok, Ok, Err, Result, ap, ◌∙◌}
use Rattle.fabric.specs.declared.message.Message.{Message}
use Rattle.fabric.specs.declared.fault.FabricFault.{FabricFault}
use Rattle.fabric.specs.Lanes.{lanes_after_put, lanes_after_take}
use Rattle.fabric.specs.Backing.{Backing, Model, after_put, after_take}

module _ (b : Backing) {A : Type 0} where
  pub put_lanes_are : (r : Result A FabricFault) (m m' : Model b) (k : ℕ) (x : Message) → m' ≡ after_put b r m k x → m'.lanes ≡ lanes_after_put r m.lanes k x
  put_lanes_are (Ok a) m m' k x e = ap (λ (q : Model b). q.lanes) e
  put_lanes_are (Err a) m m' k x e = ap (λ (q : Model b). q.lanes) e

  pub put_state_is : (r : Result A FabricFault) (m m' : Model b) (k : ℕ) (x : Message) → m' ≡ after_put b r m k x → m'.state ≡ cond (is_ok r) (b.put_state m.state m.lanes k x) m.state
  put_state_is (Ok a) m m' k x e = ap (λ (q : Model b). q.state) e
  put_state_is (Err a) m m' k x e = ap (λ (q : Model b). q.state) e

  pub put_both : (r : Result A FabricFault) (m m' : Model b) (k : ℕ) (x : Message) → m'.lanes ≡ lanes_after_put r m.lanes k x → m'.state ≡ cond (is_ok r) (b.put_state m.state m.lanes k x) m.state → m' ≡ after_put b r m k x
  put_both (Ok a) m m' k x l s = λ i. record { lanes = l i; state = s i }
  put_both (Err a) m m' k x l s = λ i. record { lanes = l i; state = s i }

  pub take_lanes_are : (r : Result A FabricFault) (m m' : Model b) (k : ℕ) → m' ≡ after_take b r m k → m'.lanes ≡ lanes_after_take r m.lanes k
  take_lanes_are (Ok a) m m' k e = ap (λ (q : Model b). q.lanes) e
  take_lanes_are (Err a) m m' k e = ap (λ (q : Model b). q.lanes) e

  pub take_state_is : (r : Result A FabricFault) (m m' : Model b) (k : ℕ) → m' ≡ after_take b r m k → m'.state ≡ cond (is_ok r) (b.take_state m.state m.lanes k) m.state
  take_state_is (Ok a) m m' k e = ap (λ (q : Model b). q.state) e
  take_state_is (Err a) m m' k e = ap (λ (q : Model b). q.state) e

  -- a take writes no byte
  pub take_bytes : (r : Result A FabricFault) (m m' : Model b) (k : ℕ) → m' ≡ after_take b r m k → b.bytes_of m'.state ≡ b.bytes_of m.state
  take_bytes (Ok a) m m' k e = ap (λ (q : Model b). b.bytes_of q.state) e ∙ b.take_keeps_bytes m.state m.lanes k
  take_bytes (Err a) m m' k e = ap (λ (q : Model b). b.bytes_of q.state) e
