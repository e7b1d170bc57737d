-- A fabric whose lanes have one capacity and are given by a function: what its calls answer and leave.
use Rattle.std.proofs.Common.{◌≡◌, ℕ, ◌<◌, ◌≤◌, ◌≢◌, List, [], ◌∷◌, ◌++◌, length, Ok, Err, sym, ap, ◌∙◌, subst, ⊎_elim, arith}
use Rattle.std.proofs.lemmas.List.{get_or_past}
use Rattle.std.proofs.lemmas.Bool.{cases_lt}
use Rattle.fabric.specs.declared.message.Message.{Message}
use Rattle.fabric.specs.declared.fault.FabricFault.TheVariants.{NoLane, Full, Empty}
use Rattle.fabric.specs.Lanes.{Lane, Sound, Level, lane_limit, capacity_limit, with_messages, put_answer, put_lanes, take_answer, take_lanes, rest_of, set_messages, messages_of, capacity_of, lane_of, no_lane}
use Rattle.fabric.specs.Queue.{lanes_by}
use Rattle.fabric.proofs.Answered as answered
use Rattle.fabric.proofs.Queue.{lanes_length, lanes_at, lanes_with}

module _ (n : ℕ) (lane : ℕ → Lane) where
  abbrev table : List Lane
  table = lanes_by n lane

  within : (k : ℕ) → k < n → k < length table
  within k h = subst (λ m. k < m) (sym (lanes_length n lane)) h

  past : (k : ℕ) → n ≤ k → length table ≤ k
  past k h = subst (λ m. m ≤ k) (sym (lanes_length n lane)) h

  lane_past : (k : ℕ) → n ≤ k → lane_of table k ≡ no_lane
  lane_past k h = get_or_past table k no_lane (past k h)

  pub capacity_in : (k : ℕ) → k < n → (lane k).capacity ≡ capacity_of table k
  capacity_in k h = sym (ap (λ l. l.capacity) (lanes_at n lane k h))

  pub capacity_out : (k : ℕ) → n ≤ k → 0 ≡ capacity_of table k
  capacity_out k h = sym (ap (λ l. l.capacity) (lane_past k h))

  pub messages_at : (k : ℕ) → k < n → messages_of table k ≡ (lane k).messages
  messages_at k h = ap (λ l. l.messages) (lanes_at n lane k h)

  pub wait_in : (k : ℕ) → k < n → length (lane k).messages ≡ length (messages_of table k)
  wait_in k h = sym (ap length (messages_at k h))

  pub wait_out : (k : ℕ) → n ≤ k → 0 ≡ length (messages_of table k)
  wait_out k h = sym (ap (λ l. length l.messages) (lane_past k h))

  pub no_put : (k : ℕ) → n ≤ k → Err (NoLane k) ≡ put_answer table k
  no_put k h = sym (answered.put_no_lane table k (past k h))

  pub full_put : (k : ℕ) → k < n → (lane k).capacity ≤ length (lane k).messages → Err (Full k) ≡ put_answer table k
  full_put k h f = sym (answered.put_full table k (within k h) (omega (arith, capacity_in k h, wait_in k h)))

  pub ok_put : (k : ℕ) → k < n → length (lane k).messages < (lane k).capacity → Ok tt ≡ put_answer table k
  ok_put k h f = sym (answered.put_ok table k (within k h) (omega (arith, capacity_in k h, wait_in k h)))

  pub no_take : (k : ℕ) → n ≤ k → Err (NoLane k) ≡ take_answer table k
  no_take k h = sym (answered.take_no_lane table k (past k h))

  pub empty_take : (k : ℕ) → k < n → (lane k).messages ≡ [] → Err (Empty k) ≡ take_answer table k
  empty_take k h e = sym (answered.take_empty table k (within k h) (messages_at k h ∙ e))

  pub ok_take : (k : ℕ) (x : Message) (xs : List Message) → k < n → (lane k).messages ≡ x ∷ xs → Ok x ≡ take_answer table k
  ok_take k x xs h e = sym (answered.take_ok table k x xs (within k h) (messages_at k h ∙ e))

  -- the lanes after a put and after a take
  pub put_made : (lane' : ℕ → Lane) (k : ℕ) (x : Message) → k < n → lane' k ≡ with_messages (lane k) ((lane k).messages ++ x ∷ []) → ((j : ℕ) → j < n → j ≢ k → lane' j ≡ lane j) → lanes_by n lane' ≡ put_lanes table k x
  put_made lane' k x h e o =
      lanes_with n lane lane' k _ h e o ∙ ap (λ l. set_messages table k (l ++ x ∷ [])) (sym (messages_at k h))

  pub take_made : (lane' : ℕ → Lane) (k : ℕ) → k < n → lane' k ≡ with_messages (lane k) (rest_of (lane k).messages) → ((j : ℕ) → j < n → j ≢ k → lane' j ≡ lane j) → lanes_by n lane' ≡ take_lanes table k
  take_made lane' k h e o =
      lanes_with n lane lane' k _ h e o ∙ ap (λ l. set_messages table k (rest_of l)) (sym (messages_at k h))

  pub table_sound : n ≤ lane_limit → ((k : ℕ) → k < n → (1 ≤ (lane k).capacity) × ((lane k).capacity ≤ capacity_limit) × (length (lane k).messages ≤ (lane k).capacity)) → Sound table
  table_sound lane_bound each =
      record {
        lane_bound = omega (arith, lanes_length n lane);
        capacity_least = λ k h. let l = subst (λ m. k < m) (lanes_length n lane) h in omega (arith, capacity_in k l, each k l);
        capacity_most = λ k. ⊎_elim (λ h. omega (arith, capacity_in k h, each k h)) (λ h. omega (arith, capacity_out k h)) (cases_lt k n);
        fits = λ k. ⊎_elim (λ h. omega (arith, capacity_in k h, wait_in k h, each k h)) (λ h. omega (arith, capacity_out k h, wait_out k h)) (cases_lt k n);
      }

  pub table_level : (c : ℕ) → ((k : ℕ) → k < n → (lane k).capacity ≡ c) → Level table
  table_level c each j k a b =
      let inside : (i : ℕ) → i < length table → i < n = λ i h. subst (λ m. i < m) (lanes_length n lane) h in
      sym (capacity_in j (inside j a)) ∙ each j (inside j a) ∙ sym (each k (inside k b)) ∙ capacity_in k (inside k b)
