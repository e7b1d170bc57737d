-- When a put and a take answer what.
use Rattle.std.proofs.Common.{◌≡◌, ℕ, ◌<◌, ◌≤◌, List, [], ◌∷◌, length, Ok, Err, ap}
use Rattle.std.proofs.lemmas.Bool.{lt-leb, le-leb}
use Rattle.fabric.specs.declared.message.Message.{Message}
use Rattle.fabric.specs.declared.fault.FabricFault.TheVariants.{NoLane, Full, Empty}
use Rattle.fabric.specs.Lanes.{Lane, put_answer, take_answer, first_of, messages_of, capacity_of}

module _ (m : List Lane) (k : ℕ) where
  pub put_no_lane : length m ≤ k → put_answer m k ≡ Err (NoLane k)
  put_no_lane h = rw (le-leb (length m) k h)

  pub put_full : k < length m → capacity_of m k ≤ length (messages_of m k) → put_answer m k ≡ Err (Full k)
  put_full h f = rw (lt-leb (length m) k h, le-leb (capacity_of m k) (length (messages_of m k)) f)

  pub put_ok : k < length m → length (messages_of m k) < capacity_of m k → put_answer m k ≡ Ok tt
  put_ok h f = rw (lt-leb (length m) k h, lt-leb (capacity_of m k) (length (messages_of m k)) f)

  pub take_no_lane : length m ≤ k → take_answer m k ≡ Err (NoLane k)
  take_no_lane h = rw (le-leb (length m) k h)

  pub take_empty : k < length m → messages_of m k ≡ [] → take_answer m k ≡ Err (Empty k)
  take_empty h e = rw (lt-leb (length m) k h) (ap (λ l. first_of l k) e)

  pub take_ok : (x : Message) (xs : List Message) → k < length m → messages_of m k ≡ x ∷ xs → take_answer m k ≡ Ok x
  take_ok x xs h e = rw (lt-leb (length m) k h) (ap (λ l. first_of l k) e)
