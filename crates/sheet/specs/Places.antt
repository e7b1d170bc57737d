-- Where a slice lies.
use Rattle.std.specs.Prelude.{◌≡◌, ℕ, ◌+◌, List, take, drop}
use Rattle.std.specs.Borrow.{Bor}

-- part is the caller's own part of whole: the n bytes that begin at its byte a, in the same memory
pub record Part (whole part : Bor (List ℕ)) (a n : ℕ) : Type 0 where
  pub block : part.ref_ptr.0 ≡ whole.ref_ptr.0
  pub start : part.ref_ptr.1 ≡ whole.ref_ptr.1 + a
  pub bytes : part.now ≡ take n (drop a whole.now)
