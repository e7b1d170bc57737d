-- The common order of a run: what it is. The law is the record `CommonOrder`, at the end. It is read from the calls and what the
-- board said to each, and, where no message waits at the end, from the hub's words and the copies held then.
-- t is a trace, o an order; i, j, k, u and d are places; s and q shims, x a line, g a strength, v and w words; c a call, r what the board said.
-- In types, `(i : ℕ) × A` is: for some i, A; `(i : ℕ) → A`: for every i, A; `A × B`: both; `A ⊎ B`: one of them; `A → ⊥` and `¬ A`: not A.
use Rattle.std.specs.Prelude.{◌≡◌, ℕ, ◌<◌, Bool, true, false, ◌&&◌, ◌≢◌, ◌⊎◌, List, length, take, filter, slice_get, Contains, Some, Ok, Result, ◌==◌, ⊤}
use Rattle.rules.specs.declared.strength.Strength.TheVariants.{SeqCst}
use Rattle.rules.specs.Strengths.{strength_number}
pub use Rattle.rules.specs.declared.call.Call.{Call}
pub use Rattle.rules.specs.declared.call.Call.TheVariants.{Load, Store, Fence, Evict, Up, Down}
pub use Rattle.rules.specs.declared.answer.Answer.{Answer}
pub use Rattle.rules.specs.declared.answer.Answer.TheVariants.{Done, Waits, Value, Ended, Handled}
pub use Rattle.rules.specs.declared.refusal.Refusal.{Refusal}

-- What the board says to a call: an answer where it accepts it, or a refusal.
abbrev pub Outcome : Type 0
Outcome = Result Answer Refusal

-- The trace of a run: its calls as they follow, with what the board said to each. A place is an index in it.
abbrev pub Trace : Type 0
Trace = List (Call × Outcome)

-- the call at place i of the trace is c, and the board said r to it
abbrev pub At : Trace → ℕ → Call → Outcome → Type 0
At t i c r = slice_get t i ≡ Some (c, r)

-- a call is made at one shim, and counts as a call of that shim's chip
abbrev pub shim_of : Call → ℕ
shim_of (Load s x g) = s
shim_of (Store s x g w) = s
shim_of (Fence s g) = s
shim_of (Evict s x) = s
shim_of (Up s) = s
shim_of (Down s) = s

-- WHAT THE HUB PERFORMS

-- a call that sends a message up: an accepted store or eviction, a load or a fence that waits
abbrev pub sends : Call → Outcome → Bool
sends (Load s x g) (Ok Waits) = true
sends (Store s x g w) (Ok a) = true
sends (Fence s g) (Ok Waits) = true
sends (Evict s x) (Ok a) = true
sends c r = false

-- an accepted up
abbrev pub performs : Call → Outcome → Bool
performs (Up s) (Ok a) = true
performs c r = false

-- how many of the first k calls are made at shim s and pass the test
abbrev pub count : (Call → Outcome → Bool) → ℕ → Trace → ℕ → ℕ
count test s t k = length (filter (λ e. shim_of e.0 == s && test e.0 e.1) (take k t))

-- the up at place u performs the call at place i: the k-th accepted up of a shim performs the k-th call that it sent up
pub record Performs (t : Trace) (u i : ℕ) : Type 0 where
  pub shim : ℕ
  pub answer : Answer
  pub call : Call
  pub outcome : Outcome
  pub up_at : At t u (Up shim) (Ok answer)
  pub at : At t i call outcome
  pub is_sent : sends call outcome ≡ true
  pub own : shim_of call ≡ shim
  pub same_rank : count performs shim t u ≡ count sends shim t i

abbrev pub Performed : Trace → ℕ → Type 0
Performed t i = (u : ℕ) × Performs t u i

-- the hub performed the call at place i before the call at place j
abbrev pub HubBefore : Trace → ℕ → ℕ → Type 0
HubBefore t i j = (u : ℕ) × (u' : ℕ) × Performs t u i × Performs t u' j × u < u'

-- WHAT STANDS IN THE ORDER

-- the call at place i is an accepted store of w to line x, by shim s
abbrev pub Stored : Trace → ℕ → ℕ → ℕ → ℕ → Type 0
Stored t i s x w = (g : ℕ) × (a : Answer) × At t i (Store s x g w) (Ok a)

-- the load of line x that shim s made at place i gave w: at once, or by the shim's next down that answered a word
pub data Gave (t : Trace) (i s x w : ℕ) : Type 0 where
  at_once : (g : ℕ) → At t i (Load s x g) (Ok (Value w)) → Gave t i s x w
  later : (g d : ℕ) → At t i (Load s x g) (Ok Waits) → i < d → At t d (Down s) (Ok (Value w))
      → ((k v : ℕ) → i < k → k < d → At t k (Down s) (Ok (Value v)) → ⊥) → Gave t i s x w

-- the fence that shim s made at place i has ended: a later down of the shim said so
abbrev pub Fenced : Trace → ℕ → ℕ → Type 0
Fenced t i s = (g : ℕ) × (d : ℕ) × At t i (Fence s g) (Ok Waits) × i < d × At t d (Down s) (Ok Ended)

-- the call that shim s made at place i stands in the order
pub data Stands (t : Trace) (i s : ℕ) : Type 0 where
  a_store : (x w : ℕ) → Stored t i s x w → Stands t i s
  a_load : (x w : ℕ) → Gave t i s x w → Stands t i s
  a_fence : Fenced t i s → Stands t i s

-- THE ORDER, a list of places

-- i stands before j
abbrev pub Before : List ℕ → ℕ → ℕ → Type 0
Before o i j = (p : ℕ) × (q : ℕ) × slice_get o p ≡ Some i × slice_get o q ≡ Some j × p < q

-- the call at place i is a load by shim s; an accepted store by shim s that is not SC
abbrev pub IsLoad : Trace → ℕ → ℕ → Type 0
IsLoad t i s = (x : ℕ) × (g : ℕ) × (r : Outcome) × At t i (Load s x g) r

abbrev pub IsWeakStore : Trace → ℕ → ℕ → Type 0
IsWeakStore t i s = (x : ℕ) × (g : ℕ) × (w : ℕ) × (a : Answer) × At t i (Store s x g w) (Ok a) × g ≢ strength_number SeqCst

-- a load, at place j, may stand before a store that its chip made earlier, at place i, if that is not SC
abbrev pub MayPrecede : Trace → ℕ → ℕ → ℕ → Type 0
MayPrecede t s j i = IsLoad t j s × IsWeakStore t i s

-- a load, at place j of shim s, sees a store, at place i of shim q, that stands before it or that its own chip made earlier
abbrev pub Sees : List ℕ → ℕ → ℕ → ℕ → ℕ → Type 0
Sees o j s i q = Before o i j ⊎ ((q ≡ s) × (i < j))

-- w is the word of the last store to line x among those that count, each by its place and its shim: all others that count stand
-- before it; zero where none counts
abbrev pub LastWord : Trace → List ℕ → (ℕ → ℕ → Type 0) → ℕ → ℕ → Type 0
LastWord t o Counts x w =
    ((i : ℕ) × (s : ℕ) × Stored t i s x w × Counts i s × ((k q v : ℕ) → Stored t k q x v → Counts k q → k ≡ i ⊎ Before o k i))
    ⊎ (((k q v : ℕ) → Stored t k q x v → Counts k q → ⊥) × w ≡ 0)

abbrev pub EveryStore : ℕ → ℕ → Type 0
EveryStore i s = ⊤

-- the end of a run, as far as the law speaks of it: that no message waits; that the hub's word of line x is w; that shim s holds a
-- copy of line x, and it is w
pub record End : Type 1 where
  pub Quiet : Type 0
  pub HubWord : ℕ → ℕ → Type 0
  pub HeldCopy : ℕ → ℕ → ℕ → Type 0

pub record CommonOrder (t : Trace) (z : End) (o : List ℕ) : Type 0 where
  -- the accepted stores, answered loads and ended fences stand in it, each once
  pub once : (p q i : ℕ) → slice_get o p ≡ Some i → slice_get o q ≡ Some i → p ≡ q
  pub only : (i : ℕ) → Contains o i → (s : ℕ) × Stands t i s
  pub all : (i s : ℕ) → Stands t i s → Contains o i
  -- what the hub performed keeps the hub's order, and stands before stores that it has not performed
  pub as_hub : (i j : ℕ) → Contains o i → Contains o j → HubBefore t i j → Before o i j
  pub unperformed_last : (i j s x w : ℕ) → Contains o i → Performed t i → Stored t j s x w → ¬ Performed t j → Before o i j
  -- a chip's calls keep their order, but a load may precede its chip's earlier store that is not SC
  pub as_chip : (i j s : ℕ) → Stands t i s → Stands t j s → i < j → ¬ MayPrecede t s j i → Before o i j
  -- a load gave the word of the last store to its line that it sees
  pub loads : (j s x w : ℕ) → Gave t j s x w → LastWord t o (Sees o j s) x w
  -- once no message waits, the hub's word and every held copy of a line are the word of the last store to it
  pub words : z.Quiet → (x w : ℕ) → z.HubWord x w → LastWord t o EveryStore x w
  pub copies : z.Quiet → (s x w : ℕ) → z.HeldCopy s x w → LastWord t o EveryStore x w

abbrev pub HasCommonOrder : Trace → End → Type 0
HasCommonOrder t z = (o : List ℕ) × CommonOrder t z o
