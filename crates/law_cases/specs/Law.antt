-- The law with five of its words left open: with the words of the law it is the law, with another word for one of them a neighbour of it.
use Rattle.std.specs.Prelude.{◌≡◌, ℕ, ◌<◌, List, slice_get, Contains, Some}
use Rattle.order.specs.Common.{Trace, End, Stored, Gave, Stands, Performed, HubBefore, Before, MayPrecede, Sees, LastWord, EveryStore, CommonOrder}

-- which calls may stand in an order, and which must; what the hub's order is; what a load may precede; which stores a load sees
pub record Words : Type 1 where
  pub MayStand : Trace → ℕ → ℕ → Type 0
  pub MustStand : Trace → ℕ → ℕ → Type 0
  pub HubKeeps : Trace → ℕ → ℕ → Type 0
  pub Passes : Trace → ℕ → ℕ → ℕ → Type 0
  pub LooksAt : List ℕ → ℕ → ℕ → ℕ → ℕ → Type 0

abbrev pub as_stated : Words
as_stated = record { MayStand = Stands; MustStand = Stands; HubKeeps = HubBefore; Passes = MayPrecede; LooksAt = Sees }

-- field by field `CommonOrder`, with these words in place of its own
pub record OrderBy (v : Words) (t : Trace) (z : End) (o : List ℕ) : Type 0 where
  pub once : (p q i : ℕ) → slice_get o p ≡ Some i → slice_get o q ≡ Some i → p ≡ q
  pub only : (i : ℕ) → Contains o i → (s : ℕ) × v.MayStand t i s
  pub all : (i s : ℕ) → v.MustStand t i s → Contains o i
  pub as_hub : (i j : ℕ) → Contains o i → Contains o j → v.HubKeeps t i j → Before o i j
  pub unperformed_last : (i j s x w : ℕ) → Contains o i → Performed t i → Stored t j s x w → ¬ Performed t j → Before o i j
  pub as_chip : (i j s : ℕ) → v.MayStand t i s → v.MayStand t j s → i < j → ¬ v.Passes t s j i → Before o i j
  pub loads : (j s x w : ℕ) → Gave t j s x w → LastWord t o (v.LooksAt o j s) x w
  pub words : z.Quiet → (x w : ℕ) → z.HubWord x w → LastWord t o EveryStore x w
  pub copies : z.Quiet → (s x w : ℕ) → z.HeldCopy s x w → LastWord t o EveryStore x w

abbrev pub HasOrder : Words → Trace → End → Type 0
HasOrder v t z = (o : List ℕ) × OrderBy v t z o

-- an end at which a message waits: the law asks nothing of it, and least of all ends
abbrev pub busy : End
busy = record { Quiet = ⊥; HubWord = λ x w. ⊥; HeldCopy = λ s x w. ⊥ }

-- with the words of the law it is the law
pub record IsTheLaw (t : Trace) (z : End) (o : List ℕ) : Type 0 where
  pub from_law : CommonOrder t z o → OrderBy as_stated t z o
  pub to_law : OrderBy as_stated t z o → CommonOrder t z o
