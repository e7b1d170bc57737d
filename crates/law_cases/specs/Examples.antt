-- Each word of the law on one of the runs, with what is not so where that tells more.
use Rattle.std.specs.Prelude.{◌≡◌, ℕ, true, false, List, [], ◌∷◌, Ok, Err}
use Rattle.rules.specs.declared.refusal.Refusal.TheVariants.{NoLine}
use Rattle.rules.specs.declared.kind.Kind.TheVariants.{Write}
use Rattle.order.specs.Common.{Load, Store, Evict, Up, Done, Waits, Value, Handled, shim_of, sends, performs, count, At, Performs, Performed, HubBefore, Stored, Gave, Fenced, Stands, Before, IsLoad, IsWeakStore, MayPrecede, Sees, LastWord, EveryStore, CommonOrder}
use Rattle.law_cases.specs.Law.{busy}
use Rattle.law_cases.specs.Sheets.{asked_of, told, plain, own, crossed, crossed_end, both_sc, both_fenced}

abbrev pub plain_order : List ℕ
plain_order = 0 ∷ 8 ∷ 3 ∷ 9 ∷ 6 ∷ 7 ∷ []

abbrev pub own_order : List ℕ
own_order = 0 ∷ 8 ∷ 9 ∷ 3 ∷ 10 ∷ 11 ∷ 7 ∷ 6 ∷ []

abbrev pub crossed_order : List ℕ
crossed_order = 1 ∷ 0 ∷ 8 ∷ 9 ∷ 14 ∷ []

pub record Examples : Type 0 where
  -- what the board says to the three lists of calls
  pub plain_said : told (asked_of plain) ≡ plain
  pub own_said : told (asked_of own) ≡ own
  pub crossed_said : told (asked_of crossed) ≡ crossed
  -- what the board says at a place
  pub a_place : At crossed 2 (Store 0 7 0 3) (Err NoLine)
  -- what goes up: a load that waits does, one that is answered at once or a store that is refused does not
  pub waiting_load_sent : sends (Load 1 1 0) (Ok Waits) ≡ true
  pub answered_load_not_sent : sends (Load 1 0 0) (Ok (Value 1)) ≡ false
  pub refused_not_sent : sends (Store 0 7 0 3) (Err NoLine) ≡ false
  pub eviction_sent : sends (Evict 1 1) (Ok Done) ≡ true
  -- an accepted up performs, a refused one does not; a call is of the shim that it is made at
  pub up_performs : performs (Up 1) (Ok (Handled Write)) ≡ true
  pub refused_up_performs_not : performs (Up 1) (Err NoLine) ≡ false
  pub of_shim : shim_of (Evict 1 0) ≡ 1
  -- shim 1 sends up a store, a load and an eviction, and its ups perform them in this order; none performs a call of shim 0
  pub three_sent : count sends 1 crossed 18 ≡ 3
  pub store_performed : Performs crossed 3 1
  pub load_performed : Performs crossed 10 9
  pub eviction_performed : Performs crossed 13 12
  pub performed : Performed crossed 1
  pub other_shim_not_performed : Performs crossed 3 0 → ⊥
  pub later_not_performed : Performs crossed 3 9 → ⊥
  -- the hub performs the store that was made second before the first
  pub hub_before : HubBefore crossed 1 0
  pub hub_not_before : HubBefore crossed 0 1 → ⊥
  -- accepted stores; a refused one is none
  pub stored : Stored crossed 1 1 0 2
  pub refused_not_stored : Stored crossed 2 0 7 3 → ⊥
  -- what loads gave, at once and later
  pub gave_at_once : Gave crossed 8 1 0 1
  pub gave_later : Gave crossed 9 1 1 0
  pub gave_nothing_else : Gave crossed 9 1 1 1 → ⊥
  pub fenced : Fenced crossed 14 0
  -- a store, a load and a fence stand; an eviction, an up and a refused store do not
  pub store_stands : Stands crossed 0 0
  pub load_stands : Stands crossed 9 1
  pub fence_stands : Stands crossed 14 0
  pub eviction_stands_not : Stands crossed 12 1 → ⊥
  pub up_stands_not : Stands crossed 3 1 → ⊥
  pub refused_stands_not : Stands crossed 2 0 → ⊥
  -- the list of an order says what is before what
  pub before : Before crossed_order 1 0
  pub not_before : Before crossed_order 0 1 → ⊥
  -- a load may precede its chip's earlier store; not one that is SC, nor an earlier load, and a fence may not
  pub a_load : IsLoad plain 8 0
  pub weak_store : IsWeakStore plain 6 0
  pub may_precede : MayPrecede plain 0 8 6
  pub not_sc : MayPrecede both_sc 0 2 0 → ⊥
  pub not_a_load : MayPrecede own 0 9 8 → ⊥
  pub not_a_fence : MayPrecede both_fenced 0 1 0 → ⊥
  -- a load sees its chip's earlier store that is behind it; another chip's only where it is before it
  pub sees_own : Sees own_order 8 0 6 0 × (Before own_order 6 8 → ⊥)
  pub sees_other : Sees crossed_order 8 1 0 0
  pub sees_not : Sees own_order 9 0 7 1 → ⊥
  -- the last word: of the own store, of none, of the store that the hub performed last
  pub last_own : LastWord own own_order (Sees own_order 8 0) 0 1
  pub last_none : LastWord own own_order (Sees own_order 9 0) 1 0
  pub last_of_all : LastWord crossed crossed_order EveryStore 0 1
  pub last_not_the_other : LastWord crossed crossed_order EveryStore 0 2 → ⊥
  -- at the end of a run: no message waits; the hub's word of line 0, and the copy of it that shim 1 holds
  pub quiet : crossed_end.Quiet
  pub hub_word : crossed_end.HubWord 0 1
  pub held_copy : crossed_end.HeldCopy 1 0 1
  -- these are common orders of the three runs, as far as what chips saw
  pub plain_ordered : CommonOrder plain busy plain_order
  pub own_ordered : CommonOrder own busy own_order
  pub crossed_ordered : CommonOrder crossed busy crossed_order
