-- Laws that differ from the law in one word, and what tells each from it.
use Rattle.std.specs.Prelude.{List, ℕ, ◌<◌, ◌⊎◌}
use Rattle.order.specs.Common.{Trace, HasCommonOrder, HubBefore, Gave, Stored, Before, IsLoad}
use Rattle.law_cases.specs.Law.{Words, as_stated, HasOrder, IsTheLaw, busy}
use Rattle.law_cases.specs.Sheets.{plain, own, crossed, crossed_end, both_sc, both_fenced, lost}

-- TOO STRONG: a run of the board has no such order

-- a load never precedes an earlier store of its chip
abbrev pub never_passes : Words
never_passes = record as_stated { Passes = λ t s j i. ⊥ }

-- a load sees only what stands before it
abbrev pub own_unseen : Words
own_unseen = record as_stated { LooksAt = λ o j s i q. Before o i j }

-- the hub's order, backwards
abbrev pub hub_backwards : Words
hub_backwards = record as_stated { HubKeeps = λ t i j. HubBefore t j i }

-- the order in which calls are made, in place of the hub's
abbrev pub hub_as_called : Words
hub_as_called = record as_stated { HubKeeps = λ t i j. i < j }

-- TOO WEAK: it has an order for what no board says, and the law has none

-- a load may precede any earlier store of its chip, one that is SC too
abbrev pub passes_sc : Words
passes_sc = record as_stated { Passes = λ t s j i. IsLoad t j s × (x : ℕ) × (w : ℕ) × Stored t i s x w }

-- fences do not stand
abbrev pub StandsUnfenced : Trace → ℕ → ℕ → Type 0
StandsUnfenced t i s = ((x : ℕ) × (w : ℕ) × Stored t i s x w) ⊎ ((x : ℕ) × (w : ℕ) × Gave t i s x w)

abbrev pub no_fences : Words
no_fences = record as_stated { MayStand = StandsUnfenced; MustStand = StandsUnfenced }

-- what stands may be left out
abbrev pub leaves_out : Words
leaves_out = record as_stated { MustStand = λ t i s. ⊥ }

pub record Neighbours : Type 0 where
  -- with the words of the law the record is the law
  pub busy_law : (t : Trace) (o : List ℕ) → IsTheLaw t busy o
  pub crossed_law : (t : Trace) (o : List ℕ) → IsTheLaw t crossed_end o
  pub never_passes : HasOrder never_passes plain busy → ⊥
  pub own_unseen : HasOrder own_unseen own busy → ⊥
  pub hub_backwards : HasOrder hub_backwards crossed crossed_end → ⊥
  pub hub_as_called : HasOrder hub_as_called crossed crossed_end → ⊥
  pub passes_sc : HasOrder passes_sc both_sc busy × (HasCommonOrder both_sc busy → ⊥)
  pub no_fences : HasOrder no_fences both_fenced busy × (HasCommonOrder both_fenced busy → ⊥)
  pub leaves_out : HasOrder leaves_out lost busy × (HasCommonOrder lost busy → ⊥)
