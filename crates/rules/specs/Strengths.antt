-- Strengths and marks: their numbers, and which strength fits which call.
use Rattle.std.specs.Prelude.{ℕ, ◌+◌, ◌/◌, ◌%◌, Bool, true, false, cond, Some, None, Option, Result, ok_or, ◌==◌}
use Rattle.rules.specs.declared.strength.Access.{Access}
use Rattle.rules.specs.declared.strength.Access.TheVariants.{Load, Store, Fence}
use Rattle.rules.specs.declared.strength.Strength.{Strength}
use Rattle.rules.specs.declared.strength.Strength.TheVariants.{Relaxed, Acquire, Release, SeqCst}
use Rattle.rules.specs.declared.unknown.UnknownNumber.{UnknownNumber}

abbrev pub strength_number : Strength → ℕ
strength_number Relaxed = 0
strength_number Acquire = 1
strength_number Release = 2
strength_number SeqCst = 3

-- the strength of a number
abbrev pub strength_of : ℕ → Option Strength
strength_of g =
    cond (g == strength_number Relaxed) (Some Relaxed)
    (cond (g == strength_number Acquire) (Some Acquire)
    (cond (g == strength_number Release) (Some Release)
    (cond (g == strength_number SeqCst) (Some SeqCst) None)))

-- the strength of a number, or the number back where there is none
abbrev pub strength_or_unknown : ℕ → Result Strength UnknownNumber
strength_or_unknown g = ok_or (strength_of g) (record { 0 = g })

-- which strengths a load, a store and a fence take
abbrev pub takes : Access → Strength → Bool
takes Load Relaxed = true
takes Load Acquire = true
takes Load Release = false
takes Load SeqCst = true
takes Store Relaxed = true
takes Store Acquire = false
takes Store Release = true
takes Store SeqCst = true
takes Fence Relaxed = false
takes Fence Acquire = false
takes Fence Release = false
takes Fence SeqCst = true

abbrev pub taken : Access → Option Strength → Option Strength
taken a None = None
taken a (Some k) = cond (takes a k) (Some k) None

-- the strength of a number, where a call takes it; shut, for no proof of a call has to look into it
unfoldable pub fitting : Access → ℕ → Option Strength
fitting a g = taken a (strength_of g)

-- what a mark has added where a store asks to be synchronised
abbrev pub synchronise_mark : ℕ
synchronise_mark = 16

-- a mark is the number of a strength, plus 16 where a store asks to be synchronised
abbrev pub mark_of : ℕ → Bool → ℕ
mark_of g synchronise = g + cond synchronise synchronise_mark 0

-- of a mark that arrives, the four lowest bits are the strength, the next asks to be synchronised, the rest are ignored
abbrev pub mark_strength : ℕ → ℕ
mark_strength mark = mark % synchronise_mark

abbrev pub is_sc : ℕ → Bool
is_sc mark = mark_strength mark == strength_number SeqCst

abbrev pub asks_sync : ℕ → Bool
asks_sync mark = mark / synchronise_mark % 2 == 1
