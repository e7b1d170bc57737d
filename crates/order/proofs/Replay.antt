-- One line of one shim is what the shim's own acts, since the last call of the hub's log that it has heard of, make of the line at
-- the hub then. To hear of one more call of the log commutes with the shim's own acts.
use Rattle.std.proofs.Common.{◌≡◌, ℕ, suc, ◌+◌, ◌≤◌, Bool, true, false, cond, eqb, ltb, ◌⊎◌, List, [], ◌∷◌, refl, ap, ◌∙◌, inl, inr, true≢false, arith}
use mathlib.Core.Bool.{false≢true}
use Rattle.std.proofs.lemmas.Bool.{eqb-true, ltb-true, ltb-false, lt-ltb, le-ltb}
use Rattle.order.proofs.Machine.{Request, Write, Read, Sync, Drop, Act, Writes, Reads, Drops, Nothing, act, Notice, Line, NotHeld, Unsettled, Settled, Wait, Ready}
use Rattle.order.proofs.Machine.{unheld, sc, line_after, wait_after, word_after, stamp_after, shares_after, notices, updated, acked, heard_line}

-- acts on a line, oldest first
abbrev pub replay : List Act → Line → Line
replay [] l = l
replay (a ∷ ds) l = replay ds (line_after a l)

abbrev pub settled : Line → Bool
settled NotHeld = false
settled (Unsettled c t) = false
settled (Settled c t) = true

-- a shim makes this act only on such a line: it reads where it does not hold the line, and evicts only a settled line
abbrev pub allowed : Act → Line → Type 0
allowed (Writes k w) l = unheld l ≡ k
allowed Reads l = unheld l ≡ true
allowed Drops l = settled l ≡ true
allowed Nothing l = Unit {0}

abbrev pub Allowed : List Act → Line → Type 0
Allowed [] l = Unit {0}
Allowed (a ∷ ds) l = allowed a l × Allowed ds (line_after a l)

-- a line of the hub as a shim has it that has heard of everything: settled where it shares the line
abbrev pub view_of : Bool → ℕ → ℕ → Line
view_of true w t = Settled w t
view_of false w t = NotHeld

-- ## an update commutes with own acts
-- Where a shim shares a line, another's store to it is heard of by an update before any later one. So an update of stamp t + 1 comes
-- to a copy that has stamp t but for the shim's own stores since: it is newer than the copy exactly where there are none, and in
-- both cases the stamp rises by one.

-- a settled copy of stamp t at least
abbrev pub From : ℕ → Line → Type 0
From t NotHeld = Unit {0}
From t (Unsettled c u) = Unit {0}
From t (Settled c u) = t ≤ u

from_own : (a : Act) (l : Line) (t : ℕ) → From t l → From t (line_after a l)
from_own (Writes k w) (Settled c u) t h = omega arith
from_own (Writes true w) l t h = tt
from_own (Writes false w) l t h = tt
from_own Drops l t h = tt
from_own a l t h = h

updated_own : (a : Act) (l : Line) (v t : ℕ) → From t l → updated v (suc t) (line_after a l) ≡ line_after a (updated v (suc t) l)
updated_own (Writes k w) (Settled c u) v t h = go (ltb u (suc t)) refl
  where
    go : (b : Bool) → ltb u (suc t) ≡ b
        → cond (ltb (suc u) (suc t)) (Settled v (suc t)) (Settled w (suc (suc u))) ≡ line_after (Writes k w) (cond (ltb u (suc t)) (Settled v (suc t)) (Settled c (suc u)))
    go true q =
        let r : u ≡ t = omega (arith, ltb-true u (suc t) q) in
        rw (q, le-ltb (suc u) (suc t) (omega arith)) (ap (λ (n : ℕ). Settled w (suc (suc n))) r)
    go false q = rw (q, le-ltb (suc u) (suc t) (omega (arith, ltb-false u (suc t) q)))
updated_own (Writes true w) l v t h = refl
updated_own (Writes false w) l v t h = refl
updated_own Drops NotHeld v t h = refl
updated_own Drops (Unsettled c u) v t h = refl
updated_own a l v t h = refl

pub updated_replay : (ds : List Act) (l : Line) (v t : ℕ) → From t l → updated v (suc t) (replay ds l) ≡ replay ds (updated v (suc t) l)
updated_replay [] l v t h = refl
updated_replay (a ∷ ds) l v t h = updated_replay ds (line_after a l) v t (from_own a l t h) ∙ ap (replay ds) (updated_own a l v t h)

pub updated_view : (ds : List Act) (c v t : ℕ) → updated v (suc t) (replay ds (Settled c t)) ≡ replay ds (Settled v (suc t))
updated_view ds c v t = updated_replay ds (Settled c t) v t (omega arith) ∙ ap (replay ds) (rw (lt-ltb t (suc t) (omega arith)))

-- ## an acknowledgement commutes with own acts
-- Only stores follow a store that asked to be synchronised until it is acknowledged.

pub acked_replay : (ds : List Act) (c u t : ℕ) → Allowed ds (Unsettled c u) → acked t (replay ds (Unsettled c u)) ≡ replay ds (Settled c (u + t))
acked_replay [] c u t f = refl
acked_replay (Writes k w ∷ ds) c u t f = acked_replay ds w (suc u) t f.1 ∙ ap (λ (n : ℕ). replay ds (Settled w n)) (omega arith)
acked_replay (Reads ∷ ds) c u t f = absurd (false≢true f.0)
acked_replay (Drops ∷ ds) c u t f = absurd (false≢true f.0)
acked_replay (Nothing ∷ ds) c u t f = acked_replay ds c u t f.1

pub allowed_acked : (ds : List Act) (c u c' u' : ℕ) → Allowed ds (Unsettled c u) → Allowed ds (Settled c' u')
allowed_acked [] c u c' u' f = tt
allowed_acked (Writes k w ∷ ds) c u c' u' f = (f.0, allowed_acked ds w (suc u) w (suc u') f.1)
allowed_acked (Reads ∷ ds) c u c' u' f = absurd (false≢true f.0)
allowed_acked (Drops ∷ ds) c u c' u' f = absurd (false≢true f.0)
allowed_acked (Nothing ∷ ds) c u c' u' f = (tt, allowed_acked ds c u c' u' f.1)

pub allowed_settled : (ds : List Act) (c u c' u' : ℕ) → Allowed ds (Settled c u) → Allowed ds (Settled c' u')
allowed_settled [] c u c' u' f = tt
allowed_settled (Writes k w ∷ ds) c u c' u' f = (f.0, allowed_settled ds w (suc u) w (suc u') f.1)
allowed_settled (Reads ∷ ds) c u c' u' f = absurd (false≢true f.0)
allowed_settled (Drops ∷ ds) c u c' u' f = f
allowed_settled (Nothing ∷ ds) c u c' u' f = (tt, allowed_settled ds c u c' u' f.1)

-- ## one call of the hub's log, at one line

abbrev pub heard_lines : ℕ → List Notice → Line → Line
heard_lines x [] l = l
heard_lines x (m ∷ ms) l = heard_lines x ms (heard_line x m l)

-- l is the acts ds made on l', and they were allowed there
abbrev pub Replays : List Act → Line → Line → Type 0
Replays ds l l' = (l ≡ replay ds l') × Allowed ds l'

abbrev pub is_ready : Wait → Bool
is_ready Ready = true
is_ready w = false

-- a request after which the shim waits
abbrev pub Awaited : Request → Type 0
Awaited o = wait_after o ≡ Ready → ⊥

-- the hub's words and stamps, and the lines that the shim shares, before the call
module _ (word stamp : ℕ → ℕ) (shares : ℕ → Bool) where
  abbrev view : ℕ → Line
  view x = view_of (shares x) (word x) (stamp x)

  -- another shim's call
  abbrev pub OtherCommutes : Request → ℕ → List Act → Act → Type 0
  OtherCommutes o x ds a =
      Replays ds (heard_lines x (notices false o word stamp shares) (replay ds (view x)))
      (view_of (shares x) (word_after a (word x)) (stamp_after a (stamp x)))

  pub other_commutes : (o : Request) (x : ℕ) (ds : List Act) → Allowed ds (view x) → OtherCommutes o x ds (act x o)
  other_commutes (Write y g k w) x ds f = go (eqb x y) refl (shares y) refl f
    where
      go : (e : Bool) → eqb x y ≡ e → (b : Bool) → shares y ≡ b → Allowed ds (view x) → OtherCommutes (Write y g k w) x ds (cond (eqb x y) (Writes k w) Nothing)
      go true q true r f =
          let i : x ≡ y = eqb-true x y q in
          let r' : shares x ≡ true = ap shares i ∙ r in
          rw (r, q, r', ← i) (updated_view ds (word x) w (stamp x), allowed_settled ds (word x) (stamp x) w (suc (stamp x)) (rw r' at f))
      go true q false r f =
          let i : x ≡ y = eqb-true x y q in
          let r' : shares x ≡ false = ap shares i ∙ r in
          rw (r, q, r') (refl, (rw r' at f))
      go false q true r f = rw (r, q) (refl, f)
      go false q false r f = rw (r, q) (refl, f)
  other_commutes (Read y g) x ds f = go (eqb x y)
    where
      go : (e : Bool) → OtherCommutes (Read y g) x ds (cond e Reads Nothing)
      go true = (refl, f)
      go false = (refl, f)
  other_commutes Sync x ds f = (refl, f)
  other_commutes (Drop y) x ds f = go (eqb x y)
    where
      go : (e : Bool) → OtherCommutes (Drop y) x ds (cond e Drops Nothing)
      go true = (refl, f)
      go false = (refl, f)

  -- the shim's own call: it is the first of its acts that the shim has not heard of. A call that the shim waits for is the last of them.
  abbrev pub OwnCommutes : Request → ℕ → List Act → Act → Type 0
  OwnCommutes o x ds a =
      Replays ds (heard_lines x (notices true o word stamp shares) (replay ds (line_after a (view x))))
      (view_of (shares_after true a (shares x)) (word_after a (word x)) (stamp_after a (stamp x)))

  own_write_commutes : (y g w x : ℕ) (ds : List Act) (k b c e : Bool) → sc g ≡ c → eqb x y ≡ e → shares x ≡ b
      → Allowed (cond e (Writes k w) Nothing ∷ ds) (view_of b (word x) (stamp x)) → OwnCommutes (Write y g k w) x ds (cond e (Writes k w) Nothing)
  own_write_commutes y g w x ds true true c true p q r f = absurd (false≢true f.0)
  own_write_commutes y g w x ds true false c true p q r f =
      let i : x ≡ y = eqb-true x y q in
      let acked_line = acked_replay ds w 1 (stamp x) f.1 ∙ ap (λ (n : ℕ). replay ds (Settled w n)) (omega arith) in
      rw (r, q, ← i) (acked_line, allowed_acked ds w 1 w (suc (stamp x)) f.1)
  own_write_commutes y g w x ds false true true true p q r f = rw (r, p, q) (refl, f.1)
  own_write_commutes y g w x ds false true false true p q r f = rw (r, p) (refl, f.1)
  own_write_commutes y g w x ds false false c true p q r f = absurd (true≢false f.0)
  own_write_commutes y g w x ds true b c false p q r f = rw (r, q) (refl, f.1)
  own_write_commutes y g w x ds false b true false p q r f = rw (r, p, q) (refl, f.1)
  own_write_commutes y g w x ds false b false false p q r f = rw (r, p) (refl, f.1)

  own_read_commutes : (y g x : ℕ) (ds : List Act) (e : Bool) → eqb x y ≡ e → ds ≡ [] → OwnCommutes (Read y g) x ds (cond e Reads Nothing)
  own_read_commutes y g x ds true q z = let i : x ≡ y = eqb-true x y q in rw (z, q, ← i) (refl, tt)
  own_read_commutes y g x ds false q z = rw (z, q) (refl, tt)

  own_drop_commutes : (y x : ℕ) (ds : List Act) (e : Bool) → Allowed (cond e Drops Nothing ∷ ds) (view x) → OwnCommutes (Drop y) x ds (cond e Drops Nothing)
  own_drop_commutes y x ds true f = (refl, f.1)
  own_drop_commutes y x ds false f = (refl, f.1)

  pub own_commutes : (o : Request) (x : ℕ) (ds : List Act) → Allowed (act x o ∷ ds) (view x) → (wait_after o ≡ Ready) ⊎ (ds ≡ []) → OwnCommutes o x ds (act x o)
  own_commutes (Write y g k w) x ds f z = own_write_commutes y g w x ds k (shares x) (sc g) (eqb x y) refl refl refl f
  own_commutes (Read y g) x ds f (inl z) = absurd (false≢true (ap is_ready z))
  own_commutes (Read y g) x ds f (inr z) = own_read_commutes y g x ds (eqb x y) refl z
  own_commutes Sync x ds f z = (refl, f.1)
  own_commutes (Drop y) x ds f z = own_drop_commutes y x ds (eqb x y) f
