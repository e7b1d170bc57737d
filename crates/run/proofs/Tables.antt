-- The tables of a board's state: that they are long enough for its size, and what a change of one entry leaves.
use Rattle.std.proofs.Common.{◌≡◌, ℕ, ◌<◌, ◌≤◌, ◌≢◌, List, length, get_or, set, ap, ◌∙◌, ⊎_elim, arith, length-set, get_or-set_other, get_or-set_same, set-set}
use Rattle.std.proofs.lemmas.Bool.{cases_eq}
use Rattle.rules.specs.State.{shim_at, hub_at, with_shim, with_hub, with_store}
use Rattle.rules.specs.declared.state.HubLine.{HubLine}
use Rattle.rules.specs.declared.state.Shim.{Shim}
use Rattle.rules.specs.declared.state.Size.{Size}
use Rattle.rules.specs.declared.state.State.{State}

-- the tables reach as far as the shims and the lines of the board
pub record Fits (z : Size) (b : State) : Type 0 where
  pub hub : z.lines ≤ length b.hub
  pub shims : z.shims ≤ length b.shims
  pub lines : (s : ℕ) → s < z.shims → z.lines ≤ length (shim_at b s).lines
  pub sharers : (x : ℕ) → x < z.lines → z.shims ≤ length (hub_at b x).sharers

-- what holds of every entry of a table, once one of them is replaced
pub set_each : {A : Type 0} (P : ℕ → A → Type 0) (l : List A) (i : ℕ) (a d : A) → i < length l → P i a → ((j : ℕ) → j ≢ i → P j (get_or l j d)) → (j : ℕ) → P j (get_or (set l i a) j d)
set_each P l i a d low here there j = ⊎_elim (λ (e : j ≡ i). rw (e, get_or-set_same l i a d low) here) (λ (ne : j ≢ i). rw (get_or-set_other l i j a d ne) (there j ne)) (cases_eq j i)

module _ (z : Size) (b : State) (fits : Fits z b) where
  module _ (s : ℕ) (low : s < z.shims) where
    shim_low : s < length b.shims
    shim_low = let k = fits.shims in omega arith

    pub shim_here : (shim : Shim) → shim_at (with_shim b s shim) s ≡ shim
    shim_here shim = get_or-set_same b.shims s shim _ shim_low

    pub fits_shim : (shim : Shim) → length shim.lines ≡ length (shim_at b s).lines → Fits z (with_shim b s shim)
    fits_shim shim same =
        record {
          hub = fits.hub;
          shims = rw length-set fits.shims;
          lines = set_each (λ j (y : Shim). j < z.shims → z.lines ≤ length y.lines) b.shims s shim _ shim_low (λ lt. rw same (fits.lines s lt)) (λ j ne. fits.lines j);
          sharers = fits.sharers;
        }

    -- two changes of a shim, the second made of what the first left, are one
    pub shim_twice : (shim : Shim) (f : Shim → Shim) → with_shim (with_shim b s shim) s (f (shim_at (with_shim b s shim) s)) ≡ with_shim b s (f shim)
    shim_twice shim f =
        ap (λ (y : Shim). with_shim (with_shim b s shim) s (f y)) (shim_here shim)
        ∙ ap {B = State} (λ (l : List Shim). record b { shims = l }) (set-set b.shims s shim (f shim))

  module _ (x : ℕ) (low : x < z.lines) where
    hub_low : x < length b.hub
    hub_low = let k = fits.hub in omega arith

    pub fits_hub : (h : HubLine) → length h.sharers ≡ length (hub_at b x).sharers → Fits z (with_hub b x h)
    fits_hub h same =
        record {
          hub = rw length-set fits.hub;
          shims = fits.shims;
          lines = fits.lines;
          sharers = set_each (λ y (k : HubLine). y < z.lines → z.shims ≤ length k.sharers) b.hub x h _ hub_low (λ lt. rw same (fits.sharers x lt)) (λ y ne. fits.sharers y);
        }

pub shim_there : (b : State) (s j : ℕ) (shim : Shim) → j ≢ s → shim_at (with_shim b s shim) j ≡ shim_at b j
shim_there b s j shim ne = get_or-set_other b.shims s j shim _ ne

pub fits_store : (z : Size) (b : State) → Fits z b → Fits z (with_store b)
fits_store z b fits = record { hub = fits.hub; shims = fits.shims; lines = fits.lines; sharers = fits.sharers }
