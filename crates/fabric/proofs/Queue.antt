-- Lanes that are kept as queues in a table of slots: what a put and a take make of them.
use Rattle.std.proofs.Common.{◌≡◌, ℕ, zero, suc, ◌+◌, ◌-◌, ◌%◌, ◌<◌, ◌≢◌, List, [], ◌∷◌, ◌++◌, length, get_or, sym, refl, ap, ◌∙◌, subst, ⊎_elim, add-zero, mod-lt, mod-eq_of_lt, add-one, arith, length-set, get_or-set_other, get_or-set_same}
use native.Mathlib.Nat.{mod-add-mod, mod-eq-sub-mod, mod-mod}
use lib.ListN.{length-replicate}
use Rattle.std.proofs.lemmas.List.FromFn.{length-map-range_with_len, get_or-map-range_with_len, fill_by_all}
use Rattle.std.proofs.lemmas.List.{get_or-replicate}
use Rattle.std.proofs.lemmas.Bool.{cases_lt, cases_eq}
use Rattle.fabric.specs.declared.message.Message.{Message}
use Rattle.fabric.specs.Lanes.{Lane, with_messages, set_messages, no_lane, empty_lanes}
use Rattle.fabric.specs.Queue.{queue, lanes_by}

-- two slots less than cap apart are not the same
pub slots_apart : (cap f i c : ℕ) → i < c → c < cap → (f + i) % cap ≢ (f + c) % cap
slots_apart cap f i c h k e =
    let r : ℕ = (f + i) % cap in
    let low : (f + i) % cap < cap = mod-lt (f + i) (omega arith) in
    let on : ((f + i) % cap + (c - i)) % cap ≡ (f + c) % cap =
    mod-add-mod (f + i) cap (c - i) ∙ ap (λ n. n % cap) (omega arith) in
    ⊎_elim
    (λ l. let s : ((f + i) % cap + (c - i)) % cap ≡ (f + i) % cap + (c - i) = mod-eq_of_lt l in omega arith)
    (λ l.
    let s : ((f + i) % cap + (c - i)) % cap ≡ ((f + i) % cap + (c - i) - cap) % cap = mod-eq-sub-mod l in
    let t : ((f + i) % cap + (c - i) - cap) % cap ≡ (f + i) % cap + (c - i) - cap = mod-eq_of_lt (omega arith) in
    omega arith)
    (cases_lt ((f + i) % cap + (c - i)) cap)

pub queue_length : (at : ℕ → Message) (cap f c : ℕ) → length (queue at cap f c) ≡ c
unfolding queue
queue_length at cap f zero = refl
queue_length at cap f (suc c) = ap suc (queue_length at cap (f + 1) c)

-- only the slots in use matter
pub queue_same : (at at' : ℕ → Message) (cap f c : ℕ) → ((i : ℕ) → i < c → at' ((f + i) % cap) ≡ at ((f + i) % cap)) → queue at' cap f c ≡ queue at cap f c
unfolding queue
queue_same at at' cap f zero h = refl
queue_same at at' cap f (suc c) h =
    let e : at' (f % cap) ≡ at (f % cap) = subst (λ n. at' (n % cap) ≡ at (n % cap)) (add-zero f) (h 0 (omega arith)) in
    let s : queue at' cap (f + 1) c ≡ queue at cap (f + 1) c =
    queue_same at at' cap (f + 1) c (λ i l. subst (λ n. at' (n % cap) ≡ at (n % cap)) (omega arith) (h (i + 1) (omega arith))) in
    λ i. e i ∷ s i

pub queue_snoc : (at : ℕ → Message) (cap f c : ℕ) → queue at cap f (suc c) ≡ queue at cap f c ++ at ((f + c) % cap) ∷ []
unfolding queue
queue_snoc at cap f zero = ap (λ n. at (n % cap) ∷ []) (sym (add-zero f))
queue_snoc at cap f (suc c) =
    ap (λ l. at (f % cap) ∷ l) (queue_snoc at cap (f + 1) c ∙ ap (λ n. queue at cap (f + 1) c ++ at (n % cap) ∷ []) (omega arith))

-- the first slot counts only up to cap
pub queue_mod : (at : ℕ → Message) (cap f g c : ℕ) → f % cap ≡ g % cap → queue at cap f c ≡ queue at cap g c
unfolding queue
queue_mod at cap f g zero e = refl
queue_mod at cap f g (suc c) e =
    let s : queue at cap (f + 1) c ≡ queue at cap (g + 1) c =
    queue_mod at cap (f + 1) (g + 1) c (sym (mod-add-mod f cap 1) ∙ ap (λ n. (n + 1) % cap) e ∙ mod-add-mod g cap 1) in
    λ i. at (e i) ∷ s i

-- a put writes the slot after those in use
pub queue_put : (at at' : ℕ → Message) (cap f c : ℕ) (x : Message) → c < cap → at' ((f + c) % cap) ≡ x → ((j : ℕ) → j < cap → j ≢ (f + c) % cap → at' j ≡ at j) → queue at' cap f (c + 1) ≡ queue at cap f c ++ x ∷ []
queue_put at at' cap f c x h e o =
    ap (λ n. queue at' cap f n) (add-one c) ∙ queue_snoc at' cap f c
    ∙ ap (λ l. l ++ at' ((f + c) % cap) ∷ []) (queue_same at at' cap f c (λ i l. o _ (mod-lt (f + i) (omega arith)) (slots_apart cap f i c l h)))
    ∙ ap (λ y. queue at cap f c ++ y ∷ []) e

-- a take moves the first slot on
pub queue_take : (at : ℕ → Message) (cap f c : ℕ) → 0 < c → queue at cap f c ≡ at (f % cap) ∷ queue at cap ((f + 1) % cap) (c - 1)
unfolding queue
queue_take at cap f zero h = absurd (omega arith)
queue_take at cap f (suc c) h =
    ap (λ l. at (f % cap) ∷ l) (queue_mod at cap (f + 1) ((f + 1) % cap) c (sym (mod-mod (f + 1) cap)) ∙ ap (λ n. queue at cap ((f + 1) % cap) n) (omega arith))

pub queue_none : (at : ℕ → Message) (cap f : ℕ) → queue at cap f 0 ≡ []
unfolding queue
queue_none at cap f = refl

module _ (n : ℕ) (lane : ℕ → Lane) where
  pub lanes_length : length (lanes_by n lane) ≡ n
  lanes_length = length-map-range_with_len lane 0 n

  pub lanes_at : (k : ℕ) → k < n → get_or (lanes_by n lane) k no_lane ≡ lane k
  lanes_at k h = get_or-map-range_with_len lane 0 n k k no_lane h (omega arith)

  -- a list of lanes is given by what stands at each place
  pub lanes_are : (ls : List Lane) → length ls ≡ n → ((k : ℕ) → k < n → get_or ls k no_lane ≡ lane k) → ls ≡ lanes_by n lane
  lanes_are ls e h = fill_by_all lane ls n no_lane e h

  -- one lane holds other messages
  pub lanes_with : (lane' : ℕ → Lane) (k : ℕ) (xs : List Message) → k < n → lane' k ≡ with_messages (lane k) xs → ((j : ℕ) → j < n → j ≢ k → lane' j ≡ lane j) → lanes_by n lane' ≡ set_messages (lanes_by n lane) k xs
  lanes_with lane' k xs h e o =
      let one : Lane = with_messages (get_or (lanes_by n lane) k no_lane) xs in
      sym (fill_by_all lane' (set_messages (lanes_by n lane) k xs) n no_lane (length-set (lanes_by n lane) k one ∙ lanes_length)
      (λ j l. ⊎_elim
      (λ q. subst (λ i. get_or (set_messages (lanes_by n lane) k xs) i no_lane ≡ lane' i) (sym q)
      (get_or-set_same (lanes_by n lane) k one no_lane (subst (λ m. k < m) (sym lanes_length) h) ∙ ap (λ l. with_messages l xs) (lanes_at k h) ∙ sym e))
      (λ ne. get_or-set_other (lanes_by n lane) k j one no_lane ne ∙ lanes_at j l ∙ sym (o j l ne))
      (cases_eq j k)))

pub lanes_empty : (n c : ℕ) (lane : ℕ → Lane) → ((j : ℕ) → j < n → lane j ≡ record { capacity = c; messages = [] }) → lanes_by n lane ≡ empty_lanes n c
lanes_empty n c lane o =
    sym (lanes_are n lane (empty_lanes n c) (length-replicate n _) (λ j l. get_or-replicate n j _ no_lane l ∙ sym (o j l)))
