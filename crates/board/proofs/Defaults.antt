-- A state made by `default` is the state of a board at first.
use Rattle.std.proofs.Common.{◌≡◌, ℕ, Bool, false, List, replicate, None, Option, sym, ◌∙◌, arith}
use Rattle.std.proofs.lemmas.List.{ext_get_or, get_or-replicate, length-replicate}
use Rattle.std.specs.Array.{AllOfLen}
use Rattle.fabric.specs.Lanes.{shim_limit}
use Rattle.rules.specs.Sizes.{line_limit}
use Rattle.rules.specs.State.{fresh_hub_line, fresh_shim, fresh_state}
use Rattle.rules.specs.declared.state.Held.{Held}
use Rattle.rules.specs.declared.state.HubLine.{HubLine}
use Rattle.rules.specs.declared.state.Shim.{Shim}
use Rattle.rules.specs.declared.state.State.{State}

-- a table of which each entry is a
all_are : {A : Type 0} (P : A → Type 0) (a : A) → ((x : A) → P x → x ≡ a) → (n : ℕ) (xs : List A) → AllOfLen P xs n → xs ≡ replicate n a
all_are P a only n xs h =
    let long = h.long in
    ext_get_or a xs (replicate n a) (long ∙ sym (length-replicate n a)) (λ i lt. only _ (h.at i a (omega arith)) ∙ sym (get_or-replicate n i a a (omega arith)))

-- what the derived defaults promise of a line of the hub, and of a shim
abbrev pub DefaultLine : HubLine → Type 0
DefaultLine h = (h.word ≡ 0) × ((h.stamp ≡ 0) × AllOfLen (λ (t : Bool). t ≡ false) h.sharers shim_limit)

abbrev pub DefaultShim : Shim → Type 0
DefaultShim h = (h.wait ≡ None) × (AllOfLen (λ (l : Option Held). l ≡ None) h.lines line_limit × (h.claimed ≡ false))

line_default : (h : HubLine) → DefaultLine h → h ≡ fresh_hub_line
line_default h (word, (stamp, sharers)) = rw (word, stamp, all_are (λ t. t ≡ false) false (λ t e. e) shim_limit h.sharers sharers)

shim_default : (h : Shim) → DefaultShim h → h ≡ fresh_shim
shim_default h (wait, (lines, claimed)) = rw (wait, claimed, all_are (λ l. l ≡ None) None (λ l e. e) line_limit h.lines lines)

pub state_default : (b : State) → (b.stores ≡ 0) × (AllOfLen DefaultLine b.hub line_limit × AllOfLen DefaultShim b.shims shim_limit) → b ≡ fresh_state
state_default b (stores, (hub, shims)) = rw (stores, all_are DefaultLine fresh_hub_line line_default line_limit b.hub hub, all_are DefaultShim fresh_shim shim_default shim_limit b.shims shims)
