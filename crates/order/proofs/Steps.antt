-- A shim and the hub follow from the history, and each step of the board keeps this.
use Rattle.std.proofs.Common.{◌≡◌, ℕ, ◌<◌, ◌≤◌, Bool, eqb, ◌≢◌, ◌⊎◌, List, [], ◌∷◌, ◌++◌, length, sym, refl, ap, ◌∙◌, subst, inl, inr, append_assoc, append-nil}
use mathlib.Core.Path.{fun_ext}
use Rattle.order.proofs.Machine.{Request, Act, act, Notice, Line, Wait, Ready, line_after, wait_after, word_after, stamp_after, shares_after, notices, Board, SameHub, SameShim}
use Rattle.order.proofs.Machine.{Sends, HubPerforms, Hears}
use Rattle.order.proofs.Lists.{Suffix, suffix_refl, suffix_onto, Member, member_append, Spot, onto, onto_append, onto_snoc}
use Rattle.order.proofs.Entries.{Entry, acts, acts_snoc, requests, requests_snoc, made_by, made_by_own, made_by_other, made_by_onto, member_made_by, AllBy, all_by_snoc}
use Rattle.order.proofs.Entries.{all_by_who}
use Rattle.order.proofs.Replay.{replay, allowed, Allowed}
use Rattle.order.proofs.View.{hub_word, hub_stamp, hub_shares, hub_view, told, wait_replay, MadeReady, Holds, lane, News, hears_next}

-- How far a shim is: the calls of the log that it has heard of (newest first), those that it has not (oldest first), and its own
-- calls that the hub has not performed (oldest first).
pub record Position : Type 0 where
  pub heard : List Entry
  pub unheard : List Entry
  pub pending : List Entry

-- its own calls that it has not heard of, oldest first
abbrev pub unheard_calls : ℕ → Position → List Entry
unheard_calls s v = made_by s v.unheard ++ v.pending

-- all the calls that it has sent up, newest first
abbrev pub calls : List Entry → ℕ → Position → List Entry
calls log s v = onto v.pending (made_by s log)

pub calls_is : (log : List Entry) (s : ℕ) (v : Position) → onto v.unheard v.heard ≡ log → calls log s v ≡ onto (unheard_calls s v) (made_by s v.heard)
calls_is log s v i =
    ap (λ (r : List Entry). onto v.pending (made_by s r)) (sym i) ∙ ap (onto v.pending) (made_by_onto s v.unheard v.heard)
    ∙ sym (onto_append (made_by s v.unheard) v.pending (made_by s v.heard))

pub heard_suffix : (log : List Entry) (v : Position) → onto v.unheard v.heard ≡ log → Suffix v.heard log
heard_suffix log v i = subst (Suffix v.heard) i (suffix_onto v.unheard v.heard v.heard (suffix_refl v.heard))

pub unheard_calls_who : (s : ℕ) (e : Entry) (v : Position) → AllBy s v.pending → Member e (unheard_calls s v) → e.who ≡ s
unheard_calls_who s e v h m = go (member_append e (made_by s v.unheard) v.pending m)
  where
    go : Member e (made_by s v.unheard) ⊎ Member e v.pending → e.who ≡ s
    go (inl k) = (member_made_by s e v.unheard k).who_is
    go (inr k) = all_by_who s e v.pending h k

-- shim s and its lanes are what its position in the log says
pub record Follows (b : Board) (log : List Entry) (s : ℕ) (v : Position) : Type 0 where
  pub log_is : onto v.unheard v.heard ≡ log
  pub down_is : b.down s ≡ lane s v.heard v.unheard
  pub up_is : b.up s ≡ requests v.pending
  pub all_by : AllBy s v.pending
  pub holds : Holds s v.heard (unheard_calls s v) (b.wait s) (b.line s)

-- the hub is what the log says
pub record HubIs (b : Board) (log : List Entry) : Type 0 where
  pub word : (x : ℕ) → b.word x ≡ hub_word x log
  pub stamp : (x : ℕ) → b.stamp x ≡ hub_stamp x log
  pub shares : (x s : ℕ) → b.shares x s ≡ hub_shares s log x

-- ## one more call at the end

replay_snoc : (ds : List Act) (a : Act) (l : Line) → replay (ds ++ a ∷ []) l ≡ line_after a (replay ds l)
replay_snoc [] a l = refl
replay_snoc (d ∷ ds) a l = replay_snoc ds a (line_after d l)

allowed_snoc : (ds : List Act) (a : Act) (l : Line) → Allowed ds l → allowed a (replay ds l) → Allowed (ds ++ a ∷ []) l
allowed_snoc [] a l f h = (h, tt)
allowed_snoc (d ∷ ds) a l f h = (f.0, allowed_snoc ds a (line_after d l) f.1 h)

wait_replay_snoc : (es : List Entry) (e : Entry) (v : Wait) → wait_replay (es ++ e ∷ []) v ≡ wait_after e.request
wait_replay_snoc [] e v = refl
wait_replay_snoc (d ∷ es) e v = wait_replay_snoc es e (wait_after d.request)

made_ready_snoc : (es : List Entry) (e : Entry) (v : Wait) → MadeReady es v → wait_replay es v ≡ Ready → MadeReady (es ++ e ∷ []) v
made_ready_snoc [] e v c h = (h, tt)
made_ready_snoc (d ∷ es) e v c h = (c.0, made_ready_snoc es e (wait_after d.request) c.1 h)

lane_snoc : (s : ℕ) (p q : List Entry) (e : Entry) → lane s p (q ++ e ∷ []) ≡ lane s p q ++ told s e (onto q p)
lane_snoc s p [] e = append-nil (told s e p)
lane_snoc s p (d ∷ q) e =
    ap (λ (r : List Notice). told s d p ++ r) (lane_snoc s (d ∷ p) q e) ∙ sym (append_assoc (told s d p) (lane s (d ∷ p) q) (told s e (onto q (d ∷ p))))

-- ## a shim that does nothing

holds_same : {s : ℕ} {p es es' : List Entry} {v v' : Wait} {ln ln' : ℕ → Line} → es' ≡ es → v' ≡ v → ((x : ℕ) → ln' x ≡ ln x) → Holds s p es v ln → Holds s p es' v' ln'
holds_same i j k h =
    rw i record {
      line = λ x. k x ∙ h.line x;
      allowed = h.allowed;
      wait = j ∙ h.wait;
      made_ready = h.made_ready;
    }

pub follows_same : {b b' : Board} {log : List Entry} {s : ℕ} {v : Position} → SameShim b b' s → b'.up s ≡ b.up s → b'.down s ≡ b.down s
    → Follows b log s v → Follows b' log s v
follows_same k i j f =
    record {
      log_is = f.log_is;
      down_is = j ∙ f.down_is;
      up_is = i ∙ f.up_is;
      all_by = f.all_by;
      holds = holds_same refl k.wait k.line f.holds;
    }

pub hub_same : {b b' : Board} {log : List Entry} → SameHub b b' → HubIs b log → HubIs b' log
hub_same k h = record { word = λ x. k.word x ∙ h.word x; stamp = λ x. k.stamp x ∙ h.stamp x; shares = λ x s. k.shares x s ∙ h.shares x s }

-- ## a shim sends a call

abbrev pub with_call : Position → Entry → Position
with_call v e = record { heard = v.heard; unheard = v.unheard; pending = v.pending ++ e ∷ [] }

pub follows_sends : {b b' : Board} {log : List Entry} {s : ℕ} {v : Position} (e : Entry) → e.who ≡ s → Sends s e.request b b'
    → ((x : ℕ) → allowed (act x e.request) (b.line s x)) → Follows b log s v → Follows b' log s (with_call v e)
follows_sends {b = b} {b' = b'} {s = s} {v = v} e i k fn f =
    record {
      log_is = f.log_is;
      down_is = k.down s ∙ f.down_is;
      up_is = k.up ∙ ap (λ (r : List Request). r ++ e.request ∷ []) f.up_is ∙ sym (requests_snoc v.pending e);
      all_by = all_by_snoc s v.pending e f.all_by i;
      holds = rw (← append_assoc (made_by s v.unheard) v.pending (e ∷ [])) holds;
    }
  where
    h : Holds s v.heard (unheard_calls s v) (b.wait s) (b.line s)
    h = f.holds

    holds : Holds s v.heard (unheard_calls s v ++ e ∷ []) (b'.wait s) (b'.line s)
    holds =
        record {
          line = λ x. k.line x ∙ ap (line_after (act x e.request)) (h.line x)
              ∙ sym (rw acts_snoc (replay_snoc (acts x (unheard_calls s v)) (act x e.request) (hub_view s x v.heard)));
          allowed = λ x. rw acts_snoc (allowed_snoc (acts x (unheard_calls s v)) (act x e.request) (hub_view s x v.heard) (h.allowed x) (rw (h.line x) at (fn x)));
          wait = k.wait ∙ sym (wait_replay_snoc (unheard_calls s v) e Ready);
          made_ready = made_ready_snoc (unheard_calls s v) e Ready h.made_ready (sym h.wait ∙ k.ready);
        }

-- ## the hub performs a call

told_is : (b : Board) (log : List Entry) (j : ℕ) (e : Entry) → HubIs b log
    → notices (eqb e.who j) e.request b.word b.stamp (λ x. b.shares x j) ≡ told j e log
told_is b log j e h = go b.word b.stamp (λ x. b.shares x j) (fun_ext h.word) (fun_ext h.stamp) (fun_ext (λ x. h.shares x j))
  where
    go : (wd st : ℕ → ℕ) (sh : ℕ → Bool) → wd ≡ (λ x. hub_word x log) → st ≡ (λ x. hub_stamp x log) → sh ≡ hub_shares j log
        → notices (eqb e.who j) e.request wd st sh ≡ told j e log
    go wd st sh i k l = rw (i, k, l)

-- the position after the hub performed e, with q the own calls still to be performed
abbrev pub with_event : Position → Entry → List Entry → Position
with_event v e q = record { heard = v.heard; unheard = v.unheard ++ e ∷ []; pending = q }

-- a call moves from those to be performed to those not heard of
pub unheard_own : (s : ℕ) (v : Position) (e : Entry) (q : List Entry) → e.who ≡ s → v.pending ≡ e ∷ q → unheard_calls s (with_event v e q) ≡ unheard_calls s v
unheard_own s v e q i pi =
    ap (λ (r : List Entry). r ++ q) (made_by_own s v.unheard e i) ∙ append_assoc (made_by s v.unheard) (e ∷ []) q
    ∙ ap (λ (r : List Entry). made_by s v.unheard ++ r) (sym pi)

pub hub_performs : {n : ℕ} {b b' : Board} {log : List Entry} (e : Entry) → HubPerforms n e.who e.request b b' → HubIs b log → HubIs b' (e ∷ log)
hub_performs e d h =
    record {
      word = λ x. d.word x ∙ ap (word_after (act x e.request)) (h.word x);
      stamp = λ x. d.stamp x ∙ ap (stamp_after (act x e.request)) (h.stamp x);
      shares = λ x s. d.shares x s ∙ ap (shares_after (eqb e.who s) (act x e.request)) (h.shares x s);
    }

down_performs : {n : ℕ} {b b' : Board} {log : List Entry} {j : ℕ} {v : Position} (e : Entry) → j < n → HubPerforms n e.who e.request b b'
    → HubIs b log → Follows b log j v → b'.down j ≡ lane j v.heard (v.unheard ++ e ∷ [])
down_performs {b = b} {log = log} {j = j} {v = v} e l d h f =
    d.down j l ∙ ap (λ (r : List Notice). b.down j ++ r) (told_is b log j e h) ∙ ap (λ (r : List Notice). r ++ told j e log) f.down_is
    ∙ sym (lane_snoc j v.heard v.unheard e ∙ ap (λ (r : List Entry). lane j v.heard v.unheard ++ told j e r) f.log_is)

-- of another shim
pub follows_other : {n : ℕ} {b b' : Board} {log : List Entry} {j : ℕ} {v : Position} (e : Entry) → j < n → j ≢ e.who
    → HubPerforms n e.who e.request b b' → HubIs b log → Follows b log j v → Follows b' (e ∷ log) j (with_event v e v.pending)
follows_other {j = j} {v = v} e l i d h f =
    record {
      log_is = onto_snoc v.unheard v.heard e ∙ ap {B = List Entry} (λ r. e ∷ r) f.log_is;
      down_is = down_performs e l d h f;
      up_is = d.other_up j i ∙ f.up_is;
      all_by = f.all_by;
      holds = holds_same (ap (λ (r : List Entry). r ++ v.pending) (made_by_other j v.unheard e (λ k. i (sym k)))) (d.shim j).wait (d.shim j).line f.holds;
    }

-- of the shim itself
pub follows_own : {n : ℕ} {b b' : Board} {log : List Entry} {s : ℕ} {v : Position} (e : Entry) (q : List Entry) → s < n → e.who ≡ s → v.pending ≡ e ∷ q
    → HubPerforms n s e.request b b' → HubIs b log → Follows b log s v → Follows b' (e ∷ log) s (with_event v e q)
follows_own {n = n} {b = b} {b' = b'} {s = s} {v = v} e q l i pi d h f =
    record {
      log_is = onto_snoc v.unheard v.heard e ∙ ap {B = List Entry} (λ r. e ∷ r) f.log_is;
      down_is = down_performs e l (subst (λ (r : ℕ). HubPerforms n r e.request b b') (sym i) d) h f;
      up_is = ups;
      all_by = (subst (AllBy s) pi f.all_by).1;
      holds = holds_same (unheard_own s v e q i pi) (d.shim s).wait (d.shim s).line f.holds;
    }
  where
    ups : b'.up s ≡ requests q
    ups = let a : requests v.pending ≡ e.request ∷ requests q = ap requests pi in let c = d.first in let g = f.up_is in cc

-- ## a shim is handed a message

pub record Moved (b' : Board) (log : List Entry) (s : ℕ) (v : Position) (m : Notice) : Type 0 where
  pub place : Position
  pub pending_is : place.pending ≡ v.pending
  pub follows : Follows b' log s place
  pub grew : length v.heard ≤ length place.heard
  pub fewer : (e : Entry) → Member e (unheard_calls s place) → Member e (unheard_calls s v)
  pub news : (e : Entry) (r : List Entry) → Spot e r place.heard → Spot e r v.heard ⊎ News s e r (unheard_calls s v) m

pub follows_hears : {b b' : Board} {log : List Entry} {s : ℕ} {v : Position} {m : Notice} → Hears s m b b' → Follows b log s v → Moved b' log s v m
follows_hears {b = b} {b' = b'} {s = s} {v = v} {m = m} k f =
    let r = hears_next s v.unheard v.heard v.pending (b.wait s) (b.line s) m (b'.down s) f.holds (sym k.first ∙ f.down_is) in
    record {
      place = record { heard = r.heard; unheard = r.unheard; pending = v.pending };
      pending_is = refl;
      follows =
          record {
            log_is = r.log_is ∙ f.log_is;
            down_is = r.down_is;
            up_is = k.up s ∙ f.up_is;
            all_by = f.all_by;
            holds = holds_same refl k.wait k.line r.holds;
          };
      grew = r.grew;
      fewer = r.fewer;
      news = r.news;
    }
