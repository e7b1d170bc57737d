-- The history behind a board: the log of the calls that the hub performed, and for each shim how much of it the shim has heard of.
-- The shim's lines, what it waits for and its down lane are functions of these.
use Rattle.std.proofs.Common.{◌≡◌, ℕ, suc, ◌≤◌, Bool, true, false, cond, ◌||◌, eqb, ◌⊎◌, List, [], ◌∷◌, ◌++◌, length, refl, ap, ◌∙◌, subst, inl, inr, arith}
use mathlib.Core.Bool.{false≢true}
use Rattle.order.specs.Common.{Value, Ended}
use Rattle.order.proofs.Machine.{Request, Write, Read, Sync, Drop, act, Notice, Update, Ack, Reply, OtherFence, OwnFence, Line, Wait, Ready, ForStore, sc, wait_after}
use Rattle.order.proofs.Machine.{word_after, stamp_after, shares_after, notices, heard_line, heard_wait, says}
use Rattle.order.proofs.Lists.{Member, Spot, onto}
use Rattle.order.proofs.Entries.{Entry, acts, made_by}
use Rattle.order.proofs.Replay.{replay, Allowed, view_of, heard_lines, other_commutes, is_ready, own_commutes}

-- the hub after a log, newest call first
abbrev pub hub_word : ℕ → List Entry → ℕ
hub_word x [] = 0
hub_word x (e ∷ p) = word_after (act x e.request) (hub_word x p)

abbrev pub hub_stamp : ℕ → List Entry → ℕ
hub_stamp x [] = 0
hub_stamp x (e ∷ p) = stamp_after (act x e.request) (hub_stamp x p)

abbrev pub hub_shares : ℕ → List Entry → ℕ → Bool
hub_shares s [] x = false
hub_shares s (e ∷ p) x = shares_after (eqb e.who s) (act x e.request) (hub_shares s p x)

-- line x as shim s has it when it has heard of the log p and made no call since
abbrev pub hub_view : ℕ → ℕ → List Entry → Line
hub_view s x p = view_of (hub_shares s p x) (hub_word x p) (hub_stamp x p)

-- what the hub sends to shim s when it performs e after the log p
abbrev pub told : ℕ → Entry → List Entry → List Notice
told s e p = notices (eqb e.who s) e.request (λ x. hub_word x p) (λ x. hub_stamp x p) (hub_shares s p)

-- the shim's wait after messages, and after calls of its own
abbrev pub heard_waits : List Notice → Wait → Wait
heard_waits [] v = v
heard_waits (m ∷ ms) v = heard_waits ms (heard_wait m v)

abbrev pub wait_replay : List Entry → Wait → Wait
wait_replay [] v = v
wait_replay (e ∷ es) v = wait_replay es (wait_after e.request)

-- each of the calls was made by a shim that was ready
abbrev pub MadeReady : List Entry → Wait → Type 0
MadeReady [] v = Unit {0}
MadeReady (e ∷ es) v = (v ≡ Ready) × MadeReady es (wait_after e.request)

-- the state of shim s is what its own calls es, which it has not heard of yet, make of the hub after the log p, which it has heard of
pub record Holds (s : ℕ) (p es : List Entry) (v : Wait) (ln : ℕ → Line) : Type 0 where
  pub line : (x : ℕ) → ln x ≡ replay (acts x es) (hub_view s x p)
  pub allowed : (x : ℕ) → Allowed (acts x es) (hub_view s x p)
  pub wait : v ≡ wait_replay es Ready
  pub made_ready : MadeReady es Ready

made_ready_last : (es : List Entry) (v : Wait) → MadeReady es v → (v ≡ Ready) ⊎ (es ≡ [])
made_ready_last [] v c = inr refl
made_ready_last (e ∷ es) v c = inl c.0

acts_none : (x : ℕ) (es : List Entry) → (w : Wait) → (w ≡ Ready) ⊎ (es ≡ []) → (w ≡ Ready) ⊎ (acts x es ≡ [])
acts_none x es w (inl h) = inl h
acts_none x es w (inr h) = inr (ap (acts x) h)

-- the message that answers an own call ends the wait for it
own_waits : (o : Request) (wd st : ℕ → ℕ) (sh : ℕ → Bool) (es : List Entry) → MadeReady es (wait_after o)
    → (heard_waits (notices true o wd st sh) (wait_replay es (wait_after o)) ≡ wait_replay es Ready) × MadeReady es Ready
own_waits (Write y g k w) wd st sh es c = go (sc g) k es c
  where
    go : (b k : Bool) (es : List Entry) → MadeReady es (cond b (ForStore y) Ready)
        → (heard_waits (cond (k || b) (Ack y b k (st y) ∷ []) []) (wait_replay es (cond b (ForStore y) Ready)) ≡ wait_replay es Ready) × MadeReady es Ready
    go true true [] c = (refl, tt)
    go true false [] c = (refl, tt)
    go true k (e ∷ es) c = absurd (false≢true (ap is_ready c.0))
    go false true es c = (refl, c)
    go false false es c = (refl, c)
own_waits (Read y g) wd st sh [] c = (refl, tt)
own_waits (Read y g) wd st sh (e ∷ es) c = absurd (false≢true (ap is_ready c.0))
own_waits Sync wd st sh [] c = (refl, tt)
own_waits Sync wd st sh (e ∷ es) c = absurd (false≢true (ap is_ready c.0))
own_waits (Drop y) wd st sh es c = (refl, c)

other_waits : (o : Request) (wd st : ℕ → ℕ) (sh : ℕ → Bool) (v : Wait) → heard_waits (notices false o wd st sh) v ≡ v
other_waits (Write y g k w) wd st sh v = go (sh y)
  where
    go : (b : Bool) → heard_waits (cond b (Update y w (suc (st y)) ∷ []) []) v ≡ v
    go true = refl
    go false = refl
other_waits o wd st sh v = refl

own_event_holds : (s : ℕ) (e : Entry) (p es : List Entry) (v : Wait) (ln : ℕ → Line) → eqb e.who s ≡ true → Holds s p (e ∷ es) v ln
    → Holds s (e ∷ p) es (heard_waits (told s e p) v) (λ x. heard_lines x (told s e p) (ln x))
own_event_holds s e p es v ln q h =
    let last = λ (x : ℕ). acts_none x es (wait_after e.request) (made_ready_last es (wait_after e.request) h.made_ready.1) in
    let passed = λ (x : ℕ). own_commutes (λ x. hub_word x p) (λ x. hub_stamp x p) (hub_shares s p) e.request x (acts x es) (h.allowed x) (last x) in
    let waited = own_waits e.request (λ x. hub_word x p) (λ x. hub_stamp x p) (hub_shares s p) es h.made_ready.1 in
    record {
      line = λ x. rw (q, h.line x) (passed x).0;
      allowed = λ x. rw q (passed x).1;
      wait = rw (q, h.wait) waited.0;
      made_ready = waited.1;
    }

other_event_holds : (s : ℕ) (e : Entry) (p es : List Entry) (v : Wait) (ln : ℕ → Line) → eqb e.who s ≡ false → Holds s p es v ln
    → Holds s (e ∷ p) es (heard_waits (told s e p) v) (λ x. heard_lines x (told s e p) (ln x))
other_event_holds s e p es v ln q h =
    let passed = λ (x : ℕ). other_commutes (λ x. hub_word x p) (λ x. hub_stamp x p) (hub_shares s p) e.request x (acts x es) (h.allowed x) in
    record {
      line = λ x. rw (q, h.line x) (passed x).0;
      allowed = λ x. rw q (passed x).1;
      wait = rw q (other_waits e.request (λ x. hub_word x p) (λ x. hub_stamp x p) (hub_shares s p) v ∙ h.wait);
      made_ready = h.made_ready;
    }

-- to hear of one more call of the log
pub hears_event : (s : ℕ) (e : Entry) (p q pending : List Entry) (v : Wait) (ln : ℕ → Line) → Holds s p (made_by s (e ∷ q) ++ pending) v ln
    → Holds s (e ∷ p) (made_by s q ++ pending) (heard_waits (told s e p) v) (λ x. heard_lines x (told s e p) (ln x))
hears_event s e p q pending v ln h = go (eqb e.who s) refl h
  where
    go : (b : Bool) → eqb e.who s ≡ b → Holds s p (cond b (e ∷ made_by s q) (made_by s q) ++ pending) v ln
        → Holds s (e ∷ p) (made_by s q ++ pending) (heard_waits (told s e p) v) (λ x. heard_lines x (told s e p) (ln x))
    go true i h = own_event_holds s e p (made_by s q ++ pending) v ln i h
    go false i h = other_event_holds s e p (made_by s q ++ pending) v ln i h

-- the down lane of a shim that has heard of p, newest first, and not of q, oldest first
abbrev pub lane : ℕ → List Entry → List Entry → List Notice
lane s p [] = []
lane s p (e ∷ q) = told s e p ++ lane s (e ∷ p) q

-- the hub sends a shim at most one message for each call that it performs
abbrev pub AtMostOne : List Notice → Type 0
AtMostOne [] = Unit {0}
AtMostOne (m ∷ []) = Unit {0}
AtMostOne (m ∷ (m' ∷ ms)) = ⊥

at_most_one_if : (b : Bool) (m : Notice) → AtMostOne (cond b (m ∷ []) [])
at_most_one_if true m = tt
at_most_one_if false m = tt

notices_at_most_one : (b : Bool) (o : Request) (wd st : ℕ → ℕ) (sh : ℕ → Bool) → AtMostOne (notices b o wd st sh)
notices_at_most_one true (Write y g k w) wd st sh = at_most_one_if (k || sc g) (Ack y (sc g) k (st y))
notices_at_most_one false (Write y g k w) wd st sh = at_most_one_if (sh y) (Update y w (suc (st y)))
notices_at_most_one true (Read y g) wd st sh = tt
notices_at_most_one true Sync wd st sh = tt
notices_at_most_one b o wd st sh = tt

-- what the message that answers a load or a fence says, where the call was performed after r
abbrev pub tells : Request → List Entry → Notice → Type 0
tells (Write x g k w) r m = Unit {0}
tells (Read x g) r m = says m ≡ Value (hub_word x r)
tells Sync r m = says m ≡ Ended
tells (Drop x) r m = Unit {0}

tells_none : (o : Request) (st : ℕ → ℕ) (sh : ℕ → Bool) (r : List Entry) (m : Notice) → notices true o (λ x. hub_word x r) st sh ≡ [] → tells o r m
tells_none (Write x g k w) st sh r m h = tt
tells_none (Read x g) st sh r m h = let z : ◌≡◌ {A = ℕ} 0 1 = cc in absurd (omega arith)
tells_none Sync st sh r m h = let z : ◌≡◌ {A = ℕ} 0 1 = cc in absurd (omega arith)
tells_none (Drop x) st sh r m h = tt

tells_one : (o : Request) (st : ℕ → ℕ) (sh : ℕ → Bool) (r : List Entry) (m : Notice) → notices true o (λ x. hub_word x r) st sh ≡ m ∷ [] → tells o r m
tells_one (Write x g k w) st sh r m h = tt
tells_one (Read x g) st sh r m h = let k : Reply x (hub_word x r) (st x) ≡ m = cc in rw (← k) refl
tells_one Sync st sh r m h = let k : OwnFence ≡ m = cc in rw (← k) refl
tells_one (Drop x) st sh r m h = tt

told_none : (s : ℕ) (e : Entry) (p : List Entry) (m : Notice) → eqb e.who s ≡ true → told s e p ≡ [] → tells e.request p m
told_none s e p m i h = tells_none e.request (λ x. hub_stamp x p) (hub_shares s p) p m (rw i at h)

told_one : (s : ℕ) (e : Entry) (p : List Entry) (m : Notice) → eqb e.who s ≡ true → told s e p ≡ m ∷ [] → tells e.request p m
told_one s e p m i h = tells_one e.request (λ x. hub_stamp x p) (hub_shares s p) p m (rw i at h)

-- where e is an own call, it is one of es, performed after r, and m is the message that answers it
abbrev pub News : ℕ → Entry → List Entry → List Entry → Notice → Type 0
News s e r es m = eqb e.who s ≡ true → Member e es × tells e.request r m

-- the shim after it was handed the first message of its down lane: it has heard of the log up to the call that the message is about
pub record HeardNext (s : ℕ) (log was es pending : List Entry) (m : Notice) (v : Wait) (ln : ℕ → Line) (dn : List Notice) : Type 0 where
  pub heard : List Entry
  pub unheard : List Entry
  pub log_is : onto unheard heard ≡ log
  pub down_is : dn ≡ lane s heard unheard
  pub holds : Holds s heard (made_by s unheard ++ pending) v ln
  pub grew : length was ≤ length heard
  pub fewer : (e : Entry) → Member e (made_by s unheard ++ pending) → Member e es
  pub news : (e : Entry) (r : List Entry) → Spot e r heard → Spot e r was ⊎ News s e r es m

member_more : (b : Bool) (d e : Entry) (l pending : List Entry) → Member d (l ++ pending) → Member d (cond b (e ∷ l) l ++ pending)
member_more true d e l pending h = inr h
member_more false d e l pending h = h

pub hears_next : (s : ℕ) (q p pending : List Entry) (v : Wait) (ln : ℕ → Line) (m : Notice) (dn : List Notice)
    → Holds s p (made_by s q ++ pending) v ln → m ∷ dn ≡ lane s p q
    → HeardNext s (onto q p) p (made_by s q ++ pending) pending m (heard_wait m v) (λ x. heard_line x m (ln x)) dn
hears_next s [] p pending v ln m dn h i = let z : ◌≡◌ {A = ℕ} 0 1 = cc in absurd (omega arith)
hears_next s (e ∷ q) p pending v ln m dn h i =
    let one = notices_at_most_one (eqb e.who s) e.request (λ x. hub_word x p) (λ x. hub_stamp x p) (hub_shares s p) in
    go (λ h' i'. hears_next s q (e ∷ p) pending v ln m dn h' i') (told s e p) refl one (hears_event s e p q pending v ln h) i
  where
    es : List Entry
    es = made_by s (e ∷ q) ++ pending

    first : eqb e.who s ≡ true → Member e es
    first j = rw j (inl refl)

    Result : Type 0
    Result = HeardNext s (onto q (e ∷ p)) p es pending m (heard_wait m v) (λ x. heard_line x m (ln x)) dn

    ResultAfter : Type 0
    ResultAfter = HeardNext s (onto q (e ∷ p)) (e ∷ p) (made_by s q ++ pending) pending m (heard_wait m v) (λ x. heard_line x m (ln x)) dn

    silent : told s e p ≡ [] → ResultAfter → Result
    silent j r =
        record {
          heard = r.heard;
          unheard = r.unheard;
          log_is = r.log_is;
          down_is = r.down_is;
          holds = r.holds;
          grew = omega (arith, r.grew);
          fewer = λ d k. member_more (eqb e.who s) d e (made_by s q) pending (r.fewer d k);
          news = λ d r' k. pass d r' (r.news d r' k);
        }
      where
        pass : (d : Entry) (r' : List Entry) → Spot d r' (e ∷ p) ⊎ News s d r' (made_by s q ++ pending) m → Spot d r' p ⊎ News s d r' es m
        pass d r' (inl (inl k)) = inr (rw (k.0, k.1) (λ o. (first o, told_none s e p m o j)))
        pass d r' (inl (inr k)) = inl k
        pass d r' (inr k) = inr (λ o. (member_more (eqb e.who s) d e (made_by s q) pending (k o).0, (k o).1))

    go : (Holds s (e ∷ p) (made_by s q ++ pending) v ln → m ∷ dn ≡ lane s (e ∷ p) q → ResultAfter)
        → (ms : List Notice) → told s e p ≡ ms → AtMostOne ms → Holds s (e ∷ p) (made_by s q ++ pending) (heard_waits ms v) (λ x. heard_lines x ms (ln x))
        → m ∷ dn ≡ ms ++ lane s (e ∷ p) q → Result
    go rec [] j c h i = silent j (rec h i)
    go rec (m' ∷ []) j c h i =
        let k : m' ≡ m = cc in
        record {
          heard = e ∷ p;
          unheard = q;
          log_is = refl;
          down_is = cc;
          holds = subst (λ (k : Notice). Holds s (e ∷ p) (made_by s q ++ pending) (heard_wait k v) (λ x. heard_line x k (ln x))) k h;
          grew = omega arith;
          fewer = λ d o. member_more (eqb e.who s) d e (made_by s q) pending o;
          news = λ d r' o. pass (rw k at j) d r' o;
        }
      where
        pass : told s e p ≡ m ∷ [] → (d : Entry) (r' : List Entry) → Spot d r' (e ∷ p) → Spot d r' p ⊎ News s d r' es m
        pass j d r' (inl k) = inr (rw (k.0, k.1) (λ o. (first o, told_one s e p m o j)))
        pass j d r' (inr k) = inl k
    go rec (m' ∷ (m'' ∷ ms)) j c h i = absurd c

-- a shim that is ready waits for none of its calls
pub ready_each : (es : List Entry) (v : Wait) → MadeReady es v → wait_replay es v ≡ Ready → (e : Entry) → Member e es → wait_after e.request ≡ Ready
ready_each [] v c h e m = elim m [ ]
ready_each (d ∷ []) v c h e (inl m) = rw m h
ready_each (d ∷ []) v c h e (inr m) = elim m [ ]
ready_each (d ∷ (d' ∷ es)) v c h e (inl m) = rw m c.1.0
ready_each (d ∷ (d' ∷ es)) v c h e (inr m) = ready_each (d' ∷ es) (wait_after d.request) c.1 h e m

-- a message after which down answers a word, or that something ended, makes the shim ready
pub word_makes_ready : (m : Notice) (v : Wait) (w : ℕ) → says m ≡ Value w → heard_wait m v ≡ Ready
word_makes_ready (Update y u t) v w h = let z : ◌≡◌ {A = ℕ} 0 1 = cc in absurd (omega arith)
word_makes_ready (Ack y true k t) v w h = refl
word_makes_ready (Ack y false k t) v w h = let z : ◌≡◌ {A = ℕ} 0 1 = cc in absurd (omega arith)
word_makes_ready (Reply y u t) v w h = refl
word_makes_ready OtherFence v w h = let z : ◌≡◌ {A = ℕ} 0 1 = cc in absurd (omega arith)
word_makes_ready OwnFence v w h = refl

pub end_makes_ready : (m : Notice) (v : Wait) → says m ≡ Ended → heard_wait m v ≡ Ready
end_makes_ready (Update y u t) v h = let z : ◌≡◌ {A = ℕ} 0 1 = cc in absurd (omega arith)
end_makes_ready (Ack y true k t) v h = refl
end_makes_ready (Ack y false k t) v h = let z : ◌≡◌ {A = ℕ} 0 1 = cc in absurd (omega arith)
end_makes_ready (Reply y u t) v h = refl
end_makes_ready OtherFence v h = let z : ◌≡◌ {A = ℕ} 0 1 = cc in absurd (omega arith)
end_makes_ready OwnFence v h = refl

-- where no message waits for a shim, it is as if it had heard of the whole log
pub all_silent : (s : ℕ) (q p pending : List Entry) (v : Wait) (ln : ℕ → Line) → Holds s p (made_by s q ++ pending) v ln → lane s p q ≡ []
    → Holds s (onto q p) pending v ln
all_silent s [] p pending v ln h i = h
all_silent s (e ∷ q) p pending v ln h i = go (λ h' i'. all_silent s q (e ∷ p) pending v ln h' i') (told s e p) (hears_event s e p q pending v ln h) i
  where
    go : (Holds s (e ∷ p) (made_by s q ++ pending) v ln → lane s (e ∷ p) q ≡ [] → Holds s (onto q (e ∷ p)) pending v ln)
        → (ms : List Notice) → Holds s (e ∷ p) (made_by s q ++ pending) (heard_waits ms v) (λ x. heard_lines x ms (ln x)) → ms ++ lane s (e ∷ p) q ≡ []
        → Holds s (onto q (e ∷ p)) pending v ln
    go rec [] h i = rec h i
    go rec (m ∷ ms) h i = let z : ◌≡◌ {A = ℕ} 0 1 = cc in absurd (omega arith)
