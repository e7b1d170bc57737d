-- The steps of the hub and the shims, as far as the common order depends on them: the order holds for every run of these steps.
-- They leave out capacities, limits and the reasons of refusals: a refused call is any call that changes nothing.
use Rattle.std.proofs.Common.{◌≡◌, ℕ, suc, ◌+◌, ◌<◌, Bool, true, false, cond, ◌||◌, eqb, ltb, ◌≢◌, List, [], ◌∷◌, ◌++◌, Ok, Err}
use mathlib.Core.Option.{Option, none, some}
use Rattle.rules.specs.declared.strength.Strength.TheVariants.{SeqCst}
use Rattle.rules.specs.Strengths.{strength_number}
use Rattle.rules.specs.declared.refusal.Refusal.{Refusal}
use Rattle.rules.specs.declared.kind.Kind.{Kind}
use Rattle.rules.specs.declared.kind.Kind.TheVariants as kind
use Rattle.order.specs.Common.{Call, Load, Store, Fence, Evict, Up, Down, Answer, Outcome, Done, Waits, Value, Ended, Handled, Trace, End, HasCommonOrder}

-- A message on an up lane: a write (line, strength, whether it asks to be synchronised, word), a read (line, strength), a fence,
-- an eviction (line).
pub data Request : Type 0 where
  Write : ℕ → ℕ → Bool → ℕ → Request
  Read : ℕ → ℕ → Request
  Sync : Request
  Drop : ℕ → Request

-- What a request is to one line. Proofs about a line speak of acts, so that no comparison of line numbers is left in them.
pub data Act : Type 0 where
  Writes : Bool → ℕ → Act
  Reads : Act
  Drops : Act
  Nothing : Act

abbrev pub act : ℕ → Request → Act
act x (Write y g k w) = cond (eqb x y) (Writes k w) Nothing
act x (Read y g) = cond (eqb x y) Reads Nothing
act x Sync = Nothing
act x (Drop y) = cond (eqb x y) Drops Nothing

-- A message on a down lane: an update (line, word, stamp), the acknowledgement of a store (line, whether the store is SC, whether
-- it asked to be synchronised, stamp), the answer of a read (line, word, stamp), another shim's fence, the shim's own fence.
pub data Notice : Type 0 where
  Update : ℕ → ℕ → ℕ → Notice
  Ack : ℕ → Bool → Bool → ℕ → Notice
  Reply : ℕ → ℕ → ℕ → Notice
  OtherFence : Notice
  OwnFence : Notice

-- A line at a shim, with its copy and stamp where it is held.
pub data Line : Type 0 where
  NotHeld : Line
  Unsettled : ℕ → ℕ → Line
  Settled : ℕ → ℕ → Line

-- What a shim waits for, and on which line.
pub data Wait : Type 0 where
  Ready : Wait
  ForLoad : ℕ → Wait
  ForStore : ℕ → Wait
  ForFence : Wait

abbrev pub copy : Line → Option ℕ
copy NotHeld = none
copy (Unsettled c t) = some c
copy (Settled c t) = some c

abbrev pub unheld : Line → Bool
unheld NotHeld = true
unheld (Unsettled c t) = false
unheld (Settled c t) = false

-- whether a strength is SC
abbrev pub sc : ℕ → Bool
sc g = eqb g (strength_number SeqCst)

-- ## What a request does

-- to the line at the shim that makes it
abbrev pub line_after : Act → Line → Line
line_after (Writes k w) NotHeld = cond k (Unsettled w 1) NotHeld
line_after (Writes k w) (Unsettled c t) = Unsettled w (suc t)
line_after (Writes k w) (Settled c t) = Settled w (suc t)
line_after Reads l = l
line_after Drops l = NotHeld
line_after Nothing l = l

-- to what the shim waits for
abbrev pub wait_after : Request → Wait
wait_after (Write x g k w) = cond (sc g) (ForStore x) Ready
wait_after (Read x g) = ForLoad x
wait_after Sync = ForFence
wait_after (Drop x) = Ready

-- to the hub's word and stamp of a line, and to whether a shim shares it (first: whether that shim is the sender)
abbrev pub word_after : Act → ℕ → ℕ
word_after (Writes k w) v = w
word_after a v = v

abbrev pub stamp_after : Act → ℕ → ℕ
stamp_after (Writes k w) t = suc t
stamp_after a t = t

abbrev pub shares_after : Bool → Act → Bool → Bool
shares_after true (Writes k w) b = k || b
shares_after true Reads b = true
shares_after true Drops b = false
shares_after true Nothing b = b
shares_after false a b = b

-- What the hub sends to a shim when it performs a request (first: whether that shim is the sender), by the hub's words and stamps
-- and the lines that the shim shares just before.
abbrev pub notices : Bool → Request → (ℕ → ℕ) → (ℕ → ℕ) → (ℕ → Bool) → List Notice
notices true (Write x g k w) word stamp shares = cond (k || sc g) (Ack x (sc g) k (stamp x) ∷ []) []
notices false (Write x g k w) word stamp shares = cond (shares x) (Update x w (suc (stamp x)) ∷ []) []
notices true (Read x g) word stamp shares = Reply x (word x) (stamp x) ∷ []
notices false (Read x g) word stamp shares = []
notices true Sync word stamp shares = OwnFence ∷ []
notices false Sync word stamp shares = OtherFence ∷ []
notices true (Drop x) word stamp shares = []
notices false (Drop x) word stamp shares = []

-- ## What a message does to the shim that it is handed to

abbrev pub updated : ℕ → ℕ → Line → Line
updated w t NotHeld = NotHeld
updated w t (Unsettled c u) = Unsettled c u
updated w t (Settled c u) = cond (ltb u t) (Settled w t) (Settled c (suc u))

abbrev pub acked : ℕ → Line → Line
acked t NotHeld = NotHeld
acked t (Unsettled c u) = Settled c (u + t)
acked t (Settled c u) = Settled c u

abbrev pub heard_line : ℕ → Notice → Line → Line
heard_line x (Update y w t) l = cond (eqb x y) (updated w t l) l
heard_line x (Ack y c k t) l = cond (eqb x y) (cond k (acked t l) l) l
heard_line x (Reply y w t) l = cond (eqb x y) (Settled w t) l
heard_line x OtherFence l = l
heard_line x OwnFence l = l

abbrev pub heard_wait : Notice → Wait → Wait
heard_wait (Update y w t) v = v
heard_wait (Ack y c k t) v = cond c Ready v
heard_wait (Reply y w t) v = Ready
heard_wait OtherFence v = v
heard_wait OwnFence v = Ready

-- what the down that hands it over answers
abbrev pub says : Notice → Answer
says (Update y w t) = Handled kind.Write
says (Ack y c k t) = cond c Ended (Handled kind.WriteAck)
says (Reply y w t) = Value w
says OtherFence = Handled kind.FenceRequest
says OwnFence = Ended

-- what the up that performs a request names
abbrev pub request_kind : Request → Kind
request_kind (Write x g k w) = kind.Write
request_kind (Read x g) = kind.ReadRequest
request_kind Sync = kind.FenceRequest
request_kind (Drop x) = kind.Drop

-- ## Steps

-- The board with its lanes, oldest message first: words, stamps and sharers by line, waits by shim, lines by shim and line, lanes by shim.
pub record Board : Type 0 where
  pub word : ℕ → ℕ
  pub stamp : ℕ → ℕ
  pub shares : ℕ → ℕ → Bool
  pub wait : ℕ → Wait
  pub line : ℕ → ℕ → Line
  pub up : ℕ → List Request
  pub down : ℕ → List Notice

pub record SameHub (b b' : Board) : Type 0 where
  pub word : (x : ℕ) → b'.word x ≡ b.word x
  pub stamp : (x : ℕ) → b'.stamp x ≡ b.stamp x
  pub shares : (x s : ℕ) → b'.shares x s ≡ b.shares x s

pub record SameShim (b b' : Board) (s : ℕ) : Type 0 where
  pub wait : b'.wait s ≡ b.wait s
  pub line : (x : ℕ) → b'.line s x ≡ b.line s x

pub record Same (b b' : Board) : Type 0 where
  pub hub : SameHub b b'
  pub shim : (s : ℕ) → SameShim b b' s
  pub up : (s : ℕ) → b'.up s ≡ b.up s
  pub down : (s : ℕ) → b'.down s ≡ b.down s

-- shim s, which is ready, changes its own line and wait, and sends the request up
pub record Sends (s : ℕ) (o : Request) (b b' : Board) : Type 0 where
  pub ready : b.wait s ≡ Ready
  pub wait : b'.wait s ≡ wait_after o
  pub line : (x : ℕ) → b'.line s x ≡ line_after (act x o) (b.line s x)
  pub up : b'.up s ≡ b.up s ++ o ∷ []
  pub hub : SameHub b b'
  pub other : (j : ℕ) → j ≢ s → SameShim b b' j
  pub other_up : (j : ℕ) → j ≢ s → b'.up j ≡ b.up j
  pub down : (j : ℕ) → b'.down j ≡ b.down j

-- the hub performs the first request of the up lane of shim s, on a board of n shims
pub record HubPerforms (n s : ℕ) (o : Request) (b b' : Board) : Type 0 where
  pub first : b.up s ≡ o ∷ b'.up s
  pub word : (x : ℕ) → b'.word x ≡ word_after (act x o) (b.word x)
  pub stamp : (x : ℕ) → b'.stamp x ≡ stamp_after (act x o) (b.stamp x)
  pub shares : (x j : ℕ) → b'.shares x j ≡ shares_after (eqb s j) (act x o) (b.shares x j)
  pub down : (j : ℕ) → j < n → b'.down j ≡ b.down j ++ notices (eqb s j) o b.word b.stamp (λ x. b.shares x j)
  pub shim : (j : ℕ) → SameShim b b' j
  pub other_up : (j : ℕ) → j ≢ s → b'.up j ≡ b.up j

-- shim s is handed the first message of its down lane
pub record Hears (s : ℕ) (m : Notice) (b b' : Board) : Type 0 where
  pub first : b.down s ≡ m ∷ b'.down s
  pub wait : b'.wait s ≡ heard_wait m (b.wait s)
  pub line : (x : ℕ) → b'.line s x ≡ heard_line x m (b.line s x)
  pub hub : SameHub b b'
  pub other : (j : ℕ) → j ≢ s → SameShim b b' j
  pub up : (j : ℕ) → b'.up j ≡ b.up j
  pub other_down : (j : ℕ) → j ≢ s → b'.down j ≡ b.down j

-- a call on a board of n shims: the board before it, the board after it, the call, and what the board said
pub data Step (n : ℕ) (b b' : Board) : Call → Outcome → Type 0 where
  refused : (c : Call) (r : Refusal) → Same b b' → Step n b b' c (Err r)
  hit : (s x g w : ℕ) → s < n → b.wait s ≡ Ready → copy (b.line s x) ≡ some w → Same b b' → Step n b b' (Load s x g) (Ok (Value w))
  miss : (s x g : ℕ) → s < n → b.line s x ≡ NotHeld → Sends s (Read x g) b b' → Step n b b' (Load s x g) (Ok Waits)
  stores : (s x g w : ℕ) → s < n → Sends s (Write x g (unheld (b.line s x)) w) b b' → Step n b b' (Store s x g w) (Ok (cond (sc g) Waits Done))
  fences : (s g : ℕ) → s < n → Sends s Sync b b' → Step n b b' (Fence s g) (Ok Waits)
  evicts : (s x c t : ℕ) → s < n → b.line s x ≡ Settled c t → Sends s (Drop x) b b' → Step n b b' (Evict s x) (Ok Done)
  ups : (s : ℕ) (o : Request) → s < n → HubPerforms n s o b b' → Step n b b' (Up s) (Ok (Handled (request_kind o)))
  downs : (s : ℕ) (m : Notice) → s < n → Hears s m b b' → Step n b b' (Down s) (Ok (says m))

pub record Fresh (b : Board) : Type 0 where
  pub word : (x : ℕ) → b.word x ≡ 0
  pub stamp : (x : ℕ) → b.stamp x ≡ 0
  pub shares : (x s : ℕ) → b.shares x s ≡ false
  pub wait : (s : ℕ) → b.wait s ≡ Ready
  pub line : (s x : ℕ) → b.line s x ≡ NotHeld
  pub up : (s : ℕ) → b.up s ≡ []
  pub down : (s : ℕ) → b.down s ≡ []

-- the trace of calls made one after another on a fresh board of n shims, and the board at its end
pub data Runs (n : ℕ) : Trace → Board → Type 0 where
  none_yet : {b : Board} → Fresh b → Runs n [] b
  one_more : {t : Trace} {b b' : Board} {c : Call} {a : Outcome} → Runs n t b → Step n b b' c a → Runs n (t ++ (c, a) ∷ []) b'
  -- between calls a shim may be claimed or handed back, which the machine does not see
  alike : {t : Trace} {b b' : Board} → Runs n t b → Same b b' → Runs n t b'

abbrev pub end_of : ℕ → Board → End
end_of n b =
    record {
      Quiet = (s : ℕ) → s < n → (b.up s ≡ []) × (b.down s ≡ []);
      HubWord = λ x w. b.word x ≡ w;
      HeldCopy = λ s x w. (s < n) × copy (b.line s x) ≡ some w;
    }

-- the theorem: every run has a common order
abbrev pub OrderStands : Type 0
OrderStands = (n : ℕ) (t : Trace) (b : Board) → Runs n t b → HasCommonOrder t (end_of n b)
