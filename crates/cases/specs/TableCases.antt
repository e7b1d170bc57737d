-- The tables of the pages: numbers of kinds, strengths, refusals and faults, marks, and what is printed for them.
use Rattle.std.specs.Prelude.{◌≡◌, true, false, [], ◌∷◌, Some, None, codes, map}
use Rattle.fabric.specs.Fault.{fault_number, fault_lane}
use Rattle.fabric.specs.declared.fault.FabricFault.TheVariants.{NoLane, Full, Empty}
use Rattle.frames.specs.Check as frames
use Rattle.rules.specs.Kinds.{kind_number, kind_of}
use Rattle.rules.specs.Refusals.{refusal_told, refusal_number}
use Rattle.rules.specs.Requests.{store_message, load_message, fence_message, drop_message}
use Rattle.rules.specs.Sizes.{is_size}
use Rattle.rules.specs.Strengths.{strength_number, strength_of, takes, fitting, mark_of, mark_strength, is_sc, asks_sync}
use Rattle.rules.specs.Words.{kind_word, answer_word, answer_bytes, refusal_bytes}
use Rattle.rules.specs.declared.answer.Answer.TheVariants.{Done, Waits, Value, Ended, Handled}
use Rattle.rules.specs.declared.kind.Kind.TheVariants.{Write, ReadRequest, ReadResponse, FenceRequest, FenceResponse, WriteAck, Drop}
use Rattle.rules.specs.declared.refusal.Refusal.TheVariants.{WrongSize, MessageWaits, NoShim, NoLine, WrongStrength, ShimWaits, NotHeld, Unsettled, AtLimit, Fabric, Foreign, Claimed, NotWaiting}
use Rattle.rules.specs.declared.strength.Access.TheVariants as access
use Rattle.rules.specs.declared.strength.Strength.TheVariants.{Relaxed, Acquire, Release, SeqCst}
use Rattle.words.specs.Faults as sheet
use Rattle.words.specs.declared.fault.FaultKind.TheVariants.{Header, UnknownWord, NotANumber, WordCount, NoLineFeed, TooLong}
use Rattle.cases.specs.Scenes.{message}

pub record TableCases : Type 0 where
  -- kinds
  pub kinds : map kind_number (Write ∷ ReadRequest ∷ ReadResponse ∷ FenceRequest ∷ FenceResponse ∷ WriteAck ∷ Drop ∷ []) ≡ 1 ∷ 2 ∷ 3 ∷ 4 ∷ 5 ∷ 6 ∷ 7 ∷ []
  pub kinds_of : map kind_of (1 ∷ 2 ∷ 3 ∷ 4 ∷ 5 ∷ 6 ∷ 7 ∷ [])
      ≡ Some Write ∷ Some ReadRequest ∷ Some ReadResponse ∷ Some FenceRequest ∷ Some FenceResponse ∷ Some WriteAck ∷ Some Drop ∷ []
  pub no_kinds : map kind_of (0 ∷ 8 ∷ 255 ∷ []) ≡ None ∷ None ∷ None ∷ []
  -- strengths, and which a load, a store and a fence take
  pub strengths : map strength_number (Relaxed ∷ Acquire ∷ Release ∷ SeqCst ∷ []) ≡ 0 ∷ 1 ∷ 2 ∷ 3 ∷ []
  pub strengths_of : map strength_of (0 ∷ 1 ∷ 2 ∷ 3 ∷ 4 ∷ []) ≡ Some Relaxed ∷ Some Acquire ∷ Some Release ∷ Some SeqCst ∷ None ∷ []
  pub loads_take : map (fitting access.Load) (0 ∷ 1 ∷ 2 ∷ 3 ∷ 4 ∷ []) ≡ Some Relaxed ∷ Some Acquire ∷ None ∷ Some SeqCst ∷ None ∷ []
  pub stores_take : map (fitting access.Store) (0 ∷ 1 ∷ 2 ∷ 3 ∷ 4 ∷ []) ≡ Some Relaxed ∷ None ∷ Some Release ∷ Some SeqCst ∷ None ∷ []
  pub fences_take : map (fitting access.Fence) (0 ∷ 1 ∷ 2 ∷ 3 ∷ 4 ∷ []) ≡ None ∷ None ∷ None ∷ Some SeqCst ∷ None ∷ []
  pub release_fits : map (λ a. takes a Release) (access.Load ∷ access.Store ∷ access.Fence ∷ []) ≡ false ∷ true ∷ false ∷ []
  -- marks: 16 asks to be synchronised; of a mark that arrives the four lowest bits are the strength, and the three highest are ignored
  pub mark : mark_of 2 true ≡ 18
  pub mark_held : mark_of 3 false ≡ 3
  pub strength_in : map mark_strength (3 ∷ 19 ∷ 243 ∷ 244 ∷ []) ≡ 3 ∷ 3 ∷ 3 ∷ 4 ∷ []
  pub sc_in : map is_sc (3 ∷ 19 ∷ 243 ∷ 18 ∷ 7 ∷ []) ≡ true ∷ true ∷ true ∷ false ∷ false ∷ []
  pub sync_in : map asks_sync (16 ∷ 18 ∷ 242 ∷ 2 ∷ 226 ∷ []) ≡ true ∷ true ∷ true ∷ false ∷ false ∷ []
  -- what shims send up
  pub load : load_message 1 5 2 ≡ message 2 5 2 1 0 0
  pub store : store_message 1 5 2 false 7 ≡ message 1 5 18 1 7 0
  pub store_held : store_message 1 5 2 true 7 ≡ message 1 5 2 1 7 0
  pub fence : fence_message 1 ≡ message 4 0 3 1 0 0
  pub drop : drop_message 1 5 ≡ message 7 5 0 1 0 0
  -- sizes
  pub sizes : map (λ n. is_size n 1) (0 ∷ 1 ∷ 8 ∷ 9 ∷ []) ≡ false ∷ true ∷ true ∷ false ∷ []
  pub line_sizes : map (λ m. is_size 1 m) (0 ∷ 1 ∷ 64 ∷ 65 ∷ []) ≡ false ∷ true ∷ true ∷ false ∷ []
  -- refusals: the number of each, and what it carries
  pub refusals : map refusal_told (WrongSize ∷ MessageWaits ∷ NoShim ∷ NoLine ∷ WrongStrength ∷ ShimWaits ∷ NotHeld ∷ Unsettled ∷ AtLimit ∷ Claimed ∷ NotWaiting ∷ [])
      ≡ (1 ∷ []) ∷ (2 ∷ []) ∷ (3 ∷ []) ∷ (4 ∷ []) ∷ (5 ∷ []) ∷ (6 ∷ []) ∷ (7 ∷ []) ∷ (8 ∷ []) ∷ (9 ∷ []) ∷ (13 ∷ []) ∷ (14 ∷ []) ∷ []
  pub refusals_of_lanes : map refusal_told (Fabric (NoLane 3) ∷ Fabric (Full 3) ∷ Fabric (Empty 3) ∷ Foreign 3 ∷ [])
      ≡ (1 ∷ []) ∷ (10 ∷ 22 ∷ 3 ∷ []) ∷ (11 ∷ 23 ∷ 3 ∷ []) ∷ (12 ∷ 3 ∷ []) ∷ []
  pub refusal_printed : refusal_bytes (Fabric (Full 13)) ≡ codes "10 22 13"
  pub numbers : map refusal_number (WrongSize ∷ Fabric (Full 3) ∷ Foreign 3 ∷ []) ≡ 1 ∷ 10 ∷ 12 ∷ []
  pub kind_words : map kind_word (Write ∷ ReadRequest ∷ ReadResponse ∷ FenceRequest ∷ FenceResponse ∷ WriteAck ∷ Drop ∷ [])
      ≡ codes "WRITE" ∷ codes "RREQ" ∷ codes "RRESP" ∷ codes "FREQ" ∷ codes "FRESP" ∷ codes "WRITE_ACK" ∷ codes "DROP" ∷ []
  pub answer_words : map answer_word (Done ∷ Value 42 ∷ Handled Drop ∷ []) ≡ codes "done" ∷ codes "value" ∷ codes "DROP" ∷ []
  pub answers_printed : map answer_bytes (Done ∷ Waits ∷ Value 4294967295 ∷ Ended ∷ Handled WriteAck ∷ [])
      ≡ codes "done" ∷ codes "waits" ∷ codes "value 4294967295" ∷ codes "ended" ∷ codes "WRITE_ACK" ∷ []
  -- faults of fabrics, of buffers and of sheets
  pub faults : map fault_number (NoLane 3 ∷ Full 3 ∷ Empty 3 ∷ []) ≡ 21 ∷ 22 ∷ 23 ∷ []
  pub fault_lanes : map fault_lane (NoLane 3 ∷ Full 4 ∷ Empty 5 ∷ []) ≡ 3 ∷ 4 ∷ 5 ∷ []
  pub buffer_fault : frames.fault_number (record {}) ≡ 24
  pub sheet_faults : map sheet.fault_number (Header ∷ UnknownWord ∷ NotANumber ∷ WordCount ∷ NoLineFeed ∷ TooLong ∷ []) ≡ 31 ∷ 32 ∷ 33 ∷ 34 ∷ 35 ∷ 36 ∷ []
