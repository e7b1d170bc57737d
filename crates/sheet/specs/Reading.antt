-- What a sheet is read as: every list of bytes holds a board and its entries, or has a first fault.
-- A place is a number of bytes from the start of the sheet s.
use Rattle.std.specs.Prelude.{ℕ, zero, suc, ◌+◌, Bool, cond, List, [], ◌∷◌, length, take, drop, Some, None, Ok, Err, Option, Result, ◌==◌, nat_le, nat_lt, slice_index}
use Rattle.std.specs.Option.{option_map}
use Rattle.std.specs.Str.{bytes_eq}
use Rattle.rules.specs.declared.call.Call.{Call}
use Rattle.rules.specs.declared.call.Call.TheVariants as call
use Rattle.words.specs.declared.fault.FaultKind.{FaultKind}
use Rattle.words.specs.declared.fault.FaultKind.TheVariants.{Header, UnknownWord, NotANumber, WordCount, NoLineFeed, TooLong}
use Rattle.words.specs.declared.fault.Fault.{Fault}
use Rattle.sheet.specs.declared.line.Board.{Board}
use Rattle.sheet.specs.declared.line.FabricName.{FabricName}
use Rattle.sheet.specs.declared.line.FabricName.TheVariants.{Ring, Frames, Staged}
use Rattle.sheet.specs.declared.op.Op.{Op}
use Rattle.sheet.specs.declared.op.Op.TheVariants.{Load, Store, Fence, Evict, Up, Down}
use Rattle.words.specs.Faults.{fault}
use Rattle.sheet.specs.Format.{header, size_limit, hash, op_word, board_word, strength_words, fabric_word, Entry, a_call, a_note}
use Rattle.rules.specs.Sizes.{is_size}
use Rattle.words.specs.Lengths.{line_feed, word_length, line_length}
use Rattle.words.specs.Numbers.{number_of}

-- one answer after another: a fault ends the reading
abbrev pub followed_by : {X Y : Type 0} → Result X Fault → (X → Result Y Fault) → Result Y Fault
followed_by (Ok x) next = next x
followed_by (Err f) next = Err f

-- a fault, unless the test is true
abbrev pub unless : Bool → Fault → Result Unit Fault
unless b f = cond b (Ok tt) (Err f)

-- the word that begins at place a, and where it ends
abbrev pub word_at : List ℕ → ℕ → List ℕ
word_at s a = take (word_length (drop a s)) (drop a s)

abbrev pub word_end : List ℕ → ℕ → ℕ
word_end s a = a + word_length (drop a s)

-- the byte at place a, where the sheet goes on
abbrev pub byte_at : List ℕ → ℕ → Result ℕ Fault
byte_at s a = cond (nat_le (length s) a) (Err (fault NoLineFeed (length s))) (Ok (slice_index s a))

-- a word is wanted at place a: it is not there where the sheet or the line ends
abbrev pub wanted : List ℕ → ℕ → Result Unit Fault
wanted s a = cond (nat_le (length s) a) (Err (fault NoLineFeed (length s))) (cond (slice_index s a == line_feed) (Err (fault WordCount a)) (Ok tt))

-- this word is wanted at place a
abbrev pub keyword_at : List ℕ → List ℕ → ℕ → Result Unit Fault
keyword_at name s a = followed_by (wanted s a) (λ _. unless (bytes_eq (word_at s a) name) (fault UnknownWord a))

-- the end of the line is wanted at place a
abbrev pub line_ends : List ℕ → ℕ → Result Unit Fault
line_ends s a = cond (nat_le (length s) a) (Err (fault NoLineFeed (length s))) (unless (slice_index s a == line_feed) (fault WordCount a))

-- the words of the fabrics, in the order in which they are looked for
abbrev pub fabric_words : List (List ℕ)
fabric_words = fabric_word Ring ∷ fabric_word Frames ∷ fabric_word Staged ∷ []

-- what an operand can be: a number, or a word of a list, which stands for its number there
pub data Operand : Type 0 where
  a_number : Operand
  a_strength : Operand
  a_fabric : Operand

-- the number of a word in a list
abbrev pub index_of : List (List ℕ) → List ℕ → Option ℕ
index_of [] w = None
index_of (v ∷ vs) w = cond (bytes_eq w v) (Some 0) (option_map suc (index_of vs w))

abbrev pub operand_of : Operand → List ℕ → Option ℕ
operand_of a_number w = number_of w
operand_of a_strength w = index_of strength_words w
operand_of a_fabric w = index_of fabric_words w

abbrev pub not_an : Operand → FaultKind
not_an a_number = NotANumber
not_an o = UnknownWord

abbrev pub known : FaultKind → ℕ → Option ℕ → Result ℕ Fault
known kind place (Some v) = Ok v
known kind place None = Err (fault kind place)

-- the operand after the word that ends at place a: past one space
abbrev pub operand_at : Operand → List ℕ → ℕ → Result ℕ Fault
operand_at o s a = followed_by (wanted s a) (λ _. followed_by (wanted s (a + 1)) (λ _. known (not_an o) (a + 1) (operand_of o (word_at s (a + 1)))))

abbrev pub operand_end : List ℕ → ℕ → ℕ
operand_end s a = word_end s (a + 1)

-- the operands after the word that ends at place a, up to the end of the line
abbrev pub operands_at : List Operand → List ℕ → ℕ → Result (List ℕ) Fault
operands_at [] s a = followed_by (line_ends s a) (λ _. Ok [])
operands_at (o ∷ os) s a = followed_by (operand_at o s a) (λ v. followed_by (operands_at os s (operand_end s a)) (λ vs. Ok (v ∷ vs)))

-- where the next line begins
abbrev pub operands_end : List Operand → List ℕ → ℕ → ℕ
operands_end [] s a = a + 1
operands_end (o ∷ os) s a = operands_end os s (operand_end s a)

-- the operands of each call
abbrev pub op_operands : Op → List Operand
op_operands Load = a_number ∷ a_number ∷ a_strength ∷ []
op_operands Store = a_number ∷ a_number ∷ a_strength ∷ a_number ∷ []
op_operands Fence = a_number ∷ a_strength ∷ []
op_operands Evict = a_number ∷ a_number ∷ []
op_operands Up = a_number ∷ []
op_operands Down = a_number ∷ []

abbrev pub call_of : Op → List ℕ → Call
call_of Load vs = call.Load (slice_index vs 0) (slice_index vs 1) (slice_index vs 2)
call_of Store vs = call.Store (slice_index vs 0) (slice_index vs 1) (slice_index vs 2) (slice_index vs 3)
call_of Fence vs = call.Fence (slice_index vs 0) (slice_index vs 1)
call_of Evict vs = call.Evict (slice_index vs 0) (slice_index vs 1)
call_of Up vs = call.Up (slice_index vs 0)
call_of Down vs = call.Down (slice_index vs 0)

abbrev pub op_of : List ℕ → Option Op
op_of w =
    cond (bytes_eq w (op_word Load)) (Some Load)
    (cond (bytes_eq w (op_word Store)) (Some Store)
    (cond (bytes_eq w (op_word Fence)) (Some Fence)
    (cond (bytes_eq w (op_word Evict)) (Some Evict)
    (cond (bytes_eq w (op_word Up)) (Some Up)
    (cond (bytes_eq w (op_word Down)) (Some Down) None)))))

-- the call whose first word, at place a, names op
abbrev pub call_at : List ℕ → ℕ → Option Op → Result Entry Fault
call_at s a (Some op) = followed_by (operands_at (op_operands op) s (word_end s a)) (λ vs. Ok (a_call (call_of op vs)))
call_at s a None = Err (fault UnknownWord a)

-- the rest of the line from place a on, and where it ends
abbrev pub line_at : List ℕ → ℕ → List ℕ
line_at s a = take (line_length (drop a s)) (drop a s)

abbrev pub line_end : List ℕ → ℕ → ℕ
line_end s a = a + line_length (drop a s)

-- the note that begins at place a
abbrev pub note_at : List ℕ → ℕ → Result Entry Fault
note_at s a = followed_by (line_ends s (line_end s a)) (λ _. Ok (a_note (line_at s a)))

-- the entry of the line that begins at place a
abbrev pub entry_at : List ℕ → ℕ → Result Entry Fault
entry_at s a = followed_by (wanted s a) (λ _. cond (slice_index s a == hash) (note_at s a) (call_at s a (op_of (word_at s a))))

-- the entry at place a, or none at the end of the sheet
abbrev pub next_at : List ℕ → ℕ → Result (Option Entry) Fault
next_at s a = cond (nat_le (length s) a) (Ok None) (followed_by (entry_at s a) (λ e. Ok (Some e)))

-- an entry and those after it
abbrev pub and_then : Option Entry → Result (List Entry) Fault → Result (List Entry) Fault
and_then None rest = Ok []
and_then (Some e) rest = followed_by rest (λ es. Ok (e ∷ es))

-- the entries of the lines from place a on, at most k of them
abbrev pub entries_from : ℕ → List ℕ → ℕ → Result (List Entry) Fault
entries_from zero s a = Ok []
entries_from (suc k) s a = followed_by (next_at s a) (λ next. and_then next (entries_from k s (line_end s a + 1)))

-- the board that the values of its operands make
abbrev pub fabric_named : ℕ → FabricName
fabric_named k = cond (k == 0) Ring (cond (k == 1) Frames Staged)

abbrev pub board_operands : List Operand
board_operands = a_number ∷ a_number ∷ a_fabric ∷ []

abbrev pub board_of : List ℕ → Board
board_of vs = record { shims = slice_index vs 0; lines = slice_index vs 1; fabric = fabric_named (slice_index vs 2) }

-- the board line, which begins at place a; where nothing stands there it is missing
abbrev pub board_line_at : List ℕ → ℕ → Result Board Fault
board_line_at s a = followed_by (keyword_at board_word s a) (λ _. followed_by (operands_at board_operands s (word_end s a)) (λ vs. Ok (board_of vs)))

abbrev pub board_at : List ℕ → ℕ → Result Board Fault
board_at s a = cond (nat_le (length s) a) (Err (fault WordCount (length s))) (board_line_at s a)

-- the board of a sheet: its size and its header are looked at first
abbrev pub opened : List ℕ → Result Board Fault
opened s =
    cond (nat_lt size_limit (length s)) (Err (fault TooLong size_limit))
    (cond (bytes_eq (take (length header) s) header) (board_at s (length header)) (Err (fault Header 0)))

abbrev pub board_end : List ℕ → ℕ
board_end s = line_end s (length header) + 1

-- what a sheet is read as: a fault, a board of a wrong size, or a board and its entries
pub data Reading : Type 0 where
  faulty : Fault → Reading
  wrong_board : Reading
  holds : Board → List Entry → Reading

abbrev pub entries_of : Board → Result (List Entry) Fault → Reading
entries_of b (Ok es) = holds b es
entries_of b (Err f) = faulty f

abbrev pub with_board : List ℕ → Result Board Fault → Reading
with_board s (Err f) = faulty f
with_board s (Ok b) = cond (is_size b.shims b.lines) (entries_of b (entries_from (length s) s (board_end s))) wrong_board

-- a line has one byte at least, so that a sheet has no more lines than bytes
abbrev pub reading : List ℕ → Reading
reading s = with_board s (opened s)
