-- What a well-formed sheet is: its header, its lines, and the words of each line as bytes.
use Rattle.std.specs.Prelude.{◌≡◌, ℕ, ◌<◌, ◌≤◌, List, [], ◌∷◌, ◌++◌, length, codes, decimal, slice_index, slice_index_or}
use Rattle.std.specs.List.{flat_map}
use Rattle.rules.specs.declared.call.Call.{Call}
use Rattle.rules.specs.declared.call.Call.TheVariants as call
use Rattle.sheet.specs.declared.line.Board.{Board}
use Rattle.sheet.specs.declared.line.FabricName.{FabricName}
use Rattle.sheet.specs.declared.line.FabricName.TheVariants.{Ring, Frames, Staged}
use Rattle.sheet.specs.declared.op.Op.{Op}
use Rattle.sheet.specs.declared.op.Op.TheVariants.{Load, Store, Fence, Evict, Up, Down}
use Rattle.words.specs.Lengths.{space, line_feed, line_length}
use Rattle.words.specs.Numbers.{largest}

abbrev pub header : List ℕ
header = codes "MGL 1" ++ line_feed ∷ []

-- the most bytes that a sheet may have
abbrev pub size_limit : ℕ
size_limit = 65536

-- the byte that a note begins with
abbrev pub hash : ℕ
hash = 35

-- the words of the strengths, in the order of their numbers
abbrev pub strength_words : List (List ℕ)
strength_words = codes "RLX" ∷ codes "ACQ" ∷ codes "REL" ∷ codes "SC" ∷ []

-- the word of a list that has this number
abbrev pub word_of : List (List ℕ) → ℕ → List ℕ
word_of ws k = slice_index_or ws k []

-- the word of each fabric
abbrev pub fabric_word : FabricName → List ℕ
fabric_word Ring = codes "ring"
fabric_word Frames = codes "frames"
fabric_word Staged = codes "staged"

-- the word that each call begins with
abbrev pub op_word : Op → List ℕ
op_word Load = codes "load"
op_word Store = codes "store"
op_word Fence = codes "fence"
op_word Evict = codes "evict"
op_word Up = codes "up"
op_word Down = codes "down"

-- the words of a call
abbrev pub call_words : Call → List (List ℕ)
call_words (call.Load shim line k) = op_word Load ∷ decimal shim ∷ decimal line ∷ word_of strength_words k ∷ []
call_words (call.Store shim line k value) = op_word Store ∷ decimal shim ∷ decimal line ∷ word_of strength_words k ∷ decimal value ∷ []
call_words (call.Fence shim k) = op_word Fence ∷ decimal shim ∷ word_of strength_words k ∷ []
call_words (call.Evict shim line) = op_word Evict ∷ decimal shim ∷ decimal line ∷ []
call_words (call.Up shim) = op_word Up ∷ decimal shim ∷ []
call_words (call.Down shim) = op_word Down ∷ decimal shim ∷ []

-- the words of the board line
abbrev pub board_word : List ℕ
board_word = codes "board"

abbrev pub board_words : Board → List (List ℕ)
board_words b = board_word ∷ decimal b.shims ∷ decimal b.lines ∷ fabric_word b.fabric ∷ []

-- words parted by one space, with a line feed after the last: what follows a word, and a whole line
abbrev pub after_word : List (List ℕ) → List ℕ
after_word [] = line_feed ∷ []
after_word (w ∷ ws) = space ∷ (w ++ after_word ws)

abbrev pub words_line : List (List ℕ) → List ℕ
words_line [] = line_feed ∷ []
words_line (w ∷ ws) = w ++ after_word ws

-- a line after the board line
pub data Entry : Type 0 where
  a_call : Call → Entry
  a_note : List ℕ → Entry

abbrev pub entry_line : Entry → List ℕ
entry_line (a_call c) = words_line (call_words c)
entry_line (a_note text) = text ++ line_feed ∷ []

-- a whole sheet
abbrev pub sheet_of : Board → List Entry → List ℕ
sheet_of b es = header ++ (words_line (board_words b) ++ flat_map entry_line es)

-- an entry is well formed where its numbers can be written, and a note begins with # and has no line feed
abbrev pub WellFormed : Entry → Type 0
WellFormed (a_call (call.Load shim line k)) = (shim ≤ largest) × (line ≤ largest) × (k < length strength_words)
WellFormed (a_call (call.Store shim line k value)) = (shim ≤ largest) × (line ≤ largest) × (k < length strength_words) × (value ≤ largest)
WellFormed (a_call (call.Fence shim k)) = (shim ≤ largest) × (k < length strength_words)
WellFormed (a_call (call.Evict shim line)) = (shim ≤ largest) × (line ≤ largest)
WellFormed (a_call (call.Up shim)) = shim ≤ largest
WellFormed (a_call (call.Down shim)) = shim ≤ largest
WellFormed (a_note text) = (slice_index text 0 ≡ hash) × (line_length text ≡ length text)

abbrev pub BoardFits : Board → Type 0
BoardFits b = (b.shims ≤ largest) × (b.lines ≤ largest)
