-- A well-formed sheet is read as what it was written from.
use Rattle.std.proofs.Common.{◌≡◌, ℕ, zero, suc, ◌+◌, ◌<◌, ◌≤◌, Bool, true, false, cond, eqb, List, [], ◌∷◌, ◌++◌, length, get_or, take, drop, decimal, Some, None, Ok, Err, Result, sym, refl, ap, ◌∙◌, append_assoc, arith, length-append, length-drop}
use Rattle.std.proofs.lemmas.List.{take_at}
use Rattle.std.proofs.lemmas.Bool.{or_parts, le-leb, lt-leb, le-ltb}
use Rattle.std.specs.List.{flat_map, AllByRecursion}
use Rattle.std.specs.Str.{bytes_eq}
use Rattle.rules.specs.declared.call.Call.TheVariants as call
use Rattle.words.specs.declared.fault.Fault.{Fault}
use Rattle.words.specs.declared.fault.FaultKind.TheVariants.{Header, UnknownWord, WordCount, TooLong}
use Rattle.sheet.specs.declared.line.Board.{Board}
use Rattle.sheet.specs.declared.line.FabricName.{FabricName}
use Rattle.sheet.specs.declared.line.FabricName.TheVariants.{Ring, Frames, Staged}
use Rattle.sheet.specs.declared.op.Op.{Op}
use Rattle.sheet.specs.declared.op.Op.TheVariants.{Load, Store, Fence, Evict, Up, Down}
use Rattle.words.specs.Faults.{fault}
use Rattle.sheet.specs.Format.{header, size_limit, hash, fabric_word, word_of, board_word, after_word, words_line, Entry, a_call, a_note, entry_line, WellFormed, BoardFits, op_word}
use Rattle.sheet.specs.Reading.{followed_by, unless, wanted, word_at, word_end, Operand, operand_of, operand_at, operand_end, operands_at, known, not_an, op_operands, call_of, op_of, call_at, note_at, line_at, line_end, entry_at, and_then, entries_from, fabric_words, fabric_named, board_operands, board_of, board_line_at, board_at, board_end, opened, wrong_board, entries_of, with_board}
use Rattle.rules.specs.Sizes.{is_size}
use Rattle.verdict.specs.Laws.{ReadsBack}
use Rattle.sheet.proofs.Calls.{initial}
use Rattle.sheet.proofs.Ends.{followed_by_ok, wanted_within}
use Rattle.verdict.proofs.Places as places
use Rattle.verdict.proofs.Places.{Free, free_cons, free_parts, before_free}
use Rattle.verdict.proofs.Spelling.{spelled, spelled_all, Fits, spelled_back, spelled_free}
use Rattle.words.specs.Lengths.{space, line_feed, ends_word, ends_line, line_length}

-- what follows a word begins with a byte that ends it
abbrev first_after : List (List ℕ) → ℕ
first_after [] = line_feed
first_after (w ∷ ws) = space

abbrev rest_after : List (List ℕ) → List ℕ → List ℕ
rest_after [] t = t
rest_after (w ∷ ws) t = (w ++ after_word ws) ++ t

after_split : (ws : List (List ℕ)) (t : List ℕ) → after_word ws ++ t ≡ first_after ws ∷ rest_after ws t
after_split [] t = refl
after_split (w ∷ ws) t = refl

first_ends : (ws : List (List ℕ)) → ends_word (first_after ws) ≡ true
first_ends [] = refl
first_ends (w ∷ ws) = refl

-- a byte that ends no word is no line feed
no_feed : (b : ℕ) → ends_word b ≡ false → eqb b line_feed ≡ false
no_feed b h = (or_parts (eqb b space) (eqb b line_feed) h).1

-- a word at place a, with more words after it
module _ (s : List ℕ) (a : ℕ) (w : List ℕ) (ws : List (List ℕ)) (t : List ℕ) (some : 0 < length w) (free : Free ends_word w) (e : drop a s ≡ (w ++ after_word ws) ++ t) where
  begins : (wanted s a ≡ Ok tt) × (get_or s a 0 ≡ get_or w 0 0)
  begins = by_byte w some free (after_word ws ++ t) (e ∙ append_assoc w (after_word ws) t)
    where
      by_byte : (w : List ℕ) → 0 < length w → Free ends_word w → (u : List ℕ) → drop a s ≡ w ++ u → (wanted s a ≡ Ok tt) × (get_or s a 0 ≡ get_or w 0 0)
      by_byte [] some free u e = absurd (omega arith)
      by_byte (x ∷ xs) some free u e = (places.is_wanted s a x (xs ++ u) e (no_feed x (free_parts ends_word x xs free).0), places.byte_is s a x (xs ++ u) e)

  split : drop a s ≡ w ++ first_after ws ∷ rest_after ws t
  split = e ∙ append_assoc w (after_word ws) t ∙ ap (λ r. w ++ r) (after_split ws t)

  word_read : word_at s a ≡ w
  word_read = places.word_is s a w (first_after ws) (rest_after ws t) split free (first_ends ws)

  word_after : drop (word_end s a) s ≡ after_word ws ++ t
  word_after = places.after_word_is s a w (first_after ws) (rest_after ws t) split free (first_ends ws) ∙ sym (after_split ws t)

-- operands are read as their values
some_word : (o : Operand) (w : List ℕ) (v : ℕ) → operand_of o w ≡ Some v → 0 < length w
some_word o (x ∷ xs) v e = omega arith
some_word Operand.a_number [] v e = absurd cc
some_word o [] v e = absurd cc

operand_read : (o : Operand) (w : List ℕ) (v : ℕ) → operand_of o w ≡ Some v → Free ends_word w → (s : List ℕ) (a : ℕ) (ws : List (List ℕ)) (t : List ℕ) → drop a s ≡ after_word (w ∷ ws) ++ t
    → (operand_at o s a ≡ Ok v) × (drop (operand_end s a) s ≡ after_word ws ++ t)
operand_read o w v reads free s a ws t e =
    let some = some_word o w v reads in
    let next = places.drop_next s a space ((w ++ after_word ws) ++ t) e in (
      ap (λ (r : Result Unit Fault). followed_by r (λ _. followed_by (wanted s (a + 1)) (λ _. known (not_an o) (a + 1) (operand_of o (word_at s (a + 1)))))) (places.is_wanted s a space ((w ++ after_word ws) ++ t) e refl)
          ∙ ap (λ (r : Result Unit Fault). followed_by r (λ _. known (not_an o) (a + 1) (operand_of o (word_at s (a + 1))))) (begins s (a + 1) w ws t some free next).0
          ∙ ap (λ u. known (not_an o) (a + 1) (operand_of o u)) (word_read s (a + 1) w ws t some free next)
          ∙ ap (known (not_an o) (a + 1)) reads,
      word_after s (a + 1) w ws t some free next,
    )

operands_read : (os : List Operand) (vs s : List ℕ) (a : ℕ) (t : List ℕ) → Fits os vs → drop a s ≡ after_word (spelled_all os vs) ++ t → operands_at os s a ≡ Ok vs
operands_read [] [] s a t fits e = ap (λ (r : Result Unit Fault). followed_by r (λ _. Ok [])) (places.line_ends_here s a line_feed t e refl)
operands_read (o ∷ os) (v ∷ vs) s a t fits e =
    let one = operand_read o (spelled o v) v (spelled_back o v fits.0) (spelled_free o v fits.0) s a (spelled_all os vs) t e in
    ap (λ (r : Result ℕ Fault). followed_by r (λ u. followed_by (operands_at os s (operand_end s a)) (λ us. Ok (u ∷ us)))) one.0
    ∙ ap (λ (r : Result (List ℕ) Fault). followed_by r (λ us. Ok (v ∷ us))) (operands_read os vs s (operand_end s a) t fits.1 one.1)
operands_read os vs s a t fits e = absurd fits

-- how long a line of words is
free_line : (w : List ℕ) → Free ends_word w → Free ends_line w
free_line [] f = refl
free_line (b ∷ bs) f = let parts = free_parts ends_word b bs f in free_cons ends_line b bs (no_feed b parts.0) (free_line bs parts.1)

word_line_length : (w : List ℕ) (ws : List (List ℕ)) (t : List ℕ) → Free ends_word w → line_length ((w ++ after_word ws) ++ t) ≡ length w + line_length (after_word ws ++ t)
word_line_length w ws t free = ap line_length (append_assoc w (after_word ws) t) ∙ before_free ends_line w (after_word ws ++ t) (free_line w free)

after_length : (ws : List (List ℕ)) (t : List ℕ) → AllByRecursion (Free ends_word) ws → line_length (after_word ws ++ t) + 1 ≡ length (after_word ws)
after_length [] t free = refl
after_length (w ∷ ws) t free = omega (arith, word_line_length w ws t free.0, after_length ws t free.1, length-append w (after_word ws))

words_length : (w : List ℕ) (ws : List (List ℕ)) (t : List ℕ) → Free ends_word w → AllByRecursion (Free ends_word) ws → line_length (words_line (w ∷ ws) ++ t) + 1 ≡ length (words_line (w ∷ ws))
words_length w ws t free frees = omega (arith, word_line_length w ws t free, after_length ws t frees, length-append w (after_word ws))

all_free : (os : List Operand) (vs : List ℕ) → Fits os vs → AllByRecursion (Free ends_word) (spelled_all os vs)
all_free [] vs fits = tt
all_free (o ∷ os) [] fits = absurd fits
all_free (o ∷ os) (v ∷ vs) fits = (spelled_free o v fits.0, all_free os vs fits.1)

-- what is read of a line that is a word and operands of these values
record WordsRead (s : List ℕ) (a : ℕ) (w : List ℕ) (os : List Operand) (vs : List ℕ) : Type 0 where
  here : wanted s a ≡ Ok tt
  first : get_or s a 0 ≡ get_or w 0 0
  word : word_at s a ≡ w
  operands : operands_at os s (word_end s a) ≡ Ok vs
  ends : line_end s a + 1 ≡ a + length (words_line (w ∷ spelled_all os vs))

words_read : (s : List ℕ) (a : ℕ) (w : List ℕ) (os : List Operand) (vs t : List ℕ) → 0 < length w → Free ends_word w → Fits os vs → drop a s ≡ words_line (w ∷ spelled_all os vs) ++ t
    → WordsRead s a w os vs
words_read s a w os vs t some free fits e =
    let ws : List (List ℕ) = spelled_all os vs in
    record {
      here = (begins s a w ws t some free e).0;
      first = (begins s a w ws t some free e).1;
      word = word_read s a w ws t some free e;
      operands = operands_read os vs s (word_end s a) t fits (word_after s a w ws t some free e);
      ends = omega (arith, ap line_length e, words_length w ws t free (all_free os vs fits));
    }

-- what is to be known of a call's name
record Name (op : Op) : Type 0 where
  some : 0 < length (op_word op)
  free : Free ends_word (op_word op)
  no_note : eqb (initial op) hash ≡ false
  named : op_of (op_word op) ≡ Some op

name : (op : Op) → Name op
name Load = record { some = omega arith; free = refl; no_note = refl; named = refl }
name op = record { some = omega arith; free = refl; no_note = refl; named = refl }

-- the entry at place a, and where its line ends
abbrev EntryAt : List ℕ → ℕ → Entry → List ℕ → Type 0
EntryAt s a e line = (entry_at s a ≡ Ok e) × (line_end s a + 1 ≡ a + length line)

call_read : (op : Op) (vs s : List ℕ) (a : ℕ) (t : List ℕ) → Fits (op_operands op) vs → drop a s ≡ words_line (op_word op ∷ spelled_all (op_operands op) vs) ++ t
    → EntryAt s a (a_call (call_of op vs)) (words_line (op_word op ∷ spelled_all (op_operands op) vs))
call_read op vs s a t fits e =
    let n = name op in
    let r = words_read s a (op_word op) (op_operands op) vs t n.some n.free fits e in (
      ap (λ (h : Result Unit Fault). followed_by h (λ _. cond (eqb (get_or s a 0) hash) (note_at s a) (call_at s a (op_of (word_at s a))))) r.here
          ∙ ap (λ (b : Bool). cond b (note_at s a) (call_at s a (op_of (word_at s a)))) (ap (λ b. eqb b hash) r.first ∙ n.no_note)
          ∙ ap (call_at s a) (ap op_of r.word ∙ n.named)
          ∙ ap (λ (q : Result (List ℕ) Fault). followed_by q (λ us. Ok (a_call (call_of op us)))) r.operands,
      r.ends,
    )

-- notes
module _ (s : List ℕ) (a : ℕ) (b : ℕ) (bs t : List ℕ) (mark : b ≡ hash) (free : Free ends_line (b ∷ bs)) (e : drop a s ≡ (b ∷ bs) ++ line_feed ∷ t) where
  note_length : line_length (drop a s) ≡ length (b ∷ bs)
  note_length = ap line_length e ∙ before_free ends_line (b ∷ bs) (line_feed ∷ t) free ∙ omega arith

  note_text : line_at s a ≡ b ∷ bs
  note_text = ap (λ n. take n (drop a s)) note_length ∙ ap (take (length (b ∷ bs))) e ∙ take_at (b ∷ bs) (line_feed ∷ t) (length (b ∷ bs)) refl

  note_end : drop (line_end s a) s ≡ line_feed ∷ t
  note_end = ap (λ n. drop (a + n) s) note_length ∙ places.drop_more s (b ∷ bs) (line_feed ∷ t) a e

  note_read : entry_at s a ≡ Ok (a_note (b ∷ bs))
  note_read =
      ap (λ (r : Result Unit Fault). followed_by r (λ _. cond (eqb (get_or s a 0) hash) (note_at s a) (call_at s a (op_of (word_at s a))))) (places.is_wanted s a b (bs ++ line_feed ∷ t) e (free_parts ends_line b bs free).0)
      ∙ ap (λ x. cond (eqb x hash) (note_at s a) (call_at s a (op_of (word_at s a)))) (places.byte_is s a b (bs ++ line_feed ∷ t) e ∙ mark)
      ∙ ap (λ (r : Result Unit Fault). followed_by r (λ _. Ok (a_note (line_at s a)))) (places.line_ends_here s (line_end s a) line_feed t note_end refl)
      ∙ ap (λ u. Ok (a_note u)) note_text

entry_read : (e : Entry) (s : List ℕ) (a : ℕ) (t : List ℕ) → WellFormed e → drop a s ≡ entry_line e ++ t → EntryAt s a e (entry_line e)
entry_read (a_call (call.Load shim line k)) s a t (x, y, z) e = call_read Load (shim ∷ line ∷ k ∷ []) s a t (x, (y, (z, tt))) e
entry_read (a_call (call.Store shim line k value)) s a t (x, y, z, v) e = call_read Store (shim ∷ line ∷ k ∷ value ∷ []) s a t (x, (y, (z, (v, tt)))) e
entry_read (a_call (call.Fence shim k)) s a t (x, y) e = call_read Fence (shim ∷ k ∷ []) s a t (x, (y, tt)) e
entry_read (a_call (call.Evict shim line)) s a t (x, y) e = call_read Evict (shim ∷ line ∷ []) s a t (x, (y, tt)) e
entry_read (a_call (call.Up shim)) s a t x e = call_read Up (shim ∷ []) s a t (x, tt) e
entry_read (a_call (call.Down shim)) s a t x e = call_read Down (shim ∷ []) s a t (x, tt) e
entry_read (a_note []) s a t (mark, long) e = absurd (omega arith)
entry_read (a_note (b ∷ bs)) s a t (mark, long) e =
    let split : drop a s ≡ (b ∷ bs) ++ line_feed ∷ t = e ∙ append_assoc (b ∷ bs) (line_feed ∷ []) t in
    (note_read s a b bs t mark long split, omega (arith, note_length s a b bs t mark long split, length-append (b ∷ bs) (line_feed ∷ [])))

-- the entries of a sheet, with lines enough
module _ (s : List ℕ) (a : ℕ) where
  none_left : (k : ℕ) → length s ≤ a → entries_from k s a ≡ Ok []
  none_left zero h = refl
  none_left (suc k) h = ap (λ (b : Bool). followed_by (cond b (Ok None) (followed_by (entry_at s a) (λ e. Ok (Some e)))) (λ next. and_then next (entries_from k s (line_end s a + 1)))) (le-leb (length s) a h)

  one_more : (k : ℕ) (e : Entry) (es : List Entry) → a < length s → entry_at s a ≡ Ok e → entries_from k s (line_end s a + 1) ≡ Ok es → entries_from (suc k) s a ≡ Ok (e ∷ es)
  one_more k e es h reads rest =
      ap (λ (b : Bool). followed_by (cond b (Ok None) (followed_by (entry_at s a) (λ x. Ok (Some x)))) (λ next. and_then next (entries_from k s (line_end s a + 1)))) (lt-leb (length s) a h)
      ∙ ap (λ (r : Result Entry Fault). followed_by (followed_by r (λ x. Ok (Some x))) (λ next. and_then next (entries_from k s (line_end s a + 1)))) reads
      ∙ ap (λ (r : Result (List Entry) Fault). followed_by r (λ xs. Ok (e ∷ xs))) rest

entries_read : (es : List Entry) (k : ℕ) (s : List ℕ) (a : ℕ) → AllByRecursion WellFormed es → length s ≤ k + a → drop a s ≡ flat_map entry_line es → entries_from k s a ≡ Ok es
entries_read [] k s a well enough d = none_left s a k (omega (arith, ap length d, length-drop a s))
entries_read (e ∷ es) zero s a well enough d =
    let one = entry_read e s a (flat_map entry_line es) well.0 d in
    absurd (omega (arith, wanted_within s a (followed_by_ok (wanted s a) _ e one.0).1))
entries_read (e ∷ es) (suc k) s a well enough d =
    let one = entry_read e s a (flat_map entry_line es) well.0 d in
    let here = (wanted_within s a (followed_by_ok (wanted s a) _ e one.0).1).0 in
    one_more s a k e es here one.0
    (entries_read es k s (line_end s a + 1) well.1 (omega arith) (ap (λ n. drop n s) one.1 ∙ places.drop_more s (entry_line e) (flat_map entry_line es) a d))

-- the board line
abbrev fabric_number : FabricName → ℕ
fabric_number Ring = 0
fabric_number Frames = 1
fabric_number Staged = 2

abbrev values : Board → List ℕ
values b = b.shims ∷ b.lines ∷ fabric_number b.fabric ∷ []

fabric_spelled : (f : FabricName) → fabric_word f ≡ word_of fabric_words (fabric_number f)
fabric_spelled Ring = refl
fabric_spelled f = refl

fabric_fits : (f : FabricName) → fabric_number f < length fabric_words
fabric_fits Ring = omega arith
fabric_fits f = omega arith

fabric_back : (f : FabricName) → fabric_named (fabric_number f) ≡ f
fabric_back Ring = refl
fabric_back f = refl

board_words_read : (s : List ℕ) (a : ℕ) (b : Board) (t : List ℕ) → BoardFits b → drop a s ≡ words_line (board_word ∷ spelled_all board_operands (values b)) ++ t
    → WordsRead s a board_word board_operands (values b)
board_words_read s a b t fit e = words_read s a board_word board_operands (values b) t (omega arith) refl (fit.0, (fit.1, (fabric_fits b.fabric, tt))) e

board_read : (s : List ℕ) (a : ℕ) (b : Board) → WordsRead s a board_word board_operands (values b) → board_at s a ≡ Ok b
board_read s a b r =
    ap (λ (u : Bool). cond u (Err (fault WordCount (length s))) (board_line_at s a)) (lt-leb (length s) a (wanted_within s a r.here).0)
    ∙ ap (λ (h : Result Unit Fault). followed_by (followed_by h (λ _. unless (bytes_eq (word_at s a) board_word) (fault UnknownWord a))) (λ _. followed_by (operands_at board_operands s (word_end s a)) (λ vs. Ok (board_of vs)))) r.here
    ∙ ap (λ w. followed_by (unless (bytes_eq w board_word) (fault UnknownWord a)) (λ _. followed_by (operands_at board_operands s (word_end s a)) (λ vs. Ok (board_of vs)))) r.word
    ∙ ap (λ (q : Result (List ℕ) Fault). followed_by q (λ vs. Ok (board_of vs))) r.operands
    ∙ ap (λ (f : FabricName). Ok (record { shims = b.shims; lines = b.lines; fabric = f })) (fabric_back b.fabric)

pub reads_back : (s : List ℕ) → ReadsBack s
reads_back s b es w small =
    let rest : List ℕ = flat_map entry_line es in
    let words : List ℕ = words_line (board_word ∷ spelled_all board_operands (values b)) in
    let line : drop (length header) s ≡ words ++ flat_map entry_line es =
    ap (drop (length header)) w.bytes ∙ ap (λ f. words_line (board_word ∷ decimal b.shims ∷ decimal b.lines ∷ f ∷ []) ++ flat_map entry_line es) (fabric_spelled b.fabric) in
    let r = board_words_read s (length header) b (flat_map entry_line es) w.board line in
    let board : opened s ≡ Ok b =
    ap (λ (u : Bool). cond u (Err (fault TooLong size_limit)) (cond (bytes_eq (take (length header) s) header) (board_at s (length header)) (Err (fault Header 0)))) (le-ltb size_limit (length s) small)
    ∙ ap (λ u. cond (bytes_eq (take (length header) u) header) (board_at s (length header)) (Err (fault Header 0))) w.bytes
    ∙ board_read s (length header) b r in
    let entries : entries_from (length s) s (board_end s) ≡ Ok es =
    entries_read es (length s) s (board_end s) w.entries (omega arith)
    (ap (λ n. drop n s) r.ends ∙ places.drop_more s words (flat_map entry_line es) (length header) line) in
    ap (with_board s) board ∙ ap (λ (r : Result (List Entry) Fault). cond (is_size b.shims b.lines) (entries_of b r) wrong_board) entries
