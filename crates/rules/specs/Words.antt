-- The words of kinds, answers and refusals, byte by byte.
use Rattle.std.specs.Prelude.{ℕ, List, ◌++◌, map, codes, decimal}
use Rattle.std.specs.List.{join_with_byte}
use Rattle.rules.specs.Refusals.{refusal_told}
use Rattle.rules.specs.declared.answer.Answer.{Answer}
use Rattle.rules.specs.declared.answer.Answer.TheVariants.{Done, Waits, Value, Ended, Handled}
use Rattle.rules.specs.declared.kind.Kind.{Kind}
use Rattle.rules.specs.declared.kind.Kind.TheVariants.{Write, ReadRequest, ReadResponse, FenceRequest, FenceResponse, WriteAck, Drop}
use Rattle.rules.specs.declared.refusal.Refusal.{Refusal}

abbrev pub kind_word : Kind → List ℕ
kind_word Write = codes "WRITE"
kind_word ReadRequest = codes "RREQ"
kind_word ReadResponse = codes "RRESP"
kind_word FenceRequest = codes "FREQ"
kind_word FenceResponse = codes "FRESP"
kind_word WriteAck = codes "WRITE_ACK"
kind_word Drop = codes "DROP"

abbrev pub answer_word : Answer → List ℕ
answer_word Done = codes "done"
answer_word Waits = codes "waits"
answer_word (Value w) = codes "value"
answer_word Ended = codes "ended"
answer_word (Handled k) = kind_word k

-- what is told of each answer: its word, and then the word that a load gave
abbrev pub answer_bytes : Answer → List ℕ
answer_bytes (Value w) = answer_word (Value w) ++ (codes " " ++ decimal w)
answer_bytes a = answer_word a

-- what is told of a refusal, numbers parted by a space (32)
abbrev pub refusal_bytes : Refusal → List ℕ
refusal_bytes e = join_with_byte 32 (map decimal (refusal_told e))
