-- What a sheet prints, item by item, and the bytes of each item.
use Rattle.std.specs.Prelude.{ℕ, List, [], ◌∷◌, ◌++◌, Ok, Err, codes, decimal, Result}
use Rattle.words.specs.Lengths.{space, line_feed}
use Rattle.rules.specs.Words.{answer_bytes, refusal_bytes}
use Rattle.rules.specs.declared.answer.Answer.{Answer}
use Rattle.rules.specs.declared.refusal.Refusal.{Refusal}
use Rattle.verdict.specs.Verdicts.{verdict_bytes}
use Rattle.verdict.specs.declared.verdict.Flaw.{Flaw}

-- the answer to a call, with its step; a note; what is wrong with the sheet
pub data Item : Type 0 where
  an_answer : ℕ → Result Answer Refusal → Item
  a_note : List ℕ → Item
  a_flaw : Flaw → Item

-- after `no` stand the refusal's number and what it carries
abbrev pub outcome_bytes : Result Answer Refusal → List ℕ
outcome_bytes (Ok a) = answer_bytes a
outcome_bytes (Err e) = codes "no " ++ refusal_bytes e

-- a whole line for each item
abbrev pub item_bytes : Item → List ℕ
item_bytes (an_answer step r) = decimal step ++ (space ∷ (outcome_bytes r ++ (line_feed ∷ [])))
item_bytes (a_note text) = text ++ (line_feed ∷ [])
item_bytes (a_flaw f) = verdict_bytes (Err f)
