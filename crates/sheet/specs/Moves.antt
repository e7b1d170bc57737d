-- How a reader moves.
use Rattle.std.specs.Prelude.{◌≡◌, ℕ}
use Rattle.sheet.specs.declared.reader.Reader.{Reader}

-- the reader has moved to this place of the same sheet
pub record MovedTo (before after : Reader) (place : ℕ) : Type 0 where
  pub sheet : after.sheet ≡ before.sheet
  pub at : after.at ≡ place
