use Rattle.std.proofs.Common.{◌≡◌, ℕ, ◌+◌, List, [], ◌++◌, take, IfSome, Some, None, Option, ap, ◌∙◌, subst, arith}
use Rattle.std.specs.Option.{option_map}
use Rattle.std.proofs.lemmas.List.{take-take}
use Rattle.sheet.specs.Format.{size_limit}
use Rattle.sheet.proofs.input.read_sheet.Goals as goal

module _ (n : ℕ) (text cut : List ℕ) (cuts : cut ≡ take n text) where
  -- what is read up to a limit, and then cut there
  cut_at : (limit : ℕ) (known : Option (List ℕ)) (before : List ℕ) → limit ≡ n → before ≡ [] → IfSome (option_map (take limit) known) (λ bytes. text ≡ before ++ bytes) → IfSome known (λ bytes. cut ≡ take n bytes)
  cut_at limit (Some bytes) before here none read = cuts ∙ ap (take n) read ∙ rw (here, none) (take-take n n bytes (omega arith))
  cut_at limit None before here none read = tt

pub returns-clause-bytes : goal.returns-clause-bytes
returns-clause-bytes g c =
    subst (λ known. IfSome known (λ bytes. c.truncate.new.self.items ≡ take (size_limit + 1) bytes)) (ap g.R.Read.remaining c.take.ensures.inner)
    (cut_at (size_limit + 1) _ _ c.truncate.ensures.items _ _ _ c.take.ensures.limit c.new-text.ensures.items c.in_ok-read_to_end.ensures.bytes)
