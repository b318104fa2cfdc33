-- What functions that put bytes at a place of what they are lent say of it.
use Rattle.std.specs.Prelude.{◌≡◌, List, ℕ, ◌+◌, length}
use Rattle.std.proofs.lemmas.List.Edits.{sets}

-- a run of stores at a place: the bytes before and after, and the place after it
pub record Put (at : ℕ) (part before : List ℕ) (next : ℕ) (after : List ℕ) : Type 0 where
  pub place : next ≡ at + length part
  pub bytes : after ≡ sets before at part
