-- A text cut into pieces of sixteen octets.
use Rattle.std.specs.Prelude.{ℕ, ◌+◌, ◌/◌, List, [], ◌∷◌, ◌++◌, length}
use Rattle.std.specs.Simd.{first_chunks}

-- The first n pieces.
abbrev pub cut : ℕ → List ℕ → List (List ℕ)
cut n x = first_chunks 16 n x

-- All of them: each of sixteen octets, but that the last may be shorter. Nothing has no piece.
abbrev pub pieces : List ℕ → List (List ℕ)
pieces x = cut ((length x + 15) / 16) x

-- The pieces put together again.
abbrev pub glue : List (List ℕ) → List ℕ
glue [] = []
glue (p ∷ ps) = p ++ glue ps
