-- Octets and numbers at places of a text.
use Rattle.std.specs.Prelude.{ℕ, ◌+◌, List, ◌++◌, length, take, drop}
use Rattle.blocks.specs.Fields.{number}

-- The number that stands at a place, over a width.
abbrev pub number_at : ℕ → ℕ → List ℕ → ℕ
number_at at w x = number (take w (drop at x))

-- A text with x put over it from a place on.
abbrev pub overlaid : ℕ → List ℕ → List ℕ → List ℕ
overlaid at x old = take at old ++ (x ++ drop (at + length x) old)
