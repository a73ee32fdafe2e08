-- Numbers in octets, the least octet first, over any width.
use Rattle.std.specs.Prelude.{◌≡◌, ℕ, zero, suc, ◌+◌, ◌*◌, ◌/◌, ◌%◌, ◌^◌, ◌<◌, List, [], ◌∷◌, length}
use Rattle.blocks.specs.Octets.{Octets}

-- The octets that write a number, so many of them; what does not fit is lost.
abbrev pub field : ℕ → ℕ → List ℕ
field zero n = []
field (suc w) n = (n % 256) ∷ field w (n / 256)

-- The number that octets write.
abbrev pub number : List ℕ → ℕ
number [] = 0
number (b ∷ bs) = b + 256 * number bs

-- At every width the two undo each other: a number that fits is read back, and octets are written back.
abbrev pub FieldsUndo : Type 0
FieldsUndo =
    ((w n : ℕ) → n < 256 ^ w → number (field w n) ≡ n)
    × ((bs : List ℕ) → Octets bs → field (length bs) (number bs) ≡ bs)
