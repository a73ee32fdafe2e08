-- Under every key the block backward undoes the block forward, and forward undoes backward.
use Rattle.std.specs.Prelude.{◌≡◌, ℕ, List}
use Rattle.blocks.specs.Octets.{Sixteen}
use Rattle.belt.specs.Cipher.{encrypt, decrypt}

abbrev pub Inverse : Type 0
Inverse =
    ((key x : List ℕ) → Sixteen x → decrypt key (encrypt key x) ≡ x)
    × ((key x : List ℕ) → Sixteen x → encrypt key (decrypt key x) ≡ x)
