-- The compression of 64 octets by the BelT block, the text serving as its own key.
use Rattle.std.specs.Prelude.{ℕ, List, ◌++◌, take, drop, replicate}
use Rattle.blocks.specs.Octets.{xor_each}
use Rattle.belt.specs.Cipher.{encrypt}
use Rattle.belt.specs.Keys.{key_words}

-- Sixteen octets of a text from a place on.
abbrev pub sixteen_at : ℕ → List ℕ → List ℕ
sixteen_at j u = take 16 (drop j u)

-- The block's image of p under a key of 32 octets, mixed with p again.
unfoldable pub fed : List ℕ → List ℕ → List ℕ
fed key p = xor_each (encrypt (key_words key) p) p

-- σ₁: the first half is the key of a step on the mix of the other two sixteens.
unfoldable pub σ₁ : List ℕ → List ℕ
σ₁ u = fed (take 32 u) (xor_each (sixteen_at 32 u) (sixteen_at 48 u))

-- σ₂: a step on each sixteen of the first half; the keys are σ₁ and the last sixteen, and σ₁ with every bit turned and the last but one.
unfoldable pub σ₂ : List ℕ → List ℕ
σ₂ u =
    fed (σ₁ u ++ sixteen_at 48 u) (sixteen_at 0 u)
    ++ fed (xor_each (σ₁ u) (replicate 16 255) ++ sixteen_at 32 u) (sixteen_at 16 u)
