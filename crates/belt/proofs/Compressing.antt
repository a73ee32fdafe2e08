-- The compression of 64 octets that come as 32 and 32.
use Rattle.std.proofs.Common.{◌≡◌, ℕ, ◌+◌, ◌≤◌, List, ◌++◌, length, take, drop, replicate, sym, ap, ◌∙◌, ap₂, arith}
use Rattle.std.proofs.lemmas.List.{take_at, drop_at, take-append-le, drop-append-le, length-drop, drop-drop}
use Rattle.blocks.specs.Octets.{xor_each}
use Rattle.belt.specs.Compression.{sixteen_at, fed, σ₁, σ₂}

module _ (x h : List ℕ) (long : length x ≡ 32) where
  -- sixteen octets of the first part, and of the second
  pub within : (j : ℕ) → j + 16 ≤ 32 → sixteen_at j (x ++ h) ≡ sixteen_at j x
  within j le =
      ap (take 16) (drop-append-le j x h (omega arith))
      ∙ take-append-le 16 (drop j x) h (omega (arith, length-drop j x))

  pub past : (j : ℕ) → sixteen_at (32 + j) (x ++ h) ≡ sixteen_at j h
  past j = ap (take 16) (sym (drop-drop j 32 (x ++ h)) ∙ ap (drop j) (drop_at x h 32 long))

  pub σ₁-halves : σ₁ (x ++ h) ≡ fed x (xor_each (sixteen_at 0 h) (sixteen_at 16 h))
  unfolding σ₁
  σ₁-halves = ap₂ fed (take_at x h 32 long) (ap₂ xor_each (past 0) (past 16))

  pub σ₂-halves : σ₂ (x ++ h) ≡ fed (σ₁ (x ++ h) ++ sixteen_at 16 h) (sixteen_at 0 x) ++ fed (xor_each (σ₁ (x ++ h)) (replicate 16 255) ++ sixteen_at 0 h) (sixteen_at 16 x)
  unfolding σ₂
  σ₂-halves =
      ap₂ ◌++◌ (ap₂ (λ a b. fed (σ₁ (x ++ h) ++ a) b) (past 16) (within 0 (omega arith)))
      (ap₂ (λ a b. fed (xor_each (σ₁ (x ++ h)) (replicate 16 255) ++ a) b) (past 0) (within 16 (omega arith)))
