-- The eight rounds of a way, written out.
use Rattle.std.proofs.Common.{◌≡◌, ℕ, ◌+◌, List, length, slice_index, fold, ap}
use Rattle.blocks.proofs.Numbers.{listed}
use Rattle.belt.specs.Cipher.{loaded, stored}
use Rattle.belt.specs.declared.cipher.Quad.{Quad}

pub eight : (image x order : List ℕ) (round : ℕ → Quad → Quad) (swaps : Quad → Quad)
    → image ≡ stored (swaps (fold (λ s i. round (i + 1) s) (loaded x) order))
    → (rounds : List ℕ) → rounds ≡ order → length rounds ≡ 8
    → (r : List ℕ) (s₀ s₁ s₂ s₃ s₄ s₅ s₆ s₇ s₈ t : Quad) → s₀ ≡ loaded x
    → s₁ ≡ round (slice_index rounds 0 + 1) s₀ → s₂ ≡ round (slice_index rounds 1 + 1) s₁
    → s₃ ≡ round (slice_index rounds 2 + 1) s₂ → s₄ ≡ round (slice_index rounds 3 + 1) s₃
    → s₅ ≡ round (slice_index rounds 4 + 1) s₄ → s₆ ≡ round (slice_index rounds 5 + 1) s₅
    → s₇ ≡ round (slice_index rounds 6 + 1) s₆ → s₈ ≡ round (slice_index rounds 7 + 1) s₇
    → t ≡ swaps s₈ → r ≡ stored t → r ≡ image
eight image x order round swaps whole rounds same long r s₀ s₁ s₂ s₃ s₄ s₅ s₆ s₇ s₈ t e₀ e₁ e₂ e₃ e₄ e₅ e₆ e₇ e₈ et er =
    let out = ap (fold (λ s i. round (i + 1) s) s₀) (listed 8 rounds long) in
    cc
