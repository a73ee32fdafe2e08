-- The checksum a piece at a time.
use Rattle.std.proofs.Common.{◌≡◌, ℕ, ◌+◌, ◌-◌, ◌<◌, ◌≤◌, List, length, take, drop, sym, ap, ◌∙◌, ap₂, arith}
use Rattle.std.proofs.lemmas.List.{length-drop, drop-drop, drop_all, take_all}
use Rattle.blocks.specs.Octets.{xor_each}
use Rattle.modes.specs.Pieces.{pieces}
use Rattle.modes.specs.Checksum.{closed, absorbed}
use Rattle.modes.proofs.Pieces.{pieces_more}

module _ (f : List ℕ → List ℕ) (r s : List ℕ) where
  -- another piece follows
  pub absorbed-more : (x p t : List ℕ) (at : ℕ) → 16 < length x - at → p ≡ take 16 (drop at x) → t ≡ f (xor_each s p)
      → absorbed f r s (take 16 (drop at x)) (pieces (drop 16 (drop at x)))
      ≡ absorbed f r t (take 16 (drop (at + 16) x)) (pieces (drop 16 (drop (at + 16) x)))
  absorbed-more x p t at l e is =
      ap (λ z. absorbed f r s (take 16 (drop at x)) (pieces z)) (drop-drop 16 at x)
      ∙ ap (absorbed f r s (take 16 (drop at x))) (pieces_more (drop (at + 16) x) (omega (arith, length-drop (at + 16) x)))
      ∙ ap (λ z. absorbed f r z (take 16 (drop (at + 16) x)) (pieces (drop 16 (drop (at + 16) x)))) (ap (λ z. f (xor_each s z)) (sym e) ∙ sym is)

  -- the last piece
  pub absorbed-last : (x : List ℕ) → length x ≤ 16 → absorbed f r s (take 16 x) (pieces (drop 16 x)) ≡ closed r s x
  absorbed-last x l = ap₂ (λ a b. absorbed f r s a (pieces b)) (take_all 16 x l) (drop_all 16 x l)
