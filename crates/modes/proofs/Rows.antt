-- A row a piece at a time, as the machines take it.
use Rattle.std.proofs.Common.{◌≡◌, ℕ, ◌-◌, ◌<◌, ◌≤◌, ◌⊎◌, List, [], ◌∷◌, ◌++◌, length, take, drop, sym, refl, ap, ◌∙◌, ap₂, inr, ⊎_elim, arith}
use Rattle.std.proofs.lemmas.List.{append-nil, length-append, length-drop, length-take-le}
use Rattle.std.proofs.lemmas.Bool.{cond-true, cond-false, eq-eqb, ne_eqb}
use Rattle.modes.specs.Pieces.{pieces, glue}
use Rattle.modes.specs.Rows.{Stream, streamed, Steal, stolen, stealing}
use Rattle.modes.proofs.Pieces.{pieces_more, pieces-cons, pieces-one}

module _ (M : Steal) (kept p q : List ℕ) (qs : List (List ℕ)) where
  pub stolen-whole : length q ≡ 16 → stolen M kept p (q ∷ qs) ≡ M.turn kept p ∷ stolen M (M.next kept p) q qs
  stolen-whole e = cond-true _ _ _ (eq-eqb (length q) 16 e)

  pub stolen-short : length q < 16 → stolen M kept p (q ∷ qs) ≡ M.full kept p q ∷ M.last kept p q ∷ []
  stolen-short l = cond-false _ _ _ (ne_eqb (length q) 16 (λ e. omega arith))

-- A whole piece p is answered by r, and what follows goes on from `after`.
module _ (M : Steal) (kept p r after : List ℕ) (size : length p ≡ 16) (is : r ≡ M.turn kept p) (goes : after ≡ M.next kept p) where
  pub steal-turn : (x : List ℕ) → (x ≡ []) ⊎ (16 ≤ length x)
      → glue (stealing M kept (pieces (p ++ x))) ≡ r ++ glue (stealing M after (pieces x))
  steal-turn x h =
      ap (λ ps. glue (stealing M kept ps)) (pieces-cons p x size)
      ∙ ⊎_elim
      (λ (e : x ≡ []).
      ap (λ y. glue (stolen M kept p (pieces y))) e ∙ ap (λ a. a ++ []) (sym is)
      ∙ ap (λ y. r ++ glue (stealing M after (pieces y))) (sym e))
      (λ (l : 16 ≤ length x).
      let rest = pieces_more x (omega arith) in
      ap (λ ps. glue (stolen M kept p ps)) rest
      ∙ ap glue (stolen-whole M kept p (take 16 x) (pieces (drop 16 x)) (length-take-le 16 x l))
      ∙ ap₂ (λ a b. a ++ glue (stealing M b (take 16 x ∷ pieces (drop 16 x)))) (sym is) (sym goes)
      ∙ ap (λ ps. r ++ glue (stealing M after ps)) (sym rest))
      h

-- Two whole pieces.
pub steal-turn-two : (M : Steal) (kept p q a b after : List ℕ) → length p ≡ 16 → length q ≡ 16 → a ≡ M.turn kept p → b ≡ M.turn (M.next kept p) q
    → after ≡ M.next (M.next kept p) q → (x : List ℕ) → (x ≡ []) ⊎ (16 ≤ length x)
    → glue (stealing M kept (pieces (p ++ (q ++ x)))) ≡ a ++ (b ++ glue (stealing M after (pieces x)))
steal-turn-two M kept p q a b after sp sq a-is b-is goes x h =
    steal-turn M kept p a (M.next kept p) sp a-is refl (q ++ x) (inr (omega (arith, length-append q x)))
    ∙ ap (λ z. a ++ z) (steal-turn M (M.next kept p) q b after sq b-is goes x h)

-- The end of a text, whose last piece is short.
pub steal-end : (M : Steal) (kept x : List ℕ) → 16 < length x → length x < 32
    → glue (stealing M kept (pieces x)) ≡ M.full kept (take 16 x) (drop 16 x) ++ M.last kept (take 16 x) (drop 16 x)
steal-end M kept x lo hi =
    let q = drop 16 x in
    let n = length-drop 16 x in
    ap (λ ps. glue (stealing M kept ps)) (pieces_more x (omega arith))
    ∙ ap (λ ps. glue (stolen M kept (take 16 x) ps)) (pieces-one q (omega arith) (omega arith))
    ∙ ap glue (stolen-short M kept (take 16 x) q [] (omega arith))
    ∙ ap (λ l. M.full kept (take 16 x) q ++ l) (append-nil _)

-- The same as the machines write it: `full`, and as much of `last` as there is room for.
pub steal-written : (M : Steal) (kept x full last out : List ℕ) (room : ℕ) → 16 < length x → length x < 32 → room ≡ length x
    → full ≡ M.full kept (take 16 x) (drop 16 x) → take (length (drop 16 x)) last ≡ M.last kept (take 16 x) (drop 16 x)
    → out ≡ full ++ take (room - 16) last → out ≡ glue (stealing M kept (pieces x))
steal-written M kept x full last out room lo hi fits Full-is last-is put =
    put ∙ ap₂ (λ a n. a ++ take n last) Full-is (ap (λ n. n - 16) fits ∙ sym (length-drop 16 x))
    ∙ ap (λ b. M.full kept (take 16 x) (drop 16 x) ++ b) last-is
    ∙ sym (steal-end M kept x lo hi)

module _ (M : Stream) (kept : List ℕ) where
  pub stream-turn : (p r after : List ℕ) → length p ≡ 16 → r ≡ M.turn kept p → after ≡ M.next kept p → (x : List ℕ)
      → glue (streamed M kept (pieces (p ++ x))) ≡ r ++ glue (streamed M after (pieces x))
  stream-turn p r after size is goes x =
      ap (λ ps. glue (streamed M kept ps)) (pieces-cons p x size)
      ∙ ap₂ (λ a b. a ++ glue (streamed M b (pieces x))) (sym is) (sym goes)

  pub stream-turn-two : (p q a b after : List ℕ) → length p ≡ 16 → length q ≡ 16 → a ≡ M.turn kept p → b ≡ M.turn (M.next kept p) q
      → after ≡ M.next (M.next kept p) q → (x : List ℕ)
      → glue (streamed M kept (pieces (p ++ (q ++ x)))) ≡ a ++ (b ++ glue (streamed M after (pieces x)))
  stream-turn-two p q a b after sp sq a-is b-is goes x =
      ap (λ ps. glue (streamed M kept ps)) (pieces-cons p (q ++ x) sp ∙ ap (λ ps. p ∷ ps) (pieces-cons q x sq))
      ∙ ap₂ (λ y z. y ++ (z ++ glue (streamed M (M.next (M.next kept p) q) (pieces x)))) (sym a-is) (sym b-is)
      ∙ ap (λ k. a ++ (b ++ glue (streamed M k (pieces x)))) (sym goes)

  pub stream_end : (x : List ℕ) → 0 < length x → length x ≤ 16 → glue (streamed M kept (pieces x)) ≡ M.turn kept x
  stream_end x lo hi = ap (λ ps. glue (streamed M kept ps)) (pieces-one x lo hi) ∙ append-nil _
