-- One step as the code takes it, in place.
use Rattle.std.proofs.Common.{◌≡◌, ℕ, zero, suc, ◌+◌, ◌-◌, ◌*◌, ◌/◌, ◌≤◌, List, ◌++◌, length, take, drop, replicate, fold, sym, refl, ap, ◌∙◌, subst, ap₂, arith}
use Rattle.std.proofs.lemmas.List.{append_assoc, length-append, length-drop, length-take-le, take_at, drop_at, take-take, drop-take}
use Rattle.blocks.specs.Octets.{xor_each, Octets}
use Rattle.blocks.specs.Octetwise.{length-xor_each, xor_each-assoc, xor_each-zeros, zeros-xor_each, octets-take, octets-drop}
use Rattle.modes.specs.Pieces.{cut}
use Rattle.modes.specs.Wrapping.{step_number, mixed, mixed_all, wrap_step, unwrap_step}
use Rattle.modes.proofs.WrapStep.{mixed-sixteen, mixed_all-more, back, unwrap_step-parts}

-- blocks within the front of a text
mixed-front : (n k : ℕ) (r : List ℕ) → n * 16 ≤ k → mixed n (take k r) ≡ mixed n r
mixed-front zero k r h = refl
mixed-front (suc n) k r h =
    let e : k ≡ 16 + (k - 16) = omega arith in
    ap₂ (λ p q. xor_each p (mixed n q)) (take-take 16 k r (omega arith)) (ap (λ m. drop 16 (take m r)) e ∙ drop-take 16 (k - 16) r)
    ∙ ap (xor_each (take 16 r)) (mixed-front n (k - 16) (drop 16 r) (omega arith))

-- the mix of the blocks, from the first on
mix-from : (n : ℕ) (s r : List ℕ) → length s ≡ 16 → Octets r → n * 16 ≤ length r → fold xor_each s (cut n r) ≡ xor_each s (mixed n r)
mix-from zero s r e o h = sym (xor_each-zeros s 16 e)
mix-from (suc n) s r e o h =
    let p = length-take-le 16 r (omega arith) in
    mix-from n (xor_each s (take 16 r)) (drop 16 r) (omega (arith, length-xor_each s (take 16 r) (omega arith))) (octets-drop 16 r o) (omega (arith, length-drop 16 r))
    ∙ xor_each-assoc s (take 16 r) (mixed n (drop 16 r))

pub mix_all : (r t : List ℕ) → 1 ≤ length r → Octets r → t ≡ take (length r - 1) r → fold xor_each (replicate 16 0) (cut (length t / 16) t) ≡ mixed_all r
mix_all r t h o is =
    let n = length t / 16 in
    let size : length t ≡ length r - 1 = ap length is ∙ length-take-le (length r - 1) r (omega arith) in
    let whole : n * 16 ≤ length t = omega arith in
    let ot : Octets t = subst Octets (sym is) (octets-take (length r - 1) r o) in
    mix-from n (replicate 16 0) t refl ot whole ∙ zeros-xor_each 16 (mixed n t) (mixed-sixteen n t ot whole).0
    ∙ ap (mixed n) is ∙ mixed-front n (length r - 1) r (omega arith) ∙ ap (λ k. mixed (k / 16) r) size

module _ (f : List ℕ → List ℕ) (i : ℕ) (r r₁ s last : List ℕ) (h : 32 ≤ length r) where
  -- the last octets are written, the text is turned by a block, and s is written last
  pub wrapped-in-place : s ≡ mixed_all r → length last ≡ 16
      → last ≡ xor_each (drop (length r - 16) r) (xor_each (f s) (step_number i))
      → r₁ ≡ drop 16 (take (length r - 16) r ++ last) ++ take 16 (take (length r - 16) r ++ last)
      → take (length r₁ - 16) r₁ ++ s ≡ wrap_step f i r
  unfolding wrap_step
  wrapped-in-place s-is n last-is turned =
      let at = length r - 16 in
      let t = take at r ++ last in
      let nt : length t ≡ length r = omega (arith, length-append (take at r) last, length-take-le at r (omega arith)) in
      let nd : length (drop 16 t) ≡ at = omega (arith, length-drop 16 t) in
      let n₁ : length r₁ - 16 ≡ at = omega (arith, ap length turned, length-append (drop 16 t) (take 16 t), length-take-le 16 t (omega arith)) in
      ap₂ (λ k x. take k x ++ s) n₁ turned ∙ ap (λ x. x ++ s) (take_at (drop 16 t) (take 16 t) at nd)
      ∙ ap (λ x. drop 16 (take at r ++ x) ++ s) last-is
      ∙ ap (λ x. drop 16 (take at r ++ xor_each (drop at r) (xor_each (f x) (step_number i))) ++ x) s-is

  -- the text is turned by a block, the last octets are written, and the mix is written first
  pub unwrapped-in-place : Octets r → (first : List ℕ) → length last ≡ 16
      → r₁ ≡ drop (length r - 16) r ++ take (length r - 16) r
      → s ≡ take 16 r₁
      → last ≡ xor_each (drop (length r₁ - 16) r₁) (xor_each (f s) (step_number i))
      → first ≡ mixed_all (take (length r₁ - 16) r₁ ++ last)
      → first ++ drop 16 (take (length r₁ - 16) r₁ ++ last) ≡ unwrap_step f i r
  unwrapped-in-place o first n turned s-is last-is first-is =
      let at = length r - 16 in
      let b = back r o h in
      let u = b.u in
      let v = b.v in
      let z = b.s in
      let uv : r ≡ (u ++ v) ++ z = b.is ∙ sym (append_assoc u v z) in
      let nv : length v ≡ 16 = b.v-is.0 in
      let nz : length z ≡ 16 = b.s-is.0 in
      let n-uv = length-append u v in
      let m : length r ≡ length (u ++ v) + 16 = omega (arith, ap length uv, length-append (u ++ v) z) in
      let t : take at r ≡ u ++ v = ap (take at) uv ∙ take_at (u ++ v) z at (omega arith) in
      let d : drop at r ≡ z = ap (drop at) uv ∙ drop_at (u ++ v) z at (omega arith) in
      let q₁ : r₁ ≡ (z ++ u) ++ v = turned ∙ ap₂ ◌++◌ d t ∙ sym (append_assoc z u v) in
      let n-zu : length (z ++ u) ≡ at = omega (arith, length-append z u) in
      let n₁ : length r₁ - 16 ≡ at = omega (arith, ap length q₁, length-append (z ++ u) v) in
      let s-z : s ≡ z = s-is ∙ ap (take 16) (q₁ ∙ append_assoc z u v) ∙ take_at z (u ++ v) 16 nz in
      let front : take (length r₁ - 16) r₁ ≡ z ++ u = ap₂ take n₁ q₁ ∙ take_at (z ++ u) v at n-zu in
      let v-is : drop (length r₁ - 16) r₁ ≡ v = ap₂ drop n₁ q₁ ∙ drop_at (z ++ u) v at n-zu in
      let w = xor_each v (xor_each (f z) (step_number i)) in
      let w-is : last ≡ w = last-is ∙ ap₂ (λ x y. xor_each x (xor_each (f y) (step_number i))) v-is s-z in
      let q₂ : take (length r₁ - 16) r₁ ++ last ≡ z ++ (u ++ w) = ap₂ ◌++◌ front w-is ∙ append_assoc z u w in
      let n-w : length w ≡ 16 = ap length (sym w-is) ∙ n in
      ap₂ ◌++◌
      (first-is ∙ ap mixed_all q₂ ∙ mixed_all-more z (u ++ w) nz (omega (arith, length-append u w)))
      (ap (drop 16) q₂ ∙ drop_at z (u ++ w) 16 nz)
      ∙ sym (ap (unwrap_step f i) b.is ∙ unwrap_step-parts f i u v z nv nz)
