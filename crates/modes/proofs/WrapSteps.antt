-- All the steps undo each other, so unwrapping is exact.
use Rattle.std.proofs.Common.{◌≡◌, ℕ, zero, suc, ◌≤◌, List, ◌++◌, length, sym, refl, ap, ◌∙◌, ap₂, arith}
use Rattle.std.proofs.lemmas.List.{length-append}
use Rattle.blocks.specs.Octets.{Octets, Sixteen}
use Rattle.blocks.proofs.Numbers.{octets-append}
use Rattle.modes.specs.Wrapping.{wrap_step, unwrap_step, wrap_steps, unwrap_steps, rounds, wrapped, unwrapped}
use Rattle.blocks.specs.Steps.{Lands}
use Rattle.modes.specs.WrapExact.{WrapExact}
use Rattle.modes.proofs.WrapStep.{wrap-turns, unwrap-turns}

-- t is as long as r, and octets
abbrev Like : List ℕ → List ℕ → Type 0
Like r t = (length t ≡ length r) × Octets t

module _ (f : List ℕ → List ℕ) (lands : Lands f) where
  wrap_steps-keeps : (n : ℕ) (r : List ℕ) → Octets r → 32 ≤ length r → Like r (wrap_steps f n r)
  wrap_steps-keeps zero r o h = (refl, o)
  wrap_steps-keeps (suc n) r o h =
      let p = wrap_steps-keeps n r o h in
      let q = wrap-turns f lands (suc n) (wrap_steps f n r) p.1 (omega arith) in
      (q.long ∙ p.0, q.second)

  unwrap_steps-keeps : (n : ℕ) (r : List ℕ) → Octets r → 32 ≤ length r → Like r (unwrap_steps f n r)
  unwrap_steps-keeps zero r o h = (refl, o)
  unwrap_steps-keeps (suc n) r o h =
      let q = unwrap-turns f lands (suc n) r o h in
      let p = unwrap_steps-keeps n (unwrap_step f (suc n) r) q.first (omega (arith, q.long)) in
      (p.0 ∙ sym q.long, p.1)

  unwrap-wrap-steps : (n : ℕ) (r : List ℕ) → Octets r → 32 ≤ length r → unwrap_steps f n (wrap_steps f n r) ≡ r
  unwrap-wrap-steps zero r o h = refl
  unwrap-wrap-steps (suc n) r o h =
      let p = wrap_steps-keeps n r o h in
      ap (unwrap_steps f n) (wrap-turns f lands (suc n) (wrap_steps f n r) p.1 (omega arith)).back ∙ unwrap-wrap-steps n r o h

  wrap-unwrap-steps : (n : ℕ) (r : List ℕ) → Octets r → 32 ≤ length r → wrap_steps f n (unwrap_steps f n r) ≡ r
  wrap-unwrap-steps zero r o h = refl
  wrap-unwrap-steps (suc n) r o h =
      let q = unwrap-turns f lands (suc n) r o h in
      ap (wrap_step f (suc n)) (wrap-unwrap-steps n (unwrap_step f (suc n) r) q.first (omega (arith, q.long))) ∙ q.forth

  pub wrapped-keeps : (header x : List ℕ) → Sixteen header → Octets x → 16 ≤ length x → Like (x ++ header) (wrapped f header x)
  wrapped-keeps header x s o h =
      wrap_steps-keeps (rounds (length (x ++ header))) (x ++ header) (octets-append x header o s.1) (omega (arith, length-append x header, s.0))

  pub unwrapped-keeps : (y : List ℕ) → Octets y → 32 ≤ length y → Like y (unwrapped f y)
  unwrapped-keeps y o h = unwrap_steps-keeps (rounds (length y)) y o h

  pub unwrapped-wrapped : (header x : List ℕ) → Sixteen header → Octets x → 16 ≤ length x → unwrapped f (wrapped f header x) ≡ x ++ header
  unwrapped-wrapped header x s o h =
      let r = x ++ header in
      let o' = octets-append x header o s.1 in
      let h' : 32 ≤ length r = omega (arith, length-append x header, s.0) in
      ap (λ m. unwrap_steps f (rounds m) (wrapped f header x)) (wrapped-keeps header x s o h).0 ∙ unwrap-wrap-steps (rounds (length r)) r o' h'

  pub wrapped-unwrapped : (y x header : List ℕ) → Octets y → 32 ≤ length y → unwrapped f y ≡ x ++ header → wrapped f header x ≡ y
  wrapped-unwrapped y x header o h e =
      let n : length (x ++ header) ≡ length y = ap length (sym e) ∙ (unwrapped-keeps y o h).0 in
      ap₂ (λ m r. wrap_steps f (rounds m) r) n (sym e) ∙ wrap-unwrap-steps (rounds (length y)) y o h

pub wrap-exact : WrapExact
wrap-exact f lands header x y s ox h o h' = record {
  forth = λ e. sym (wrapped-unwrapped f lands y x header o h' e);
  back = λ e. ap (unwrapped f) e ∙ unwrapped-wrapped f lands header x s ox h;
}
