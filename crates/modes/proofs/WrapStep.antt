-- One step of the wrapping and one of the unwrapping undo each other, whatever f, if it lands in sixteen octets; nothing else is used of f.
use Rattle.std.proofs.Common.{◌≡◌, ℕ, zero, suc, ◌+◌, ◌-◌, ◌*◌, ◌/◌, ◌≤◌, List, ◌++◌, length, take, drop, sym, refl, ap, ◌∙◌, subst, ap₂, arith}
use Rattle.std.proofs.lemmas.List.{append_assoc, length-append, length-drop, length-take-le, take_at, drop_at, take-append-drop}
use Rattle.blocks.specs.Octets.{xor_each, Octets, Sixteen}
use Rattle.blocks.specs.Octetwise.{xor_each-undo, xor_each-sixteen, octets-take, octets-drop, octets-zeros}
use Rattle.blocks.proofs.Numbers.{length-field, octets-field, octets-append}
use Rattle.modes.specs.Wrapping.{step_number, mixed, mixed_all, wrap_step, unwrap_step}
use Rattle.blocks.specs.Steps.{Lands}

step_number-sixteen : (i : ℕ) → Sixteen (step_number i)
unfolding step_number
step_number-sixteen i = (length-field 16 i, octets-field 16 i)

pub mixed-sixteen : (k : ℕ) (r : List ℕ) → Octets r → k * 16 ≤ length r → Sixteen (mixed k r)
mixed-sixteen zero r o h = (refl, octets-zeros 16)
mixed-sixteen (suc k) r o h =
    xor_each-sixteen (take 16 r) (mixed k (drop 16 r)) (length-take-le 16 r (omega arith), octets-take 16 r o)
    (mixed-sixteen k (drop 16 r) (octets-drop 16 r o) (omega (arith, length-drop 16 r)))

pub mixed_all-more : (a t : List ℕ) → length a ≡ 16 → 1 ≤ length t → mixed_all (a ++ t) ≡ xor_each a (mixed_all t)
mixed_all-more a t e h =
    let k : (length (a ++ t) - 1) / 16 ≡ suc ((length t - 1) / 16) = omega (arith, length-append a t) in
    ap (λ n. mixed n (a ++ t)) k ∙ ap₂ (λ p q. xor_each p (mixed ((length t - 1) / 16) q)) (take_at a t 16 e) (drop_at a t 16 e)

-- a text with its first and its last block, and with its last two
record Ends (r : List ℕ) : Type 0 where
  pub a : List ℕ
  pub u : List ℕ
  pub v : List ℕ
  pub a-is : Sixteen a
  pub u-is : Octets u
  pub v-is : Sixteen v
  pub is : r ≡ a ++ (u ++ v)

pub record Back (r : List ℕ) : Type 0 where
  pub u : List ℕ
  pub v : List ℕ
  pub s : List ℕ
  pub u-is : Octets u
  pub v-is : Sixteen v
  pub s-is : Sixteen s
  pub is : r ≡ u ++ (v ++ s)

ends : (r : List ℕ) → Octets r → 32 ≤ length r → Ends r
ends r o h =
    let n = length r - 32 in
    let t = drop 16 r in
    let n-t = length-drop 16 r in
    record {
      a = take 16 r;
      u = take n t;
      v = drop n t;
      a-is = (length-take-le 16 r (omega arith), octets-take 16 r o);
      u-is = octets-take n t (octets-drop 16 r o);
      v-is = (omega (arith, length-drop n t), octets-drop n t (octets-drop 16 r o));
      is = sym (ap (λ x. take 16 r ++ x) (take-append-drop n t) ∙ take-append-drop 16 r);
    }

pub back : (r : List ℕ) → Octets r → 32 ≤ length r → Back r
back r o h =
    let n = length r - 32 in
    let t = drop n r in
    let n-t = length-drop n r in
    record {
      u = take n r;
      v = take 16 t;
      s = drop 16 t;
      u-is = octets-take n r o;
      v-is = (length-take-le 16 t (omega arith), octets-take 16 t (octets-drop n r o));
      s-is = (omega (arith, length-drop 16 t), octets-drop 16 t (octets-drop n r o));
      is = sym (ap (λ x. take n r ++ x) (take-append-drop 16 t) ∙ take-append-drop n r);
    }

module _ (f : List ℕ → List ℕ) (i : ℕ) where
  -- what the last block takes in
  abbrev taken : List ℕ → List ℕ
  taken s = xor_each (f s) (step_number i)

  -- the two steps on a text by its parts: a short last block is no case at all
  wrap_step-parts : (a u v : List ℕ) → length a ≡ 16 → length v ≡ 16
      → wrap_step f i (a ++ (u ++ v)) ≡ u ++ (xor_each v (taken (xor_each a (mixed_all (u ++ v)))) ++ xor_each a (mixed_all (u ++ v)))
  unfolding wrap_step
  wrap_step-parts a u v ea ev =
      let r = a ++ (u ++ v) in
      let s = xor_each a (mixed_all (u ++ v)) in
      let s-is : mixed_all r ≡ s = mixed_all-more a (u ++ v) ea (omega (arith, length-append u v)) in
      let au : r ≡ (a ++ u) ++ v = sym (append_assoc a u v) in
      let n : length (a ++ u) ≡ length r - 16 = omega (arith, ap length au, length-append (a ++ u) v) in
      let t : take (length r - 16) r ≡ a ++ u = ap (take (length r - 16)) au ∙ take_at (a ++ u) v (length r - 16) n in
      let d : drop (length r - 16) r ≡ v = ap (drop (length r - 16)) au ∙ drop_at (a ++ u) v (length r - 16) n in
      let w = xor_each v (taken s) in
      ap₂ (λ x y. drop 16 (x ++ xor_each y (taken (mixed_all r))) ++ mixed_all r) t d
      ∙ ap (λ x. drop 16 ((a ++ u) ++ xor_each v (taken x)) ++ x) s-is
      ∙ ap (λ x. drop 16 x ++ s) (append_assoc a u w)
      ∙ ap (λ x. x ++ s) (drop_at a (u ++ w) 16 ea)
      ∙ append_assoc u w s

  pub unwrap_step-parts : (u v s : List ℕ) → length v ≡ 16 → length s ≡ 16
      → unwrap_step f i (u ++ (v ++ s)) ≡ xor_each s (mixed_all (u ++ xor_each v (taken s))) ++ (u ++ xor_each v (taken s))
  unfolding unwrap_step
  unwrap_step-parts u v s ev es =
      let r = u ++ (v ++ s) in
      let uv : r ≡ (u ++ v) ++ s = sym (append_assoc u v s) in
      let k = length-append u v in
      let m : length r ≡ length (u ++ v) + 16 = omega (arith, ap length uv, length-append (u ++ v) s) in
      let n : length (u ++ v) ≡ length r - 16 = omega arith in
      let n' : length u ≡ length r - 32 = omega arith in
      let t : take (length r - 16) r ≡ u ++ v = ap (take (length r - 16)) uv ∙ take_at (u ++ v) s (length r - 16) n in
      let d : drop (length r - 16) r ≡ s = ap (drop (length r - 16)) uv ∙ drop_at (u ++ v) s (length r - 16) n in
      let t' : take (length r - 32) r ≡ u = take_at u (v ++ s) (length r - 32) n' in
      let d' : drop (length r - 32) (take (length r - 16) r) ≡ v = ap (drop (length r - 32)) t ∙ drop_at u v (length r - 32) n' in
      let whole : List ℕ → List ℕ → List ℕ → List ℕ = λ x y z. xor_each z (mixed_all (x ++ xor_each y (taken z))) ++ (x ++ xor_each y (taken z)) in
      ap₂ (λ x y. whole x y (drop (length r - 16) r)) t' d' ∙ ap (λ z. whole u v z) d

-- Step i takes r to t, and back.
pub record Turned (f : List ℕ → List ℕ) (i : ℕ) (r t : List ℕ) : Type 0 where
  pub forth : wrap_step f i r ≡ t
  pub back : unwrap_step f i t ≡ r
  pub long : length t ≡ length r
  pub first : Octets r
  pub second : Octets t

module _ (f : List ℕ → List ℕ) (lands : Lands f) (i : ℕ) where
  moved : (r r' t t' : List ℕ) → r ≡ r' → t ≡ t' → Turned f i r t → Turned f i r' t'
  moved r r' t t' e d q = subst (λ (x : List ℕ). Turned f i x t') e (subst (λ (x : List ℕ). Turned f i r x) d q)

  -- by parts: each of a and s is the other mixed with the blocks, each of v and w the other with what is taken in
  parts : (a u v w s : List ℕ) → Sixteen a → Octets u → Sixteen v → Sixteen w → Sixteen s
      → s ≡ xor_each a (mixed_all (u ++ v)) → a ≡ xor_each s (mixed_all (u ++ v)) → w ≡ xor_each v (taken f i s) → v ≡ xor_each w (taken f i s)
      → Turned f i (a ++ (u ++ v)) (u ++ (w ++ s))
  parts a u v w s a-is u-is v-is w-is s-is s-of a-of w-of v-of = record {
    forth =
        wrap_step-parts f i a u v a-is.0 v-is.0
        ∙ ap (λ x. u ++ (xor_each v (taken f i x) ++ x)) (sym s-of) ∙ ap (λ x. u ++ (x ++ s)) (sym w-of);
    back =
        unwrap_step-parts f i u w s w-is.0 s-is.0
        ∙ ap (λ x. xor_each s (mixed_all (u ++ x)) ++ (u ++ x)) (sym v-of) ∙ ap (λ x. x ++ (u ++ v)) (sym a-of);
    long =
        omega
        (arith, length-append u (w ++ s), length-append w s, length-append a (u ++ v), length-append u v, a-is.0, v-is.0, w-is.0, s-is.0);
    first = octets-append a (u ++ v) a-is.1 (octets-append u v u-is v-is.1);
    second = octets-append u (w ++ s) u-is (octets-append w s w-is.1 s-is.1);
  }

  mix-sixteen : (u v : List ℕ) → Octets u → Sixteen v → Sixteen (mixed_all (u ++ v))
  mix-sixteen u v u-is v-is =
      mixed-sixteen ((length (u ++ v) - 1) / 16) (u ++ v) (octets-append u v u-is v-is.1) (omega arith)

  taken-sixteen : (s : List ℕ) → Sixteen s → Sixteen (taken f i s)
  taken-sixteen s s-is = xor_each-sixteen (f s) (step_number i) (lands s s-is) (step_number-sixteen i)

  pub wrap-turns : (r : List ℕ) → Octets r → 32 ≤ length r → Turned f i r (wrap_step f i r)
  wrap-turns r o h =
      let p = ends r o h in
      let M = mixed_all (p.u ++ p.v) in
      let M-is = mix-sixteen p.u p.v p.u-is p.v-is in
      let s = xor_each p.a M in
      let s-is = xor_each-sixteen p.a M p.a-is M-is in
      let e-is = taken-sixteen s s-is in
      let w = xor_each p.v (taken f i s) in
      let q =
      parts p.a p.u p.v w s p.a-is p.u-is p.v-is (xor_each-sixteen p.v (taken f i s) p.v-is e-is) s-is refl
      (sym (xor_each-undo p.a M (p.a-is.0 ∙ sym M-is.0))) refl (sym (xor_each-undo p.v (taken f i s) (p.v-is.0 ∙ sym e-is.0))) in
      moved _ r _ _ (sym p.is) (sym (ap (wrap_step f i) p.is ∙ q.forth)) q

  pub unwrap-turns : (r : List ℕ) → Octets r → 32 ≤ length r → Turned f i (unwrap_step f i r) r
  unwrap-turns r o h =
      let p = back r o h in
      let e-is = taken-sixteen p.s p.s-is in
      let v = xor_each p.v (taken f i p.s) in
      let v-is = xor_each-sixteen p.v (taken f i p.s) p.v-is e-is in
      let M = mixed_all (p.u ++ v) in
      let M-is = mix-sixteen p.u v p.u-is v-is in
      let a = xor_each p.s M in
      let q =
      parts a p.u v p.v p.s (xor_each-sixteen p.s M p.s-is M-is) p.u-is v-is p.v-is p.s-is
      (sym (xor_each-undo p.s M (p.s-is.0 ∙ sym M-is.0))) refl (sym (xor_each-undo p.v (taken f i p.s) (p.v-is.0 ∙ sym e-is.0))) refl in
      moved _ _ _ r (sym (ap (unwrap_step f i) p.is ∙ q.back)) (sym p.is) q
