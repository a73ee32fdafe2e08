-- A checksum is eight octets, over any function on sixteen octets.
use Rattle.std.proofs.Common.{◌≡◌, ℕ, zero, suc, ◌-◌, ◌<◌, ◌≤◌, eqb, leb, ◌⊎◌, List, [], ◌∷◌, length, take, drop, replicate, Ok, Err, Result, sym, refl, ap, ◌∙◌, subst, inl, inr, ⊎_elim, arith, lit<}
use Rattle.std.proofs.lemmas.List.{length-append, length-drop, length-take-le, length-replicate, take_all, drop_all}
use Rattle.std.proofs.lemmas.Bool.{cases_eq, cases_lt, eq-eqb, ne_eqb, cond-true, cond-false, le-leb}
use Rattle.blocks.specs.Octets.{Octets, Sixteen, xor_each}
use Rattle.blocks.specs.declared.answers.Refusal.{Refusal}
use Rattle.blocks.proofs.Numbers.{octets-append}
use Rattle.blocks.specs.Octetwise.{length-xor_each, octets-xor_each, xor_each-sixteen, octets-take, octets-drop, octets-zeros}
use Rattle.modes.specs.Pieces.{pieces}
use Rattle.blocks.specs.Steps.{Lands}
use Rattle.modes.specs.Checksum.{whole_mark, short_mark, padded, closed, absorbed, checksum, checksum_answer}
use Rattle.modes.proofs.Pieces.{Part, Pieced, pieces-pieced}

octets-cons : (x : ℕ) (xs : List ℕ) → x < 256 → Octets xs → Octets (x ∷ xs)
octets-cons x xs h o zero = h
octets-cons x xs h o (suc k) = o k

module _ (r : List ℕ) (h : Sixteen r) where
  whole-sixteen : Sixteen (whole_mark r)
  whole-sixteen =
      let a : length (take 4 r) ≡ 4 = length-take-le 4 r (omega arith) in
      let b : length (take 4 (drop 4 r)) ≡ 4 = length-take-le 4 (drop 4 r) (omega (arith, length-drop 4 r)) in (
        omega (arith, length-append (drop 4 r) (xor_each (take 4 r) (take 4 (drop 4 r))), length-drop 4 r, length-xor_each (take 4 r) (take 4 (drop 4 r)) (omega arith)),
        octets-append (drop 4 r) _ (octets-drop 4 r h.1) (octets-xor_each (take 4 r) (take 4 (drop 4 r)) (octets-take 4 r h.1) (octets-take 4 (drop 4 r) (octets-drop 4 r h.1))),
      )

  short-sixteen : Sixteen (short_mark r)
  short-sixteen =
      let a : length (take 4 r) ≡ 4 = length-take-le 4 r (omega arith) in
      let b : length (take 12 r) ≡ 12 = length-take-le 12 r (omega arith) in (
        omega (arith, length-append (xor_each (take 4 r) (drop 12 r)) (take 12 r), length-drop 12 r, length-xor_each (take 4 r) (drop 12 r) (omega (arith, length-drop 12 r))),
        octets-append (xor_each (take 4 r) (drop 12 r)) (take 12 r) (octets-xor_each (take 4 r) (drop 12 r) (octets-take 4 r h.1) (octets-drop 12 r h.1)) (octets-take 12 r h.1),
      )

padded-sixteen : (q : List ℕ) → length q < 16 → Octets q → Sixteen (padded q)
padded-sixteen q l o = (
  omega (arith, length-append q (128 ∷ replicate (15 - length q) 0), length-replicate {A = ℕ} (15 - length q) 0),
  octets-append q _ o (octets-cons 128 (replicate (15 - length q) 0) (lit< tt) (octets-zeros (15 - length q))),
)

closed-sixteen : (r s q : List ℕ) → Sixteen r → Sixteen s → length q ≤ 16 → Octets q → Sixteen (closed r s q)
closed-sixteen r s q hr hs l o =
    ⊎_elim
    (λ (e : length q ≡ 16).
    subst Sixteen (sym (cond-true (eqb (length q) 16) _ _ (eq-eqb (length q) 16 e)))
    (xor_each-sixteen (xor_each s q) (whole_mark r) (xor_each-sixteen s q hs (e, o)) (whole-sixteen r hr)))
    (λ (n : length q ≡ 16 → ⊥).
    let k : length q < 16 = omega arith in
    subst Sixteen (sym (cond-false (eqb (length q) 16) _ _ (ne_eqb (length q) 16 n)))
    (xor_each-sixteen (xor_each s (padded q)) (short_mark r) (xor_each-sixteen s (padded q) hs (padded-sixteen q k o)) (short-sixteen r hr)))
    (cases_eq (length q) 16)

module _ (f : List ℕ → List ℕ) (lands : Lands f) (r : List ℕ) (hr : Sixteen r) where
  -- A row of pieces, all whole but maybe the last.
  absorbed-sixteen : (s p : List ℕ) (ps : List (List ℕ)) → Sixteen s → (Sixteen p × Pieced ps) ⊎ ((length p ≤ 16) × Octets p × (ps ≡ []))
      → Sixteen (absorbed f r s p ps)
  absorbed-sixteen s p [] hs (inl w) = closed-sixteen r s p hr hs (omega (arith, w.0.0)) w.0.1
  absorbed-sixteen s p [] hs (inr w) = closed-sixteen r s p hr hs w.0 w.1
  absorbed-sixteen s p (q ∷ qs) hs (inl w) =
      absorbed-sixteen (f (xor_each s p)) q qs (lands _ (xor_each-sixteen s p hs w.0))
      (⊎_elim (λ (v : Sixteen q × Pieced qs). inl v) (λ (v : Part q × (qs ≡ [])). inr (omega (arith, v.0.1), v.0.2, v.1)) w.1)
  absorbed-sixteen s p (q ∷ qs) hs (inr w) = let z : ◌≡◌ {A = ℕ} 0 1 = cc in absurd (omega arith)

first : (x : List ℕ) → Octets x → (Sixteen (take 16 x) × Pieced (pieces (drop 16 x))) ⊎ ((length (take 16 x) ≤ 16) × Octets (take 16 x) × (pieces (drop 16 x) ≡ []))
first x o =
    ⊎_elim
    (λ (h : length x < 16). inr (omega (arith, ap length (take_all 16 x (omega arith))), octets-take 16 x o, ap pieces (drop_all 16 x (omega arith))))
    (λ (h : 16 ≤ length x). inl ((length-take-le 16 x h, octets-take 16 x o), pieces-pieced (drop 16 x) (octets-drop 16 x o)))
    (cases_lt (length x) 16)

pub checksum-eight : (f : List ℕ → List ℕ) → Lands f → (x : List ℕ) → Octets x → (length (checksum f x) ≡ 8) × Octets (checksum f x)
checksum-eight f lands x o =
    let zeros = replicate 16 0 in
    let hz : Sixteen zeros = (refl, octets-zeros 16) in
    let p = take 16 x in
    let ps = pieces (drop 16 x) in
    let way : (Sixteen p × Pieced ps) ⊎ ((length p ≤ 16) × Octets p × (ps ≡ [])) = first x o in
    let h = lands _ (absorbed-sixteen f lands (f zeros) (lands zeros hz) zeros p ps hz way) in
    (length-take-le 8 (f (absorbed f (f zeros) zeros p ps)) (omega (arith, h.0)), octets-take 8 (f (absorbed f (f zeros) zeros p ps)) h.1)

-- A message that is short enough has its checksum.
pub sum-given : (f : List ℕ → List ℕ) (x s : List ℕ) → length x ≤ 65536 → Ok s ≡ checksum_answer f x → s ≡ checksum f x
sum-given f x s l e =
    let k : ◌≡◌ {A = Result (List ℕ) Refusal} (Ok s) (Ok (checksum f x))
    = e ∙ cond-true (leb (length x) 65536) (Ok (checksum f x)) (Err _) (le-leb (length x) 65536 l) in
    cc
