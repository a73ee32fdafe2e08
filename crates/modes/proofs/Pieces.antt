-- How a text is cut, and put together again.
use Rattle.std.proofs.Common.{◌≡◌, ℕ, zero, suc, ◌+◌, ◌*◌, ◌/◌, ◌<◌, ◌≤◌, ◌⊎◌, List, [], ◌∷◌, ◌++◌, length, take, drop, sym, refl, ap, ◌∙◌, subst, ap₂, inl, inr, ⊎_elim, arith, lit<}
use Rattle.std.proofs.lemmas.List.{append-nil, length-append, length-drop, length-take-le, drop_all, take_all, nil_from_length, take-append-drop, take_at, drop_at}
use Rattle.std.proofs.lemmas.Bool.{cases_lt}
use Rattle.blocks.specs.Octets.{Octets, Sixteen}
use Rattle.blocks.proofs.Numbers.{octets-append}
use Rattle.blocks.specs.Octetwise.{octets-take, octets-drop}
use Rattle.modes.specs.Pieces.{cut, pieces, glue}

pub pieces_more : (x : List ℕ) → 0 < length x → pieces x ≡ take 16 x ∷ pieces (drop 16 x)
pieces_more x h =
    let e : (length x + 15) / 16 ≡ suc ((length (drop 16 x) + 15) / 16) = omega (arith, length-drop 16 x) in
    ap (λ n. cut n x) e

-- A whole piece, and then more.
pub pieces-cons : (p x : List ℕ) → length p ≡ 16 → pieces (p ++ x) ≡ p ∷ pieces x
pieces-cons p x e =
    pieces_more (p ++ x) (omega (arith, length-append p x))
    ∙ ap₂ (λ a b. a ∷ pieces b) (take_at p x 16 e) (drop_at p x 16 e)

-- A text of at most one piece.
pub pieces-one : (x : List ℕ) → 0 < length x → length x ≤ 16 → pieces x ≡ x ∷ []
pieces-one x lo hi = pieces_more x lo ∙ ap₂ (λ a b. a ∷ pieces b) (take_all 16 x hi) (drop_all 16 x hi)

glue-cut : (n : ℕ) (x : List ℕ) → length x ≤ n * 16 → glue (cut n x) ≡ x
glue-cut zero x h = sym (nil_from_length x (omega arith))
glue-cut (suc n) x h =
    ap (λ r. take 16 x ++ r) (glue-cut n (drop 16 x) (omega (arith, length-drop 16 x))) ∙ take-append-drop 16 x

pub glue-pieces : (x : List ℕ) → glue (pieces x) ≡ x
glue-pieces x = glue-cut ((length x + 15) / 16) x (omega arith)

-- A short piece.
abbrev pub Part : List ℕ → Type 0
Part p = (0 < length p) × (length p < 16) × Octets p

-- A row of whole pieces, the last maybe short: what `pieces` gives, and what comes back from `glue`.
abbrev pub Pieced : List (List ℕ) → Type 0
Pieced [] = Unit {0}
Pieced (p ∷ ps) = (Sixteen p × Pieced ps) ⊎ (Part p × (ps ≡ []))

cut-pieced : (n : ℕ) (x : List ℕ) → Octets x → n ≡ (length x + 15) / 16 → Pieced (cut n x)
cut-pieced zero x o e = tt
cut-pieced (suc n) x o e =
    ⊎_elim
    (λ (h : length x < 16).
    inr (
      (omega (arith, ap length (take_all 16 x (omega arith))), omega (arith, ap length (take_all 16 x (omega arith))), octets-take 16 x o),
      ap (λ k. cut k (drop 16 x)) (let z : n ≡ 0 = omega arith in z),
    ))
    (λ (h : 16 ≤ length x).
    inl ((length-take-le 16 x h, octets-take 16 x o), cut-pieced n (drop 16 x) (octets-drop 16 x o) (omega (arith, length-drop 16 x))))
    (cases_lt (length x) 16)

pub pieces-pieced : (x : List ℕ) → Octets x → Pieced (pieces x)
pieces-pieced x o = cut-pieced ((length x + 15) / 16) x o refl

pub pieces-glue : (ps : List (List ℕ)) → Pieced ps → pieces (glue ps) ≡ ps
pieces-glue [] h = refl
pieces-glue (p ∷ ps) h =
    ⊎_elim
    (λ (w : Sixteen p × Pieced ps). pieces-cons p (glue ps) w.0.0 ∙ ap (λ qs. p ∷ qs) (pieces-glue ps w.1))
    (λ (w : Part p × (ps ≡ [])).
    ap (λ r. pieces (p ++ glue r)) w.1 ∙ ap pieces (append-nil p) ∙ pieces-one p w.0.0 (omega (arith, w.0.1))
    ∙ ap (λ qs. p ∷ qs) (sym w.1))
    h

pub octets-glue : (ps : List (List ℕ)) → Pieced ps → Octets (glue ps)
octets-glue [] h = λ k. lit< tt
octets-glue (p ∷ ps) h =
    ⊎_elim
    (λ (w : Sixteen p × Pieced ps). octets-append p (glue ps) w.0.1 (octets-glue ps w.1))
    (λ (w : Part p × (ps ≡ [])). subst (λ (qs : List (List ℕ)). Octets (p ++ glue qs)) (sym w.1) (octets-append p [] w.0.2 (λ k. lit< tt)))
    h
