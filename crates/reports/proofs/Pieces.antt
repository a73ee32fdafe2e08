-- A body read in its parts: what stands before the visits, and the pieces that hold a visit each.
use Rattle.std.proofs.Common.{◌≡◌, ℕ, zero, suc, ◌+◌, ◌≤◌, List, ◌∷◌, eqb, ltb, length, take, drop, map, Ok, sym, refl, ap, ◌∙◌, ap₂, arith}
use Rattle.std.specs.Simd.{first_chunks}
use Rattle.std.proofs.lemmas.List.{take-take, drop-take}
use Rattle.reports.specs.declared.visit.Header.{Header}
use Rattle.blocks.specs.Fields.{number}
use Rattle.reports.specs.Places.{number_at}
use Rattle.reports.specs.Layout.{head_size, visit_size, visit_at, visits_at, header_at, letters}
use Rattle.reports.specs.Sealing.{numbered}
use Rattle.std.specs.Str.{bytes_eq}
use Rattle.blocks.specs.declared.answers.Refusal.TheVariants.{ReportHeader}
use Rattle.reports.specs.Faults.{in_body, rule, or_else, unless}
use Rattle.reports.specs.Opening.{head_fault, visits_fault, body_fault}

-- A number that stands in the first n octets.
at-take : (at w n k : ℕ) (x : List ℕ) → at + k ≡ n → w ≤ k → number_at at w (take n x) ≡ number_at at w x
at-take at w n k x e h =
    ap (λ j. number_at at w (take j x)) (sym e)
    ∙ ap (number_at 0 w) (drop-take at k x)
    ∙ ap number (take-take w k (drop at x) h)

visit-take : (x : List ℕ) → visit_at (take visit_size x) ≡ visit_at x
visit-take x =
    let a = at-take 0 2 14 14 x refl (omega arith) in
    let b = at-take 2 4 14 12 x refl (omega arith) in
    let d = at-take 6 4 14 8 x refl (omega arith) in
    let e = at-take 10 4 14 4 x refl (omega arith) in
    λ i. record { checkpoint = a i; serial = b i; time = d i; read = e i }

visits-pieces : (n : ℕ) (x : List ℕ) → map visit_at (first_chunks visit_size n x) ≡ visits_at n x
visits-pieces zero x = refl
visits-pieces (suc n) x = ap₂ ◌∷◌ (visit-take x) (visits-pieces n (drop visit_size x))

length-pieces : (n : ℕ) (x : List ℕ) → length (first_chunks visit_size n x) ≡ n
length-pieces zero x = refl
length-pieces (suc n) x = ap suc (length-pieces n (drop visit_size x))

head-take : (v : ℕ) (x : List ℕ) → head_fault v (take head_size x) ≡ head_fault v x
head-take v x =
    let l = take-take 4 16 x (omega arith) in
    let w = at-take 4 4 16 12 x refl (omega arith) in
    let n = at-take 8 4 16 8 x refl (omega arith) in
    let k = at-take 12 2 16 4 x refl (omega arith) in
    let s = at-take 14 2 16 2 x refl (omega arith) in
    λ i.
    or_else (rule (bytes_eq (l i) letters) (in_body ReportHeader 0))
    (or_else (rule (ltb 0 (w i)) (in_body ReportHeader 4))
    (or_else (rule (numbered (n i)) (in_body ReportHeader 8))
    (or_else (rule (eqb (k i) v) (in_body ReportHeader 12))
    (rule (ltb 0 (s i)) (in_body ReportHeader 14)))))

header-take : (x : List ℕ) → header_at (take head_size x) ≡ header_at x
header-take x =
    let w = at-take 4 4 16 12 x refl (omega arith) in
    let n = at-take 8 4 16 8 x refl (omega arith) in
    let s = at-take 14 2 16 2 x refl (omega arith) in
    λ i. record { wand = w i; number = n i; site = s i }

-- What is read in parts is what the body says.
pub read-parts : (v : ℕ) (x head : List ℕ) (pieces : List (List ℕ)) → head ≡ take head_size x → pieces ≡ first_chunks visit_size v (drop head_size x)
    → unless {A = Header} (or_else (head_fault (length pieces) head) (visits_fault head_size 0 (map visit_at pieces))) (Ok (header_at head))
    ≡ unless (body_fault v x) (Ok (header_at x))
read-parts v x head pieces e p =
    let h : head_fault (length pieces) head ≡ head_fault v x =
    ap₂ head_fault (ap length p ∙ length-pieces v (drop head_size x)) e ∙ head-take v x in
    let vs : map visit_at pieces ≡ visits_at v (drop head_size x) = ap (map visit_at) p ∙ visits-pieces v (drop head_size x) in
    let k : header_at head ≡ header_at x = ap header_at e ∙ header-take x in
    λ i. unless (or_else (h i) (visits_fault head_size 0 (vs i))) (Ok (k i))

-- The pieces of a body, as its visits.
pub pieces-are : (v k : ℕ) (x y : List ℕ) (pieces : List (List ℕ)) → pieces ≡ first_chunks visit_size k (drop head_size x) → k ≡ v → x ≡ y
    → (map visit_at pieces ≡ visits_at v (drop head_size y)) × (length pieces ≡ v)
pieces-are v k x y pieces p n e = (
  ap (map visit_at) p ∙ visits-pieces k (drop head_size x) ∙ ap₂ (λ j z. visits_at j (drop head_size z)) n e,
  ap length p ∙ length-pieces k (drop head_size x) ∙ n,
)
