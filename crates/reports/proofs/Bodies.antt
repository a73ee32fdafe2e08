-- Writing a body and reading it undo one another.
use Rattle.std.proofs.Common.{◌≡◌, ℕ, zero, suc, ◌+◌, ◌*◌, ◌≤◌, List, [], ◌∷◌, ◌++◌, length, take, drop, sym, refl, ap, ◌∙◌, ap₂, arith, lit<}
use Rattle.std.specs.List.{flat_map}
use Rattle.std.proofs.lemmas.List.{length-drop, take-append-drop, drop-drop, nil_from_length}
use Rattle.reports.specs.declared.visit.Visit.{Visit}
use Rattle.blocks.specs.Octets.{Octets}
use Rattle.blocks.specs.Fields.{field, number}
use Rattle.reports.specs.Places.{number_at}
use Rattle.reports.specs.Layout.{Report, letters, head_size, visit_size, body_size, visit_of, head_of, body_of, visit_at, visits_at, wand_at, num_at, count_at, site_at, report_at}
use Rattle.reports.specs.Lawful.{Lawful, LawfulVisit, LawfulVisits}
use Rattle.blocks.proofs.Numbers.{number-field, octets-append}
use Rattle.blocks.specs.Octetwise.{octets-drop}
use Rattle.reports.proofs.FieldsAt.{field_at, octets-all}

-- Reading what was overlaid.
pub visit-there : (last : ℕ) (v : Visit) (rest : List ℕ) → LawfulVisit last v → visit_at (visit_of v ++ rest) ≡ v
visit-there last v rest h =
    let a : number (field 2 v.checkpoint) ≡ v.checkpoint = number-field 2 v.checkpoint h.checkpoint_fits in
    let b : number (field 4 v.serial) ≡ v.serial = number-field 4 v.serial h.serial_fits in
    let d : number (field 4 v.time) ≡ v.time = number-field 4 v.time h.time_fits in
    let e : number (field 4 v.read) ≡ v.read = number-field 4 v.read (omega (arith, h.within)) in
    λ i. record { checkpoint = a i; serial = b i; time = d i; read = e i }

pub visits-there : (last : ℕ) (vs : List Visit) → LawfulVisits last vs → visits_at (length vs) (flat_map visit_of vs) ≡ vs
visits-there last [] h = refl
visits-there last (v ∷ vs) h = ap₂ ◌∷◌ (visit-there last v (flat_map visit_of vs) h.0) (visits-there v.read vs h.1)

pub wand-there : (r : Report) → Lawful r → wand_at (body_of r) ≡ r.wand
wand-there r h = number-field 4 r.wand h.wand_fits

pub num-there : (r : Report) → Lawful r → num_at (body_of r) ≡ r.number
num-there r h = number-field 4 r.number (omega (arith, h.number_within))

pub count-there : (r : Report) → Lawful r → count_at (body_of r) ≡ length r.visits
count-there r h = number-field 2 (length r.visits) (omega (arith, h.few))

pub site-there : (r : Report) → Lawful r → site_at (body_of r) ≡ r.site
site-there r h = number-field 2 r.site h.site_fits

pub report-there : (r : Report) → Lawful r → report_at (length r.visits) (body_of r) ≡ r
report-there r h =
    let a = wand-there r h in
    let b = num-there r h in
    let d = site-there r h in
    let e = visits-there 0 r.visits h.rising in
    λ i. record { wand = a i; number = b i; site = d i; visits = e i }

-- Writing what was read.
take-nil : (n : ℕ) → take {A = ℕ} n [] ≡ []
take-nil zero = refl
take-nil (suc n) = refl

take-add : (a b : ℕ) (x : List ℕ) → take a x ++ take b (drop a x) ≡ take (a + b) x
take-add zero b x = let e : b ≡ zero + b = omega arith in ap (λ n. take n x) e
take-add (suc a) b [] = take-nil b ∙ sym (take-nil (suc a + b))
take-add (suc a) b (y ∷ x) =
    let e : suc (a + b) ≡ suc a + b = omega arith in
    ap (λ r. y ∷ r) (take-add a b x) ∙ ap (λ n. take n (y ∷ x)) e

-- two parts of a text that lie side by side
beside : (at a b : ℕ) (x : List ℕ) → take a (drop at x) ++ take b (drop (at + a) x) ≡ take (a + b) (drop at x)
beside at a b x = ap (λ r. take a (drop at x) ++ take b r) (sym (drop-drop a at x)) ∙ take-add a b (drop at x)

-- a number's field before what was put together already
pub field-beside : (at a b : ℕ) (x y : List ℕ) → Octets x → at + a ≤ length x → y ≡ take b (drop (at + a) x)
    → field a (number_at at a x) ++ y ≡ take (a + b) (drop at x)
field-beside at a b x y o h e = ap₂ ◌++◌ (field_at at a x o h) e ∙ beside at a b x

pub visit-back : (x : List ℕ) → Octets x → visit_size ≤ length x → visit_of (visit_at x) ≡ take visit_size x
visit-back x o h =
    field-beside 0 2 12 x _ o (omega arith)
    (field-beside 2 4 8 x _ o (omega arith)
    (field-beside 6 4 4 x _ o (omega arith)
    (field_at 10 4 x o (omega arith))))

pub visits-back : (n : ℕ) (x : List ℕ) → Octets x → length x ≡ visit_size * n → flat_map visit_of (visits_at n x) ≡ x
visits-back zero x o e = sym (nil_from_length x (omega arith))
visits-back (suc n) x o e =
    ap₂ ◌++◌ (visit-back x o (omega arith)) (visits-back n (drop visit_size x) (octets-drop visit_size x o) (omega (arith, length-drop visit_size x)))
    ∙ take-append-drop visit_size x

pub length-visits_at : (n : ℕ) (x : List ℕ) → length (visits_at n x) ≡ n
length-visits_at zero x = refl
length-visits_at (suc n) x = ap suc (length-visits_at n (drop visit_size x))

head-back : (v : ℕ) (x : List ℕ) → Octets x → head_size ≤ length x → take 4 x ≡ letters → count_at x ≡ v → head_of v (report_at v x) ≡ take head_size x
head-back v x o h l e =
    ap₂ ◌++◌ (sym l)
    (field-beside 4 4 8 x _ o (omega arith)
    (field-beside 8 4 4 x _ o (omega arith)
    (ap (λ n. field 2 n ++ field 2 (site_at x)) (sym e)
    ∙ field-beside 12 2 2 x _ o (omega arith)
    (field_at 14 2 x o (omega arith)))))
    ∙ beside 0 4 12 x

pub body_back : (v : ℕ) (x : List ℕ) → Octets x → length x ≡ body_size v → take 4 x ≡ letters → count_at x ≡ v → body_of (report_at v x) ≡ x
body_back v x o h l e =
    ap (λ n. head_of n (report_at v x) ++ flat_map visit_of (visits_at v (drop head_size x))) (length-visits_at v (drop head_size x))
    ∙ ap₂ ◌++◌ (head-back v x o (omega arith) l e) (visits-back v (drop head_size x) (octets-drop head_size x o) (omega (arith, length-drop head_size x)))
    ∙ take-append-drop head_size x

-- What is overlaid is octets, and so many.
pub length-visits : (vs : List Visit) → length (flat_map visit_of vs) ≡ visit_size * length vs
length-visits [] = refl
length-visits (v ∷ vs) = let e = length-visits vs in omega arith

pub length-body : (r : Report) → length (body_of r) ≡ body_size (length r.visits)
length-body r = let e = length-visits r.visits in omega arith

-- (each octet is a remainder by 256, or a letter)
visit-octets : (v : Visit) → Octets (visit_of v)
visit-octets v = octets-all (visit_of v) (omega arith)

visits-octets : (vs : List Visit) → Octets (flat_map visit_of vs)
visits-octets [] = λ k. lit< tt
visits-octets (v ∷ vs) = octets-append (visit_of v) (flat_map visit_of vs) (visit-octets v) (visits-octets vs)

head-octets : (v : ℕ) (r : Report) → Octets (head_of v r)
head-octets v r = octets-all (head_of v r) (omega arith)

pub body-octets : (r : Report) → Octets (body_of r)
body-octets r =
    octets-append (head_of (length r.visits) r) (flat_map visit_of r.visits) (head-octets (length r.visits) r) (visits-octets r.visits)
