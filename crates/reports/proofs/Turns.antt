-- The turns of the loop that writes the visits of a body.
use Rattle.std.proofs.Common.{◌≡◌, ℕ, ◌+◌, ◌*◌, ◌<◌, ◌≤◌, List, [], ◌++◌, length, get_or, take, drop, sym, ap, ◌∙◌, ap₂, arith}
use Rattle.std.specs.List.{flat_map}
use Rattle.std.proofs.lemmas.List.{append_assoc, flat_map_more, length-append, length-take-le, take_at, take_more}
use Rattle.reports.specs.declared.visit.Visit.{Visit}
use Rattle.reports.specs.Places.{overlaid}
use Rattle.reports.specs.Layout.{visit_size, visit_of}

-- what stands before the end of x, once x is overlaid
take-overlaid : (at n : ℕ) (x old : List ℕ) → at + length x ≡ n → at ≤ length old → take n (overlaid at x old) ≡ take at old ++ x
take-overlaid at n x old e h =
    let front = take at old ++ x in
    let rest = drop (at + length x) old in
    ap (take n) (sym (append_assoc (take at old) x rest)) ∙ take_at front rest n (omega (arith, length-append (take at old) x, length-take-le at old h))

pub write-visits-more : (vs : List Visit) (i : ℕ) (d : Visit) (x old new : List ℕ) → i < length vs → length old ≡ visit_size * length vs
    → take (visit_size * i) old ≡ flat_map visit_of (take i vs) → x ≡ visit_of (get_or vs i d) → new ≡ overlaid (visit_size * i) x old
    → take (visit_size * (i + 1)) new ≡ flat_map visit_of (take (i + 1) vs)
write-visits-more vs i d x old new h l p e q =
    ap (take (visit_size * (i + 1))) q
    ∙ take-overlaid (visit_size * i) (visit_size * (i + 1)) x old (omega (arith, ap length e)) (omega arith)
    ∙ ap₂ ◌++◌ p e ∙ flat_map_more visit_of [] (take i vs) (get_or vs i d) ∙ ap (flat_map visit_of) (sym (take_more vs i d h))
