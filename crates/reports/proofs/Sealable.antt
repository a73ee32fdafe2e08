-- What is sealed: the text, put together of its parts; and a list that breaks a rule, which is not.
use Rattle.std.proofs.Common.{◌++◌, ◌≡◌, ℕ, true, List, [], ◌∷◌, length, Some, None, Err, refl}
use Rattle.std.proofs.lemmas.Bool.{and_from, lt-ltb, le-leb}
use Rattle.blocks.specs.Steps.{Step}
use Rattle.blocks.specs.declared.answers.Refusal.{Refusal}
use Rattle.reports.specs.declared.visit.Visit.{Visit}
use Rattle.reports.specs.Layout.{Report, most_visits, body_of}
use Rattle.reports.specs.Lawful.{Lawful, LawfulVisits, most_number}
use Rattle.reports.specs.Sealing.{sealer, sealed, start_of, enciphered, sum_of, visits_ok, head_ok, law_broken}
use Rattle.reports.specs.Exact.{SealsExactly}

-- Lawful visits pass the test, and so does what stands before them.
visits-pass : (last : ℕ) (vs : List Visit) → LawfulVisits last vs → visits_ok last vs ≡ true
visits-pass last [] h = refl
visits-pass last (v ∷ vs) h =
    and_from _ _
    (and_from _ _ (lt-ltb 0 v.checkpoint h.0.named) (and_from _ _ (lt-ltb last v.read h.0.later) (le-leb v.read most_number h.0.within)))
    (visits-pass v.read vs h.1)

head-pass : (r : Report) → Lawful r → head_ok r ≡ true
head-pass r h =
    and_from _ _ (lt-ltb 0 r.wand h.wand_named)
    (and_from _ _ (and_from _ _ (lt-ltb 0 r.number h.numbered) (le-leb r.number most_number h.number_within))
    (and_from _ _ (lt-ltb 0 r.site h.site_named) (le-leb (length r.visits) most_visits h.few)))

none-broken : (r : Report) → Lawful r → law_broken r ≡ None
none-broken r h = rw (head-pass r h, visits-pass 0 r.visits h.rising)

pub seals-refused : (r : Report) (room : ℕ) (e : Refusal) → law_broken r ≡ Some e → SealsExactly r room (Err e)
seals-refused r room e p = record {
  only = λ n q. absurd (cc);
  every = λ h fits. let k : law_broken r ≡ None = none-broken r h in cc;
}

pub sealed_is : (m k n : Step) (r : Report) (body start first mixed sum : List ℕ) → body ≡ body_of r → start ≡ start_of m r.wand r.number → n ≡ m → first ≡ start
    → mixed ≡ enciphered n start body → sum ≡ sum_of k.image (first ++ mixed) → first ++ mixed ++ sum ≡ sealed (sealer m k) r
unfolding sealed
sealed_is m k n r body start first mixed sum b s same f e z = cc
