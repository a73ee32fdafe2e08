-- What adding and taking do to the two chains, over the next numbers alone.
use Rattle.std.proofs.Common.{◌≡◌, ℕ, zero, suc, ◌+◌, ◌-◌, ◌<◌, ◌≤◌, cond, eqb, ltb, List, [], ◌∷◌, ◌++◌, length, sym, refl, ap, ◌∙◌, subst, ⊎_elim, append_assoc, arith}
use Rattle.std.proofs.lemmas.List.{length-append}
use Rattle.std.proofs.lemmas.Bool.{ne_eqb, cond-true, cond-false, le-ltb, lt-ltb, cases_lt}
use Rattle.books.specs.Walks.{after, put, numbers, times, last_of}
use Rattle.books.specs.Chains.{cell_times, Parted, SoundAt}
use Rattle.books.specs.declared.links.Chain.{Chain}
use Rattle.books.proofs.Roads.{Road, road-walk, walk-road, length-put, after-put-other, after-put-same, times-append, times-here, times_none, road-put, road-append, road-cut, split-last, last_of-push}

-- The two chains as roads over the numbers used and rest.
pub record Held (nx : List ℕ) (c : Chain) (used rest : List ℕ) : Type 0 where
  pub in_use : Road nx c.first used 0
  pub unused : Road nx c.free rest 0
  pub parted : Parted (length nx) c used rest

pub held : (nx : List ℕ) (c : Chain) → SoundAt nx c → Held nx c (numbers nx c.first) (numbers nx c.free)
held nx c s = record {
  in_use = road-walk nx (suc (length nx)) c.first (omega (arith, s.0));
  unused = road-walk nx (suc (length nx)) c.free (omega (arith, s.0));
  parted = s;
}

module _ (nx : List ℕ) (c : Chain) (used rest : List ℕ) (h : Held nx c used rest) where
  pub used-is : numbers nx c.first ≡ used
  used-is = walk-road nx used (suc (length nx)) c.first h.in_use (omega (arith, h.parted.0))

  pub rest-is : numbers nx c.free ≡ rest
  rest-is = walk-road nx rest (suc (length nx)) c.free h.unused (omega (arith, h.parted.0))

  pub sound : SoundAt nx c
  sound =
      let P : List ℕ → Type 0 = λ u. Parted (length nx) c u rest in
      let Q : List ℕ → Type 0 = λ r. Parted (length nx) c (numbers nx c.first) r in
      subst Q (sym rest-is) (subst P (sym used-is) h.parted)

pub cell-once : (n k : ℕ) → 0 < k → k ≤ n → cell_times n k ≡ 1
cell-once n zero l m = absurd (omega arith)
cell-once n (suc i) l m = cond-true (ltb i n) 1 0 (lt-ltb i n m)

pub cell-past : (n k : ℕ) → n < k → cell_times n k ≡ 0
cell-past n zero l = refl
cell-past n (suc i) l = cond-false (ltb i n) 1 0 (le-ltb i n (omega arith))

-- A number that stands on a chain is a cell's.
pub in-range : (n : ℕ) (c : Chain) (used rest : List ℕ) → Parted n c used rest → (k : ℕ) → 0 < times k used + times k rest → k ≤ n
in-range n c used rest p k t =
    ⊎_elim (λ (l : n < k). absurd (omega (arith, p.1 k, cell-past n k l))) (λ (l : k ≤ n). l) (cases_lt n k)

-- And a cell stands on exactly one of them.
pub on_one : (n : ℕ) (c : Chain) (used rest : List ℕ) → Parted n c used rest → (k : ℕ) → 0 < k → k ≤ n → times k used + times k rest ≡ 1
on_one n c used rest p k l m = p.1 k ∙ cell-once n k l m

-- A chain begins with its first cell, and has a last one where it has any.
pub road-first : (nx xs : List ℕ) (n : ℕ) → Road nx n xs 0 → 0 < n → (ys : List ℕ) × (xs ≡ n ∷ ys)
road-first nx [] n r h = absurd (omega arith)
road-first nx (x ∷ xs) n r h = (xs, ap (λ y. y ∷ xs) (sym r.0))

last-pos : (nx xs : List ℕ) (n e : ℕ) → Road nx n xs e → 0 < length xs → 0 < last_of xs
last-pos nx [] n e r h = absurd (omega arith)
last-pos nx (x ∷ []) n e r h = r.1
last-pos nx (x ∷ (y ∷ ys)) n e r h = last-pos nx (y ∷ ys) (after nx x) e r.2 (omega arith)

-- Every number on the used chain is a cell's.
road-pos : (nx xs : List ℕ) (n e : ℕ) → Road nx n xs e → times 0 xs ≡ 0
road-pos nx [] n e r = refl
road-pos nx (x ∷ xs) n e r =
    let u : cond {A = ℕ} (eqb 0 x) 1 0 ≡ 0 = cond-false (eqb 0 x) 1 0 (ne_eqb 0 x (λ z. omega (arith, r.1))) in
    omega (arith, road-pos nx xs (after nx x) e r.2)

pub ranged : (nx : List ℕ) (c : Chain) (used rest : List ℕ) → Held nx c used rest → (k : ℕ) → 0 < times k used → (0 < k) × (k ≤ length nx)
ranged nx c used rest h zero t = absurd (omega (arith, road-pos nx used c.first 0 h.in_use))
ranged nx c used rest h (suc i) t = (omega arith, in-range (length nx) c used rest h.parted (suc i) (omega arith))

-- The first free cell becomes the last used one.
module _ (nx : List ℕ) (c : Chain) where
  pub fresh : (used rest : List ℕ) → Held nx c used (c.free ∷ rest) → (0 < c.free) × (c.free ≤ length nx) × (times c.free used ≡ 0) × (times c.free rest ≡ 0)
  fresh used rest h =
      let f : ℕ = c.free in
      let l : 0 < f = h.unused.1 in
      let b : times f (f ∷ rest) ≡ 1 + times f rest = times-here f rest in
      let r : f ≤ length nx = in-range (length nx) c used (f ∷ rest) h.parted f (omega arith) in
      let o : times f used + times f (f ∷ rest) ≡ 1 = on_one (length nx) c used (f ∷ rest) h.parted f l r in
      (l, r, omega arith, omega arith)

  -- The chain afterwards, from its first cell.
  abbrev pub longer : ℕ → Chain
  longer first = record { first = first; last = c.free; free = after nx c.free; count = c.count + 1 }

  add-parted : (n first : ℕ) (used rest : List ℕ) → Parted n c used (c.free ∷ rest) → Parted n (longer first) (used ++ c.free ∷ []) rest
  add-parted n first used rest p =
      let f : ℕ = c.free in
      let a : length (used ++ f ∷ []) ≡ length used + 1 = length-append used (f ∷ []) in (
        omega (arith, p.0),
        λ k. (let t : times k (used ++ f ∷ []) ≡ times k used + times k (f ∷ []) = times-append k used (f ∷ []) in omega (arith, p.1 k)),
        sym (last_of-push used f),
        omega (arith, p.3),
        p.4,
      )

  pub add-first : (used rest : List ℕ) → Held nx c used (c.free ∷ rest) → c.last ≡ 0 → Held (put nx c.free 0) (longer c.free) (used ++ c.free ∷ []) rest
  add-first [] rest h z =
      let f : ℕ = c.free in
      let t = fresh [] rest h in
      let P : ℕ → Type 0 = λ n. Parted n (longer f) ([] ++ f ∷ []) rest in
      record {
        in_use = (refl, t.0, after-put-same nx f 0 t.0 t.1);
        unused = road-put nx f 0 rest (after nx f) 0 t.3 h.unused.2;
        parted = subst P (sym (length-put nx f 0)) (add-parted (length nx) f [] rest h.parted);
      }
  add-first (x ∷ xs) rest h z =
      absurd (omega (arith, last-pos nx (x ∷ xs) c.first 0 h.in_use (omega arith), h.parted.2))

  add-more-at : (front rest : List ℕ) → Held nx c (front ++ c.last ∷ []) (c.free ∷ rest) →
      Held (put (put nx c.free 0) c.last c.free) (longer c.first) ((front ++ c.last ∷ []) ++ c.free ∷ []) rest
  add-more-at front rest h =
      let f : ℕ = c.free in
      let e : ℕ = c.last in
      let used : List ℕ = front ++ e ∷ [] in
      let t = fresh used rest h in
      let k = road-cut nx front e c.first 0 h.in_use in
      let a : times e used ≡ times e front + times e (e ∷ []) = times-append e front (e ∷ []) in
      let b : times e (e ∷ []) ≡ 1 + 0 = times-here e [] in
      let r : e ≤ length nx = in-range (length nx) c used (f ∷ rest) h.parted e (omega arith) in
      let o : times e used + times e (f ∷ rest) ≡ 1 = on_one (length nx) c used (f ∷ rest) h.parted e k.1 r in
      let d = times_none e f rest (omega arith) in
      let g : times f used ≡ times f front + times f (e ∷ []) = times-append f front (e ∷ []) in
      let nx₁ : List ℕ = put nx f 0 in
      let nx₂ : List ℕ = put nx₁ e f in
      let len : length nx₂ ≡ length nx = length-put nx₁ e f ∙ length-put nx f 0 in
      let tf : times f front ≡ 0 = omega (arith, t.2) in
      let te : times e front ≡ 0 = omega arith in
      let front' : Road nx₂ c.first front e = road-put nx₁ e f front c.first e te (road-put nx f 0 front c.first e tf k.0) in
      let at-e : after nx₂ e ≡ f = after-put-same nx₁ e f k.1 (omega (arith, length-put nx f 0)) in
      let at_f : after nx₂ f ≡ 0 = after-put-other nx₁ e f f d.0 ∙ after-put-same nx f 0 t.0 t.1 in
      let P : ℕ → Type 0 = λ n. Parted n (longer c.first) (used ++ f ∷ []) rest in
      let R : List ℕ → Type 0 = λ xs. Road nx₂ c.first xs 0 in
      record {
        in_use = subst R (sym (append_assoc front (e ∷ []) (f ∷ []))) (road-append nx₂ front (e ∷ (f ∷ [])) c.first e 0 front' (refl, k.1, (at-e, t.0, at_f)));
        unused = road-put nx₁ e f rest (after nx f) 0 d.1 (road-put nx f 0 rest (after nx f) 0 t.3 h.unused.2);
        parted = subst P (sym len) (add-parted (length nx) c.first used rest h.parted);
      }

  pub add-more : (used rest : List ℕ) → Held nx c used (c.free ∷ rest) → 0 < c.last →
      Held (put (put nx c.free 0) c.last c.free) (longer c.first) (used ++ c.free ∷ []) rest
  add-more [] rest h p = absurd (omega (arith, h.parted.2))
  add-more (x ∷ xs) rest h p =
      let s = split-last (x ∷ xs) (omega arith) in
      let e : x ∷ xs ≡ s.0 ++ c.last ∷ [] = s.1 ∙ ap (λ y. s.0 ++ y ∷ []) (sym h.parted.2) in
      let P : List ℕ → Type 0 = λ u. Held nx c u (c.free ∷ rest) in
      let Q : List ℕ → Type 0 = λ u. Held (put (put nx c.free 0) c.last c.free) (longer c.first) (u ++ c.free ∷ []) rest in
      subst Q (sym e) (add-more-at s.0 rest (subst P e h))

-- The first used cell becomes the first free one.
module _ (nx : List ℕ) (c : Chain) where
  pub leaving : (used rest : List ℕ) → Held nx c (c.first ∷ used) rest → (0 < c.first) × (c.first ≤ length nx) × (times c.first used ≡ 0) × (times c.first rest ≡ 0)
  leaving used rest h =
      let u : ℕ = c.first in
      let l : 0 < u = h.in_use.1 in
      let b : times u (u ∷ used) ≡ 1 + times u used = times-here u used in
      let r : u ≤ length nx = in-range (length nx) c (u ∷ used) rest h.parted u (omega arith) in
      let o : times u (u ∷ used) + times u rest ≡ 1 = on_one (length nx) c (u ∷ used) rest h.parted u l r in
      (l, r, omega arith, omega arith)

  -- The chain afterwards, with its last cell.
  abbrev pub shorter : ℕ → Chain
  shorter last = record { first = after nx c.first; last = last; free = c.first; count = c.count - 1 }

  take-parted : (n last : ℕ) (used rest : List ℕ) → Parted n c (c.first ∷ used) rest → last ≡ last_of used → Parted n (shorter last) used (c.first ∷ rest)
  take-parted n last used rest p e =
      (omega (arith, p.0), λ k. omega (arith, p.1 k), e, omega (arith, p.3), p.4)

  pub take-held : (last : ℕ) (used rest : List ℕ) → Held nx c (c.first ∷ used) rest → last ≡ last_of used → Held (put nx c.first c.free) (shorter last) used (c.first ∷ rest)
  take-held last used rest h e =
      let u : ℕ = c.first in
      let t = leaving used rest h in
      let P : ℕ → Type 0 = λ n. Parted n (shorter last) used (u ∷ rest) in
      let R : ℕ → Type 0 = λ m. Road (put nx u c.free) m rest 0 in
      record {
        in_use = road-put nx u c.free used (after nx u) 0 t.2 h.in_use.2;
        unused = (refl, t.0, subst R (sym (after-put-same nx u c.free t.0 t.1)) (road-put nx u c.free rest c.free 0 t.3 h.unused));
        parted = subst P (sym (length-put nx u c.free)) (take-parted (length nx) last used rest h.parted e);
      }

-- The last of what is left.
pub left-none : (nx used : List ℕ) (n : ℕ) → Road nx n used 0 → n ≡ 0 → 0 ≡ last_of used
left-none nx [] n r z = refl
left-none nx (x ∷ xs) n r z = absurd (omega arith)

pub left-some : (nx used : List ℕ) (u n : ℕ) → Road nx n used 0 → 0 < n → last_of (u ∷ used) ≡ last_of used
left-some nx [] u n r z = absurd (omega arith)
left-some nx (x ∷ xs) u n r z = refl
