-- One row undoes another: what has to hold of a piece, and of the end of the row.
use Rattle.std.proofs.Common.{◌≡◌, ℕ, ◌≤◌, List, [], ◌∷◌, ◌++◌, length, take, drop, sym, refl, ap, ◌∙◌, subst, ap₂, inl, inr, ⊎_elim, arith}
use Rattle.std.proofs.lemmas.List.{append-nil, length-append, length-take-le, take-append-drop}
use Rattle.blocks.specs.Octets.{Octets, Sixteen}
use Rattle.modes.specs.Pieces.{pieces, glue}
use Rattle.modes.specs.Rows.{Stream, streamed, Steal, stolen, stealing}
use Rattle.modes.specs.Laws.{Undoes, Keeps, Apart}
use Rattle.modes.proofs.Pieces.{Part, Pieced, pieces_more, pieces-pieced, pieces-glue, glue-pieces, octets-glue}
use Rattle.blocks.specs.Octetwise.{octets-take, octets-drop}
use Rattle.modes.proofs.Rows.{stolen-whole, stolen-short}

-- Where reading undoes writing, no two messages share a text.
pub apart : (least : ℕ) (read write : List ℕ → List ℕ) → Undoes least read write → Apart least write
apart least read write u x y ox oy long same e = sym (u x ox long) ∙ ap read e ∙ u y oy (omega arith)

-- B undoes A, whatever Good octets are kept.
pub record StealUndone (Good : List ℕ → Type 0) (A B : Steal) : Type 0 where
  pub whole : (k p : List ℕ) → Good k → Sixteen p → Sixteen (A.turn k p)
  pub keeps : (k p : List ℕ) → Good k → Sixteen p → Good (A.next k p)
  pub back : (k p : List ℕ) → Good k → Sixteen p → B.turn k (A.turn k p) ≡ p
  pub along : (k p : List ℕ) → Good k → Sixteen p → B.next k (A.turn k p) ≡ A.next k p
  pub full : (k p q : List ℕ) → Good k → Sixteen p → Part q → Sixteen (A.full k p q)
  pub last : (k p q : List ℕ) → Good k → Sixteen p → Part q → Part (A.last k p q)
  pub short : (k p q : List ℕ) → Good k → Sixteen p → Part q → length (A.last k p q) ≡ length q
  pub full_back : (k p q : List ℕ) → Good k → Sixteen p → Part q → B.full k (A.full k p q) (A.last k p q) ≡ p
  pub last-back : (k p q : List ℕ) → Good k → Sixteen p → Part q → B.last k (A.full k p q) (A.last k p q) ≡ q

module _ (Good : List ℕ → Type 0) (A B : Steal) (u : StealUndone Good A B) where
  stolen-pieced : (k p : List ℕ) (qs : List (List ℕ)) → Good k → Sixteen p → Pieced qs → Pieced (stolen A k p qs)
  stolen-pieced k p [] o s h = inl (u.whole k p o s, tt)
  stolen-pieced k p (q ∷ qs) o s h =
      ⊎_elim
      (λ (w : Sixteen q × Pieced qs).
      subst Pieced (sym (stolen-whole A k p q qs w.0.0)) (inl (u.whole k p o s, stolen-pieced (A.next k p) q qs (u.keeps k p o s) w.0 w.1)))
      (λ (w : Part q × (qs ≡ [])).
      subst Pieced (sym (stolen-short A k p q qs w.0.1)) (inl (u.full k p q o s w.0, inr (u.last k p q o s w.0, refl))))
      h

  stolen-size : (k p : List ℕ) (qs : List (List ℕ)) → Good k → Sixteen p → Pieced qs → length (glue (stolen A k p qs)) ≡ length (p ++ glue qs)
  stolen-size k p [] o s h = ap length (append-nil (A.turn k p)) ∙ (u.whole k p o s).0 ∙ sym s.0 ∙ ap length (sym (append-nil p))
  stolen-size k p (q ∷ qs) o s h =
      ⊎_elim
      (λ (w : Sixteen q × Pieced qs).
      let r = glue (stolen A (A.next k p) q qs) in
      let e = stolen-size (A.next k p) q qs (u.keeps k p o s) w.0 w.1 in
      ap (λ ps. length (glue ps)) (stolen-whole A k p q qs w.0.0)
      ∙ omega (arith, length-append (A.turn k p) r, length-append p (q ++ glue qs), (u.whole k p o s).0, s.0))
      (λ (w : Part q × (qs ≡ [])).
      let a = A.full k p q in
      let b = A.last k p q in
      ap (λ ps. length (glue ps)) (stolen-short A k p q qs w.0.1)
      ∙ omega (
        arith,
        length-append a (b ++ []),
        length-append b [],
        length-append p (q ++ []),
        length-append q [],
        (u.full k p q o s w.0).0,
        u.short k p q o s w.0,
        s.0,
      )
      ∙ ap (λ z. length (p ++ (q ++ glue z))) (sym w.1))
      h

  pub steal-keeps : (k : List ℕ) → Good k → Keeps 16 (λ x. glue (stealing A k (pieces x)))
  steal-keeps k o x octets big =
      let p = take 16 x in
      let s : Sixteen p = (length-take-le 16 x big, octets-take 16 x octets) in
      let qs = pieces (drop 16 x) in
      let h = pieces-pieced (drop 16 x) (octets-drop 16 x octets) in
      let cut_up = pieces_more x (omega arith) in (
        ap (λ ps. length (glue (stealing A k ps))) cut_up ∙ stolen-size k p qs o s h
            ∙ ap length (ap (λ z. p ++ z) (glue-pieces (drop 16 x)) ∙ take-append-drop 16 x),
        subst (λ (ps : List (List ℕ)). Octets (glue (stealing A k ps))) (sym cut_up) (octets-glue (stolen A k p qs) (stolen-pieced k p qs o s h)),
      )

  -- what A gives begins with a whole piece
  after : (j c k p : List ℕ) (qs : List (List ℕ)) → Good k → Sixteen p → Pieced qs
      → stolen B j c (stolen A k p qs) ≡ B.turn j c ∷ stealing B (B.next j c) (stolen A k p qs)
  after j c k p [] o s h = stolen-whole B j c (A.turn k p) [] (u.whole k p o s).0
  after j c k p (q ∷ qs) o s h =
      ⊎_elim
      (λ (w : Sixteen q × Pieced qs).
      rw (stolen-whole A k p q qs w.0.0) (stolen-whole B j c (A.turn k p) (stolen A (A.next k p) q qs) (u.whole k p o s).0))
      (λ (w : Part q × (qs ≡ [])).
      rw (stolen-short A k p q qs w.0.1) (stolen-whole B j c (A.full k p q) (A.last k p q ∷ []) (u.full k p q o s w.0).0))
      h

  stolen-back : (k p : List ℕ) (qs : List (List ℕ)) → Good k → Sixteen p → Pieced qs → stealing B k (stolen A k p qs) ≡ p ∷ qs
  stolen-back k p [] o s h = ap (λ z. z ∷ []) (u.back k p o s)
  stolen-back k p (q ∷ qs) o s h =
      ⊎_elim
      (λ (w : Sixteen q × Pieced qs).
      let k' = A.next k p in
      let o' = u.keeps k p o s in
      ap (stealing B k) (stolen-whole A k p q qs w.0.0)
      ∙ after k (A.turn k p) k' q qs o' w.0 w.1
      ∙ ap₂ (λ a j. a ∷ stealing B j (stolen A k' q qs)) (u.back k p o s) (u.along k p o s)
      ∙ ap (λ r. p ∷ r) (stolen-back k' q qs o' w.0 w.1))
      (λ (w : Part q × (qs ≡ [])).
      ap (stealing B k) (stolen-short A k p q qs w.0.1)
      ∙ stolen-short B k (A.full k p q) (A.last k p q) [] (u.last k p q o s w.0).1
      ∙ ap₂ (λ a b. a ∷ b ∷ []) (u.full_back k p q o s w.0) (u.last-back k p q o s w.0)
      ∙ ap (λ z. p ∷ q ∷ z) (sym w.1))
      h

  pub steal-undoes : (k : List ℕ) → Good k → Undoes 16 (λ y. glue (stealing B k (pieces y))) (λ x. glue (stealing A k (pieces x)))
  steal-undoes k o x octets big =
      let p = take 16 x in
      let s : Sixteen p = (length-take-le 16 x big, octets-take 16 x octets) in
      let qs = pieces (drop 16 x) in
      let h = pieces-pieced (drop 16 x) (octets-drop 16 x octets) in
      let cut_up = pieces_more x (omega arith) in
      ap (λ ps. glue (stealing B k (pieces (glue (stealing A k ps))))) cut_up
      ∙ ap (λ ps. glue (stealing B k ps)) (pieces-glue (stolen A k p qs) (stolen-pieced k p qs o s h))
      ∙ ap glue (stolen-back k p qs o s h ∙ sym cut_up)
      ∙ glue-pieces x

-- The same of streams, which take a short piece as a whole one.
pub record StreamUndone (A B : Stream) : Type 0 where
  pub size : (k p : List ℕ) → Sixteen k → length p ≤ 16 → length (A.turn k p) ≡ length p
  pub octets : (k p : List ℕ) → Sixteen k → Octets p → Octets (A.turn k p)
  pub keeps : (k p : List ℕ) → Sixteen k → Sixteen p → Sixteen (A.next k p)
  pub back : (k p : List ℕ) → Sixteen k → length p ≤ 16 → B.turn k (A.turn k p) ≡ p
  pub along : (k p : List ℕ) → Sixteen k → Sixteen p → B.next k (A.turn k p) ≡ A.next k p

module _ (A B : Stream) (u : StreamUndone A B) where
  streamed-pieced : (k : List ℕ) (ps : List (List ℕ)) → Sixteen k → Pieced ps → Pieced (streamed A k ps)
  streamed-pieced k [] o h = tt
  streamed-pieced k (p ∷ ps) o h =
      ⊎_elim
      (λ (w : Sixteen p × Pieced ps).
      inl ((u.size k p o (omega (arith, w.0.0)) ∙ w.0.0, u.octets k p o w.0.1), streamed-pieced (A.next k p) ps (u.keeps k p o w.0) w.1))
      (λ (w : Part p × (ps ≡ [])).
      let e = u.size k p o (omega (arith, w.0.1)) in
      inr ((omega (arith, w.0.0), omega (arith, w.0.1), u.octets k p o w.0.2), ap (streamed A (A.next k p)) w.1))
      h

  streamed-size : (k : List ℕ) (ps : List (List ℕ)) → Sixteen k → Pieced ps → length (glue (streamed A k ps)) ≡ length (glue ps)
  streamed-size k [] o h = refl
  streamed-size k (p ∷ ps) o h =
      let a = A.turn k p in
      let r = glue (streamed A (A.next k p) ps) in
      ⊎_elim
      (λ (w : Sixteen p × Pieced ps).
      let e = streamed-size (A.next k p) ps (u.keeps k p o w.0) w.1 in
      omega (arith, length-append a r, length-append p (glue ps), u.size k p o (omega (arith, w.0.0))))
      (λ (w : Part p × (ps ≡ [])).
      ap (λ z. length (a ++ glue (streamed A (A.next k p) z))) w.1
      ∙ omega (arith, length-append a [], length-append p [], u.size k p o (omega (arith, w.0.1)))
      ∙ ap (λ z. length (p ++ glue z)) (sym w.1))
      h

  pub stream-keeps : (k : List ℕ) → Sixteen k → Keeps 0 (λ x. glue (streamed A k (pieces x)))
  stream-keeps k o x octets long =
      let h = pieces-pieced x octets in (
        streamed-size k (pieces x) o h ∙ ap length (glue-pieces x),
        octets-glue (streamed A k (pieces x)) (streamed-pieced k (pieces x) o h),
      )

  streamed-back : (k : List ℕ) (ps : List (List ℕ)) → Sixteen k → Pieced ps → streamed B k (streamed A k ps) ≡ ps
  streamed-back k [] o h = refl
  streamed-back k (p ∷ ps) o h =
      ⊎_elim
      (λ (w : Sixteen p × Pieced ps).
      ap₂ (λ a j. a ∷ streamed B j (streamed A (A.next k p) ps)) (u.back k p o (omega (arith, w.0.0))) (u.along k p o w.0)
      ∙ ap (λ r. p ∷ r) (streamed-back (A.next k p) ps (u.keeps k p o w.0) w.1))
      (λ (w : Part p × (ps ≡ [])).
      ap₂ (λ a z. a ∷ streamed B (B.next k (A.turn k p)) (streamed A (A.next k p) z)) (u.back k p o (omega (arith, w.0.1))) w.1
      ∙ ap (λ z. p ∷ z) (sym w.1))
      h

  pub stream-undoes : (k : List ℕ) → Sixteen k → Undoes 0 (λ y. glue (streamed B k (pieces y))) (λ x. glue (streamed A k (pieces x)))
  stream-undoes k o x octets long =
      let h = pieces-pieced x octets in
      ap (λ ps. glue (streamed B k ps)) (pieces-glue (streamed A k (pieces x)) (streamed-pieced k (pieces x) o h))
      ∙ ap glue (streamed-back k (pieces x) o h) ∙ glue-pieces x
