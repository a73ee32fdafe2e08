-- The laws of the modes.
use Rattle.std.proofs.Common.{◌≡◌, ℕ, ◌+◌, ◌-◌, ◌%◌, ◌^◌, ◌≤◌, List, [], ◌++◌, length, take, drop, replicate, sym, refl, ap, ◌∙◌, subst, ap₂, arith}
use Rattle.std.proofs.lemmas.List.{length-append, length-drop, length-take-le, take_at, drop_at, take-append-drop}
use Rattle.blocks.specs.Octets.{Octets, Sixteen, xor_each}
use Rattle.blocks.specs.Fields.{number}
use Rattle.blocks.proofs.Numbers.{length-field, octets-field, octets-append}
use Rattle.blocks.specs.Octetwise.{length-xor_each-front, octets-xor_each, xor_each-comm, xor_each-undo, xor_each-undo-front, xor_each-sixteen, xor_each-append, xor_each-zeros, octets-take, octets-drop}
use Rattle.modes.specs.Modes.{ecb_row, ecb, cbc_forth, cbc_encrypt, cbc_back, cbc_decrypt, zeroed, cfb_forth, cfb_encrypt, cfb_back, cfb_decrypt, counted, ctr_row, ctr}
use Rattle.blocks.specs.Steps.{Lands}
use Rattle.modes.specs.Laws.{EcbDecryptUndoes, EcbEncryptUndoes, EcbKeeps, EcbApart, CbcDecryptUndoes, CbcEncryptUndoes, CbcKeeps, CbcApart, CfbDecryptUndoes, CfbEncryptUndoes, CfbKeeps, CfbApart, CtrUndoes, CtrKeeps, CtrApart}
use Rattle.modes.proofs.Pieces.{Part}
use Rattle.modes.proofs.Mixes.{xor-filled}
use Rattle.modes.proofs.Undoing.{StealUndone, steal-undoes, steal-keeps, StreamUndone, stream-undoes, stream-keeps, apart}

-- A short piece that is filled up from c, and what c lends.
module _ (q c : List ℕ) (h : Part q) (s : Sixteen c) where
  pub filled : (d : List ℕ) → Octets d → length d ≡ length q → Sixteen (d ++ drop (length q) c)
  filled d o e = (
    omega (arith, length-append d (drop (length q) c), length-drop (length q) c),
    octets-append d (drop (length q) c) o (octets-drop (length q) c s.1),
  )

  pub lent : length (take (length q) c) ≡ length q
  lent = length-take-le (length q) c (omega arith)

  pub lent-part : Part (take (length q) c)
  lent-part = (omega (arith, lent, h.0), omega (arith, lent, h.1), octets-take (length q) c s.1)

ecb-undone : (f g : List ℕ → List ℕ) → Lands f → ((p : List ℕ) → Sixteen p → g (f p) ≡ p) → StealUndone (λ k. Unit {0}) (ecb_row f) (ecb_row g)
ecb-undone f g land undo =
    let full : List ℕ → List ℕ → List ℕ = λ p q. q ++ drop (length q) (f p) in
    let full_back : (p q : List ℕ) → Sixteen p → Part q → g (f (full p q)) ≡ full p q = λ p q s h. undo _ (filled q (f p) h (land p s) q h.2 refl) in
    record {
      whole = λ k p o s. land p s;
      keeps = λ k p o s. tt;
      back = λ k p o s. undo p s;
      along = λ k p o s. refl;
      full = λ k p q o s h. land _ (filled q (f p) h (land p s) q h.2 refl);
      last = λ k p q o s h. lent-part q (f p) h (land p s);
      short = λ k p q o s h. lent q (f p) h (land p s);
      full_back = λ k p q o s h.
          ap g (ap₂ (λ n z. take (length q) (f p) ++ drop n z) (lent q (f p) h (land p s)) (full_back p q s h)
          ∙ ap (λ z. take (length q) (f p) ++ z) (drop_at q (drop (length q) (f p)) (length q) refl)
          ∙ take-append-drop (length q) (f p))
          ∙ undo p s;
      last-back = λ k p q o s h.
          ap₂ take (lent q (f p) h (land p s)) (full_back p q s h) ∙ take_at q (drop (length q) (f p)) (length q) refl;
    }

pub ecb-decrypt-undoes : EcbDecryptUndoes
ecb-decrypt-undoes m r = steal-undoes _ _ _ (ecb-undone m.image m.preimage r.forth r.undone) [] tt

pub ecb-encrypt-undoes : EcbEncryptUndoes
ecb-encrypt-undoes m r = steal-undoes _ _ _ (ecb-undone m.preimage m.image r.back r.met) [] tt

pub ecb-keeps : EcbKeeps
ecb-keeps m r = (
  steal-keeps _ _ _ (ecb-undone m.image m.preimage r.forth r.undone) [] tt,
  steal-keeps _ _ _ (ecb-undone m.preimage m.image r.back r.met) [] tt,
)

pub ecb-apart : EcbApart
ecb-apart m r = apart 16 (ecb m.preimage) (ecb m.image) (ecb-decrypt-undoes m r)

-- The short piece q mixed with zeros past it.
module _ (q v : List ℕ) (h : Part q) (s : Sixteen v) where
  mixed : xor_each v (zeroed q) ≡ xor_each q (take (length q) v) ++ drop (length q) v
  mixed = xor_each-comm v (zeroed q) ∙ xor-filled q v (16 - length q) (omega (arith, h.1))

  mixed-length : length (xor_each q (take (length q) v)) ≡ length q
  mixed-length = length-xor_each-front q (take (length q) v) (omega (arith, lent q v h s))

  mixed-sixteen : Sixteen (xor_each q (take (length q) v) ++ drop (length q) v)
  mixed-sixteen =
      filled q v h s (xor_each q (take (length q) v)) (octets-xor_each q (take (length q) v) h.2 (octets-take (length q) v s.1)) mixed-length

module _ (f g : List ℕ → List ℕ) (land : Lands f) (undo : (p : List ℕ) → Sixteen p → g (f p) ≡ p) where
  -- At the end of encryption, with c the answer to the piece before the short one.
  module _ (q c : List ℕ) (h : Part q) (s : Sixteen c) where
    lent_back : xor_each (g (f (xor_each q (take (length q) c) ++ drop (length q) c))) (zeroed (take (length q) c)) ≡ q ++ drop (length q) c
    lent_back =
        let n = length q in
        let e = take n c in
        let r = drop n c in
        ap (λ z. xor_each z (zeroed e)) (undo _ (mixed-sixteen q c h s))
        ∙ xor_each-append (xor_each q e) r e (replicate (16 - length e) 0) (mixed-length q c h s ∙ sym (lent q c h s))
        ∙ ap₂ ◌++◌ (xor_each-undo-front q e (omega (arith, lent q c h s))) (xor_each-zeros r (16 - length e) (omega (arith, length-drop n c, lent q c h s)))

    lent-full : take (length q) c ++ drop (length (take (length q) c)) (xor_each (g (f (xor_each q (take (length q) c) ++ drop (length q) c))) (zeroed (take (length q) c))) ≡ c
    lent-full =
        ap₂ (λ a b. take (length q) c ++ drop a b) (lent q c h s) lent_back
        ∙ ap (λ z. take (length q) c ++ z) (drop_at q (drop (length q) c) (length q) refl) ∙ take-append-drop (length q) c

    lent-last : take (length (take (length q) c)) (xor_each (g (f (xor_each q (take (length q) c) ++ drop (length q) c))) (zeroed (take (length q) c))) ≡ q
    lent-last = ap₂ take (lent q c h s) lent_back ∙ take_at q (drop (length q) c) (length q) refl

  cbc-forth-undone : StealUndone Sixteen (cbc_forth f) (cbc_back g)
  cbc-forth-undone =
      let c-sixteen : (k p : List ℕ) → Sixteen k → Sixteen p → Sixteen (f (xor_each p k)) = λ k p o s. land _ (xor_each-sixteen p k s o) in
      let back : (k p : List ℕ) → Sixteen k → Sixteen p → xor_each (g (f (xor_each p k))) k ≡ p =
      λ k p o s. ap (λ z. xor_each z k) (undo _ (xor_each-sixteen p k s o)) ∙ xor_each-undo p k (s.0 ∙ sym o.0) in
      record {
        whole = c-sixteen;
        keeps = c-sixteen;
        back = back;
        along = λ k p o s. refl;
        full = λ k p q o s h. land _ (mixed-sixteen q (f (xor_each p k)) h (c-sixteen k p o s));
        last = λ k p q o s h. lent-part q (f (xor_each p k)) h (c-sixteen k p o s);
        short = λ k p q o s h. lent q (f (xor_each p k)) h (c-sixteen k p o s);
        full_back = λ k p q o s h. ap (λ z. xor_each (g z) k) (lent-full q (f (xor_each p k)) h (c-sixteen k p o s)) ∙ back k p o s;
        last-back = λ k p q o s h. lent-last q (f (xor_each p k)) h (c-sixteen k p o s);
      }

  -- At the end of decryption, with v the piece before the short one, stepped back (here by f, and forward by g).
  module _ (q v k : List ℕ) (h : Part q) (s : Sixteen v) (o : Sixteen k) where
    w-sixteen : Sixteen (xor_each v (zeroed q))
    w-sixteen = subst Sixteen (sym (mixed q v h s)) (mixed-sixteen q v h s)

    w-rest : drop (length q) (xor_each v (zeroed q)) ≡ drop (length q) v
    w-rest = ap (drop (length q)) (mixed q v h s) ∙ drop_at (xor_each q (take (length q) v)) (drop (length q) v) (length q) (mixed-length q v h s)

    w-front : take (length q) (xor_each v (zeroed q)) ≡ xor_each q (take (length q) v)
    w-front = ap (take (length q)) (mixed q v h s) ∙ take_at (xor_each q (take (length q) v)) (drop (length q) v) (length q) (mixed-length q v h s)

    w-filled : Sixteen (q ++ drop (length q) (xor_each v (zeroed q)))
    w-filled = filled q _ h w-sixteen q h.2 refl

    y-is : g (xor_each (xor_each (f (q ++ drop (length q) (xor_each v (zeroed q)))) k) k) ≡ q ++ drop (length q) v
    y-is =
        ap g (xor_each-undo (f (q ++ drop (length q) (xor_each v (zeroed q)))) k ((land _ w-filled).0 ∙ sym o.0))
        ∙ undo _ w-filled ∙ ap (λ z. q ++ z) w-rest

    y-full : (e y : List ℕ) → e ≡ take (length q) (xor_each v (zeroed q)) → y ≡ q ++ drop (length q) v → xor_each e (take (length e) y) ++ drop (length e) y ≡ v
    y-full e y e-is is =
        let n = length q in
        let t = take n v in
        let e-length : length e ≡ n = ap length e-is ∙ lent q _ h w-sixteen in
        ap₂ (λ a z. xor_each e (take a z) ++ drop a z) e-length is
        ∙ ap₂ (λ a z. xor_each e a ++ z) (take_at q (drop n v) n refl) (drop_at q (drop n v) n refl)
        ∙ ap (λ z. z ++ drop n v)
        (ap (λ z. xor_each z q) (e-is ∙ w-front ∙ xor_each-comm q t) ∙ xor_each-undo t q (lent q v h s))
        ∙ take-append-drop n v

  cbc-back-undone : StealUndone Sixteen (cbc_back f) (cbc_forth g)
  cbc-back-undone =
      let back : (k p : List ℕ) → Sixteen k → Sixteen p → g (xor_each (xor_each (f p) k) k) ≡ p =
      λ k p o s. ap g (xor_each-undo (f p) k ((land p s).0 ∙ sym o.0)) ∙ undo p s in
      record {
        whole = λ k p o s. xor_each-sixteen (f p) k (land p s) o;
        keeps = λ k p o s. s;
        back = back;
        along = back;
        full = λ k p q o s h. xor_each-sixteen _ k (land _ (w-filled q (f p) k h (land p s) o)) o;
        last = λ k p q o s h. lent-part q _ h (w-sixteen q (f p) k h (land p s) o);
        short = λ k p q o s h. lent q _ h (w-sixteen q (f p) k h (land p s) o);
        full_back = λ k p q o s h. ap g (y-full q (f p) k h (land p s) o _ _ refl (y-is q (f p) k h (land p s) o)) ∙ undo p s;
        last-back = λ k p q o s h.
            ap₂ take (lent q _ h (w-sixteen q (f p) k h (land p s) o)) (y-is q (f p) k h (land p s) o) ∙ take_at q (drop (length q) (f p)) (length q) refl;
      }

pub cbc-decrypt-undoes : CbcDecryptUndoes
cbc-decrypt-undoes m r = steal-undoes _ _ _ (cbc-forth-undone m.image m.preimage r.forth r.undone)

pub cbc-encrypt-undoes : CbcEncryptUndoes
cbc-encrypt-undoes m r = steal-undoes _ _ _ (cbc-back-undone m.preimage m.image r.back r.met)

pub cbc-keeps : CbcKeeps
cbc-keeps m r start s = (
  steal-keeps _ _ _ (cbc-forth-undone m.image m.preimage r.forth r.undone) start s,
  steal-keeps _ _ _ (cbc-back-undone m.preimage m.image r.back r.met) start s,
)

pub cbc-apart : CbcApart
cbc-apart m r start s = apart 16 (cbc_decrypt m.preimage start) (cbc_encrypt m.image start) (cbc-decrypt-undoes m r start s)

-- A piece mixed with a key of sixteen octets.
module _ (p key : List ℕ) (s : Sixteen key) where
  keyed-length : length p ≤ 16 → length (xor_each p key) ≡ length p
  keyed-length l = length-xor_each-front p key (omega (arith, s.0))

  keyed-octets : Octets p → Octets (xor_each p key)
  keyed-octets o = octets-xor_each p key o s.1

  keyed-back : length p ≤ 16 → xor_each (xor_each p key) key ≡ p
  keyed-back l = xor_each-undo-front p key (omega (arith, s.0))

module _ (f : List ℕ → List ℕ) (land : Lands f) where
  cfb-forth-undone : StreamUndone (cfb_forth f) (cfb_back f)
  cfb-forth-undone = record {
    size = λ k p o. keyed-length p (f k) (land k o);
    octets = λ k p o. keyed-octets p (f k) (land k o);
    keeps = λ k p o s. xor_each-sixteen p (f k) s (land k o);
    back = λ k p o. keyed-back p (f k) (land k o);
    along = λ k p o s. refl;
  }

  cfb-back-undone : StreamUndone (cfb_back f) (cfb_forth f)
  cfb-back-undone = record {
    size = λ k p o. keyed-length p (f k) (land k o);
    octets = λ k p o. keyed-octets p (f k) (land k o);
    keeps = λ k p o s. s;
    back = λ k p o. keyed-back p (f k) (land k o);
    along = λ k p o s. keyed-back p (f k) (land k o) (omega (arith, s.0));
  }

  counted-sixteen : (k : List ℕ) → Sixteen (counted k)
  counted-sixteen k = let n = (number k + 1) % 2 ^ 128 in (length-field 16 n, octets-field 16 n)

  ctr-undone : StreamUndone (ctr_row f) (ctr_row f)
  ctr-undone = record {
    size = λ k p o. keyed-length p (f (counted k)) (land _ (counted-sixteen k));
    octets = λ k p o. keyed-octets p (f (counted k)) (land _ (counted-sixteen k));
    keeps = λ k p o s. counted-sixteen k;
    back = λ k p o. keyed-back p (f (counted k)) (land _ (counted-sixteen k));
    along = λ k p o s. refl;
  }

pub cfb-decrypt-undoes : CfbDecryptUndoes
cfb-decrypt-undoes f land = stream-undoes _ _ (cfb-forth-undone f land)

pub cfb-encrypt-undoes : CfbEncryptUndoes
cfb-encrypt-undoes f land = stream-undoes _ _ (cfb-back-undone f land)

pub cfb-keeps : CfbKeeps
cfb-keeps f land start s = (stream-keeps _ _ (cfb-forth-undone f land) start s, stream-keeps _ _ (cfb-back-undone f land) start s)

pub cfb-apart : CfbApart
cfb-apart f land start s = apart 0 (cfb_decrypt f start) (cfb_encrypt f start) (cfb-decrypt-undoes f land start s)

pub ctr-undoes : CtrUndoes
ctr-undoes f land start s = stream-undoes _ _ (ctr-undone f land) (f start) (land start s)

pub ctr-keeps : CtrKeeps
ctr-keeps f land start s = stream-keeps _ _ (ctr-undone f land) (f start) (land start s)

pub ctr-apart : CtrApart
ctr-apart f land start s = apart 0 (ctr f start) (ctr f start) (ctr-undoes f land start s)
