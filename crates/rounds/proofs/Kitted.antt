-- The kit accepts exactly what wrapping makes of a key: from what unwrapping does.
use Rattle.std.proofs.Common.{◌≡◌, ℕ, ◌-◌, ◌*◌, Bool, true, false, cond, leb, List, length, take, drop, replicate, Ok, Err, Result, sym, refl, ap, ◌∙◌, subst, ap₂, arith}
use Rattle.std.proofs.lemmas.List.{append_cancel_right, length-replicate}
use Rattle.std.proofs.lemmas.Bool.{cond-true, le-leb}
use Rattle.std.proofs.lemmas.Bool.Decides.{nat_tests}
use Rattle.blocks.specs.Octets.{Octets, Sixteen}
use Rattle.blocks.specs.Steps.{Lands}
use Rattle.blocks.specs.Written.{written}
use Rattle.blocks.specs.declared.answers.Refusal.{Refusal}
use Rattle.blocks.specs.declared.answers.Refusal.TheVariants.{KeyLength}
use Rattle.belt.specs.Keys.{key_length}
use Rattle.modes.specs.Wrapping.{unwrapped}
use Rattle.modes.specs.WrapAnswers.{unwrap_answer}
use Rattle.modes.specs.WrapExact.{KeyText, Found, UnwrapsExactly}
use Rattle.modes.proofs.WrapAnswered.{exactly}
use Rattle.rounds.specs.Kits.{kit_keys, kit_room, key_only, kit_answer}
use Rattle.rounds.specs.KitExact.{Key, KitExact}

-- An accepted kit has an unwrapped key of a known length.
of-key : (t : Bool) (m n : ℕ) → cond t (Ok (3 * m)) (Err KeyLength) ≡ Ok n → (t ≡ true) × (n ≡ 3 * m)
of-key true m n h = (refl, cc)
of-key false m n h = let z : ◌≡◌ {A = ℕ} 0 1 = cc in absurd (omega arith)

keyed : (a : Result ℕ Refusal) (n : ℕ) → key_only a ≡ Ok n → (m : ℕ) × (a ≡ Ok m) × (key_length m ≡ true) × (n ≡ 3 * m)
keyed (Ok m) n h = let k = of-key (key_length m) m n h in (m, refl, k.0, k.1)
keyed (Err e) n h = let z : ◌≡◌ {A = ℕ} 0 1 = cc in absurd (omega arith)

-- A key is a key text.
key-text : (x : List ℕ) → Key x → KeyText x
key-text x k =
    let e = k.known in
    record { octets = k.octets; least = grind (arith, nat_tests); most = grind (arith, nat_tests) }

module _ (f : List ℕ → List ℕ) (lands : Lands f) (header y : List ℕ) (site scratch : ℕ) (out₀ out₁ : List ℕ) (r : Result ℕ Refusal) (s : Sixteen header) (o : Octets y)
    (answer : r ≡ kit_answer f header y scratch (length out₀))
    (text : out₁ ≡ written r (kit_keys (take (length y - 16) (unwrapped f y)) site) out₀) where
  pub kit-exact : KitExact f header y site scratch out₀ out₁ r
  kit-exact =
      let room = kit_room (length out₀) in
      let u = take (length y - 16) (unwrapped f y) in
      let none = replicate room 0 in
      let a : Result ℕ Refusal = unwrap_answer f header y scratch room in
      let x : UnwrapsExactly f header y scratch none (written a u none) a
      = exactly f lands header y none (written a u none) scratch a s o (ap (unwrap_answer f header y scratch) (sym (length-replicate {A = ℕ} room 0))) refl in
      record {
        only = λ n is.
            let k = keyed a n (sym answer ∙ is) in
            let m = k.0 in
            let h : Found f header y none (written a u none) m = x.only m k.1 in
            let e : u ≡ h.key = append_cancel_right u h.key (drop m none) (sym (ap (λ q. written q u none) k.1) ∙ h.there) in
            record {
              key = h.key;
              lawful = record { octets = h.lawful.octets; known = subst (λ l. key_length l ≡ true) (sym h.size) k.2 };
              size = k.3 ∙ ap (λ l. 3 * l) (sym h.size);
              from = h.from;
              there = text ∙ ap₂ (λ q v. written q (kit_keys v site) out₀) is e;
            };
        every = λ z k from big work.
            let t = key-text z k in
            let full : room ≡ 256 = cond-true (leb 96 (length out₀)) 256 0 (le-leb 96 (length out₀) big) in
            let g = x.every z t from (omega (arith, t.most, full, length-replicate {A = ℕ} room 0)) work in
            let e : u ≡ z = append_cancel_right u z (drop (length z) none) (sym (ap (λ q. written q u none) g.0) ∙ g.1) in
            let is : r ≡ Ok (3 * length z)
            = answer ∙ ap key_only g.0 ∙ cond-true (key_length (length z)) (Ok (3 * length z)) (Err KeyLength) k.known in
            (is, text ∙ ap₂ (λ q v. written q (kit_keys v site) out₀) is e);
      }
