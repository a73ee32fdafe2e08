-- A tag text is accepted exactly where issuing writes it.
use Rattle.std.proofs.Common.{◌≡◌, ℕ, ◌^◌, ◌<◌, Bool, true, false, cond, not, ◌||◌, eqb, List, ◌++◌, length, take, drop, Some, None, Ok, Err, Result, sym, refl, ap, ◌∙◌, subst, ap₂, arith}
use Rattle.std.specs.Str.{bytes_eq}
use Rattle.std.proofs.lemmas.Bool.{eq-eqb, eqb-true, cond-true}
use Rattle.std.proofs.lemmas.List.{take-append-drop, length-append}
use Rattle.std.proofs.lemmas.Slice.Eq.{bytes_eq-Decides}
use Rattle.std.proofs.lemmas.Bool.Decides.{nat_tests}
use Rattle.blocks.specs.Octets.{Octets, part}
use Rattle.blocks.specs.Fields.{field, number}
use Rattle.blocks.specs.declared.answers.Refusal.{Refusal}
use Rattle.blocks.specs.declared.answers.Refusal.TheVariants.{TagLetters, TagChecksum, TagFields, OtherSite}
use Rattle.blocks.proofs.Numbers.{number-field, field-number, number_lt, octets-part, octets-append, octets-field, listed}
use Rattle.blocks.specs.Steps.{Lands}
use Rattle.modes.specs.Checksum.{checksum}
use Rattle.modes.proofs.Eight.{checksum-eight}
use Rattle.rounds.specs.Tags.{tag_head, tag_letters, issued, Issues}
use Rattle.rounds.specs.Checked.{tag_parts, parts_answer, tag_answer, Earned, TagExact}
use Rattle.rounds.specs.declared.tag.Tag.{Tag}
use Rattle.rounds.specs.declared.tag.Parts.{Parts}

-- A rule that refuses where its test fails, and one that refuses where it holds.
passed : (c : Bool) (x : Result Tag Refusal) (e : Refusal) (t : Tag) → cond c x (Err e) ≡ Ok t → (c ≡ true) × (x ≡ Ok t)
passed true x e t h = (refl, h)
passed false x e t h = let z : ◌≡◌ {A = ℕ} 0 1 = cc in absurd (omega arith)

spared : (c : Bool) (x : Result Tag Refusal) (e : Refusal) (t : Tag) → cond c (Err e) x ≡ Ok t → (c ≡ false) × (x ≡ Ok t)
spared true x e t h = let z : ◌≡◌ {A = ℕ} 0 1 = cc in absurd (omega arith)
spared false x e t h = (refl, h)

-- What an accepted tag's fields are.
record Passed (site : ℕ) (summed : Bool) (p : Parts) (t : Tag) : Type 0 where
  lettered : p.letters ≡ tag_letters
  sums : summed ≡ true
  some-site : 0 < p.site
  some-checkpoint : 0 < p.checkpoint
  blank : p.reserved ≡ 0
  here : p.site ≡ site
  is : record { checkpoint = p.checkpoint; serial = p.serial } ≡ t

all-passed : (site : ℕ) (summed : Bool) (p : Parts) (t : Tag) → parts_answer site summed p ≡ Ok t → Passed site summed p t
all-passed site summed p t h =
    let made : Result Tag Refusal = Ok (record { checkpoint = p.checkpoint; serial = p.serial }) in
    let last : Result Tag Refusal = cond (eqb p.site site) made (Err OtherSite) in
    let bad : Bool = eqb p.site 0 || (eqb p.checkpoint 0 || not (eqb p.reserved 0)) in
    let inner : Result Tag Refusal = cond bad (Err TagFields) last in
    let a = passed (bytes_eq p.letters tag_letters) (cond summed inner (Err TagChecksum)) TagLetters t h in
    let b = passed summed inner TagChecksum t a.1 in
    let c = spared bad last TagFields t b.1 in
    let d : (eqb p.site site ≡ true) × (made ≡ Ok t) = passed (eqb p.site site) made OtherSite t c.1 in
    let z : bad ≡ false = c.0 in
    let e : made ≡ Ok t = d.1 in
    record {
      lettered = (bytes_eq-Decides p.letters tag_letters).0 a.0;
      sums = b.0;
      some-site = grind (arith, nat_tests);
      some-checkpoint = grind (arith, nat_tests);
      blank = grind (arith, nat_tests);
      here = eqb-true p.site site d.0;
      is = cc;
    }

-- Parts that break no rule.
no-rule-broken : (site : ℕ) (summed : Bool) (p : Parts) → bytes_eq p.letters tag_letters ≡ true → summed ≡ true → p.site ≡ site → 0 < site
    → 0 < p.checkpoint → p.reserved ≡ 0 → parts_answer site summed p ≡ Ok (record { checkpoint = p.checkpoint; serial = p.serial })
no-rule-broken site summed p l b e hs hc z = grind (arith, nat_tests)

module _ (f : List ℕ → List ℕ) (lands : Lands f) (site : ℕ) (small : site < 2 ^ 16) where
  -- an accepted text, put together again from its fields
  whole : (text : List ℕ) (t : Tag) → Octets text → length text ≡ 24
      → Passed site (bytes_eq (drop 16 text) (checksum f (take 16 text))) (tag_parts text) t → Issues f site t.checkpoint t.serial text
  unfolding issued
  whole text t o l h =
      let cp : number (part 6 2 text) ≡ t.checkpoint = ap (λ (u : Tag). u.checkpoint) h.is in
      let sn : number (part 8 4 text) ≡ t.serial = ap (λ (u : Tag). u.serial) h.is in
      let at : (i n m : ℕ) → number (part i n text) ≡ m → field (length (part i n text)) m ≡ part i n text
      = λ i n m e. ap (field (length (part i n text))) (sym e) ∙ field-number (part i n text) (octets-part i n text o) in
      let head : take 16 text ≡ tag_head site t.checkpoint t.serial
      = ap (take 16) (sym (listed 24 text l))
      ∙ ap₂ ◌++◌ (ap₂ ◌++◌ (ap₂ ◌++◌ (ap₂ ◌++◌ h.lettered (sym (at 4 2 site h.here))) (sym (at 6 2 _ cp))) (sym (at 8 4 _ sn))) (sym (at 12 4 0 h.blank)) in
      record {
        site-given = subst (λ n. 0 < n) h.here h.some-site;
        checkpoint-given = subst (λ n. 0 < n) cp h.some-checkpoint;
        site-fits = small;
        checkpoint-fits = subst (λ n. n < 2 ^ 16) cp (number_lt (part 6 2 text) (octets-part 6 2 text o));
        serial-fits = subst (λ n. n < 2 ^ 32) sn (number_lt (part 8 4 text) (octets-part 8 4 text o));
        written =
            sym (take-append-drop 16 text)
            ∙ ap₂ ◌++◌ head ((bytes_eq-Decides (drop 16 text) (checksum f (take 16 text))).0 h.sums ∙ ap (checksum f) head);
      }

  earned-at : (text : List ℕ) → Octets text → (r : Result Tag Refusal) → tag_answer f site text ≡ r → Earned f site text r
  earned-at text o (Err e) h = tt
  earned-at text o (Ok t) h =
      let a = passed _ _ _ t h in
      whole text t o (eqb-true (length text) 24 a.0) (all-passed site _ (tag_parts text) t a.1)

  head-octets : (checkpoint serial : ℕ) → Octets (tag_head site checkpoint serial)
  head-octets checkpoint serial =
      let o : (w n : ℕ) → Octets (field w n) = octets-field in
      let a = tag_letters ++ field 2 site in
      let b = a ++ field 2 checkpoint in
      let c = b ++ field 4 serial in
      octets-append c (field 4 0) (octets-append b (field 4 serial) (octets-append a (field 2 checkpoint) (octets-append tag_letters (field 2 site) (o 4 1195463746) (o 2 site)) (o 2 checkpoint)) (o 4 serial)) (o 4 0)

  -- what issuing writes is accepted
  issued-in : (checkpoint serial : ℕ) → 0 < site → 0 < checkpoint → checkpoint < 2 ^ 16 → serial < 2 ^ 32
      → tag_answer f site (issued f site checkpoint serial) ≡ Ok (record { checkpoint = checkpoint; serial = serial })
  unfolding issued
  issued-in checkpoint serial hs hc fc fs =
      let h = tag_head site checkpoint serial in
      let s = checksum f h in
      let l : length (h ++ s) ≡ 24 = omega (arith, length-append h s, (checksum-eight f lands h (head-octets checkpoint serial)).0) in
      let b : bytes_eq s s ≡ true = (bytes_eq-Decides s s).1 refl in
      let e₁ = number-field 2 site small in
      let e₂ = number-field 2 checkpoint fc in
      let e₃ = number-field 4 serial fs in
      cond-true (eqb (length (h ++ s)) 24) _ _ (eq-eqb (length (h ++ s)) 24 l)
      ∙ no-rule-broken site (bytes_eq s s) (tag_parts (h ++ s)) refl b e₁ hs (subst (λ n. 0 < n) (sym e₂) hc) refl
      ∙ λ j. Ok (record { checkpoint = e₂ j; serial = e₃ j })

pub tag-exact : (f : List ℕ → List ℕ) → Lands f → (site : ℕ) → site < 2 ^ 16 → (text : List ℕ) → Octets text → TagExact f site text (tag_answer f site text)
tag-exact f lands site small text o = record {
  earned = earned-at f lands site small text o (tag_answer f site text) refl;
  accepted = λ checkpoint serial i.
      ap (tag_answer f site) i.written ∙ issued-in f lands site small checkpoint serial i.site-given i.checkpoint-given i.checkpoint-fits i.serial-fits;
}

-- Whether a text could be taken apart tells its length.
pub no-parts : (b : Bool) (x : Parts) → None ≡ cond b (Some x) None → b ≡ false
no-parts true x h = let z : ◌≡◌ {A = ℕ} 0 1 = cc in absurd (omega arith)
no-parts false x h = refl

pub some-parts : (b : Bool) (x p : Parts) → Some p ≡ cond b (Some x) None → (b ≡ true) × (p ≡ x)
some-parts true x p h = (refl, cc)
some-parts false x p h = let z : ◌≡◌ {A = ℕ} 0 1 = cc in absurd (omega arith)
