-- The steps of opening, put together.
use Rattle.std.proofs.Common.{◌≡◌, ℕ, ◌-◌, ◌<◌, ◌≤◌, Bool, false, true, cond, not, leb, List, length, take, drop, map, Some, None, Ok, Err, Option, Result, sym, refl, ap, ◌∙◌, subst, ap₂}
use Rattle.std.specs.Str.{bytes_eq}
use Rattle.std.specs.Simd.{first_chunks}
use Rattle.std.proofs.lemmas.Bool.{lt-leb, le-leb}
use Rattle.blocks.specs.Octets.{Octets}
use Rattle.blocks.specs.declared.answers.Refusal.TheVariants.{ReportLength, ReportStart, TooFewCells}
use Rattle.reports.specs.declared.visit.Header.{Header}
use Rattle.reports.specs.declared.visit.Visit.{Visit}
use Rattle.reports.specs.declared.fault.Fault.{Fault}
use Rattle.reports.specs.declared.office.Opened.{Opened}
use Rattle.reports.specs.Layout.{Report, head_size, visit_size, wand_at, num_at, visit_at, header_at, report_at}
use Rattle.reports.specs.Sealing.{Sealer, LawfulSealer, start_size, sum_size, start_of, deciphered, sum_of}
use Rattle.reports.specs.Faults.{in_text, in_book, rule, or_else, unless}
use Rattle.reports.specs.Opening.{head_fault, visits_fault, body_fault, count_of, sized, front_part, sum_fault, start_fault, body_in, decode_answer, open_answer, opened_of, held_after}
use Rattle.reports.specs.Exact.{OpensExactly}
use Rattle.reports.proofs.Pieces.{read-parts}
use Rattle.reports.proofs.Opens.{opens-sealed, opened-is-sealed}

-- Decoding, by its first faults: of the checksum, of the body and of the start.
abbrev decode_by : Option Fault → Option Fault → Option Fault → Header → Result Header Fault
decode_by a b d h = unless a (unless b (unless d (Ok h)))

by-body : (a b d : Option Fault) (h : Header) (f : Fault) → a ≡ None → Err f ≡ unless b (Ok h) → Err f ≡ decode_by a b d h
by-body a (Some w) d h f p q = rw p q
by-body a None d h f p q = cc

by-start : (a b d : Option Fault) (h k : Header) → a ≡ None → Ok k ≡ unless b (Ok h) → unless d (Ok k) ≡ decode_by a b d h
by-start a (Some w) d h k p q = cc
by-start a None d h k p q = rw p (ap (unless d) q)

head-read : (b : Option Fault) (h k : Header) → Ok k ≡ unless b (Ok h) → k ≡ h
head-read (Some w) h k q = cc
head-read None h k q = cc

same-texts : (b : Bool) → false ≡ not b → b ≡ true
same-texts true p = refl
same-texts false p = cc

by-cond : (d b : Bool) (k : Header) (f : Fault) → d ≡ not b → cond d (Err f) (Ok k) ≡ unless (rule b f) (Ok k)
by-cond d true k f e = rw e
by-cond d false k f e = rw e

module _ (m : Sealer) (t : List ℕ) where
  abbrev count : ℕ
  count = count_of (length t)

  -- what the body says
  abbrev pub said : Result Header Fault
  said = unless (body_fault count (body_in m t)) (Ok (header_at (body_in m t)))

  pub sum-kept : (s w front : List ℕ) → s ≡ drop (length t - sum_size) t → front ≡ front_part t → w ≡ sum_of m.check front → false ≡ not (bytes_eq s w)
      → sum_fault m t ≡ None
  sum-kept s w front p q e n = rw (sym (ap₂ bytes_eq p (e ∙ ap (sum_of m.check) q)) ∙ same-texts (bytes_eq s w) n)

  pub body-is : (start mixed x : List ℕ) → start ≡ take start_size t → mixed ≡ drop start_size (front_part t) → x ≡ deciphered m.seal start mixed → x ≡ body_in m t
  body-is start mixed x p q e = e ∙ ap₂ (deciphered m.seal) p q

  -- what was read in parts of x is what the body says
  pub said-is : (x head : List ℕ) (pieces : List (List ℕ)) (k : ℕ) (r : Result Header Fault) → x ≡ body_in m t → k ≡ count
      → head ≡ take head_size x → pieces ≡ first_chunks visit_size k (drop head_size x)
      → r ≡ unless (or_else (head_fault (length pieces) head) (visits_fault head_size 0 (map visit_at pieces))) (Ok (header_at head)) → r ≡ said
  said-is x head pieces k r is n p q e =
      e ∙ read-parts k x head pieces p q ∙ ap₂ (λ (j : ℕ) (y : List ℕ). unless {A = Header} (body_fault j y) (Ok (header_at y))) n is

  module _ (kept : sum_fault m t ≡ None) where
    pub decode-body : (f : Fault) → Err f ≡ said → Err f ≡ decode_answer m count t
    decode-body f q = by-body (sum_fault m t) (body_fault count (body_in m t)) (start_fault m t) (header_at (body_in m t)) f kept q

    -- the start, by the header that was read
    pub decode-start : (k : Header) (d : Bool) (start right : List ℕ) → Ok k ≡ said → start ≡ take start_size t → right ≡ start_of m.seal k.wand k.number
        → d ≡ not (bytes_eq start right) → cond d (Err (in_text ReportStart 0)) (Ok k) ≡ decode_answer m count t
    decode-start k d start right q p e n =
        let h : k ≡ header_at (body_in m t) = head-read (body_fault count (body_in m t)) (header_at (body_in m t)) k q in
        let b : bytes_eq start right ≡ bytes_eq (take start_size t) (start_of m.seal (wand_at (body_in m t)) (num_at (body_in m t))) =
        ap₂ bytes_eq p (e ∙ ap (λ (u : Header). start_of m.seal u.wand u.number) h) in
        by-cond d _ k (in_text ReportStart 0) (n ∙ ap not b)
        ∙ by-start (sum_fault m t) (body_fault count (body_in m t)) (start_fault m t) (header_at (body_in m t)) k kept q

-- Opening, by its first faults: of the length, of what is decoded, and of the room.
abbrev open_by : Option Fault → Option Fault → Option Fault → Option Fault → Result Report Fault → Result Report Fault
open_by z a b d x = unless z (unless a (unless b (unless d x)))

by_decode : (z a b d : Option Fault) (x : Result Report Fault) (h : Header) (f : Fault) → z ≡ None → Err f ≡ decode_by a b d h → open_by z a b d x ≡ Err f
by_decode (Some w) a b d x h f p q = cc
by_decode None (Some w) b d x h f p q = cc
by_decode None None (Some w) d x h f p q = cc
by_decode None None None (Some w) x h f p q = cc
by_decode None None None None x h f p q = cc

by-room : (z a b d : Option Fault) (x : Result Report Fault) (h k : Header) → z ≡ None → Ok k ≡ decode_by a b d h → (open_by z a b d x ≡ x) × (k ≡ h)
by-room (Some w) a b d x h k p q = (cc, cc)
by-room None (Some w) b d x h k p q = (cc, cc)
by-room None None (Some w) d x h k p q = (cc, cc)
by-room None None None (Some w) x h k p q = (cc, cc)
by-room None None None None x h k p q = (refl, cc)

module _ (m : Sealer) (free : ℕ) (t : List ℕ) where
  abbrev v : ℕ
  v = count_of (length t)

  abbrev roomy : Result Report Fault
  roomy = unless (rule (leb v free) (in_book TooFewCells free)) (Ok (report_at v (body_in m t)))

  abbrev size_fault : Option Fault
  size_fault = rule (sized (length t)) (in_text ReportLength 0)

  pub open-decode : (f : Fault) → sized (length t) ≡ true → Err f ≡ decode_answer m v t → open_answer m free t ≡ Err f
  unfolding open_answer
  open-decode f p q = by_decode size_fault (sum_fault m t) (body_fault v (body_in m t)) (start_fault m t) roomy (header_at (body_in m t)) f (rw p) q

  -- what comes after decoding
  open-rest : (k : Header) → sized (length t) ≡ true → Ok k ≡ decode_answer m v t → (open_answer m free t ≡ roomy) × (k ≡ header_at (body_in m t))
  unfolding open_answer
  open-rest k p q = by-room size_fault (sum_fault m t) (body_fault v (body_in m t)) (start_fault m t) roomy (header_at (body_in m t)) k (rw p) q

  pub open-room : (k : Header) → sized (length t) ≡ true → Ok k ≡ decode_answer m v t → free < v → open_answer m free t ≡ Err (in_book TooFewCells free)
  open-room k p q n = (open-rest k p q).0 ∙ rw (lt-leb v free n)

  pub open-all : (k : Header) → sized (length t) ≡ true → Ok k ≡ decode_answer m v t → v ≤ free
      → (open_answer m free t ≡ Ok (report_at v (body_in m t))) × (k ≡ header_at (body_in m t))
  open-all k p q n = let e = open-rest k p q in (e.0 ∙ rw (le-leb v free n), e.1)

-- What a call of `open` ensures of its answer and of the visits held before and after.
pub record Opens (m : Sealer) (free : ℕ) (t : List ℕ) (before after : List Visit) (result : Result Opened Fault) : Type 0 where
  pub answer : result ≡ opened_of (open_answer m free t)
  pub held : after ≡ held_after before (open_answer m free t)
  pub exact : OpensExactly m free t before after result

exact-at : (m : Sealer) → LawfulSealer m → (free : ℕ) (t : List ℕ) → Octets t → (before after : List Visit) (a : Result Report Fault) → open_answer m free t ≡ a
    → after ≡ held_after before a → OpensExactly m free t before after (opened_of a)
exact-at m law free t o before after (Ok r) e h = (r, opened-is-sealed m law free t o r e, refl, h)
exact-at m law free t o before after (Err f) e h = (
  λ r s.
      let k : open_answer m free t ≡ Ok r = ap (open_answer m free) s.made ∙ opens-sealed m law free r s.lawful s.room in
      cc,
  h,
)

pub opens : (m : Sealer) → LawfulSealer m → (free : ℕ) (t : List ℕ) → Octets t → (before after : List Visit) (a : Result Report Fault) (result : Result Opened Fault)
    → open_answer m free t ≡ a → result ≡ opened_of a → after ≡ held_after before a → Opens m free t before after result
opens m law free t o before after a result e is h = record {
  answer = is ∙ sym (ap opened_of e);
  held = h ∙ sym (ap (held_after before) e);
  exact = subst (λ (r : Result Opened Fault). OpensExactly m free t before after r) (sym is) (exact-at m law free t o before after a e h);
}
