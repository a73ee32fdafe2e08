-- The sealed text of a report, and what sealing a list answers.
use Rattle.std.specs.Prelude.{◌≡◌, ℕ, ◌+◌, ◌*◌, Bool, true, cond, ◌&&◌, List, [], ◌∷◌, ◌++◌, length, replicate, Some, None, Ok, Err, Option, Result, nat_le, nat_lt}
use Rattle.std.specs.Borrow.{MutBor}
use Rattle.blocks.specs.Fields.{field}
use Rattle.blocks.specs.Steps.{Step, Reversible, Lands}
use Rattle.blocks.specs.declared.answers.Refusal.{Refusal}
use Rattle.blocks.specs.declared.answers.Refusal.TheVariants.{ReportHeader, UnlawfulVisit, ShortOutput}
use Rattle.modes.specs.Checksum.{checksum}
use Rattle.modes.specs.Modes.{cbc_encrypt, cbc_decrypt}
use Rattle.reports.specs.declared.visit.Visit.{Visit}
use Rattle.reports.specs.declared.sealing.Sealer as lent
use Rattle.reports.specs.Layout.{Report, head_size, visit_size, most_visits, body_of}
use Rattle.reports.specs.Lawful.{most_number}

-- The octets of the start, and those of the checksum.
abbrev pub start_size : ℕ
start_size = 16

abbrev pub sum_size : ℕ
sum_size = 8

-- The octets of a text with v visits.
abbrev pub text_size : ℕ → ℕ
text_size v = (start_size + head_size + sum_size) + visit_size * v

-- What a report is sealed and opened with: the seal block's meaning, and the check block's image.
pub record Sealer : Type 0 where
  pub seal : Step
  pub check : List ℕ → List ℕ

abbrev pub sealer : Step → Step → Sealer
sealer m k = record { seal = m; check = k.image }

-- The same, of two lent blocks by their meanings.
abbrev pub sealer_of : {S C : Type 0} → (S → Step) → (C → Step) → lent.Sealer S C → Sealer
sealer_of seal check s = sealer (seal s.seal.now) (check s.check.now)

-- Such as two blocks give.
pub record LawfulSealer (s : Sealer) : Type 0 where
  pub reversible : Reversible s.seal
  pub lands : Lands s.check

-- A lent block is the same one, and means what it meant.
abbrev pub SameBlock : {B : Type 0} → (B → Step) → MutBor B → MutBor B → Type 0
SameBlock meaning before after = (meaning after.now ≡ meaning before.now) × (after.ghost_name ≡ before.ghost_name)

abbrev pub SameSealer : {S C : Type 0} → (S → Step) → (C → Step) → lent.Sealer S C → lent.Sealer S C → Type 0
SameSealer seal check before after = SameBlock seal before.seal after.seal × SameBlock check before.check after.check

-- The start of a report: the seal block's image of wand number, report number and eight zeros.
abbrev pub seed_of : ℕ → ℕ → List ℕ
seed_of wand num = field 4 wand ++ (field 4 num ++ replicate 8 0)

abbrev pub start_of : Step → ℕ → ℕ → List ℕ
start_of m wand num = m.image (seed_of wand num)

-- The body in CBC from a start, and back; the checksum.
unfoldable pub enciphered : Step → List ℕ → List ℕ → List ℕ
enciphered m start x = cbc_encrypt m.image start x

unfoldable pub deciphered : Step → List ℕ → List ℕ → List ℕ
deciphered m start x = cbc_decrypt m.preimage start x

unfoldable pub sum_of : (List ℕ → List ℕ) → List ℕ → List ℕ
sum_of f x = checksum f x

-- Start, body in CBC from that start, and the checksum of all before it.
abbrev pub summed : Sealer → List ℕ → List ℕ
summed s x = x ++ sum_of s.check x

unfoldable pub sealed : Sealer → Report → List ℕ
sealed s r =
    let start = start_of s.seal r.wand r.number in
    summed s (start ++ enciphered s.seal start (body_of r))

-- A number from 1 to 60,000.
abbrev pub numbered : ℕ → Bool
numbered n = nat_lt 0 n && nat_le n most_number

-- Whether a visit is lawful after the read number `last`, and whether visits are.
abbrev pub visit_ok : ℕ → Visit → Bool
visit_ok last v = nat_lt 0 v.checkpoint && (nat_lt last v.read && nat_le v.read most_number)

abbrev pub visits_ok : ℕ → List Visit → Bool
visits_ok last [] = true
visits_ok last (v ∷ vs) = visit_ok last v && visits_ok v.read vs

-- Whether what stands before the visits is lawful, with so many of them.
abbrev pub head_ok : Report → Bool
head_ok r = nat_lt 0 r.wand && (numbered r.number && (nat_lt 0 r.site && nat_le (length r.visits) most_visits))

-- The first of these rules that a report breaks, if any.
abbrev pub law_broken : Report → Option Refusal
law_broken r = cond (head_ok r) (cond (visits_ok 0 r.visits) None (Some UnlawfulVisit)) (Some ReportHeader)

-- What sealing a list into so much room answers: the first rule that is broken, or the length of the text.
abbrev pub seal_answer : Report → ℕ → Result ℕ Refusal
seal_answer r room =
    cond (head_ok r)
    (cond (visits_ok 0 r.visits)
    (cond (nat_le (text_size (length r.visits)) room) (Ok (text_size (length r.visits))) (Err ShortOutput))
    (Err UnlawfulVisit))
    (Err ReportHeader)
