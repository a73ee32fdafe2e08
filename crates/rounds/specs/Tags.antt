-- Tag texts: 24 octets, which issuing writes for a door.
use Rattle.std.specs.Prelude.{◌≡◌, ℕ, ◌^◌, ◌<◌, cond, ◌||◌, List, ◌++◌, Ok, Err, codes, Result, ◌==◌, nat_le}
use Rattle.blocks.specs.Fields.{field}
use Rattle.blocks.specs.declared.answers.Refusal.{Refusal}
use Rattle.blocks.specs.declared.answers.Refusal.TheVariants.{ZeroNumber, ShortOutput}
use Rattle.modes.specs.Checksum.{checksum}

abbrev pub tag_size : ℕ
tag_size = 24

abbrev pub tag_letters : List ℕ
tag_letters = codes "BTAG"

-- The first sixteen octets: letters, site, checkpoint, serial, zeros.
abbrev pub tag_head : ℕ → ℕ → ℕ → List ℕ
tag_head site checkpoint serial = tag_letters ++ field 2 site ++ field 2 checkpoint ++ field 4 serial ++ field 4 0

-- The whole text: these and their checksum, under a block whose image is f.
unfoldable pub issued : (List ℕ → List ℕ) → ℕ → ℕ → ℕ → List ℕ
issued f site checkpoint serial = tag_head site checkpoint serial ++ checksum f (tag_head site checkpoint serial)

-- What issuing answers, with an output of `room` octets.
abbrev pub issue_answer : ℕ → ℕ → ℕ → Result ℕ Refusal
issue_answer site checkpoint room =
    cond (site == 0 || checkpoint == 0) (Err ZeroNumber)
    (cond (nat_le tag_size room) (Ok tag_size) (Err ShortOutput))

-- The text is one that issuing writes, for this site, checkpoint and serial, under a block whose image is f.
pub record Issues (f : List ℕ → List ℕ) (site checkpoint serial : ℕ) (text : List ℕ) : Type 0 where
  pub site-given : 0 < site
  pub checkpoint-given : 0 < checkpoint
  pub site-fits : site < 2 ^ 16
  pub checkpoint-fits : checkpoint < 2 ^ 16
  pub serial-fits : serial < 2 ^ 32
  pub written : text ≡ issued f site checkpoint serial
