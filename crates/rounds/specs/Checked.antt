-- Checking a tag text against a site and a block.
use Rattle.std.specs.Prelude.{◌≡◌, ℕ, Bool, cond, not, ◌||◌, List, length, take, drop, Ok, Err, Result, ◌==◌}
use Rattle.std.specs.Str.{bytes_eq}
use Rattle.blocks.specs.Octets.{part}
use Rattle.blocks.specs.Fields.{number}
use Rattle.blocks.specs.declared.answers.Refusal.{Refusal}
use Rattle.blocks.specs.declared.answers.Refusal.TheVariants.{TagLength, TagLetters, TagChecksum, TagFields, OtherSite}
use Rattle.modes.specs.Checksum.{checksum}
use Rattle.rounds.specs.Tags.{tag_size, tag_letters, Issues}
use Rattle.rounds.specs.declared.tag.Tag.{Tag}
use Rattle.rounds.specs.declared.tag.Parts.{Parts}

-- The fields of a tag text before its checksum.
abbrev pub tag_parts : List ℕ → Parts
tag_parts text = record {
  letters = part 0 4 text;
  site = number (part 4 2 text);
  checkpoint = number (part 6 2 text);
  serial = number (part 8 4 text);
  reserved = number (part 12 4 text);
}

-- What checking answers, by the fields and by whether the checksum is theirs: the first rule that is broken, or the tag.
abbrev pub parts_answer : ℕ → Bool → Parts → Result Tag Refusal
parts_answer site summed p =
    cond (bytes_eq p.letters tag_letters)
    (cond summed
    (cond (p.site == 0 || (p.checkpoint == 0 || not (p.reserved == 0))) (Err TagFields)
    (cond (p.site == site) (Ok (record { checkpoint = p.checkpoint; serial = p.serial })) (Err OtherSite)))
    (Err TagChecksum))
    (Err TagLetters)

-- What checking a text answers.
abbrev pub tag_answer : (List ℕ → List ℕ) → ℕ → List ℕ → Result Tag Refusal
tag_answer f site text =
    cond (length text == tag_size)
    (parts_answer site (bytes_eq (drop 16 text) (checksum f (take 16 text))) (tag_parts text))
    (Err TagLength)

-- Accepted, the text is one that issuing writes for this site, with the checkpoint and serial answered.
abbrev pub Earned : (List ℕ → List ℕ) → ℕ → List ℕ → Result Tag Refusal → Type 0
Earned f site text (Ok tag) = Issues f site tag.checkpoint tag.serial text
Earned f site text (Err e) = Unit {0}

-- Accepted exactly so: and every such text is accepted, with its checkpoint and serial.
pub record TagExact (f : List ℕ → List ℕ) (site : ℕ) (text : List ℕ) (r : Result Tag Refusal) : Type 0 where
  pub earned : Earned f site text r
  pub accepted : (checkpoint serial : ℕ) → Issues f site checkpoint serial text → r ≡ Ok (record { checkpoint = checkpoint; serial = serial })
