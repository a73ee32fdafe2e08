-- The number of each refusal; an accepted call's number is zero.
use Rattle.std.specs.Prelude.{◌≡◌, ◌↔◌, ◌==◌, ℕ, Bool, IsTrue, Ok, Err, Result}
use Rattle.blocks.specs.declared.answers.Refusal.{Refusal}
use Rattle.blocks.specs.declared.answers.Refusal.TheVariants as refusal

abbrev pub refusal_number : Refusal → ℕ
refusal_number refusal.TagLength = 11
refusal_number refusal.TagLetters = 12
refusal_number refusal.TagChecksum = 13
refusal_number refusal.TagFields = 14
refusal_number refusal.OtherSite = 15
refusal_number refusal.ReadWaits = 21
refusal_number refusal.RecordsFull = 22
refusal_number refusal.ReadsSpent = 23
refusal_number refusal.NoSuchRead = 24
refusal_number refusal.NothingToGiveUp = 25
refusal_number refusal.MalformedLine = 26
refusal_number refusal.ShortOutput = 31
refusal_number refusal.LongMessage = 32
refusal_number refusal.ShortMessage = 33
refusal_number refusal.KeyLength = 34
refusal_number refusal.KeyTextLength = 35
refusal_number refusal.ZeroNumber = 36
refusal_number refusal.ReportsSpent = 37
refusal_number refusal.ReportLength = 41
refusal_number refusal.ReportChecksum = 42
refusal_number refusal.ReportHeader = 43
refusal_number refusal.UnlawfulVisit = 44
refusal_number refusal.ReportStart = 45
refusal_number refusal.TooFewCells = 46
refusal_number refusal.NotAwaited = 47
refusal_number refusal.HashDiffers = 48
refusal_number refusal.WrappedLength = 51
refusal_number refusal.HeaderDiffers = 52

-- The number that a call's answer has for the firmware.
abbrev pub answer_number : {A : Type 0} → Result A Refusal → ℕ
answer_number (Ok v) = 0
answer_number (Err e) = refusal_number e

-- No two refusals share a number.
abbrev pub NumbersApart : Type 0
NumbersApart = (x y : Refusal) → refusal_number x ≡ refusal_number y → x ≡ y

-- The test tells whether two refusals are the same one, and compares their numbers.
abbrev pub TellsRefusals : (Refusal → Refusal → Bool) → Type 0
TellsRefusals eq =
    ((x y : Refusal) → eq x y ≡ (refusal_number x == refusal_number y))
    × ((x y : Refusal) → IsTrue (eq x y) ↔ (x ≡ y))
