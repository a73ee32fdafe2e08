-- What opening a text answers, and what the book holds afterwards.
use Rattle.std.specs.Prelude.{ℕ, ◌+◌, ◌-◌, ◌/◌, Bool, ◌&&◌, List, [], ◌∷◌, ◌++◌, length, take, drop, None, Ok, Err, Option, Result, ◌==◌, nat_le, nat_lt}
use Rattle.std.specs.Str.{bytes_eq}
use Rattle.blocks.specs.declared.answers.Refusal.TheVariants.{ReportLength, ReportChecksum, ReportHeader, UnlawfulVisit, ReportStart, TooFewCells}
use Rattle.books.specs.Books.{elements, capacity}
use Rattle.books.specs.declared.book.Book.{Book}
use Rattle.reports.specs.declared.visit.Header.{Header}
use Rattle.reports.specs.declared.visit.Visit.{Visit}
use Rattle.reports.specs.declared.fault.Fault.{Fault}
use Rattle.reports.specs.declared.office.Opened.{Opened}
use Rattle.reports.specs.Layout.{Report, letters, head_size, visit_size, most_visits, wand_at, num_at, count_at, site_at, visits_at, header_at, report_at}
use Rattle.reports.specs.Sealing.{Sealer, start_size, sum_size, text_size, start_of, deciphered, sum_of, numbered, visit_ok}
use Rattle.reports.specs.Faults.{in_text, in_body, in_book, rule, or_else, unless}

-- The first wrong field before the visits, by its first octet.
abbrev pub head_fault : ℕ → List ℕ → Option Fault
head_fault v x =
    or_else (rule (bytes_eq (take 4 x) letters) (in_body ReportHeader 0))
    (or_else (rule (nat_lt 0 (wand_at x)) (in_body ReportHeader 4))
    (or_else (rule (numbered (num_at x)) (in_body ReportHeader 8))
    (or_else (rule (count_at x == v) (in_body ReportHeader 12))
    (rule (nat_lt 0 (site_at x)) (in_body ReportHeader 14)))))

-- The first visit that is not lawful, by its first octet; the first of these visits is at `at`, after the read number `last`.
abbrev pub visits_fault : ℕ → ℕ → List Visit → Option Fault
visits_fault at last [] = None
visits_fault at last (v ∷ vs) = or_else (rule (visit_ok last v) (in_body UnlawfulVisit at)) (visits_fault (at + visit_size) v.read vs)

abbrev pub body_fault : ℕ → List ℕ → Option Fault
body_fault v x = or_else (head_fault v x) (visits_fault head_size 0 (visits_at v (drop head_size x)))

-- How many visits a text of n octets has room for, and whether a text may have n octets.
abbrev pub count_of : ℕ → ℕ
count_of n = (n - text_size 0) / visit_size

abbrev pub sized : ℕ → Bool
sized n = n == text_size (count_of n) && nat_le (count_of n) most_visits

-- A text before its checksum, and its body.
abbrev pub front_part : List ℕ → List ℕ
front_part t = take (length t - sum_size) t

abbrev pub body_in : Sealer → List ℕ → List ℕ
body_in s t = deciphered s.seal (take start_size t) (drop start_size (front_part t))

-- Whether the checksum is that of the text before it, and the start that of the wand and report named inside.
abbrev pub sum_fault : Sealer → List ℕ → Option Fault
sum_fault s t = rule (bytes_eq (drop (length t - sum_size) t) (sum_of s.check (front_part t))) (in_text ReportChecksum (length t - sum_size))

abbrev pub start_fault : Sealer → List ℕ → Option Fault
start_fault s t = rule (bytes_eq (take start_size t) (start_of s.seal (wand_at (body_in s t)) (num_at (body_in s t)))) (in_text ReportStart 0)

-- What opening a text answers where so many cells are free: the first fault, or the report.
unfoldable pub open_answer : Sealer → ℕ → List ℕ → Result Report Fault
open_answer s free t =
    unless (rule (sized (length t)) (in_text ReportLength 0))
    (unless (sum_fault s t)
    (unless (body_fault (count_of (length t)) (body_in s t))
    (unless (start_fault s t)
    (unless (rule (nat_le (count_of (length t)) free) (in_book TooFewCells free))
    (Ok (report_at (count_of (length t)) (body_in s t)))))))

-- All but the length and the room: what the text says before its v visits.
abbrev pub decode_answer : Sealer → ℕ → List ℕ → Result Header Fault
decode_answer s v t =
    unless (sum_fault s t) (unless (body_fault v (body_in s t)) (unless (start_fault s t) (Ok (header_at (body_in s t)))))

-- What of an answer the caller is told, and what of it the book holds afterwards.
abbrev pub opened_of : Result Report Fault → Result Opened Fault
opened_of (Ok r) = Ok (record { header = record { wand = r.wand; number = r.number; site = r.site }; visits = length r.visits })
opened_of (Err f) = Err f

abbrev pub held_after : List Visit → Result Report Fault → List Visit
held_after held (Ok r) = held ++ r.visits
held_after held (Err f) = held

-- How many cells of a book are free.
abbrev pub free_cells_in : {T : Type 0} → Book T → ℕ
free_cells_in b = capacity b - length (elements b)
