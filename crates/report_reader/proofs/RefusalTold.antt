-- Why an operation was refused, as its text tells it.
use Rattle.std.proofs.Common.{codes, ◌≡◌, ℕ, Bool, true, false, cond, List, [], ◌∷◌, ◌++◌, refl, sym, ap, ◌∙◌, append_assoc}
use Rattle.std.specs.Fmt.{decimal}
use Rattle.std.specs.List.{AllByRecursion}
use Rattle.domains.specs.Drive.{Drive}
use Rattle.domains.specs.declared.group.Lost.{Lost}
use Rattle.domains.specs.declared.room.TooFew.{TooFew}
use Rattle.file_history.specs.declared.entry.Refused.{Refused}
use Rattle.file_history.specs.declared.entry.Refused.TheVariants as refused
use Rattle.report.specs.RefusedParts.{reason_text}
use Rattle.report.specs.Words.{drives_text}
use Rattle.report_reader.specs.Fits.{FitsDrive, FitsRefused, IsWide}
use Rattle.report_reader.specs.Lines.{lacks}
use Rattle.report_reader.proofs.Cuts.{IsWord, cut, cut_at, lacks_both, number_again, number_in, number_word, same_text, spaced}
use Rattle.report_reader.proofs.WordsTold.{drives_again, drives_feed, drives_in}

pub data Reason : Type 0 where
  exists : Reason
  absent : Reason
  few : ℕ → ℕ → Reason
  long : ℕ → Reason
  lost : ℕ → ℕ → ℕ → Reason
  full : ℕ → ℕ → List Drive → Reason

abbrev pub said : Reason → List ℕ
said exists = codes "exists"
said absent = codes "absent"
said (few have need) = codes "toofew" ++ 32 ∷ (decimal have ++ 32 ∷ decimal need)
said (long count) = codes "toolong" ++ 32 ∷ decimal count
said (lost generation have need) = codes "lost" ++ 32 ∷ (decimal generation ++ 32 ∷ (decimal have ++ 32 ∷ decimal need))
said (full need got drives) = codes "noroom" ++ 32 ∷ (decimal need ++ 32 ∷ (decimal got ++ 32 ∷ drives_text drives))

abbrev pub FitsReason : Reason → Type 0
FitsReason exists = Unit {0}
FitsReason absent = Unit {0}
FitsReason (few have need) = IsWide have × IsWide need
FitsReason (long count) = IsWide count
FitsReason (lost generation have need) = IsWide generation × (IsWide have × IsWide need)
FitsReason (full need got drives) = IsWide need × (IsWide got × AllByRecursion FitsDrive drives)

unfoldable pub few_in : List ℕ → Reason
few_in text = let have = cut 32 text in few (number_in have.0) (number_in have.1)

unfoldable pub lost_in : List ℕ → Reason
lost_in text =
    let generation = cut 32 text in
    let have = cut 32 generation.1 in
    lost (number_in generation.0) (number_in have.0) (number_in have.1)

unfoldable pub full_in : List ℕ → Reason
full_in text =
    let need = cut 32 text in
    let got = cut 32 need.1 in
    full (number_in need.0) (number_in got.0) (drives_in got.1)

abbrev reason_among : List ℕ → List ℕ → Reason
reason_among word rest =
    cond (same_text word (codes "exists")) exists
    (cond (same_text word (codes "absent")) absent
    (cond (same_text word (codes "toofew")) (few_in rest)
    (cond (same_text word (codes "toolong")) (long (number_in rest))
    (cond (same_text word (codes "lost")) (lost_in rest) (full_in rest)))))

abbrev pub reason_in : List ℕ → Reason
reason_in text = reason_among (cut 32 text).0 (cut 32 text).1

few_again : (have need : ℕ) → IsWide have → IsWide need → few_in (decimal have ++ 32 ∷ decimal need) ≡ few have need
unfolding few_in
few_again have need a b = rw (cut_at 32 (decimal have) (decimal need) (number_word have a).0) (rw (number_again have a, number_again need b) refl)

lost_again : (generation have need : ℕ) → IsWide generation → IsWide have → IsWide need
    → lost_in (decimal generation ++ 32 ∷ (decimal have ++ 32 ∷ decimal need)) ≡ lost generation have need
unfolding lost_in
lost_again generation have need a b d =
    rw (cut_at 32 (decimal generation) (decimal have ++ 32 ∷ decimal need) (number_word generation a).0)
    (rw (cut_at 32 (decimal have) (decimal need) (number_word have b).0) (rw (number_again generation a, number_again have b, number_again need d) refl))

full_again : (need got : ℕ) (drives : List Drive) → IsWide need → IsWide got → AllByRecursion FitsDrive drives
    → full_in (decimal need ++ 32 ∷ (decimal got ++ 32 ∷ drives_text drives)) ≡ full need got drives
unfolding full_in
full_again need got drives a b d =
    rw (cut_at 32 (decimal need) (decimal got ++ 32 ∷ drives_text drives) (number_word need a).0)
    (rw (cut_at 32 (decimal got) (drives_text drives) (number_word got b).0) (rw (number_again need a, number_again got b, drives_again drives d) refl))

pub reason_again : (r : Reason) → FitsReason r → reason_in (said r) ≡ r
reason_again exists h = refl
reason_again absent h = refl
reason_again (few have need) h = few_again have need h.0 h.1
reason_again (long count) h = ap long (number_again count h)
reason_again (lost generation have need) h = lost_again generation have need h.0 h.1.0 h.1.1
reason_again (full need got drives) h = full_again need got drives h.0 h.1.0 h.1.1

pub said_feed : (r : Reason) → FitsReason r → lacks 10 (said r) ≡ true
said_feed exists h = refl
said_feed absent h = refl
said_feed (few have need) h = spaced (codes "toofew") (decimal have ++ 32 ∷ decimal need) refl (spaced (decimal have) (decimal need) (number_word have h.0).1 (number_word need h.1).1)
said_feed (long count) h = spaced (codes "toolong") (decimal count) refl (number_word count h).1
said_feed (lost generation have need) h =
    spaced (codes "lost") (decimal generation ++ 32 ∷ (decimal have ++ 32 ∷ decimal need)) refl
    (spaced (decimal generation) (decimal have ++ 32 ∷ decimal need) (number_word generation h.0).1 (spaced (decimal have) (decimal need) (number_word have h.1.0).1 (number_word need h.1.1).1))
said_feed (full need got drives) h =
    spaced (codes "noroom") (decimal need ++ 32 ∷ (decimal got ++ 32 ∷ drives_text drives)) refl
    (spaced (decimal need) (decimal got ++ 32 ∷ drives_text drives) (number_word need h.0).1 (spaced (decimal got) (drives_text drives) (number_word got h.1.0).1 (drives_feed drives h.1.1)))

-- ---- the reasons of refusals

abbrev of_few : TooFew → Reason
of_few t = few t.have t.need

abbrev of_lost : Lost → Reason
of_lost l = lost l.generation l.have l.need

abbrev pub reason_of : Refused → Reason
reason_of refused.CreateExists = exists
reason_of (refused.CreateTooFew fault) = of_few fault
reason_of (refused.CreateNoRoom need got drives) = full need got drives
reason_of refused.DeleteAbsent = absent
reason_of (refused.WriteAbsent offset len) = absent
reason_of (refused.WriteTooFew offset len fault) = of_few fault
reason_of (refused.WriteTooLong offset len count) = long count
reason_of (refused.WriteLost offset len l) = of_lost l
reason_of (refused.WriteNoRoom offset len need got drives) = full need got drives
reason_of (refused.ReadAbsent offset len) = absent
reason_of (refused.ReadLost offset len l) = of_lost l
reason_of (refused.LevelAbsent level) = absent

pub reason_said : (r : Refused) → reason_text r ≡ said (reason_of r)
unfolding reason_text
reason_said refused.CreateExists = refl
reason_said (refused.CreateTooFew fault) = simp append_assoc
reason_said (refused.CreateNoRoom need got drives) = simp append_assoc
reason_said refused.DeleteAbsent = refl
reason_said (refused.WriteAbsent offset len) = refl
reason_said (refused.WriteTooFew offset len fault) = simp append_assoc
reason_said (refused.WriteTooLong offset len count) = refl
reason_said (refused.WriteLost offset len l) = simp append_assoc
reason_said (refused.WriteNoRoom offset len need got drives) = simp append_assoc
reason_said (refused.ReadAbsent offset len) = refl
reason_said (refused.ReadLost offset len l) = simp append_assoc
reason_said (refused.LevelAbsent level) = refl

pub reason_fits : (r : Refused) → FitsRefused r → FitsReason (reason_of r)
reason_fits refused.CreateExists h = tt
reason_fits (refused.CreateTooFew fault) h = (h.have, h.need)
reason_fits (refused.CreateNoRoom need got drives) h = h
reason_fits refused.DeleteAbsent h = tt
reason_fits (refused.WriteAbsent offset len) h = tt
reason_fits (refused.WriteTooFew offset len fault) h = (h.1.have, h.1.need)
reason_fits (refused.WriteTooLong offset len count) h = h.1
reason_fits (refused.WriteLost offset len l) h = (h.1.generation, (h.1.have, h.1.need))
reason_fits (refused.WriteNoRoom offset len need got drives) h = h.1
reason_fits (refused.ReadAbsent offset len) h = tt
reason_fits (refused.ReadLost offset len l) h = (h.1.generation, (h.1.have, h.1.need))
reason_fits (refused.LevelAbsent level) h = tt
