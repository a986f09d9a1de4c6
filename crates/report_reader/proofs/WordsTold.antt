-- The words of a report's lines tell what they spell.
use Rattle.std.proofs.Common.{codes, ◌≡◌, ℕ, zero, suc, ◌<◌, ◌^◌, ◌==◌, ◌/◌, ◌%◌, Bool, true, false, not, cond, ◌&&◌, List, [], ◌∷◌, ◌++◌, map, Option, Some, None, Ok, Err, refl, sym, ap, ap₂, ◌∙◌, inl, inr, arith, append_assoc, append-nil, get_or}
use Rattle.std.specs.Fmt.{decimal}
use Rattle.std.specs.List.{AllByRecursion}
use Rattle.std.specs.Result.{result_ok}
use Rattle.std.proofs.lemmas.Bool.{and_parts, cases_Bool, eqb-true}
use Rattle.std.proofs.lemmas.List.Elements.{All-contains, All-from_recursion}
use Rattle.std.proofs.lemmas.Option.{none-some}
use Rattle.hex.specs.Hex.{IsBytes, hex_digit_value, lower_digits, encode_lower, encode_with, decode_of}
use Rattle.hex.specs.declared.error.FromHexError.{FromHexError}
use Rattle.hex.proofs.HexLemmas.{decode_of-encode_lower, IsDigits-lower_digits}
use Rattle.domains.specs.Drive.{Drive}
use Rattle.domains.specs.Place.{Place}
use Rattle.domains.specs.Level.{Level, IsLevel, named_levels, level_name, two_copies}
use Rattle.domains.specs.declared.by.By.{By}
use Rattle.domains.specs.declared.group.Group.{Group}
use Rattle.scenario.specs.Ops.{drive_text}
use Rattle.report.specs.Words.{by_text, bytes_text, drives_text, group_text, groups_text, more_drives, more_groups, more_numbers, more_places, numbers_text, place_text, places_text}
use Rattle.report_reader.specs.Fits.{FitsBy, FitsDrive, FitsGroup, FitsPlace, IsWide}
use Rattle.report_reader.specs.Lines.{inode_tail, lacks}
use Rattle.report_reader.proofs.Cuts.{IsWord, cut, cut_at, decimal_lacks, has_it, lacks_both, number_again, number_in, number_word, one_piece, piece_at, pieces, same_text}
use Rattle.report_reader.proofs.CommaLists.{IsTold, list_in, listed, listed_again, listed_lacks, more}

-- ---- who made an entry

abbrev pub by_in : List ℕ → By
by_in text = record { actor = number_in (cut 46 text).0; call = number_in (cut 46 text).1 }

pub by_spelled : (by : By) → by_text by ≡ decimal by.actor ++ 46 ∷ decimal by.call
unfolding by_text
by_spelled by = simp append_assoc

pub by_again : (by : By) → FitsBy by → by_in (by_text by) ≡ by
by_again by h =
    ap by_in (by_spelled by)
    ∙ rw (cut_at 46 (decimal by.actor) (decimal by.call) (decimal_lacks 46 by.actor refl h.actor)) (rw (number_again by.actor h.actor, number_again by.call h.call) refl)

by_lacks : (c : ℕ) (by : By) → lacks c (decimal by.actor) ≡ true → lacks c (46 ∷ []) ≡ true → lacks c (decimal by.call) ≡ true → lacks c (by_text by) ≡ true
by_lacks c by one dot two = ap (lacks c) (by_spelled by) ∙ lacks_both c (decimal by.actor) (46 ∷ decimal by.call) one (lacks_both c (46 ∷ []) (decimal by.call) dot two)

pub by_word : (by : By) → FitsBy by → IsWord (by_text by)
by_word by h = (
  by_lacks 32 by (decimal_lacks 32 by.actor refl h.actor) refl (decimal_lacks 32 by.call refl h.call),
  by_lacks 10 by (decimal_lacks 10 by.actor refl h.actor) refl (decimal_lacks 10 by.call refl h.call),
)

abbrev made_by : ℕ → ℕ → By
made_by actor call = record { actor = actor; call = call }

pub by_is : (actor call : ℕ) (b : By) → actor ≡ b.actor → call ≡ b.call → made_by actor call ≡ b
by_is actor call b one two = rw (one, two) refl

-- ---- drives

abbrev made_drive : ℕ → ℕ → Drive
made_drive node drive = record { node = node; drive = drive }

pub drive_is : (node drive : ℕ) (d : Drive) → node ≡ d.node → drive ≡ d.drive → made_drive node drive ≡ d
drive_is node drive d one two = rw (one, two) refl

abbrev pub drive_in : List ℕ → Drive
drive_in text = record { node = number_in (cut 47 text).0; drive = number_in (cut 47 text).1 }

pub drive_spelled : (d : Drive) → drive_text d ≡ decimal d.node ++ 47 ∷ decimal d.drive
unfolding drive_text
drive_spelled d = simp append_assoc

pub drive_again : (d : Drive) → FitsDrive d → drive_in (drive_text d) ≡ d
drive_again d h =
    ap drive_in (drive_spelled d)
    ∙ rw (cut_at 47 (decimal d.node) (decimal d.drive) (decimal_lacks 47 d.node refl h.node)) (rw (number_again d.node h.node, number_again d.drive h.drive) refl)

pub drive_parts : (c : ℕ) (d : Drive) → lacks c (decimal d.node) ≡ true → lacks c (47 ∷ []) ≡ true → lacks c (decimal d.drive) ≡ true → lacks c (drive_text d) ≡ true
drive_parts c d one slash two = ap (lacks c) (drive_spelled d) ∙ lacks_both c (decimal d.node) (47 ∷ decimal d.drive) one (lacks_both c (47 ∷ []) (decimal d.drive) slash two)

pub drive_word : (d : Drive) → FitsDrive d → IsWord (drive_text d)
drive_word d h = (
  drive_parts 32 d (decimal_lacks 32 d.node refl h.node) refl (decimal_lacks 32 d.drive refl h.drive),
  drive_parts 10 d (decimal_lacks 10 d.node refl h.node) refl (decimal_lacks 10 d.drive refl h.drive),
)

pub drive_told : (d : Drive) → FitsDrive d → IsTold drive_text drive_in d
drive_told d h = record {
  again = drive_again d h;
  comma = drive_parts 44 d (decimal_lacks 44 d.node refl h.node) refl (decimal_lacks 44 d.drive refl h.drive);
  dash = drive_parts 45 d (decimal_lacks 45 d.node refl h.node) refl (decimal_lacks 45 d.drive refl h.drive);
}

module _ {A : Type 0} where
  pub all_so : (P Q : A → Type 0) → ((x : A) → P x → Q x) → (xs : List A) → AllByRecursion P xs → AllByRecursion Q xs
  all_so P Q so [] all = tt
  all_so P Q so (x ∷ xs) all = (so x all.0, all_so P Q so xs all.1)

more_drives-is : (ds : List Drive) → more_drives ds ≡ more drive_text ds
more_drives-is [] = refl
more_drives-is (d ∷ ds) = ap (λ (t : List ℕ). 44 ∷ (drive_text d ++ t)) (more_drives-is ds)

pub drives_text-is : (ds : List Drive) → drives_text ds ≡ listed drive_text ds
drives_text-is [] = refl
drives_text-is (d ∷ ds) = ap (λ (t : List ℕ). drive_text d ++ t) (more_drives-is ds)

abbrev pub drives_in : List ℕ → List Drive
drives_in text = list_in drive_in text

pub drives_again : (ds : List Drive) → AllByRecursion FitsDrive ds → drives_in (drives_text ds) ≡ ds
drives_again ds h = ap drives_in (drives_text-is ds) ∙ listed_again drive_text drive_in ds (all_so FitsDrive (IsTold drive_text drive_in) drive_told ds h)

pub drives_feed : (ds : List Drive) → AllByRecursion FitsDrive ds → lacks 10 (drives_text ds) ≡ true
drives_feed ds h =
    ap (lacks 10) (drives_text-is ds) ∙ listed_lacks 10 drive_text ds refl refl (all_so FitsDrive (λ d. lacks 10 (drive_text d) ≡ true) (λ d fit. (drive_word d fit).1) ds h)

-- ---- numbers

pub number_told : (n : ℕ) → IsWide n → IsTold decimal number_in n
number_told n h = record { again = number_again n h; comma = decimal_lacks 44 n refl h; dash = decimal_lacks 45 n refl h }

more_numbers-is : (ns : List ℕ) → more_numbers ns ≡ more decimal ns
more_numbers-is [] = refl
more_numbers-is (n ∷ ns) = ap (λ (t : List ℕ). 44 ∷ (decimal n ++ t)) (more_numbers-is ns)

pub numbers_text-is : (ns : List ℕ) → numbers_text ns ≡ listed decimal ns
numbers_text-is [] = refl
numbers_text-is (n ∷ ns) = ap (λ (t : List ℕ). decimal n ++ t) (more_numbers-is ns)

abbrev pub numbers_in : List ℕ → List ℕ
numbers_in text = list_in number_in text

pub numbers_again : (ns : List ℕ) → AllByRecursion IsWide ns → numbers_in (numbers_text ns) ≡ ns
numbers_again ns h = ap numbers_in (numbers_text-is ns) ∙ listed_again decimal number_in ns (all_so IsWide (IsTold decimal number_in) number_told ns h)

pub numbers_word : (ns : List ℕ) → AllByRecursion IsWide ns → IsWord (numbers_text ns)
numbers_word ns h = (
  ap (lacks 32) (numbers_text-is ns) ∙ listed_lacks 32 decimal ns refl refl (all_so IsWide (λ n. lacks 32 (decimal n) ≡ true) (λ n fit. (number_word n fit).0) ns h),
  ap (lacks 10) (numbers_text-is ns) ∙ listed_lacks 10 decimal ns refl refl (all_so IsWide (λ n. lacks 10 (decimal n) ≡ true) (λ n fit. (number_word n fit).1) ns h),
)

-- ---- places

abbrev place_in : List ℕ → Place
place_in text = record { drive = drive_in (cut 58 text).0; slot = number_in (cut 58 text).1 }

pub place_spelled : (s : Place) → place_text s ≡ drive_text s.drive ++ 58 ∷ decimal s.slot
unfolding place_text
place_spelled s = simp append_assoc

place_again : (s : Place) → FitsPlace s → place_in (place_text s) ≡ s
place_again s h =
    ap place_in (place_spelled s)
    ∙ rw (cut_at 58 (drive_text s.drive) (decimal s.slot) (drive_parts 58 s.drive (decimal_lacks 58 s.drive.node refl h.drive.node) refl (decimal_lacks 58 s.drive.drive refl h.drive.drive)))
    (rw (drive_again s.drive h.drive, number_again s.slot h.slot) refl)

abbrev made_place : Drive → ℕ → Place
made_place drive slot = record { drive = drive; slot = slot }

pub place_is : (drive : Drive) (slot : ℕ) (s : Place) → drive ≡ s.drive → slot ≡ s.slot → made_place drive slot ≡ s
place_is drive slot s one two = rw (one, two) refl

pub place_parts : (c : ℕ) (s : Place) → lacks c (drive_text s.drive) ≡ true → lacks c (58 ∷ []) ≡ true → lacks c (decimal s.slot) ≡ true → lacks c (place_text s) ≡ true
place_parts c s one colon two = ap (lacks c) (place_spelled s) ∙ lacks_both c (drive_text s.drive) (58 ∷ decimal s.slot) one (lacks_both c (58 ∷ []) (decimal s.slot) colon two)

pub place_told : (s : Place) → FitsPlace s → IsTold place_text place_in s
place_told s h =
    let d = drive_told s.drive h.drive in
    record { again = place_again s h; comma = place_parts 44 s d.comma refl (decimal_lacks 44 s.slot refl h.slot); dash = place_parts 45 s d.dash refl (decimal_lacks 45 s.slot refl h.slot) }

pub place_word : (s : Place) → FitsPlace s → IsWord (place_text s)
place_word s h =
    let d = drive_word s.drive h.drive in
    (place_parts 32 s d.0 refl (decimal_lacks 32 s.slot refl h.slot), place_parts 10 s d.1 refl (decimal_lacks 10 s.slot refl h.slot))

more_places-is : (ss : List Place) → more_places ss ≡ more place_text ss
more_places-is [] = refl
more_places-is (s ∷ ss) = ap (λ (t : List ℕ). 44 ∷ (place_text s ++ t)) (more_places-is ss)

pub places_text-is : (ss : List Place) → places_text ss ≡ listed place_text ss
places_text-is [] = refl
places_text-is (s ∷ ss) = ap (λ (t : List ℕ). place_text s ++ t) (more_places-is ss)

abbrev places_in : List ℕ → List Place
places_in text = list_in place_in text

places_again : (ss : List Place) → AllByRecursion FitsPlace ss → places_in (places_text ss) ≡ ss
places_again ss h = ap places_in (places_text-is ss) ∙ listed_again place_text place_in ss (all_so FitsPlace (IsTold place_text place_in) place_told ss h)

places_lack : (c : ℕ) (ss : List Place) → lacks c (44 ∷ []) ≡ true → lacks c (45 ∷ []) ≡ true → AllByRecursion (λ s. lacks c (place_text s) ≡ true) ss → lacks c (places_text ss) ≡ true
places_lack c ss comma dash h = ap (lacks c) (places_text-is ss) ∙ listed_lacks c place_text ss comma dash h

-- ---- groups

unfoldable pub group_in : List ℕ → Group
group_in text =
    let generation = cut 61 text in
    let n = cut 43 generation.1 in
    let m = cut 64 n.1 in
    record { generation = number_in generation.0; n = number_in n.0; m = number_in m.0; places = places_in m.1 }

abbrev made_group : ℕ → ℕ → ℕ → List Place → Group
made_group generation n m places = record { generation = generation; n = n; m = m; places = places }

pub group_is : (generation n m : ℕ) (places : List Place) (g : Group) → generation ≡ g.generation → n ≡ g.n → m ≡ g.m → places ≡ g.places → made_group generation n m places ≡ g
group_is generation n m places g a b d e = rw (a, b, d, e) refl

pub group_spelled : (g : Group) → group_text g ≡ decimal g.generation ++ 61 ∷ (decimal g.n ++ 43 ∷ (decimal g.m ++ 64 ∷ places_text g.places))
unfolding group_text
group_spelled g = simp append_assoc

pub group_again : (g : Group) → FitsGroup g → group_in (group_text g) ≡ g
unfolding group_in
group_again g h =
    ap group_in (group_spelled g)
    ∙ rw (cut_at 61 (decimal g.generation) (decimal g.n ++ 43 ∷ (decimal g.m ++ 64 ∷ places_text g.places)) (decimal_lacks 61 g.generation refl h.generation))
    (rw (cut_at 43 (decimal g.n) (decimal g.m ++ 64 ∷ places_text g.places) (decimal_lacks 43 g.n refl h.n))
    (rw (cut_at 64 (decimal g.m) (places_text g.places) (decimal_lacks 64 g.m refl h.m))
    (rw (number_again g.generation h.generation, number_again g.n h.n, number_again g.m h.m, places_again g.places h.places) refl)))

group_parts : (c : ℕ) (g : Group) → lacks c (decimal g.generation) ≡ true → lacks c (61 ∷ []) ≡ true → lacks c (decimal g.n) ≡ true → lacks c (43 ∷ []) ≡ true
    → lacks c (decimal g.m) ≡ true → lacks c (64 ∷ []) ≡ true → lacks c (places_text g.places) ≡ true → lacks c (group_text g) ≡ true
group_parts c g a x b y d z e =
    ap (lacks c) (group_spelled g)
    ∙ lacks_both c (decimal g.generation) (61 ∷ (decimal g.n ++ 43 ∷ (decimal g.m ++ 64 ∷ places_text g.places))) a
    (lacks_both c (61 ∷ []) (decimal g.n ++ 43 ∷ (decimal g.m ++ 64 ∷ places_text g.places)) x
    (lacks_both c (decimal g.n) (43 ∷ (decimal g.m ++ 64 ∷ places_text g.places)) b
    (lacks_both c (43 ∷ []) (decimal g.m ++ 64 ∷ places_text g.places) y
    (lacks_both c (decimal g.m) (64 ∷ places_text g.places) d (lacks_both c (64 ∷ []) (places_text g.places) z e)))))

pub group_word : (g : Group) → FitsGroup g → IsWord (group_text g)
group_word g h = (
  group_parts 32 g (decimal_lacks 32 g.generation refl h.generation) refl (decimal_lacks 32 g.n refl h.n) refl (decimal_lacks 32 g.m refl h.m) refl
      (places_lack 32 g.places refl refl (all_so FitsPlace (λ s. lacks 32 (place_text s) ≡ true) (λ s fit. (place_word s fit).0) g.places h.places)),
  group_parts 10 g (decimal_lacks 10 g.generation refl h.generation) refl (decimal_lacks 10 g.n refl h.n) refl (decimal_lacks 10 g.m refl h.m) refl
      (places_lack 10 g.places refl refl (all_so FitsPlace (λ s. lacks 10 (place_text s) ≡ true) (λ s fit. (place_word s fit).1) g.places h.places)),
)

pub group_has : (g : Group) → lacks 61 (group_text g) ≡ false
group_has g = ap (lacks 61) (group_spelled g) ∙ has_it 61 (decimal g.generation) (decimal g.n ++ 43 ∷ (decimal g.m ++ 64 ∷ places_text g.places))

abbrev first_piece : List (List ℕ) → List ℕ
first_piece [] = []
first_piece (p ∷ ps) = p

-- the groups up to the word inode, and the group behind it; a dash is no group
abbrev pub groups_and_inode : List (List ℕ) → List Group × Group
groups_and_inode [] = ([], group_in [])
groups_and_inode (p ∷ ps) =
    cond (lacks 61 p) (cond (same_text p (codes "inode")) ([], group_in (first_piece ps)) (groups_and_inode ps)) (group_in p ∷ (groups_and_inode ps).0, (groups_and_inode ps).1)

inode_pieces : (i : Group) → FitsGroup i → groups_and_inode (pieces 32 (codes "inode" ++ 32 ∷ group_text i)) ≡ ([], i)
inode_pieces i h =
    ap groups_and_inode (piece_at 32 (codes "inode") (group_text i) refl ∙ ap (λ ps. codes "inode" ∷ ps) (one_piece 32 (group_text i) (group_word i h).0))
    ∙ ap (λ g. ([], g)) (group_again i h)

abbrev before : Group → List Group × Group → List Group × Group
before g rest = (g ∷ rest.0, rest.1)

groups_pieces : (g : Group) (gs : List Group) (i : Group) → AllByRecursion FitsGroup (g ∷ gs) → FitsGroup i
    → groups_and_inode (pieces 32 (group_text g ++ (more_groups gs ++ inode_tail i))) ≡ (g ∷ gs, i)
groups_pieces g [] i h hi =
    ap groups_and_inode (piece_at 32 (group_text g) (codes "inode" ++ 32 ∷ group_text i) (group_word g h.0).0)
    ∙ rw (group_has g, group_again g h.0) (ap (before g) (inode_pieces i hi))
groups_pieces g (k ∷ ks) i h hi =
    let rest = group_text k ++ (more_groups ks ++ inode_tail i) in
    let spelled : group_text g ++ (more_groups (k ∷ ks) ++ inode_tail i) ≡ group_text g ++ 32 ∷ rest = ap (λ (t : List ℕ). group_text g ++ 32 ∷ t) (append_assoc (group_text k) (more_groups ks) (inode_tail i)) in
    ap (λ t. groups_and_inode (pieces 32 t)) spelled ∙ ap groups_and_inode (piece_at 32 (group_text g) rest (group_word g h.0).0)
    ∙ rw (group_has g, group_again g h.0) (ap (before g) (groups_pieces k ks i h.1 hi))

pub groups_again : (gs : List Group) (i : Group) → AllByRecursion FitsGroup gs → FitsGroup i → groups_and_inode (pieces 32 (groups_text gs ++ inode_tail i)) ≡ (gs, i)
groups_again [] i h hi =
    ap groups_and_inode (piece_at 32 (codes "-") (codes "inode" ++ 32 ∷ group_text i) refl) ∙ inode_pieces i hi
groups_again (g ∷ gs) i h hi = ap (λ t. groups_and_inode (pieces 32 t)) (append_assoc (group_text g) (more_groups gs) (inode_tail i)) ∙ groups_pieces g gs i h hi

more_groups-feed : (gs : List Group) → AllByRecursion FitsGroup gs → lacks 10 (more_groups gs) ≡ true
more_groups-feed [] h = refl
more_groups-feed (g ∷ gs) h = lacks_both 10 (32 ∷ group_text g) (more_groups gs) (lacks_both 10 (32 ∷ []) (group_text g) refl (group_word g h.0).1) (more_groups-feed gs h.1)

groups_feed : (gs : List Group) → AllByRecursion FitsGroup gs → lacks 10 (groups_text gs) ≡ true
groups_feed [] h = refl
groups_feed (g ∷ gs) h = lacks_both 10 (group_text g) (more_groups gs) (group_word g h.0).1 (more_groups-feed gs h.1)

pub groups_tail-feed : (gs : List Group) (i : Group) → AllByRecursion FitsGroup gs → FitsGroup i → lacks 10 (groups_text gs ++ inode_tail i) ≡ true
groups_tail-feed gs i h hi =
    lacks_both 10 (groups_text gs) (inode_tail i) (groups_feed gs h) (lacks_both 10 (codes " inode ") (group_text i) refl (group_word i hi).1)

-- ---- levels

abbrev level_among : List (Level × List ℕ) → List ℕ → Level
level_among [] text = two_copies
level_among (named ∷ rest) text = cond (same_text named.1 text) named.0 (level_among rest text)

abbrev pub level_in : List ℕ → Level
level_in text = level_among named_levels text

abbrev rows : List Level
rows = map (λ (named : Level × List ℕ). named.0) named_levels

levels_again : AllByRecursion (λ (l : Level). level_in (level_name l) ≡ l) rows
levels_again = (refl, (refl, (refl, (refl, (refl, (refl, (refl, (refl, (refl, (refl, (refl, (refl, (refl, (refl, (refl, (refl, tt))))))))))))))))

levels_space : AllByRecursion (λ (l : Level). lacks 32 (level_name l) ≡ true) rows
levels_space = (refl, (refl, (refl, (refl, (refl, (refl, (refl, (refl, (refl, (refl, (refl, (refl, (refl, (refl, (refl, (refl, tt))))))))))))))))

levels_feed : AllByRecursion (λ (l : Level). lacks 10 (level_name l) ≡ true) rows
levels_feed = (refl, (refl, (refl, (refl, (refl, (refl, (refl, (refl, (refl, (refl, (refl, (refl, (refl, (refl, (refl, (refl, tt))))))))))))))))

pub level_again : (level : Level) → IsLevel level → level_in (level_name level) ≡ level
level_again level is = All-contains (λ (l : Level). level_in (level_name l) ≡ l) rows level (All-from_recursion (λ (l : Level). level_in (level_name l) ≡ l) rows levels_again) is

pub level_word : (level : Level) → IsLevel level → IsWord (level_name level)
level_word level is = (
  All-contains (λ (l : Level). lacks 32 (level_name l) ≡ true) rows level (All-from_recursion (λ (l : Level). lacks 32 (level_name l) ≡ true) rows levels_space) is,
  All-contains (λ (l : Level). lacks 10 (level_name l) ≡ true) rows level (All-from_recursion (λ (l : Level). lacks 10 (level_name l) ≡ true) rows levels_feed) is,
)

-- ---- bytes

is_bytes : (bytes : List ℕ) → AllByRecursion (λ (b : ℕ). b < 256) bytes → IsBytes bytes
is_bytes [] h i = omega arith
is_bytes (b ∷ bs) h zero = h.0
is_bytes (b ∷ bs) h (suc i) = is_bytes bs h.1 i

-- what the hexadecimal text of bytes is decoded as
pub bytes_read : (t items bytes : List ℕ) → decode_of t ≡ Ok items → AllByRecursion (λ (b : ℕ). b < 256) bytes → t ≡ bytes_text bytes → items ≡ bytes
bytes_read t items [] decoded h is = let odd : decode_of (45 ∷ []) ≡ Ok items = sym (ap decode_of is) ∙ decoded in absurd cc
bytes_read t items (b ∷ bs) decoded h is =
    let again : decode_of (encode_lower (b ∷ bs)) ≡ Ok (b ∷ bs) = decode_of-encode_lower (b ∷ bs) (is_bytes (b ∷ bs) h) in
    let found : decode_of (encode_lower (b ∷ bs)) ≡ Ok items = sym (ap decode_of is) ∙ decoded in
    cc

-- only a dash is not decoded
pub bytes_unread : (t bytes : List ℕ) (e : FromHexError) → decode_of t ≡ Err e → AllByRecursion (λ (b : ℕ). b < 256) bytes → t ≡ bytes_text bytes → [] ≡ bytes
bytes_unread t [] e decoded h is = refl
bytes_unread t (b ∷ bs) e decoded h is =
    let again : decode_of (encode_lower (b ∷ bs)) ≡ Ok (b ∷ bs) = decode_of-encode_lower (b ∷ bs) (is_bytes (b ∷ bs) h) in
    let found : decode_of (encode_lower (b ∷ bs)) ≡ Err e = sym (ap decode_of is) ∙ decoded in
    absurd cc

abbrev option_or_none : Option (List ℕ) → List ℕ
option_or_none None = []
option_or_none (Some bytes) = bytes

-- a dash, or hexadecimal
abbrev pub bytes_in : List ℕ → List ℕ
bytes_in [] = []
bytes_in (c ∷ []) = []
bytes_in (c ∷ d ∷ more) = option_or_none (result_ok (decode_of (c ∷ d ∷ more)))

pub bytes_again : (bytes : List ℕ) → AllByRecursion (λ (b : ℕ). b < 256) bytes → bytes_in (bytes_text bytes) ≡ bytes
unfolding encode_with
bytes_again [] h = refl
bytes_again (b ∷ bs) h = ap (λ r. option_or_none (result_ok r)) (decode_of-encode_lower (b ∷ bs) (is_bytes (b ∷ bs) h))

-- no hexadecimal digit is this byte
digit_apart : (c d : ℕ) → hex_digit_value c ≡ None → d < 16 → (get_or lower_digits d 0 == c) ≡ false
digit_apart c d none low = elim (cases_Bool (get_or lower_digits d 0 == c)) [
  | inl is ↦ absurd (none-some d (sym none ∙ (ap hex_digit_value (sym (eqb-true (get_or lower_digits d 0) c is)) ∙ IsDigits-lower_digits d low)))
  | inr isnt ↦ isnt
]

hex_lacks : (c : ℕ) (bs : List ℕ) → hex_digit_value c ≡ None → IsBytes bs → lacks c (encode_with lower_digits bs) ≡ true
unfolding encode_with
hex_lacks c [] none h = refl
hex_lacks c (b ∷ bs) none h =
    let fits : b < 256 = h 0 in
    rw (digit_apart c (b / 16) none (omega arith), digit_apart c (b % 16) none (omega arith), hex_lacks c bs none (λ i. h (suc i))) refl

pub bytes_feed : (bytes : List ℕ) → AllByRecursion (λ (b : ℕ). b < 256) bytes → lacks 10 (bytes_text bytes) ≡ true
bytes_feed [] h = refl
bytes_feed (b ∷ bs) h = hex_lacks 10 (b ∷ bs) refl (is_bytes (b ∷ bs) h)
