-- Bytes in pages, by place.
use Rattle.std.proofs.Common.{◌≡◌, ℕ, zero, suc, ◌+◌, ◌-◌, ◌/◌, ◌%◌, ◌<◌, ◌≤◌, ◌⊎◌, inl, inr, min, max, List, ◌++◌, length, take, drop, replicate, refl, sym, ap, subst, ◌∙◌, arith, Vec}
use Rattle.std.proofs.lemmas.List.{length-take, length-drop, length-append, length-replicate, drop-drop, take_all, take_rest, drop_all, append-nil, get_or-take, get_or-drop, get_or_append_left, get_or-append_right, get_or_past, ext_get_or}
use Rattle.std.proofs.lemmas.Bool.{cases_eq, cases_lt}
use Rattle.std.specs.BTreeMap.{BTreeMap}
use Rattle.sparse_bytes.specs.declared.sparse_bytes.SparseBytes.{SparseBytes}
use Rattle.file_history.specs.Bytes.{overwrite}
use Rattle.write_rule.proofs.NewBytesByPlace.{overwrite_before, overwrite_behind, overwrite_within, overwrite_length}
use Rattle.sparse_bytes.specs.Pages.{Holds, IsPut, IsPutInPage, IsShown, byte_at, byte_in, page_of}

-- of these bytes, to be put from the offset on, those before this place stand in the pages, and the rest are left
pub record IsPutBefore {Z : Type 0} (old : BTreeMap ℕ (Vec ℕ Z)) (offset : ℕ) (bytes : List ℕ) (new : BTreeMap ℕ (Vec ℕ Z)) (place : ℕ) (rest : List ℕ) : Type 0 where
  pub from : offset ≤ place
  pub whole : place + length rest ≡ offset + length bytes
  pub left : rest ≡ drop (place - offset) bytes
  pub put : IsPut (byte_at old) offset (take (place - offset) bytes) (byte_at new)

-- of these bytes, to be shown from the offset on, those before this place are shown, and the rest are left
pub record IsShownBefore {Z : Type 0} (pages : BTreeMap ℕ (Vec ℕ Z)) (offset : ℕ) (bytes : List ℕ) (place : ℕ) (rest : List ℕ) : Type 0 where
  pub from : offset ≤ place
  pub whole : place + length rest ≡ offset + length bytes
  pub left : rest ≡ drop (place - offset) bytes
  pub shown : IsShown (byte_at pages) offset (take (place - offset) bytes)

-- the bytes from one place on within a page are those of the file from that place on
in_page : {Z : Type 0} → (pages : BTreeMap ℕ (Vec ℕ Z)) (place i : ℕ) → place % 256 + i < 256
    → byte_at pages (place + i) ≡ byte_in (page_of pages (place / 256)) (place % 256 + i)
in_page pages place i here =
    let number : (place + i) / 256 ≡ place / 256 = omega arith in
    let rest : (place + i) % 256 ≡ place % 256 + i = omega arith in
    ap (λ (n : ℕ). byte_in (page_of pages n) ((place + i) % 256)) number ∙ ap (byte_in (page_of pages (place / 256))) rest

-- what was put into a page is put into the file
put_in_file : {Z : Type 0} → (old new : BTreeMap ℕ (Vec ℕ Z)) (place : ℕ) (part : List ℕ) → place % 256 + length part ≤ 256
    → IsPutInPage old (place / 256) (place % 256) part new → IsPut (byte_at old) place part (byte_at new)
put_in_file old new place part small is = record {
  within = λ i below. in_page new place i (omega (arith, below, small)) ∙ is.put.within i below;
  before = λ i below. elsewhere i (cases_eq (i / 256) (place / 256))
      (λ same. is.put.before (i % 256) (omega (arith, same, below)));
  behind = λ i past. elsewhere i (cases_eq (i / 256) (place / 256))
      (λ same. is.put.behind (i % 256) (omega (arith, same, past)));
}
  where
    elsewhere : (i : ℕ) → (i / 256 ≡ place / 256) ⊎ (i / 256 ≡ place / 256 → ⊥)
        → (i / 256 ≡ place / 256 → byte_in (page_of new (place / 256)) (i % 256) ≡ byte_in (page_of old (place / 256)) (i % 256))
        → byte_at new i ≡ byte_at old i
    elsewhere i (inl same) here =
        ap (λ (n : ℕ). byte_in (page_of new n) (i % 256)) same ∙ here same ∙ sym (ap (λ (n : ℕ). byte_in (page_of old n) (i % 256)) same)
    elsewhere i (inr apart) here = ap (λ (bytes : List ℕ). byte_in bytes (i % 256)) (is.others (i / 256) apart)

-- what a page shows the file shows
shown_in_file : {Z : Type 0} → (pages : BTreeMap ℕ (Vec ℕ Z)) (place : ℕ) (part : List ℕ) → place % 256 + length part ≤ 256
    → IsShown (byte_in (page_of pages (place / 256))) (place % 256) part → IsShown (byte_at pages) place part
shown_in_file pages place part small is = record {
  each = λ i below. in_page pages place i (omega (arith, below, small)) ∙ is.each i below;
}

shown_in_page : {Z : Type 0} → (pages : BTreeMap ℕ (Vec ℕ Z)) (place : ℕ) (part : List ℕ) → place % 256 + length part ≤ 256
    → IsShown (byte_at pages) place part → IsShown (byte_in (page_of pages (place / 256))) (place % 256) part
shown_in_page pages place part small is = record {
  each = λ i below. sym (in_page pages place i (omega (arith, below, small))) ∙ is.each i below;
}

-- one part of a list after another, by place
part_place : (bytes : List ℕ) (done count i : ℕ) → i < count → byte_in (take count (drop done bytes)) i ≡ byte_in bytes (done + i)
part_place bytes done count i below = get_or-take count (drop done bytes) i 0 below ∙ get_or-drop done bytes i 0

front_place : (bytes : List ℕ) (count i : ℕ) → i < count → byte_in (take count bytes) i ≡ byte_in bytes i
front_place bytes count i below = get_or-take count bytes i 0 below

-- the next bytes are put behind those that were
put_more : {Z : Type 0} → (old mid new : BTreeMap ℕ (Vec ℕ Z)) (offset : ℕ) (bytes : List ℕ) (place : ℕ) (rest : List ℕ) (count : ℕ)
    → IsPutBefore old offset bytes mid place rest → count ≤ length rest → IsPut (byte_at mid) place (take count rest) (byte_at new)
    → IsPutBefore old offset bytes new (place + count) (drop count rest)
put_more old mid new offset bytes place rest count was most is = record {
  from = omega (arith, from);
  whole = omega (arith, whole, dropped, most);
  left = ap (drop count) was.left ∙ drop-drop count (place - offset) bytes ∙ ap (λ (n : ℕ). drop n bytes) next;
  put = record {
    within = λ i below. by_part i (omega (arith, below, more, from)) (cases_lt i (place - offset));
    before = λ i below. is.before i (omega (arith, below, from)) ∙ was.put.before i below;
    behind = λ i past. is.behind i (omega (arith, past, more, part, from, whole, most)) ∙ was.put.behind i (omega (arith, past, more, done, from, whole, most));
  };
}
  where
    from : offset ≤ place
    from = was.from

    next : place - offset + count ≡ place + count - offset
    next = omega (arith, from)

    whole : place + length rest ≡ offset + length bytes
    whole = was.whole

    dropped : length (drop count rest) ≡ length rest - count
    dropped = length-drop count rest

    more : length (take (place + count - offset) bytes) ≡ min (place + count - offset) (length bytes)
    more = length-take (place + count - offset) bytes

    done : length (take (place - offset) bytes) ≡ min (place - offset) (length bytes)
    done = length-take (place - offset) bytes

    part : length (take count rest) ≡ min count (length rest)
    part = length-take count rest

    by_part : (i : ℕ) → i < place + count - offset → (i < place - offset) ⊎ (place - offset ≤ i)
        → byte_at new (offset + i) ≡ byte_in (take (place + count - offset) bytes) i
    by_part i below (inl early) =
        is.before (offset + i) (omega (arith, early, from)) ∙ was.put.within i (omega (arith, early, done, whole, from))
        ∙ front_place bytes (place - offset) i early ∙ sym (front_place bytes (place + count - offset) i below)
    by_part i below (inr late) =
        let at : place + (i - (place - offset)) ≡ offset + i = omega (arith, late, from) in
        let back : place - offset + (i - (place - offset)) ≡ i = omega (arith, late) in
        ap (byte_at new) (sym at) ∙ is.within (i - (place - offset)) (omega (arith, below, late, from, part, most))
        ∙ ap (λ (l : List ℕ). byte_in (take count l) (i - (place - offset))) was.left
        ∙ part_place bytes (place - offset) count (i - (place - offset)) (omega (arith, below, late, from))
        ∙ ap (byte_in bytes) back ∙ sym (front_place bytes (place + count - offset) i below)

pub put_none : {Z : Type 0} → (old : BTreeMap ℕ (Vec ℕ Z)) (offset : ℕ) (bytes : List ℕ) → IsPutBefore old offset bytes old offset bytes
put_none old offset bytes = record {
  from = omega arith;
  whole = refl;
  left = sym (ap (λ (n : ℕ). drop n bytes) none);
  put = record {
    within = λ i below. absurd (omega (arith, below, length-take (offset - offset) bytes));
    before = λ i below. refl;
    behind = λ i past. refl;
  };
}
  where
    none : offset - offset ≡ 0
    none = omega arith

pub put_all : {Z : Type 0} → (old new : BTreeMap ℕ (Vec ℕ Z)) (offset : ℕ) (bytes : List ℕ) (place : ℕ) (rest : List ℕ)
    → IsPutBefore old offset bytes new place rest → length rest ≡ 0 → IsPut (byte_at old) offset bytes (byte_at new)
put_all old new offset bytes place rest was none =
    let whole = was.whole in
    let P : List ℕ → Type 0 = λ l. IsPut (byte_at old) offset l (byte_at new) in
    subst P (take_all (place - offset) bytes (omega (arith, whole, none))) was.put

-- the next bytes are shown behind those that were
show_more : {Z : Type 0} → (pages : BTreeMap ℕ (Vec ℕ Z)) (offset : ℕ) (bytes : List ℕ) (place : ℕ) (rest : List ℕ) (count : ℕ)
    → IsShownBefore pages offset bytes place rest → count ≤ length rest → IsShown (byte_at pages) place (take count rest)
    → IsShownBefore pages offset bytes (place + count) (drop count rest)
show_more pages offset bytes place rest count was most is = record {
  from = omega (arith, from);
  whole = omega (arith, whole, dropped, most);
  left = ap (drop count) was.left ∙ drop-drop count (place - offset) bytes ∙ ap (λ (n : ℕ). drop n bytes) next;
  shown = record { each = λ i below. by_part i (omega (arith, below, more, from)) (cases_lt i (place - offset)) };
}
  where
    from : offset ≤ place
    from = was.from

    next : place - offset + count ≡ place + count - offset
    next = omega (arith, from)

    whole : place + length rest ≡ offset + length bytes
    whole = was.whole

    dropped : length (drop count rest) ≡ length rest - count
    dropped = length-drop count rest

    more : length (take (place + count - offset) bytes) ≡ min (place + count - offset) (length bytes)
    more = length-take (place + count - offset) bytes

    done : length (take (place - offset) bytes) ≡ min (place - offset) (length bytes)
    done = length-take (place - offset) bytes

    part : length (take count rest) ≡ min count (length rest)
    part = length-take count rest

    by_part : (i : ℕ) → i < place + count - offset → (i < place - offset) ⊎ (place - offset ≤ i)
        → byte_at pages (offset + i) ≡ byte_in (take (place + count - offset) bytes) i
    by_part i below (inl early) =
        was.shown.each i (omega (arith, early, done, whole, from))
        ∙ front_place bytes (place - offset) i early ∙ sym (front_place bytes (place + count - offset) i below)
    by_part i below (inr late) =
        let at : place + (i - (place - offset)) ≡ offset + i = omega (arith, late, from) in
        let back : place - offset + (i - (place - offset)) ≡ i = omega (arith, late) in
        ap (byte_at pages) (sym at) ∙ is.each (i - (place - offset)) (omega (arith, below, late, from, part, most))
        ∙ ap (λ (l : List ℕ). byte_in (take count l) (i - (place - offset))) was.left
        ∙ part_place bytes (place - offset) count (i - (place - offset)) (omega (arith, below, late, from))
        ∙ ap (byte_in bytes) back ∙ sym (front_place bytes (place + count - offset) i below)

pub show_none : {Z : Type 0} → (pages : BTreeMap ℕ (Vec ℕ Z)) (offset : ℕ) (bytes : List ℕ) → IsShownBefore pages offset bytes offset bytes
show_none pages offset bytes = record {
  from = omega arith;
  whole = refl;
  left = sym (ap (λ (n : ℕ). drop n bytes) none);
  shown = record { each = λ i below. absurd (omega (arith, below, length-take (offset - offset) bytes)) };
}
  where
    none : offset - offset ≡ 0
    none = omega arith

pub show_all : {Z : Type 0} → (pages : BTreeMap ℕ (Vec ℕ Z)) (offset : ℕ) (bytes : List ℕ) (place : ℕ) (rest : List ℕ)
    → IsShownBefore pages offset bytes place rest → length rest ≡ 0 → IsShown (byte_at pages) offset bytes
show_all pages offset bytes place rest was none =
    let whole = was.whole in
    let P : List ℕ → Type 0 = λ l. IsShown (byte_at pages) offset l in
    subst P (take_all (place - offset) bytes (omega (arith, whole, none))) was.shown

-- what is shown is shown in each part
part_shown : {Z : Type 0} → (pages : BTreeMap ℕ (Vec ℕ Z)) (offset : ℕ) (bytes : List ℕ) (place : ℕ) (rest : List ℕ) (count : ℕ)
    → IsShownBefore pages offset bytes place rest → IsShown (byte_at pages) offset bytes → IsShown (byte_at pages) place (take count rest)
part_shown pages offset bytes place rest count was is = record {
  each = λ i below.
      let part = length-take count rest in
      let from = was.from in
      let whole = was.whole in
      let at : offset + (place - offset + i) ≡ place + i = omega (arith, from) in
      ap (byte_at pages) (sym at) ∙ is.each (place - offset + i) (omega (arith, below, part, from, whole))
      ∙ sym (get_or-drop (place - offset) bytes i 0) ∙ sym (ap (λ (l : List ℕ). byte_in l i) was.left)
      ∙ sym (front_place rest count i (omega (arith, below, part)));
}

-- the file holds the bytes with the payload over them
pub holds_written : (old new : SparseBytes) (offset : ℕ) (payload bytes : List ℕ) → IsPut (byte_at old.pages) offset payload (byte_at new.pages)
    → new.size ≡ max old.size (offset + length payload) → Holds old bytes → Holds new (overwrite bytes offset payload)
holds_written old new offset payload bytes put size_is was = record {
  size_is = size_is ∙ long;
  each = λ i. by_place i (cases_lt i offset) (cases_lt i (offset + length payload));
}
  where
    long : max old.size (offset + length payload) ≡ length (overwrite bytes offset payload)
    long =
        let is = overwrite_length bytes offset payload in
        let size = was.size_is in
        omega (arith, is, size)

    by_place : (i : ℕ) → (i < offset) ⊎ (offset ≤ i) → (i < offset + length payload) ⊎ (offset + length payload ≤ i)
        → byte_at new.pages i ≡ byte_in (overwrite bytes offset payload) i
    by_place i (inl before) any = put.before i before ∙ was.each i ∙ sym (overwrite_before bytes offset payload i before)
    by_place i (inr past) (inl below) =
        let at : offset + (i - offset) ≡ i = omega (arith, past) in
        ap (byte_at new.pages) (sym at) ∙ put.within (i - offset) (omega (arith, past, below))
        ∙ sym (overwrite_within bytes offset payload i past below)
    by_place i (inr past) (inr behind) = put.behind i behind ∙ was.each i ∙ sym (overwrite_behind bytes offset payload i behind)

-- bytes put over a part of a list that reaches far enough
pub put_over : (old bytes : List ℕ) (start count zeros : ℕ) (new : List ℕ) → count ≡ length bytes → start + count ≤ length old + zeros
    → new ≡ take start (old ++ replicate zeros 0) ++ (bytes ++ drop count (drop start (old ++ replicate zeros 0)))
    → IsPut (byte_in old) start bytes (byte_in new)
put_over old bytes start count zeros new is enough parts = record {
  within = λ i below. moved (start + i)
      ∙ get_or-append_right front (bytes ++ rest) start (start + i) 0 front_long (omega arith)
      ∙ get_or_append_left bytes rest 0 (start + i - start) (omega (arith, below)) ∙ ap (byte_in bytes) (back i);
  before = λ i below. moved i ∙ get_or_append_left front (bytes ++ rest) 0 i (omega (arith, below, front_long))
      ∙ get_or-take start padded i 0 below ∙ padded_at i (cases_lt i (length old));
  behind = λ i past. moved i ∙ get_or-append_right front (bytes ++ rest) start i 0 front_long (omega (arith, past))
      ∙ get_or-append_right bytes rest (length bytes) (i - start) 0 refl (omega (arith, past))
      ∙ get_or-drop count (drop start padded) (i - start - length bytes) 0
      ∙ get_or-drop start padded (count + (i - start - length bytes)) 0 ∙ ap (byte_in padded) (along i past)
      ∙ padded_at i (cases_lt i (length old));
}
  where
    padded : List ℕ
    padded = old ++ replicate zeros 0

    front : List ℕ
    front = take start padded

    rest : List ℕ
    rest = drop count (drop start padded)

    front_long : length front ≡ start
    front_long =
        let taken = length-take start padded in
        let whole = length-append old (replicate zeros 0) in
        let more = length-replicate {A = ℕ} zeros 0 in
        omega (arith, taken, whole, more, enough)

    moved : (i : ℕ) → byte_in new i ≡ byte_in (front ++ (bytes ++ rest)) i
    moved i = ap (λ (l : List ℕ). byte_in l i) parts

    back : (i : ℕ) → start + i - start ≡ i
    back i = omega arith

    along : (i : ℕ) → start + length bytes ≤ i → start + (count + (i - start - length bytes)) ≡ i
    along i past = omega (arith, past, is)

    zero_at : (n i : ℕ) → byte_in (replicate n 0) i ≡ 0
    zero_at zero i = refl
    zero_at (suc n) zero = refl
    zero_at (suc n) (suc i) = zero_at n i

    padded_at : (i : ℕ) → (i < length old) ⊎ (length old ≤ i) → byte_in padded i ≡ byte_in old i
    padded_at i (inl here) = get_or_append_left old (replicate zeros 0) 0 i here
    padded_at i (inr past) =
        get_or-append_right old (replicate zeros 0) (length old) i 0 refl past ∙ zero_at zeros (i - length old) ∙ sym (get_or_past old i 0 past)

-- a step of the writing, as the code cuts the bytes
pub put_step : {Z : Type 0} → (old mid new : BTreeMap ℕ (Vec ℕ Z)) (offset : ℕ) (bytes : List ℕ) (place : ℕ) (rest : List ℕ) (count : ℕ)
    → IsPutBefore old offset bytes mid place rest → count ≤ length rest → place % 256 + count ≤ 256
    → IsPutInPage mid (place / 256) (place % 256) (take count rest) new
    → IsPutBefore old offset bytes new (place + count) (take (length rest - count) (drop count rest))
put_step old mid new offset bytes place rest count was most small is =
    let P : List ℕ → Type 0 = λ l. IsPutBefore old offset bytes new (place + count) l in
    let part : length (take count rest) ≡ min count (length rest) = length-take count rest in
    subst P (sym (take_rest rest count)) (put_more old mid new offset bytes place rest count was most
    (put_in_file mid new place (take count rest) (omega (arith, part, small)) is))

-- a step of the showing, as the code cuts the bytes
pub show_step : {Z : Type 0} → (pages : BTreeMap ℕ (Vec ℕ Z)) (offset : ℕ) (bytes : List ℕ) (place : ℕ) (rest : List ℕ) (count : ℕ)
    → IsShownBefore pages offset bytes place rest → count ≤ length rest → place % 256 + count ≤ 256
    → IsShown (byte_in (page_of pages (place / 256))) (place % 256) (take count rest)
    → IsShownBefore pages offset bytes (place + count) (take (length rest - count) (drop count rest))
show_step pages offset bytes place rest count was most small is =
    let P : List ℕ → Type 0 = λ l. IsShownBefore pages offset bytes (place + count) l in
    let part : length (take count rest) ≡ min count (length rest) = length-take count rest in
    subst P (sym (take_rest rest count)) (show_more pages offset bytes place rest count was most
    (shown_in_file pages place (take count rest) (omega (arith, part, small)) is))

-- if the whole is shown, so is the next part
pub next_shown : {Z : Type 0} → (pages : BTreeMap ℕ (Vec ℕ Z)) (offset : ℕ) (bytes : List ℕ) (place : ℕ) (rest : List ℕ) (count : ℕ)
    → IsShownBefore pages offset bytes place rest → count ≤ length rest → place % 256 + count ≤ 256
    → IsShown (byte_at pages) offset bytes → IsShown (byte_in (page_of pages (place / 256))) (place % 256) (take count rest)
next_shown pages offset bytes place rest count was most small is =
    let part : length (take count rest) ≡ min count (length rest) = length-take count rest in
    (shown_in_page pages place (take count rest) (omega (arith, part, small)) (part_shown pages offset bytes place rest count was is))

-- a page from a place on, as the code cuts it
module _ (page bytes : List ℕ) (start cut : ℕ) (cut_is : cut ≡ min start (length page)) where
  abbrev pub tail_of : List ℕ
  tail_of = take (length page - cut) (drop cut page)

  tail_is : tail_of ≡ drop cut page
  tail_is = take_rest page cut

  tail_long : length tail_of ≡ length page - start
  tail_long =
      let is = ap (λ (l : List ℕ). length l) tail_is in
      let long = length-drop cut page in
      omega (arith, is, long, cut_is)

  tail_at : (i : ℕ) → byte_in tail_of i ≡ byte_in page (start + i)
  tail_at i = ap (λ (l : List ℕ). byte_in l i) tail_is ∙ get_or-drop cut page i 0 ∙ by_start (cases_lt start (length page))
    where
      by_start : (start < length page) ⊎ (length page ≤ start) → byte_in page (cut + i) ≡ byte_in page (start + i)
      by_start (inl below) = ap (λ (n : ℕ). byte_in page (n + i)) (omega (arith, below, cut_is))
      by_start (inr past) = get_or_past page (cut + i) 0 (omega (arith, past, cut_is)) ∙ sym (get_or_past page (start + i) 0 (omega (arith, past)))

  module _ (told : ℕ) (told_is : told ≡ min (length tail_of) (length bytes)) where
    pub shown_if_same : take told tail_of ≡ take told bytes
        → ((i : ℕ) → byte_in (take (length bytes - told) (drop told bytes)) i ≡ 0) → IsShown (byte_in page) start bytes
    shown_if_same same zeros = record { each = λ i below. sym (tail_at i) ∙ by_told i below (cases_lt i told) }
      where
        by_told : (i : ℕ) → i < length bytes → (i < told) ⊎ (told ≤ i) → byte_in tail_of i ≡ byte_in bytes i
        by_told i below (inl early) =
            sym (front_place tail_of told i (omega (arith, early))) ∙ ap (λ (l : List ℕ). byte_in l i) same ∙ front_place bytes told i (omega (arith, early))
        by_told i below (inr late) =
            let at : told + (i - told) ≡ i = omega (arith, late) in
            get_or_past tail_of i 0 (omega (arith, late, below, told_is)) ∙ sym (zeros (i - told))
            ∙ ap (λ (l : List ℕ). byte_in l (i - told)) (take_rest bytes told) ∙ get_or-drop told bytes (i - told) 0 ∙ ap (byte_in bytes) at

    pub same_if_shown : IsShown (byte_in page) start bytes → take told tail_of ≡ take told bytes
    same_if_shown shown =
        let one = length-take told tail_of in
        let other = length-take told bytes in
        ext_get_or 0 (take told tail_of) (take told bytes) (omega (arith, one, other, told_is))
        (λ i below. front_place tail_of told i (omega (arith, below, one)) ∙ tail_at i ∙ shown.each i (omega (arith, below, one, told_is))
        ∙ sym (front_place bytes told i (omega (arith, below, one))))

    pub zeros_if_shown : IsShown (byte_in page) start bytes → (i : ℕ) → byte_in (take (length bytes - told) (drop told bytes)) i ≡ 0
    zeros_if_shown shown i =
        ap (λ (l : List ℕ). byte_in l i) (take_rest bytes told) ∙ get_or-drop told bytes i 0 ∙ by_length (cases_lt (told + i) (length bytes))
      where
        by_length : (told + i < length bytes) ⊎ (length bytes ≤ told + i) → byte_in bytes (told + i) ≡ 0
        by_length (inl below) = sym (shown.each (told + i) below) ∙ sym (tail_at (told + i)) ∙ get_or_past tail_of (told + i) 0 (omega (arith, below, told_is))
        by_length (inr past) = get_or_past bytes (told + i) 0 past

-- the bytes that a page has after a write, as the code's slices tell them
pub put_cut : (old bytes padded part copied : List ℕ) (start len most : ℕ) → most ≡ max (length old) (start + length bytes)
    → padded ≡ take most old ++ replicate (most - length old) 0 → len ≡ most → part ≡ padded → copied ≡ bytes
    → IsPut (byte_in old) start bytes (byte_in (take len (take start part ++ (copied ++ drop (start + length bytes - start) (drop start part))
    ++ drop (length (take start part ++ (copied ++ drop (start + length bytes - start) (drop start part)))) padded)))
put_cut old bytes padded part copied start len most most_is padded_is len_is part_is copied_is =
    put_over old bytes start (start + length bytes - start) (most - length old) _ (omega arith) (omega (arith, most_is)) (cut ∙ ap whole parts)
  where
    whole : List ℕ → List ℕ
    whole l = take start l ++ (bytes ++ drop (start + length bytes - start) (drop start l))

    mid : List ℕ
    mid = take start part ++ (copied ++ drop (start + length bytes - start) (drop start part))

    long : length padded ≡ most
    long =
        let is = ap (λ (l : List ℕ). length l) padded_is in
        let both = length-append (take most old) (replicate (most - length old) 0) in
        let front = length-take most old in
        let more = length-replicate {A = ℕ} (most - length old) 0 in
        omega (arith, is, both, front, more, most_is)

    mid_is : mid ≡ whole padded
    mid_is = ap (λ (l : List ℕ). take start part ++ (l ++ drop (start + length bytes - start) (drop start part))) copied_is ∙ ap whole part_is

    mid_long : length mid ≡ most
    mid_long =
        let is = ap (λ (l : List ℕ). length l) mid_is in
        let both = length-append (take start padded) (bytes ++ drop (start + length bytes - start) (drop start padded)) in
        let rest = length-append bytes (drop (start + length bytes - start) (drop start padded)) in
        let front = length-take start padded in
        let back = length-drop (start + length bytes - start) (drop start padded) in
        let behind = length-drop start padded in
        omega (arith, is, both, rest, front, back, behind, long, most_is)

    cut : take len (mid ++ drop (length mid) padded) ≡ whole padded
    cut = ap (λ (l : List ℕ). take len (mid ++ l)) (drop_all (length mid) padded (omega (arith, mid_long, long)))
        ∙ ap (take len) (append-nil mid) ∙ take_all len mid (omega (arith, mid_long, len_is)) ∙ mid_is

    parts : padded ≡ old ++ replicate (most - length old) 0
    parts = padded_is ∙ ap (λ (l : List ℕ). l ++ replicate (most - length old) 0) (take_all most old (omega (arith, most_is)))
