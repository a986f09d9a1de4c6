-- Bytes by place, where a place past the end reads as 0.
use Rattle.std.proofs.Common.{◌≡◌, ℕ, zero, suc, ◌+◌, ◌-◌, ◌<◌, ◌≤◌, min, max, ◌⊎◌, inl, inr, List, [], ◌∷◌, ◌++◌, length, take, drop, replicate, get_or, refl, sym, ap, subst, ◌∙◌, arith, append_assoc, length-append}
use Rattle.std.proofs.lemmas.List.{length-take, length-drop, length-replicate, get_or-take, get_or-drop, get_or_append_left, get_or-append_right, get_or_past, ext_get_or}
use Rattle.file_history.specs.Bytes.{overwrite, slice_of}
use Rattle.write_rule.specs.NewBytes.{StaysAround, bytes_of, padded_slice}
use Rattle.write_rule.specs.declared.new_bytes.NewBytes.{NewBytes}
use Rattle.write_rule.proofs.Windows.{lt_or_ge}

abbrev pub at : List ℕ → ℕ → ℕ
at xs i = get_or xs i 0

zeros_at : (n i : ℕ) → at (replicate n 0) i ≡ 0
zeros_at zero i = refl
zeros_at (suc n) zero = refl
zeros_at (suc n) (suc i) = zeros_at n i

pub padded_at : (xs : List ℕ) (n i : ℕ) → at (xs ++ replicate n 0) i ≡ at xs i
padded_at [] n i = zeros_at n i
padded_at (x ∷ xs) n zero = refl
padded_at (x ∷ xs) n (suc i) = padded_at xs n i

pub slice_at : (bytes : List ℕ) (start len j : ℕ) → j < len → at (padded_slice bytes start len) j ≡ at bytes (start + j)
slice_at bytes start len j below =
    get_or-take len (drop start bytes ++ replicate len 0) j 0 below ∙ padded_at (drop start bytes) len j ∙ get_or-drop start bytes j 0

pub slice_length : (bytes : List ℕ) (start len : ℕ) → length (padded_slice bytes start len) ≡ len
slice_length bytes start len =
    let taken = length-take len (drop start bytes ++ replicate len 0) in
    let whole = length-append (drop start bytes) (replicate len 0) in
    let more = length-replicate {A = ℕ} len 0 in
    omega (arith, taken, whole, more)

front : List ℕ → ℕ → List ℕ
front old offset = take offset (old ++ replicate (offset - length old) 0)

front_length : (old : List ℕ) (offset : ℕ) → length (front old offset) ≡ offset
unfolding front
front_length old offset =
    let taken = length-take offset (old ++ replicate (offset - length old) 0) in
    let whole = length-append old (replicate (offset - length old) 0) in
    let more = length-replicate {A = ℕ} (offset - length old) 0 in
    omega (arith, taken, whole, more)

overwrite_parts : (old : List ℕ) (offset : ℕ) (bytes : List ℕ) → overwrite old offset bytes ≡ front old offset ++ (bytes ++ drop (offset + length bytes) old)
unfolding front
overwrite_parts old offset bytes = append_assoc (take offset (old ++ replicate (offset - length old) 0)) bytes (drop (offset + length bytes) old)

pub overwrite_length : (old : List ℕ) (offset : ℕ) (bytes : List ℕ)
    → length (overwrite old offset bytes) ≡ offset + length bytes + (length old - (offset + length bytes))
overwrite_length old offset bytes =
    let first = front_length old offset in
    let is = ap (λ (l : List ℕ). length l) (overwrite_parts old offset bytes) in
    let whole = length-append (front old offset) (bytes ++ drop (offset + length bytes) old) in
    let rest = length-append bytes (drop (offset + length bytes) old) in
    let back = length-drop (offset + length bytes) old in
    omega (arith, is, first, whole, rest, back)

pub overwrite_before : (old : List ℕ) (offset : ℕ) (bytes : List ℕ) (i : ℕ) → i < offset → at (overwrite old offset bytes) i ≡ at old i
unfolding front
overwrite_before old offset bytes i below =
    ap (λ (l : List ℕ). at l i) (overwrite_parts old offset bytes) ∙
    get_or_append_left (front old offset) (bytes ++ drop (offset + length bytes) old) 0 i (subst (λ (n : ℕ). i < n) (sym (front_length old offset)) below)
    ∙ get_or-take offset (old ++ replicate (offset - length old) 0) i 0 below ∙ padded_at old (offset - length old) i

pub overwrite_behind : (old : List ℕ) (offset : ℕ) (bytes : List ℕ) (i : ℕ) → offset + length bytes ≤ i → at (overwrite old offset bytes) i ≡ at old i
unfolding front
overwrite_behind old offset bytes i behind =
    ap (λ (l : List ℕ). at l i) (overwrite_parts old offset bytes) ∙
    get_or-append_right (front old offset) (bytes ++ drop (offset + length bytes) old) offset i 0 (front_length old offset) (omega (arith, behind))
    ∙ get_or-append_right bytes (drop (offset + length bytes) old) (length bytes) (i - offset) 0 refl (omega (arith, behind))
    ∙ get_or-drop (offset + length bytes) old (i - offset - length bytes) 0
    ∙ ap (at old) (back i behind)
  where
    back : (i : ℕ) → offset + length bytes ≤ i → offset + length bytes + (i - offset - length bytes) ≡ i
    back i behind = omega (arith, behind)

pub overwrite_within : (old : List ℕ) (offset : ℕ) (bytes : List ℕ) (i : ℕ) → offset ≤ i → i < offset + length bytes
    → at (overwrite old offset bytes) i ≡ at bytes (i - offset)
unfolding front
overwrite_within old offset bytes i past below =
    ap (λ (l : List ℕ). at l i) (overwrite_parts old offset bytes) ∙
    get_or-append_right (front old offset) (bytes ++ drop (offset + length bytes) old) offset i 0 (front_length old offset) past
    ∙ get_or_append_left bytes (drop (offset + length bytes) old) 0 (i - offset) (omega (arith, past, below))

-- a slice by place, within it
part_at : (old : List ℕ) (start len j : ℕ) → j < len → at (slice_of old start len) j ≡ at old (start + j)
part_at old start len j below = get_or-take len (drop start old) j 0 below ∙ get_or-drop start old j 0

part_length : (old : List ℕ) (start len : ℕ) → length (slice_of old start len) ≡ min len (length old - start)
part_length old start len =
    let taken = length-take len (drop start old) in
    let dropped = length-drop start old in
    omega (arith, taken, dropped)

-- a slice is cut at the end
pub slice_same : (old : List ℕ) (start a b : ℕ) → min a (length old - start) ≡ min b (length old - start) → slice_of old start a ≡ slice_of old start b
slice_same old start a b same =
    let one = part_length old start a in
    let other = part_length old start b in
    ext_get_or 0 (slice_of old start a) (slice_of old start b) (omega (arith, one, other, same))
    (λ j below. part_at old start a j (omega (arith, below, one)) ∙ sym (part_at old start b j (omega (arith, below, one, same))))

-- a part of the file's bytes that are at hand
pub part_of : (file bytes : List ℕ) (start skip len : ℕ) → bytes ≡ padded_slice file start (length bytes) → skip + len ≤ length bytes
    → (len ≡ 0) ⊎ (start + skip + len ≤ length file) → take len (drop skip bytes) ≡ slice_of file (start + skip) len
part_of file bytes start skip len is within ends =
    let taken = length-take len (drop skip bytes) in
    let dropped = length-drop skip bytes in
    let other = part_length file (start + skip) len in
    ext_get_or 0 (take len (drop skip bytes)) (slice_of file (start + skip) len) (long taken dropped other ends)
    (λ j below.
    let here : j < len = omega (arith, below, taken) in
    get_or-take len (drop skip bytes) j 0 here ∙ get_or-drop skip bytes j 0
    ∙ ap (λ (l : List ℕ). at l (skip + j)) is ∙ slice_at file start (length bytes) (skip + j) (omega (arith, here, within))
    ∙ ap (at file) (omega arith) ∙ sym (part_at file (start + skip) len j here))
  where
    long : {a b c : ℕ} → a ≡ min len b → b ≡ length bytes - skip → c ≡ min len (length file - (start + skip)) → (len ≡ 0) ⊎ (start + skip + len ≤ length file) → a ≡ c
    long taken dropped other (inl none) = omega (arith, taken, dropped, other, none)
    long taken dropped other (inr ends) = omega (arith, taken, dropped, other, ends, within)

-- what stays around a payload, from the old bytes at hand
pub stays_around : (old payload bytes : List ℕ) (from to size offset kept stop : ℕ) (b : NewBytes) → length old ≡ size → from ≤ offset
    → min offset size ≤ from + length bytes → bytes ≡ padded_slice old from (length bytes)
    → kept ≡ min offset size - from → stop ≡ max (min to size) (offset + length payload)
    → b.before.now ≡ take kept bytes → b.gap ≡ offset - from - kept → b.payload.now ≡ payload
    → b.after.now ≡ slice_of old (offset + length payload) (stop - (offset + length payload))
    → StaysAround old from to offset (length payload) b
stays_around old payload bytes from to size offset kept stop b size_is low enough is kept_is stop_is before_is gap_is payload_is after_is =
    let taken = length-take kept bytes in
    let long : length b.before.now ≡ kept =
    ap (λ (l : List ℕ). length l) before_is ∙ all (length (take kept bytes)) taken in
    let place : from + 0 ≡ from = omega arith in
    record {
      before = before_is ∙ part_of old bytes from 0 kept is (omega (arith, kept_is, enough)) (within (lt_or_ge 0 kept))
          ∙ ap (λ (n : ℕ). slice_of old n kept) place ∙ slice_same old from kept (offset - from) (omega (arith, kept_is, size_is));
      gap = omega (arith, long, gap_is, kept_is, low);
      payload = ap (λ (l : List ℕ). length l) payload_is;
      after = after_is ∙ slice_same old (offset + length payload) (stop - (offset + length payload)) (to - (offset + length payload)) (omega (arith, stop_is, size_is));
    }
  where
    all : (a : ℕ) → a ≡ min kept (length bytes) → a ≡ kept
    all a is = omega (arith, is, kept_is, enough)

    within : (0 < kept) ⊎ (kept ≤ 0) → (kept ≡ 0) ⊎ (from + 0 + kept ≤ length old)
    within (inl some) = inr (omega (arith, some, kept_is, size_is))
    within (inr none) = inl (omega (arith, none))

module _ (old payload : List ℕ) (from to offset : ℕ) (b : NewBytes) (stays : StaysAround old from to offset (length payload) b)
    (is : b.payload.now ≡ payload) (low : from ≤ offset) (high : offset + length payload ≤ to) where
  abbrev new : List ℕ
  new = overwrite old offset payload

  before_long : length b.before.now ≡ min (offset - from) (length old - from)
  before_long = ap (λ (l : List ℕ). length l) stays.before ∙ part_length old from (offset - from)

  gap_long : length (replicate {A = ℕ} b.gap 0) ≡ b.gap
  gap_long = length-replicate {A = ℕ} b.gap 0

  in_before : (i : ℕ) → i < length b.before.now → at b.before.now i ≡ at new (from + i)
  in_before i below =
      let long = before_long in
      ap (λ (l : List ℕ). at l i) stays.before ∙ part_at old from (offset - from) i (omega (arith, below, long))
      ∙ sym (overwrite_before old offset payload (from + i) (omega (arith, below, long, low)))

  in_gap : (i : ℕ) → length b.before.now ≤ i → from + i < offset → 0 ≡ at new (from + i)
  in_gap i past below =
      let long = before_long in
      let gap = stays.gap in
      sym (overwrite_before old offset payload (from + i) below ∙ get_or_past old (from + i) 0 (omega (arith, past, below, long)))

  in_payload : (i : ℕ) → offset ≤ from + i → from + i < offset + length payload → at b.payload.now (from + i - offset) ≡ at new (from + i)
  in_payload i past below = ap (λ (l : List ℕ). at l (from + i - offset)) is ∙ sym (overwrite_within old offset payload (from + i) past below)

  in_after : (i : ℕ) → offset + length payload ≤ from + i → (length old ≤ to) ⊎ (from + i < to)
      → at b.after.now (from + i - (offset + length payload)) ≡ at new (from + i)
  in_after i past reach = by_place (lt_or_ge (from + i) to) reach
    where
      back : offset + length payload + (from + i - (offset + length payload)) ≡ from + i
      back = omega (arith, past)

      stop : ℕ
      stop = offset + length payload

      rest_long : length b.after.now ≡ min (to - (offset + length payload)) (length old - (offset + length payload))
      rest_long = ap (λ (l : List ℕ). length l) stays.after ∙ part_length old (offset + length payload) (to - (offset + length payload))

      by_place : (from + i < to) ⊎ (to ≤ from + i) → (length old ≤ to) ⊎ (from + i < to) → at b.after.now (from + i - (offset + length payload)) ≡ at new (from + i)
      by_place (inl here) reach =
          ap (λ (l : List ℕ). at l (from + i - (offset + length payload))) stays.after
          ∙ part_at old (offset + length payload) (to - (offset + length payload)) (from + i - (offset + length payload)) (omega (arith, here, past))
          ∙ ap (at old) back ∙ sym (overwrite_behind old offset payload (from + i) past)
      by_place (inr beyond) (inl all) =
          let long = rest_long in
          get_or_past b.after.now (from + i - (offset + length payload)) 0 (omega (arith, long, beyond, past, all, high))
          ∙ sym (overwrite_behind old offset payload (from + i) past ∙ get_or_past old (from + i) 0 (omega (arith, beyond, all)))
      by_place (inr beyond) (inr here) = absurd (omega (arith, beyond, here))

  -- the bytes that stay and the payload read as the file after the write
  new_at : (i : ℕ) → (length old ≤ to) ⊎ (from + i < to) → at (bytes_of b) i ≡ at new (from + i)
  new_at i reach = first (lt_or_ge i (length b.before.now))
    where
      payload_long : length b.payload.now ≡ length payload
      payload_long = stays.payload

      third : offset ≤ from + i → (from + i < offset + length payload) ⊎ (offset + length payload ≤ from + i)
          → at (b.payload.now ++ b.after.now) (i - length b.before.now - b.gap) ≡ at new (from + i)
      third past (inl here) =
          let gap = stays.gap in
          let long = payload_long in
          let same : i - length b.before.now - b.gap ≡ from + i - offset = omega (arith, gap, past) in
          get_or_append_left b.payload.now b.after.now 0 (i - length b.before.now - b.gap) (omega (arith, gap, past, here, long))
          ∙ ap (at b.payload.now) same ∙ in_payload i past here
      third past (inr beyond) =
          let gap = stays.gap in
          let long = payload_long in
          let same : i - length b.before.now - b.gap - length payload ≡ from + i - (offset + length payload) = omega (arith, gap, past, beyond) in
          get_or-append_right b.payload.now b.after.now (length payload) (i - length b.before.now - b.gap) 0 long (omega (arith, gap, past, beyond))
          ∙ ap (at b.after.now) same ∙ in_after i beyond reach

      second : length b.before.now ≤ i → (from + i < offset) ⊎ (offset ≤ from + i)
          → at (replicate b.gap 0 ++ (b.payload.now ++ b.after.now)) (i - length b.before.now) ≡ at new (from + i)
      second past (inl here) =
          let gap = stays.gap in
          let long = gap_long in
          get_or_append_left (replicate b.gap 0) (b.payload.now ++ b.after.now) 0 (i - length b.before.now) (omega (arith, gap, past, here, long))
          ∙ zeros_at b.gap (i - length b.before.now) ∙ in_gap i past here
      second past (inr beyond) =
          let gap = stays.gap in
          get_or-append_right (replicate b.gap 0) (b.payload.now ++ b.after.now) b.gap (i - length b.before.now) 0 gap_long (omega (arith, gap, past, beyond))
          ∙ third beyond (lt_or_ge (from + i) (offset + length payload))

      first : (i < length b.before.now) ⊎ (length b.before.now ≤ i) → at (bytes_of b) i ≡ at new (from + i)
      first (inl here) = get_or_append_left b.before.now (replicate b.gap 0 ++ (b.payload.now ++ b.after.now)) 0 i here ∙ in_before i here
      first (inr beyond) =
          get_or-append_right b.before.now (replicate b.gap 0 ++ (b.payload.now ++ b.after.now)) (length b.before.now) i 0 refl beyond
          ∙ second beyond (lt_or_ge (from + i) offset)

  pub new_bytes : (start len : ℕ) → (length old ≤ to) ⊎ (from + start + len ≤ to) → padded_slice (bytes_of b) start len ≡ padded_slice new (from + start) len
  new_bytes start len reach =
      let one = slice_length (bytes_of b) start len in
      let other = slice_length new (from + start) len in
      ext_get_or 0 (padded_slice (bytes_of b) start len) (padded_slice new (from + start) len) (omega (arith, one, other))
      (λ j below. slice_at (bytes_of b) start len j (omega (arith, below, one)) ∙ new_at (start + j) (within j (omega (arith, below, one)) reach)
      ∙ ap (at new) (omega arith) ∙ sym (slice_at new (from + start) len j (omega (arith, below, one))))
    where
      within : (j : ℕ) → j < len → (length old ≤ to) ⊎ (from + start + len ≤ to) → (length old ≤ to) ⊎ (from + (start + j) < to)
      within j below (inl all) = inl all
      within j below (inr inside) = inr (omega (arith, below, inside))
