-- The text of a changed map, group by group.
use Rattle.std.proofs.Common.{◌≡◌, ℕ, ◌+◌, ◌-◌, ◌≤◌, List, [], ◌∷◌, ◌++◌, length, take, drop, refl, sym, ap, ◌∙◌, append_assoc, arith, length-append}
use Rattle.std.proofs.lemmas.List.{length-drop, length-map, length-take, take-map, drop-map, take_all}
use Rattle.domains.specs.Level.{Level}
use Rattle.domains.specs.declared.group.Group.{Group}
use Rattle.inode_codec.specs.Inode.{group_bytes, groups_bytes, head_bytes, inode_bytes}
use Rattle.inode_codec.proofs.HeadAndGroups.{head_and_groups}
use Rattle.map_changes.specs.ChangedMaps.{inode_with, spliced}
use Rattle.striped_groups.specs.StoredGroups.{GroupSlots}
use Rattle.map_switches.specs.Switches.{groups_of}

groups_bytes-append : (gs hs : List Group) → groups_bytes (gs ++ hs) ≡ groups_bytes gs ++ groups_bytes hs
groups_bytes-append [] hs = refl
groups_bytes-append (g ∷ gs) hs =
    ap (λ (l : List ℕ). group_bytes g ++ l) (groups_bytes-append gs hs) ∙ sym (append_assoc (group_bytes g) (groups_bytes gs) (groups_bytes hs))

-- the text of a map in which a run made way: of the groups before it, the new ones, and those behind it
groups_bytes-spliced : (gs new : List Group) (first count : ℕ)
    → groups_bytes (spliced gs first count new) ≡ groups_bytes (take first gs) ++ (groups_bytes new ++ groups_bytes (drop (first + count) gs))
groups_bytes-spliced gs new first count =
    groups_bytes-append (take first gs) (new ++ drop (first + count) gs)
    ∙ ap (λ (l : List ℕ). groups_bytes (take first gs) ++ l) (groups_bytes-append new (drop (first + count) gs))

module _ {S : Type 0} (stripes : List (GroupSlots S)) (new : List Group) (first count : ℕ) (within : first + count ≤ length stripes) where
  front : groups_of (take first stripes) ≡ take first (groups_of stripes)
  front = sym (take-map (λ (g : GroupSlots S). g.group) first stripes)

  back : groups_of (take (length stripes - (first + count)) (drop (first + count) stripes)) ≡ drop (first + count) (groups_of stripes)
  back =
      let long = length-drop (first + count) stripes in
      ap (λ (l : List (GroupSlots S)). groups_of l) (take_all (length stripes - (first + count)) (drop (first + count) stripes) (omega (arith, long)))
      ∙ sym (drop-map (λ (g : GroupSlots S). g.group) (first + count) stripes)

  count_is : length stripes - count + length new ≡ length (spliced (groups_of stripes) first count new)
  count_is =
      let gs = groups_of stripes in
      let all = length-map stripes (λ (g : GroupSlots S). g.group) in
      let whole = length-append (take first gs) (new ++ drop (first + count) gs) in
      let rest = length-append new (drop (first + count) gs) in
      let fore = length-take first gs in
      let behind = length-drop (first + count) gs in
      omega (arith, all, whole, rest, fore, behind, within)

  -- what is written piece by piece is the inode's text
  pub pieces_joined : (level : Level) (unit size : ℕ) (start head before middle whole : List ℕ) → start ≡ []
      → head ≡ start ++ head_bytes level unit size (length stripes - count + length new)
      → before ≡ head ++ groups_bytes (groups_of (take first stripes)) → middle ≡ before ++ groups_bytes new
      → whole ≡ middle ++ groups_bytes (groups_of (take (length stripes - (first + count)) (drop (first + count) stripes)))
      → whole ≡ inode_bytes (inode_with level unit size (spliced (groups_of stripes) first count new))
  pieces_joined level unit size start head before middle whole none to_head to_before to_middle to_whole =
      let h = head_bytes level unit size (length stripes - count + length new) in
      let a = groups_bytes (take first (groups_of stripes)) in
      let b = groups_bytes new in
      let c = groups_bytes (drop (first + count) (groups_of stripes)) in
      to_whole
      ∙ ap (λ (l : List ℕ). l ++ groups_bytes (groups_of (take (length stripes - (first + count)) (drop (first + count) stripes))))
      (to_middle ∙ ap (λ (l : List ℕ). l ++ b) (to_before ∙ ap (λ (l : List ℕ). l ++ groups_bytes (groups_of (take first stripes)))
      (to_head ∙ ap (λ (l : List ℕ). l ++ h) none)))
      ∙ ap (λ (x : List Group × List Group). ((h ++ groups_bytes x.0) ++ b) ++ groups_bytes x.1) (λ i. (front i, back i))
      ∙ ap (λ (l : List ℕ). l ++ c) (append_assoc h a b) ∙ append_assoc h (a ++ b) c ∙ ap (λ (l : List ℕ). h ++ l) (append_assoc a b c)
      ∙ ap (λ (l : List ℕ). h ++ l) (sym (groups_bytes-spliced (groups_of stripes) new first count))
      ∙ ap (λ (n : ℕ). head_bytes level unit size n ++ groups_bytes (spliced (groups_of stripes) first count new)) count_is
      ∙ sym (head_and_groups (inode_with level unit size (spliced (groups_of stripes) first count new)))
