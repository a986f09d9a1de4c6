-- One group of a map, by its generation.
use Rattle.std.proofs.Common.{◌≡◌, ℕ, suc, ◌+◌, Bool, true, false, ◌||◌, ◌==◌, not, cond, inl, inr, List, [], ◌∷◌, ◌++◌, length, drop, refl, sym, ap, ◌∙◌, arith, append_assoc, append-nil}
use Rattle.std.specs.Prelude.{take_while, filter}
use Rattle.std.proofs.lemmas.Bool.{cases_eq, ne_eqb, eq-eqb}
use Rattle.std.proofs.lemmas.List.Sums.{take_while-cons}
use Rattle.domains.specs.declared.group.Group.{Group}
use Rattle.file_history.specs.Layout.{is_among, replaced}

-- the groups with this generation
abbrev pub having : ℕ → List Group → List Group
having generation groups = filter (λ (g : Group). g.generation == generation) groups

abbrev is_other : ℕ → Group → Bool
is_other generation g = not (is_among (generation ∷ []) g.generation)

-- the map in two parts beside the one group with its generation
pub record IsParted (gs : List Group) (g : Group) : Type 0 where
  pub front : List Group
  pub back : List Group
  pub parted : gs ≡ front ++ (g ∷ back)
  pub before : take_while (is_other g.generation) gs ≡ front

head_of : Group → List Group → Group
head_of d [] = d
head_of d (g ∷ gs) = g

other_is : (a b : ℕ) → (a ≡ b → ⊥) → not ((a == b) || false) ≡ true
other_is a b differ = ap (λ (x : Bool). not (x || false)) (ne_eqb a b differ)

same_is : (a b : ℕ) → a ≡ b → not ((a == b) || false) ≡ false
same_is a b same = ap (λ (x : Bool). not (x || false)) (eq-eqb a b same)

pub parted_at : (gs : List Group) (g : Group) → having g.generation gs ≡ g ∷ [] → IsParted gs g
unfolding head_of
parted_at [] g one = absurd (none one)
  where
    none : [] ≡ g ∷ [] → ⊥
    none h = cc
parted_at (h ∷ hs) g one = elim (cases_eq h.generation g.generation) [
  | inl same ↦
      let all : h ∷ having g.generation hs ≡ g ∷ [] =
      sym (ap (λ (b : Bool). cond b (h ∷ having g.generation hs) (having g.generation hs)) (eq-eqb h.generation g.generation same)) ∙ one in record {
        front = [];
        back = hs;
        parted = ap (λ (k : Group). k ∷ hs) (ap (head_of h) all);
        before = take_while-cons (is_other g.generation) h hs
            ∙ ap (λ (b : Bool). cond b (h ∷ take_while (is_other g.generation) hs) []) (same_is g.generation h.generation (sym same));
      }
  | inr differ ↦
      let rest : having g.generation hs ≡ g ∷ [] =
      sym (ap (λ (b : Bool). cond b (h ∷ having g.generation hs) (having g.generation hs)) (ne_eqb h.generation g.generation differ)) ∙ one in
      let later = parted_at hs g rest in record {
        front = h ∷ later.front;
        back = later.back;
        parted = ap (λ (l : List Group). h ∷ l) later.parted;
        before = take_while-cons (is_other g.generation) h hs
            ∙ ap (λ (b : Bool). cond b (h ∷ take_while (is_other g.generation) hs) []) (other_is g.generation h.generation (λ same. differ (sym same)))
            ∙ ap (λ (l : List Group). h ∷ l) later.before;
      }
]

pub drop_front : (xs : List Group) (y : Group) (ys : List Group) → drop (length xs + 1) (xs ++ (y ∷ ys)) ≡ ys
drop_front [] y ys = refl
drop_front (x ∷ xs) y ys = ap (λ (n : ℕ). drop n (x ∷ (xs ++ (y ∷ ys)))) (next (length xs)) ∙ drop_front xs y ys
  where
    next : (n : ℕ) → suc n + 1 ≡ suc (n + 1)
    next n = omega arith

-- new groups in its place
pub replaced_at : (gs new : List Group) (g : Group) → (p : IsParted gs g) → replaced (g.generation ∷ []) new gs ≡ p.front ++ (new ++ p.back)
replaced_at gs new g p =
    ap (λ (front : List Group). front ++ new ++ drop (length front + 1) gs) p.before
    ∙ ap (λ (l : List Group). p.front ++ new ++ drop (length p.front + 1) l) p.parted
    ∙ ap (λ (l : List Group). p.front ++ new ++ l) (drop_front p.front g p.back)
    ∙ append_assoc p.front new p.back

all_pass : (gs : List Group) → take_while (λ (g : Group). not (is_among [] g.generation)) gs ≡ gs
all_pass [] = refl
all_pass (g ∷ gs) = take_while-cons (λ (h : Group). not (is_among [] h.generation)) g gs ∙ ap (λ (l : List Group). g ∷ l) (all_pass gs)

pub drop_whole : (gs : List Group) → drop (length gs + 0) gs ≡ []
drop_whole [] = refl
drop_whole (g ∷ gs) = ap (λ (n : ℕ). drop n (g ∷ gs)) (next (length gs)) ∙ drop_whole gs
  where
    next : (n : ℕ) → suc n + 0 ≡ suc (n + 0)
    next n = omega arith

-- no groups in the place of none
pub replaced_none : (gs : List Group) → replaced [] [] gs ≡ gs
replaced_none gs =
    ap (λ (front : List Group). front ++ [] ++ drop (length front + 0) gs) (all_pass gs)
    ∙ ap (λ (l : List Group). gs ++ [] ++ l) (drop_whole gs)
    ∙ ap (λ (l : List Group). l ++ []) (append-nil gs) ∙ append-nil gs
