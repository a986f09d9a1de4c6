-- Drives that may give slots to a group together, when one leaves and when one comes.
use Rattle.std.proofs.Common.{◌≡◌, ◌+◌, ◌<◌, inl, inr, Bool, true, false, not, ◌&&◌, List, [], ◌∷◌, ◌++◌, count_by, eqb, sym, ap, subst, ◌∙◌, arith}
use Rattle.std.proofs.Math.Nat.{le-max_left}
use Rattle.std.proofs.lemmas.Bool.{and_from, and_parts, cases_eq, eq-eqb, ne_eqb, not-true, not_from_false, or_cases, or_left}
use Rattle.domains.specs.Counts.{one_if}
use Rattle.domains.specs.Drive.{Drive, same_drive, is_in}
use Rattle.domains.specs.Room.{drives_on}
use Rattle.domains.specs.Shape.{is_of}
use Rattle.domains.proofs.CountLemmas.{count_by-append, count_by-cons}
use Rattle.domains.proofs.DriveLemmas.{same_drive-eq}
use Rattle.placement_order.specs.Order.{DrawRequest, units_on}
use Rattle.placement_order.specs.OrderLaws.{MayBeTried, MayGive}
use Rattle.placement_order.specs.Room.{is_left}
use Rattle.placement_order.proofs.ApartDrives.{apart-push, apart-with, apart-without, is_in-midst}
use Rattle.placement_order.proofs.OrderMembers.{each_push}

pub count_by-midst : (p : Drive → Bool) (xs ys : List Drive) (d : Drive) → count_by p (xs ++ d ∷ ys) ≡ count_by p (xs ++ ys) + one_if (p d)
count_by-midst p xs ys d =
    let with_it = count_by-append p xs (d ∷ ys) in
    let without = count_by-append p xs ys in
    let here = count_by-cons p d ys in
    omega (arith, with_it, without, here)

-- one more drive may be tried
pub MayBeTried-push : (s : DrawRequest) (drives : List Drive) (d : Drive) → MayBeTried s drives → is_of s.shape d ≡ true → s.usable d ≡ true → s.used d ≡ false
    → is_in drives d ≡ false → MayBeTried s (drives ++ d ∷ [])
MayBeTried-push s drives d tried of usable unused new = record {
  of_shape = each_push (λ x. is_of s.shape x ≡ true) drives d tried.of_shape of;
  usable = each_push (λ x. s.usable x ≡ true) drives d tried.usable usable;
  unused = each_push (λ x. s.used x ≡ false) drives d tried.unused unused;
  apart = apart-push drives d tried.apart new;
}

module _ (s : DrawRequest) (spent : Drive → Bool) where
  -- what a drive that is left is
  pub is_left-parts : (d : Drive) → is_left s spent d ≡ true → (s.usable d ≡ true) × (s.used d ≡ false) × (spent d ≡ false)
  is_left-parts d left =
      let parts = and_parts (s.usable d) (not (s.used d) && not (spent d)) left in
      let others = and_parts (not (s.used d)) (not (spent d)) parts.1 in
      (parts.0, not-true (s.used d) others.0, not-true (spent d) others.1)

  pub is_left-from : (d : Drive) → s.usable d ≡ true → s.used d ≡ false → spent d ≡ false → is_left s spent d ≡ true
  is_left-from d usable unused unspent =
      and_from (s.usable d) _ usable (and_from (not (s.used d)) (not (spent d)) (not_from_false (s.used d) unused) (not_from_false (spent d) unspent))

  -- other drives may be spent, as long as none of these is
  pub MayGive-again : (more : Drive → Bool) (drives : List Drive) → ((d : Drive) → is_in drives d ≡ true → more d ≡ false)
      → MayGive s spent drives → MayGive s more drives
  MayGive-again more drives unspent may = record {
    of_shape = may.of_shape;
    left = λ d there.
        let parts = is_left-parts d (may.left d there) in
        and_from (s.usable d) _ parts.0 (and_from (not (s.used d)) (not (more d)) (not_from_false (s.used d) parts.1) (not_from_false (more d) (unspent d there)));
    apart = may.apart;
    spread = may.spread;
  }

  module _ (xs ys : List Drive) (d : Drive) where
    -- the drive in the midst is none of the others
    pub is_out : MayGive s spent (xs ++ d ∷ ys) → is_in (xs ++ ys) d ≡ false
    is_out may = (apart-without xs ys d may.apart).0

    -- one drive leaves
    pub MayGive-less : MayGive s spent (xs ++ d ∷ ys) → MayGive s spent (xs ++ ys)
    MayGive-less may = record {
      of_shape = λ e there. may.of_shape e (is_in-midst xs ys d e ∙ or_left _ (same_drive d e) there);
      left = λ e there. may.left e (is_in-midst xs ys d e ∙ or_left _ (same_drive d e) there);
      apart = (apart-without xs ys d may.apart).1;
      spread = λ node. let all = count_by-midst (λ (x : Drive). eqb x.node node) xs ys d in let spread = may.spread node in omega (arith, all, spread);
    }

    -- one drive comes, on a node that has room
    pub MayGive-more : MayGive s spent (xs ++ ys) → is_of s.shape d ≡ true → is_left s spent d ≡ true → is_in (xs ++ ys) d ≡ false
        → units_on s (xs ++ ys) d.node < s.level.k → MayGive s spent (xs ++ d ∷ ys)
    MayGive-more may of left out room = record {
      of_shape = λ e there. elim (or_cases (is_in (xs ++ ys) e) (same_drive d e) (sym (is_in-midst xs ys d e) ∙ there)) [
        | inl before ↦ may.of_shape e before
        | inr here ↦ subst (λ x. is_of s.shape x ≡ true) (same_drive-eq d e here) of
      ];
      left = λ e there. elim (or_cases (is_in (xs ++ ys) e) (same_drive d e) (sym (is_in-midst xs ys d e) ∙ there)) [
        | inl before ↦ may.left e before
        | inr here ↦ subst (λ x. is_left s spent x ≡ true) (same_drive-eq d e here) left
      ];
      apart = apart-with xs ys d out may.apart;
      spread = λ node.
          let all = count_by-midst (λ (x : Drive). eqb x.node node) xs ys d in
          let most = le-max_left s.level.k (drives_on s.shape.drives node s.used) in
          let spread = may.spread node in
          elim (cases_eq d.node node) [
            | inl here ↦
                let one = ap one_if (eq-eqb d.node node here) in
                let low = subst (λ n. units_on s (xs ++ ys) n < s.level.k) here room in
                omega (arith, all, one, low, most)
            | inr other ↦ let none = ap one_if (ne_eqb d.node node other) in omega (arith, all, none, spread)
          ];
    }
