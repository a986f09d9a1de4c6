-- Creations and their refusals, from what is tested of them.
use Rattle.std.proofs.Common.{◌≡◌, ℕ, ◌+◌, ◌≤◌, Bool, true, false, List, IsTrue, ◌↔◌, Result, Ok, Err, IfOk, sym, ap, subst, ◌∙◌}
use Rattle.std.specs.BTreeSet.{BTreeSet}
use Rattle.domains.specs.Drive.{Drive}
use Rattle.domains.specs.Level.{Level}
use Rattle.domains.specs.Place.{Place}
use Rattle.domains.specs.AtLevel.{InodeAt}
use Rattle.domains.specs.declared.group.Group.{Group}
use Rattle.domains.specs.declared.room.TooFew.{TooFew}
use Rattle.file_history.specs.World.{Moment}
use Rattle.file_history.specs.Layout.{Layout}
use Rattle.file_history.specs.Refusals.{HasNoRoom, HasTooFew, IsLegalRefusal, room_at}
use Rattle.file_history.specs.Step.{AreNewPlaces, Creates}
use Rattle.file_history.specs.declared.entry.Refused.TheVariants.{CreateNoRoom, CreateTooFew}
use Rattle.placed_groups.specs.NewPlaces.{AreTaken, IsUsableSet}
use Rattle.entry_checks.specs.Facts.{AreFactsOf}
use Rattle.entry_checks.specs.declared.facts.FileFacts.{FileFacts}

module _ (f : FileFacts) (absent : f.present ≡ false) where
  pub too_few_if : (fault : TooFew) (so : Bool)
      → ((now : Moment) (l : Layout) → IsUsableSet f.shape f.usable.now now l → l.requested ≡ f.requested → IsTrue so ↔ HasTooFew now l fault)
      → (now : Moment) (l : Layout) → AreFactsOf f now l → IsTrue so ↔ IsLegalRefusal now l (CreateTooFew fault)
  too_few_if fault so told now l facts =
      let iff = told now l facts.usable_is facts.requested_is in
      (λ t. (facts.present_is ∙ absent, iff.0 t), λ is. iff.1 is.1)

  pub no_room_if : (need got : ℕ) (drives : List Drive) (enough so : Bool) → enough ≡ true → need ≡ f.requested.m + 1
      → ((now : Moment) (l : Layout) → IsUsableSet f.shape f.usable.now now l → l.requested ≡ f.requested → IsTrue enough ↔ (l.requested.m + 1 ≤ room_at now l))
      → ((now : Moment) (l : Layout) → IsUsableSet f.shape f.usable.now now l → l.requested ≡ f.requested → IsTrue so ↔ HasNoRoom now l need got drives)
      → (now : Moment) (l : Layout) → AreFactsOf f now l → IsTrue so ↔ IsLegalRefusal now l (CreateNoRoom need got drives)
  no_room_if need got drives enough so is_enough need_is roomy told now l facts =
      let iff = told now l facts.usable_is facts.requested_is in
      let room = (roomy now l facts.usable_is facts.requested_is).0 is_enough in (
        λ t. (facts.present_is ∙ absent, room, need_is ∙ ap (λ (r : Level). r.m + 1) (sym facts.requested_is), iff.0 t),
        λ is. iff.1 is.3,
      )

  pub room_lacks : (need got : ℕ) (drives : List Drive) (enough : Bool) → enough ≡ false
      → ((now : Moment) (l : Layout) → IsUsableSet f.shape f.usable.now now l → l.requested ≡ f.requested → IsTrue enough ↔ (l.requested.m + 1 ≤ room_at now l))
      → (now : Moment) (l : Layout) → AreFactsOf f now l → IsTrue false ↔ IsLegalRefusal now l (CreateNoRoom need got drives)
  room_lacks need got drives enough is_short roomy now l facts = (
    λ t. absurd (cc t),
    λ is. sym is_short ∙ (roomy now l facts.usable_is facts.requested_is).1 is.1,
  )

  -- new places are all that is left to test of a creation
  pub creates_if : {E : Type 0} (r : Result Bool E) (inode : Group) (places : List Place) (old : BTreeSet ℕ) → places ≡ inode.places → InodeAt inode f.requested → inode.generation ≡ f.next
      → IfOk r (λ (so : Bool). (now : Moment) (l : Layout) → IsUsableSet f.shape f.usable.now now l → AreTaken old l → IsTrue so ↔ AreNewPlaces now l places)
      → IfOk r (λ (so : Bool). (now : Moment) (l : Layout) → AreFactsOf f now l → AreTaken old l → IsTrue so ↔ Creates now l inode)
  creates_if (Ok so) inode places old same level number told = λ now l facts taken.
      let iff = subst (λ (ps : List Place). IsTrue so ↔ AreNewPlaces now l ps) same (told now l facts.usable_is taken) in (
        λ t. record {
          absent = facts.present_is ∙ absent;
          level = subst (InodeAt inode) (sym facts.requested_is) level;
          number = number ∙ sym facts.next_is;
          places = iff.0 t;
        },
        λ creates. iff.1 creates.places,
      )
  creates_if (Err e) inode places old same level number told = tt
