-- Refusals of writes, from what is tested of them.
use Rattle.std.proofs.Common.{◌≡◌, Bool, true, IsTrue, ◌↔◌, ◌∙◌}
use Rattle.domains.specs.declared.room.TooFew.{TooFew}
use Rattle.file_history.specs.World.{Moment}
use Rattle.file_history.specs.Layout.{Layout}
use Rattle.file_history.specs.Refusals.{HasTooFew}
use Rattle.placed_groups.specs.NewPlaces.{IsUsableSet}
use Rattle.entry_checks.specs.Facts.{AreFactsOf}
use Rattle.entry_checks.specs.declared.facts.FileFacts.{FileFacts}

pub too_few_if : (f : FileFacts) → f.present ≡ true → (fault : TooFew) (so : Bool)
    → ((now : Moment) (l : Layout) → IsUsableSet f.shape f.usable.now now l → l.requested ≡ f.requested → IsTrue so ↔ HasTooFew now l fault)
    → (now : Moment) (l : Layout) → AreFactsOf f now l → IsTrue so ↔ ((l.present ≡ true) × HasTooFew now l fault)
too_few_if f there fault so told now l facts =
    let iff = told now l facts.usable_is facts.requested_is in
    (λ t. (facts.present_is ∙ there, iff.0 t), λ is. iff.1 is.1)
