-- What a file keeps beside its groups, when its map was changed.
use Rattle.std.proofs.Common.{◌≡◌, ℕ, ◌+◌, List, [], ◌∷◌, ◌++◌, length, sym, ap, ◌∙◌, append-nil, length-append}
use Rattle.domains.specs.DriveSet.{has}
use Rattle.domains.specs.Place.{Place}
use Rattle.domains.specs.Level.{Level}
use Rattle.domains.specs.declared.group.Group.{Group}
use Rattle.file_history.specs.Layout.{Layout, layout_after_event, places_of, replaced}
use Rattle.file_history.specs.declared.entry.Change.{Change}
use Rattle.map_changes.proofs.ChangedPlaces.{places_of-append}
use Rattle.map_switches.specs.declared.change.Why.{Why}
use Rattle.map_switches.specs.declared.change.Why.TheVariants.{Write, Place as Place_}
use Rattle.file_heads.specs.declared.head.Head.{Head}
use Rattle.file_heads.specs.DeadUnits.{names}
use Rattle.file_heads.specs.Heads.{IsHead}
use Rattle.map_switches.specs.Switches.{event_of, size_after}

all_units : (gs : List Group) (inode : Group) → length (places_of gs) + length inode.places ≡ length (places_of (gs ++ inode ∷ []))
all_units gs inode =
    sym (length-append (places_of gs) inode.places)
    ∙ ap (λ (l : List Place). length l) (ap (λ (l : List Place). places_of gs ++ l) (sym (append-nil inode.places)) ∙ sym (places_of-append gs (inode ∷ [])))

pub head_switched : (why : Why) (h after : Head) (l : Layout) (c : Change) (declared : Level) (units : ℕ) → IsHead h l
    → after ≡ record h { level = h.requested; next = c.inode.generation + 1; size = size_after why l.size; units = units }
    → units ≡ length (places_of (replaced c.old c.new l.groups)) + length c.inode.places
    → IsHead after (layout_after_event declared (event_of why l.size c) l)
head_switched (Write offset bytes) h after l c declared units head is count = record {
  requested = ap (λ (x : Head). x.requested) is ∙ head.requested;
  level = ap (λ (x : Head). x.level) is ∙ head.requested;
  size = ap (λ (x : Head). x.size) is;
  next = ap (λ (x : Head). x.next) is;
  units = ap (λ (x : Head). x.units) is ∙ count ∙ all_units (replaced c.old c.new l.groups) c.inode;
  dead = λ generation position. ap (λ (x : Head). names x.dead.items generation position) is ∙ head.dead generation position;
  barred = λ d drive. ap (λ (x : Head). has x.barred d) is ∙ head.barred d drive;
}
head_switched (Place_ job) h after l c declared units head is count = record {
  requested = ap (λ (x : Head). x.requested) is ∙ head.requested;
  level = ap (λ (x : Head). x.level) is ∙ head.requested;
  size = ap (λ (x : Head). x.size) is;
  next = ap (λ (x : Head). x.next) is;
  units = ap (λ (x : Head). x.units) is ∙ count ∙ all_units (replaced c.old c.new l.groups) c.inode;
  dead = λ generation position. ap (λ (x : Head). names x.dead.items generation position) is ∙ head.dead generation position;
  barred = λ d drive. ap (λ (x : Head). has x.barred d) is ∙ head.barred d drive;
}
