-- What the order of placement gives, whatever is asked for and whichever drives are spent.
use Rattle.std.specs.Prelude.{◌≡◌, ℕ, ◌+◌, ◌<◌, ◌≤◌, ◌⊎◌, Bool, true, false, ◌&&◌, ◌||◌, not, List, length, take, max}
use Rattle.domains.specs.Drive.{Drive, is_in, AreApart}
use Rattle.domains.specs.Shape.{is_of}
use Rattle.domains.specs.Room.{drives_on, room_of}
use Rattle.placement_order.specs.Order.{DrawRequest, units_on, order_of}
use Rattle.placement_order.specs.Room.{is_left, marked_up_to, room_left}

-- the drives may all give slots to the group: they are of the cluster and left, none comes twice, and a node has at most k units
-- with them, or no more than it had
pub record MayGive (s : DrawRequest) (spent : Drive → Bool) (drives : List Drive) : Type 0 where
  pub of_shape : (d : Drive) → is_in drives d ≡ true → is_of s.shape d ≡ true
  pub left : (d : Drive) → is_in drives d ≡ true → is_left s spent d ≡ true
  pub apart : AreApart drives
  pub spread : (node : ℕ) → units_on s drives node ≤ max s.level.k (drives_on s.shape.drives node s.used)

-- the drives may be tried for the group: they are of the cluster, usable and unused, and none comes twice
pub record MayBeTried (s : DrawRequest) (drives : List Drive) : Type 0 where
  pub of_shape : (d : Drive) → is_in drives d ≡ true → is_of s.shape d ≡ true
  pub usable : (d : Drive) → is_in drives d ≡ true → s.usable d ≡ true
  pub unused : (d : Drive) → is_in drives d ≡ true → s.used d ≡ false
  pub apart : AreApart drives

-- each drive of the cluster that is left is among these, or its node has as many units as it may have
abbrev pub NoneIsLeft : DrawRequest → (Drive → Bool) → List Drive → Type 0
NoneIsLeft s spent drives = (d : Drive) → is_of s.shape d ≡ true → is_left s spent d ≡ true
    → (is_in drives d ≡ true) ⊎ (s.level.k ≤ units_on s drives d.node)

-- all drives of the order may give slots together, and so may each prefix of it
abbrev pub OrderMayGive : Type 0
OrderMayGive = (s : DrawRequest) (spent : Drive → Bool) (count : ℕ)
    → MayGive s spent (order_of s spent) × MayGive s spent (take count (order_of s spent))

-- the order leaves no drive out, but for those whose node has as many units as it may have
abbrev pub OrderIsComplete : Type 0
OrderIsComplete = (s : DrawRequest) (spent : Drive → Bool) → NoneIsLeft s spent (order_of s spent)

-- the order has as many drives as further units find a place
abbrev pub OrderFillsTheRoom : Type 0
OrderFillsTheRoom = (s : DrawRequest) (spent : Drive → Bool) → length (order_of s spent) ≡ room_left s spent

-- if there is room for n further units, n drives are drawn
abbrev pub PrefixesAreWhole : Type 0
PrefixesAreWhole = (s : DrawRequest) (spent : Drive → Bool) (count : ℕ) → count ≤ room_left s spent → length (take count (order_of s spent)) ≡ count

-- any group to which no drive is left has as many drives as further units find a place
abbrev pub FullGroupsFillTheRoom : Type 0
FullGroupsFillTheRoom = (s : DrawRequest) (spent : Drive → Bool) (drives : List Drive) → MayGive s spent drives → NoneIsLeft s spent drives
    → length drives ≡ room_left s spent

-- a new group finds as many places as its level has on the drives that are usable and not spent
abbrev pub NewGroupsFindTheRoom : Type 0
NewGroupsFindTheRoom = (s : DrawRequest) (spent : Drive → Bool) → ((d : Drive) → s.used d ≡ false)
    → room_left s spent ≡ room_of s.level s.shape (λ d. s.usable d && not (spent d))

-- no group finds more places than that
abbrev pub RoomIsWithinTheLevel : Type 0
RoomIsWithinTheLevel = (s : DrawRequest) (spent : Drive → Bool) → room_left s spent ≤ room_of s.level s.shape (λ d. s.usable d && not (spent d))

-- if the used drives are usable and not spent, at most k on a node, then further units find as many places as the level has, less those drives
abbrev pub UsedDrivesTakeTheirRoom : Type 0
UsedDrivesTakeTheirRoom = (s : DrawRequest) (spent : Drive → Bool) → ((d : Drive) → s.used d ≡ true → (s.usable d && not (spent d)) ≡ true)
    → ((node : ℕ) → drives_on s.shape.drives node s.used ≤ s.level.k)
    → room_left s spent + marked_up_to s.shape.nodes s.shape.drives s.used ≡ room_of s.level s.shape (λ d. s.usable d && not (spent d))

-- if more drives are spent there is no more room
abbrev pub SpentDrivesMakeNoRoom : Type 0
SpentDrivesMakeNoRoom = (s : DrawRequest) (spent more : Drive → Bool) → ((d : Drive) → spent d ≡ true → more d ≡ true)
    → room_left s more ≤ room_left s spent

-- if more drives are spent, those of the first n that are not spent stay among the first n
abbrev pub PrefixesKeepTheirDrives : Type 0
PrefixesKeepTheirDrives = (s : DrawRequest) (spent more : Drive → Bool) → ((e : Drive) → spent e ≡ true → more e ≡ true)
    → (count : ℕ) (d : Drive) → more d ≡ false → is_in (take count (order_of s spent)) d ≡ true → is_in (take count (order_of s more)) d ≡ true

-- the drives are used too
abbrev pub UsesToo : DrawRequest → List Drive → (Drive → Bool) → Type 0
UsesToo s drives used = (d : Drive) → is_of s.shape d ≡ true → used d ≡ (s.used d || is_in drives d)

-- if fewer than n drives that may give slots are used too, the first drive of the order is one of the first n of the order without them
abbrev pub ReplacementsAreOfThePrefix : Type 0
ReplacementsAreOfThePrefix = (s : DrawRequest) (spent : Drive → Bool) (drives : List Drive) (used : Drive → Bool) → MayGive s spent drives → UsesToo s drives used
    → (count : ℕ) → length drives < count
    → (d : Drive) → is_in (take 1 (order_of (record s { used = used }) spent)) d ≡ true → is_in (take count (order_of s spent)) d ≡ true

-- n drives, none twice, that are among the first n of the order, are the first n of the order
abbrev pub WholePrefixesAreTheOrder : Type 0
WholePrefixesAreTheOrder = (s : DrawRequest) (spent : Drive → Bool) (drives : List Drive) → AreApart drives
    → ((d : Drive) → is_in drives d ≡ true → is_in (take (length drives) (order_of s spent)) d ≡ true)
    → (d : Drive) → is_in drives d ≡ is_in (take (length drives) (order_of s spent)) d
