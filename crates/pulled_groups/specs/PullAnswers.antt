-- What the units at hand show.
use Rattle.std.specs.Prelude.{◌≡◌, ℕ, ◌+◌, ◌*◌, ◌<◌, Bool, All, List, ◌∷◌, ◌++◌, length, take, replicate, Some}
use Rattle.std.specs.List.{AllByRecursion, flat_map, list_any}
use Rattle.inode_codec.specs.Inode.{inode_bytes}
use Rattle.rs_codes.specs.Codes.{AreUnitsOf, IsCodeSize}
use Rattle.file_history.specs.Bytes.{slice_of}
use Rattle.file_history.specs.Layout.{Layout, group_list}
use Rattle.file_history.specs.Live.{Part}
use Rattle.file_history.specs.Stored.{inode_of}
use Rattle.pulled_groups.specs.declared.pull_groups.PulledGroup.{PulledGroup}
use Rattle.file_heads.specs.Parts.{is_asked}

-- as many units of this length are at hand as give the group's data units
pub record CanDecode (unit : ℕ) (p : PulledGroup) : Type 0 where
  pub size : IsCodeSize p.group.n p.group.m
  pub enough : length p.have.positions ≡ p.group.n
  pub positions : All (λ (q : ℕ). q < p.group.n + p.group.m) p.have.positions
  pub unit_is : p.have.unit_length ≡ unit

-- the units at hand are those of a codeword whose data units are the group's part of the file: the bytes, and zeros past their end
pub record ShowsGroup (unit : ℕ) (bytes : List ℕ) (p : PulledGroup) : Type 0 where
  pub word : List (List ℕ)
  pub units : AreUnitsOf p.group.n p.group.m word p.have
  pub lengths : AllByRecursion (λ (u : List ℕ). length u ≡ unit) word
  pub zeros : ℕ
  pub joined : flat_map (λ (u : List ℕ). u) (take p.group.n word) ≡ slice_of (bytes ++ replicate zeros 0) (p.start * unit) (p.group.n * unit)

-- the part asks for the inode's group
abbrev pub asks_inode : Layout → Part → Bool
asks_inode l part = list_any (is_asked part) (group_list l.inode)

-- the first group at hand is the inode's, and each of its units is the inode's text
pub record ShowsInode (unit : ℕ) (l : Layout) (groups : List PulledGroup) : Type 0 where
  pub first : PulledGroup
  pub rest : List PulledGroup
  pub begins : groups ≡ first ∷ rest
  pub inode : l.inode ≡ Some first.group
  pub each : AllByRecursion (λ (u : List ℕ). u ≡ inode_bytes (inode_of unit l)) first.have.units
