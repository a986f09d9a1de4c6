-- The placement of the tests is legal.
use Rattle.std.proofs.Common.{◌≡◌, ℕ, ◌+◌, Bool, true, ◌&&◌, List, [], refl, sym, ap, subst, lit≤, length}
use Rattle.domains.specs.DriveSet.{has}
use Rattle.domains.specs.Level.{Level, two_copies}
use Rattle.domains.specs.Shape.{Shape}
use Rattle.domains.specs.declared.group.Group.{Group}
use Rattle.board.specs.declared.board_view.View.{View}
use Rattle.file_history.specs.Layout.{Layout}
use Rattle.file_history.specs.Step.{Places}
use Rattle.striped_groups.specs.StoredGroups.{GroupSlots}
use Rattle.map_switches.specs.Switches.{groups_of, numbered}
use Rattle.file_core.specs.Notes.{kept_view, moment_of}
use Rattle.file_core.specs.FileView.{FileView, now_of, layout_of}
use Rattle.file_core.specs.Examples.{SeesAll, small}
use Rattle.file_core_tests.specs.Placements.{created, elsewhere}
use Rattle.file_core_tests.proofs.ExampleFile.{is_first, is_second}

places : (view : View) → SeesAll view
    → Places (moment_of small two_copies (kept_view view)) created (record { old = []; new = []; inode = record elsewhere { generation = 1 } })
places view sees =
    let up_first = sees.up (record { node = 1; drive = 1 }) is_first in
    let up_second = sees.up (record { node = 2; drive = 1 }) is_second in
    let usable_first : has view.up (record { node = 1; drive = 1 }) && true ≡ true = ap (λ (b : Bool). b && true) up_first in
    let usable_second : has view.up (record { node = 2; drive = 1 }) && true ≡ true = ap (λ (b : Bool). b && true) up_second in record {
      present = refl;
      old = [];
      mapped = tt;
      generations = refl;
      form = record {
        each = (
          record { drive = refl; slot = lit≤ tt; usable = usable_first; free = refl },
          (record { drive = refl; slot = lit≤ tt; usable = usable_second; free = refl }, tt),
        );
        distinct = ((refl, tt), (tt, tt));
      };
      inode = record {
        one = refl;
        at_level = record {
          some = lit≤ tt;
          narrow = lit≤ tt;
          corrected = refl;
          whole = refl;
          apart = (refl, (refl, tt));
          spread = (lit≤ tt, (lit≤ tt, tt));
        };
      };
      numbers = refl;
      groups = lit≤ tt;
    }

-- of a created file, for an inode's group that stands elsewhere, and no other groups
pub placement : {S : Type 0} (file : FileView S) (view : View) (group : Group) (old : List ℕ) (fresh : List (GroupSlots S))
    → file.shape ≡ small → file.level ≡ two_copies → layout_of file ≡ created → SeesAll view → group ≡ elsewhere → old ≡ [] → fresh ≡ []
    → Places (now_of file view) (layout_of file) (record {
      old = old;
      new = numbered (groups_of fresh) (layout_of file).next;
      inode = record group { generation = (layout_of file).next + length (groups_of fresh) };
    })
placement {S} file view group old fresh shape level layout sees is no_old no_fresh =
    subst (λ (x : Shape × Level × Layout × Group × List ℕ × List (GroupSlots S)).
    Places (moment_of x.0 x.1 (kept_view view)) x.2 (record {
      old = x.4;
      new = numbered (groups_of x.5) x.2.next;
      inode = record x.3 { generation = x.2.next + length (groups_of x.5) };
    }))
    (λ i. (sym shape i, sym level i, sym layout i, sym is i, sym no_old i, sym no_fresh i)) (places view sees)
