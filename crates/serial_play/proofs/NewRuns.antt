-- A run of which nothing is played.
use Rattle.std.proofs.Common.{◌≡◌, ℕ, zero, suc, ◌+◌, List, [], ◌∷◌, length, map, Option, Some, slice_get, refl, sym, ap, subst, ◌∙◌, arith}
use Rattle.std.specs.Prelude.{unwrap_or}
use Rattle.std.specs.List.{AllByRecursion}
use Rattle.std.proofs.lemmas.Option.{slice_get_within}
use Rattle.actor_operations.specs.Entries.{board_of}
use Rattle.actor_operations.specs.Operations.{IsOpenIn}
use Rattle.board.specs.History.{entries_of as board_entries_of, log_of}
use Rattle.board_history.specs.declared.entry.BoardEntry.{BoardEntry}
use Rattle.domains.specs.Drive.{Drive}
use Rattle.domains.specs.Shape.{Shape}
use Rattle.fabric.specs.Accounts.{Holds}
use Rattle.fabric.specs.NewFabric.{IsNewHand}
use Rattle.fabric.specs.declared.hand.Hand.{Hand}
use Rattle.file_cells.specs.FileEnds.{logs_of_files}
use Rattle.file_cells.specs.OpenFiles.{AreNew, IsNewFile, entries_of, state_of}
use Rattle.file_cells.specs.declared.open_file.OpenFile.{OpenFile}
use Rattle.file_core.specs.FileView.{FileView}
use Rattle.file_history.specs.declared.entry.FileEntry.{FileEntry}
use Rattle.flex_io.specs.declared.raw_place.RawPlace.{RawPlace}
use Rattle.noted_runs.specs.NotedRuns.{AreNotesIn}
use Rattle.scenario.specs.declared.scenario.FileDecl.{FileDecl}
use Rattle.whole_scenario.specs.declared.whole.Scenario.{Scenario}
use Rattle.serial_play.specs.PlayedRuns.{AreOwn, IsPlayed, file_units, log_room, units_on}

none_there : {A C : Type 0} (xs : List A) (i : ℕ) (x : A) → xs ≡ [] → slice_get xs i ≡ Some x → C
none_there xs i x none there = absurd (let low = slice_get_within xs i x there in let empty = ap length none in omega (arith, low, empty))

module _ {S : Type 0} (place_of : S → RawPlace) (content : S → Option (List ℕ)) (len_of : S → ℕ) where
  new-at : (shape : Shape) (room number i : ℕ) (ds : List FileDecl) (fs : List (OpenFile S)) (d : FileDecl) (f : OpenFile S) → AreNew place_of content len_of shape room ds number fs
      → slice_get ds i ≡ Some d → slice_get fs i ≡ Some f → IsNewFile place_of content len_of shape room (number + i) d f
  new-at shape room number i [] fs d f are is_d is_f = none_there [] i d refl is_d
  new-at shape room number i (e ∷ ds) [] d f are is_d is_f = none_there [] i f refl is_f
  new-at shape room number zero (e ∷ ds) (g ∷ fs) d f are is_d is_f =
      let decl : e ≡ d = ap (λ (o : Option FileDecl). unwrap_or o d) is_d in
      let file : g ≡ f = ap (λ (o : Option (OpenFile S)). unwrap_or o f) is_f in
      let at : number ≡ number + 0 = omega arith in
      subst (λ (n : ℕ). IsNewFile place_of content len_of shape room n d f) at
      (subst (λ (x : FileDecl). IsNewFile place_of content len_of shape room number x f) decl (subst (λ (x : OpenFile S). IsNewFile place_of content len_of shape room number e x) file are.0))
  new-at shape room number (suc i) (e ∷ ds) (g ∷ fs) d f are is_d is_f =
      let at : suc number + i ≡ number + suc i = omega arith in
      subst (λ (n : ℕ). IsNewFile place_of content len_of shape room n d f) at (new-at shape room (suc number) i ds fs d f are.1 is_d is_f)

  pub new-many : (shape : Shape) (room number : ℕ) (ds : List FileDecl) (fs : List (OpenFile S)) → AreNew place_of content len_of shape room ds number fs → length fs ≡ length ds
  new-many shape room number [] [] are = refl
  new-many shape room number [] (f ∷ fs) are = absurd are
  new-many shape room number (d ∷ ds) [] are = absurd are
  new-many shape room number (d ∷ ds) (f ∷ fs) are = ap suc (new-many shape room (suc number) ds fs are.1)

  new-open : (shape : Shape) (room number : ℕ) (ds : List FileDecl) (fs : List (OpenFile S)) → AreNew place_of content len_of shape room ds number fs → AllByRecursion (IsOpenIn shape) fs
  new-open shape room number [] [] are = tt
  new-open shape room number [] (f ∷ fs) are = absurd are
  new-open shape room number (d ∷ ds) [] are = absurd are
  new-open shape room number (d ∷ ds) (f ∷ fs) are = (
    record { open_ = are.0.open_; shape_is = ap (λ (x : FileView S). x.shape) are.0.new },
    new-open shape room (suc number) ds fs are.1,
  )

  new-units : (d : Drive) (shape : Shape) (room number : ℕ) (ds : List FileDecl) (fs : List (OpenFile S)) → AreNew place_of content len_of shape room ds number fs → units_on d fs ≡ 0
  new-units d shape room number [] [] are = refl
  new-units d shape room number [] (f ∷ fs) are = absurd are
  new-units d shape room number (e ∷ ds) [] are = absurd are
  new-units d shape room number (e ∷ ds) (f ∷ fs) are =
      let here : file_units d (state_of f) ≡ 0 = ap (λ (x : FileView S). file_units d x) are.0.new in
      let rest = new-units d shape room (suc number) ds fs are.1 in
      omega (arith, here, rest)

  new-logs : (shape : Shape) (room number : ℕ) (ds : List FileDecl) (fs : List (OpenFile S)) (file : ℕ) (log : List FileEntry) → AreNew place_of content len_of shape room ds number fs
      → slice_get (logs_of_files fs) file ≡ Some log → log ≡ []
  new-logs shape room number [] [] file log are there = none_there [] file log refl there
  new-logs shape room number [] (f ∷ fs) file log are there = absurd are
  new-logs shape room number (d ∷ ds) [] file log are there = absurd are
  new-logs shape room number (d ∷ ds) (f ∷ fs) zero log are there =
      sym (ap (λ (o : Option (List FileEntry)). unwrap_or o log) there) ∙ ap (λ (x : FileView S). entries_of x) are.0.new
  new-logs shape room number (d ∷ ds) (f ∷ fs) (suc file) log are there = new-logs shape room (suc number) ds fs file log are.1 there

  pub new_run : (s : Scenario) (files : List (OpenFile S)) (hand : Hand S) → AreNew place_of content len_of s.shape log_room s.files 0 files → IsNewHand place_of s.shape log_room hand
      → IsPlayed place_of content len_of s [] files hand
  new_run s files hand are new =
      let empty : log_of (board_of hand) ≡ [] = ap board_entries_of new.board.notes in
      record {
        many = new-many s.shape log_room 0 s.files files are;
        open_ = new-open s.shape log_room 0 s.files files are;
        each = λ number declared f is_d is_f.
            let is = new-at s.shape log_room 0 number s.files files declared f are is_d is_f in
            let notes : (state_of f).notes ≡ [] = ap (λ (x : FileView S). x.notes) is.new in
            record {
              file = is.file;
              shape_is = ap (λ (x : FileView S). x.shape) is.new;
              level_is = ap (λ (x : FileView S). x.level) is.new;
              room_is = ap (λ (x : FileView S). x.room) is.new;
              own = subst AreOwn (sym notes) tt;
              notes = subst (AreNotesIn s (log_of (board_of hand)) number) (sym notes) tt;
            };
        board_room = new.board.room_is;
        orders = λ index e there. none_there (log_of (board_of hand)) index e empty there;
        serial = record {
          orders = ap (map (λ (b : BoardEntry). b.by)) empty;
          entries = λ file log is_log. ap (map (λ (e : FileEntry). e.by)) (new-logs s.shape log_room 0 s.files files file log are is_log);
          each = λ file index log e is_log there. none_there log index e (new-logs s.shape log_room 0 s.files files file log are is_log) there;
        };
        account = λ d of. subst (λ (n : ℕ). Holds s.shape d n hand) (sym (new-units d s.shape log_room 0 s.files files are)) (new.holds d of);
      }
