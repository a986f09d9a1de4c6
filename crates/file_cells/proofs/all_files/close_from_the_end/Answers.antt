use Rattle.std.proofs.Common.{rules, ◌≡◌, ◌++◌, ◌∷◌, [], length, reverse, ap, sym, ◌∙◌, arith, length-append}
use Rattle.std.specs.Prelude.{vec_capacity}
use Rattle.std.proofs.lemmas.List.{append-nil, nil_from_length}
use Rattle.striped_groups.specs.StoredGroups.{list_of}
use Rattle.file_core.specs.StoredPlaces.{slots_of}
use Rattle.file_cells.specs.FileEnds.{logs_of_files, slots_in}
use Rattle.file_cells.specs.OpenFiles.{state_of}
use Rattle.file_cells.proofs.FilesReturned.{each-all, each-next, each-none}
use Rattle.file_cells.proofs.NewFiles.{next_log, next_open}
use Rattle.file_cells.proofs.all_files.close_from_the_end.Goals as goal

pub close-log-requires-clause-open : goal.close-log-requires-clause-open
close-log-requires-clause-open g c κs within =
    (next_open c.loop-file.files.items c.pop.new.self.items c.in-Some.file c.in-Some.ensures.items c.loop-file.invariant.are).0

pub loop-file-init : goal.loop-file-init
loop-file-init g c =
    let space = c.requires.space in
    let none : length c.args.logs.items ≡ 0 = ap length c.requires.none in
    record {
      returning = each-none g.S.Slot.place_of g.S.Slot.content (λ f. slots_of (state_of f)) (reverse c.args.files.items) tt _;
      are = c.requires.open;
      logs = ap (λ l. l ++ logs_of_files (reverse c.args.files.items)) c.requires.none;
      space = omega (arith, space, none);
    }

pub loop-file-preserved : goal.loop-file-preserved
loop-file-preserved g c =
    let was = c.loop-file.invariant in
    let top = c.in-Some.ensures.items in
    let parts = c.close-log.ensures in
    let own : slots_in c.close-log.result.groups ++ slots_in (list_of c.close-log.result.inode) ≡ slots_of (state_of c.in-Some.file) =
    ap (λ gs. slots_in gs ++ slots_in (list_of c.close-log.result.inode)) parts.groups ∙ ap (λ o. slots_in (state_of c.in-Some.file).groups ++ slots_in (list_of o)) parts.inode in
    let pushed = c.push_reserved.ensures.items in
    let more = ap length pushed ∙ length-append c.loop-file.logs.items (c.close-log.result.log ∷ []) in
    let less = ap length top ∙ length-append c.pop.new.self.items (c.in-Some.file ∷ []) in
    let space = was.space in
    let capacity : vec_capacity c.push_reserved.new.self ≡ vec_capacity c.loop-file.logs = search rules in
    record {
      returning = each-next g.S.Slot.place_of g.S.Slot.content (λ f. slots_of (state_of f)) _ c.loop-file.files.items c.pop.new.self.items c.in-Some.file
          (slots_in c.close-log.result.groups ++ slots_in (list_of c.close-log.result.inode)) c.loop-file.outcome c.put_file-put.result c.and-outcome.result _ _ _
          top was.returning c.put_file-put.ensures own c.and-outcome.ensures;
      are = (next_open c.loop-file.files.items c.pop.new.self.items c.in-Some.file top was.are).1;
      logs = ap (λ l. l ++ logs_of_files (reverse c.pop.new.self.items)) pushed
          ∙ next_log c.loop-file.files.items c.pop.new.self.items c.in-Some.file c.loop-file.logs.items _ c.close-log.result.log top parts.log was.logs;
      space = omega (arith, more, less, space, capacity);
    }

pub returns : goal.returns
returns g c =
    let ended = (rw c.in_default.is at c.pop.ensures.cases).0 in
    let long = c.loop-file.files.ok in
    let none = nil_from_length c.loop-file.files.items (omega (arith, ended, long)) in
    record {
      logs_are = sym (append-nil c.loop-file.logs.items) ∙ ap (λ l. c.loop-file.logs.items ++ logs_of_files (reverse l)) (sym none) ∙ c.loop-file.invariant.logs;
      returns = each-all g.S.Slot.place_of g.S.Slot.content (λ f. slots_of (state_of f)) _ c.loop-file.files.items c.loop-file.outcome _ _ none c.loop-file.invariant.returning;
    }
