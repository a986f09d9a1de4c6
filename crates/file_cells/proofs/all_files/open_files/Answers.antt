use Rattle.std.proofs.Common.{rules, ◌≡◌, ◌+◌, ◌++◌, ◌∷◌, [], length, take, ap, sym, subst, ◌∙◌, arith, length-append}
use Rattle.std.specs.Prelude.{vec_capacity}
use Rattle.std.proofs.lemmas.List.{take_more}
use Rattle.file_cells.specs.OpenFiles.{AreNew, IsNewFile}
use Rattle.file_cells.proofs.NewFiles.{are_new-push, hold_none}
use Rattle.file_cells.proofs.all_files.open_files.Goals as goal

pub end_new-requires-after_bounds : goal.end_new-requires-after_bounds
end_new-requires-after_bounds g c κs within =
    hold_none g.S.Slot.place_of g.S.Slot.content g.S.Slot.len_of c.args.shape c.args.room _ 0 c.loop-file.opened.items c.loop-file.invariant.new

pub loop-file-preserved : goal.loop-file-preserved
loop-file-preserved g c =
    let was = c.loop-file.invariant in
    let many = was.many in
    let numbered = was.numbered in
    let pushed = c.push_reserved.ensures.items in
    let longer = ap length pushed ∙ length-append c.loop-file.opened.items (c.in-Ok.file ∷ []) in
    let capacity : vec_capacity c.push_reserved.new.self ≡ vec_capacity c.loop-file.opened = search rules in
    let space = was.space in
    let declared = c.file-item.result in
    let taken = take_more c.args.files.now c.loop-file.file-index declared c.loop-file-test.true
    ∙ ap (λ x. take c.loop-file.file-index c.args.files.now ++ x ∷ []) (sym c.file-item.is) in
    let at : c.loop-file.number ≡ 0 + length c.loop-file.opened.items = omega (arith, many, numbered) in
    let new : IsNewFile g.S.Slot.place_of g.S.Slot.content g.S.Slot.len_of c.args.shape c.args.room c.loop-file.number declared c.in-Ok.file =
    record { open_ = c.in-Ok.ensures.open; new = c.in-Ok.ensures.new; file = c.in-Ok.ensures.file } in
    record {
      many = omega (arith, longer, many);
      numbered = omega (arith, numbered);
      space = omega (arith, space, capacity);
      new = subst (λ ds. AreNew g.S.Slot.place_of g.S.Slot.content g.S.Slot.len_of c.args.shape c.args.room ds 0 c.push_reserved.new.self.items) (sym taken)
          (subst (λ fs. AreNew g.S.Slot.place_of g.S.Slot.content g.S.Slot.len_of c.args.shape c.args.room (take c.loop-file.file-index c.args.files.now ++ declared ∷ []) 0 fs) (sym pushed)
          (are_new-push g.S.Slot.place_of g.S.Slot.content g.S.Slot.len_of c.args.shape c.args.room (take c.loop-file.file-index c.args.files.now) declared 0 c.loop-file.opened.items c.in-Ok.file was.new
          (subst (λ n. IsNewFile g.S.Slot.place_of g.S.Slot.content g.S.Slot.len_of c.args.shape c.args.room n declared c.in-Ok.file) at new)));
    }
