-- Rows of files, read one by one.
use Rattle.std.proofs.Common.{◌≡◌, ℕ, ◌+◌, ◌<◌, List, [], ◌∷◌, ◌++◌, length, get_or, drop, refl, sym, ap, ◌∙◌, subst, append_assoc}
use Rattle.std.proofs.lemmas.List.{append-nil}
use Rattle.std.specs.BTreeSet.{BTreeSet, contains_text}
use Rattle.std.specs.Prelude.{String}
use Rattle.std.specs.declared.alloc.Global.{Global}
use Rattle.operation_rules.specs.OpRules.{has_name}
use Rattle.scenario.specs.declared.scenario.FileDecl.{FileDecl}
use Rattle.scenario_rules.specs.Files.{IsNewRow, AreNewRows, IsFileOf, AreFilesOf}
use Rattle.scenario_rules.specs.Stops.{IsBreach}
use Rattle.scenario_rules.specs.declared.files.FileStop.{FileStop}
use Rattle.scenario_rules.specs.declared.files.FileStop.TheVariants.{Broken, NoMemory}
use Rattle.scenario_table.specs.declared.draft.FileRow.{FileRow}

-- of all rows these are left; the files are those of the others, and the set has their names
pub record RowsRead (all left : List FileRow) (files : List FileDecl) (names : BTreeSet (String Global)) : Type 0 where
  pub before : List (List ℕ)
  pub has : (q : List ℕ) → contains_text names q ≡ has_name before q
  pub found : (rest : List FileDecl) → AreFilesOf left rest → AreFilesOf all (files ++ rest)
  pub kept : AreNewRows left before → AreNewRows all []
  pub asked : AreNewRows all [] → AreNewRows left before

pub RowsRead-start : (all left : List FileRow) (files : List FileDecl) (names : BTreeSet (String Global)) → left ≡ all → files ≡ []
    → ((q : List ℕ) → contains_text names q ≡ has_name [] q) → RowsRead all left files names
RowsRead-start all left files names same none empty = record {
  before = [];
  has = empty;
  found = λ rest are. subst (λ fs. AreFilesOf all (fs ++ rest)) (sym none) (subst (λ rs. AreFilesOf rs rest) same are);
  kept = λ new. subst (λ rs. AreNewRows rs []) same new;
  asked = λ new. subst (λ rs. AreNewRows rs []) (sym same) new;
}

pub RowsRead-step : (all left after : List FileRow) (files more : List FileDecl) (names next : BTreeSet (String Global)) (row : FileRow) (file : FileDecl) → left ≡ row ∷ after
    → more ≡ files ++ file ∷ [] → IsFileOf row file
    → ((before : List (List ℕ)) → ((q : List ℕ) → contains_text names q ≡ has_name before q) → IsNewRow row before)
    → ((before : List (List ℕ)) → ((q : List ℕ) → contains_text names q ≡ has_name before q) → (q : List ℕ) → contains_text next q ≡ has_name (row.name ∷ before) q)
    → RowsRead all left files names → RowsRead all after more next
RowsRead-step all left after files more names next row file split pushed of new put so = record {
  before = row.name ∷ so.before;
  has = put so.before so.has;
  found = λ rest are.
      let whole : AreFilesOf left (file ∷ rest) = subst (λ rs. AreFilesOf rs (file ∷ rest)) (sym split) (of, are) in
      subst (λ fs. AreFilesOf all (fs ++ rest)) (sym pushed) (subst (AreFilesOf all) (sym (append_assoc files (file ∷ []) rest)) (so.found (file ∷ rest) whole));
  kept = λ rest. so.kept (subst (λ rs. AreNewRows rs so.before) (sym split) (new so.before so.has, rest));
  asked = λ whole. (subst (λ rs. AreNewRows rs so.before) split (so.asked whole)).1;
}

pub RowsRead-end : (all left : List FileRow) (files : List FileDecl) (names : BTreeSet (String Global)) → left ≡ [] → RowsRead all left files names → AreFilesOf all files × AreNewRows all []
RowsRead-end all left files names none so = (
  subst (AreFilesOf all) (append-nil files) (so.found [] (subst (λ rs. AreFilesOf rs []) (sym none) tt)),
  so.kept (subst (λ rs. AreNewRows rs so.before) (sym none) tt),
)

pub RowsRead-breach : (all left after : List FileRow) (files : List FileDecl) (names : BTreeSet (String Global)) (row : FileRow) (stop : FileStop) → left ≡ row ∷ after
    → ((before : List (List ℕ)) → ((q : List ℕ) → contains_text names q ≡ has_name before q) → IsBreach (IsNewRow row before) stop)
    → RowsRead all left files names → IsBreach (AreNewRows all []) stop
RowsRead-breach all left after files names row Broken split breach so =
    λ new. breach so.before so.has (subst (λ rs. AreNewRows rs so.before) split (so.asked new)).0
RowsRead-breach all left after files names row NoMemory split breach so = tt
