-- No line of a canonical text begins with `b`.
use Rattle.std.proofs.Common.{codes, ◌≡◌, ◌≢◌, ℕ, ◌<◌, ◌^◌, true, not, ◌==◌, List, [], ◌∷◌, ◌++◌, get_or, refl, sym, ap, ◌∙◌, arith, subst, append_assoc}
use Rattle.std.specs.Fmt.{decimal}
use Rattle.std.specs.List.{AllByRecursion, list_all}
use Rattle.std.proofs.lemmas.Bool.{and_from, and_parts}
use Rattle.std.proofs.lemmas.Bool.Decides.{nat_tests}
use Rattle.report_reader.specs.Lines.{lacks}
use Rattle.report_reader.proofs.Cuts.{decimal_lacks, lacks_both}
use Rattle.scenario_reader.specs.Laws.{HasPlainText}
use Rattle.scenario_table.specs.Canonical.{IsPlain, IsPlainRow, IsPlainTable, Numbers, actor_lines, all_actor_lines, all_file_lines, file_lines, is_plain_byte, number_line, op_line, op_lines, table_text, text_line}
use Rattle.scenario_table.specs.declared.draft.FileRow.{FileRow}
use Rattle.whole_scenario.specs.Canonical.{canonical_text}
use Rattle.whole_scenario.specs.declared.whole.Scenario.{Scenario}
use Rattle.whole_report.specs.ScenarioLines.{AreLines, IsOther, lines_text}

-- ---- texts of lines

no_lines : AreLines []
no_lines = record { lines = []; others = tt; is = refl }

one_line : (body : List ℕ) → lacks 10 body ≡ true → get_or body 0 0 ≢ 98 → AreLines (body ++ 10 ∷ [])
one_line body clean other = record { lines = body ∷ []; others = (record { clean = clean; other = other }, tt); is = refl }

both_lines : (a b : List ℕ) → AreLines a → AreLines b → AreLines (a ++ b)
both_lines a b x y = joined x.lines x.others a x.is
  where
    joined : (ls : List (List ℕ)) → AllByRecursion IsOther ls → (t : List ℕ) → t ≡ lines_text ls → AreLines (t ++ b)
    joined [] others t is = record { lines = y.lines; others = y.others; is = ap (λ (u : List ℕ). u ++ b) is ∙ y.is }
    joined (l ∷ ls) others t is =
        let more = joined ls others.1 (lines_text ls) refl in
        record {
          lines = l ∷ more.lines;
          others = (others.0, more.others);
          is = ap (λ (u : List ℕ). u ++ b) is ∙ append_assoc l (10 ∷ lines_text ls) b ∙ ap (λ (u : List ℕ). l ++ 10 ∷ u) more.is;
        }

lines_of : (a b : List ℕ) → a ≡ b → AreLines b → AreLines a
lines_of a b is lines = subst AreLines (sym is) lines

-- ---- plain texts have no line feed

plain_byte : (b : ℕ) → is_plain_byte b ≡ true → not (b == 10) ≡ true
plain_byte b is = grind (arith, nat_tests)

plain_lacks : (text : List ℕ) → IsPlain text → lacks 10 text ≡ true
plain_lacks [] plain = refl
plain_lacks (b ∷ bs) plain =
    let (here, more) = and_parts (is_plain_byte b) (list_all is_plain_byte bs) plain in
    and_from (not (b == 10)) (lacks 10 bs) (plain_byte b here) (plain_lacks bs more)

-- ---- the kinds of lines

number : (key : List ℕ) (k : ℕ) (ks : List ℕ) (n : ℕ) → key ≡ k ∷ ks → lacks 10 key ≡ true → k ≢ 98 → n < 2 ^ 32 → AreLines (number_line key n)
unfolding number_line
number key k ks n is clean other small =
    lines_of (number_line key n) ((key ++ codes " = " ++ decimal n) ++ 10 ∷ []) refl
    (one_line (key ++ codes " = " ++ decimal n)
    (lacks_both 10 (key ++ codes " = ") (decimal n) (lacks_both 10 key (codes " = ") clean refl) (decimal_lacks 10 n refl (omega (arith, small))))
    (λ head. other (ap (λ (t : List ℕ). get_or (t ++ codes " = " ++ decimal n) 0 0) (sym is) ∙ head)))

texted : (key : List ℕ) (k : ℕ) (ks : List ℕ) (text : List ℕ) → key ≡ k ∷ ks → lacks 10 key ≡ true → k ≢ 98 → IsPlain text → AreLines (text_line key text)
unfolding text_line
texted key k ks text is clean other plain =
    lines_of (text_line key text) ((key ++ codes " = \"" ++ text ++ codes "\"") ++ 10 ∷ []) refl
    (one_line (key ++ codes " = \"" ++ text ++ codes "\"")
    (lacks_both 10 (key ++ codes " = \"" ++ text) (codes "\"") (lacks_both 10 (key ++ codes " = \"") text (lacks_both 10 key (codes " = \"") clean refl) (plain_lacks text plain)) refl)
    (λ head. other (ap (λ (t : List ℕ). get_or (t ++ codes " = \"" ++ text ++ codes "\"") 0 0) (sym is) ∙ head)))

file : (f : FileRow) → IsPlainRow f → AreLines (file_lines f)
unfolding file_lines
file f plain =
    both_lines (codes "[[file]]\n" ++ text_line (codes "name") f.name) (text_line (codes "level") f.level)
    (both_lines (codes "[[file]]\n") (text_line (codes "name") f.name) (one_line (codes "[[file]]") refl (λ is. absurd (omega (arith, is))))
    (texted (codes "name") 110 (codes "ame") f.name refl refl (λ is. absurd (omega (arith, is))) plain.name))
    (texted (codes "level") 108 (codes "evel") f.level refl refl (λ is. absurd (omega (arith, is))) plain.level)

files : (fs : List FileRow) → AllByRecursion IsPlainRow fs → AreLines (all_file_lines fs)
files [] plain = no_lines
files (f ∷ fs) plain = both_lines (file_lines f) (all_file_lines fs) (file f plain.0) (files fs plain.1)

op : (text : List ℕ) → IsPlain text → AreLines (op_line text)
unfolding op_line
op text plain =
    one_line (codes "\"" ++ text ++ codes "\",") (lacks_both 10 (codes "\"" ++ text) (codes "\",") (lacks_both 10 (codes "\"") text refl (plain_lacks text plain)) refl) (λ is. absurd (omega (arith, is)))

ops : (texts : List (List ℕ)) → AllByRecursion IsPlain texts → AreLines (op_lines texts)
ops [] plain = no_lines
ops (t ∷ ts) plain = both_lines (op_line t) (op_lines ts) (op t plain.0) (ops ts plain.1)

actor : (texts : List (List ℕ)) → AllByRecursion IsPlain texts → AreLines (actor_lines texts)
unfolding actor_lines
actor texts plain =
    let opening = both_lines (codes "[[actor]]\n") (codes "ops = [\n") (one_line (codes "[[actor]]") refl (λ is. absurd (omega (arith, is)))) (one_line (codes "ops = [") refl (λ is. absurd (omega (arith, is)))) in
    lines_of (actor_lines texts) ((codes "[[actor]]\nops = [\n" ++ op_lines texts) ++ codes "]\n") (simp append_assoc)
    (both_lines (codes "[[actor]]\nops = [\n" ++ op_lines texts) (codes "]\n") (both_lines (codes "[[actor]]\nops = [\n") (op_lines texts) opening (ops texts plain))
    (one_line (codes "]") refl (λ is. absurd (omega (arith, is)))))

actors : (texts : List (List (List ℕ))) → AllByRecursion (AllByRecursion IsPlain) texts → AreLines (all_actor_lines texts)
actors [] plain = no_lines
actors (t ∷ ts) plain = both_lines (actor_lines t) (all_actor_lines ts) (actor t plain.0) (actors ts plain.1)

table : (n : Numbers) (rows : List FileRow) (texts : List (List (List ℕ))) → IsPlainTable n rows texts → AreLines (table_text n rows texts)
unfolding table_text
table n rows texts plain =
    let unit = number (codes "unit") 117 (codes "nit") n.unit refl refl (λ is. absurd (omega (arith, is))) plain.unit in
    let nodes = number (codes "nodes") 110 (codes "odes") n.nodes refl refl (λ is. absurd (omega (arith, is))) plain.nodes in
    let drives = number (codes "drives") 100 (codes "rives") n.drives refl refl (λ is. absurd (omega (arith, is))) plain.drives in
    let slots = number (codes "slots") 115 (codes "lots") n.slots refl refl (λ is. absurd (omega (arith, is))) plain.slots in
    let workers = number (codes "workers") 119 (codes "orkers") n.workers refl refl (λ is. absurd (omega (arith, is))) plain.workers in
    both_lines _ (all_actor_lines texts) (both_lines _ (all_file_lines rows) (both_lines _ _ (both_lines _ _ (both_lines _ _ (both_lines _ _ unit nodes) drives) slots) workers) (files rows plain.rows)) (actors texts plain.ops)

-- the canonical text of a scenario that a text spells is such lines
pub canonical_lines : (s : Scenario) → HasPlainText s → AreLines (canonical_text s)
canonical_lines s plain = lines_of (canonical_text s) (table_text plain.numbers plain.files plain.actors) plain.is (table plain.numbers plain.files plain.actors plain.plain)
