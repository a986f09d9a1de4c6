-- The document of a canonical text.
use Rattle.std.proofs.Common.{codes, ◌≡◌, ℕ, suc, pos, ◌<◌, ◌^◌, false, List, [], ◌∷◌, ◌++◌, length, Some, refl, sym, ap, ◌∙◌, subst, arith, append_assoc, length-append, rules}
use Rattle.std.specs.Fmt.{decimal}
use Rattle.std.specs.List.{AllByRecursion}
use Rattle.toml_writer.specs.Text.{key_text}
use Rattle.toml.specs.Data.{Data, string, integer, array, Items, no_items, item, push_item, no_members, member}
use Rattle.toml.specs.Tables.{Node, value, open_array, Nodes, no_nodes, node, close, close_node, Document, Expression, key_value, array_table, define, along_header, along_dots, at_key}
use Rattle.toml.specs.Parse.{skip_bom, lines, parse_document}
use Rattle.toml.proofs.Turns.{document_some}
use Rattle.toml.proofs.ReadValues.{value_start, item_join, item_join-push}
use Rattle.toml.proofs.ReadLines.{run}
use Rattle.scenario_table.specs.Canonical.{number_line, text_line, file_lines, op_lines, actor_lines, all_file_lines, all_actor_lines, table_text, Numbers, draft_of, IsPlain, IsPlainRow, IsPlainTable}
use Rattle.scenario_table.specs.Table.{items_by, file_data, op_data, actor_data, all_given, table_of}
use Rattle.scenario_table.specs.declared.draft.FileRow.{FileRow}
use Rattle.scenario_table.proofs.TableValues.{string_val, number_val, ops_val, Line, AreLines, read_all, pair_line, header_text}

-- ---- the lines

number_text : (k : List ℕ) (n : ℕ) (rest : List ℕ) → key_text k ≡ k → n < 2 ^ 32 → Line (([], k), key_value (integer (pos n))) (number_line k n ++ rest) rest
unfolding number_line
number_text k n rest bare small =
    let value_at = decimal n ++ 10 ∷ rest in
    let spelled : number_line k n ++ rest ≡ key_text k ++ (codes " = " ++ value_at) = rw bare (simp append_assoc) in
    let start = (value_start false (integer (pos n)) (decimal n) (10 ∷ rest) (refl, search (rules, small)) refl).1 in
    let size = length-append (decimal n) (10 ∷ rest) in
    subst (λ t. Line (([], k), key_value (integer (pos n))) t rest) (sym spelled)
    (pair_line k value_at rest (integer (pos n)) start (number_val 80 n (10 ∷ rest) small ((refl, refl), (refl, refl))) (omega (arith, size)))

string_line : (k text rest : List ℕ) → key_text k ≡ k → IsPlain text → Line (([], k), key_value (string text)) (text_line k text ++ rest) rest
unfolding text_line
string_line k text rest bare plain =
    let value_at = 34 ∷ (text ++ 34 ∷ 10 ∷ rest) in
    let spelled : text_line k text ++ rest ≡ key_text k ++ (codes " = " ++ value_at) = rw bare (simp append_assoc) in
    let size = length-append text (34 ∷ 10 ∷ rest) in
    subst (λ t. Line (([], k), key_value (string text)) t rest) (sym spelled)
    (pair_line k value_at rest (string text) refl (string_val 80 text (10 ∷ rest) plain ((refl, refl), (refl, refl))) (omega (arith, size)))

abbrev pub file_es : FileRow → List Expression
file_es f = (([], codes "file"), array_table) ∷ (([], codes "name"), key_value (string f.name)) ∷ (([], codes "level"), key_value (string f.level)) ∷ []

abbrev pub actor_es : List (List ℕ) → List Expression
actor_es ops = (([], codes "actor"), array_table) ∷ (([], codes "ops"), key_value (array (items_by op_data ops))) ∷ []

file_spelled : (f : FileRow) (t : List ℕ) → file_lines f ++ t ≡ codes "[[file]]\n" ++ (text_line (codes "name") f.name ++ (text_line (codes "level") f.level ++ t))
unfolding file_lines
file_spelled f t = simp append_assoc

push_file : (f : FileRow) (es : List Expression) (t : List ℕ) → IsPlainRow f → AreLines es t → AreLines (file_es f ++ es) (file_lines f ++ t)
unfolding key_text
push_file f es t plain h =
    let two = text_line (codes "level") f.level ++ t in
    let one = text_line (codes "name") f.name ++ two in
    subst (AreLines (file_es f ++ es)) (sym (file_spelled f t))
    (one, header_text (codes "file") one, (two, string_line (codes "name") f.name two refl plain.name, (t, string_line (codes "level") f.level t refl plain.level, h)))

actor_spelled : (ops : List (List ℕ)) (t : List ℕ) → actor_lines ops ++ t ≡ codes "[[actor]]\n" ++ (codes "ops = " ++ (91 ∷ 10 ∷ (op_lines ops ++ 93 ∷ 10 ∷ t)))
unfolding actor_lines
actor_spelled ops t = simp append_assoc

push_actor : (ops : List (List ℕ)) (es : List Expression) (t : List ℕ) → AllByRecursion IsPlain ops → AreLines es t → AreLines (actor_es ops ++ es) (actor_lines ops ++ t)
unfolding key_text
push_actor ops es t plain h =
    let value_at = 91 ∷ 10 ∷ (op_lines ops ++ 93 ∷ 10 ∷ t) in
    let one = codes "ops = " ++ value_at in
    let size = length-append (op_lines ops) (93 ∷ 10 ∷ t) in
    subst (AreLines (actor_es ops ++ es)) (sym (actor_spelled ops t))
    (one, header_text (codes "actor") one, (t, pair_line (codes "ops") value_at t (array (items_by op_data ops)) refl (ops_val ops (10 ∷ t) plain) (omega (arith, size)), h))

abbrev pub files_es : List FileRow → List Expression → List Expression
files_es [] es = es
files_es (f ∷ fs) es = file_es f ++ files_es fs es

abbrev pub actors_es : List (List (List ℕ)) → List Expression
actors_es [] = []
actors_es (ops ∷ more) = actor_es ops ++ actors_es more

push_files : (fs : List FileRow) (es : List Expression) (t : List ℕ) → AllByRecursion IsPlainRow fs → AreLines es t → AreLines (files_es fs es) (all_file_lines fs ++ t)
push_files [] es t plain h = h
push_files (f ∷ fs) es t plain h =
    subst (AreLines (files_es (f ∷ fs) es)) (sym (append_assoc (file_lines f) (all_file_lines fs) t)) (push_file f (files_es fs es) (all_file_lines fs ++ t) plain.0 (push_files fs es t plain.1 h))

are_actors : (actors : List (List (List ℕ))) → AllByRecursion (AllByRecursion IsPlain) actors → AreLines (actors_es actors) (all_actor_lines actors)
are_actors [] plain = refl
are_actors (ops ∷ more) plain = push_actor ops (actors_es more) (all_actor_lines more) plain.0 (are_actors more plain.1)

-- the lines of the numbers, before those of the rest
abbrev pub all_es : Numbers → List Expression → List Expression
all_es n es =
    (([], codes "unit"), key_value (integer (pos n.unit))) ∷ (([], codes "nodes"), key_value (integer (pos n.nodes)))
    ∷ (([], codes "drives"), key_value (integer (pos n.drives))) ∷ (([], codes "slots"), key_value (integer (pos n.slots)))
    ∷ (([], codes "workers"), key_value (integer (pos n.workers))) ∷ es

table_spelled : (n : Numbers) (files : List FileRow) (actors : List (List (List ℕ))) → table_text n files actors ≡
    number_line (codes "unit") n.unit ++ (number_line (codes "nodes") n.nodes ++ (number_line (codes "drives") n.drives
    ++ (number_line (codes "slots") n.slots ++ (number_line (codes "workers") n.workers ++ (all_file_lines files ++ all_actor_lines actors)))))
unfolding table_text
table_spelled n files actors = simp append_assoc

are_lines : (n : Numbers) (files : List FileRow) (actors : List (List (List ℕ))) → IsPlainTable n files actors
    → AreLines (all_es n (files_es files (actors_es actors))) (table_text n files actors)
unfolding key_text
are_lines n files actors h =
    let t5 = all_file_lines files ++ all_actor_lines actors in
    let t4 = number_line (codes "workers") n.workers ++ t5 in
    let t3 = number_line (codes "slots") n.slots ++ t4 in
    let t2 = number_line (codes "drives") n.drives ++ t3 in
    let t1 = number_line (codes "nodes") n.nodes ++ t2 in
    subst (AreLines (all_es n (files_es files (actors_es actors)))) (sym (table_spelled n files actors)) (
      t1,
      number_text (codes "unit") n.unit t1 refl h.unit,
      (
        t2,
        number_text (codes "nodes") n.nodes t2 refl h.nodes,
        (
          t3,
          number_text (codes "drives") n.drives t3 refl h.drives,
          (
            t4,
            number_text (codes "slots") n.slots t4 refl h.slots,
            (
              t5,
              number_text (codes "workers") n.workers t5 refl h.workers,
              push_files files (actors_es actors) (all_actor_lines actors) h.rows (are_actors actors h.ops),
            ),
          ),
        ),
      ),
    )

-- ---- what the lines define

-- the root, with this node of files
abbrev root : Numbers → Node → Nodes
root n files =
    node (codes "drives") (value (integer (pos n.drives))) (node (codes "file") files (node (codes "nodes") (value (integer (pos n.nodes)))
    (node (codes "slots") (value (integer (pos n.slots))) (node (codes "unit") (value (integer (pos n.unit))) (node (codes "workers") (value (integer (pos n.workers))) no_nodes)))))

abbrev file_nodes : FileRow → Nodes
file_nodes f = node (codes "level") (value (string f.level)) (node (codes "name") (value (string f.name)) no_nodes)

abbrev actor_nodes : List (List ℕ) → Nodes
actor_nodes ops = node (codes "ops") (value (array (items_by op_data ops))) no_nodes

-- the node after these files, behind those done and this one
abbrev files_node : Items → FileRow → List FileRow → Node
files_node done f [] = open_array done (file_nodes f)
files_node done f (g ∷ gs) = files_node (push_item done (file_data f)) g gs

abbrev actors_node : Items → List (List ℕ) → List (List (List ℕ)) → Node
actors_node done ops [] = open_array done (actor_nodes ops)
actors_node done ops (more ∷ rest) = actors_node (push_item done (actor_data ops)) more rest

file_first : (n : Numbers) (f : FileRow) (es : List Expression)
    → run (no_nodes, []) (all_es n (file_es f ++ es)) ≡ run (root n (open_array no_items (file_nodes f)), codes "file" ∷ []) es
unfolding define along_header along_dots at_key
file_first n f es = refl

file_next : (n : Numbers) (done : Items) (f g : FileRow) (es : List Expression)
    → run (root n (open_array done (file_nodes f)), codes "file" ∷ []) (file_es g ++ es)
    ≡ run (root n (open_array (push_item done (file_data f)) (file_nodes g)), codes "file" ∷ []) es
unfolding define along_header along_dots at_key
file_next n done f g es = refl

files_run : (n : Numbers) (done : Items) (f : FileRow) (fs : List FileRow) (es : List Expression)
    → run (root n (open_array done (file_nodes f)), codes "file" ∷ []) (files_es fs es) ≡ run (root n (files_node done f fs), codes "file" ∷ []) es
files_run n done f [] es = refl
files_run n done f (g ∷ gs) es = file_next n done f g (files_es gs es) ∙ files_run n (push_item done (file_data f)) g gs es

actor_first : (n : Numbers) (x : Node) (ops : List (List ℕ)) (es : List Expression)
    → run (root n x, codes "file" ∷ []) (actor_es ops ++ es) ≡ run (node (codes "actor") (open_array no_items (actor_nodes ops)) (root n x), codes "actor" ∷ []) es
unfolding define along_header along_dots at_key
actor_first n x ops es = refl

actor_next : (rest : Nodes) (done : Items) (ops more : List (List ℕ)) (es : List Expression)
    → run (node (codes "actor") (open_array done (actor_nodes ops)) rest, codes "actor" ∷ []) (actor_es more ++ es)
    ≡ run (node (codes "actor") (open_array (push_item done (actor_data ops)) (actor_nodes more)) rest, codes "actor" ∷ []) es
unfolding define along_header along_dots at_key
actor_next rest done ops more es = refl

actors_run : (rest : Nodes) (done : Items) (ops : List (List ℕ)) (actors : List (List (List ℕ)))
    → run (node (codes "actor") (open_array done (actor_nodes ops)) rest, codes "actor" ∷ []) (actors_es actors) ≡ Some (node (codes "actor") (actors_node done ops actors) rest, codes "actor" ∷ [])
actors_run rest done ops [] = refl
actors_run rest done ops (more ∷ actors) =
    actor_next rest done ops more (actors_es actors) ∙ actors_run rest (push_item done (actor_data ops)) more actors

-- what the nodes stand for in the end
push_end : (done : Items) (d : Data) → push_item done d ≡ item_join done (item d no_items)
push_end no_items d = refl
push_end (item e done) d = ap (item e) (push_end done d)

files_closed : (done : Items) (f : FileRow) (fs : List FileRow) → close_node (files_node done f fs) ≡ array (item_join done (items_by file_data (f ∷ fs)))
files_closed done f [] = ap array (push_end done (file_data f))
files_closed done f (g ∷ gs) = files_closed (push_item done (file_data f)) g gs ∙ ap array (item_join-push done (file_data f) (items_by file_data (g ∷ gs)))

actors_closed : (done : Items) (ops : List (List ℕ)) (actors : List (List (List ℕ))) → close_node (actors_node done ops actors) ≡ array (item_join done (items_by actor_data (ops ∷ actors)))
actors_closed done ops [] = ap array (push_end done (actor_data ops))
actors_closed done ops (more ∷ rest) =
    actors_closed (push_item done (actor_data ops)) more rest ∙ ap array (item_join-push done (actor_data ops) (items_by actor_data (more ∷ rest)))

ran : (n : Numbers) (f : FileRow) (fs : List FileRow) (ops : List (List ℕ)) (actors : List (List (List ℕ)))
    → run (no_nodes, []) (all_es n (files_es (f ∷ fs) (actors_es (ops ∷ actors))))
    ≡ Some (node (codes "actor") (actors_node no_items ops actors) (root n (files_node no_items f fs)), codes "actor" ∷ [])
ran n f fs ops actors =
    file_first n f (files_es fs (actors_es (ops ∷ actors)))
    ∙ files_run n no_items f fs (actors_es (ops ∷ actors))
    ∙ actor_first n (files_node no_items f fs) ops (actors_es actors)
    ∙ actors_run (root n (files_node no_items f fs)) no_items ops actors

no_bom : (n : Numbers) (files : List FileRow) (actors : List (List (List ℕ))) → skip_bom (table_text n files actors) ≡ table_text n files actors
unfolding skip_bom table_text number_line
no_bom n files actors = refl

pub reads_back : (n : Numbers) (files : List FileRow) (actors : List (List (List ℕ))) → IsPlainTable n files actors
    → parse_document (table_text n files actors) ≡ Some (table_of all_given (draft_of n files actors))
reads_back n [] actors h = absurd (omega (arith, h.some_files))
reads_back n (f ∷ fs) [] h = absurd (omega (arith, h.some_actors))
reads_back n (f ∷ fs) (ops ∷ actors) h =
    let text = table_text n (f ∷ fs) (ops ∷ actors) in
    let es = all_es n (files_es (f ∷ fs) (actors_es (ops ∷ actors))) in
    let doc : Document = (node (codes "actor") (actors_node no_items ops actors) (root n (files_node no_items f fs)), codes "actor" ∷ []) in
    document_some text doc (ap (lines (suc (length text)) (no_nodes, [])) (no_bom n (f ∷ fs) (ops ∷ actors)) ∙ read_all es text text (no_nodes, []) (suc (length text)) (are_lines n (f ∷ fs) (ops ∷ actors) h) refl (omega arith) ∙ ran n f fs ops actors)
    ∙ ap (λ d. Some d) (
    ap (λ a. member (codes "actor") a (close (root n (files_node no_items f fs)))) (actors_closed no_items ops actors)
    ∙ ap (λ x. member (codes "actor") (array (items_by actor_data (ops ∷ actors))) (member (codes "drives") (integer (pos n.drives)) (member (codes "file") x (member (codes "nodes") (integer (pos n.nodes))
    (member (codes "slots") (integer (pos n.slots)) (member (codes "unit") (integer (pos n.unit)) (member (codes "workers") (integer (pos n.workers)) no_members))))))) (files_closed no_items f fs))
