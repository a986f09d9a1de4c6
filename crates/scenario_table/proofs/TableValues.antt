-- The values of a canonical text, read.
use Rattle.std.proofs.Common.{codes, ◌≡◌, ℕ, suc, pos, ◌-◌, ◌<◌, ◌^◌, ◌==◌, true, false, not, ◌&&◌, List, [], ◌∷◌, ◌++◌, length, Option, Some, None, refl, sym, ap, ◌∙◌, inl, inr, arith, append_assoc, length-append, rules}
use Rattle.std.specs.Prelude.{nat_le, option_and_then}
use Rattle.std.specs.Fmt.{decimal}
use Rattle.std.specs.List.{list_all, list_any, AllByRecursion}
use Rattle.std.proofs.lemmas.Bool.{and_parts, cases_Bool, eqb-true}
use Rattle.std.proofs.lemmas.Bool.Decides.{nat_tests}
use Rattle.toml_parser.specs.Lexical.{first, skip_blank, skip_ws}
use Rattle.toml_parser.proofs.LexicalLemmas.{skip_ws_none, skip_from-nil}
use Rattle.toml_writer.specs.Text.{string_text, encoding_of, escaped, needs_escape, quotes_after, key_text, has, is_control}
use Rattle.toml_writer.proofs.Strings.{is_key_start-key_text}
use Rattle.toml.specs.Data.{Data, string, integer, array, Items, no_items, push_item}
use Rattle.toml.specs.Tables.{Document, Expression, key_value, array_table, define}
use Rattle.toml.specs.Parse.{val, after_element, items, line, lines, expression, ends_line}
use Rattle.toml.proofs.Turns.{val_array, items_end, items_more, keyval_ok, lines_end, lines_more, lines_refused}
use Rattle.toml.proofs.Blanks.{starts_value, skip_start, skip_none, skip_newline, skip_within}
use Rattle.toml.proofs.ReadValues.{EndsValue, read_value, item_join, item_join-none, item_join-push, key_equals-pair}
use Rattle.toml.proofs.ReadLines.{run, line_turn}
use Rattle.scenario_table.specs.Canonical.{op_line, op_lines, is_plain_byte, IsPlain}
use Rattle.scenario_table.specs.Table.{items_by, op_data}

-- ---- plain strings

not_there : (c : ℕ) (s : List ℕ) → is_plain_byte c ≡ false → IsPlain s → has c s ≡ false
not_there c [] other h = refl
not_there c (b ∷ bs) other h =
    let (here, more) = and_parts (is_plain_byte b) (list_all is_plain_byte bs) h in
    let apart : (b == c) ≡ false = elim (cases_Bool (b == c)) [
      | inl is ↦ absurd (cc (sym here ∙ (ap is_plain_byte (eqb-true b c is) ∙ other)))
      | inr isnt ↦ isnt
    ] in
    rw (apart, not_there c bs other more) refl

no_control : (s : List ℕ) → IsPlain s → list_any is_control s ≡ false
no_control [] h = refl
no_control (b ∷ bs) h =
    let (here, more) = and_parts (is_plain_byte b) (list_all is_plain_byte bs) h in
    let clean : is_control b ≡ false = grind (arith, nat_tests) in
    rw (clean, no_control bs more) refl

no_escape : (c : ℕ) → is_plain_byte c ≡ true → (needs_escape false 0 c ≡ false) × (quotes_after false 0 c ≡ 0)
unfolding needs_escape quotes_after
no_escape c h =
    let apart : (c == 34) ≡ false = grind (arith, nat_tests) in
    let feed : (c == 10) ≡ false = grind (arith, nat_tests) in
    let slash : (c == 92) ≡ false = grind (arith, nat_tests) in
    let tab : (c == 9) ≡ false = grind (arith, nat_tests) in
    let printing : (nat_le 32 c && not (c == 127)) ≡ true = grind (arith, nat_tests) in
    (rw (apart, feed, slash, tab, printing) refl, rw apart refl)

not_escaped : (s : List ℕ) → IsPlain s → escaped false 0 s ≡ s
unfolding escaped
not_escaped [] h = refl
not_escaped (c ∷ cs) h =
    let (here, more) = and_parts (is_plain_byte c) (list_all is_plain_byte cs) h in
    let (plain, none) = no_escape c here in
    rw (plain, none) (ap (λ t. c ∷ t) (not_escaped cs more))

pub plain_spelled : (s : List ℕ) → IsPlain s → string_text s ≡ 34 ∷ (s ++ 34 ∷ [])
unfolding string_text encoding_of
plain_spelled s h =
    rw (no_control s h, not_there 92 s refl h, not_there 34 s refl h, not_there 10 s refl h) (ap (λ t. 34 ∷ (t ++ 34 ∷ [])) (not_escaped s h))

-- what a plain string is read as
pub string_val : (n : ℕ) (s rest : List ℕ) → IsPlain s → EndsValue rest → val n (34 ∷ (s ++ 34 ∷ rest)) ≡ Some (string s, rest)
string_val n s rest h stop =
    ap (val n) (sym (ap (λ t. t ++ rest) (plain_spelled s h) ∙ ap (λ t. 34 ∷ t) (append_assoc s (34 ∷ []) rest)))
    ∙ read_value false (string s) n (string_text s) rest refl (omega arith) refl stop

-- what a number is read as
pub number_val : (i n : ℕ) (rest : List ℕ) → n < 2 ^ 32 → EndsValue rest → val i (decimal n ++ rest) ≡ Some (integer (pos n), rest)
number_val i n rest small stop = read_value false (integer (pos n)) i (decimal n) rest (refl, search (rules, small)) (omega arith) refl stop

-- ---- the operations of an actor

after_comma : (t : List ℕ) → after_element 93 (44 ∷ t) ≡ Some t
unfolding after_element
after_comma t = rw (skip_none (44 ∷ t) 44 refl refl)

op_spelled : (op : List ℕ) (rest : List ℕ) → op_line op ++ rest ≡ 34 ∷ (op ++ 34 ∷ 44 ∷ 10 ∷ rest)
unfolding op_line
op_spelled op rest = simp append_assoc

op_skipped : (op : List ℕ) (rest : List ℕ) → skip_blank (op_line op ++ rest) ≡ 34 ∷ (op ++ 34 ∷ 44 ∷ 10 ∷ rest)
op_skipped op rest = ap skip_blank (op_spelled op rest) ∙ skip_none (34 ∷ (op ++ 34 ∷ 44 ∷ 10 ∷ rest)) 34 refl refl

pub read_ops : (ops : List (List ℕ)) (n m : ℕ) (rest x : List ℕ) (found : Items) → AllByRecursion IsPlain ops
    → skip_blank x ≡ skip_blank (op_lines ops ++ 93 ∷ rest) → length x < m → items (val n) m found x ≡ Some (item_join found (items_by op_data ops), rest)
read_ops [] n m rest x found h skip room =
    let closing : skip_blank x ≡ 93 ∷ rest = skip ∙ skip_none (93 ∷ rest) 93 refl refl in
    items_end (val n) m found x (omega arith) (rw closing refl) ∙ rw (closing, item_join-none found)
read_ops (op ∷ ops) n m rest x found h skip room =
    let more = op_lines ops ++ 93 ∷ rest in
    let s = 34 ∷ (op ++ 34 ∷ 44 ∷ 10 ∷ more) in
    let at : skip_blank x ≡ s = skip ∙ ap skip_blank (append_assoc (op_line op) (op_lines ops) (93 ∷ rest)) ∙ op_skipped op more in
    let other : (first (skip_blank x) == 93) ≡ false = rw at refl in
    let within = skip_within x in
    let size = length-append op (34 ∷ 44 ∷ 10 ∷ more) in
    let shorter : length (skip_blank x) ≡ length s = ap length at in
    let read = string_val n op (44 ∷ 10 ∷ more) h.0 ((refl, refl), (refl, refl)) in
    let tail = read_ops ops n (m - 1) rest (10 ∷ more) (push_item found (string op)) h.1 (skip_newline more) (omega (arith, size)) in
    items_more (val n) m found x (string op) (44 ∷ 10 ∷ more) (10 ∷ more) (omega arith) other (rw at read) (after_comma (10 ∷ more))
    ∙ tail ∙ ap (λ t. Some (t, rest)) (item_join-push found (string op) (items_by op_data ops))

-- the array of an actor
pub ops_val : (ops : List (List ℕ)) (rest : List ℕ) → AllByRecursion IsPlain ops → val 80 (91 ∷ 10 ∷ (op_lines ops ++ 93 ∷ rest)) ≡ Some (array (items_by op_data ops), rest)
ops_val ops rest h =
    let t = 10 ∷ (op_lines ops ++ 93 ∷ rest) in
    val_array 79 (91 ∷ t) refl ∙ rw (read_ops ops 79 (length (91 ∷ t)) rest t no_items h (skip_newline (op_lines ops ++ 93 ∷ rest)) (omega arith))

-- ---- lines

-- the text begins with a line that has this expression, before the rest
pub record Line (e : Expression) (text rest : List ℕ) : Type 0 where
  pub s : List ℕ
  pub at : skip_blank text ≡ s
  pub read : line s ≡ Some (e, 10 ∷ rest)
  pub shorter : suc (length rest) < length s

abbrev pub AreLines : List Expression → List ℕ → Type 0
AreLines [] text = text ≡ []
AreLines (e ∷ es) text = (rest : List ℕ) × Line e text rest × AreLines es rest

read_step : (m : ℕ) (doc : Document) (x : List ℕ) (e : Expression) (after : List ℕ) (es : List Expression) (defined : Option Document) → defined ≡ define doc e → 0 < m → (length (skip_blank x) == 0) ≡ false
    → line (skip_blank x) ≡ Some (e, after) → ((next : Document) → lines (m - 1) next after ≡ run next es) → lines m doc x ≡ option_and_then (λ n. run n es) defined
read_step m doc x e after es None same some other read more = lines_refused m doc x e after some other read (sym same)
read_step m doc x e after es (Some next) same some other read more = lines_more m doc next x e after some other read (sym same) ∙ more next

-- a text of such lines is read as the run of their expressions
pub read_all : (es : List Expression) (text x : List ℕ) (doc : Document) (m : ℕ) → AreLines es text → skip_blank x ≡ skip_blank text → length x < m → lines m doc x ≡ run doc es
read_all [] text x doc m h skip room = lines_end m doc x (omega arith) (rw (skip, h, skip_from-nil true false) refl)
read_all (e ∷ es) text x doc m h skip room =
    let (rest, l, more) = h in
    let same : skip_blank x ≡ l.s = skip ∙ l.at in
    let shorter = l.shorter in
    let other : (length (skip_blank x) == 0) ≡ false = rw same (grind (arith, nat_tests)) in
    let within = skip_within x in
    read_step m doc x e (10 ∷ rest) es (define doc e) refl (omega arith) other (rw same l.read) (λ next. read_all es rest (10 ∷ rest) next (m - 1) more (skip_newline rest) (omega (arith, ap length same)))

-- a line with a key and a value
ends_at_newline : (rest : List ℕ) → ends_line (skip_ws (10 ∷ rest)) ≡ true
ends_at_newline rest = rw (skip_ws_none (10 ∷ rest) refl) (grind (arith, nat_tests))

pub pair_line : (k value_at rest : List ℕ) (d : Data) → starts_value (first value_at) ≡ true → val 80 value_at ≡ Some (d, 10 ∷ rest) → suc (length rest) < length (codes " = " ++ value_at)
    → Line (([], k), key_value d) (key_text k ++ (codes " = " ++ value_at)) rest
unfolding line expression
pair_line k value_at rest d start read shorter =
    let s = key_text k ++ (codes " = " ++ value_at) in
    let pair = keyval_ok (val 80) s value_at (10 ∷ rest) ([], k) d (key_equals-pair k value_at start) read in
    let key_first = is_key_start-key_text k (codes " = " ++ value_at) in
    let other : (first s == 91) ≡ false = grind (arith, nat_tests) in
    let key_size = length-append (key_text k) (codes " = " ++ value_at) in
    record {
      s = s;
      at = skip_start s (grind (arith, nat_tests));
      read = rw (other, pair, ends_at_newline rest);
      shorter = omega (arith, key_size, shorter);
    }

-- a line with a header of an array of tables
pub header_text : (k rest : List ℕ) → Line (([], k), array_table) (91 ∷ 91 ∷ (key_text k ++ (93 ∷ 93 ∷ 10 ∷ rest))) rest
header_text k rest =
    let this = 91 ∷ 91 ∷ (key_text k ++ (93 ∷ 93 ∷ 10 ∷ [])) in
    let (s, at, read, some, shorter, not_bom) = line_turn false false ([], k) array_table this rest refl (omega arith) in
    let same : this ++ rest ≡ 91 ∷ 91 ∷ (key_text k ++ (93 ∷ 93 ∷ 10 ∷ rest)) = ap (λ t. 91 ∷ 91 ∷ t) (append_assoc (key_text k) (93 ∷ 93 ∷ 10 ∷ []) rest) in
    record { s = s; at = ap skip_blank (sym same) ∙ at; read = read; shorter = shorter }
