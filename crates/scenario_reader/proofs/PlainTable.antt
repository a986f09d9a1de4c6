-- The texts of a scenario stand for themselves between quotes.
use Rattle.std.proofs.Common.{codes, ◌≡◌, ℕ, ◌+◌, ◌<◌, ◌^◌, List, [], ◌∷◌, ◌++◌, Bool, true, false, map, Option, Some, None, refl, sym, ◌∙◌, subst, inl, inr, arith}
use Rattle.std.specs.Char.{is_ascii_digit}
use Rattle.std.specs.Fmt.{decimal}
use Rattle.std.specs.List.{list_all, AllByRecursion}
use Rattle.std.specs.Str.{all_ascii_digits}
use Rattle.std.proofs.lemmas.Bool.{and_from, and_parts, cases_Bool}
use Rattle.std.proofs.lemmas.Bool.Decides.{nat_tests}
use Rattle.std.proofs.lemmas.Fmt.{digits_decimal}
use Rattle.std.proofs.lemmas.List.Elements.{All-contains, All-from_recursion}
use Rattle.std.proofs.lemmas.List.Folds.{list_all-append}
use Rattle.domains.specs.Level.{Level, IsLevel, level_name, named_levels}
use Rattle.job_rules.specs.Kinds.{name_of}
use Rattle.job_rules.specs.declared.kind.JobKind.{JobKind}
use Rattle.job_rules.specs.declared.kind.JobKind.TheVariants.{FlexProtect, AutoBalance, SetProtectPlus, Collect, MultiScan, Upgrade, IntegrityScan, MediaScan, SmartPools, SyncCopy}
use Rattle.operation_rules.specs.declared.place.Place.{Place}
use Rattle.operation_rules.specs.declared.place.PlacedOp.{PlacedOp}
use Rattle.operation_text.specs.NamedOps.{fields_of, FitsOp, FitsPayload, FitsPriority, has_fields, job_text, job_word, joined, named_text, order_word, payload_text, word_of}
use Rattle.operation_text.specs.Words.{IsJobName}
use Rattle.operation_text.specs.declared.named_op.DriveOrder.{DriveOrder}
use Rattle.operation_text.specs.declared.named_op.DriveOrder.TheVariants.{Fail, Down, Up}
use Rattle.operation_text.specs.declared.named_op.FileAction.TheVariants.{Create, Delete, Write, Read, SetLevel}
use Rattle.operation_text.specs.declared.named_op.JobOrder.{JobOrder}
use Rattle.operation_text.specs.declared.named_op.JobOrder.TheVariants.{Pause, Resume, Cancel}
use Rattle.operation_text.specs.declared.named_op.NamedOp.{NamedOp}
use Rattle.operation_text.specs.declared.named_op.NamedOp.TheVariants.{OnFile, OnDrive, FailNode, Start, OnJob, Work, Drain, RestartEngine}
use Rattle.operation_text.specs.declared.named_op.Payload.{Payload}
use Rattle.operation_text.specs.declared.named_op.Payload.TheVariants.{Text, Fill}
use Rattle.scenario.specs.Words.{is_name_byte, IsName}
use Rattle.scenario.specs.declared.scenario.FileDecl.{FileDecl}
use Rattle.scenario_rules.specs.Files.{AreFilesOf, AreNewRows}
use Rattle.scenario_rules.specs.Places.{all_places, script_places, AreOps}
use Rattle.scenario_table.specs.Canonical.{is_plain_byte, IsPlain, IsPlainRow}
use Rattle.scenario_table.specs.declared.draft.FileRow.{FileRow}
use Rattle.scenario_reader.proofs.DigitValues.{own}

-- ---- words

name_byte : (b : ℕ) → is_name_byte b ≡ true → is_plain_byte b ≡ true
name_byte b is = grind (arith, nat_tests)

digit_byte : (b : ℕ) → is_ascii_digit b ≡ true → is_plain_byte b ≡ true
digit_byte b is = grind (arith, nat_tests)

plain_by : (p : ℕ → Bool) → ((b : ℕ) → p b ≡ true → is_plain_byte b ≡ true) → (bytes : List ℕ) → list_all p bytes ≡ true → IsPlain bytes
plain_by p each [] all = refl
plain_by p each (b ∷ bs) all =
    let (here, more) = and_parts (p b) (list_all p bs) all in
    and_from (is_plain_byte b) (list_all is_plain_byte bs) (each b here) (plain_by p each bs more)

plain_digits : (ds : List ℕ) → all_ascii_digits ds ≡ true → IsPlain ds
plain_digits [] all = refl
plain_digits (d ∷ ds) all =
    let (here, more) = and_parts (is_ascii_digit d) (all_ascii_digits ds) all in
    and_from (is_plain_byte d) (list_all is_plain_byte ds) (digit_byte d here) (plain_digits ds more)

plain_name : (bytes : List ℕ) → list_all is_name_byte bytes ≡ true → IsPlain bytes
plain_name bytes all = plain_by is_name_byte name_byte bytes all

plain_decimal : (n : ℕ) → n < 2 ^ 64 → IsPlain (decimal n)
plain_decimal n small = plain_digits (decimal n) (digits_decimal own n small)

plain-append : (xs ys : List ℕ) → IsPlain xs → IsPlain ys → IsPlain (xs ++ ys)
plain-append xs ys a b = list_all-append is_plain_byte xs ys ∙ and_from (list_all is_plain_byte xs) (list_all is_plain_byte ys) a b

each_level : AllByRecursion (λ (l : Level). IsPlain (level_name l)) (map (λ (named : Level × List ℕ). named.0) named_levels)
each_level = (refl, (refl, (refl, (refl, (refl, (refl, (refl, (refl, (refl, (refl, (refl, (refl, (refl, (refl, (refl, (refl, tt))))))))))))))))

plain_level : (level : Level) → IsLevel level → IsPlain (level_name level)
plain_level level is =
    All-contains (λ (l : Level). IsPlain (level_name l)) (map (λ (named : Level × List ℕ). named.0) named_levels) level
    (All-from_recursion (λ (l : Level). IsPlain (level_name l)) (map (λ (named : Level × List ℕ). named.0) named_levels) each_level) is

plain_kind : (kind : JobKind) → IsPlain (name_of kind)
plain_kind FlexProtect = refl
plain_kind AutoBalance = refl
plain_kind SetProtectPlus = refl
plain_kind Collect = refl
plain_kind MultiScan = refl
plain_kind Upgrade = refl
plain_kind IntegrityScan = refl
plain_kind MediaScan = refl
plain_kind SmartPools = refl
plain_kind SyncCopy = refl

plain_order : (order : DriveOrder) → IsPlain (order_word order)
plain_order Fail = refl
plain_order Down = refl
plain_order Up = refl

plain_job_word : (order : JobOrder) → IsPlain (job_word order)
plain_job_word Pause = refl
plain_job_word Resume = refl
plain_job_word Cancel = refl

-- ---- operations

plain_payload : (payload : Payload) → FitsPayload payload → IsPlain (payload_text payload)
plain_payload (Text text) fits = plain-append (codes "text:") text refl fits.all
plain_payload (Fill start len) fits =
    let (low, some, few) = fits in
    plain-append (codes "fill:") (decimal start ++ 58 ∷ decimal len) refl
    (plain-append (decimal start) (58 ∷ decimal len) (plain_decimal start (omega (arith, low))) (plain_decimal len (omega (arith, few))))

plain_job : (job : List ℕ) (priority : Option ℕ) → IsJobName job → FitsPriority priority → IsPlain (job_text job priority)
plain_job job None name fits = plain_name job name.all
plain_job job (Some priority) name fits =
    let few = fits.1 in
    plain-append job (32 ∷ decimal priority) (plain_name job name.all) (plain_decimal priority (omega (arith, few)))

plain_fields : (op : NamedOp) → FitsOp op → IsPlain (fields_of op)
plain_fields (OnFile file Create) fits = plain_name file fits.all
plain_fields (OnFile file Delete) fits = plain_name file fits.all
plain_fields (OnFile file (Write offset payload)) fits =
    let (name, low, fit) = fits in
    plain-append file (32 ∷ (decimal offset ++ 32 ∷ payload_text payload)) (plain_name file name.all)
    (plain-append (decimal offset) (32 ∷ payload_text payload) (plain_decimal offset (omega (arith, low))) (plain_payload payload fit))
plain_fields (OnFile file (Read offset len)) fits =
    let (name, low, few) = fits in
    plain-append file (32 ∷ (decimal offset ++ 32 ∷ decimal len)) (plain_name file name.all)
    (plain-append (decimal offset) (32 ∷ decimal len) (plain_decimal offset (omega (arith, low))) (plain_decimal len (omega (arith, few))))
plain_fields (OnFile file (SetLevel level)) fits = plain-append file (32 ∷ level_name level) (plain_name file fits.0.all) (plain_level level fits.1)
plain_fields (OnDrive order node drive) fits =
    plain-append node (47 ∷ drive) (plain_by is_ascii_digit digit_byte node fits.0.all) (plain_by is_ascii_digit digit_byte drive fits.1.all)
plain_fields (FailNode node) fits = plain_by is_ascii_digit digit_byte node fits.all
plain_fields (Start kind job priority) fits =
    plain-append (name_of kind) (32 ∷ (codes "as " ++ job_text job priority)) (plain_kind kind)
    (plain-append (codes " as ") (job_text job priority) refl (plain_job job priority fits.0 fits.1))
plain_fields (OnJob order job) fits = plain_name job fits.all
plain_fields (Work steps) fits = let few = fits.1 in plain_decimal steps (omega (arith, few))
plain_fields Drain fits = refl
plain_fields RestartEngine fits = refl

plain_word : (op : NamedOp) → IsPlain (word_of op)
plain_word (OnFile file Create) = refl
plain_word (OnFile file Delete) = refl
plain_word (OnFile file (Write offset payload)) = refl
plain_word (OnFile file (Read offset len)) = refl
plain_word (OnFile file (SetLevel level)) = refl
plain_word (OnDrive order node drive) = plain_order order
plain_word (FailNode node) = refl
plain_word (Start kind job priority) = refl
plain_word (OnJob order job) = plain_job_word order
plain_word (Work steps) = refl
plain_word Drain = refl
plain_word RestartEngine = refl

plain_joined : (word fields : List ℕ) (more : Bool) → IsPlain word → IsPlain fields → IsPlain (joined word fields more)
plain_joined word fields true a b = plain-append word (32 ∷ fields) a b
plain_joined word fields false a b = a

plain_op : (op : NamedOp) → FitsOp op → IsPlain (named_text op)
plain_op op fits = plain_joined (word_of op) (fields_of op) (has_fields op) (plain_word op) (plain_fields op fits)

-- ---- tables

record Scripted (texts : List (List ℕ)) (ps : List (Place × List ℕ)) : Type 0 where
  plain : AllByRecursion IsPlain texts
  rest : List PlacedOp
  are : AreOps ps rest

scripted : (texts : List (List ℕ)) (actor number : ℕ) (ps : List (Place × List ℕ)) (ops : List PlacedOp) → AreOps (script_places texts actor number ++ ps) ops → Scripted texts ps
scripted [] actor number ps ops are = record { plain = tt; rest = ops; are = are }
scripted (t ∷ ts) actor number ps [] are = absurd are
scripted (t ∷ ts) actor number ps (x ∷ xs) are =
    let more = scripted ts actor (number + 1) ps xs are.1 in
    let spelled = are.0.1.spells in
    record { plain = (subst IsPlain (sym spelled.is) (plain_op x.what spelled.fits), more.plain); rest = more.rest; are = more.are }

pub plain_actors : (actors : List (List (List ℕ))) (actor : ℕ) (ops : List PlacedOp) → AreOps (all_places actors actor) ops → AllByRecursion (AllByRecursion IsPlain) actors
plain_actors [] actor ops are = tt
plain_actors (texts ∷ more) actor ops are =
    let first = scripted texts actor 1 (all_places more (actor + 1)) ops are in
    (first.plain, plain_actors more (actor + 1) first.rest first.are)

plain_unless : (bytes : List ℕ) → ((IsName bytes → ⊥) → ⊥) → IsPlain bytes
plain_unless bytes named = elim (cases_Bool (list_all is_name_byte bytes)) [
  | inl all ↦ plain_name bytes all
  | inr other ↦ absurd (named (λ name. absurd (cc (sym name.all ∙ other))))
]

pub plain_rows : (rows : List FileRow) (before : List (List ℕ)) (files : List FileDecl) → ((AreNewRows rows before → ⊥) → ⊥) → AreFilesOf rows files → AllByRecursion IsPlainRow rows
plain_rows [] before files new are = tt
plain_rows (r ∷ rs) before [] new are = absurd are
plain_rows (r ∷ rs) before (f ∷ fs) new are = (
  record {
    name = plain_unless r.name (λ never. new (λ all. never all.0.name));
    level = subst IsPlain are.0.named (plain_level f.level are.0.level);
  },
  plain_rows rs (r.name ∷ before) fs (λ never. new (λ all. never all.1)) are.1,
)
