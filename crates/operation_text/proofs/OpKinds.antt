-- The kinds of operations.
use Rattle.std.proofs.Common.{codes, ◌≡◌, ◌≤◌, ℕ, ◌∷◌, ◌++◌, List, Bool, true, false, Option, Some, None, Result, Ok, Err, refl, sym, ap, ◌∙◌, subst, arith}
use Rattle.std.specs.Fmt.{decimal}
use Rattle.std.specs.Result.{IsErrAnd}
use Rattle.job_rules.specs.Kinds.{name_of}
use Rattle.job_rules.specs.declared.kind.JobKind.{JobKind}
use Rattle.job_rules.specs.declared.kind.JobKind.TheVariants.{FlexProtect, AutoBalance, SetProtectPlus, Collect, MultiScan, Upgrade, IntegrityScan, MediaScan, SmartPools, SyncCopy}
use Rattle.scenario.specs.Words.{IsName}
use Rattle.operation_text.specs.Answers.{Answers}
use Rattle.operation_text.specs.Fields.{verb_word, IsOpAt, AnswersAt}
use Rattle.operation_text.specs.LoneOps.{IsLone}
use Rattle.operation_text.specs.NamedOps.{word_of, fields_of, has_fields, joined, job_text, FitsOp, FitsPriority, SpellsOp}
use Rattle.operation_text.specs.Words.{IsJobName, IsNumberText, lacks}
use Rattle.operation_text.specs.declared.named_op.DriveOrder.TheVariants.{Fail, Down, Up}
use Rattle.operation_text.specs.declared.named_op.FileAction.TheVariants as action
use Rattle.operation_text.specs.declared.named_op.JobOrder.TheVariants.{Pause, Resume, Cancel}
use Rattle.operation_text.specs.declared.named_op.NamedOp.{NamedOp}
use Rattle.operation_text.specs.declared.named_op.NamedOp.TheVariants as op
use Rattle.operation_text.specs.declared.named_op.Payload.{Payload}
use Rattle.operation_text.specs.declared.named_op.Payload.TheVariants.{Text, Fill}
use Rattle.operation_text.specs.declared.reading.OpFault.{OpFault}
use Rattle.operation_text.specs.declared.reading.OpFault.TheVariants.{NotAnOp, NoMemory}
use Rattle.operation_text.specs.declared.verb.Verb.{Verb}
use Rattle.operation_text.specs.declared.verb.Verb.TheVariants.{Create, Delete, Write, Read, Level, Drive, FailNode, Start, Job, Work}
use Rattle.operation_text.proofs.MarkedTexts.{not_cut}

-- the operation has this word, and these fields after it
abbrev pub IsOfWord : List ℕ → List ℕ → NamedOp → Type 0
IsOfWord word fields o = (word_of o ≡ word) × (fields_of o ≡ fields) × (has_fields o ≡ true) × FitsOp o

-- what is read of a word's fields is an operation of the word
pub found_op : (verb : Verb) (word fields : List ℕ) (o : NamedOp) → verb_word verb ≡ word → IsOpAt verb fields o → IsOfWord word fields o
found_op Create word fields o w (name, is) = subst (λ (x : NamedOp). IsOfWord word fields x) (sym is) (w, refl, refl, name)
found_op Delete word fields o w (name, is) = subst (λ (x : NamedOp). IsOfWord word fields x) (sym is) (w, refl, refl, name)
found_op Write word fields o w (file, offset, payload, are, is) =
    subst (λ (x : NamedOp). IsOfWord word fields x) (sym is) (w, sym are.are, refl, (are.name, are.within, are.fits))
found_op Read word fields o w (file, offset, len, are, is) =
    subst (λ (x : NamedOp). IsOfWord word fields x) (sym is) (w, sym are.are, refl, (are.name, are.within, are.short))
found_op Level word fields o w (file, level, are, is) =
    subst (λ (x : NamedOp). IsOfWord word fields x) (sym is) (w, sym are.are, refl, (are.name, are.is_level))
found_op (Drive order) word fields o w (node, drive, are, is) =
    subst (λ (x : NamedOp). IsOfWord word fields x) (sym is) (w, sym are.are, refl, (are.is_node, are.is_drive))
found_op FailNode word fields o w (number, is) = subst (λ (x : NamedOp). IsOfWord word fields x) (sym is) (w, refl, refl, number)
found_op Start word fields o w (kind, job, priority, are, is) =
    subst (λ (x : NamedOp). IsOfWord word fields x) (sym is) (w, sym are.are, refl, (are.name, are.fits))
found_op (Job order) word fields o w (name, is) = subst (λ (x : NamedOp). IsOfWord word fields x) (sym is) (w, refl, refl, name)
found_op Work word fields o w (steps, are, is) =
    subst (λ (x : NamedOp). IsOfWord word fields x) (sym is) (w, sym are.are, refl, (are.some, are.few))

-- the verb of an operation with fields
abbrev verb_at : NamedOp → Verb
verb_at (op.OnFile file action.Create) = Create
verb_at (op.OnFile file action.Delete) = Delete
verb_at (op.OnFile file (action.Write offset payload)) = Write
verb_at (op.OnFile file (action.Read offset len)) = Read
verb_at (op.OnFile file (action.SetLevel level)) = Level
verb_at (op.OnDrive order node drive) = Drive order
verb_at (op.FailNode node) = FailNode
verb_at (op.Start kind job priority) = Start
verb_at (op.OnJob order job) = Job order
verb_at (op.Work steps) = Work
verb_at op.Drain = Work
verb_at op.RestartEngine = Work

verb_at-word : (o : NamedOp) → has_fields o ≡ true → verb_word (verb_at o) ≡ word_of o
verb_at-word (op.OnFile file action.Create) has = refl
verb_at-word (op.OnFile file action.Delete) has = refl
verb_at-word (op.OnFile file (action.Write offset payload)) has = refl
verb_at-word (op.OnFile file (action.Read offset len)) has = refl
verb_at-word (op.OnFile file (action.SetLevel level)) has = refl
verb_at-word (op.OnDrive order node drive) has = refl
verb_at-word (op.FailNode node) has = refl
verb_at-word (op.Start kind job priority) has = refl
verb_at-word (op.OnJob order job) has = refl
verb_at-word (op.Work steps) has = refl
verb_at-word op.Drain has = absurd cc
verb_at-word op.RestartEngine has = absurd cc

answered : (fields : List ℕ) (r : Result NamedOp OpFault) (o : NamedOp) → AnswersAt (verb_at o) fields r → FitsOp o → has_fields o ≡ true → fields_of o ≡ fields → Answers r o
answered fields r (op.OnFile file action.Create) at fits has is =
    subst (λ (f : List ℕ). IsName f → Answers r (op.OnFile f action.Create)) (sym is) at fits
answered fields r (op.OnFile file action.Delete) at fits has is =
    subst (λ (f : List ℕ). IsName f → Answers r (op.OnFile f action.Delete)) (sym is) at fits
answered fields r (op.OnFile file (action.Write offset payload)) at fits has is =
    at file offset payload (record { name = fits.0; within = fits.1; fits = fits.2; are = sym is })
answered fields r (op.OnFile file (action.Read offset len)) at fits has is =
    at file offset len (record { name = fits.0; within = fits.1; short = fits.2; are = sym is })
answered fields r (op.OnFile file (action.SetLevel level)) at fits has is =
    at file level (record { name = fits.0; is_level = fits.1; are = sym is })
answered fields r (op.OnDrive order node drive) at fits has is =
    at node drive (record { is_node = fits.0; is_drive = fits.1; are = sym is })
answered fields r (op.FailNode node) at fits has is = subst (λ (f : List ℕ). IsNumberText f → Answers r (op.FailNode f)) (sym is) at fits
answered fields r (op.Start kind job priority) at fits has is =
    at kind job priority (record { name = fits.0; fits = fits.1; are = sym is })
answered fields r (op.OnJob order job) at fits has is = subst (λ (f : List ℕ). IsJobName f → Answers r (op.OnJob order f)) (sym is) at fits
answered fields r (op.Work steps) at fits has is = at steps (record { some = fits.0; few = fits.1; are = sym is })
answered fields r op.Drain at fits has is = absurd cc
answered fields r op.RestartEngine at fits has is = absurd cc

pub some_same : {X : Type 0} (x y : X) → Some x ≡ Some y → x ≡ y
some_same x y same = cc

pub none_some : {X : Type 0} (x : X) → None ≡ Some x → ⊥
none_some x same = cc

-- an operation of the word is the answer at its verb
pub only_op : (word fields : List ℕ) (verb : Verb) (r : Result NamedOp OpFault) → ((v : Verb) → verb_word v ≡ word → Some verb ≡ Some v) → AnswersAt verb fields r
    → (o : NamedOp) → FitsOp o → has_fields o ≡ true → word_of o ≡ word → fields_of o ≡ fields → Answers r o
only_op word fields verb r only at o fits has w is =
    let same : verb ≡ verb_at o = some_same verb (verb_at o) (only (verb_at o) (verb_at-word o has ∙ w)) in
    answered fields r o (subst (λ (v : Verb). AnswersAt v fields r) same at) fits has is

-- a word of no verb begins no operation with fields
pub no_verb : (word : List ℕ) → ((v : Verb) → verb_word v ≡ word → None ≡ Some v) → (o : NamedOp) → has_fields o ≡ true → word_of o ≡ word → ⊥
no_verb word none o has w = none_some (verb_at o) (none (verb_at o) (verb_at-word o has ∙ w))

word_lacks : (o : NamedOp) → lacks 32 (word_of o) ≡ true
word_lacks (op.OnFile file action.Create) = refl
word_lacks (op.OnFile file action.Delete) = refl
word_lacks (op.OnFile file (action.Write offset payload)) = refl
word_lacks (op.OnFile file (action.Read offset len)) = refl
word_lacks (op.OnFile file (action.SetLevel level)) = refl
word_lacks (op.OnDrive Fail node drive) = refl
word_lacks (op.OnDrive Down node drive) = refl
word_lacks (op.OnDrive Up node drive) = refl
word_lacks (op.FailNode node) = refl
word_lacks (op.Start kind job priority) = refl
word_lacks (op.OnJob Pause job) = refl
word_lacks (op.OnJob Resume job) = refl
word_lacks (op.OnJob Cancel job) = refl
word_lacks (op.Work steps) = refl
word_lacks op.Drain = refl
word_lacks op.RestartEngine = refl

-- a text of a word and its fields spells the operation
pub spelled : (text word fields : List ℕ) (o : NamedOp) → text ≡ word ++ 32 ∷ fields → IsOfWord word fields o → SpellsOp text o
spelled text word fields o cut (w, is, has, fits) = record {
  is =
      cut ∙ sym (ap (λ (b : Bool). joined (word_of o) (fields_of o) b) has
      ∙ (ap (λ (x : List ℕ). x ++ 32 ∷ fields_of o) w ∙ ap (λ (x : List ℕ). word ++ 32 ∷ x) is));
  fits = fits;
}

-- a text of one word spells the operation
pub lone_spelled : (text : List ℕ) (o : NamedOp) → IsLone o → word_of o ≡ text → SpellsOp text o
lone_spelled text op.Drain lone w = record { is = sym w; fits = tt }
lone_spelled text op.RestartEngine lone w = record { is = sym w; fits = tt }
lone_spelled text (op.OnFile file act) lone w = absurd lone
lone_spelled text (op.OnDrive order node drive) lone w = absurd lone
lone_spelled text (op.FailNode node) lone w = absurd lone
lone_spelled text (op.Start kind job priority) lone w = absurd lone
lone_spelled text (op.OnJob order job) lone w = absurd lone
lone_spelled text (op.Work steps) lone w = absurd lone

is_lone : (o : NamedOp) → has_fields o ≡ false → IsLone o
is_lone op.Drain none = tt
is_lone op.RestartEngine none = tt
is_lone (op.OnFile file act) none = absurd cc
is_lone (op.OnDrive order node drive) none = absurd cc
is_lone (op.FailNode node) none = absurd cc
is_lone (op.Start kind job priority) none = absurd cc
is_lone (op.OnJob order job) none = absurd cc
is_lone (op.Work steps) none = absurd cc

by_fields : (P : Type 0) (text : List ℕ) (o : NamedOp) (b : Bool) → b ≡ has_fields o → text ≡ joined (word_of o) (fields_of o) b
    → (has_fields o ≡ true → text ≡ word_of o ++ 32 ∷ fields_of o → P) → (has_fields o ≡ false → text ≡ word_of o → P) → P
by_fields P text o true has is with_fields alone = with_fields (sym has) is
by_fields P text o false has is with_fields alone = alone (sym has) is

-- what a text with a space spells
pub only_spaced : (text word fields : List ℕ) (r : Result NamedOp OpFault) → text ≡ word ++ 32 ∷ fields
    → ((w f : List ℕ) → lacks 32 w ≡ true → text ≡ w ++ 32 ∷ f → (word ≡ w) × (fields ≡ f))
    → ((o : NamedOp) → FitsOp o → has_fields o ≡ true → word_of o ≡ word → fields_of o ≡ fields → Answers r o)
    → (o : NamedOp) → SpellsOp text o → Answers r o
only_spaced text word fields r cut first only o spells =
    by_fields (Answers r o) text o (has_fields o) refl spells.is
    (λ has is.
    let parts = first (word_of o) (fields_of o) (word_lacks o) is in
    only o spells.fits has (sym parts.0) (sym parts.1))
    (λ none is. absurd (not_cut 32 (word_of o) word fields (word_lacks o) (sym is ∙ cut)))

-- what a text without a space spells
pub only_lone : (text : List ℕ) (r : Result NamedOp OpFault) → ((w f : List ℕ) → lacks 32 w ≡ true → text ≡ w ++ 32 ∷ f → ⊥)
    → ((o : NamedOp) → IsLone o → word_of o ≡ text → Answers r o) → (o : NamedOp) → SpellsOp text o → Answers r o
only_lone text r uncut only o spells =
    by_fields (Answers r o) text o (has_fields o) refl spells.is
    (λ has is. absurd (uncut (word_of o) (fields_of o) (word_lacks o) is))
    (λ none is. only o (is_lone o none) (sym is))

still : {T U : Type 0} (e : OpFault) (x : T) (y : U) → Answers {T = T} (Err e) x → Answers {T = U} (Err e) y
still NotAnOp x y part = absurd part
still NoMemory x y part = tt

-- what failed in a part failed in the whole
pub fails_too : {T U : Type 0} (r : Result U OpFault) (e : OpFault) (x : T) (y : U) → IsErrAnd r (λ f. f ≡ e) → Answers {T = T} (Err e) x → Answers r y
fails_too (Ok z) e x y failed part = absurd failed
fails_too {T = T} (Err f) e x y failed part = still f x y (subst (λ (g : OpFault). Answers {T = T} (Err g) x) (sym failed) part)

pub payload_by_kind : (P : Payload → Type 0) → ((text : List ℕ) → P (Text text)) → ((start len : ℕ) → P (Fill start len)) → (p : Payload) → P p
payload_by_kind P text fill (Text bytes) = text bytes
payload_by_kind P text fill (Fill start len) = fill start len

pub lacks-kind : (kind : JobKind) → lacks 32 (name_of kind) ≡ true
lacks-kind FlexProtect = refl
lacks-kind AutoBalance = refl
lacks-kind SetProtectPlus = refl
lacks-kind Collect = refl
lacks-kind MultiScan = refl
lacks-kind Upgrade = refl
lacks-kind IntegrityScan = refl
lacks-kind MediaScan = refl
lacks-kind SmartPools = refl
lacks-kind SyncCopy = refl

-- the job's name and its priority, in a text with a space
pub job_spaced : (P : Type 0) (text name digits : List ℕ) → text ≡ name ++ 32 ∷ digits → (job : List ℕ) (priority : Option ℕ)
    → ((w r : List ℕ) → lacks 32 w ≡ true → text ≡ w ++ 32 ∷ r → (name ≡ w) × (digits ≡ r)) → lacks 32 job ≡ true → FitsPriority priority → text ≡ job_text job priority
    → ((n : ℕ) → priority ≡ Some n → 1 ≤ n → n ≤ 10 → name ≡ job → digits ≡ decimal n → P) → P
job_spaced P text name digits cut job None first free fits is then = absurd (not_cut 32 job name digits free (sym is ∙ cut))
job_spaced P text name digits cut job (Some n) first free fits is then =
    let parts = first job (decimal n) free is in
    then n refl fits.0 fits.1 parts.0 parts.1

pub job_alone : (text job : List ℕ) (priority : Option ℕ) → ((w r : List ℕ) → lacks 32 w ≡ true → text ≡ w ++ 32 ∷ r → ⊥) → lacks 32 job ≡ true
    → text ≡ job_text job priority → (text ≡ job) × (None ≡ priority)
job_alone text job None uncut free is = (is, refl)
job_alone text job (Some n) uncut free is = absurd (uncut job (decimal n) free is)

same_head : (x y : ℕ) (xs ys : List ℕ) → x ∷ xs ≡ y ∷ ys → x ≡ y
same_head x y xs ys is = cc

-- a payload is not of both kinds
pub text_or_fill : (text rest : List ℕ) → codes "text:" ++ text ≡ codes "fill:" ++ rest → ⊥
text_or_fill text rest is = let same = same_head _ _ _ _ is in omega (arith, same)
