-- The definitions on the first scenario: two nodes of one drive, and a mirrored file that is created, written and read.
use Rattle.std.proofs.Common.{codes, ◌≡◌, ℕ, List, [], ◌∷◌, get_or, refl, sym, ap, subst, arith, rules}
use Rattle.domains.specs.Place.{Place}
use Rattle.domains.specs.Level.{two_copies}
use Rattle.domains.specs.declared.group.Group.{Group}
use Rattle.file_history.specs.declared.entry.FileEvent.{FileEvent}
use Rattle.file_history.specs.declared.entry.FileEvent.TheVariants.{Created, Written, Shown}
use Rattle.file_history.specs.declared.entry.FileEntry.{FileEntry}
use Rattle.operation_text.specs.declared.named_op.FileAction.TheVariants as action
use Rattle.operation_text.specs.declared.named_op.Payload.TheVariants.{Text}
use Rattle.scenario.specs.declared.scenario.FileDecl.{FileDecl}
use Rattle.whole_scenario.specs.declared.op.Op.{Op}
use Rattle.whole_scenario.specs.declared.op.Op.TheVariants.{OnFile}
use Rattle.whole_scenario.specs.declared.whole.Scenario.{Scenario}
use Rattle.legal_runs.specs.Entries.{IsLegalEntry, IsBrokenEntry}
use Rattle.legal_runs.specs.Operations.{IsOnFile}

abbrev declared_file : FileDecl
declared_file = record { name = codes "a"; level = two_copies }

abbrev scenario : Scenario
scenario = record {
  shape = record { nodes = 2; drives = 1; slots = 16; unit = 8 };
  workers = 1;
  files = declared_file ∷ [];
  jobs = [];
  actors = (OnFile 0 action.Create ∷ OnFile 0 (action.Write 0 (Text (codes "hello"))) ∷ OnFile 0 (action.Read 0 5) ∷ []) ∷ [];
}

abbrev placed : ℕ → ℕ → Place
placed node slot = record { drive = record { node = node; drive = 1 }; slot = slot }

abbrev mirror : ℕ → Place → Place → Group
mirror generation a b = record { generation = generation; n = 1; m = 1; places = a ∷ b ∷ [] }

abbrev entry : ℕ → FileEvent → FileEntry
entry call event = record { by = record { actor = 1; call = call }; epoch = 0; event = event }

abbrev created : FileEntry
created = entry 1 (Created (mirror 0 (placed 1 0) (placed 2 0)))

abbrev written : FileEntry
written = entry 2 (Written 0 5 5 (record { old = []; new = mirror 1 (placed 2 1) (placed 1 1) ∷ []; inode = mirror 2 (placed 1 2) (placed 2 2) }))

-- each entry is legal after those before it
first : IsLegalEntry scenario [] declared_file 0 [] created
first = record { step = search rules; fits = record { operation = OnFile 0 action.Create; known = refl; answers = (refl, refl) } }

second : IsLegalEntry scenario [] declared_file 0 (created ∷ []) written
second = record {
  step = record {
    reached = search rules;
    later = search rules;
    event = (
      refl,
      search rules,
      record {
        present = refl;
        width = 1;
        may = search rules;
        old = refl;
        chunks = search rules;
        level = search rules;
        inode = search rules;
        numbers = search rules;
        places = search rules;
        groups = search rules;
        new_size = refl;
      },
    );
    shown = search rules;
  };
  fits = record { operation = OnFile 0 (action.Write 0 (Text (codes "hello"))); known = refl; answers = (refl, (refl, refl)) };
}

third : IsLegalEntry scenario [] declared_file 0 (created ∷ written ∷ []) (entry 3 (Shown 0 5 (codes "hello")))
third = record { step = search rules; fits = record { operation = OnFile 0 (action.Read 0 5); known = refl; answers = (refl, refl) } }

-- a read that shows other bytes is not, and so the third entry is broken
other_bytes : IsBrokenEntry scenario [] declared_file 0 (created ∷ written ∷ entry 3 (Shown 0 5 (codes "hellp")) ∷ []) 3
other_bytes = (
  2,
  refl,
  entry 3 (Shown 0 5 (codes "hellp")),
  refl,
  λ legal.
      let shown : codes "hellp" ≡ codes "hello" = legal.step.shown tt in
      let last : 112 ≡ 111 = ap (λ (l : List ℕ). get_or l 4 0) shown in
      absurd (omega (arith, last)),
)

-- an entry that names another length than its operation does not fit
other_length : IsLegalEntry scenario [] declared_file 0 (created ∷ written ∷ []) (entry 3 (Shown 0 4 (codes "hell"))) → ⊥
other_length legal =
    let fits = legal.fits in
    let same : OnFile 0 (action.Read 0 5) ≡ fits.operation = cc (fits.known) in
    let answers = subst (λ (o : Op). IsOnFile 0 o (Shown 0 4 (codes "hell"))) (sym same) fits.answers in
    let read : action.Read 0 5 ≡ action.Read 0 4 = answers.1 in
    absurd (cc read)
