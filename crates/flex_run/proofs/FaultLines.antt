-- Which line and which status a run ends with.
use Rattle.std.proofs.Common.{◌≡◌, ◌≢◌, ◌∙◌, ℕ, List, true, false, Contains, Option, None, Some, IfSome, Result, Ok, Err, length, ap, ◌≤◌, ◌⊎◌, inl, inr, refl, sym, subst, arith}
use Rattle.std.specs.Io.KnownBytes.{Appends}
use Rattle.std.specs.List.{AllByRecursion}
use Rattle.std.specs.Result.{IsErrAnd}
use Rattle.flex_io.specs.Inputs.{AppendsFront}
use Rattle.flex_run.specs.RackStates.{RackState}
use Rattle.flex_run.specs.RefusedSources.{IsPlayable, refusal_line}
use Rattle.flex_run.specs.RunReport.{all_fault_lines, fault_lines, IsOrUnwritten, IsRefusalStatus, IsRefusalLine, IsReport, RanLegally, TookPrefix, TookRefusal}
use Rattle.flex_run.specs.Stops.{HasCauseIn, IsRunResult, IsTextRefusal, IsTextStop, line_of, status_of, is_early, is_refusal}
use Rattle.flex_run.specs.declared.stop.RunStop.{RunStop}
use Rattle.flex_run.specs.declared.stop.RunStop.TheVariants.{Words, Read, Long, Scenario, Rack, Memory}

-- what follows of the bytes, where they are told
pub where_told : {A : Type 0} (o : Option A) (P Q : A → Type 0) → ((x : A) → P x → Q x) → IfSome o P → IfSome o Q
where_told None P Q f holds = tt
where_told (Some x) P Q f holds = f x holds

-- the lines that tell nothing of the source are lines of faults
memory_told : Contains all_fault_lines (line_of Memory)
memory_told = (0, omega arith, refl)

words_told : Contains all_fault_lines (line_of Words)
words_told = (1, omega arith, refl)

read_told : Contains all_fault_lines (line_of Read)
read_told = (2, omega arith, refl)

long_told : Contains all_fault_lines (line_of Long)
long_told = (3, omega arith, refl)

rack_told : Contains all_fault_lines (line_of Rack)
rack_told = (4, omega arith, refl)

module _ (input : Option (List ℕ)) (before now : RackState) (b t : Option (List ℕ)) where
  -- a line of faults, or that of memory
  with_memory : (line : List ℕ) → Contains all_fault_lines line → AppendsFront b t line ⊎ AppendsFront b t (line_of Memory) → TookPrefix input before now b t
  with_memory line told which =
      elim which [
        | inl own ↦ record { text = line; kind = inl told; prefix = own }
        | inr memory ↦ record { text = line_of Memory; kind = inl memory_told; prefix = memory }
      ]

  -- what a stop wrote is a prefix of a line
  pub stop_prefix : (stop : RunStop) → IfSome input (λ i. HasCauseIn i stop)
      → AppendsFront b t (line_of stop) ⊎ AppendsFront b t (line_of Memory) → TookPrefix input before now b t
  stop_prefix Words cause which = with_memory (line_of Words) words_told which
  stop_prefix Read cause which = with_memory (line_of Read) read_told which
  stop_prefix Long cause which = with_memory (line_of Long) long_told which
  stop_prefix Rack cause which = with_memory (line_of Rack) rack_told which
  stop_prefix Memory cause which = with_memory (line_of Memory) memory_told which
  stop_prefix (Scenario bad) cause which =
      elim which [
        | inl own ↦ record { text = refusal_line bad; kind = inr (inl (record { bad = bad; is = refl; cause = cause })); prefix = own }
        | inr memory ↦ record { text = line_of Memory; kind = inl memory_told; prefix = memory }
      ]

-- the status is not that of a row
not_row : (status n row : ℕ) → IsOrUnwritten status n → n ≡ row → status ≢ row → 5 ≢ row → 6 ≢ row → ⊥
not_row status n row which is other five six =
    elim which [ inl same ↦ other (sym same ∙ is) | inr rest ↦ elim rest [ inl same ↦ five (sym same ∙ is) | inr same ↦ six (sym same ∙ is) ] ]

-- the status is that of a row, and its line was written
own_row : (n row : ℕ) (b t : Option (List ℕ)) (line : List ℕ) → (n ≢ 5 → n ≢ 6 → Appends b t line) → row ≢ 5 → row ≢ 6 → n ≡ row → Appends b t line
own_row n row b t line written five six is = written (λ h. five (sym is ∙ h)) (λ h. six (sym is ∙ h))

-- each status of a row comes with its line
pub rows_told : (stop : RunStop) (n : ℕ) (b t : Option (List ℕ)) → IsOrUnwritten (status_of stop) n
    → (n ≢ 5 → n ≢ 6 → Appends b t (line_of stop)) → AllByRecursion (λ (row : ℕ × List ℕ). n ≡ row.0 → Appends b t row.1) fault_lines
rows_told Words n b t which written = (
  λ is. own_row n 2 b t (line_of Words) written (λ h. omega (arith, h)) (λ h. omega (arith, h)) is,
  (
    λ is. absurd (not_row 2 n 4 which is (λ h. omega (arith, h)) (λ h. omega (arith, h)) (λ h. omega (arith, h))),
    (
      λ is. absurd (not_row 2 n 7 which is (λ h. omega (arith, h)) (λ h. omega (arith, h)) (λ h. omega (arith, h))),
      (
        λ is. absurd (not_row 2 n 8 which is (λ h. omega (arith, h)) (λ h. omega (arith, h)) (λ h. omega (arith, h))),
        tt,
      ),
    ),
  ),
)
rows_told (Scenario bad) n b t which written = (
  λ is. absurd (not_row 3 n 2 which is (λ h. omega (arith, h)) (λ h. omega (arith, h)) (λ h. omega (arith, h))),
  (
    λ is. absurd (not_row 3 n 4 which is (λ h. omega (arith, h)) (λ h. omega (arith, h)) (λ h. omega (arith, h))),
    (
      λ is. absurd (not_row 3 n 7 which is (λ h. omega (arith, h)) (λ h. omega (arith, h)) (λ h. omega (arith, h))),
      (
        λ is. absurd (not_row 3 n 8 which is (λ h. omega (arith, h)) (λ h. omega (arith, h)) (λ h. omega (arith, h))),
        tt,
      ),
    ),
  ),
)
rows_told Read n b t which written = (
  λ is. absurd (not_row 4 n 2 which is (λ h. omega (arith, h)) (λ h. omega (arith, h)) (λ h. omega (arith, h))),
  (
    λ is. own_row n 4 b t (line_of Read) written (λ h. omega (arith, h)) (λ h. omega (arith, h)) is,
    (
      λ is. absurd (not_row 4 n 7 which is (λ h. omega (arith, h)) (λ h. omega (arith, h)) (λ h. omega (arith, h))),
      (
        λ is. absurd (not_row 4 n 8 which is (λ h. omega (arith, h)) (λ h. omega (arith, h)) (λ h. omega (arith, h))),
        tt,
      ),
    ),
  ),
)
rows_told Memory n b t which written = (
  λ is. absurd (not_row 6 n 2 which is (λ h. omega (arith, h)) (λ h. omega (arith, h)) (λ h. omega (arith, h))),
  (
    λ is. absurd (not_row 6 n 4 which is (λ h. omega (arith, h)) (λ h. omega (arith, h)) (λ h. omega (arith, h))),
    (
      λ is. absurd (not_row 6 n 7 which is (λ h. omega (arith, h)) (λ h. omega (arith, h)) (λ h. omega (arith, h))),
      (
        λ is. absurd (not_row 6 n 8 which is (λ h. omega (arith, h)) (λ h. omega (arith, h)) (λ h. omega (arith, h))),
        tt,
      ),
    ),
  ),
)
rows_told Long n b t which written = (
  λ is. absurd (not_row 7 n 2 which is (λ h. omega (arith, h)) (λ h. omega (arith, h)) (λ h. omega (arith, h))),
  (
    λ is. absurd (not_row 7 n 4 which is (λ h. omega (arith, h)) (λ h. omega (arith, h)) (λ h. omega (arith, h))),
    (
      λ is. own_row n 7 b t (line_of Long) written (λ h. omega (arith, h)) (λ h. omega (arith, h)) is,
      (
        λ is. absurd (not_row 7 n 8 which is (λ h. omega (arith, h)) (λ h. omega (arith, h)) (λ h. omega (arith, h))),
        tt,
      ),
    ),
  ),
)
rows_told Rack n b t which written = (
  λ is. absurd (not_row 8 n 2 which is (λ h. omega (arith, h)) (λ h. omega (arith, h)) (λ h. omega (arith, h))),
  (
    λ is. absurd (not_row 8 n 4 which is (λ h. omega (arith, h)) (λ h. omega (arith, h)) (λ h. omega (arith, h))),
    (
      λ is. absurd (not_row 8 n 7 which is (λ h. omega (arith, h)) (λ h. omega (arith, h)) (λ h. omega (arith, h))),
      (
        λ is. own_row n 8 b t (line_of Rack) written (λ h. omega (arith, h)) (λ h. omega (arith, h)) is,
        tt,
      ),
    ),
  ),
)

-- status 3 comes with the line of a refusal
pub refusal_told : (stop : RunStop) (n : ℕ) (input b t : Option (List ℕ)) → IfSome input (λ i. HasCauseIn i stop) → IsOrUnwritten (status_of stop) n
    → (n ≢ 5 → n ≢ 6 → Appends b t (line_of stop)) → n ≡ 3 → TookRefusal input b t
refusal_told (Scenario bad) n input b t cause which written is = record {
  text = refusal_line bad;
  line = record { bad = bad; is = refl; cause = cause };
  taken = own_row n 3 b t (refusal_line bad) written (λ h. omega (arith, h)) (λ h. omega (arith, h)) is;
}
refusal_told Words n input b t cause which written is = absurd (not_row 2 n 3 which is (λ h. omega (arith, h)) (λ h. omega (arith, h)) (λ h. omega (arith, h)))
refusal_told Read n input b t cause which written is = absurd (not_row 4 n 3 which is (λ h. omega (arith, h)) (λ h. omega (arith, h)) (λ h. omega (arith, h)))
refusal_told Memory n input b t cause which written is = absurd (not_row 6 n 3 which is (λ h. omega (arith, h)) (λ h. omega (arith, h)) (λ h. omega (arith, h)))
refusal_told Long n input b t cause which written is = absurd (not_row 7 n 3 which is (λ h. omega (arith, h)) (λ h. omega (arith, h)) (λ h. omega (arith, h)))
refusal_told Rack n input b t cause which written is = absurd (not_row 8 n 3 which is (λ h. omega (arith, h)) (λ h. omega (arith, h)) (λ h. omega (arith, h)))

-- status 3 comes of a refusal alone
pub is_refused : (stop : RunStop) (n : ℕ) (P : Type 0) → (is_refusal stop ≡ true → P) → IsOrUnwritten (status_of stop) n → n ≡ 3 → P
is_refused (Scenario bad) n P told which is = told refl
is_refused Words n P told which is = absurd (not_row 2 n 3 which is (λ h. omega (arith, h)) (λ h. omega (arith, h)) (λ h. omega (arith, h)))
is_refused Read n P told which is = absurd (not_row 4 n 3 which is (λ h. omega (arith, h)) (λ h. omega (arith, h)) (λ h. omega (arith, h)))
is_refused Memory n P told which is = absurd (not_row 6 n 3 which is (λ h. omega (arith, h)) (λ h. omega (arith, h)) (λ h. omega (arith, h)))
is_refused Long n P told which is = absurd (not_row 7 n 3 which is (λ h. omega (arith, h)) (λ h. omega (arith, h)) (λ h. omega (arith, h)))
is_refused Rack n P told which is = absurd (not_row 8 n 3 which is (λ h. omega (arith, h)) (λ h. omega (arith, h)) (λ h. omega (arith, h)))

-- a refused text has the status of a refusal
pub refusal_status : {T : Type 0} (stop : RunStop) (n : ℕ) → IsTextRefusal {T = T} (Err stop) → IsOrUnwritten (status_of stop) n → (n ≡ 4) ⊎ IsOrUnwritten 3 n
refusal_status (Scenario bad) n refusal which = inr which
refusal_status Read n refusal which = elim which [ inl same ↦ inl same | inr rest ↦ inr (inr rest) ]
refusal_status Memory n refusal which = elim which [ inl same ↦ inr (inr (inr same)) | inr rest ↦ inr (inr rest) ]
refusal_status Words n refusal which = elim refusal [ inl is ↦ absurd cc | inr rest ↦ elim rest [ inl is ↦ absurd cc | inr is ↦ absurd cc ] ]
refusal_status Long n refusal which = elim refusal [ inl is ↦ absurd cc | inr rest ↦ elim rest [ inl is ↦ absurd cc | inr is ↦ absurd cc ] ]
refusal_status Rack n refusal which = elim refusal [ inl is ↦ absurd cc | inr rest ↦ elim rest [ inl is ↦ absurd cc | inr is ↦ absurd cc ] ]

-- what a stop wrote where it is known which
pub own_line : (stop known : RunStop) (b t : Option (List ℕ)) → stop ≡ known → AppendsFront b t (line_of known)
    → AppendsFront b t (line_of stop) ⊎ AppendsFront b t (line_of Memory)
own_line stop known b t is own = inl (subst (λ (s : RunStop). AppendsFront b t (line_of s)) (sym is) own)

pub written_line : (stop known : RunStop) (b t : Option (List ℕ)) (n : ℕ) → stop ≡ known → (n ≢ 5 → n ≢ 6 → Appends b t (line_of known))
    → n ≢ 5 → n ≢ 6 → Appends b t (line_of stop)
written_line stop known b t n is written five six = subst (λ (s : RunStop). Appends b t (line_of s)) (sym is) (written five six)

-- the text of a report was written
pub ran_told : (known : Type 0) (o b t : Option (List ℕ)) (text : List ℕ) (before now : RackState) (n : ℕ) → (n ≢ 5 → n ≢ 6 → Appends b t text) → n ≡ 0
    → IfSome o (λ i. IsReport known i text before now) → IfSome o (λ i. RanLegally known i b t before now)
ran_told known o b t text before now n written zero report =
    let taken : Appends b t text = written (λ h. omega (arith, h, zero)) (λ h. omega (arith, h, zero)) in
    where_told o (λ i. IsReport known i text before now) (λ i. RanLegally known i b t before now)
    (λ i r. record { logs = r.logs; run = r.run; taken = subst (λ (l : List ℕ). Appends b t l) r.prints taken; rack = r.rack }) report

is_memory : {T : Type 0} (r : Result T RunStop) (e : RunStop) → IsErrAnd r (λ f. f ≡ e) → e ≡ Memory → r ≡ Err Memory
is_memory (Ok x) e failed memory = absurd failed
is_memory {T = T} (Err f) e failed memory = ap (λ (x : RunStop). let made : Result T RunStop = Err x in made) (failed ∙ memory)

-- a text that may be played gives no scenario only where memory runs out
pub playable_stop : {T : Type 0} (r : Result T RunStop) (e : RunStop) (o : Option (List ℕ)) (A : Type 0) (shown bytes : List ℕ) → IsErrAnd r (λ f. f ≡ e) → IsTextStop e
    → (is_refusal e ≡ true → ¬ (IsPlayable shown)) → shown ≡ bytes → IfSome o (λ i. i ≡ bytes)
    → IfSome o (λ i. A → length i ≤ 1048576 → IsPlayable i → IsRunResult r)
playable_stop r e o A shown bytes failed stop unbuilt same whole =
    where_told o (λ i. i ≡ bytes) (λ i. A → length i ≤ 1048576 → IsPlayable i → IsRunResult r)
    (λ i is run short playable. elim stop [
      | inl refusal ↦ absurd (unbuilt refusal (subst (λ (x : List ℕ). IsPlayable x) (is ∙ sym same) playable))
      | inr memory ↦ inr (inr (inr (is_memory r e failed memory)))
    ])
    whole

-- a status that is none of those of a refused run
not_refused : (n : ℕ) → n ≢ 2 → n ≢ 3 → n ≢ 4 → n ≢ 7 → IsRefusalStatus n → ⊥
not_refused n two three four seven status =
    elim status [
      | inl is ↦ two is
      | inr others ↦ elim others [ inl is ↦ three is | inr rest ↦ elim rest [ inl is ↦ four is | inr is ↦ seven is ] ]
    ]

-- nor is the status of a text that was not written
one_of : (status result : ℕ) → status ≢ 2 → status ≢ 3 → status ≢ 4 → status ≢ 7 → IsOrUnwritten status result → IsRefusalStatus result → ⊥
one_of status result two three four seven which refused =
    elim which [
      | inl is ↦ not_refused status two three four seven (subst IsRefusalStatus is refused)
      | inr unwritten ↦ elim unwritten [
        | inl is ↦ not_refused 5 (λ h. omega (arith, h)) (λ h. omega (arith, h)) (λ h. omega (arith, h)) (λ h. omega (arith, h)) (subst IsRefusalStatus is refused)
        | inr is ↦ not_refused 6 (λ h. omega (arith, h)) (λ h. omega (arith, h)) (λ h. omega (arith, h)) (λ h. omega (arith, h)) (subst IsRefusalStatus is refused)
      ]
    ]

-- a report comes with no status of a refused run
pub report_is_no_refusal : (result : ℕ) → IsOrUnwritten 0 result → IsRefusalStatus result → ⊥
report_is_no_refusal result which =
    one_of 0 result (λ h. omega (arith, h)) (λ h. omega (arith, h)) (λ h. omega (arith, h)) (λ h. omega (arith, h)) which

-- a run that ends with the status of a refused run was refused before it took a slot
pub early_stop : (stop : RunStop) (result : ℕ) → IsOrUnwritten (status_of stop) result → IsRefusalStatus result → is_early stop ≡ true
early_stop Words result which refused = refl
early_stop (Scenario bad) result which refused = refl
early_stop Read result which refused = refl
early_stop Long result which refused = refl
early_stop Memory result which refused =
    absurd (one_of 6 result (λ h. omega (arith, h)) (λ h. omega (arith, h)) (λ h. omega (arith, h)) (λ h. omega (arith, h)) which refused)
early_stop Rack result which refused =
    absurd (one_of 8 result (λ h. omega (arith, h)) (λ h. omega (arith, h)) (λ h. omega (arith, h)) (λ h. omega (arith, h)) which refused)
