-- A value that is read from the front of a text, and the line at which no value's text goes on.
use Rattle.std.specs.Prelude.{◌≡◌, ℕ, true, List, ◌∷◌, ◌++◌, length}
use Rattle.report_reader.specs.Lines.{lacks}
use Rattle.report_blocks.specs.declared.stop.Stop.{Stop}
use Rattle.report_blocks.specs.declared.stop.Stop.TheVariants as stop

module _ {A : Type 0} where
  -- the text of a value that fits begins with this front
  pub record Begins (Fits : A → Type 0) (print : A → List ℕ) (front : List ℕ) : Type 0 where
    pub value : A
    pub fits : Fits value
    pub more : List ℕ
    pub is : print value ≡ front ++ more

  -- the text is that of this value, which fits, and the rest
  pub record IsRead (Fits : A → Type 0) (print : A → List ℕ) (text : List ℕ) (value : A) (rest : List ℕ) : Type 0 where
    pub fits : Fits value
    pub is : text ≡ print value ++ rest

  -- The text does not begin with that of a value. What stands before its last `left` bytes begins one, and no value's text
  -- goes on with the line that comes next.
  pub record StopsAt (Fits : A → Type 0) (print : A → List ℕ) (text : List ℕ) (left : ℕ) : Type 0 where
    pub front : List ℕ
    pub tail : List ℕ
    pub parts : text ≡ front ++ tail
    pub size : left ≡ length tail
    pub begun : Begins Fits print front
    pub none : (a : A) → Fits a → (rest : List ℕ) → text ≡ print a ++ rest → ⊥
    pub line : (x y : List ℕ) → lacks 10 x ≡ true → tail ≡ x ++ 10 ∷ y → (a : A) → Fits a → (more : List ℕ) → print a ≡ front ++ (x ++ 10 ∷ more) → ⊥

  -- what a stop tells of the text; it may come of memory alone
  abbrev pub Stops : (A → Type 0) → (A → List ℕ) → List ℕ → Stop → Type 0
  Stops Fits print text stop.NoMemory = Unit {0}
  Stops Fits print text (stop.At left) = StopsAt Fits print text left

  -- The text is not that of a value. What stands before its last `left` bytes begins one, and no value's text goes on with the
  -- line that comes next.
  pub record FailsAt (Fits : A → Type 0) (print : A → List ℕ) (text : List ℕ) (left : ℕ) : Type 0 where
    pub front : List ℕ
    pub tail : List ℕ
    pub parts : text ≡ front ++ tail
    pub size : left ≡ length tail
    pub begun : Begins Fits print front
    pub none : (a : A) → Fits a → text ≡ print a → ⊥
    pub line : (x y : List ℕ) → lacks 10 x ≡ true → tail ≡ x ++ 10 ∷ y → (a : A) → Fits a → (more : List ℕ) → print a ≡ front ++ (x ++ 10 ∷ more) → ⊥

  -- what a stop tells of a text that is read to its end
  abbrev pub Fails : (A → Type 0) → (A → List ℕ) → List ℕ → Stop → Type 0
  Fails Fits print text stop.NoMemory = Unit {0}
  Fails Fits print text (stop.At left) = FailsAt Fits print text left
