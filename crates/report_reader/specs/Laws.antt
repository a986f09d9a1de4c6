-- What the text of logs tells.
use Rattle.std.specs.Prelude.{◌≡◌, ℕ, List, ◌++◌}
use Rattle.scenario.specs.Canonical.{canonical_text}
use Rattle.scenario.specs.declared.scenario.Scenario.{Scenario}
use Rattle.report.specs.Printed.{printed}
use Rattle.report.specs.declared.logs.Logs.{Logs}
use Rattle.report_reader.specs.Fits.{FitLogs}

-- two logs of one scenario with the same text are the same
abbrev pub TextsTellLogs : Type 0
TextsTellLogs = (a b : Logs) → FitLogs a → FitLogs b → a.scenario ≡ b.scenario → printed a ≡ printed b → (a.board ≡ b.board) × (a.files ≡ b.files)

-- the first scenario is the second if a text begins with the canonical texts of both
abbrev pub CanonicalTextsTell : Scenario → Scenario → Type 0
CanonicalTextsTell s t = (rest more : List ℕ) → canonical_text s ++ rest ≡ canonical_text t ++ more → s ≡ t

-- two logs with the same text are the same, if canonical texts tell their scenarios
abbrev pub TextsTellAll : Type 0
TextsTellAll = (a b : Logs) → CanonicalTextsTell a.scenario b.scenario → FitLogs a → FitLogs b → printed a ≡ printed b → a ≡ b
