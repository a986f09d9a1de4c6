-- The premises of the laws on a small run, and a log that has no line.
use Rattle.std.proofs.Common.{codes, ◌≡◌, ℕ, ◌<◌, List, [], ◌∷◌, refl, lit<, arith}
use Rattle.domains.specs.Level.{two_copies}
use Rattle.domains.specs.Place.{Place}
use Rattle.domains.specs.declared.group.Group.{Group}
use Rattle.board_history.specs.declared.entry.BoardEntry.{BoardEntry}
use Rattle.board_history.specs.declared.entry.Effect.TheVariants as effect
use Rattle.board_history.specs.declared.entry.Order.TheVariants as order
use Rattle.file_history.specs.declared.entry.FileEntry.{FileEntry}
use Rattle.file_history.specs.declared.entry.FileEvent.{FileEvent}
use Rattle.file_history.specs.declared.entry.FileEvent.TheVariants as event
use Rattle.file_history.specs.declared.entry.Refused.TheVariants as refused
use Rattle.scenario.specs.declared.scenario.Scenario.{Scenario}
use Rattle.report.specs.declared.logs.Logs.{Logs}
use Rattle.report_reader.specs.Fits.{FitLogs, FitsBy, FitsFileEntry, FitsGroup, FitsPlace}

abbrev scenario : Scenario
scenario = record { shape = record { nodes = 2; drives = 1; slots = 16; unit = 8 }; workers = 1; files = record { name = codes "a"; level = two_copies } ∷ []; actors = [] }

abbrev placed : ℕ → ℕ → Place
placed node slot = record { drive = record { node = node; drive = 1 }; slot = slot }

abbrev mirror : ℕ → Place → Place → Group
mirror generation a b = record { generation = generation; n = 1; m = 1; places = a ∷ b ∷ [] }

abbrev entry : ℕ → FileEvent → FileEntry
entry call event = record { by = record { actor = 1; call = call }; epoch = 1; event = event }

abbrev log : List FileEntry
log =
    entry 1 (event.Created (mirror 0 (placed 1 0) (placed 2 0)))
    ∷ entry 2 (event.Written 0 5 5 (record { old = []; new = mirror 1 (placed 2 1) (placed 1 1) ∷ []; inode = mirror 2 (placed 1 2) (placed 2 2) }))
    ∷ entry 4 (event.Refused (refused.WriteLost 8 1 (record { generation = 1; have = 0; need = 1 }))) ∷ []

abbrev orders : List BoardEntry
orders = record { by = record { actor = 1; call = 3 }; order = order.Fail (record { node = 2; drive = 1 }); effect = effect.Changed } ∷ []

abbrev logs : Logs
logs = record { scenario = scenario; board = orders; files = log ∷ [] }

fit_place : (node slot : ℕ) → node < 100 → slot < 100 → FitsPlace (placed node slot)
fit_place node slot a b = record { drive = record { node = omega arith; drive = lit< tt }; slot = omega arith }

fit_mirror : (generation : ℕ) (a b : Place) → generation < 100 → FitsPlace a → FitsPlace b → FitsGroup (mirror generation a b)
fit_mirror generation a b few fit_a fit_b = record { generation = omega arith; n = lit< tt; m = lit< tt; places = (fit_a, (fit_b, tt)) }

fit_by : (call : ℕ) → call < 100 → FitsBy (record { actor = 1; call = call })
fit_by call few = record { actor = lit< tt; call = omega arith }

fit : FitLogs logs
fit = record {
  board = (record { by = fit_by 3 (lit< tt); order = record { node = lit< tt; drive = lit< tt } }, tt);
  orders = lit< tt;
  files = (
    (9, lit< tt, refl),
    (
      lit< tt,
      (
        (
          record { by = fit_by 1 (lit< tt); epoch = lit< tt; event = fit_mirror 0 (placed 1 0) (placed 2 0) (lit< tt) (fit_place 1 0 (lit< tt) (lit< tt)) (fit_place 2 0 (lit< tt) (lit< tt)) },
          (
            record {
              by = fit_by 2 (lit< tt);
              epoch = lit< tt;
              event = (
                (lit< tt, lit< tt),
                (
                  lit< tt,
                  record {
                    old = tt;
                    new = (fit_mirror 1 (placed 2 1) (placed 1 1) (lit< tt) (fit_place 2 1 (lit< tt) (lit< tt)) (fit_place 1 1 (lit< tt) (lit< tt)), tt);
                    inode = fit_mirror 2 (placed 1 2) (placed 2 2) (lit< tt) (fit_place 1 2 (lit< tt) (lit< tt)) (fit_place 2 2 (lit< tt) (lit< tt));
                  },
                ),
              );
            },
            (record { by = fit_by 4 (lit< tt); epoch = lit< tt; event = ((lit< tt, lit< tt), record { generation = lit< tt; have = lit< tt; need = lit< tt }) }, tt),
          ),
        ),
        tt,
      ),
    ),
  );
}

-- what a job marks has no line
no_line : FitsFileEntry (entry 5 (event.Marked (record { number = 1 }) 3)) → ⊥
no_line h = h.event
